-- The laws of the memory in the form that `simp` uses: every side condition is a test that computes at written fields, a test that the caller hands over, or an
-- inequality among the variables, either way round. `simp mem` shows that a cell is as before; for a cell that was stored at,
-- `simp (mem, room_yes n s room, lt-ltb i n hi)` shows what it holds.
-- Assumes nothing.
use Prim.Native.Nat.{ℕ, ◌+◌, ◌*◌, ◌≤◌}
use native.Mathlib.Nat.{le_refl}
use mathlib.Core.Path.{◌≡◌, sym}
use mathlib.Core.Logic.{◌≢◌}
use mathlib.Core.Bool.{true, false}
use mathlib.Core.List.{List}
use mathlib.Core.Option.{Option, none}
use borrow.Author.Tests.{ltb-true, leb-true, eqb-false, le-leb}
use lib.Dec.{ltb, leb, eqb}
use lib.IntN.{ℤ}
use lib.ListN.{length}
use Rattle.cells.specs.View.{rd, up, Room, roomy, spare}
use Rattle.cells.specs.Links.{parent, hang}
use Rattle.cells.proofs.Slices.{at_wr_hit, at_wr_cell, at_wr_cell', length_wr}
use Rattle.cells.proofs.Fields.{rd_null, up_null, rd_up_long, rd_up_other, rd_up_column, rd_up_entry, length_up}
use Rattle.cells.proofs.Parents.{hang_null, parent_null, length_hang, parent_hang_long, parent_hang_other, rd_hang_other, rd_hang_gone, parent_up_other, parent_up_gone}

-- ---- room as a test

pub room_yes : (n : ℕ) (s : List ℤ) → Room n s → roomy n s ≡ true
unfolding roomy
room_yes n s h = le-leb (16 * n + 16) (length s) h.room

room_long : (n : ℕ) (s : List ℤ) → roomy n s ≡ true → 16 * n + 16 ≤ length s
unfolding roomy
room_long n s h = leb-true (16 * n + 16) (length s) h

module _ (n f : ℕ) (s : List ℤ) (i v : ℕ) where
  pub roomy_up : roomy n (up n f s i v) ≡ roomy n s
  unfolding roomy
  roomy_up = rw (length_up n f s i v)

  pub spare_up : spare n (up n f s i v) ≡ spare n s
  unfolding spare
  spare_up = rw (length_up n f s i v)

module _ (n : ℕ) (s : List ℤ) (i : ℕ) (p : Option ℕ) where
  pub roomy_hang : roomy n (hang n s i p) ≡ roomy n s
  unfolding roomy
  roomy_hang = rw (length_hang n s i p)

  pub spare_hang : spare n (hang n s i p) ≡ spare n s
  unfolding spare
  spare_hang = rw (length_hang n s i p)

-- ---- a number after a number

pub rd_up_hit : (n f : ℕ) (s : List ℤ) (i v : ℕ) → ltb f 15 ≡ true → roomy n s ≡ true → ltb i n ≡ true → rd n f (up n f s i v) i ≡ v
rd_up_hit n f s i v hf hr hi = rd_up_long n f s i v (ltb-true f 15 hf) (room_long n s hr) (ltb-true i n hi)

pub column_hit : (n : ℕ) (s : List ℤ) (i v : ℕ) → roomy n s ≡ true → leb i n ≡ true → rd n 15 (up n 15 s i v) i ≡ v
column_hit n s i v hr hi = rd_up_column n s i v (room_long n s hr) (leb-true i n hi)

pub entry_hit : (n : ℕ) (s : List ℤ) (i v : ℕ) → ltb i (spare n s) ≡ true → rd n 16 (up n 16 s i v) i ≡ v
entry_hit n s i v h = rd_up_entry n s i v (ltb-true i (spare n s) h)

module _ (n f g : ℕ) (s : List ℤ) (i v j : ℕ) where
  pub rd_up_field : eqb f g ≡ false → rd n g (up n f s i v) j ≡ rd n g s j
  rd_up_field t = rd_up_other n f s i v g j (λ e _. eqb-false f g t e)

  pub rd_up_cell : i ≢ j → rd n g (up n f s i v) j ≡ rd n g s j
  rd_up_cell d = rd_up_other n f s i v g j (λ _ e. d e)

  pub rd_up_cell' : j ≢ i → rd n g (up n f s i v) j ≡ rd n g s j
  rd_up_cell' d = rd_up_other n f s i v g j (λ _ e. d (sym e))

-- ---- with parents

module _ (n g : ℕ) (s : List ℤ) (i : ℕ) (p : Option ℕ) (j : ℕ) where
  pub rd_hang_field : eqb 0 g ≡ false → rd n g (hang n s i p) j ≡ rd n g s j
  rd_hang_field t = rd_hang_other n s i p g j (λ e _. eqb-false 0 g t e)

  pub rd_hang_cell : i ≢ j → rd n g (hang n s i p) j ≡ rd n g s j
  rd_hang_cell d = rd_hang_other n s i p g j (λ _ e. d e)

  pub rd_hang_cell' : j ≢ i → rd n g (hang n s i p) j ≡ rd n g s j
  rd_hang_cell' d = rd_hang_other n s i p g j (λ _ e. d (sym e))

module _ (n f : ℕ) (s : List ℤ) (i v j : ℕ) where
  pub parent_up_field : eqb f 0 ≡ false → parent n (up n f s i v) j ≡ parent n s j
  parent_up_field t = parent_up_other n f s i v j (λ e _. eqb-false f 0 t e)

  pub parent_up_cell : i ≢ j → parent n (up n f s i v) j ≡ parent n s j
  parent_up_cell d = parent_up_other n f s i v j (λ _ e. d e)

  pub parent_up_cell' : j ≢ i → parent n (up n f s i v) j ≡ parent n s j
  parent_up_cell' d = parent_up_other n f s i v j (λ _ e. d (sym e))

module _ (n : ℕ) (s : List ℤ) (i : ℕ) (p : Option ℕ) where
  pub parent_hang_hit : roomy n s ≡ true → ltb i n ≡ true → parent n (hang n s i p) i ≡ p
  parent_hang_hit hr hi = parent_hang_long n s i p (room_long n s hr) (ltb-true i n hi)

  pub parent_hang_cell : (j : ℕ) → i ≢ j → parent n (hang n s i p) j ≡ parent n s j
  parent_hang_cell j d = parent_hang_other n s i p j d

  pub parent_hang_cell' : (j : ℕ) → j ≢ i → parent n (hang n s i p) j ≡ parent n s j
  parent_hang_cell' j d = parent_hang_other n s i p j (λ e. d (sym e))

-- ---- the null link, and what lies past it

pub up_at_null : (n f : ℕ) (s : List ℤ) (v : ℕ) → ltb f 15 ≡ true → up n f s n v ≡ s
up_at_null n f s v h = up_null n f s n v (ltb-true f 15 h) (le_refl n)

pub rd_at_null : (n f : ℕ) (s : List ℤ) → ltb f 15 ≡ true → rd n f s n ≡ 0
rd_at_null n f s h = rd_null n f s n (ltb-true f 15 h) (le_refl n)

pub hang_at_null : (n : ℕ) (s : List ℤ) (p : Option ℕ) → hang n s n p ≡ s
hang_at_null n s p = hang_null n s n p (le_refl n)

pub parent_at_null : (n : ℕ) (s : List ℤ) → parent n s n ≡ none
parent_at_null n s = parent_null n s n (le_refl n)

module _ (n f : ℕ) (s : List ℤ) (i v : ℕ) where
  pub up_past : ltb f 15 ≡ true → leb n i ≡ true → up n f s i v ≡ s
  up_past h k = up_null n f s i v (ltb-true f 15 h) (leb-true n i k)

  pub rd_past : ltb f 15 ≡ true → leb n i ≡ true → rd n f s i ≡ 0
  rd_past h k = rd_null n f s i (ltb-true f 15 h) (leb-true n i k)

module _ (n : ℕ) (s : List ℤ) (i : ℕ) (p : Option ℕ) where
  pub hang_past : leb n i ≡ true → hang n s i p ≡ s
  hang_past k = hang_null n s i p (leb-true n i k)

  pub parent_past : leb n i ≡ true → parent n s i ≡ none
  parent_past k = parent_null n s i (leb-true n i k)

-- what a read after stores gives
pub ruleset mem = (
  up_at_null,
  rd_at_null,
  hang_at_null,
  parent_at_null,
  rd_up_hit,
  column_hit,
  entry_hit,
  rd_up_field,
  rd_up_cell,
  rd_up_cell',
  rd_hang_gone,
  rd_hang_field,
  rd_hang_cell,
  rd_hang_cell',
  parent_hang_hit,
  parent_hang_cell,
  parent_hang_cell',
  parent_up_gone,
  parent_up_field,
  parent_up_cell,
  parent_up_cell',
  at_wr_hit,
  at_wr_cell,
  at_wr_cell',
  length_wr,
  length_up,
  length_hang,
  roomy_up,
  roomy_hang,
  spare_up,
  spare_hang,
  up_past,
  rd_past,
  hang_past,
  parent_past,
)
