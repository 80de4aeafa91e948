-- Fields in the cells as the code counts them: what a read finds is not negative, and a store keeps the room.
-- Assumes nothing.
use Prim.Native.Nat.{ℕ, ◌+◌, ◌*◌, ◌<◌, ◌≤◌}
use native.Mathlib.Omega.{arith}
use mathlib.Core.Path.{◌≡◌}
use mathlib.Core.Bool.{true, false}
use mathlib.Core.List.{List}
use lib.IntN.{ℤ}
use Rattle.cells.specs.View.{wr, place, within, negative, Room}
use Rattle.cells.proofs.Fields.{place_table, place_entry, within_node, within_column, within_entry, up_in, room_up}

-- ---- reads

module _ (n : ℕ) (s : List ℤ) (i : ℕ) (h : Room n s) where
  pub field_calm : (f : ℕ) → 0 < f → f < 15 → i < n → negative s (place n f i) ≡ false
  field_calm f z hf hi = h.calm f i z (within_node n f i hf hi)

  pub column_calm : i ≤ n → negative s (15 * n + i) ≡ false
  column_calm hi = rw (place_table n 15 i (omega arith) (omega arith)) at (h.calm 15 i (omega arith) (within_column n i hi))

  pub entry_calm : negative s (16 * n + 16 + i) ≡ false
  entry_calm = rw (place_entry n i) at (h.calm 16 i (omega arith) (within_entry n i))

-- ---- stores

module _ (n : ℕ) (s : List ℤ) (i v : ℕ) (t : List ℤ) where
  room_stored : (f : ℕ) → t ≡ wr s (place n f i) v → within n f i ≡ true → Room n s → Room n t
  room_stored f e w h = rw (e, ← up_in n f s i v w) (room_up n f s i v h)

  pub room_field : (f p : ℕ) → t ≡ wr s p v → p ≡ place n f i → f < 15 → i < n → Room n s → Room n t
  room_field f p e k hf hi h = room_stored f (rw k at e) (within_node n f i hf hi) h

  pub room_column : t ≡ wr s (15 * n + i) v → i ≤ n → Room n s → Room n t
  room_column e hi h = room_stored 15 (rw (← place_table n 15 i (omega arith) (omega arith)) at e) (within_column n i hi) h

  pub room_entry : t ≡ wr s (16 * n + 16 + i) v → Room n s → Room n t
  room_entry e h = room_stored 16 (rw (← place_entry n i) at e) (within_entry n i) h
