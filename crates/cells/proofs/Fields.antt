-- The laws of `rd` and `up`: no two fields, and no two places of a field, share a cell.
-- Assumes nothing.
use Prim.Native.Nat.{ℕ, suc, ◌+◌, ◌*◌, ◌<◌, ◌≤◌}
use native.Mathlib.Nat.{mul-le-mul_right}
use native.Mathlib.Omega.{arith}
use mathlib.Core.Path.{◌≡◌, refl, sym, ap, ◌∙◌}
use mathlib.Core.Logic.{◌≢◌, ◌⊎◌, inl, inr}
use mathlib.Core.Bool.{Bool, true, false, cond}
use mathlib.Core.List.{List}
use borrow.Author.Tests.{ltb-true, leb-true, eqb-true, lt-ltb, le-ltb, le-leb, lt-leb, eq-eqb, ne_eqb}
use lib.Dec.{ltb, leb, eqb}
use lib.IntN.{ℤ, pos}
use lib.ListN.{length, replicate, length-replicate}
use Rattle.cells.specs.View.{at, wr, place, within, rd, up, negative, Room, spare}
use Rattle.cells.proofs.Slices.{split, same?, calm_wr, calm_cleared, at_wr_same, at_wr_other, length_wr, wr_wr, wr_comm}

-- ---- where a field's cells are

pub place_hot : (n f i : ℕ) → f < 8 → place n f i ≡ 8 * i + f
unfolding place
place_hot n f i h = rw (lt-ltb f 8 h)

pub place_table : (n f i : ℕ) → 8 ≤ f → f < 16 → place n f i ≡ f * n + i
unfolding place
place_table n f i h k = rw (le-ltb f 8 h, lt-ltb f 16 k)

pub place_entry : (n i : ℕ) → place n 16 i ≡ 16 * n + 16 + i
unfolding place
place_entry n i = refl

pub within_node : (n f i : ℕ) → f < 15 → i < n → within n f i ≡ true
unfolding within
within_node n f i h k = rw (lt-ltb f 15 h) (lt-ltb i n k)

pub within_not : (n f i : ℕ) → f < 15 → n ≤ i → within n f i ≡ false
unfolding within
within_not n f i h k = rw (lt-ltb f 15 h) (le-ltb i n k)

pub within_column : (n i : ℕ) → i ≤ n → within n 15 i ≡ true
unfolding within
within_column n i h = le-leb i n h

pub within_columns_not : (n i : ℕ) → n < i → within n 15 i ≡ false
unfolding within
within_columns_not n i h = lt-leb i n h

pub within_entry : (n i : ℕ) → within n 16 i ≡ true
unfolding within
within_entry n i = refl

-- the four ways to have a cell: a node's field, a table, the last pointer, a row
data Spot (n f i p : ℕ) : Type 0 where
  hot : f < 8 → i < n → p ≡ 8 * i + f → Spot n f i p
  tabled : 8 ≤ f → f < 16 → i < n → p ≡ f * n + i → Spot n f i p
  last : f ≡ 15 → i ≡ n → p ≡ 16 * n → Spot n f i p
  entry : f ≡ 16 → p ≡ 16 * n + 16 + i → Spot n f i p

behind : (n f i : ℕ) → 15 ≤ f → within n f i ≡ cond (eqb f 15) (leb i n) (eqb f 16)
unfolding within
behind n f i h = rw (le-ltb f 15 h)

front : (n f i : ℕ) → f < 15 → within n f i ≡ ltb i n
unfolding within
front n f i h = rw (lt-ltb f 15 h)

below : (n f i : ℕ) → f < 15 → i < n → (f < 8) ⊎ (8 ≤ f) → Spot n f i (place n f i)
below n f i h k (inl a) = hot a k (place_hot n f i a)
below n f i h k (inr a) = tabled a (omega arith) k (place_table n f i a (omega arith))

pointer : (n f i : ℕ) → f ≡ 15 → i ≤ n → (i < n) ⊎ (n ≤ i) → Spot n f i (place n f i)
pointer n f i h k (inl a) = tabled (omega arith) (omega arith) a (place_table n f i (omega arith) (omega arith))
pointer n f i h k (inr a) =
    last h (omega arith) (rw h (place_table n 15 i (omega arith) (omega arith) ∙ omega arith))

row : (n f i : ℕ) → f ≡ 16 → Spot n f i (place n f i)
row n f i h = entry h (rw h (place_entry n i))

spot_behind : (n f i : ℕ) → 15 ≤ f → cond (eqb f 15) (leb i n) (eqb f 16) ≡ true → (f ≡ 15) ⊎ (f ≢ 15) → Spot n f i (place n f i)
spot_behind n f i h w (inl e) = pointer n f i e (leb-true i n (rw (eq-eqb f 15 e) at w)) (split i n)
spot_behind n f i h w (inr e) = row n f i (eqb-true f 16 (rw (ne_eqb f 15 e) at w))

spot_by : (n f i : ℕ) → within n f i ≡ true → (f < 15) ⊎ (15 ≤ f) → Spot n f i (place n f i)
spot_by n f i w (inl h) = below n f i h (ltb-true i n (sym (front n f i h) ∙ w)) (split f 8)
spot_by n f i w (inr h) = spot_behind n f i h (sym (behind n f i h) ∙ w) (same? f 15)

spot : (n f i : ℕ) → within n f i ≡ true → Spot n f i (place n f i)
spot n f i w = spot_by n f i w (split f 15)

-- ---- two of them

pub table_end : (n f i : ℕ) → f < 16 → i < n → f * n + i < 16 * n
table_end n f i hf hi =
    let m : suc f * n ≤ 16 * n = mul-le-mul_right n hf in
    omega arith

table_start : (n f : ℕ) → 8 ≤ f → 8 * n ≤ f * n
table_start n f h = mul-le-mul_right n h

tables_apart : (n f g i j : ℕ) → i < n → f < g → f * n + i < g * n + j
tables_apart n f g i j hi h =
    let m : suc f * n ≤ g * n = mul-le-mul_right n h in
    omega arith

-- a node's cell, and where tables begin
hot_end : (n f i : ℕ) → f < 8 → i < n → 8 * i + f < 8 * n
hot_end n f i hf hi = omega arith

tables_differ : (n f g i j : ℕ) → i < n → j < n → (f ≡ g → i ≡ j → ⊥) → (f < g) ⊎ (g ≤ f) → (g < f) ⊎ (f ≤ g) → f * n + i ≡ g * n + j → ⊥
tables_differ n f g i j hi hj d (inl a) b e = omega (arith, tables_apart n f g i j hi a)
tables_differ n f g i j hi hj d (inr a) (inl b) e = omega (arith, tables_apart n g f j i hj b)
tables_differ n f g i j hi hj d (inr a) (inr b) e =
    let q : f ≡ g = omega arith in
    let m : f * n ≡ g * n = ap (λ (x : ℕ). x * n) q in
    d q (omega arith)

hots_differ : (f g i j : ℕ) → f < 8 → g < 8 → (f ≡ g → i ≡ j → ⊥) → 8 * i + f ≡ 8 * j + g → ⊥
hots_differ f g i j hf hg d e = d (omega arith) (omega arith)

spots_differ : (n f g i j p q : ℕ) → Spot n f i p → Spot n g j q → (f ≡ g → i ≡ j → ⊥) → p ≡ q → ⊥
spots_differ n f g i j p q (hot a b c) (hot x y z) d e = hots_differ f g i j a x d (sym c ∙ e ∙ z)
spots_differ n f g i j p q (hot a b c) (tabled x y z w) d e = omega (arith, hot_end n f i a b, table_start n g x)
spots_differ n f g i j p q (hot a b c) (last x y z) d e = omega (arith, hot_end n f i a b)
spots_differ n f g i j p q (hot a b c) (entry x z) d e = omega (arith, hot_end n f i a b)
spots_differ n f g i j p q (tabled x y z w) (hot a b c) d e = omega (arith, hot_end n g j a b, table_start n f x)
spots_differ n f g i j p q (tabled a b h c) (tabled x y z w) d e =
    tables_differ n f g i j h z d (split f g) (split g f) (sym c ∙ e ∙ w)
spots_differ n f g i j p q (tabled a b h c) (last x y z) d e = omega (arith, table_end n f i b h)
spots_differ n f g i j p q (tabled a b h c) (entry x z) d e = omega (arith, table_end n f i b h)
spots_differ n f g i j p q (last x y z) (hot a b c) d e = omega (arith, hot_end n g j a b)
spots_differ n f g i j p q (last x y z) (tabled a b h c) d e = omega (arith, table_end n g j b h)
spots_differ n f g i j p q (last a b c) (last x y z) d e = d (omega arith) (omega arith)
spots_differ n f g i j p q (last a b c) (entry x z) d e = omega arith
spots_differ n f g i j p q (entry x z) (hot a b c) d e = omega (arith, hot_end n g j a b)
spots_differ n f g i j p q (entry x z) (tabled a b h c) d e = omega (arith, table_end n g j b h)
spots_differ n f g i j p q (entry x z) (last a b c) d e = omega arith
spots_differ n f g i j p q (entry x z) (entry a c) d e = d (omega arith) (omega arith)

pub places_differ : (n f g i j : ℕ) → within n f i ≡ true → within n g j ≡ true → (f ≡ g → i ≡ j → ⊥) → place n g j ≢ place n f i
places_differ n f g i j hf hg d e = spots_differ n f g i j (place n f i) (place n g j) (spot n f i hf) (spot n g j hg) d (sym e)

inside_spot : (n f i p l : ℕ) → 16 * n + 16 ≤ l → f ≢ 16 → Spot n f i p → p < l
inside_spot n f i p l h d (hot a b c) = omega (arith, hot_end n f i a b)
inside_spot n f i p l h d (tabled a b x c) = omega (arith, table_end n f i b x)
inside_spot n f i p l h d (last x y z) = omega arith
inside_spot n f i p l h d (entry x z) = absurd (d x)

-- every field but the rows lies inside
pub inside : (n f i l : ℕ) → 16 * n + 16 ≤ l → f ≢ 16 → within n f i ≡ true → place n f i < l
inside n f i l h d w = inside_spot n f i (place n f i) l h d (spot n f i w)

pub inside_entry : (n i : ℕ) (s : List ℤ) → i < spare n s → place n 16 i < length s
unfolding spare
inside_entry n i s h = rw (place_entry n i) (omega arith)

-- ---- a read and a store, inside and outside

module _ (n f : ℕ) (s : List ℤ) (i v : ℕ) where
  pub up_in : within n f i ≡ true → up n f s i v ≡ wr s (place n f i) v
  unfolding up
  up_in h = rw h

  pub up_out : within n f i ≡ false → up n f s i v ≡ s
  unfolding up
  up_out h = rw h

  up_len : (w : Bool) → within n f i ≡ w → length (up n f s i v) ≡ length s
  up_len true h = rw (up_in h) (length_wr s (place n f i) v)
  up_len false h = rw (up_out h)

  pub length_up : length (up n f s i v) ≡ length s
  length_up = up_len (within n f i) refl

  up_calm : (w : Bool) → within n f i ≡ w → (q : ℕ) → negative s q ≡ false → negative (up n f s i v) q ≡ false
  up_calm true h q k = rw (up_in h) (calm_wr s (place n f i) v q k)
  up_calm false h q k = rw (up_out h) k

  pub room_up : Room n s → Room n (up n f s i v)
  room_up h = record { room = omega (arith, h.room, length_up); calm = λ g j a w. up_calm (within n f i) refl (place n g j) (h.calm g j a w) }

-- a slice that was cleared, and is long enough, is a room
pub room_cleared : (n k : ℕ) → 16 * n + 16 ≤ k → Room n (replicate k (pos 0))
room_cleared n k h = record { room = omega (arith, length-replicate k (pos 0)); calm = λ f i a w. calm_cleared k (place n f i) }

pub rd_in : (n f : ℕ) (s : List ℤ) (i : ℕ) → within n f i ≡ true → rd n f s i ≡ at s (place n f i)
unfolding rd
rd_in n f s i h = rw h

pub rd_out : (n f : ℕ) (s : List ℤ) (i : ℕ) → within n f i ≡ false → rd n f s i ≡ 0
unfolding rd
rd_out n f s i h = rw h

-- ---- the null link: a node's field and a table have nothing at n or above

pub rd_null : (n f : ℕ) (s : List ℤ) (i : ℕ) → f < 15 → n ≤ i → rd n f s i ≡ 0
rd_null n f s i h k = rd_out n f s i (within_not n f i h k)

pub up_null : (n f : ℕ) (s : List ℤ) (i v : ℕ) → f < 15 → n ≤ i → up n f s i v ≡ s
up_null n f s i v h k = up_out n f s i v (within_not n f i h k)

-- ---- a read after a store

module _ (n f : ℕ) (s : List ℤ) (i v : ℕ) where
  stored : within n f i ≡ true → place n f i < length s → rd n f (up n f s i v) i ≡ v
  stored w h = rw (rd_in n f (up n f s i v) i w, up_in n f s i v w) (at_wr_same s (place n f i) v h)

  pub rd_up_long : f < 15 → 16 * n + 16 ≤ length s → i < n → rd n f (up n f s i v) i ≡ v
  rd_up_long hf hr hi =
      let w = within_node n f i hf hi in
      stored w (inside n f i (length s) hr (omega arith) w)

  pub rd_up_same : f < 15 → Room n s → i < n → rd n f (up n f s i v) i ≡ v
  rd_up_same hf hr hi = rd_up_long hf hr.room hi

  other_by : (g j : ℕ) → (f ≡ g → i ≡ j → ⊥) → (a b : Bool) → within n f i ≡ a → within n g j ≡ b
      → rd n g (up n f s i v) j ≡ rd n g s j
  other_by g j d false b ha hb = rw (up_out n f s i v ha)
  other_by g j d true false ha hb = rd_out n g (up n f s i v) j hb ∙ sym (rd_out n g s j hb)
  other_by g j d true true ha hb =
      rw (rd_in n g (up n f s i v) j hb, rd_in n g s j hb, up_in n f s i v ha)
      (at_wr_other s (place n f i) v (place n g j) (places_differ n f g i j ha hb d))

  pub rd_up_other : (g j : ℕ) → (f ≡ g → i ≡ j → ⊥) → rd n g (up n f s i v) j ≡ rd n g s j
  rd_up_other g j d = other_by g j d (within n f i) (within n g j) refl refl

pub rd_up_column : (n : ℕ) (s : List ℤ) (i v : ℕ) → 16 * n + 16 ≤ length s → i ≤ n → rd n 15 (up n 15 s i v) i ≡ v
rd_up_column n s i v hr hi =
    let w = within_column n i hi in
    stored n 15 s i v w (inside n 15 i (length s) hr (omega arith) w)

pub rd_up_entry : (n : ℕ) (s : List ℤ) (i v : ℕ) → i < spare n s → rd n 16 (up n 16 s i v) i ≡ v
rd_up_entry n s i v h = stored n 16 s i v (within_entry n i) (inside_entry n i s h)

-- ---- two stores

module _ (n f : ℕ) (s : List ℤ) (i a b : ℕ) where
  twice : (w : Bool) → within n f i ≡ w → up n f (up n f s i a) i b ≡ up n f s i b
  twice true h = rw (up_in n f (up n f s i a) i b h, up_in n f s i a h, up_in n f s i b h) (wr_wr s (place n f i) a b)
  twice false h = rw (up_out n f (up n f s i a) i b h, up_out n f s i a h, up_out n f s i b h)

  pub up_up : up n f (up n f s i a) i b ≡ up n f s i b
  up_up = twice (within n f i) refl

module _ (n f g : ℕ) (s : List ℤ) (i j a b : ℕ) (d : f ≡ g → i ≡ j → ⊥) where
  swap : (x y : Bool) → within n f i ≡ x → within n g j ≡ y → up n g (up n f s i a) j b ≡ up n f (up n g s j b) i a
  swap false y hx hy = rw (up_out n f s i a hx, up_out n f (up n g s j b) i a hx)
  swap true false hx hy = rw (up_out n g s j b hy, up_out n g (up n f s i a) j b hy)
  swap true true hx hy =
      rw (up_in n f (up n g s j b) i a hx, up_in n f s i a hx, up_in n g (wr s (place n f i) a) j b hy, up_in n g s j b hy)
      (wr_comm s (place n f i) (place n g j) a b (λ e. places_differ n f g i j hx hy d (sym e)))

  pub up_comm : up n g (up n f s i a) j b ≡ up n f (up n g s j b) i a
  up_comm = swap (within n f i) (within n g j) refl refl
