-- The laws of rows in the list space: what a cell holds is a row, a row that is stored leaves rows, and a part that is there is there whole.
-- Assumes nothing.
use Prim.Native.Nat.{ℕ, zero, suc, ◌+◌, ◌-◌, ◌<◌, ◌≤◌, min}
use native.Mathlib.Omega.{arith}
use mathlib.Core.Path.{◌≡◌}
use mathlib.Core.Logic.{◌≢◌, ◌⊎◌, inl, inr}
use mathlib.Core.Bool.{true, false, false≢true}
use mathlib.Core.List.{List}
use borrow.Author.Tests.{ltb-true, lt-ltb, le-ltb}
use lib.IntN.{ℤ, pos, negsuc}
use lib.Signed.{lt_z}
use lib.ListN.{length, get_or, replicate}
use lib.Seq.{get_or-set_same, get_or-set_other}
use Rattle.plain.specs.Turns.{times, Turned}
use Rattle.plain.proofs.Turns.{finish}
use Rattle.cells.specs.View.{nat, at, wr, negative}
use Rattle.cells.specs.Rows.{is_row, Rows, clipped}
use Rattle.cells.proofs.Slices.{split, same?, at_out, wr_out, length_wr}

row_low : (n : ℕ) (z : ℤ) → is_row n z ≡ true → (nat z < n) × (lt_z z (pos 0) ≡ false)
row_low n (pos k) e = (ltb-true k n e, le-ltb k 0 (omega arith))
row_low n (negsuc k) e = absurd (false≢true e)

-- ---- a cell that is there

module _ (n : ℕ) (l : List ℤ) (h : Rows n l) where
  pub rows_low : (q : ℕ) → q < length l → at l q < n
  unfolding at
  rows_low q b = (row_low n (get_or l q (pos 0)) (h.low q b)).0

  pub rows_calm : (q : ℕ) → q < length l → negative l q ≡ false
  unfolding negative
  rows_calm q b = (row_low n (get_or l q (pos 0)) (h.low q b)).1

  -- a row that is stored
  wr_by : (q v : ℕ) → v < n → (j : ℕ) → j < length l → (j ≡ q) ⊎ (j ≢ q) → is_row n (get_or (wr l q v) j (pos 0)) ≡ true
  unfolding wr
  wr_by q v s j b (inl e) = rw (e, get_or-set_same l q (pos v) (pos 0) (rw e at b)) (lt-ltb v n s)
  wr_by q v s j b (inr d) = rw (get_or-set_other l q j (pos v) (pos 0) d) (h.low j b)

  pub rows_wr : (q v : ℕ) → v < n → Rows n (wr l q v)
  rows_wr q v s = record { low = λ j b. wr_by q v s j (omega (arith, length_wr l q v)) (same? j q) }

  -- a row that is copied: past the end there is none, and so no cell to copy it to either, or row 0
  copy_by : (p e : ℕ) → (e < length l) ⊎ (length l ≤ e) → (p < length l) ⊎ (length l ≤ p) → Rows n (wr l e (at l p))
  copy_by p e (inr b) a = rw (wr_out l e (at l p) b) h
  copy_by p e (inl b) (inl a) = rows_wr e (at l p) (rows_low p a)
  copy_by p e (inl b) (inr a) = rows_wr e (at l p) (rw (at_out l p a) (omega (arith, rows_low e b)))

  pub rows_copy : (p e : ℕ) → Rows n (wr l e (at l p))
  rows_copy p e = copy_by p e (split e (length l)) (split p (length l))

-- ---- a part

-- where an empty part lies says nothing
pub clipped_part : (size p k : ℕ) → (0 < k → p + k ≤ size) → clipped size p k ≡ k
unfolding clipped
clipped_part size p k h = go (split 0 k)
  where
    go : (0 < k) ⊎ (k ≤ 0) → min k (size - p) ≡ k
    go (inl a) = omega (arith, h a)
    go (inr a) = omega arith

-- a loop over the cells of a part that are there
pub clipped_finish : {X : Type 0} (f : ℕ → X → X) (s : X) (t : ℕ) (x : X) → Turned f s t x → (size p k m : ℕ) → m ≡ clipped size p k → t ≤ m → m ≤ t
    → x ≡ times (clipped size p k) f s
clipped_finish f s t x h size p k m e a b = finish f s t x h (clipped size p k) (omega arith) (omega arith)

-- ---- a slice that was cleared holds row 0 everywhere

cleared_row : (n : ℕ) → 0 < n → (k q : ℕ) → is_row n (get_or (replicate k (pos 0)) q (pos 0)) ≡ true
cleared_row n z zero q = lt-ltb 0 n z
cleared_row n z (suc k) zero = lt-ltb 0 n z
cleared_row n z (suc k) (suc q) = cleared_row n z k q

pub rows_cleared : (n k : ℕ) → 0 < n → Rows n (replicate k (pos 0))
rows_cleared n k z = record { low = λ q b. cleared_row n z k q }
