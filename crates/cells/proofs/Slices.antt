-- The laws of `at` and `wr`: what a cell holds after a store, and that a store keeps the length.
-- Assumes nothing.
use Prim.Native.Nat.{ℕ, zero, suc, ◌+◌, ◌<◌, ◌≤◌, ◌^◌}
use native.Mathlib.Omega.{arith}
use native.Mathlib.Decide.{dec_lt, ℕ_discrete}
use native.Mathlib.Nat.{mod-eq_of_lt}
use mathlib.Core.Path.{◌≡◌, refl, sym, ap, ◌∙◌}
use mathlib.Core.Logic.{◌≢◌, ◌⊎◌, inl, inr}
use mathlib.Core.Bool.{true, false}
use mathlib.Core.List.{List}
use borrow.Author.Tests.{ltb-true, lt-ltb, le-ltb}
use lib.Dec.{ltb}
use lib.IntN.{ℤ, pos}
use lib.Signed.{lt_z}
use lib.ListN.{length, get_or, replicate, length-set, get_or-eq_default}
use lib.Seq.{get_or-set_same, get_or-set_other, set_out, set_comm, set-set}
use Rattle.cells.specs.View.{nat, at, wr, negative, plus, wrapped}

-- ---- case splits for laws

pub split : (i n : ℕ) → (i < n) ⊎ (n ≤ i)
split i n = elim (dec_lt i n) [ yes h ↦ inl h | no h ↦ inr (omega arith) ]

pub same? : (i j : ℕ) → (i ≡ j) ⊎ (i ≢ j)
same? i j = elim (ℕ_discrete i j) [ yes h ↦ inl h | no h ↦ inr h ]

-- ---- one store

module _ (l : List ℤ) (i v : ℕ) where
  pub at_wr_same : i < length l → at (wr l i v) i ≡ v
  unfolding at wr
  at_wr_same h = ap nat (get_or-set_same l i (pos v) (pos 0) h)

  pub at_wr_other : (j : ℕ) → j ≢ i → at (wr l i v) j ≡ at l j
  unfolding at wr
  at_wr_other j h = ap nat (get_or-set_other l i j (pos v) (pos 0) h)

  pub length_wr : length (wr l i v) ≡ length l
  unfolding wr
  length_wr = length-set l i (pos v)

  -- past the end nothing is stored
  pub wr_out : length l ≤ i → wr l i v ≡ l
  unfolding wr
  wr_out h = set_out l i (pos v) h

-- past the end there is 0
pub at_out : (l : List ℤ) (i : ℕ) → length l ≤ i → at l i ≡ 0
unfolding at
at_out l i h = ap nat (get_or-eq_default l (pos 0) h)

-- ---- signs

not_below : (v : ℕ) → lt_z (pos v) (pos 0) ≡ false
not_below v = le-ltb v 0 (omega arith)

module _ (l : List ℤ) (i v j : ℕ) (k : negative l j ≡ false) where
  calm_by : (i < length l) ⊎ (length l ≤ i) → (j ≡ i) ⊎ (j ≢ i) → negative (wr l i v) j ≡ false
  unfolding wr negative
  calm_by (inl a) (inl e) = rw e (ap (λ (z : ℤ). lt_z z (pos 0)) (get_or-set_same l i (pos v) (pos 0) a) ∙ not_below v)
  calm_by (inr a) (inl e) = ap (λ (m : List ℤ). lt_z (get_or m j (pos 0)) (pos 0)) (set_out l i (pos v) a) ∙ k
  calm_by a (inr d) = ap (λ (z : ℤ). lt_z z (pos 0)) (get_or-set_other l i j (pos v) (pos 0) d) ∙ k

  -- a number that is stored makes nothing negative
  pub calm_wr : negative (wr l i v) j ≡ false
  calm_wr = calm_by (split i (length l)) (same? j i)

-- nothing is, where every cell is 0
pub calm_cleared : (k j : ℕ) → negative (replicate k (pos 0)) j ≡ false
unfolding negative
calm_cleared zero j = refl
calm_cleared (suc k) zero = refl
calm_cleared (suc k) (suc j) = calm_cleared k j

-- ---- two stores

pub wr_wr : (l : List ℤ) (i a b : ℕ) → wr (wr l i a) i b ≡ wr l i b
unfolding wr
wr_wr l i a b = set-set l i (pos a) (pos b)

pub wr_comm : (l : List ℤ) (i j a b : ℕ) → i ≢ j → wr (wr l i a) j b ≡ wr (wr l j b) i a
unfolding wr
wr_comm l i j a b h = set_comm l i j (pos a) (pos b) h

-- ---- for `simp`: the side condition is a test, or stands among the variables, either way round

pub at_wr_hit : (l : List ℤ) (i v : ℕ) → ltb i (length l) ≡ true → at (wr l i v) i ≡ v
at_wr_hit l i v h = at_wr_same l i v (ltb-true i (length l) h)

pub at_wr_cell : (l : List ℤ) (i v j : ℕ) → i ≢ j → at (wr l i v) j ≡ at l j
at_wr_cell l i v j h = at_wr_other l i v j (λ e. h (sym e))

pub at_wr_cell' : (l : List ℤ) (i v j : ℕ) → j ≢ i → at (wr l i v) j ≡ at l j
at_wr_cell' l i v j h = at_wr_other l i v j h

-- ---- capped sums

pub plus_sum : (a b : ℕ) → a + b < 2 ^ 63 → plus a b ≡ a + b
unfolding plus
plus_sum a b h = rw (lt-ltb (a + b) (2 ^ 63) h)

-- ---- sums of words

pub wrapped_sum : (a b : ℕ) → a + b < 2 ^ 63 → wrapped a b ≡ a + b
unfolding wrapped
wrapped_sum a b h = mod-eq_of_lt {m = 2 ^ 64} (omega arith)
