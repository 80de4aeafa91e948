-- The sum of the first values of a function.
-- Assumes nothing.
use Rattle.std.proofs.Common.{◌≡◌, ℕ, zero, suc, ◌+◌, ◌<◌, ◌≤◌, ◌≢◌, sym, refl, ⊎_elim, arith}
use mathlib.Core.Path.{subst⁻¹}
use Rattle.plain.proofs.Members.{up_to_below}
use Rattle.plain.proofs.Sums.{total_members, total_up_to, total_zero}
use Rattle.plain.specs.Lists.{count_up, total, up_to}
use Rattle.cells.proofs.Slices.{same?}
use Rattle.packed.specs.Places.{sum_to}

pub sum_none : (F : ℕ → ℕ) → sum_to 0 F ≡ 0
unfolding total count_up
sum_none F = refl

pub sum_more : (k : ℕ) (F : ℕ → ℕ) → sum_to (suc k) F ≡ sum_to k F + F k
sum_more k F = total_up_to F k

pub sum_same : (k : ℕ) (F G : ℕ → ℕ) → ((i : ℕ) → i < k → G i ≡ F i) → sum_to k G ≡ sum_to k F
sum_same k F G h = total_members G F (up_to k) (λ i m. h i (up_to_below i k m))

pub sum_zero : (k : ℕ) (F : ℕ → ℕ) → ((i : ℕ) → i < k → F i ≡ 0) → sum_to k F ≡ 0
sum_zero k F h = total_zero F (up_to k) (λ i m. h i (up_to_below i k m))

-- one term changed
pub sum_change : (k : ℕ) (F G : ℕ → ℕ) (j : ℕ) → j < k → ((i : ℕ) → i ≢ j → G i ≡ F i) → sum_to k G + F j ≡ sum_to k F + G j
sum_change zero F G j b h = absurd (omega arith)
sum_change (suc k) F G j b h =
    ⊎_elim
    (λ e. let s = sum_same k F G (λ i a. h i (λ y. omega arith)) in subst⁻¹ (λ (y : ℕ). sum_to (suc k) G + F y ≡ sum_to (suc k) F + G y) e (omega (arith, sum_more k F, sum_more k G)))
    (λ e. omega (arith, sum_more k F, sum_more k G, sum_change k F G j (omega (arith, e)) h, h k (λ y. e (sym y))))
    (same? j k)

pub sum_apart : (k : ℕ) (F : ℕ → ℕ) (t : ℕ) → t < k → sum_to t F + F t ≤ sum_to k F
sum_apart zero F t h = absurd (omega arith)
sum_apart (suc k) F t h =
    ⊎_elim (λ e. subst⁻¹ (λ (y : ℕ). sum_to y F + F y ≤ sum_to (suc k) F) e (omega (arith, sum_more k F)))
    (λ e. omega (arith, sum_more k F, sum_apart k F t (omega (arith, e)))) (same? t k)
