-- A list moved to the left, onto itself where the two parts meet.
-- Assumes nothing.
use Rattle.std.proofs.Common.{◌≡◌, ℕ, zero, suc, ◌+◌, ◌<◌, ◌≤◌, ◌⊎◌, List, length, ℤ, refl, ◌∙◌, inl, inr, ⊎_elim, arith}
use mathlib.Core.Path.{subst⁻¹}
use Rattle.plain.specs.Turns.{times}
use Rattle.cells.proofs.Slices.{at_wr_other, at_wr_same, length_wr, same?}
use Rattle.cells.specs.View.{at, wr}
use Rattle.packed.specs.Model.{copied}

-- m is l with the k numbers from p on also at e on
pub record Copied (l m : List ℤ) (p e k : ℕ) : Type 0 where
  pub moved : (t : ℕ) → t < k → at m (e + t) ≡ at l (p + t)
  pub rest : (q : ℕ) → (q < e) ⊎ (e + k ≤ q) → at m q ≡ at l q
  pub long : length m ≡ length l

one_more : (l m : List ℤ) (p e k : ℕ) → e ≤ p → e + suc k ≤ length l → Copied l m p e k → Copied l (wr m (e + k) (at m (p + k))) p e (suc k)
one_more l m p e k le b c =
    record {
      moved = λ t h. ⊎_elim
          (λ x. subst⁻¹ (λ (y : ℕ). at (wr m (e + k) (at m (p + k))) (e + y) ≡ at l (p + y)) x
          (at_wr_same m (e + k) (at m (p + k)) (omega (arith, c.long)) ∙ c.rest (p + k) (inr (omega arith))))
          (λ x. at_wr_other m (e + k) (at m (p + k)) (e + t) (λ y. x (omega arith)) ∙ c.moved t (omega (arith, x)))
          (same? t k);
      rest = λ q h. at_wr_other m (e + k) (at m (p + k)) q (⊎_elim (λ x. omega arith) (λ x. omega arith) h)
          ∙ c.rest q (⊎_elim (λ x. inl x) (λ x. inr (omega arith)) h);
      long = length_wr m (e + k) (at m (p + k)) ∙ c.long;
    }

pub copied_down : (l : List ℤ) (p e k : ℕ) → e ≤ p → e + k ≤ length l → Copied l (copied p e k l) p e k
unfolding copied times
copied_down l p e zero le b = record { moved = λ t h. absurd (omega arith); rest = λ q h. refl; long = refl }
copied_down l p e (suc k) le b = one_more l (copied p e k l) p e k le b (copied_down l p e k le (omega arith))

pub length_copied : (l : List ℤ) (p e k : ℕ) → length (copied p e k l) ≡ length l
unfolding copied times
length_copied l p e zero = refl
length_copied l p e (suc k) = length_wr (copied p e k l) (e + k) (at (copied p e k l) (p + k)) ∙ length_copied l p e k
