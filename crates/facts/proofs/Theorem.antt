-- Theorem A1: a step keeps the invariant, and the number of those gone rises; so a run of n steps ends with all gone.
-- Assumes nothing.
use Prim.Native.Nat.{ℕ, zero, suc, ◌+◌, ◌≤◌, ◌<◌}
use native.Mathlib.Omega.{arith}
use mathlib.Core.Path.{◌≡◌, refl}
use mathlib.Core.Bool.{Bool, true, false}
use lib.Dec.{ltb}
use borrow.Author.Tests.{ltb-true, ltb-false}
use Rattle.definition.specs.State.{State}
use Rattle.definition.specs.Pivot.{Found, nobody, found, pivot}
use Rattle.definition.specs.Elimination.{eliminate, step, run}
use Rattle.facts.proofs.Invariant.{var_weighs}
use Rattle.facts.proofs.Step.{stepped, gone_after}
use Rattle.facts.proofs.Preserved.{quotient_after}
use Rattle.facts.proofs.Count.{count_after}
use Rattle.facts.proofs.Pivots.{Pivoted, pivoted, some_pivot}
use Rattle.facts.proofs.Listed.{queued_after}
use Rattle.facts.proofs.Progress.{progress}
use Rattle.facts.specs.Invariant.{Inv}

module _ {n : ℕ} (key_of : ℕ → ℕ) (aggressive : Bool) where
  pub inv_eliminate : (s : State) → Inv n s → (p d : ℕ) → Pivoted s p d → Inv n (eliminate key_of n aggressive s p d)
  inv_eliminate s v p d pd =
      let st = stepped key_of n aggressive s p d v.graph pd.is_var in
      record {
        graph = quotient_after v.graph pd.is_var st;
        counted = omega (arith, count_after v.graph pd.is_var st, gone_after key_of n aggressive s p d v.graph pd.is_var, v.counted);
        queued = queued_after key_of aggressive s v p d pd;
      }

  -- A1
  pub inv_step : (s : State) → Inv n s → Inv n (step key_of n aggressive s (pivot s))
  unfolding step
  inv_step s v = go (pivot s) refl
    where
      go : (f : Found) → pivot s ≡ f → Inv n (step key_of n aggressive s f)
      go nobody e = v
      go (found p d) e = inv_eliminate s v p d (pivoted s v p d e)

  pub gone_rises : (s : State) → Inv n s → s.gone < n → s.gone < (step key_of n aggressive s (pivot s)).gone
  unfolding step
  gone_rises s v l = go (pivot s) refl
    where
      go : (f : Found) → pivot s ≡ f → s.gone < (step key_of n aggressive s f).gone
      go nobody e = absurd (some_pivot s v l e)
      go (found p d) e = progress key_of n aggressive s p d (var_weighs v.graph p (pivoted s v p d e).is_var)

  pub gone_most : (s : State) → Inv n s → s.gone ≤ n
  gone_most s v = omega (arith, v.counted)

  pub inv_run : (k : ℕ) (s : State) → Inv n s → Inv n (run key_of k n aggressive s)
  unfolding run
  inv_run zero s v = v
  inv_run (suc k) s v = go (ltb s.gone n) (inv_run k (step key_of n aggressive s (pivot s)) (inv_step s v))
    where
      go : (b : Bool) → Inv n (run key_of k n aggressive (step key_of n aggressive s (pivot s)))
          → Inv n (elim b [ true ↦ run key_of k n aggressive (step key_of n aggressive s (pivot s)) | false ↦ s ])
      go true r = r
      go false r = v

  -- with as many steps as there are variables left, all are gone
  pub run_ends : (k : ℕ) (s : State) → Inv n s → n ≤ s.gone + k → (run key_of k n aggressive s).gone ≡ n
  unfolding run
  run_ends zero s v l = omega (arith, gone_most s v)
  run_ends (suc k) s v l =
      go (ltb s.gone n) refl (λ h. run_ends k (step key_of n aggressive s (pivot s)) (inv_step s v) (omega (arith, gone_rises s v (ltb-true s.gone n h))))
    where
      go : (b : Bool) → ltb s.gone n ≡ b → (ltb s.gone n ≡ true → (run key_of k n aggressive (step key_of n aggressive s (pivot s))).gone ≡ n)
          → (elim b as (λ x. State) [ true ↦ run key_of k n aggressive (step key_of n aggressive s (pivot s)) | false ↦ s ]).gone ≡ n
      go true e r = r e
      go false e r = omega (arith, gone_most s v, ltb-false s.gone n e)
