-- The code's steps are the model's: one law for each way out of a function, its premises in the words of what was called.
-- Assumes nothing.
use Prim.Native.Nat.{ℕ, zero, suc, ◌+◌, ◌-◌, ◌<◌, ◌≤◌}
use native.Mathlib.Omega.{arith}
use mathlib.Core.Bool.{Bool}
use mathlib.Core.List.{List}
use mathlib.Core.Logic.{◌⊎◌, inl, inr}
use mathlib.Core.Path.{◌≡◌, refl}
use lib.IntN.{ℤ}
use Rattle.numbers.specs.Gains.{begun}
use Rattle.numbers.specs.Meaning.{statistics_meant}
use Rattle.numbers.specs.declared.Statistics.{Statistics}
use Rattle.cells.specs.View.{plus}
use Rattle.chain.specs.First.{First}
use Rattle.opening.specs.Start.{opened, setting}
use Rattle.opening.specs.declared.Aside.{Aside}
use Rattle.elimination.specs.declared.Turn.{Turn}
use Rattle.elimination.specs.declared.Work.{Work}
use Rattle.elimination.specs.Model.{closed, element_counted, first_turn, pivot_step, stage}
use Rattle.elimination.specs.Runs.{Ran, Turned, Whole}

-- ---- the loop

module _ (n : ℕ) (aggressive : Bool) (dense : ℕ) (l s : List ℤ) (w : Work) (me d : ℕ) (first : First n s w.turn.least me d) where
  pub turned_is : (l' s' : List ℤ) (t : Turn) (x : Statistics) → me < n → stage l' s' t ≡ pivot_step n me d aggressive w.turn l s
      → statistics_meant x ≡ element_counted n me dense s' (statistics_meant w.statistics) → Turned n aggressive dense l s w l' s' (record { turn = t; statistics = x })
  turned_is l' s' t x h e c = record { me = me; d = d; first = first; step = λ z. e; counts = λ z. c; nobody = λ z. absurd (omega arith) }

  pub turned_none : n ≤ me → Turned n aggressive dense l s w l s w
  turned_none h = record { me = me; d = d; first = first; step = λ z. absurd (omega arith); counts = λ z. absurd (omega arith); nobody = λ z. (refl, refl, refl) }

-- after c turns of k: whatever the rest does is what the whole does
pub record Running (n : ℕ) (aggressive : Bool) (dense k : ℕ) (l₀ s₀ : List ℤ) (w₀ : Work) (c : ℕ) (l s : List ℤ) (w : Work) : Type 0 where
  pub rest : (l' s' : List ℤ) (w' : Work) → Ran n aggressive dense (k - c) l s w l' s' w' → Ran n aggressive dense k l₀ s₀ w₀ l' s' w'

module _ (n : ℕ) (aggressive : Bool) (dense k : ℕ) (l₀ s₀ : List ℤ) (w₀ : Work) where
  pub run_start : Running n aggressive dense k l₀ s₀ w₀ 0 l₀ s₀ w₀
  run_start = record { rest = λ l' s' w' r. let z : k - 0 ≡ k = omega arith in rw z at r }

  module _ (c : ℕ) (l s : List ℤ) (w : Work) (h : Running n aggressive dense k l₀ s₀ w₀ c l s w) where
    pub run_more : c < k → w.turn.gone < n → (l₁ s₁ : List ℤ) (w₁ : Work) → Turned n aggressive dense l s w l₁ s₁ w₁
        → Running n aggressive dense k l₀ s₀ w₀ (c + 1) l₁ s₁ w₁
    run_more z g l₁ s₁ w₁ t =
        record {
          rest = λ l' s' w' r.
              let e : k - c ≡ suc (k - (c + 1)) = omega arith in
              h.rest l' s' w' (rw e (inr (g, (l₁, s₁, w₁, t, r))));
        }

    still_by : (todo : ℕ) → todo ≡ 0 ⊎ n ≤ w.turn.gone → Ran n aggressive dense todo l s w l s w
    still_by zero g = (refl, refl, refl)
    still_by (suc todo) (inl e) = absurd (omega (arith, e))
    still_by (suc todo) (inr g) = inl (g, refl, refl, refl)

    pub run_end : n ≤ w.turn.gone → Ran n aggressive dense k l₀ s₀ w₀ l s w
    run_end g = h.rest l s w (still_by (k - c) (inr g))

    pub run_out : k ≤ c → Ran n aggressive dense k l₀ s₀ w₀ l s w
    run_out z = h.rest l s w (still_by (k - c) (inl (omega arith)))

pub ruleset run_turns = (run_start, run_more, run_end, run_out)

-- ---- the whole

pub whole_is : (n limit free : ℕ) (aggressive : Bool) (l s s₁ : List ℤ) (a : Aside) (t : Turn) (x : Statistics) (l' s' : List ℤ) (w : Work) (y : Statistics)
    → setting s₁ a ≡ opened n limit s → t ≡ first_turn (plus a.roots a.dense) free → statistics_meant x ≡ begun a.dense
    → Ran n aggressive a.dense n l s₁ (record { turn = t; statistics = x }) l' s' w
    → statistics_meant y ≡ closed a.dense w.turn.collections (statistics_meant w.statistics)
    → Whole n limit free aggressive l s l' s' (record { statistics = y; merges = w.turn.merges })
whole_is n limit free aggressive l s s₁ a t x l' s' w y ho ht hx hr hy =
    record {
      first = record { turn = t; statistics = x };
      last = w;
      begins = rw (← ho) ht;
      none = rw (← ho) hx;
      ran = rw (← ho) hr;
      closes = rw (← ho) hy;
      merges = refl;
    }
