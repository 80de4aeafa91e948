-- The loop: what one turn does, what so many turns do, and what the whole elimination does, as relations; the pivot of a turn is what the search found.
-- Assumes nothing.
use Rattle.std.specs.Prelude.{ℕ, zero, suc, ◌<◌, ◌≤◌, Bool, List, ◌⊎◌, ◌≡◌, ℤ}
use Rattle.numbers.specs.Gains.{begun}
use Rattle.numbers.specs.Meaning.{statistics_meant}
use Rattle.cells.specs.View.{plus}
use Rattle.chain.specs.First.{First}
use Rattle.opening.specs.Start.{opened}
use Rattle.elimination.specs.declared.Eliminated.{Eliminated}
use Rattle.elimination.specs.declared.Work.{Work}
use Rattle.elimination.specs.Model.{closed, element_counted, first_turn, pivot_step, stage}

-- one turn, from l, s and w to l', s' and w': me, found at degree d, is eliminated, or nobody was found
pub record Turned (n : ℕ) (aggressive : Bool) (dense : ℕ) (l s : List ℤ) (w : Work) (l' s' : List ℤ) (w' : Work) : Type 0 where
  pub me : ℕ
  pub d : ℕ
  pub first : First n s w.turn.least me d
  pub step : me < n → stage l' s' w'.turn ≡ pivot_step n me d aggressive w.turn l s
  pub counts : me < n → statistics_meant w'.statistics ≡ element_counted n me dense s' (statistics_meant w.statistics)
  pub nobody : n ≤ me → (l' ≡ l) × (s' ≡ s) × (w' ≡ w)

-- at most k turns, while variables are left
abbrev pub Ran : ℕ → Bool → ℕ → ℕ → List ℤ → List ℤ → Work → List ℤ → List ℤ → Work → Type 0
Ran n aggressive dense zero l s w l' s' w' = (l' ≡ l) × (s' ≡ s) × (w' ≡ w)
Ran n aggressive dense (suc k) l s w l' s' w' =
    ((n ≤ w.turn.gone) × (l' ≡ l) × (s' ≡ s) × (w' ≡ w))
    ⊎ ((w.turn.gone < n) × ((l₁ : List ℤ) × (s₁ : List ℤ) × (w₁ : Work) × Turned n aggressive dense l s w l₁ s₁ w₁ × Ran n aggressive dense k l₁ s₁ w₁ l' s' w'))

-- the whole: from the start, n turns
pub record Whole (n limit free : ℕ) (aggressive : Bool) (l s l' s' : List ℤ) (r : Eliminated) : Type 0 where
  pub first : Work
  pub last : Work
  pub begins : first.turn ≡ first_turn (plus (opened n limit s).aside.roots (opened n limit s).aside.dense) free
  pub none : statistics_meant first.statistics ≡ begun (opened n limit s).aside.dense
  pub ran : Ran n aggressive (opened n limit s).aside.dense n l (opened n limit s).mem first l' s' last
  pub closes : statistics_meant r.statistics ≡ closed (opened n limit s).aside.dense last.turn.collections (statistics_meant last.statistics)
  pub merges : r.merges ≡ last.turn.merges
