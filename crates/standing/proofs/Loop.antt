-- The loop: turn after turn the memory stands for the definition's states, up to the state that its own run ends in.
-- Assumes nothing.
use Prim.Native.Nat.{ℕ, zero, suc, ◌+◌, ◌<◌, ◌≤◌, ◌^◌}
use native.Mathlib.Omega.{arith}
use mathlib.Core.Bool.{Bool, cond}
use mathlib.Core.List.{List}
use mathlib.Core.Logic.{◌⊎◌, inl, inr}
use mathlib.Core.Path.{◌≡◌, ◌∙◌, refl, sym, subst}
use borrow.Author.Tests.{le-ltb, lt-ltb}
use lib.Dec.{ltb}
use lib.IntN.{ℤ}
use Rattle.definition.specs.Elimination.{beside, eliminate, run, step}
use Rattle.definition.specs.Limits.{base_limits}
use Rattle.definition.specs.Merge.{plain_key}
use Rattle.definition.specs.Outcome as Outcomes
use Rattle.definition.specs.Pivot.{Found, found, nobody, pivot}
use Rattle.definition.specs.Room as room
use Rattle.definition.specs.State.{State}
use Rattle.facts.proofs.Pivots.{pivoted, some_pivot}
use Rattle.facts.proofs.Places.{places_eliminate}
use Rattle.facts.proofs.Theorem.{inv_eliminate}
use Rattle.facts.proofs.Weighed.{Weighed, weighed_eliminate}
use Rattle.facts.specs.Invariant.{Inv}
use Rattle.numbers.specs.Meaning.{statistics_meant}
use Rattle.cells.proofs.Slices.{split}
use Rattle.chain.proofs.Search.{pivot_rep}
use Rattle.chain.specs.First.{First}
use Rattle.elimination.specs.declared.Work.{Work}
use Rattle.elimination.specs.Model.{Stage, element_counted}
use Rattle.elimination.specs.Runs.{Ran, Turned}
use Rattle.standing.specs.Standing.{Standing}
use Rattle.standing.proofs.Begun.{Before}
use Rattle.standing.proofs.Places.{stage_next}
use Rattle.standing.proofs.Stands.{stands₅}

module _ (N n nd size : ℕ) (aggressive : Bool) (many : n ≤ N) (few : N ≤ base_limits.most_columns) (narrow : size < 2 ^ 62) where
  -- of a state that the run reaches, the memory
  abbrev S : List ℤ → List ℤ → Work → State → room.Room → Type 0
  S l s w st rm = Standing N n nd size l s w.turn (statistics_meant w.statistics) st rm

  same_memory : (l s : List ℤ) (w : Work) (l' s' : List ℤ) (w' : Work) (st : State) (rm : room.Room) → l' ≡ l → s' ≡ s → w' ≡ w → S l s w st rm → S l' s' w' st rm
  same_memory l s w l' s' w' st rm a b c h =
      subst (λ (y : List ℤ). S y s' w' st rm) (sym a) (subst (λ (y : List ℤ). S l y w' st rm) (sym b) (subst (λ (y : Work). S l s y st rm) (sym c) h))

  -- ---- one turn

  module _ (l s : List ℤ) (w : Work) (st : State) (rm : room.Room) (inv : Inv n st) (wd : Weighed st) (wide : room.all_places st.graph + n ≤ size) (h : S l s w st rm)
      (more : st.gone < n) (l' s' : List ℤ) (w' : Work) (r : Turned n aggressive nd l s w l' s' w') where
    which : pivot st ≡ cond (ltb r.me n) (found r.me r.d) nobody
    which = pivot_rep n s st inv.queued.size h.chained r.me r.d (subst (λ (m : ℕ). First n s m r.me r.d) h.least r.first)

    module _ (low : r.me < n) where
      chosen : pivot st ≡ found r.me r.d
      chosen = which ∙ rw (lt-ltb r.me n low)

      before : Before N n nd size l s w.turn (statistics_meant w.statistics) st rm r.me r.d
      before = record { inv = inv; weighed = wd; which = chosen; many = many; few = few; wide = wide; narrow = narrow; stands = h }

      abbrev next : State
      next = eliminate (plain_key n) n aggressive st r.me r.d

      abbrev rest : room.Room
      rest = room.room_step size st (found r.me r.d) (eliminate (plain_key n) n aggressive st r.me r.d) rm

      -- by the stage that the turn ends in
      abbrev T : Stage → Type 0
      T c = Standing N n nd size c.lists c.mem c.turn (element_counted n r.me nd c.mem (statistics_meant w.statistics)) next rest

      after : S l' s' w' next rest
      after =
          subst (λ (y : Outcomes.Statistics). Standing N n nd size l' s' w'.turn y next rest) (sym (r.counts low))
          (subst T (sym (r.step low ∙ stage_next before aggressive)) (stands₅ before aggressive))

    -- what the definition's step makes of the state
    stepped : (f : Found) → pivot st ≡ f → (r.me < n) ⊎ (n ≤ r.me)
        → Inv n (step (plain_key n) n aggressive st f) × Weighed (step (plain_key n) n aggressive st f) × (room.all_places (step (plain_key n) n aggressive st f).graph + n ≤ size)
        × S l' s' w' (step (plain_key n) n aggressive st f) (room.room_step size st f (step (plain_key n) n aggressive st f) rm)
    unfolding step
    stepped nobody e o = absurd (some_pivot st inv more e)
    stepped (found p d) e (inr high) = absurd (some_pivot st inv more (which ∙ rw (le-ltb r.me n high)))
    stepped (found p d) e (inl low) =
        let pd = pivoted st inv p d e in
        let same = sym (chosen low) ∙ e in (
          inv_eliminate (plain_key n) aggressive st inv p d pd,
          weighed_eliminate (plain_key n) aggressive st inv wd p d pd,
          omega (arith, places_eliminate (plain_key n) aggressive st inv wd p d pd, wide),
          subst (λ (f : Found). S l' s' w' (step (plain_key n) n aggressive st f) (room.room_step size st f (step (plain_key n) n aggressive st f) rm)) same (after low),
        )

  -- ---- all turns

  pub ran_stands : (k : ℕ) (l s : List ℤ) (w : Work) (l' s' : List ℤ) (w' : Work) → Ran n aggressive nd k l s w l' s' w'
      → (st : State) (rm : room.Room) → Inv n st → Weighed st → room.all_places st.graph + n ≤ size → Standing N n nd size l s w.turn (statistics_meant w.statistics) st rm
      → Standing N n nd size l' s' w'.turn (statistics_meant w'.statistics) (run (plain_key n) k n aggressive st) (beside (room.room_step size) (plain_key n) k n aggressive st rm)
  unfolding run beside
  ran_stands zero l s w l' s' w' r st rm inv wd wide h = same_memory l s w l' s' w' st rm r.0 r.1 r.2 h
  ran_stands (suc k) l s w l' s' w' (inl r) st rm inv wd wide h =
      rw (le-ltb st.gone n (omega (arith, r.0, h.gone)), run, beside) (same_memory l s w l' s' w' st rm r.1 r.2 r.3 h)
  ran_stands (suc k) l s w l' s' w' (inr r) st rm inv wd wide h =
      let more : st.gone < n = omega (arith, r.0, h.gone) in
      let l₁ = r.1.0 in
      let s₁ = r.1.1 in
      let w₁ = r.1.2 in
      let t = r.1.3 in
      let a = stepped l s w st rm inv wd wide h more l₁ s₁ w₁ t (pivot st) refl (split t.me n) in
      rw (lt-ltb st.gone n more, run, beside)
      (ran_stands k l₁ s₁ w₁ l' s' w' r.1.4 (step (plain_key n) n aggressive st (pivot st))
      (room.room_step size st (pivot st) (step (plain_key n) n aggressive st (pivot st)) rm) a.0 a.1 a.2 a.3)
