-- Step 6 of a turn: the code's element has the definition's weight, and the memory after the turn is that of step 6 of the plan.
-- Assumes nothing.
use Prim.Native.Nat.{ℕ, ◌+◌, ◌-◌, ◌<◌, ◌≤◌}
use native.Mathlib.Omega.{arith}
use mathlib.Core.Bool.{Bool}
use mathlib.Core.List.{List, ◌∷◌}
use mathlib.Core.Path.{◌≡◌, ◌∙◌, ap, refl, sym}
use borrow.Author.Tests.{ltb-true}
use lib.IntN.{ℤ}
use Rattle.plain.proofs.Members.{not_kept}
use Rattle.plain.specs.Lists.{keep, total}
use Rattle.definition.specs.Elimination.{eliminate, finish}
use Rattle.definition.specs.Merge.{plain_key}
use Rattle.definition.specs.Outcome as Outcomes
use Rattle.definition.specs.Pivot.{collected, delisted}
use Rattle.definition.specs.Room as room
use Rattle.definition.specs.State.{Graph, State, degree, has_weight, weight}
use Rattle.facts.proofs.Collected.{pivot_outside}
use Rattle.facts.proofs.Flags.{new_element_most}
use Rattle.facts.proofs.Step.{degree_p, rest_of, survivors_of}
use Rattle.facts.proofs.Stepped.{after_merge, after_trim, joined2}
use Rattle.facts.proofs.Theorem.{inv_eliminate}
use Rattle.facts.proofs.Weights.{conserved3, heavy_all}
use Rattle.cells.proofs.Slices.{plus_sum}
use Rattle.cells.specs.Layout.{LEN, NV, PE}
use Rattle.cells.specs.View.{plus, rd}
use Rattle.packed.specs.Gather.{Cut, kept_part}
use Rattle.placing.proofs.Finish.{ready}
use Rattle.placing.specs.Model.{Spot, finished, placed_all, spot}
use Rattle.elimination.specs.declared.Turn.{Turn}
use Rattle.elimination.specs.Model.{Stage, compared, ended, free_end, left_of, met, next_turn, pivot_step, placed, reduced, settled, stage}
use Rattle.standing.proofs.Begun.{Before, begun, chosen, pivot_low, pivot_var}
use Rattle.standing.proofs.Merges.{extent₄, left, merged₄, merges, most₄, place₄}
use Rattle.standing.proofs.Trims.{taken₃, trims, weighed₃}

module _ {N n nd size : ℕ} {l s : List ℤ} {t : Turn} {x : Outcomes.Statistics} {st : State} {rm : room.Room} {p d : ℕ} (b : Before N n nd size l s t x st rm p d) (aggressive : Bool) where
  abbrev g : Graph
  g = st.graph

  abbrev g₂ : Graph
  g₂ = after_trim aggressive st.graph p

  abbrev g₃ : Graph
  g₃ = after_merge (plain_key n) aggressive st.graph p

  abbrev new : List ℕ
  new = collected st.graph p

  -- the state after the turn
  abbrev pub next : State
  next = eliminate (plain_key n) n aggressive st p d

  -- the new element's remaining weight, by the definition
  abbrev rest : ℕ
  rest = total (weight g₃) (keep (has_weight g₃) new)

  pub rest_is : degree (eliminate (plain_key n) n aggressive st p d).graph p
      ≡ total (weight (after_merge (plain_key n) aggressive st.graph p)) (keep (has_weight (after_merge (plain_key n) aggressive st.graph p)) (collected st.graph p))
  unfolding eliminate finish survivors_of rest_of
  rest_is = degree_p (plain_key n) aggressive g p b.inv.graph (pivot_var b) (n - (st.gone + weight g₃ p)) (delisted g st.queues (p ∷ new)) d

  pub rest_low : rest < n
  rest_low = omega (arith, rest_is, new_element_most (plain_key n) aggressive st b.inv p d (chosen b) b.weighed)

  pivot_weight : weight g₃ p ≡ weight g₂ p
  pivot_weight = (joined2 aggressive g p b.inv.graph (pivot_var b) (plain_key n)).outside_weight p (not_kept p (has_weight g₂) new (pivot_outside g p))

  pub left_is : left b aggressive ≡ rest
  left_is =
      omega (
        arith,
        weighed₃ b aggressive,
        taken₃ b aggressive,
        pivot_weight,
        heavy_all g₃ new,
        conserved3 (plain_key n) aggressive g p b.inv.graph (pivot_var b),
      )

  pub left_few : left b aggressive ≤ n
  left_few = omega (arith, left_is, rest_low)

  -- ---- the numbers

  pub gone_next : next.gone ≡ st.gone + weight g₃ p
  unfolding eliminate finish
  gone_next = refl

  pub gone_low : next.gone ≤ n
  gone_low = omega (arith, (inv_eliminate (plain_key n) aggressive st b.inv p d (chosen b)).counted)

  gone_is : plus t.gone (rd n NV (merges b aggressive left_few).mem p) ≡ st.gone + weight g₃ p
  gone_is =
      let a = (merged₄ b aggressive left_few).drawn.weights p (pivot_low b) in
      let c = b.stands.gone in
      plus_sum t.gone (rd n NV (merges b aggressive left_few).mem p) (omega (arith, a, c, gone_next, gone_low, b.many, b.few)) ∙ omega (arith, a, c)

  -- a pivot is gone
  left_all : left_of n (st.gone + weight g₃ p) ≡ n - (st.gone + weight g₃ p)
  unfolding left_of
  left_all = omega (arith, ltb-true 0 (weight g₃ p) (ready (plain_key n) aggressive st b.inv p d (chosen b)).heavy)

  -- ---- the memory

  abbrev L₄ : List ℤ
  L₄ = (trims b aggressive).lists

  abbrev S₄ : List ℤ
  S₄ = (merges b aggressive left_few).mem

  abbrev pub spot₅ : Spot
  spot₅ = placed_all n rest (n - (st.gone + weight g₃ p)) L₄ (rd n PE S₄ p) (rd n LEN S₄ p) (spot S₄ d)

  abbrev pub kept₅ : Cut
  kept₅ = kept_part n NV S₄ (rd n PE S₄ p) (rd n LEN S₄ p) L₄

  abbrev pub done₅ : List ℤ
  done₅ = finished n spot₅.mem p rest kept₅.count

  -- the numbers of the next turn
  abbrev pub turn₅ : Turn
  turn₅ =
      record {
        gone = st.gone + weight g₃ p;
        least = spot₅.least;
        flag = (merges b aggressive left_few).tally.flag;
        most = most₄ b aggressive;
        merges = (merges b aggressive left_few).tally.logged;
        base = (begun b).made.base;
        free = free_end (begun b).made t.made kept₅.count;
        made = (begun b).made.made;
        collections = plus t.collections (begun b).made.collected;
      }

  -- the same by the code's own words
  abbrev F : ℕ → ℕ → ℕ → ℕ → ℕ → Stage
  F a γ e from k =
      let o = placed_all n a e L₄ from k (spot S₄ d) in
      let c = kept_part n NV S₄ from k L₄ in
      stage c.lists (finished n o.mem p a c.count)
      (record {
        gone = γ;
        least = o.least;
        flag = (merges b aggressive left_few).tally.flag;
        most = most₄ b aggressive;
        merges = (merges b aggressive left_few).tally.logged;
        base = (begun b).made.base;
        free = free_end (begun b).made t.made c.count;
        made = (begun b).made.made;
        collections = plus t.collections (begun b).made.collected;
      })

  unfolded : pivot_step n p d aggressive t l s ≡ F (left b aggressive) (plus t.gone (rd n NV S₄ p)) (left_of n (plus t.gone (rd n NV S₄ p))) (begun b).made.start (begun b).made.count
  unfolding pivot_step met compared reduced ended settled placed next_turn
  unfolded = refl

  pub stage_next : pivot_step n p d aggressive t l s ≡ stage kept₅.lists done₅ turn₅
  stage_next =
      unfolded
      ∙ ap (λ (a : ℕ). F a (plus t.gone (rd n NV S₄ p)) (left_of n (plus t.gone (rd n NV S₄ p))) (begun b).made.start (begun b).made.count) left_is
      ∙ ap (λ (γ : ℕ). F rest γ (left_of n γ) (begun b).made.start (begun b).made.count) gone_is
      ∙ ap (λ (e : ℕ). F rest (st.gone + weight g₃ p) e (begun b).made.start (begun b).made.count) left_all
      ∙ ap (λ (a : ℕ). F rest (st.gone + weight g₃ p) (n - (st.gone + weight g₃ p)) a (begun b).made.count) (sym (place₄ b aggressive left_few))
      ∙ ap (λ (k : ℕ). F rest (st.gone + weight g₃ p) (n - (st.gone + weight g₃ p)) (rd n PE S₄ p) k) (sym (extent₄ b aggressive left_few))
