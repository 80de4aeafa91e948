-- One turn: the memory stands for the state before the pivot, and after the turn for the definition's next state.
-- Assumes nothing.
use Prim.Native.Nat.{ℕ, ◌+◌, ◌*◌, ◌≤◌}
use native.Mathlib.Omega.{arith}
use native.Mathlib.Nat.{mul-le-mul_left, mul-suc}
use mathlib.Core.Bool.{Bool}
use mathlib.Core.List.{List}
use mathlib.Core.Path.{◌≡◌, ◌∙◌, ap, refl, sym, subst}
use lib.IntN.{ℤ}
use Rattle.definition.specs.Merge.{plain_key}
use Rattle.definition.specs.Outcome as Outcomes
use Rattle.definition.specs.Pivot.{found}
use Rattle.definition.specs.Room as room
use Rattle.definition.specs.State.{State, degree, weight}
use Rattle.facts.proofs.Flags.{degrees_below}
use Rattle.facts.proofs.Bounds.{element_left}
use Rattle.facts.proofs.Cases.{pivot_live}
use Rattle.facts.proofs.Step.{fronts_after, gone_after}
use Rattle.facts.proofs.Theorem.{inv_eliminate}
use Rattle.cells.proofs.Slices.{plus_sum}
use Rattle.cells.specs.Layout.{HHEAD}
use Rattle.cells.specs.View.{plus}
use Rattle.elimination.specs.declared.Turn.{Turn}
use Rattle.numbers.proofs.Rooms.{within_added}
use Rattle.numbers.proofs.Growth.{after_more}
use Rattle.numbers.proofs.Totals.{within_gained}
use Rattle.numbers.specs.Gains.{Within, after_elements, gained}
use Rattle.elimination.specs.Model.{element_counted}
use Rattle.standing.specs.Standing.{Standing}
use Rattle.standing.proofs.Begun.{Before, begun, chosen, pivot_low, pivot_var, rows_short}
use Rattle.standing.proofs.Merges.{above₄, merged₄, risen₄, two₄}
use Rattle.standing.proofs.Places.{done₅, gone_next, kept₅, left_few, left_is, next, rest_is, turn₅}
use Rattle.standing.proofs.After.{chained₅, flagged₅, grows, least₅, logged₅, long₅, now, pivots_are, unwritten₅}
use Rattle.standing.proofs.Elements.{sizes₅}
use Rattle.standing.proofs.Free.{made₅}

module _ {N n nd size : ℕ} {l s : List ℤ} {t : Turn} {x : Outcomes.Statistics} {st : State} {rm : room.Room} {p d : ℕ} (b : Before N n nd size l s t x st rm p d) (aggressive : Bool) where
  -- ---- the statistics

  abbrev f : ℕ
  f = weight (next b aggressive).graph p

  abbrev r : ℕ
  r = degree (next b aggressive).graph p + nd

  -- the element's rows and the dense ones are not more than all
  rows_few : f + r ≤ N
  rows_few =
      omega (
        arith,
        element_left (next b aggressive) (inv_eliminate (plain_key n) aggressive st b.inv p d (chosen b)) p (pivot_live b.inv.graph (pivot_var b) (now b aggressive)),
        gone_next b aggressive,
        pivots_are b aggressive,
        b.stands.dense,
        b.many,
      )

  counts : element_counted n p nd (done₅ b aggressive) x ≡ gained f r x
  unfolding element_counted
  counts =
      let q : plus (degree (next b aggressive).graph p) nd ≡ r = plus_sum (degree (next b aggressive).graph p) nd (omega (arith, rows_few, rows_short b)) in
      rw ((made₅ b aggressive).drawn.weights p (pivot_low b), (made₅ b aggressive).drawn.degrees p (pivot_low b), q)
      (within_added N st.gone f r x (omega (arith, b.inv.counted, b.many)) b.few b.stands.within (omega (arith, rows_few, b.few)))

  -- ---- THE turn

  pub stands₅ : Standing N n nd size (kept₅ b aggressive).lists (done₅ b aggressive) (turn₅ b aggressive) (element_counted n p nd (done₅ b aggressive) x) (next b aggressive)
      (room.room_step size st (found p d) (next b aggressive) rm)
  stands₅ =
      record {
        drawn = (made₅ b aggressive).drawn;
        long = long₅ b aggressive;
        chained = chained₅ b aggressive;
        least = least₅ b aggressive;
        gone = sym (gone_next b aggressive);
        flagged = flagged₅ b aggressive;
        two = two₄ b aggressive (left_few b aggressive);
        low = omega (arith, risen₄ b aggressive (left_few b aggressive), b.stands.low, mul-le-mul_left (2 * n) (grows b aggressive), mul-suc (2 * n) st.gone);
        most = λ e v. omega (arith, degrees_below (plain_key n) aggressive st b.inv p d (chosen b) t.most b.stands.most e v, left_is b aggressive, rest_is b aggressive);
        modest = omega (arith, left_few b aggressive, b.stands.modest);
        above = above₄ b aggressive (left_few b aggressive);
        heads = λ k low. unwritten₅ b aggressive HHEAD k refl refl refl refl refl refl refl refl refl ∙ (merged₄ b aggressive (left_few b aggressive)).heads k low;
        merges = (merged₄ b aggressive (left_few b aggressive)).ms;
        logged = logged₅ b aggressive;
        count = (merged₄ b aggressive (left_few b aggressive)).count;
        ordered = (made₅ b aggressive).ordered;
        sizes = sizes₅ b aggressive;
        free = (made₅ b aggressive).free;
        collections = (made₅ b aggressive).collections ∙ collected_is;
        few = omega (arith, collected_is, b.stands.collections, b.stands.few, (made₅ b aggressive).one, grows b aggressive);
        dense = omega (arith, b.stands.dense, grows b aggressive);
        statistics = counts ∙ ap (gained f r) b.stands.statistics ∙ after_more nd st.fronts (record { row = p; pivots = f; rest = degree (next b aggressive).graph p })
            ∙ ap (after_elements nd) (sym (fronts_after (plain_key n) n aggressive st p d b.inv.graph (pivot_var b)));
        within = subst (λ (y : ℕ). Within N y (element_counted n p nd (done₅ b aggressive) x)) (sym (gone_after (plain_key n) n aggressive st p d b.inv.graph (pivot_var b)))
            (subst (Within N (st.gone + f)) (sym counts) (within_gained N st.gone f r x rows_few b.stands.within));
      }
    where
      collected_is : rm.collections + (begun b).made.collected ≡ plus t.collections (begun b).made.collected
      collected_is =
          omega (
            arith,
            b.stands.collections,
            plus_sum t.collections (begun b).made.collected (omega (arith, b.stands.few, (made₅ b aggressive).one, b.inv.counted, b.many, rows_short b)),
          )
