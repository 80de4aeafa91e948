-- The end: no row has a list any more, so the memory holds all that the tree asks for; and the statistics are the definition's.
-- Assumes nothing.
use Prim.Native.Nat.{ℕ, ◌≤◌}
use native.Mathlib.Omega.{arith}
use mathlib.Core.Bool.{Bool, cond, false, false≢true, true, ◌&&◌}
use mathlib.Core.List.{List, [], ◌∷◌, ◌++◌}
use mathlib.Core.Logic.{⊎_elim}
use mathlib.Core.Path.{◌≡◌, ◌∙◌, ap, refl, sym}
use borrow.Author.Tests.{ltb-true}
use lib.IntN.{ℤ}
use lib.ListN.{length}
use Rattle.plain.proofs.Logic.{either}
use Rattle.plain.proofs.Positions.{later_place}
use Rattle.plain.proofs.Sums.{total_zero}
use Rattle.plain.specs.Lists.{total}
use Rattle.definition.specs.Limits.{base_limits}
use Rattle.definition.specs.Outcome as Outcomes
use Rattle.definition.specs.Room.{Room}
use Rattle.definition.specs.State.{Graph, Kind, State, dense, element, elements_of, has_weight, is_element, is_merged, is_variable, kind, live, merged, variable, variables_of, weight}
use Rattle.definition.specs.Statistics.{six_of}
use Rattle.facts.proofs.Ended.{no_variable}
use Rattle.facts.proofs.Weighed.{Weighed}
use Rattle.facts.specs.Invariant.{Inv, Live}
use Rattle.numbers.proofs.Growth.{after_all, all_counted}
use Rattle.numbers.proofs.Rooms.{within_added}
use Rattle.cells.specs.Layout.{LEN}
use Rattle.cells.specs.View.{rd}
use Rattle.packed.proofs.Frame.{len_of}
use Rattle.packed.specs.Places.{places}
use Rattle.drawn.specs.Drawn.{list_of}
use Rattle.tree.specs.Final.{Final}
use Rattle.elimination.specs.declared.Turn.{Turn}
use Rattle.elimination.specs.Model.{closed}
use Rattle.standing.specs.Standing.{Standing}

merged_is : (k : Kind) → is_merged k ≡ true → k ≡ merged
merged_is variable e = absurd (false≢true e)
merged_is merged e = refl
merged_is element e = absurd (false≢true e)
merged_is dense e = absurd (false≢true e)

module _ (N n nd size : ℕ) (l s : List ℤ) (t : Turn) (x : Outcomes.Statistics) (st : State) (rm : Room) (inv : Inv n st) (wd : Weighed st) (h : Standing N n nd size l s t x st rm)
    (over : st.gone ≡ n) where
  abbrev g : Graph
  g = st.graph

  -- no variable is left
  idle : (v : ℕ) → is_variable (kind g v) ≡ false
  idle = no_variable st inv over

  -- a live element has no rows: each that it had weighs nothing now
  bare : (e : ℕ) → Live g e → variables_of g e ≡ []
  bare e lv = by (variables_of g e) refl
    where
      by : (vs : List ℕ) → variables_of g e ≡ vs → variables_of g e ≡ []
      by [] q = q
      by (v ∷ vs) q =
          let z : total (weight g) (variables_of g e) ≡ 0 =
          total_zero (weight g) (variables_of g e)
          (λ i m. inv.graph.light i (idle i) (inv.graph.members_kind e i lv m)) in
          absurd (omega (arith, z, inv.graph.element_weight e lv, inv.graph.element_heavy e lv (omega (arith, ap length q))))

  none : (v : ℕ) → list_of g v ≡ []
  unfolding list_of
  none v = by (has_weight g v) refl (live g v) refl
    where
      by : (a : Bool) → has_weight g v ≡ a → (c : Bool) → live g v ≡ c → cond (has_weight g v && live g v) (elements_of g v ++ variables_of g v) [] ≡ []
      by false p c q = rw p
      by true p false q = rw (p, q)
      by true p true q =
          let e : is_element (kind g v) ≡ true =
          either (is_element (kind g v) ≡ true) (is_element (kind g v)) (λ k. k) (λ k. absurd (omega (arith, inv.graph.light v (idle v) k, ltb-true 0 (weight g v) p))) in
          rw (p, q, wd.bare v e, bare v (e, q))

  dead : (v : ℕ) → rd n LEN s v ≡ 0
  dead v = len_of l (places n s) t.free (list_of g) h.drawn.space.lists v ∙ ap length (none v)

  pub final : Final n s st.graph h.merges
  final =
      record {
        room = h.drawn.space.room;
        weights = h.drawn.weights;
        parents = λ v a. h.drawn.parents v a (dead v);
        sizes = λ e a k. h.sizes e a (ap is_element k);
        log = h.logged.log;
        once = h.logged.once;
        only = λ v m. let a = h.logged.inside v m in (a.0, merged_is (kind g v) a.1);
        has = λ v a k. h.logged.all v a (ap is_merged k);
        later = λ i p a k e.
            ⊎_elim (λ q. absurd (false≢true (sym q ∙ ap is_merged e))) (λ q. later_place h.merges i p h.logged.once q) (h.logged.later i p a k);
      }

  -- with the dense rows as one last element
  pub six : n ≤ N → N ≤ base_limits.most_columns → closed nd t.collections x ≡ Outcomes.seven (six_of nd st.fronts) rm.collections
  unfolding closed
  six many few =
      let a = within_added N st.gone nd 0 x (omega (arith, over)) few h.within (omega (arith, h.dense, over)) in
      rw (a, h.statistics, after_all nd st.fronts, all_counted nd t.collections st.fronts, ← h.collections)
