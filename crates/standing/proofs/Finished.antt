-- THE elimination: run in memory, of an accepted problem, it leaves the definition's final graph, its statistics, and its collection count for this room.
-- Assumes nothing.
use Prim.Native.Nat.{ℕ, ◌+◌, ◌<◌, ◌≤◌, ◌^◌}
use native.Mathlib.Omega.{arith}
use mathlib.Core.Bool.{Bool}
use mathlib.Core.List.{List}
use mathlib.Core.Path.{◌≡◌, ◌∙◌, ap, sym}
use borrow.Author.Tests.{ne_eqb}
use lib.IntN.{ℤ}
use lib.ListN.{length}
use Rattle.plain.specs.Lists.{total}
use Rattle.definition.specs.Answers.{Problem, rule_for}
use Rattle.definition.specs.Elimination.{beside, final_state}
use Rattle.definition.specs.Limits.{base_limits}
use Rattle.definition.specs.Merge.{plain_key}
use Rattle.definition.specs.Ordering.{final_of, graph_of, key_for, limit_of, plain, plain_from}
use Rattle.definition.specs.Outcome.{collection_count, seven}
use Rattle.definition.specs.Pattern.{column_count}
use Rattle.definition.specs.Room.{collections_of, room_step}
use Rattle.definition.specs.State.{State, dense_rows, row_count, started}
use Rattle.definition.specs.Statistics.{six_of}
use Rattle.facts.proofs.Accepted.{few_columns, graph_room, length_graph, neighbourly_graph}
use Rattle.facts.proofs.Enlisted.{final_gone, inv_start}
use Rattle.facts.proofs.KindsKept.{dense_final}
use Rattle.facts.proofs.Outcome.{final_rows}
use Rattle.facts.proofs.Places.{places_start}
use Rattle.facts.proofs.Start.{Neighbourly}
use Rattle.facts.proofs.Weighed.{reached, weighed_start}
use Rattle.facts.specs.Accepted.{Accepted}
use Rattle.numbers.specs.Meaning.{statistics_meant}
use Rattle.cells.specs.View as view
use Rattle.pattern.specs.Lists.{Packed}
use Rattle.tree.specs.Final.{Final}
use Rattle.opening.specs.Start.{opened}
use Rattle.elimination.specs.declared.Eliminated.{Eliminated}
use Rattle.standing.specs.Result.{Result}
use Rattle.elimination.specs.Runs.{Whole}
use Rattle.standing.specs.Standing.{Standing}
use Rattle.standing.proofs.Ends.{final, six}
use Rattle.standing.proofs.Loop.{ran_stands}
use Rattle.standing.proofs.Starts.{dense_is, starts}

module _ (limit : ℕ) (nbrs : List (List ℕ)) (nb : Neighbourly nbrs) (few : length nbrs ≤ base_limits.most_columns) (aggressive : Bool) (l s : List ℤ) (free size : ℕ) (room : view.Room (length nbrs) s)
    (packed : Packed (length nbrs) nbrs l s free) (whole : length l ≡ size) (wide : total length nbrs + length nbrs ≤ size) (narrow : size < 2 ^ 62)
    (l' s' : List ℤ) (r : Eliminated) (w : Whole (length nbrs) limit free aggressive l s l' s' r) where
  abbrev n : ℕ
  n = length nbrs

  abbrev end : State
  end = final_state (plain_key (length nbrs)) aggressive limit nbrs

  abbrev nd : ℕ
  nd = (opened n limit s).aside.dense

  stands : Standing base_limits.most_columns n nd size l' s' w.last.turn (statistics_meant w.last.statistics) end
      (beside (room_step size) (plain_key n) n n aggressive (started limit nbrs) (record { free = total length nbrs; collections = 0 }))
  unfolding final_state
  stands =
      ran_stands base_limits.most_columns n nd size aggressive few (omega arith) narrow n l (opened n limit s).mem w.first l' s' w.last w.ran (started limit nbrs)
      (record { free = total length nbrs; collections = 0 }) (inv_start limit nbrs nb) (weighed_start limit nbrs) (omega (arith, places_start limit nbrs))
      (rw (w.begins, w.none) (starts base_limits.most_columns limit nbrs nb few l s free size room packed whole (omega arith)))

  pub record Ending : Type 0 where
    pub merges : List ℕ
    pub count : length merges ≡ r.merges
    pub final : Final (length nbrs) s' (final_state (plain_key (length nbrs)) aggressive limit nbrs).graph merges
    pub statistics : statistics_meant r.statistics
        ≡ seven (six_of (length (dense_rows (final_state (plain_key (length nbrs)) aggressive limit nbrs).graph)) (final_state (plain_key (length nbrs)) aggressive limit nbrs).fronts)
        (collections_of (plain_key (length nbrs)) aggressive limit nbrs size)
    pub long : length l' ≡ length l

  dense_end : nd ≡ length (dense_rows end.graph)
  dense_end = dense_is base_limits.most_columns limit nbrs nb few l s free size room packed whole (omega arith) ∙ ap length (sym (dense_final limit nbrs nb (plain_key n) aggressive))

  pub ends : Ending
  unfolding final_state collections_of
  ends =
      let at = reached nbrs nb (plain_key n) aggressive limit n in
      let rm = beside (room_step size) (plain_key n) n n aggressive (started limit nbrs) (record { free = total length nbrs; collections = 0 }) in
      let over = final_gone limit nbrs nb (plain_key n) aggressive in
      record {
        merges = stands.merges;
        count = sym (w.merges ∙ stands.count);
        final = final base_limits.most_columns n nd size l' s' w.last.turn (statistics_meant w.last.statistics) end rm at.0 at.1 stands over;
        statistics = w.closes ∙ six base_limits.most_columns n nd size l' s' w.last.turn (statistics_meant w.last.statistics) end rm at.0 at.1 stands over few (omega arith)
            ∙ ap (λ (k : ℕ). seven (six_of k end.fronts) rm.collections) dense_end;
        long = stands.long ∙ sym whole;
      }

-- ---- of an accepted problem

module _ (p : Problem) (ok : Accepted p) (l s : List ℤ) (free : ℕ) (room : view.Room (column_count p.pattern) s)
    (packed : Packed (column_count p.pattern) (graph_of p.pattern) l s free) (whole : length l ≡ p.lists_size) (narrow : length l < 2 ^ 62) where
  abbrev A : List (List ℕ)
  A = graph_of p.pattern

  abbrev limit : ℕ
  limit = limit_of p.pattern (rule_for p)

  size : length A ≡ column_count p.pattern
  size = length_graph p ok

  wide : total length A + length A ≤ p.lists_size
  wide = omega (arith, graph_room p ok, size)

  few : length A ≤ base_limits.most_columns
  few = omega (arith, size, few_columns p ok)

  pub eliminated : (l' s' : List ℤ) (r : Eliminated) → Whole (column_count p.pattern) (limit_of p.pattern (rule_for p)) free p.aggressive l s l' s' r → Result p l l' s' r
  unfolding final_of plain plain_from collection_count
  eliminated l' s' r w =
      let e = ends limit A (neighbourly_graph p ok) few p.aggressive l s free p.lists_size (rw size room) (rw size packed) whole wide (omega (arith, whole)) l' s' r (rw size w) in
      record {
        merges = e.merges;
        count = e.count;
        final = rw size at e.final;
        statistics = λ some.
            let rows : row_count (final_of p.pattern (rule_for p) p.aggressive).graph ≡ column_count p.pattern =
            final_rows limit A (neighbourly_graph p ok) (key_for p.pattern) p.aggressive ∙ size in
            rw (ne_eqb (row_count (final_of p.pattern (rule_for p) p.aggressive).graph) 0 (λ z. absurd (omega (arith, rows, z)))) (rw size at e.statistics);
        long = e.long;
      }
