-- Every run from neighbourly lists ends in a graph that the tree is ready for; so of every accepted problem the outputs are the definition's.
-- Assumes nothing.
use Prim.Native.Nat.{ℕ, ◌<◌}
use mathlib.Core.Path.{◌≡◌, sym, ap, subst}
use mathlib.Core.Bool.{Bool}
use mathlib.Core.List.{List, map}
use lib.IntN.{ℤ, pos}
use lib.ListN.{length}
use Rattle.definition.specs.State.{Graph, State, row_count, rep, is_variable, is_element}
use Rattle.definition.specs.Elimination.{final_state}
use Rattle.definition.specs.Threshold.{Rule}
use Rattle.definition.specs.Pattern.{column_count}
use Rattle.definition.specs.Answers.{Problem}
use Rattle.definition.specs.Ordering.{graph_of, limit_of, key_for, final_of, plain_from, plain}
use Rattle.facts.proofs.Accepted.{neighbourly_graph, length_graph}
use Rattle.facts.proofs.Outcome.{final_rows, final_grown, final_placed, final_shares, final_alone}
use Rattle.facts.proofs.Start.{Neighbourly}
use Rattle.facts.proofs.Unparented.{final_unparented, final_own, final_heavy, final_light}
use Rattle.facts.specs.Accepted.{Accepted}
use Rattle.facts.specs.History.{born_at}
use Rattle.tree.specs.Final.{Final, Ended, Outputs}

module _ (limit : ℕ) (nbrs : List (List ℕ)) (nb : Neighbourly nbrs) (key_of : ℕ → ℕ) (aggressive : Bool) where
  abbrev s : State
  s = final_state key_of aggressive limit nbrs

  abbrev g : Graph
  g = (final_state key_of aggressive limit nbrs).graph

  rows : row_count g ≡ length nbrs
  rows = final_rows limit nbrs nb key_of aggressive

  low : (v : ℕ) → v < row_count g → v < length nbrs
  low v l = subst (λ (m : ℕ). v < m) rows l

  high : (v : ℕ) → v < length nbrs → v < row_count g
  high v l = subst (λ (m : ℕ). v < m) (sym rows) l

  pub final_ended : Ended (length nbrs) g (born_at s)
  final_ended =
      let grown = final_grown limit nbrs nb key_of aggressive in
      let placed = final_placed limit nbrs nb key_of aggressive in
      record {
        rows = rows;
        idle = λ v l x. placed.idle v (high v l) x;
        above = λ e p l x r. let a = grown.above e p (high e l) x r in (low p a.0, a.1, a.2);
        bounded = λ e l x. low (born_at s e) (grown.bounded e (high e l) x);
        owner = λ v l x. let o = placed.owner v (high v l) x in (low (rep g v) o.0, o.1);
        shares = λ v l x. let q = final_shares limit nbrs nb key_of aggressive v (high v l) x in (q.into, q.below, q.parented, q.alike);
        own = λ v l x. final_own limit nbrs nb key_of aggressive v x;
        alone = λ v l x. final_alone limit nbrs nb key_of aggressive v (high v l) x;
        heavy = λ v l x. final_heavy limit nbrs nb key_of aggressive v l x;
        light_merged = λ v l x. final_light limit nbrs nb key_of aggressive v (ap is_variable x) (ap is_element x);
        light_dense = λ v l x. final_light limit nbrs nb key_of aggressive v (ap is_variable x) (ap is_element x);
        free = λ v l x. final_unparented limit nbrs nb key_of aggressive v l x;
      }

-- ---- of an accepted problem

module _ (problem : Problem) (ok : Accepted problem) (rule : Rule) (aggressive : Bool) where
  pub accepted_ended : Ended (column_count problem.pattern) (final_of problem.pattern rule aggressive).graph (born_at (final_of problem.pattern rule aggressive))
  unfolding final_of
  accepted_ended =
      rw (length_graph problem ok) at (final_ended (limit_of problem.pattern rule) (graph_of problem.pattern) (neighbourly_graph problem ok) (key_for problem.pattern) aggressive)

  pub accepted_outputs : (k : ℕ) (s p i p' i' : List ℤ) (ms : List ℕ) → Outputs (column_count problem.pattern) k s p i p' i' → length ms ≡ k
      → Final (column_count problem.pattern) s (final_of problem.pattern rule aggressive).graph ms → length p ≡ column_count problem.pattern → length i ≡ column_count problem.pattern
      → (p' ≡ map pos (plain problem.pattern rule aggressive).permutation) × (i' ≡ map pos (plain problem.pattern rule aggressive).inverse)
  unfolding plain plain_from
  accepted_outputs k s p i p' i' ms h e start long wide =
      h.given (final_of problem.pattern rule aggressive).graph (born_at (final_of problem.pattern rule aggressive)) ms e start accepted_ended long wide
