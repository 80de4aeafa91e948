-- Sizes of an accepted problem: its lists always have room for n entries more, no collection is ever the second of a pivot, and the statistics are small.
-- Assumes nothing.
use Prim.Native.Nat.{ℕ, ◌+◌, ◌≤◌}
use native.Mathlib.Omega.{arith}
use mathlib.Core.Bool.{Bool}
use lib.ListN.{length}
use Rattle.definition.specs.State.{started}
use Rattle.definition.specs.Pattern.{column_count}
use Rattle.definition.specs.Threshold.{Rule}
use Rattle.definition.specs.Answers.{Problem, rule_for}
use Rattle.definition.specs.Elimination.{run}
use Rattle.definition.specs.Ordering.{graph_of, limit_of, key_for, final_of, plain}
use Rattle.definition.specs.Outcome.{collection_count}
use Rattle.definition.specs.Room.{all_places}
use Rattle.facts.proofs.Accepted.{neighbourly_graph, length_graph, graph_room, few_columns}
use Rattle.facts.proofs.Collections.{room_after, room_always, collections_most}
use Rattle.facts.proofs.Places.{places_run}
use Rattle.facts.proofs.Totals.{Bounded, told_most, told_widest}
use Rattle.facts.proofs.Words.{SmallSix, six_small}
use Rattle.facts.specs.Accepted.{Accepted}

module _ (p : Problem) (ok : Accepted p) where
  -- what R5 asks of every state
  pub places_accepted : (key_of : ℕ → ℕ) (aggressive : Bool) (limit k : ℕ)
      → all_places (run key_of k (length (graph_of p.pattern)) aggressive (started limit (graph_of p.pattern))).graph + column_count p.pattern ≤ p.lists_size
  places_accepted key_of aggressive limit k = omega (arith, places_run (graph_of p.pattern) (neighbourly_graph p ok) key_of aggressive limit k, graph_room p ok)

  -- R4
  pub room_accepted : (key_of : ℕ → ℕ) (aggressive : Bool) (limit k : ℕ) → (room_after p.lists_size key_of aggressive limit (graph_of p.pattern) k).free ≤ p.lists_size
  room_accepted key_of aggressive limit k =
      room_always (graph_of p.pattern) (neighbourly_graph p ok) key_of aggressive limit p.lists_size (omega (arith, graph_room p ok)) k

  -- R5
  pub collections_accepted : collection_count p ≤ column_count p.pattern
  unfolding collection_count
  collections_accepted =
      let e = length_graph p ok in
      omega (arith, collections_most (graph_of p.pattern) (neighbourly_graph p ok) (key_for p.pattern) p.aggressive (limit_of p.pattern (rule_for p)) p.lists_size (omega (arith, graph_room p ok)))

  -- Q
  pub six_accepted : (rule : Rule) (aggressive : Bool) → Bounded (column_count p.pattern) (plain p.pattern rule aggressive).six
  unfolding plain final_of
  six_accepted rule aggressive =
      rw (length_graph p ok) at (told_most (graph_of p.pattern) (neighbourly_graph p ok) (limit_of p.pattern rule) (key_for p.pattern) aggressive)

  pub widest_accepted : (rule : Rule) (aggressive : Bool) → (plain p.pattern rule aggressive).six.d_max ≤ column_count p.pattern
  unfolding plain final_of
  widest_accepted rule aggressive =
      rw (length_graph p ok) at (told_widest (graph_of p.pattern) (neighbourly_graph p ok) (limit_of p.pattern rule) (key_for p.pattern) aggressive)

  pub small_accepted : (rule : Rule) (aggressive : Bool) → SmallSix (plain p.pattern rule aggressive).six
  small_accepted rule aggressive = six_small (column_count p.pattern) (plain p.pattern rule aggressive).six (few_columns p ok) (six_accepted rule aggressive)
