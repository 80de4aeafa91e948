-- A problem whose lists are cut short where they are longer than 2^61 cells: it is accepted too, and has as many collections.
-- Assumes nothing.
use Prim.Native.Nat.{ℕ, ◌+◌, ◌*◌, ◌≤◌, ◌^◌, min}
use native.Mathlib.Nat.{mul-le-mul}
use native.Mathlib.Omega.{arith}
use mathlib.Core.Path.{◌≡◌, sym, ap, ◌∙◌}
use mathlib.Core.Bool.{◌||◌}
use lib.Dec.{ltb}
use lib.ListN.{length}
use borrow.Author.Tests.{ltb-true, ltb-false, le-ltb}
use Rattle.plain.proofs.Logic.{either, or_false_right}
use Rattle.definition.specs.Answers.{Problem, bad_multiplier, bad_outputs, bad_room, rule_for}
use Rattle.definition.specs.Limits.{base_limits, lists_room, scratch_room}
use Rattle.definition.specs.Ordering.{graph_of, limit_of, key_for}
use Rattle.definition.specs.Outcome.{collection_count}
use Rattle.definition.specs.Pattern.{column_count, nnz}
use Rattle.definition.specs.Room.{collections_of}
use Rattle.facts.proofs.Accepted.{accepted, checked, few_columns, few_entries, lists_room_lem, neighbourly_graph, length_graph, graph_entries}
use Rattle.facts.specs.Accepted.{Accepted}
use Rattle.ordering.proofs.Roomy.{no_collections}

-- with lists of so many cells
abbrev pub cut : ℕ → Problem → Problem
cut size p = record {
  pattern = p.pattern;
  multiplier = p.multiplier;
  aggressive = p.aggressive;
  permutation_size = p.permutation_size;
  inverse_size = p.inverse_size;
  lists_size = size;
  scratch_size = p.scratch_size;
}

module _ (p : Problem) (ok : Accepted p) where
  -- what is left of the lists is enough
  pub cut_room : 2 * nnz p.pattern + column_count p.pattern ≤ min p.lists_size (2 ^ 61)
  unfolding base_limits
  cut_room = omega (arith, lists_room_lem p ok, few_columns p ok, few_entries p ok)

  pub cut_accepted : Accepted (cut (min p.lists_size (2 ^ 61)) p)
  unfolding bad_multiplier bad_outputs bad_room lists_room
  cut_accepted =
      let c = checked p ok in
      let size = min p.lists_size (2 ^ 61) in
      let cells = scratch_room (column_count p.pattern) (nnz p.pattern) in
      accepted (cut size p)
      (record {
        count = c.count;
        multiplier = c.multiplier;
        outputs = c.outputs;
        pointers = c.pointers;
        rows = c.rows;
        room =
            ap (λ b. b || ltb p.scratch_size cells) (le-ltb size (2 * nnz p.pattern + column_count p.pattern) cut_room)
            ∙ or_false_right (ltb p.lists_size (2 * nnz p.pattern + column_count p.pattern)) (ltb p.scratch_size cells) c.room;
      })

  -- so large a room has no collection
  none_in : (size : ℕ) → 2 ^ 61 ≤ size → collections_of (key_for p.pattern) p.aggressive (limit_of p.pattern (rule_for p)) (graph_of p.pattern) size ≡ 0
  unfolding base_limits
  none_in size l =
      let n = length (graph_of p.pattern) in
      let few : n ≤ base_limits.most_columns = omega (arith, few_columns p ok, length_graph p ok) in
      let square : n * n ≤ base_limits.most_columns * base_limits.most_columns = mul-le-mul few few in
      no_collections (graph_of p.pattern) (neighbourly_graph p ok) (key_for p.pattern) p.aggressive (limit_of p.pattern (rule_for p)) size
      (omega (arith, square, graph_entries p ok, few_entries p ok))

  pub cut_count : collection_count (cut (min p.lists_size (2 ^ 61)) p) ≡ collection_count p
  unfolding collection_count rule_for
  cut_count =
      either _ (ltb p.lists_size (2 ^ 61))
      (λ e.
      let same : min p.lists_size (2 ^ 61) ≡ p.lists_size = omega (arith, ltb-true p.lists_size (2 ^ 61) e) in
      ap (collections_of (key_for p.pattern) p.aggressive (limit_of p.pattern (rule_for p)) (graph_of p.pattern)) same)
      (λ e.
      let long = ltb-false p.lists_size (2 ^ 61) e in
      none_in (min p.lists_size (2 ^ 61)) (omega (arith, long)) ∙ sym (none_in p.lists_size (omega (arith, long))))
