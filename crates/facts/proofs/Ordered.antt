-- The outcome of every accepted problem: a permutation of its rows, and its inverse.
-- Assumes nothing.
use Prim.Native.Nat.{ℕ, ◌<◌}
use mathlib.Core.Path.{◌≡◌, sym, subst}
use mathlib.Core.Bool.{Bool}
use lib.ListN.{length, get_or}
use Rattle.plain.specs.Permutations.{Permutation}
use Rattle.definition.specs.Threshold.{Rule}
use Rattle.definition.specs.Pattern.{column_count}
use Rattle.definition.specs.Answers.{Problem}
use Rattle.definition.specs.Ordering.{graph_of, limit_of, key_for, final_of, plain_from, plain}
use Rattle.facts.proofs.Accepted.{neighbourly_graph, length_graph}
use Rattle.facts.proofs.Outcome.{final_permutation, final_inverse, final_inverse_first, final_inverse_then}
use Rattle.facts.specs.Accepted.{Accepted}

module _ (p : Problem) (ok : Accepted p) (rule : Rule) (aggressive : Bool) where
  row : (k : ℕ) → k < column_count p.pattern → k < length (graph_of p.pattern)
  row k l = subst (λ (m : ℕ). k < m) (sym (length_graph p ok)) l

  -- P5
  pub accepted_permutation : Permutation (column_count p.pattern) (plain p.pattern rule aggressive).permutation
  unfolding plain plain_from final_of
  accepted_permutation = rw (length_graph p ok) at (final_permutation (limit_of p.pattern rule) (graph_of p.pattern) (neighbourly_graph p ok) (key_for p.pattern) aggressive)

  pub accepted_inverse : Permutation (column_count p.pattern) (plain p.pattern rule aggressive).inverse
  unfolding plain plain_from final_of
  accepted_inverse = rw (length_graph p ok) at (final_inverse (limit_of p.pattern rule) (graph_of p.pattern) (neighbourly_graph p ok) (key_for p.pattern) aggressive)

  pub accepted_inverse_first : (k : ℕ) → k < column_count p.pattern → get_or (plain p.pattern rule aggressive).inverse (get_or (plain p.pattern rule aggressive).permutation k 0) 0 ≡ k
  unfolding plain plain_from final_of
  accepted_inverse_first k l = final_inverse_first (limit_of p.pattern rule) (graph_of p.pattern) (neighbourly_graph p ok) (key_for p.pattern) aggressive k (row k l)

  pub accepted_inverse_then : (v : ℕ) → v < column_count p.pattern → get_or (plain p.pattern rule aggressive).permutation (get_or (plain p.pattern rule aggressive).inverse v 0) 0 ≡ v
  unfolding plain plain_from final_of
  accepted_inverse_then v l = final_inverse_then (limit_of p.pattern rule) (graph_of p.pattern) (neighbourly_graph p ok) (key_for p.pattern) aggressive v (row v l)
