-- The ordering of a pattern: permutation, inverse, elements and statistics. No room is spoken of.
-- Assumes nothing.
use Rattle.std.specs.Prelude.{ℕ, Bool, ◌&&◌, cond, eqb, length}
use mathlib.Core.List.{List, [], ◌∷◌, ◌++◌, map, flat_map}
use Rattle.plain.specs.Lists.{up_to, keep, position}
use Rattle.definition.specs.Threshold.{Rule, threshold}
use Rattle.definition.specs.Pattern.{Pattern, columns, column_count}
use Rattle.definition.specs.Cleaned.{cleaned}
use Rattle.definition.specs.Neighbours.{neighbours}
use Rattle.definition.specs.State.{Graph, State, Front, row_count, kind, rep, is_merged, dense_rows}
use Rattle.definition.specs.Merge.{plain_key}
use Rattle.definition.specs.Elimination.{final_state}
use Rattle.definition.specs.Statistics.{Six, six_of, no_six}
use Rattle.definition.specs.Tree.{postorder}

-- "Merged variables stand just before their element, ascending."
unfoldable pub merged_with : Graph → ℕ → List ℕ
merged_with g e = keep (λ v. is_merged (kind g v) && eqb e (rep g v)) (up_to (row_count g))

-- an element's rows in the new order, its own row last
unfoldable pub block_of : Graph → ℕ → List ℕ
block_of g e = merged_with g e ++ (e ∷ [])

-- "Dense rows come last, ascending. Position k of the permutation holds the old number."
unfoldable pub permutation_of : Graph → List ℕ
permutation_of g = flat_map (block_of g) (postorder g) ++ dense_rows g

-- "permutation and inverse": the place of each old number in the new order
unfoldable pub inverse_of : List ℕ → List ℕ
inverse_of perm = map (λ v. position v perm) (up_to (length perm))

-- ---- of a pattern

-- A+A' of a pattern: what the elimination starts from, and what symbolic Cholesky is run on
abbrev pub graph_of : Pattern → List (List ℕ)
graph_of a = neighbours (cleaned (columns a))

-- the dense threshold of a pattern
abbrev pub limit_of : Pattern → Rule → ℕ
limit_of a rule = threshold rule (column_count a)

-- the key of step 5
abbrev pub key_for : Pattern → ℕ → ℕ
key_for a = plain_key (column_count a)

-- the state in which the elimination ends
unfoldable pub final_of : Pattern → Rule → Bool → State
final_of a rule aggressive = final_state (key_for a) aggressive (limit_of a rule) (graph_of a)

-- the outcome that every workspace shares; the elements with their f and r, and the dense count, are what the six are made of
pub record Plain : Type 0 where
  pub permutation : List ℕ
  pub inverse : List ℕ
  pub fronts : List Front
  pub dense_count : ℕ
  pub six : Six

-- what is read off the final state
unfoldable pub plain_from : State → Plain
plain_from s = record {
  permutation = permutation_of s.graph;
  inverse = inverse_of (permutation_of s.graph);
  fronts = s.fronts;
  dense_count = length (dense_rows s.graph);
  six = cond (eqb (row_count s.graph) 0) no_six (six_of (length (dense_rows s.graph)) s.fronts);
}

-- "n = 0 (..) is answer 0, empty outputs, all statistics zero."
unfoldable pub plain : Pattern → Rule → Bool → Plain
plain a rule aggressive = plain_from (final_of a rule aggressive)
