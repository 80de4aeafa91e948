-- Request 12: "for every column of the new order the count that its element charged".
-- Assumes nothing.
use Rattle.std.specs.Prelude.{ℕ, ◌+◌, cond, length}
use mathlib.Core.List.{List, ◌++◌, flat_map}
use Rattle.plain.specs.Lists.{member, fall_to}
use Rattle.definition.specs.Ordering.{block_of}
use Rattle.definition.specs.State.{State, degree, dense_rows}
use Rattle.definition.specs.Tree.{postorder}
use Rattle.facts.specs.History.{born_of}

-- r of an element: its remaining weight and the dense rows; "zero for a row of degree 0", which made no element
unfoldable pub charged_rest : State → ℕ → ℕ
charged_rest s e = cond (member e (born_of s)) (degree s.graph e + length (dense_rows s.graph)) 0

-- for each position of the permutation; "for the dense block, the dense rows still to come"
unfoldable pub charges : State → List ℕ
charges s = flat_map (λ e. fall_to (charged_rest s e) (length (block_of s.graph e))) (postorder s.graph) ++ fall_to 0 (length (dense_rows s.graph))
