-- Document 01, "Elimination rules", step 6: the survivors' degrees and places, and the new element.
-- Assumes nothing.
use Rattle.std.specs.Prelude.{ℕ, ◌+◌, ◌-◌, min}
use mathlib.Core.List.{List, [], foldl}
use Rattle.definition.specs.State.{Graph, element, weight, degree, put_kind, put_elements, put_variables, put_degree, push_front}

-- "degree = the smaller of (degree + new element's weight - own weight) and (variables left - own weight)"; size is the new element's weight
unfoldable pub new_degree : ℕ → ℕ → Graph → ℕ → ℕ
new_degree left size g v = min (degree g v + size - weight g v) (left - weight g v)

-- the graph, the degree lists and the remembered least degree while the survivors are placed
pub record Placed : Type 0 where
  pub graph : Graph
  pub queues : List (List ℕ)
  pub least : ℕ

-- "and go to the front of that list"; the least degree "falls to any lower degree given in step 6"
unfoldable pub place_one : ℕ → ℕ → Placed → ℕ → Placed
place_one left size q v =
    let d = new_degree left size q.graph v in
    record { graph = put_degree v d q.graph; queues = push_front d v q.queues; least = min q.least d }

-- "survivors, in order"
unfoldable pub placed : ℕ → ℕ → List ℕ → Placed → Placed
placed left size survivors q = foldl (place_one left size) q survivors

-- the pivot's row as an element: its survivors, and their weight, the element's remaining weight
unfoldable pub as_element : ℕ → List ℕ → ℕ → Graph → Graph
as_element p survivors size g = put_kind p element (put_degree p size (put_elements p [] (put_variables p survivors g)))
