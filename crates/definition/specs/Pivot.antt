-- Document 01, "Elimination rules", steps 1 and 2: the pivot, and what its new element collects.
-- Assumes nothing.
use Rattle.std.specs.Prelude.{ℕ, suc, Bool, not, ◌&&◌, cond, set, drop}
use mathlib.Core.List.{List, [], ◌∷◌, ◌++◌, foldl, flat_map}
use Rattle.plain.specs.Lists.{member, delete}
use Rattle.definition.specs.State.{Graph, State, elements_of, variables_of, degree, has_weight, put_parent, queue_of}

-- ---- 1. "The pivot is the front of the first nonempty degree list at or after the remembered least degree."

-- the pivot and its degree
pub data Found : Type 0 where
  nobody : Found
  found : ℕ → ℕ → Found

-- the front of the first nonempty list of these, whose first is that of degree d
unfoldable pub first_from : ℕ → List (List ℕ) → Found
first_from d [] = nobody
first_from d ([] ∷ queues) = first_from (suc d) queues
first_from d ((p ∷ ps) ∷ queues) = found p d

-- from the remembered least degree on
unfoldable pub pivot : State → Found
pivot s = first_from s.least (drop s.least s.queues)

-- ---- 2. the collected variables

-- "from its elements in order and then from its own variables"
unfoldable pub candidates : Graph → ℕ → List ℕ
candidates g p = flat_map (variables_of g) (elements_of g p) ++ variables_of g p

-- "each principal variable not yet collected": the pivot itself, which stands in its elements' lists, is none
abbrev pub wanted : Graph → ℕ → List ℕ → ℕ → Bool
wanted g p new v = has_weight g v && not (member v (p ∷ new))

-- a wanted one is put behind those collected so far
unfoldable pub collect_one : Graph → ℕ → List ℕ → ℕ → List ℕ
collect_one g p new v = cond (wanted g p new v) (new ++ (v ∷ [])) new

-- the new element's variables, in the order in which they are collected
unfoldable pub collected : Graph → ℕ → List ℕ
collected g p = foldl (collect_one g p) [] (candidates g p)

-- "The elements passed become its children."
unfoldable pub pass_one : ℕ → Graph → ℕ → Graph
pass_one p g e = put_parent e p g

-- each element of the pivot becomes a child of the new one
unfoldable pub passed : Graph → ℕ → Graph
passed g p = foldl (pass_one p) g (elements_of g p)

-- "Collected variables leave their degree lists", and so does the pivot.
unfoldable pub delist : Graph → List (List ℕ) → ℕ → List (List ℕ)
delist g queues v = set queues (degree g v) (delete v (queue_of queues (degree g v)))

-- each of vs leaves the list of its degree
unfoldable pub delisted : Graph → List (List ℕ) → List ℕ → List (List ℕ)
delisted g queues vs = foldl (delist g) queues vs
