-- What is remembered of a run, beside it: of each element its front, row by row, as it was when the element was born. For the fill bound.
-- The order of birth is that of the state's `fronts`, the remaining weight is `rest` there, and the rows of an element are those that `reps` gives it.
-- Assumes nothing.
use Rattle.std.specs.Prelude.{ℕ, Bool, List, [], map, eqb, length, get_or, set, replicate}
use Rattle.plain.specs.Lists.{up_to, keep, member, position}
use Rattle.definition.specs.Elimination.{beside}
use Rattle.definition.specs.Pivot.{Found, nobody, found}
use Rattle.definition.specs.State.{Graph, State, row_count, variables_of, rep, started}

-- the rows that belong to e
unfoldable pub rows_of : Graph → ℕ → List ℕ
rows_of g e = keep (λ v. eqb e (rep g v)) (up_to (row_count g))

-- the rows that belong to a variable of e
unfoldable pub front_at : Graph → ℕ → List ℕ
front_at g e = keep (λ v. member (rep g v) (variables_of g e)) (up_to (row_count g))

-- a list with a place for each row: the front of an element, and nothing of any other
unfoldable pub history_step : State → Found → State → List (List ℕ) → List (List ℕ)
history_step s nobody t h = h
history_step s (found p d) t h = set h p (front_at t.graph p)

-- after at most k pivots from the start
unfoldable pub history_at : (ℕ → ℕ) → Bool → ℕ → List (List ℕ) → ℕ → List (List ℕ)
history_at key_of aggressive limit nbrs k =
    beside history_step key_of k (length nbrs) aggressive (started limit nbrs) (replicate (length nbrs) [])

unfoldable pub history : (ℕ → ℕ) → Bool → ℕ → List (List ℕ) → List (List ℕ)
history key_of aggressive limit nbrs = history_at key_of aggressive limit nbrs (length nbrs)

abbrev pub front_of : List (List ℕ) → ℕ → List ℕ
front_of h e = get_or h e []

-- the elements in order of birth, and the place of e among them
unfoldable pub born_of : State → List ℕ
born_of s = map (λ f. f.row) s.fronts

unfoldable pub born_at : State → ℕ → ℕ
born_at s e = position e (born_of s)
