-- Document 01, "Elimination rules", steps 3 and 4: external sizes, and what each collected variable keeps.
-- In this file g is the graph with the passed elements marked, p the pivot, and new the collected variables; h is the graph as it changes.
-- Assumes nothing.
use Rattle.std.specs.Prelude.{ℕ, ◌+◌, min, Bool, not, ◌&&◌, cond, eqb}
use mathlib.Core.List.{List, ◌∷◌, foldl}
use Rattle.plain.specs.Lists.{keep, member, total, rotate, is_empty}
use Rattle.definition.specs.State.{Graph, put_elements, weight, put_variables, elements_of, put_parent, variables_of, put_degree, degree, merge_into, has_weight, live}

-- ---- 3. "its external size is the weight of its variables outside the new element"

-- of element e, where new is the new element
unfoldable pub external : Graph → List ℕ → ℕ → ℕ
external g new e = total (weight g) (keep (λ v. not (member v new)) (variables_of g e))

-- ---- 4. what a variable keeps

-- "With aggressive on, an element of external size 0 is dropped"
abbrev pub swallowed : Bool → Graph → List ℕ → ℕ → Bool
swallowed aggressive g new e = aggressive && eqb (external g new e) 0

-- "Each collected variable keeps its live elements"
unfoldable pub kept_elements : Bool → Graph → List ℕ → ℕ → List ℕ
kept_elements aggressive g new v = keep (λ e. live g e && not (swallowed aggressive g new e)) (elements_of g v)

-- those of v that are dropped
unfoldable pub dropped_elements : Bool → Graph → List ℕ → ℕ → List ℕ
dropped_elements aggressive g new v = keep (λ e. live g e && swallowed aggressive g new e) (elements_of g v)

-- "then its neighbours that are principal and outside the new element": the pivot is outside no more
unfoldable pub kept_variables : Graph → ℕ → List ℕ → ℕ → List ℕ
kept_variables g p new v = keep (λ w. has_weight g w && not (member w (p ∷ new))) (variables_of g v)

-- "is dropped and becomes a child of the new one"
unfoldable pub drop_element : ℕ → Graph → ℕ → Graph
drop_element p h e = put_parent e p h

-- "Otherwise its degree becomes the smaller of the old and the sum of the kept elements' external sizes and the kept variables' weights; its list
-- becomes the new element first, the first kept element moved to the end of the elements, the first kept variable to the end of all."
unfoldable pub relist : Graph → ℕ → List ℕ → List ℕ → List ℕ → ℕ → Graph → Graph
relist g p new es vs v h =
    put_elements v (p ∷ rotate es)
    (put_variables v (rotate vs)
    (put_degree v (min (degree g v) (total (external g new) es + total (weight g) vs)) h))

-- "If nothing is kept, the variable is merged into the pivot (mass elimination)."
unfoldable pub trim_to : Graph → ℕ → List ℕ → List ℕ → List ℕ → ℕ → Graph → Graph
trim_to g p new es vs v h = cond (is_empty es && is_empty vs) (merge_into p v h) (relist g p new es vs v h)

-- one collected variable
unfoldable pub trim_one : Bool → Graph → ℕ → List ℕ → Graph → ℕ → Graph
trim_one aggressive g p new h v =
    trim_to g p new (kept_elements aggressive g new v) (kept_variables g p new v) v
    (foldl (drop_element p) h (dropped_elements aggressive g new v))

-- all of them, in order
unfoldable pub trimmed : Bool → Graph → ℕ → List ℕ → Graph
trimmed aggressive g p new = foldl (trim_one aggressive g p new) g new
