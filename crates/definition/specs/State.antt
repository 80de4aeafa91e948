-- The state of the elimination, and how it starts: document 01, "Elimination rules", first two paragraphs.
-- Rows are numbered from 0.
-- Assumes nothing.
use Rattle.std.specs.Prelude.{ℕ, ◌+◌, Bool, true, false, cond, ◌||◌, ltb, eqb, length, get_or, set, replicate}
use mathlib.Core.List.{List, [], ◌∷◌, map, foldl}
use Rattle.std.proofs.Math.Option.{Option, none, some}
use Rattle.plain.specs.Lists.{up_to, keep, is_none}

-- What a row is: an active variable; merged into another row; an element, the row of the pivot that made it, or of a row of degree 0; dense.
-- No step of the elimination asks for it. The tree, the permutation and what is proved of the states go by it.
pub data Kind : Type 0 where
  variable merged element dense : Kind

-- A list with a place for each row.
-- `kinds`: what it is. `weights`: how many variables a variable stands for, and how many pivots an element has; 0 of a merged or a dense row.
-- `elements`: the elements of a variable. `variables`: the variables of a variable that stand in no element with it, and those of an element.
-- `parents`: the row that a merged row was merged into, and the element that took an element up; none of any other.
-- `degrees`: the bound on a variable's degree, and the remaining weight of an element. `reps`: the variable or the element that the row belongs to now.
pub record Graph : Type 0 where
  pub kinds : List Kind
  pub weights : List ℕ
  pub elements : List (List ℕ)
  pub variables : List (List ℕ)
  pub parents : List (Option ℕ)
  pub degrees : List ℕ
  pub reps : List ℕ

-- what an element adds to the statistics: its pivots, and its remaining weight, the dense rows not counted
pub record Front : Type 0 where
  pub row : ℕ
  pub pivots : ℕ
  pub rest : ℕ

-- `queues`: for each degree the list of the variables that have it, the front first. `least`: the remembered least degree.
-- `gone`: how many variables are eliminated or left unordered. `fronts`: the elements made, in order of birth; a row of degree 0 is none.
pub record State : Type 0 where
  pub graph : Graph
  pub queues : List (List ℕ)
  pub least : ℕ
  pub gone : ℕ
  pub fronts : List Front

-- ---- looking up

-- n
abbrev pub row_count : Graph → ℕ
row_count g = length g.weights

-- what row v is; past the end nothing of consequence
abbrev pub kind : Graph → ℕ → Kind
kind g v = get_or g.kinds v merged

-- the weight of a variable, the pivots of an element
abbrev pub weight : Graph → ℕ → ℕ
weight g v = get_or g.weights v 0

-- the elements of a variable, in the order of its list
abbrev pub elements_of : Graph → ℕ → List ℕ
elements_of g v = get_or g.elements v []

-- the variables of a variable or of an element, in the order of its list
abbrev pub variables_of : Graph → ℕ → List ℕ
variables_of g v = get_or g.variables v []

-- what a row was merged into, or which element took it up
abbrev pub parent : Graph → ℕ → Option ℕ
parent g v = get_or g.parents v none

-- the degree of a variable, the remaining weight of an element
abbrev pub degree : Graph → ℕ → ℕ
degree g v = get_or g.degrees v 0

-- what a row belongs to
abbrev pub rep : Graph → ℕ → ℕ
rep g v = get_or g.reps v 0

-- "principal", of a row in a list of variables: it is neither merged nor dense. An element has a weight too; none stands in such a list.
abbrev pub has_weight : Graph → ℕ → Bool
has_weight g v = ltb 0 (weight g v)

-- "live", of a row in a list of elements: no other element took it up
abbrev pub live : Graph → ℕ → Bool
live g e = is_none (parent g e)

-- an active variable
abbrev pub is_variable : Kind → Bool
is_variable variable = true
is_variable merged = false
is_variable element = false
is_variable dense = false

-- merged into another row
abbrev pub is_merged : Kind → Bool
is_merged variable = false
is_merged merged = true
is_merged element = false
is_merged dense = false

-- an element, taken up or not
abbrev pub is_element : Kind → Bool
is_element variable = false
is_element merged = false
is_element element = true
is_element dense = false

-- left unordered
abbrev pub is_dense : Kind → Bool
is_dense variable = false
is_dense merged = false
is_dense element = false
is_dense dense = true

-- ---- changing one place

-- v is of kind k
unfoldable pub put_kind : ℕ → Kind → Graph → Graph
put_kind v k g = record
    { kinds = set g.kinds v k; weights = g.weights; elements = g.elements; variables = g.variables; parents = g.parents; degrees = g.degrees; reps = g.reps }

-- v has weight w
unfoldable pub put_weight : ℕ → ℕ → Graph → Graph
put_weight v w g = record
    { kinds = g.kinds; weights = set g.weights v w; elements = g.elements; variables = g.variables; parents = g.parents; degrees = g.degrees; reps = g.reps }

-- v has the elements es
unfoldable pub put_elements : ℕ → List ℕ → Graph → Graph
put_elements v es g = record
    { kinds = g.kinds; weights = g.weights; elements = set g.elements v es; variables = g.variables; parents = g.parents; degrees = g.degrees; reps = g.reps }

-- v has the variables vs
unfoldable pub put_variables : ℕ → List ℕ → Graph → Graph
put_variables v vs g = record
    { kinds = g.kinds; weights = g.weights; elements = g.elements; variables = set g.variables v vs; parents = g.parents; degrees = g.degrees; reps = g.reps }

-- v has the parent p
unfoldable pub put_parent : ℕ → ℕ → Graph → Graph
put_parent v p g = record
    { kinds = g.kinds; weights = g.weights; elements = g.elements; variables = g.variables; parents = set g.parents v (some p); degrees = g.degrees; reps = g.reps }

-- v has degree d
unfoldable pub put_degree : ℕ → ℕ → Graph → Graph
put_degree v d g = record
    { kinds = g.kinds; weights = g.weights; elements = g.elements; variables = g.variables; parents = g.parents; degrees = set g.degrees v d; reps = g.reps }

-- all that belonged to v belongs to i
unfoldable pub put_reps : ℕ → ℕ → Graph → Graph
put_reps i v g = record
    { kinds = g.kinds; weights = g.weights; elements = g.elements; variables = g.variables; parents = g.parents; degrees = g.degrees; reps = map (λ r. cond (eqb r v) i r) g.reps }

-- v joins i: a merged row, weightless, whose weight i takes over
unfoldable pub merge_into : ℕ → ℕ → Graph → Graph
merge_into i v g = put_kind v merged (put_reps i v (put_parent v i (put_weight v 0 (put_weight i (weight g i + weight g v) g))))

-- ---- the degree lists

-- "the list of its degree"
abbrev pub queue_of : List (List ℕ) → ℕ → List ℕ
queue_of queues d = get_or queues d []

-- "goes to the front of the list of its degree"
unfoldable pub push_front : ℕ → ℕ → List (List ℕ) → List (List ℕ)
push_front d v queues = set queues d (v ∷ queue_of queues d)

-- ---- the start: "In ascending order: degree 0 is eliminated at once, as a root of size 1 that adds nothing to the statistics; a dense row leaves
-- unordered; any other goes to the front of the list of its degree."

-- how many neighbours row v has
abbrev pub start_degree : List (List ℕ) → ℕ → ℕ
start_degree nbrs v = length (get_or nbrs v [])

-- what row v is at the start: "degree 0 is eliminated at once", and "A row is dense if its degree is greater than the threshold."
unfoldable pub start_kind : ℕ → List (List ℕ) → ℕ → Kind
start_kind limit nbrs v = cond (eqb (start_degree nbrs v) 0) element (cond (ltb limit (start_degree nbrs v)) dense variable)

-- one variable each; "a dense row leaves unordered", with no weight
unfoldable pub start_weight : Kind → ℕ
start_weight variable = 1
start_weight merged = 0
start_weight element = 1
start_weight dense = 0

-- a variable "goes to the front of the list of its degree"
unfoldable pub enlist : ℕ → List (List ℕ) → List (List ℕ) → ℕ → List (List ℕ)
enlist limit nbrs queues v = cond (is_variable (start_kind limit nbrs v)) (push_front (start_degree nbrs v) v queues) queues

-- the rows that are no variable from the start
unfoldable pub at_once : ℕ → List (List ℕ) → List ℕ
at_once limit nbrs = keep (λ v. is_element (start_kind limit nbrs v) || is_dense (start_kind limit nbrs v)) (up_to (length nbrs))

-- "The remembered least degree starts at 0".
unfoldable pub started : ℕ → List (List ℕ) → State
started limit nbrs =
    let n = length nbrs in
    record {
      graph = record {
        kinds = map (start_kind limit nbrs) (up_to n);
        weights = map (λ v. start_weight (start_kind limit nbrs v)) (up_to n);
        elements = replicate n [];
        variables = nbrs;
        parents = replicate n none;
        degrees = map length nbrs;
        reps = up_to n;
      };
      queues = foldl (enlist limit nbrs) (replicate n []) (up_to n);
      least = 0;
      gone = length (at_once limit nbrs);
      fronts = [];
    }

-- the rows that left unordered, ascending
unfoldable pub dense_rows : Graph → List ℕ
dense_rows g = keep (λ v. is_dense (kind g v)) (up_to (row_count g))
