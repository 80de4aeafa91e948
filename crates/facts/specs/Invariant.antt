-- The invariant of the quotient graph, W1 to W10 of the proof plan, as a statement about the definition's states.
-- Assumes nothing.
use Rattle.std.specs.Prelude.{ℕ, ◌+◌, ◌≤◌, ◌<◌, ◌≡◌, true, false, cond, length}
use Rattle.plain.specs.Lists.{member, total, up_to}
use Rattle.plain.specs.Members.{Distinct}
use Rattle.definition.specs.State.{Graph, State, kind, weight, elements_of, variables_of, degree, live, is_variable, is_element, is_dense, queue_of}

-- ---- W1: every list has a place for each row

pub record Sized (n : ℕ) (g : Graph) : Type 0 where
  pub kinds : length g.kinds ≡ n
  pub weights : length g.weights ≡ n
  pub elements : length g.elements ≡ n
  pub variables : length g.variables ≡ n
  pub parents : length g.parents ≡ n
  pub degrees : length g.degrees ≡ n
  pub reps : length g.reps ≡ n

pub record SizedState (n : ℕ) (s : State) : Type 0 where
  pub graph : Sized n s.graph
  pub queues : length s.queues ≡ n

-- P of the plan: a variable that is still there
abbrev pub Var : Graph → ℕ → Type 0
Var g v = is_variable (kind g v) ≡ true

-- an element that no other took up. The plan's E, and its R, which has no variable left: what is said of both is true of R too.
abbrev pub Live : Graph → ℕ → Type 0
Live g e = (is_element (kind g e) ≡ true) × (live g e ≡ true)

pub record Quotient (n : ℕ) (g : Graph) : Type 0 where
  -- W1
  pub sized : Sized n g
  -- W2
  pub heavy : (v : ℕ) → Var g v → 1 ≤ weight g v
  pub light : (v : ℕ) → is_variable (kind g v) ≡ false → is_element (kind g v) ≡ false → weight g v ≡ 0
  -- a variable has no parent
  pub orphan : (v : ℕ) → Var g v → live g v ≡ true
  -- W3: of a variable, and of an element
  pub distinct_elements : (i : ℕ) → Var g i → Distinct (elements_of g i)
  pub distinct_variables : (i : ℕ) → Var g i → Distinct (variables_of g i)
  pub not_own : (i : ℕ) → Var g i → member i (variables_of g i) ≡ false
  pub inside_variables : (i j : ℕ) → Var g i → member j (variables_of g i) ≡ true → j < n
  pub distinct_members : (e : ℕ) → Live g e → Distinct (variables_of g e)
  pub inside_members : (e i : ℕ) → Live g e → member i (variables_of g e) ≡ true → i < n
  -- W4a, W4b
  pub elements_live : (i e : ℕ) → Var g i → member e (elements_of g i) ≡ true → Live g e
  pub elements_have : (i e : ℕ) → Var g i → member e (elements_of g i) ≡ true → member i (variables_of g e) ≡ true
  pub members_know : (e i : ℕ) → Live g e → member i (variables_of g e) ≡ true → Var g i → member e (elements_of g i) ≡ true
  -- W5a, W5b
  pub no_element : (i j : ℕ) → Var g i → member j (variables_of g i) ≡ true → is_element (kind g j) ≡ false
  pub mutual_variables : (i j : ℕ) → Var g i → member j (variables_of g i) ≡ true → Var g j → member i (variables_of g j) ≡ true
  -- W6: the sum is over all of the list; what is no variable there has weight 0, by W2 and W10
  pub element_weight : (e : ℕ) → Live g e → degree g e ≡ total (weight g) (variables_of g e)
  pub element_heavy : (e : ℕ) → Live g e → 0 < length (variables_of g e) → 1 ≤ degree g e
  -- W9
  pub nonempty : (i : ℕ) → Var g i → 0 < length (elements_of g i) + length (variables_of g i)
  -- W10
  pub members_kind : (e i : ℕ) → Live g e → member i (variables_of g e) ≡ true → is_element (kind g i) ≡ false
  pub members_ordered : (e i : ℕ) → Live g e → member i (variables_of g e) ≡ true → is_dense (kind g i) ≡ false

-- the weight of a row as far as it is a variable
abbrev pub var_weight : Graph → ℕ → ℕ
var_weight g v = cond (is_variable (kind g v)) (weight g v) 0

-- W7
abbrev pub Counted : ℕ → State → Type 0
Counted n s = total (var_weight s.graph) (up_to n) + s.gone ≡ n

-- W8
pub record Queued (n : ℕ) (s : State) : Type 0 where
  pub size : length s.queues ≡ n
  pub only : (d i : ℕ) → member i (queue_of s.queues d) ≡ true → Var s.graph i × (degree s.graph i ≡ d)
  pub all : (i : ℕ) → Var s.graph i → member i (queue_of s.queues (degree s.graph i)) ≡ true
  pub once : (d : ℕ) → Distinct (queue_of s.queues d)
  pub bounded : (i : ℕ) → Var s.graph i → (s.least ≤ degree s.graph i) × (degree s.graph i < n)

pub record Inv (n : ℕ) (s : State) : Type 0 where
  pub graph : Quotient n s.graph
  pub counted : Counted n s
  pub queued : Queued n s
