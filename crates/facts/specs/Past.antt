-- What is true of the history of a run, the plan's H0 to H5, stated of a state and what is told beside it.
-- Assumes nothing.
use Rattle.std.specs.Prelude.{ℕ, ◌<◌, ◌≡◌, true, List, [], length, get_or}
use Rattle.std.proofs.Math.Option.{none, some}
use Rattle.plain.specs.Lists.{member}
use Rattle.definition.specs.State.{Graph, State, variable, element, dense, row_count, kind, weight, degree, parent, rep, elements_of, variables_of}
use Rattle.facts.specs.History.{rows_of, front_of, born_at}

module _ (s : State) (fronts : List (List ℕ)) where
  abbrev g : Graph
  g = s.graph

  abbrev n : ℕ
  n = row_count s.graph

  abbrev in_front : ℕ → ℕ → Type 0
  in_front v e = member v (front_of fronts e) ≡ true

  abbrev Active : ℕ → Type 0
  Active v = kind s.graph v ≡ variable

  abbrev Element : ℕ → Type 0
  Element v = kind s.graph v ≡ element

  abbrev Live : ℕ → Type 0
  Live e = Element e × (parent s.graph e ≡ none)

  pub data Owner (v : ℕ) : Type 0 where
    an_active : Active v → Owner v
    an_element : Element v → Owner v

  -- a row that is not dense belongs to an active variable or an element; these belong to themselves, and weigh as many rows as belong to them
  pub record H0 : Type 0 where
    pub owned : (v : ℕ) → v < n → (kind s.graph v ≡ dense → ⊥) → Owner (rep s.graph v)
    pub own : (v : ℕ) → v < n → Owner v → rep s.graph v ≡ v
    pub weighs : (v : ℕ) → v < n → Owner v → weight s.graph v ≡ length (rows_of s.graph v)

  -- the front of a live element is what belongs to its variables, at all times
  pub record H1 : Type 0 where
    pub inside : (e v : ℕ) → e < n → v < n → Live e → in_front v e → Active (rep s.graph v) × (member (rep s.graph v) (variables_of s.graph e) ≡ true)
    pub back : (e v : ℕ) → e < n → v < n → Live e → Active (rep s.graph v) → member (rep s.graph v) (variables_of s.graph e) ≡ true → in_front v e

  pub data Above (p v : ℕ) : Type 0 where
    its_pivot : rep s.graph v ≡ p → Above p v
    its_front : in_front v p → Above p v

  -- a parent is born later, and what stands in the front of its child is a pivot or in the front of it
  pub record H2 : Type 0 where
    pub later : (e p : ℕ) → e < n → Element e → parent s.graph e ≡ some p → born_at s e < born_at s p
    pub passes : (e p v : ℕ) → e < n → v < n → Element e → parent s.graph e ≡ some p → in_front v e → Above p v

  -- a front that no variable is left of, of an element that nothing took up, is empty
  unfoldable pub H3 : Type 0
  H3 = (e : ℕ) → e < n → Live e → variables_of s.graph e ≡ [] → front_of fronts e ≡ []

  -- a front has as many rows as the element's remaining weight
  unfoldable pub H4 : Type 0
  H4 = (e : ℕ) → e < n → Element e → length (front_of fronts e) ≡ degree s.graph e

  -- how two rows of an edge of A + A' stand to one another, neither dense: by what they belong to
  pub data Joined (u v : ℕ) : Type 0 where
    together : rep s.graph u ≡ rep s.graph v → Joined u v
    neighbours : Active (rep s.graph u) → Active (rep s.graph v)
        → member (rep s.graph v) (variables_of s.graph (rep s.graph u)) ≡ true
        → member (rep s.graph u) (variables_of s.graph (rep s.graph v)) ≡ true → Joined u v
    in_element : (e : ℕ) → Active (rep s.graph u) → Active (rep s.graph v)
        → member e (elements_of s.graph (rep s.graph u)) ≡ true
        → member e (elements_of s.graph (rep s.graph v)) ≡ true → Joined u v
    behind : Element (rep s.graph u) → in_front v (rep s.graph u) → Joined u v
    before : Element (rep s.graph v) → in_front u (rep s.graph v) → Joined u v

  unfoldable pub H5 : List (List ℕ) → Type 0
  H5 nbrs = (u v : ℕ) → u < n → v < n → member v (get_or nbrs u []) ≡ true
      → (kind s.graph u ≡ dense → ⊥) → (kind s.graph v ≡ dense → ⊥) → Joined u v
