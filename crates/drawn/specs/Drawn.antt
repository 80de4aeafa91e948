-- What the list space and the scratch hold of a graph: between two pivots, and within a pivot's step.
-- Assumes nothing.
use Rattle.std.specs.Prelude.{ℕ, ◌<◌, ◌≡◌, Bool, true, false, cond, not, ◌&&◌, List, [], ◌∷◌, ◌++◌, ℤ, length}
use Rattle.plain.specs.Lists.{member}
use Rattle.plain.specs.Turns.{upd}
use Rattle.definition.specs.State.{Graph, kind, weight, elements_of, variables_of, degree, has_weight, live, is_variable}
use Rattle.definition.specs.State as state
use Rattle.cells.specs.Layout.{LEN, WANT, ELEN, DEGREE, NV}
use Rattle.cells.specs.View.{rd}
use Rattle.cells.specs.Links.{parent}
use Rattle.packed.specs.Places.{Space}

-- the list that is held of row j: its elements, then its variables; none of a merged, a dense or an absorbed row
unfoldable pub list_of : Graph → ℕ → List ℕ
list_of g j = cond (has_weight g j && live g j) (elements_of g j ++ variables_of g j) []

-- the graph g, with the lists X and the rows of the new element that `new` has; cnt, base and lim are those of the list space
pub record Drawn (n : ℕ) (l s : List ℤ) (g : Graph) (X : ℕ → List ℕ) (new : ℕ → Bool) (cnt base lim : ℕ) : Type 0 where
  pub space : Space n X l s cnt base lim
  pub weights : (v : ℕ) → v < n → rd n NV s v ≡ weight g v
  pub wants : (v : ℕ) → v < n → rd n WANT s v ≡ cond (is_variable (kind g v) && not (new v)) (weight g v) 0
  pub elens : (v : ℕ) → is_variable (kind g v) ≡ true → rd n ELEN s v ≡ length (elements_of g v)
  pub degrees : (v : ℕ) → v < n → rd n DEGREE s v ≡ degree g v
  pub parents : (v : ℕ) → v < n → rd n LEN s v ≡ 0 → parent n s v ≡ state.parent g v

-- between two pivots
abbrev pub Rest : ℕ → List ℤ → List ℤ → Graph → ℕ → ℕ → ℕ → Type 0
Rest n l s g cnt base lim = Drawn n l s g (list_of g) (λ v. false) cnt base lim

-- Within the step of pivot p: its list is the new element's already, though its row of the graph changes only at the end. Nobody in it, and not the pivot, is wanted.
abbrev pub Within : ℕ → List ℤ → List ℤ → Graph → ℕ → List ℕ → ℕ → ℕ → ℕ → Type 0
Within n l s g p new cnt base lim = Drawn n l s g (upd (list_of g) p new) (λ v. member v (p ∷ new)) cnt base lim
