-- Step 6: only degrees change, and the pivot's row becomes the new element.
-- Assumes nothing.
use Prim.Native.Nat.{ℕ, ◌+◌, ◌-◌, ◌<◌, min}
use native.Mathlib.Omega.{arith}
use mathlib.Core.Path.{◌≡◌, refl, sym, ap, ◌∙◌}
use mathlib.Core.Logic.{◌≢◌}
use mathlib.Core.Bool.{true, false}
use mathlib.Core.List.{List, [], ◌∷◌}
use lib.Seq.{get_or-set_same, get_or-set_other}
use Rattle.plain.proofs.Folds.{everything, fold_other, foldl_keeps}
use Rattle.plain.proofs.Members.{no_member, member_cases}
use Rattle.plain.specs.Lists.{member}
use Rattle.plain.specs.Members.{Distinct}
use Rattle.definition.specs.State.{Graph, merged, element, kind, weight, elements_of, variables_of, degree, put_kind, put_elements, put_variables, put_degree}
use Rattle.definition.specs.Place.{Placed, new_degree, place_one, placed, as_element}
use Rattle.facts.proofs.Sizes.{sized_put_degree}
use Rattle.facts.specs.Invariant.{Sized}

-- all but the degrees is the same
pub record SameButDegrees (g h : Graph) : Type 0 where
  pub kinds : h.kinds ≡ g.kinds
  pub weights : h.weights ≡ g.weights
  pub elements : h.elements ≡ g.elements
  pub variables : h.variables ≡ g.variables
  pub parents : h.parents ≡ g.parents
  pub reps : h.reps ≡ g.reps

pub placed_same : (left size : ℕ) (vs : List ℕ) (q : Placed) → SameButDegrees q.graph (placed left size vs q).graph
unfolding placed place_one put_degree
placed_same left size vs q =
    foldl_keeps (λ (r : Placed). SameButDegrees q.graph r.graph) (λ v. Unit {0}) (place_one left size)
    (λ b v u k. record { kinds = k.kinds; weights = k.weights; elements = k.elements; variables = k.variables; parents = k.parents; reps = k.reps })
    vs q (everything vs) (record { kinds = refl; weights = refl; elements = refl; variables = refl; parents = refl; reps = refl })

place_other : (left size v : ℕ) (q : Placed) (w : ℕ) → w ≢ v → degree (place_one left size q w).graph v ≡ degree q.graph v
unfolding place_one put_degree
place_other left size v q w ne = get_or-set_other q.graph.degrees w v (new_degree left size q.graph w) 0 (λ e. ne (sym e))

pub placed_other : (left size v : ℕ) (vs : List ℕ) (q : Placed) → member v vs ≡ false → degree (placed left size vs q).graph v ≡ degree q.graph v
unfolding placed
placed_other left size v vs q m = fold_other (place_one left size) (λ (r : Placed). degree r.graph v) v (place_other left size v) vs m q

place_own : {n : ℕ} (left size v : ℕ) (q : Placed) → Sized n q.graph → v < n → degree (place_one left size q v).graph v ≡ new_degree left size q.graph v
unfolding place_one put_degree
place_own left size v q s l = get_or-set_same q.graph.degrees v (new_degree left size q.graph v) 0 (omega (arith, s.degrees))

-- the new degree goes by the row's own degree and weight, and these are the same until its turn
degree_ahead : (left size v : ℕ) (q : Placed) (w : ℕ) → w ≢ v → new_degree left size (place_one left size q w).graph v ≡ new_degree left size q.graph v
unfolding new_degree place_one put_degree
degree_ahead left size v q w ne =
    ap (λ (x : ℕ). min (x + size - weight q.graph v) (left - weight q.graph v)) (get_or-set_other q.graph.degrees w v _ 0 (λ e. ne (sym e)))

sized_place : {n : ℕ} (left size w : ℕ) (q : Placed) → Sized n q.graph → Sized n (place_one left size q w).graph
unfolding place_one
sized_place left size w q s = sized_put_degree w (new_degree left size q.graph w) q.graph s

pub placed_own : {n : ℕ} (left size v : ℕ) (vs : List ℕ) (q : Placed) → Sized n q.graph → v < n → Distinct vs → member v vs ≡ true
    → degree (placed left size vs q).graph v ≡ new_degree left size q.graph v
unfolding placed
placed_own left size v [] q s l d m = no_member v m
placed_own {n} left size v (w ∷ ws) q s l d m =
    member_cases (degree (placed left size ws (place_one left size q w)).graph v ≡ new_degree left size q.graph v) v w ws m
    (λ e. placed_other left size v ws (place_one left size q w) (ap (λ (z : ℕ). member z ws) e ∙ d.0)
    ∙ ap (λ (z : ℕ). degree (place_one left size q z).graph v) (sym e) ∙ place_own left size v q s l)
    (λ ne k. placed_own left size v ws (place_one left size q w) (sized_place left size w q s) l d.1 k ∙ degree_ahead left size v q w (λ e. ne (sym e)))

-- ---- the pivot's row

module _ (p : ℕ) (vs : List ℕ) (size : ℕ) (g : Graph) where
  pub element_weights : (as_element p vs size g).weights ≡ g.weights
  unfolding as_element put_kind put_elements put_variables put_degree
  element_weights = refl

  pub element_parents : (as_element p vs size g).parents ≡ g.parents
  unfolding as_element put_kind put_elements put_variables put_degree
  element_parents = refl

  pub element_reps : (as_element p vs size g).reps ≡ g.reps
  unfolding as_element put_kind put_elements put_variables put_degree
  element_reps = refl

  pub element_kind_other : (v : ℕ) → v ≢ p → kind (as_element p vs size g) v ≡ kind g v
  unfolding as_element put_kind put_elements put_variables put_degree
  element_kind_other v ne = get_or-set_other g.kinds p v element merged ne

  pub element_elements_other : (v : ℕ) → v ≢ p → elements_of (as_element p vs size g) v ≡ elements_of g v
  unfolding as_element put_kind put_elements put_variables put_degree
  element_elements_other v ne = get_or-set_other g.elements p v [] [] ne

  pub element_variables_other : (v : ℕ) → v ≢ p → variables_of (as_element p vs size g) v ≡ variables_of g v
  unfolding as_element put_kind put_elements put_variables put_degree
  element_variables_other v ne = get_or-set_other g.variables p v vs [] ne

  pub element_degree_other : (v : ℕ) → v ≢ p → degree (as_element p vs size g) v ≡ degree g v
  unfolding as_element put_kind put_elements put_variables put_degree
  element_degree_other v ne = get_or-set_other g.degrees p v size 0 ne

  module _ {n : ℕ} (s : Sized n g) (l : p < n) where
    pub element_kind : kind (as_element p vs size g) p ≡ element
    unfolding as_element put_kind put_elements put_variables put_degree
    element_kind = get_or-set_same g.kinds p element merged (omega (arith, s.kinds))

    pub element_variables : variables_of (as_element p vs size g) p ≡ vs
    unfolding as_element put_kind put_elements put_variables put_degree
    element_variables = get_or-set_same g.variables p vs [] (omega (arith, s.variables))

    pub element_elements : elements_of (as_element p vs size g) p ≡ []
    unfolding as_element put_kind put_elements put_variables put_degree
    element_elements = get_or-set_same g.elements p [] [] (omega (arith, s.elements))

    pub element_degree : degree (as_element p vs size g) p ≡ size
    unfolding as_element put_kind put_elements put_variables put_degree
    element_degree = get_or-set_same g.degrees p size 0 (omega (arith, s.degrees))
