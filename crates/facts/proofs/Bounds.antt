-- Bounds that a program needs, from the invariant: weights and degrees of elements stay below what is left, so that no difference in step 6 falls below zero.
-- Assumes nothing.
use Prim.Native.Nat.{ℕ, ◌+◌, ◌≤◌, ◌<◌}
use native.Mathlib.Omega.{arith}
use mathlib.Core.Path.{◌≡◌, sym, ap, ◌∙◌}
use mathlib.Core.Bool.{Bool, true, cond}
use mathlib.Core.List.{◌∷◌}
use lib.ListN.{length}
use Rattle.plain.proofs.Logic.{either}
use Rattle.plain.proofs.Members.{member_count_up, member_cases}
use Rattle.plain.proofs.Repeats.{distinct_count_up, length_below}
use Rattle.plain.proofs.Sums.{one_below, total_members, total_within}
use Rattle.plain.specs.Lists.{member, up_to}
use Rattle.definition.specs.State.{State, kind, weight, variables_of, elements_of, degree, is_variable}
use Rattle.facts.proofs.Invariant.{var_inside, element_inside}
use Rattle.facts.specs.Invariant.{Var, Live, Inv, var_weight}

module _ {n : ℕ} (s : State) (v : Inv n s) where
  -- what is left has room for each variable: nv ≤ left
  pub weight_left : (i : ℕ) → Var s.graph i → s.gone + weight s.graph i ≤ n
  weight_left i h =
      let l = var_inside v.graph i h in
      let b = one_below (var_weight s.graph) i (up_to n) (member_count_up i 0 n (omega arith) (omega arith)) in
      let w : var_weight s.graph i ≡ weight s.graph i = ap (λ (x : Bool). cond x (weight s.graph i) 0) h in
      omega (arith, v.counted)

  member_weight : (e i : ℕ) → Live s.graph e → member i (variables_of s.graph e) ≡ true → weight s.graph i ≡ var_weight s.graph i
  member_weight e i l m =
      either (weight s.graph i ≡ var_weight s.graph i) (is_variable (kind s.graph i))
      (λ h. ap (λ (x : Bool). cond x (weight s.graph i) 0) (sym h))
      (λ h. v.graph.light i h (v.graph.members_kind e i l m) ∙ ap (λ (x : Bool). cond x (weight s.graph i) 0) (sym h))

  -- and for each live element
  pub element_left : (e : ℕ) → Live s.graph e → s.gone + degree s.graph e ≤ n
  element_left e l =
      let a = total_members (weight s.graph) (var_weight s.graph) (variables_of s.graph e) (λ i m. member_weight e i l m) in
      let b = total_within (var_weight s.graph) (variables_of s.graph e) (up_to n) (v.graph.distinct_members e l) (distinct_count_up 0 n)
      (λ x m. member_count_up x 0 n (omega arith) (omega (arith, v.graph.inside_members e x l m))) in
      omega (arith, a, b, v.counted, v.graph.element_weight e l)

  -- a variable weighs no more than an element that it is in: nv ≤ rw
  pub weight_element : (e i : ℕ) → Live s.graph e → member i (variables_of s.graph e) ≡ true → weight s.graph i ≤ degree s.graph e
  weight_element e i l m = omega (arith, one_below (weight s.graph) i (variables_of s.graph e) m, v.graph.element_weight e l)

  -- the lists have fewer than n entries
  pub short_variables : (i : ℕ) → Var s.graph i → length (variables_of s.graph i) < n
  short_variables i h =
      let k = length_below n (i ∷ variables_of s.graph i) (v.graph.not_own i h, v.graph.distinct_variables i h)
      (λ x m. member_cases (x < n) x i (variables_of s.graph i) m (λ e. rw e (var_inside v.graph i h)) (λ ne k. v.graph.inside_variables i x h k)) in
      omega (arith, k)

  pub short_elements : (i : ℕ) → Var s.graph i → length (elements_of s.graph i) ≤ n
  short_elements i h = length_below n (elements_of s.graph i) (v.graph.distinct_elements i h) (λ x m. element_inside v.graph x (v.graph.elements_live i x h m).0)

  pub short_members : (e : ℕ) → Live s.graph e → length (variables_of s.graph e) ≤ n
  short_members e l = length_below n (variables_of s.graph e) (v.graph.distinct_members e l) (λ x m. v.graph.inside_members e x l m)
