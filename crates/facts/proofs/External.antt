-- F6: the external size of an element is its weight less the weights of the collected variables that have it; and on the way no less than zero.
-- Assumes nothing.
use Prim.Native.Nat.{ℕ, ◌+◌, ◌≤◌}
use native.Mathlib.Omega.{arith}
use mathlib.Core.Path.{◌≡◌, ap, ◌∙◌}
use mathlib.Core.Bool.{Bool, cond, not}
use mathlib.Core.List.{List}
use Rattle.plain.proofs.Logic.{bool_ext}
use Rattle.plain.proofs.Members.{member_kept, kept_was, kept_passes}
use Rattle.plain.proofs.Repeats.{distinct_keep}
use Rattle.plain.proofs.Sums.{total_parts, total_keep, total_alike, total_members, total_within}
use Rattle.plain.specs.Lists.{member, keep, total}
use Rattle.plain.specs.Members.{Distinct, Within}
use Rattle.definition.specs.State.{Graph, weight, elements_of, variables_of, degree}
use Rattle.definition.specs.Pivot.{collected, passed}
use Rattle.definition.specs.Trim.{external}
use Rattle.facts.specs.Counter.{sharing, met}
use Rattle.facts.proofs.Collected.{collected_var, distinct_collected}
use Rattle.facts.proofs.Rows.{same_passed}
use Rattle.facts.specs.Invariant.{Var, Live, Quotient}

-- a sum over an element's list, part by part: within a list without repeats, and outside it
pub split_members : (f : ℕ → ℕ) (xs ys : List ℕ) → Distinct xs → Distinct ys
    → total f ys ≡ total (λ v. cond (member v ys) (f v) 0) xs + total f (keep (λ v. not (member v xs)) ys)
split_members f xs ys d e =
    total_parts f (λ v. member v xs) ys
    ∙ ap (λ (x : ℕ). x + total f (keep (λ v. not (member v xs)) ys))
    (total_alike f (keep (λ v. member v xs) ys) (keep (λ v. member v ys) xs)
    (distinct_keep (λ v. member v xs) ys e) (distinct_keep (λ v. member v ys) xs d)
    (λ x m. member_kept x (λ v. member v ys) xs (kept_was x (λ v. member v xs) ys m) (kept_passes x (λ v. member v xs) ys m))
    (λ x m. member_kept x (λ v. member v xs) ys (kept_was x (λ v. member v ys) xs m) (kept_passes x (λ v. member v ys) xs m))
    ∙ total_keep f (λ v. member v ys) xs)

module _ {n : ℕ} (g : Graph) (p : ℕ) (q : Quotient n g) (pv : Var g p) (e : ℕ) (le : Live g e) where
  -- among variables, to be in the element's list is to have it
  shares : (i : ℕ) → Var g i → member i (variables_of g e) ≡ member e (elements_of g i)
  shares i vi = bool_ext (member i (variables_of g e)) (member e (elements_of g i)) (λ m. q.members_know e i le m vi) (λ m. q.elements_have i e vi m)

  external_before : external (passed g p) (collected g p) e ≡ total (weight g) (keep (λ v. not (member v (collected g p))) (variables_of g e))
  unfolding external
  external_before = rw ((same_passed g p).weights, (same_passed g p).variables)

  -- F6
  pub counter : total (sharing g e) (met g p) + external (passed g p) (collected g p) e ≡ degree g e
  counter =
      let a = split_members (weight g) (collected g p) (variables_of g e) (distinct_collected g p) (q.distinct_members e le) in
      let b = total_members (λ v. cond (member v (variables_of g e)) (weight g v) 0) (sharing g e) (collected g p)
      (λ v m. ap (λ (x : Bool). cond x (weight g v) 0) (shares v (collected_var q p pv v m))) in
      omega (arith, a, b, external_before, q.element_weight e le)

  -- the counter of a program, which subtracts one after the other, never falls below zero
  pub counter_part : (xs : List ℕ) → Distinct xs → Within xs (met g p) → total (sharing g e) xs ≤ degree g e
  counter_part xs d w = omega (arith, counter, total_within (sharing g e) xs (collected g p) d (distinct_collected g p) w)
