-- A2: where all are gone there is no variable, and no live element has a member of weight.
-- Assumes nothing.
use Prim.Native.Nat.{ℕ, zero, suc}
use native.Mathlib.Omega.{arith}
use mathlib.Core.Path.{◌≡◌, refl, ap, ◌∙◌}
use mathlib.Core.Bool.{Bool, false, cond}
use lib.ListN.{length}
use Rattle.plain.proofs.Logic.{either}
use Rattle.plain.proofs.Members.{member_count_up}
use Rattle.plain.proofs.Sums.{one_below, total_zero}
use Rattle.plain.specs.Lists.{up_to}
use Rattle.definition.specs.State.{State, kind, weight, variables_of, degree, is_variable}
use Rattle.facts.proofs.Invariant.{var_inside}
use Rattle.facts.specs.Invariant.{Live, Inv, var_weight}

module _ {n : ℕ} (s : State) (v : Inv n s) (all_gone : s.gone ≡ n) where
  pub no_variable : (i : ℕ) → is_variable (kind s.graph i) ≡ false
  no_variable i = either (is_variable (kind s.graph i) ≡ false) (is_variable (kind s.graph i))
      (λ h.
      let l = var_inside v.graph i h in
      let b = one_below (var_weight s.graph) i (up_to n) (member_count_up i 0 n (omega arith) (omega arith)) in
      let w : var_weight s.graph i ≡ weight s.graph i = ap (λ (x : Bool). cond x (weight s.graph i) 0) h in
      absurd (omega (arith, v.counted, v.graph.heavy i h)))
      (λ h. h)

  -- the plan's E is empty: an element that is still there has no variable in its list
  pub no_members : (e : ℕ) → Live s.graph e → length (variables_of s.graph e) ≡ 0
  no_members e l = go (length (variables_of s.graph e)) refl
    where
      nothing : degree s.graph e ≡ 0
      nothing = v.graph.element_weight e l
          ∙ total_zero (weight s.graph) (variables_of s.graph e) (λ i m. v.graph.light i (no_variable i) (v.graph.members_kind e i l m))

      go : (k : ℕ) → length (variables_of s.graph e) ≡ k → length (variables_of s.graph e) ≡ 0
      go zero h = h
      go (suc k) h = absurd (omega (arith, nothing, v.graph.element_heavy e l (omega arith)))
