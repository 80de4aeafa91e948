-- Theorem A1, W7: the weight of the variables falls by what the pivot has after the step.
-- Assumes nothing.
use Prim.Native.Nat.{ℕ, ◌+◌, ◌<◌}
use native.Mathlib.Omega.{arith}
use mathlib.Core.Path.{◌≡◌, sym, ap, ◌∙◌}
use mathlib.Core.Bool.{Bool, true, false, cond, not}
use mathlib.Core.List.{◌∷◌}
use Rattle.plain.proofs.Logic.{not_back}
use Rattle.plain.proofs.Members.{not_here, not_there, member_cases, kept_passes}
use Rattle.plain.proofs.Sums.{total_members, total_rows}
use Rattle.plain.specs.Lists.{member, keep, total, up_to}
use Rattle.plain.specs.Members.{Distinct}
use Rattle.definition.specs.State.{Graph, Kind, kind, weight, is_variable}
use Rattle.definition.specs.Pivot.{collected}
use Rattle.facts.proofs.Invariant.{var_inside}
use Rattle.facts.proofs.Collected.{collected_var, distinct_collected, pivot_outside}
use Rattle.facts.proofs.Stepped.{Stepped, After, away, remains}
use Rattle.facts.specs.Invariant.{Var, Quotient, var_weight}

module _ {n : ℕ} {aggressive : Bool} {g t : Graph} {p : ℕ} (q : Quotient n g) (pv : Var g p) (st : Stepped n aggressive g t p) where
  all_inside : (x : ℕ) → member x (p ∷ collected g p) ≡ true → x < n
  all_inside x m = member_cases (x < n) x p (collected g p) m (λ e. rw e (var_inside q p pv)) (λ ne k. var_inside q x (collected_var q p pv x k))

  var_weight_before : (v : ℕ) → Var g v → var_weight g v ≡ weight g v
  var_weight_before v h = ap (λ (b : Bool). cond b (weight g v) 0) h

  var_weight_after : (v : ℕ) → member v (collected g p) ≡ true → var_weight t v ≡ weight t v
  var_weight_after v m = go (st.after v m)
    where
      go : After aggressive g t p v → var_weight t v ≡ weight t v
      go (away a b) = ap (λ (k : Kind). cond (is_variable k) (weight t v) 0) a ∙ sym b
      go (remains a b c d) = ap (λ (x : Bool). cond x (weight t v) 0) (ap is_variable b ∙ collected_var q p pv v m)

  rest_same : total (var_weight t) (keep (λ v. not (member v (p ∷ collected g p))) (up_to n)) ≡ total (var_weight g) (keep (λ v. not (member v (p ∷ collected g p))) (up_to n))
  rest_same = total_members (var_weight t) (var_weight g) (keep (λ v. not (member v (p ∷ collected g p))) (up_to n))
      (λ v m.
      let out : member v (p ∷ collected g p) ≡ false = not_back (member v (p ∷ collected g p)) (kept_passes v (λ x. not (member x (p ∷ collected g p))) (up_to n) m) in
      let ne = not_here v p (collected g p) out in
      let nc = not_there v p (collected g p) out in
      ap (λ (k : Kind). cond (is_variable k) (weight t v) 0) (st.still_kind v ne nc) ∙ ap (λ (w : ℕ). cond (is_variable (kind g v)) w 0) (st.still_weight v ne nc))

  pub count_after : total (var_weight t) (up_to n) + weight t p ≡ total (var_weight g) (up_to n)
  unfolding total
  count_after =
      let d : Distinct (p ∷ collected g p) = (pivot_outside g p, distinct_collected g p) in
      let a : var_weight t p ≡ 0 = ap (λ (k : Kind). cond (is_variable k) (weight t p) 0) st.pivot_kind in
      let b : var_weight g p ≡ weight g p = var_weight_before p pv in
      let c : total (var_weight t) (collected g p) ≡ total (weight t) (collected g p) = total_members (var_weight t) (weight t) (collected g p) var_weight_after in
      let e : total (var_weight g) (collected g p) ≡ total (weight g) (collected g p) =
      total_members (var_weight g) (weight g) (collected g p) (λ v m. var_weight_before v (collected_var q p pv v m)) in
      let r : total (var_weight t) (up_to n) ≡ var_weight t p + total (var_weight t) (collected g p) + total (var_weight t) (keep (λ v. not (member v (p ∷ collected g p))) (up_to n)) =
      total_rows (var_weight t) (p ∷ collected g p) d all_inside in
      let u : total (var_weight g) (up_to n) ≡ var_weight g p + total (var_weight g) (collected g p) + total (var_weight g) (keep (λ v. not (member v (p ∷ collected g p))) (up_to n)) =
      total_rows (var_weight g) (p ∷ collected g p) d all_inside in
      omega (arith, rest_same, st.conserved)
