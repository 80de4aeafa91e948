-- The graph after step 4 from the one before it: who is taken up, and what the pivot weighs.
-- Assumes nothing.
use Rattle.std.proofs.Common.{◌≡◌, ℕ, ◌+◌, ◌<◌, Bool, true, false, cond, not, ◌&&◌, ◌||◌, eqb, List, sym, refl, ap, ◌∙◌, arith, eq-eqb, eqb-true}
use mathlib.Core.Option.{some}
use mathlib.Core.Path.{subst⁻¹}
use Rattle.plain.proofs.Folds.{hits, hits_at, hits_where}
use Rattle.plain.proofs.Logic.{and_both, and_left, and_right, bool_ext, clash, none_if, not_back, or_cases, or_left, or_right}
use Rattle.plain.proofs.Members.{kept_both, kept_passes, member_kept, not_kept, not_kept_at}
use Rattle.plain.proofs.Sums.{total_keep, total_members, total_parts}
use Rattle.plain.specs.Lists.{is_none, keep, member, total}
use Rattle.plain.specs.Members.{In}
use Rattle.definition.specs.Pivot.{collected, passed}
use Rattle.definition.specs.State.{Graph, has_weight, is_element, is_merged, kind, live, parent, weight}
use Rattle.definition.specs.Trim.{dropped_elements}
use Rattle.facts.proofs.Collected.{collected_var, distinct_collected, pivot_outside}
use Rattle.facts.proofs.Invariant.{element_inside, var_not_element}
use Rattle.facts.proofs.Rows.{taken_at, trimmed_parent}
use Rattle.facts.proofs.Stepped.{after_merge, after_trim, dropped_was, is_dropped, is_mass, joined2, kind2, sized1, weight2}
use Rattle.facts.proofs.Weights.{conserved3}
use Rattle.facts.specs.Invariant.{Quotient, Var}

module _ {n : ℕ} (aggressive : Bool) (g : Graph) (p : ℕ) (q : Quotient n g) (pv : Var g p) where
  abbrev new : List ℕ
  new = collected g p

  abbrev g₂ : Graph
  g₂ = after_trim aggressive g p

  -- the rows that keep nothing
  abbrev mass_of : List ℕ
  mass_of = keep (is_mass aggressive g p) (collected g p)

  -- ---- elements that are taken up are elements

  pub dropped_element : (x : ℕ) → is_dropped aggressive g p x ≡ true → is_element (kind g x) ≡ true
  dropped_element x k =
      let r = hits_where (λ v. member x (dropped_elements aggressive (passed g p) new v)) new k in
      (q.elements_live r.0 x (collected_var q p pv r.0 r.1) (dropped_was aggressive g p q pv x r.0 r.2)).0

  pub dropped_inside : (x : ℕ) → is_dropped aggressive g p x ≡ true → x < n
  dropped_inside x k = element_inside q x (dropped_element x k)

  pub undropped : (x : ℕ) → is_element (kind g x) ≡ false → is_dropped aggressive g p x ≡ false
  undropped x k = none_if (is_dropped aggressive g p x) (λ e. clash (is_element (kind g x)) (dropped_element x e) k)

  pub var_undropped : (x : ℕ) → Var g x → is_dropped aggressive g p x ≡ false
  var_undropped x v = undropped x (var_not_element (kind g x) v)

  -- ---- the parents

  hit_is : (x : ℕ) → hits (taken_at aggressive (passed g p) p new x) new ≡ member x mass_of || is_dropped aggressive g p x
  hit_is x =
      bool_ext (hits (taken_at aggressive (passed g p) p new x) new) (member x mass_of || is_dropped aggressive g p x)
      (λ h.
      let r = hits_where (taken_at aggressive (passed g p) p new x) new h in
      or_cases (member x mass_of || is_dropped aggressive g p x ≡ true) (member x (dropped_elements aggressive (passed g p) new r.0)) (is_mass aggressive g p r.0 && eqb x r.0) r.2
      (λ k. or_right (member x mass_of) (is_dropped aggressive g p x) (hits_at (λ v. member x (dropped_elements aggressive (passed g p) new v)) r.0 new r.1 k))
      (λ k.
      let e : x ≡ r.0 = eqb-true x r.0 (and_right (is_mass aggressive g p r.0) (eqb x r.0) k) in
      or_left (member x mass_of) (is_dropped aggressive g p x)
      (subst⁻¹ (λ (y : ℕ). member y mass_of ≡ true) e (member_kept r.0 (is_mass aggressive g p) new (and_left (is_mass aggressive g p r.0) (eqb x r.0) k) r.1))))
      (λ h.
      or_cases (hits (taken_at aggressive (passed g p) p new x) new ≡ true) (member x mass_of) (is_dropped aggressive g p x) h
      (λ k.
      let r = kept_both x (is_mass aggressive g p) new k in
      hits_at (taken_at aggressive (passed g p) p new x) x new r.1
      (or_right (member x (dropped_elements aggressive (passed g p) new x)) (is_mass aggressive g p x && eqb x x) (and_both (is_mass aggressive g p x) (eqb x x) r.0 (eq-eqb x x refl))))
      (λ k.
      let r = hits_where (λ v. member x (dropped_elements aggressive (passed g p) new v)) new k in
      hits_at (taken_at aggressive (passed g p) p new x) r.0 new r.1
      (or_left (member x (dropped_elements aggressive (passed g p) new r.0)) (is_mass aggressive g p r.0 && eqb x r.0) r.2)))

  pub parent_after : (x : ℕ) → x < n → parent (after_trim aggressive g p) x
      ≡ cond (member x (keep (is_mass aggressive g p) (collected g p)) || is_dropped aggressive g p x) (some p) (parent (passed g p) x)
  parent_after x b =
      trimmed_parent aggressive (passed g p) p new (sized1 aggressive g p q pv) (distinct_collected g p) x b
      ∙ ap (λ (y : Bool). cond y (some p) (parent (passed g p) x)) (hit_is x)

  pub parent_still : (x : ℕ) → x < n → member x (collected g p) ≡ false → is_dropped aggressive g p x ≡ false → parent (after_trim aggressive g p) x ≡ parent (passed g p) x
  parent_still x b m k = parent_after x b ∙ rw (not_kept x (is_mass aggressive g p) new m, k)

  pub dropped_dead : (x : ℕ) → is_dropped aggressive g p x ≡ true → live (after_trim aggressive g p) x ≡ false
  dropped_dead x k =
      let z : parent g₂ x ≡ some p = parent_after x (dropped_inside x k) ∙ rw k (either_some (member x mass_of)) in
      ap is_none z
    where
      either_some : (u : Bool) → cond (u || true) (some p) (parent (passed g p) x) ≡ some p
      either_some true = refl
      either_some false = refl

  -- a row that is not merged keeps something
  pub stays_if : (x : ℕ) → In x (collected g p) → is_merged (kind (after_trim aggressive g p) x) ≡ false → is_mass aggressive g p x ≡ false
  stays_if x m k = none_if (is_mass aggressive g p x) (λ e. clash (is_merged (kind g₂ x)) (ap is_merged (kind2 aggressive g p q pv x m) ∙ rw e) k)

  -- ---- the weight of the pivot

  abbrev g₃ : Graph
  g₃ = after_merge (λ x. x) aggressive g p

  abbrev left : List ℕ
  left = keep (has_weight g₂) new

  abbrev others : List ℕ
  others = keep (λ v. not (has_weight g₂ v)) new

  pub pivot_takes : weight (after_trim aggressive g p) p ≡ weight g p + total (weight g) (keep (is_mass aggressive g p) (collected g p))
  pivot_takes =
      let j = joined2 aggressive g p q pv (λ x. x) in
      let a : weight g₃ p ≡ weight g₂ p = j.outside_weight p (not_kept p (has_weight g₂) new (pivot_outside g p)) in
      let c : total (weight g₃) left ≡ total (weight g₂) left = j.sums (λ x. true) (λ i k mi mk h. refl) in
      let d : total (weight g₃) others ≡ total (weight g₂) others =
      total_members (weight g₃) (weight g₂) others
      (λ v m. j.outside_weight v (not_kept_at v (has_weight g₂) new (not_back (has_weight g₂ v) (kept_passes v (λ x. not (has_weight g₂ x)) new m)))) in
      let e : total (weight g₂) new ≡ total (weight g) (keep (λ v. not (is_mass aggressive g p v)) new) =
      total_members (weight g₂) (λ v. cond (not (is_mass aggressive g p v)) (weight g v) 0) new (λ v m. weight2 aggressive g p q pv v m ∙ turned (is_mass aggressive g p v) (weight g v))
      ∙ sym (total_keep (weight g) (λ v. not (is_mass aggressive g p v)) new) in
      omega (
        arith,
        conserved3 (λ x. x) aggressive g p q pv,
        total_parts (weight g₃) (has_weight g₂) new,
        total_parts (weight g₂) (has_weight g₂) new,
        total_parts (weight g) (is_mass aggressive g p) new,
      )
    where
      turned : (u : Bool) (x : ℕ) → cond u 0 x ≡ cond (not u) x 0
      turned true x = refl
      turned false x = refl
