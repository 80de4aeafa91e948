-- What a variable and a live element after a step were before it, and the other way round.
-- Assumes nothing.
use Prim.Native.Nat.{ℕ, ◌≤◌}
use mathlib.Core.Path.{◌≡◌, refl, sym, ap, ◌∙◌}
use mathlib.Core.Logic.{◌≢◌}
use mathlib.Core.Bool.{Bool, true, false, cond, false≢true}
use mathlib.Core.Option.{Option, some}
use lib.Dec.{eqb}
use borrow.Author.Tests.{eqb-true, eqb-false}
use Rattle.plain.proofs.Folds.{hits_where}
use Rattle.plain.proofs.Logic.{either, clash, or_cases}
use Rattle.plain.specs.Lists.{member, is_none}
use Rattle.definition.specs.State.{Graph, kind, weight, elements_of, variables_of, parent, is_variable, is_element, is_dense}
use Rattle.definition.specs.Pivot.{collected, passed}
use Rattle.definition.specs.Trim.{dropped_elements}
use Rattle.facts.proofs.Invariant.{var_elsewhere, element_inside, var_not_element, var_not_dense}
use Rattle.facts.proofs.Collected.{collected_var}
use Rattle.facts.proofs.Stepped.{is_mass, is_taken, is_dropped, After, away, remains, Stepped, not_dropped, dropped_was}
use Rattle.facts.specs.Invariant.{Var, Live, Quotient}

taken_live : (b : Bool) (p : ℕ) (o : Option ℕ) → is_none (cond b (some p) o) ≡ true → (b ≡ false) × (is_none o ≡ true)
taken_live true p o h = absurd (false≢true h)
taken_live false p o h = (refl, h)

module _ {n : ℕ} {aggressive : Bool} {g t : Graph} {p : ℕ} (q : Quotient n g) (pv : Var g p) (st : Stepped n aggressive g t p) where
  pub pivot_no_var : (v : ℕ) → Var t v → v ≢ p
  pivot_no_var v h e = false≢true (sym (ap is_variable st.pivot_kind) ∙ ap (λ (z : ℕ). is_variable (kind t z)) (sym e) ∙ h)

  -- a variable was one before, and its row is as it was or it is collected and remains
  pub var_cases : (P : Type 0) (v : ℕ) → Var t v → (v ≢ p → member v (collected g p) ≡ false → Var g v → P)
      → (member v (collected g p) ≡ true → is_mass aggressive g p v ≡ false → weight g v ≤ weight t v → parent t v ≡ parent g v → P) → P
  var_cases P v h f k =
      let ne = pivot_no_var v h in
      either P (member v (collected g p)) (λ m. go m (st.after v m)) (λ m. f ne m (ap is_variable (sym (st.still_kind v ne m)) ∙ h))
    where
      go : member v (collected g p) ≡ true → After aggressive g t p v → P
      go m (away a b) = absurd (false≢true (sym (ap is_variable a) ∙ h))
      go m (remains a b c d) = k m a c d

  pub var_was : (v : ℕ) → Var t v → Var g v
  var_was v h = var_cases (Var g v) v h (λ ne m x. x) (λ m a b c. collected_var q p pv v m)

  -- a collected row is no element after the step, and not dense
  pub collected_no_element : (v : ℕ) → member v (collected g p) ≡ true → is_element (kind t v) ≡ false
  collected_no_element v m = go (st.after v m)
    where
      go : After aggressive g t p v → is_element (kind t v) ≡ false
      go (away a b) = ap is_element a
      go (remains a b c d) = ap is_element b ∙ var_not_element (kind g v) (collected_var q p pv v m)

  pub collected_not_dense : (v : ℕ) → member v (collected g p) ≡ true → is_dense (kind t v) ≡ false
  collected_not_dense v m = go (st.after v m)
    where
      go : After aggressive g t p v → is_dense (kind t v) ≡ false
      go (away a b) = ap is_dense a
      go (remains a b c d) = ap is_dense b ∙ var_not_dense (kind g v) (collected_var q p pv v m)

  -- dense rows stay, and no row becomes one
  pub dense_after : (v : ℕ) → is_dense (kind t v) ≡ is_dense (kind g v)
  dense_after v =
      either (is_dense (kind t v) ≡ is_dense (kind g v)) (eqb v p)
      (λ e. let x : v ≡ p = eqb-true v p e in rw x (ap is_dense st.pivot_kind ∙ sym (var_not_dense (kind g p) pv)))
      (λ e. either (is_dense (kind t v) ≡ is_dense (kind g v)) (member v (collected g p))
      (λ m. collected_not_dense v m ∙ sym (var_not_dense (kind g v) (collected_var q p pv v m)))
      (λ m. ap is_dense (st.still_kind v (eqb-false v p e) m)))

  -- a live element is the new one, or was live and is not taken
  pub live_cases : (P : Type 0) (e : ℕ) → Live t e → (e ≡ p → P) → (e ≢ p → member e (collected g p) ≡ false → Live g e → is_taken aggressive g p e ≡ false → P) → P
  live_cases P e h f k =
      either P (eqb e p) (λ x. f (eqb-true e p x))
      (λ x.
      let ne = eqb-false e p x in
      either P (member e (collected g p)) (λ m. clash (is_element (kind t e)) h.0 (collected_no_element e m))
      (λ m.
      let ke : is_element (kind g e) ≡ true = ap is_element (sym (st.still_kind e ne m)) ∙ h.0 in
      let r = taken_live (is_taken aggressive g p e) p (parent g e) (ap is_none (sym (st.still_parent e (element_inside q e ke) ne m)) ∙ h.1) in
      k ne m (ke, r.1) r.0))

  -- an element is neither the pivot nor collected
  pub element_apart : (e : ℕ) → is_element (kind g e) ≡ true → e ≢ p
  element_apart e h x = clash (is_element (kind g e)) h (ap (λ (z : ℕ). is_element (kind g z)) x ∙ var_not_element (kind g p) pv)

  pub element_outside : (e : ℕ) → is_element (kind g e) ≡ true → member e (collected g p) ≡ false
  element_outside e h =
      either (member e (collected g p) ≡ false) (member e (collected g p)) (λ m. clash (is_element (kind g e)) h (var_not_element (kind g e) (collected_var q p pv e m))) (λ m. m)

  pub live_after : (e : ℕ) → Live g e → is_taken aggressive g p e ≡ false → Live t e
  live_after e h u =
      let ne = element_apart e h.0 in
      let m = element_outside e h.0 in (
        ap is_element (st.still_kind e ne m) ∙ h.0,
        ap is_none (st.still_parent e (element_inside q e h.0) ne m ∙ ap (λ (b : Bool). cond b (some p) (parent g e)) u) ∙ h.1,
      )

  pub pivot_live : Live t p
  pivot_live = (ap is_element st.pivot_kind, ap is_none st.pivot_parent ∙ q.orphan p pv)

  -- no variable is taken as an element is
  pub var_untaken : (v : ℕ) → Var g v → is_taken aggressive g p v ≡ false
  var_untaken v h =
      either (is_taken aggressive g p v ≡ false) (is_taken aggressive g p v)
      (λ k. or_cases _ (member v (elements_of g p)) (is_dropped aggressive g p v) k
      (λ m. clash (member v (elements_of g p)) m (var_elsewhere q p v pv h))
      (λ m.
      let r = hits_where _ (collected g p) m in
      absurd (not_dropped aggressive g p q pv v r.0 h r.1 r.2)))
      (λ k. k)

  -- the row of an element that stays
  pub members_same : (e : ℕ) → Live g e → variables_of t e ≡ variables_of g e
  members_same e h = st.still_variables e (element_apart e h.0) (element_outside e h.0)

  -- who takes up what: an element that is taken is an element of a variable, so it is live and has a variable
  pub taken_known : (e : ℕ) → is_taken aggressive g p e ≡ true → (i : ℕ) × Var g i × (member e (elements_of g i) ≡ true)
  taken_known e k = or_cases ((i : ℕ) × Var g i × (member e (elements_of g i) ≡ true)) (member e (elements_of g p)) (is_dropped aggressive g p e) k
      (λ m. (p, pv, m))
      (λ m.
      let r = hits_where (λ v. member e (dropped_elements aggressive (passed g p) (collected g p) v)) (collected g p) m in
      (r.0, collected_var q p pv r.0 r.1, dropped_was aggressive g p q pv e r.0 r.2))
