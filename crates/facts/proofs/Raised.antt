-- H2, and how elements are born: a parent is born later than its child, and what stands in the front of a child belongs to the parent or stands in its front.
-- An element that was never born, a row of degree 0, has no variable, no parent, and no other row. Kept by a step.
-- Assumes nothing.
use Prim.Native.Nat.{ℕ, ◌<◌}
use native.Mathlib.Omega.{arith}
use mathlib.Core.Path.{◌≡◌, refl, sym, ap, ◌∙◌}
use mathlib.Core.Logic.{◌≢◌, ◌⊎◌, inl, inr}
use mathlib.Core.Bool.{Bool, true, false, cond, false≢true}
use mathlib.Core.List.{List, [], ◌∷◌, ◌++◌}
use mathlib.Core.Option.{Option, none, some}
use lib.Dec.{eqb}
use lib.ListN.{set}
use borrow.Author.Tests.{eqb-true, eqb-false}
use Rattle.plain.proofs.Logic.{either, clash, or_elim, none_if}
use Rattle.plain.proofs.Members.{member_left, member_right, member_here, append_either, member_either, no_member, not_in}
use Rattle.plain.proofs.Positions.{position_left, position_right, position_is}
use Rattle.plain.proofs.Repeats.{distinct_snoc}
use Rattle.plain.specs.Lists.{member, position, is_none}
use Rattle.plain.specs.Members.{In, Distinct}
use Rattle.definition.specs.State.{Graph, kind, weight, elements_of, variables_of, parent, rep, is_element}
use Rattle.definition.specs.Pivot.{collected}
use Rattle.facts.proofs.Belonging.{row_cases}
use Rattle.facts.proofs.Cases.{element_apart, element_outside, collected_no_element, taken_known}
use Rattle.facts.proofs.Facts.{outside_untaken}
use Rattle.facts.proofs.Followed.{Followed}
use Rattle.facts.proofs.Fronted.{Fronted, front_has, front_other, front_pivot, pivot_has}
use Rattle.facts.proofs.Invariant.{element_inside, var_not_element}
use Rattle.facts.proofs.Stepped.{is_taken, Stepped}
use Rattle.facts.specs.History.{front_at, front_of}
use Rattle.facts.specs.Invariant.{Var, Live, Quotient}

pub record Raised (g : Graph) (fs : List (List ℕ)) (born : List ℕ) : Type 0 where
  pub once : Distinct born
  pub made : (e : ℕ) → In e born → is_element (kind g e) ≡ true
  pub above : (e c : ℕ) → is_element (kind g e) ≡ true → parent g e ≡ some c → In c born
  -- H2
  pub later : (e c : ℕ) → is_element (kind g e) ≡ true → parent g e ≡ some c → position e born < position c born
  pub passes : (e c v : ℕ) → is_element (kind g e) ≡ true → parent g e ≡ some c → In v (front_of fs e) → (rep g v ≡ c) ⊎ In v (front_of fs c)
  -- an element that was never born
  pub no_parent : (e : ℕ) → is_element (kind g e) ≡ true → member e born ≡ false → parent g e ≡ none
  pub no_variable : (e i : ℕ) → is_element (kind g e) ≡ true → member e born ≡ false → member i (variables_of g e) ≡ true → ⊥
  pub one_row : (e : ℕ) → is_element (kind g e) ≡ true → member e born ≡ false → weight g e ≡ 1

some_none : {o : Option ℕ} {c : ℕ} → o ≡ some c → o ≡ none → ⊥
some_none a b = let z : ◌≡◌ {A = ℕ} 0 1 = cc in omega arith

module _ {n : ℕ} {aggressive : Bool} {g t : Graph} {p : ℕ} (q : Quotient n g) (pv : Var g p) (st : Stepped n aggressive g t p) (f : Followed n aggressive g t p) where
  -- ---- elements after a step

  -- the pivot, or one that was there; its row stays
  pub element_cases : (P : Type 0) (e : ℕ) → is_element (kind t e) ≡ true → (e ≡ p → P) → (e ≢ p → member e (collected g p) ≡ false → is_element (kind g e) ≡ true → P) → P
  element_cases P e h a b =
      either P (eqb e p) (λ x. a (eqb-true e p x))
      (λ x. let ne = eqb-false e p x in
      either P (member e (collected g p)) (λ m. clash (is_element (kind t e)) h (collected_no_element q pv st e m))
      (λ m. b ne m (ap is_element (sym (st.still_kind e ne m)) ∙ h)))

  pub element_stays : (e : ℕ) → is_element (kind g e) ≡ true → is_element (kind t e) ≡ true
  element_stays e h = ap is_element (st.still_kind e (element_apart q pv st e h) (element_outside q pv st e h)) ∙ h

  -- the variables of an element that is taken are the pivot and collected ones: F3, and the external size of 0
  pub taken_members : (e i : ℕ) → is_taken aggressive g p e ≡ true → Var g i → member e (elements_of g i) ≡ true → i ≢ p → member i (collected g p) ≡ true
  taken_members e i k vi m ne = either (member i (collected g p) ≡ true) (member i (collected g p)) (λ c. c)
      (λ c. clash (is_taken aggressive g p e) k (outside_untaken aggressive g p q pv i e vi ne c m))

  module _ (fs : List (List ℕ)) (fd : Fronted n g fs) (born : List ℕ) (ra : Raised g fs born) where
    abbrev fs' : List (List ℕ)
    fs' = set fs p (front_at t p)

    abbrev born' : List ℕ
    born' = born ++ (p ∷ [])

    pivot_unborn : member p born ≡ false
    pivot_unborn = not_in p born (λ m. clash (is_element (kind g p)) (ra.made p m) (var_not_element (kind g p) pv))

    pub born_before : (e : ℕ) → member e born' ≡ false → member e born ≡ false
    born_before e h = not_in e born (λ m. clash (member e born') (member_left e born (p ∷ []) m) h)

    pub pivot_born : In p born'
    pivot_born = member_right p born (p ∷ []) (member_here p [])

    not_pivot : (e : ℕ) → member e born' ≡ false → e ≢ p
    not_pivot e h x = clash (member e born') (ap (λ (z : ℕ). member z born') x ∙ pivot_born) h

    -- the parent of an element after a step: the pivot where it is taken, or what it was
    parent_cases : (P : Type 0) (e c : ℕ) → is_element (kind t e) ≡ true → parent t e ≡ some c
        → (is_element (kind g e) ≡ true → e ≢ p → is_taken aggressive g p e ≡ true → c ≡ p → P)
        → (is_element (kind g e) ≡ true → e ≢ p → parent g e ≡ some c → P) → P
    parent_cases P e c h r a b =
        element_cases P e h
        (λ x. absurd (has_none (parent t p) (ap is_none st.pivot_parent ∙ q.orphan p pv) (ap (parent t) (sym x) ∙ r)))
        (λ ne m k.
        let z : cond (is_taken aggressive g p e) (some p) (parent g e) ≡ some c = sym (st.still_parent e (element_inside q e k) ne m) ∙ r in
        either P (is_taken aggressive g p e)
        (λ y. a k ne y (sym (inner (ap (λ (b : Bool). cond b (some p) (parent g e)) (sym y) ∙ z))))
        (λ y. b k ne (ap (λ (b : Bool). cond b (some p) (parent g e)) (sym y) ∙ z)))
      where
        has_none : (o : Option ℕ) → is_none o ≡ true → o ≡ some c → ⊥
        has_none none k x = some_none x refl
        has_none (some y) k x = absurd (false≢true k)

        inner : {x y : ℕ} → some x ≡ some y → x ≡ y
        inner k = cc

    taken_born : (e : ℕ) → is_element (kind g e) ≡ true → is_taken aggressive g p e ≡ true → In e born
    taken_born e h k = either (In e born) (member e born) (λ m. m)
        (λ m. let z = taken_known q pv st e k in absurd (ra.no_variable e z.0 h m (q.elements_have z.0 e z.1 z.2)))

    later' : (e c : ℕ) → is_element (kind t e) ≡ true → parent t e ≡ some c → position e born' < position c born'
    later' e c h r = parent_cases (position e born' < position c born') e c h r
        (λ k ne y x.
        let m = taken_born e k y in
        rw x (omega (
          arith,
          position_left e born (p ∷ []) m,
          (position_is e born m).0,
          position_right p born (p ∷ []) (λ z. clash (member p born) z pivot_unborn),
        )))
        (λ k ne x.
        let mc = ra.above e c k x in
        let me : In e born = either (In e born) (member e born) (λ m. m) (λ m. absurd (some_none x (ra.no_parent e k m))) in
        omega (arith, position_left e born (p ∷ []) me, position_left c born (p ∷ []) mc, ra.later e c k x))

    passes' : (e c v : ℕ) → is_element (kind t e) ≡ true → parent t e ≡ some c → In v (front_of fs' e) → (rep t v ≡ c) ⊎ In v (front_of fs' c)
    passes' e c v h r i = parent_cases ((rep t v ≡ c) ⊎ In v (front_of fs' c)) e c h r
        (λ k ne y x.
        let iv : In v (front_of fs e) = ap (member v) (sym (front_other q pv st f fs fd e ne)) ∙ i in
        let lv : v < n = fd.below e v iv in
        let z = taken_known q pv st e y in
        let le : Live g e = q.elements_live z.0 e z.1 z.2 in
        let w = fd.inside e v le iv in
        let me : member e (elements_of g (rep g v)) ≡ true = q.members_know e (rep g v) le w.1 w.0 in
        rw (x, f.follows v lv)
        (row_cases q pv st f ((f.goes (rep g v) ≡ p) ⊎ In v (front_of fs' p)) (rep g v)
        (λ u. inl (ap f.goes u ∙ f.of_pivot))
        (λ m u. inl (f.of_mass (rep g v) m u))
        (λ m u. let j = f.of_kept (rep g v) m u in
        inr (ap (member v) (front_pivot q pv st f fs fd)
        ∙ front_has t p st.sized.weights v lv (ap (λ (d : ℕ). member d (variables_of t p)) (f.follows v lv) ∙ pivot_has q pv st f (f.goes (rep g v)) j.chosen j.remains)))
        (λ np m. clash (member (rep g v) (collected g p)) (taken_members e (rep g v) y w.0 me np) m)))
        (λ k ne x.
        let iv : In v (front_of fs e) = ap (member v) (sym (front_other q pv st f fs fd e ne)) ∙ i in
        let lv : v < n = fd.below e v iv in
        let ec = ra.made c (ra.above e c k x) in
        let nc = element_apart q pv st c ec in
        or_elim ((rep t v ≡ c) ⊎ In v (front_of fs' c)) (ra.passes e c v k x iv)
        (λ u. inl (f.follows v lv ∙ ap f.goes u ∙ f.of_other c nc (element_outside q pv st c ec)))
        (λ u. inr (ap (member v) (front_other q pv st f fs fd c nc) ∙ u)))

    pub raised_after : Raised t fs' born'
    raised_after = record {
      once = distinct_snoc p born ra.once pivot_unborn;
      made = λ e m. or_elim (is_element (kind t e) ≡ true) (append_either e born (p ∷ []) m)
          (λ x. element_stays e (ra.made e x))
          (λ x. or_elim (is_element (kind t e) ≡ true) (member_either e p [] x) (λ y. ap (λ (z : ℕ). is_element (kind t z)) y ∙ ap is_element st.pivot_kind) (λ y. no_member e y));
      above = λ e c h r. parent_cases (In c born') e c h r
          (λ k ne y x. ap (λ (z : ℕ). member z born') x ∙ pivot_born)
          (λ k ne x. member_left c born (p ∷ []) (ra.above e c k x));
      later = later';
      passes = passes';
      no_parent = λ e h m. element_cases (parent t e ≡ none) e h (λ x. absurd (not_pivot e m x))
          (λ ne mc k. let u = born_before e m in
          st.still_parent e (element_inside q e k) ne mc
          ∙ ap (λ (b : Bool). cond b (some p) (parent g e)) (none_if (is_taken aggressive g p e) (λ y. clash (member e born) (taken_born e k y) u))
          ∙ ra.no_parent e k u);
      no_variable = λ e i h m mi. element_cases ⊥ e h (λ x. not_pivot e m x)
          (λ ne mc k. ra.no_variable e i k (born_before e m) (ap (member i) (sym (st.still_variables e ne mc)) ∙ mi));
      one_row = λ e h m. element_cases (weight t e ≡ 1) e h (λ x. absurd (not_pivot e m x))
          (λ ne mc k. st.still_weight e ne mc ∙ ra.one_row e k (born_before e m));
    }
