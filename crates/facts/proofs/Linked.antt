-- H5: every original edge stays covered. Its two rows belong to one row, or to neighbours, or to variables of one element, or one stands in the front of what the other
-- belongs to. Kept by a step.
-- Assumes nothing.
use Prim.Native.Nat.{ℕ, ◌<◌}
use mathlib.Core.Path.{◌≡◌, sym, ap, ◌∙◌}
use mathlib.Core.Logic.{◌≢◌}
use mathlib.Core.Bool.{Bool, true, false}
use mathlib.Core.List.{List}
use lib.Dec.{eqb}
use lib.ListN.{set}
use borrow.Author.Tests.{eqb-true, eqb-false}
use Rattle.plain.proofs.Logic.{either, clash, and_left, and_right, or_left, or_cases}
use Rattle.plain.proofs.Members.{member_append, member_left, member_right, member_here, member_there, member_rotate, none_of}
use Rattle.plain.specs.Lists.{member, rotate, is_empty}
use Rattle.plain.specs.Members.{In}
use Rattle.definition.specs.State.{Graph, kind, elements_of, variables_of, rep, is_variable, is_element}
use Rattle.definition.specs.Pivot.{collected}
use Rattle.facts.proofs.Belonging.{row_cases}
use Rattle.facts.proofs.Cases.{element_apart, element_outside}
use Rattle.facts.proofs.Collected.{collected_var, from_variables}
use Rattle.facts.proofs.Facts.{kept_element_lem, untaken_kept, kept_variable_lem, variable_kept}
use Rattle.facts.proofs.Followed.{Followed}
use Rattle.facts.proofs.Fronted.{Fronted, front_has, front_other, front_pivot, pivot_has}
use Rattle.facts.proofs.Invariant.{var_not_element}
use Rattle.facts.proofs.Preserved.{quotient_after}
use Rattle.facts.proofs.Raised.{element_stays, taken_members}
use Rattle.facts.proofs.Stepped.{kept_e, kept_v, is_taken, Stepped}
use Rattle.facts.specs.History.{front_at, front_of}
use Rattle.facts.specs.Invariant.{Var, Quotient}

-- u belongs to a, and v to b
pub data Linked (g : Graph) (fs : List (List ℕ)) (u v a b : ℕ) : Type 0 where
  together : a ≡ b → Linked g fs u v a b
  neighbours : Var g a → Var g b → member b (variables_of g a) ≡ true → member a (variables_of g b) ≡ true → Linked g fs u v a b
  in_element : (e : ℕ) → Var g a → Var g b → member e (elements_of g a) ≡ true → member e (elements_of g b) ≡ true → Linked g fs u v a b
  behind : is_element (kind g a) ≡ true → In v (front_of fs a) → Linked g fs u v a b
  before : is_element (kind g b) ≡ true → In u (front_of fs b) → Linked g fs u v a b

-- r was the pivot or collected: it goes to the pivot, or to one of the new element's variables
data Near (t : Graph) (p r : ℕ) : Type 0 where
  at_pivot : r ≡ p → Near t p r
  at_front : Var t r → member r (variables_of t p) ≡ true → member p (elements_of t r) ≡ true → Near t p r

module _ {n : ℕ} {aggressive : Bool} {g t : Graph} {p : ℕ} (q : Quotient n g) (pv : Var g p) (st : Stepped n aggressive g t p) (f : Followed n aggressive g t p) where
  near : (r : ℕ) → (r ≢ p → member r (collected g p) ≡ true) → Near t p (f.goes r)
  near r h =
      row_cases q pv st f (Near t p (f.goes r)) r
      (λ x. at_pivot (ap f.goes x ∙ f.of_pivot))
      (λ m e. at_pivot (f.of_mass r m e))
      (λ m e. let i = f.of_kept r m e in
      at_front i.remains (pivot_has q pv st f (f.goes r) i.chosen i.remains)
      (ap (member p) (st.new_elements (f.goes r) i.chosen i.no_mass) ∙ member_here p (rotate (kept_e aggressive g p (f.goes r)))))
      (λ ne m. clash (member r (collected g p)) (h ne) m)

  -- a variable of an element that is not taken goes to one
  goes_element : (e r : ℕ) → is_taken aggressive g p e ≡ false → Var g r → member e (elements_of g r) ≡ true → Var t (f.goes r) × (member e (elements_of t (f.goes r)) ≡ true)
  goes_element e r u vr m =
      row_cases q pv st f (Var t (f.goes r) × (member e (elements_of t (f.goes r)) ≡ true)) r
      (λ x. clash (is_taken aggressive g p e) (or_left (member e (elements_of g p)) _ (ap (λ (z : ℕ). member e (elements_of g z)) (sym x) ∙ m)) u)
      (λ c k. clash (member e (kept_e aggressive g p r)) (untaken_kept aggressive g p q pv r e c m u)
      (none_of (kept_e aggressive g p r) e (and_left (is_empty (kept_e aggressive g p r)) (is_empty (kept_v g p r)) k)))
      (λ c k. let i = f.of_kept r c k in
      let j = f.goes r in
      let vj = collected_var q p pv j i.chosen in
      let w = i.forth e (member_left e (kept_e aggressive g p r) (kept_v g p r) (untaken_kept aggressive g p q pv r e c m u)) in (
        i.remains,
        ap (member e) (st.new_elements j i.chosen i.no_mass)
            ∙ member_there e p (rotate (kept_e aggressive g p j))
            (member_rotate e (kept_e aggressive g p j)
            ∙ or_cases (member e (kept_e aggressive g p j) ≡ true) (member e (kept_e aggressive g p j)) (member e (kept_v g p j)) (sym (member_append e (kept_e aggressive g p j) (kept_v g p j)) ∙ w)
            (λ x. x)
            (λ x. clash (is_element (kind g e)) (q.elements_live r e vr m).0 (q.no_element j e vj (kept_variable_lem aggressive g p q pv j e x)))),
      ))
      (λ ne c. rw (f.of_other r ne c) (ap is_variable (st.still_kind r ne c) ∙ vr, ap (member e) (st.still_elements r ne c) ∙ m))

  -- a variable with a neighbour that is neither the pivot nor collected goes to one that has it
  goes_variable : (r w : ℕ) → Var g r → Var g w → w ≢ p → member w (collected g p) ≡ false → member w (variables_of g r) ≡ true
      → Var t (f.goes r) × (member w (variables_of t (f.goes r)) ≡ true)
  goes_variable r w vr vw nw cw m =
      row_cases q pv st f (Var t (f.goes r) × (member w (variables_of t (f.goes r)) ≡ true)) r
      (λ x. clash (member w (collected g p)) (from_variables q p pv w (ap (λ (z : ℕ). member w (variables_of g z)) (sym x) ∙ m) vw) cw)
      (λ c k. clash (member w (kept_v g p r)) (variable_kept aggressive g p q pv r w m vw nw cw)
      (none_of (kept_v g p r) w (and_right (is_empty (kept_e aggressive g p r)) (is_empty (kept_v g p r)) k)))
      (λ c k. let i = f.of_kept r c k in
      let j = f.goes r in
      let vj = collected_var q p pv j i.chosen in
      let z = i.forth w (member_right w (kept_e aggressive g p r) (kept_v g p r) (variable_kept aggressive g p q pv r w m vw nw cw)) in (
        i.remains,
        ap (member w) (st.new_variables j i.chosen i.no_mass)
            ∙ member_rotate w (kept_v g p j)
            ∙ or_cases (member w (kept_v g p j) ≡ true) (member w (kept_e aggressive g p j)) (member w (kept_v g p j)) (sym (member_append w (kept_e aggressive g p j) (kept_v g p j)) ∙ z)
            (λ x. clash (is_element (kind g w)) (q.elements_live j w vj (kept_element_lem aggressive g p q pv j w x)).0 (var_not_element (kind g w) vw))
            (λ x. x),
      ))
      (λ ne c. rw (f.of_other r ne c) (ap is_variable (st.still_kind r ne c) ∙ vr, ap (member w) (st.still_variables r ne c) ∙ m))

  module _ (fs : List (List ℕ)) (fd : Fronted n g fs) (u v : ℕ) (lu : u < n) (lv : v < n) where
    abbrev fs' : List (List ℕ)
    fs' = set fs p (front_at t p)

    abbrev Next : Type 0
    Next = Linked t fs' u v (f.goes (rep g u)) (f.goes (rep g v))

    in_pivot_front : (w : ℕ) → w < n → (e : ℕ) → e ≡ p → member (f.goes (rep g w)) (variables_of t p) ≡ true → In w (front_of fs' e)
    in_pivot_front w l e x m =
        ap (λ (z : ℕ). member w (front_of fs' z)) x ∙ ap (member w) (front_pivot q pv st f fs fd)
        ∙ front_has t p st.sized.weights w l (ap (λ (z : ℕ). member z (variables_of t p)) (f.follows w l) ∙ m)

    pivot_element : (e : ℕ) → e ≡ p → is_element (kind t e) ≡ true
    pivot_element e x = ap (λ (z : ℕ). is_element (kind t z)) x ∙ ap is_element st.pivot_kind

    both_near : Near t p (f.goes (rep g u)) → Near t p (f.goes (rep g v)) → Next
    both_near (at_pivot x) (at_pivot y) = together (x ∙ sym y)
    both_near (at_pivot x) (at_front a b c) = behind (pivot_element (f.goes (rep g u)) x) (in_pivot_front v lv (f.goes (rep g u)) x b)
    both_near (at_front a b c) (at_pivot y) = before (pivot_element (f.goes (rep g v)) y) (in_pivot_front u lu (f.goes (rep g v)) y b)
    both_near (at_front a b c) (at_front d e h) = in_element p a d c h

    abbrev Touched : ℕ → Type 0
    Touched r = r ≢ p → member r (collected g p) ≡ true

    touched_or : (P : Type 0) (r : ℕ) → (Touched r → P) → (r ≢ p → member r (collected g p) ≡ false → P) → P
    touched_or P r a b = either P (eqb r p) (λ x. a (λ ne. absurd (ne (eqb-true r p x))))
        (λ x. either P (member r (collected g p)) (λ m. a (λ ne. m)) (λ m. b (eqb-false r p x) m))

    t_mutual : (i j : ℕ) → Var t i → Var t j → member j (variables_of t i) ≡ true → member i (variables_of t j) ≡ true
    t_mutual i j vi vj m = (quotient_after q pv st).mutual_variables i j vi m vj

    still_var : (r : ℕ) → r ≢ p → member r (collected g p) ≡ false → Var g r → Var t (f.goes r)
    still_var r ne m h = rw (f.of_other r ne m) (ap is_variable (st.still_kind r ne m) ∙ h)

    pub linked_after : Linked g fs u v (rep g u) (rep g v) → Linked t fs' u v (rep t u) (rep t v)
    linked_after h = rw (f.follows u lu, f.follows v lv) (go h)
      where
        go : Linked g fs u v (rep g u) (rep g v) → Next
        go (together x) = together (ap f.goes x)
        go (neighbours va vb mb ma) =
            touched_or Next (rep g v)
            (λ tb. touched_or Next (rep g u) (λ ta. both_near (near (rep g u) ta) (near (rep g v) tb))
            (λ na ca.
            let z = goes_variable (rep g v) (rep g u) vb va na ca ma in
            let xa = still_var (rep g u) na ca va in
            let mz : member (f.goes (rep g u)) (variables_of t (f.goes (rep g v))) ≡ true = ap (λ (y : ℕ). member y (variables_of t (f.goes (rep g v)))) (f.of_other (rep g u) na ca) ∙ z.1 in
            neighbours xa z.0 (t_mutual (f.goes (rep g v)) (f.goes (rep g u)) z.0 xa mz) mz))
            (λ nb cb.
            let z = goes_variable (rep g u) (rep g v) va vb nb cb mb in
            let xb = still_var (rep g v) nb cb vb in
            let mz : member (f.goes (rep g v)) (variables_of t (f.goes (rep g u))) ≡ true = ap (λ (y : ℕ). member y (variables_of t (f.goes (rep g u)))) (f.of_other (rep g v) nb cb) ∙ z.1 in
            neighbours z.0 xb mz (t_mutual (f.goes (rep g u)) (f.goes (rep g v)) z.0 xb mz))
        go (in_element e va vb ma mb) =
            either Next (is_taken aggressive g p e)
            (λ k. both_near (near (rep g u) (taken_members q pv st f e (rep g u) k va ma)) (near (rep g v) (taken_members q pv st f e (rep g v) k vb mb)))
            (λ k. let x = goes_element e (rep g u) k va ma in
            let y = goes_element e (rep g v) k vb mb in
            in_element e x.0 y.0 x.1 y.1)
        go (behind h i) =
            let ne = element_apart q pv st (rep g u) h in
            let z = f.of_other (rep g u) ne (element_outside q pv st (rep g u) h) in
            behind (ap (λ (y : ℕ). is_element (kind t y)) z ∙ element_stays q pv st f (rep g u) h)
            (ap (λ (y : ℕ). member v (front_of fs' y)) z ∙ ap (member v) (front_other q pv st f fs fd (rep g u) ne) ∙ i)
        go (before h i) =
            let ne = element_apart q pv st (rep g v) h in
            let z = f.of_other (rep g v) ne (element_outside q pv st (rep g v) h) in
            before (ap (λ (y : ℕ). is_element (kind t y)) z ∙ element_stays q pv st f (rep g v) h)
            (ap (λ (y : ℕ). member u (front_of fs' y)) z ∙ ap (member u) (front_other q pv st f fs fd (rep g v) ne) ∙ i)
