-- Theorem A1, first part: W2 to W6, W9 and W10 hold after a step.
-- Assumes nothing.
use Prim.Native.Nat.{ℕ, ◌+◌, ◌≤◌, ◌<◌}
use native.Mathlib.Omega.{arith}
use mathlib.Core.Path.{◌≡◌, sym, ap, ◌∙◌}
use mathlib.Core.Logic.{◌≢◌}
use mathlib.Core.Bool.{Bool, true, false, cond, not}
use mathlib.Core.List.{List, [], ◌∷◌, ◌++◌}
use mathlib.Core.Option.{some}
use lib.Dec.{eqb}
use lib.ListN.{length}
use borrow.Author.Tests.{eqb-true, eqb-false, ltb-true, lt-ltb}
use Rattle.plain.proofs.Logic.{either, clash, not_back, or_left, or_cases, bool_ext}
use Rattle.plain.proofs.Members.{member_append, member_here, member_there, member_cases, member_rotate, member_kept, kept_was, kept_passes, apart}
use Rattle.plain.proofs.Repeats.{distinct_keep, distinct_rotate}
use Rattle.plain.proofs.Sums.{one_below, total_members}
use Rattle.plain.specs.Lists.{member, keep, rotate, is_none, total}
use Rattle.plain.specs.Members.{Distinct, Within}
use Rattle.definition.specs.State.{Graph, kind, weight, elements_of, variables_of, parent, degree, has_weight, live, is_variable, is_element, is_dense}
use Rattle.definition.specs.Pivot.{collected}
use Rattle.facts.proofs.Merging.{part}
use Rattle.facts.proofs.Invariant.{var_inside, var_elsewhere}
use Rattle.facts.proofs.Collected.{collected_var, distinct_collected}
use Rattle.facts.proofs.External.{split_members}
use Rattle.facts.proofs.Stepped.{kept_e, kept_v, is_mass, is_taken, After, away, remains, Stepped}
use Rattle.facts.proofs.Facts.{kept_element_lem, kept_untaken, untaken_kept, kept_variable_lem, kept_variable_apart, kept_variable_outside, kept_variable_var, variable_kept, outside_untaken, outside_variables, mass_elements, kept_distinct, kept_distinct_variables}
use Rattle.facts.proofs.Cases.{var_cases, collected_no_element, collected_not_dense, live_cases, live_after, pivot_live, var_untaken, members_same}
use Rattle.facts.specs.Invariant.{Var, Live, Quotient}

module _ {n : ℕ} {aggressive : Bool} {g t : Graph} {p : ℕ} (q : Quotient n g) (pv : Var g p) (st : Stepped n aggressive g t p) where
  -- ---- the lists of a collected variable that remains

  in_elements : (i e : ℕ) → member i (collected g p) ≡ true → is_mass aggressive g p i ≡ false → (P : Type 0) → member e (elements_of t i) ≡ true
      → (e ≡ p → P) → (member e (kept_e aggressive g p i) ≡ true → P) → P
  in_elements i e m nm P h f k =
      member_cases P e p (rotate (kept_e aggressive g p i)) (ap (member e) (sym (st.new_elements i m nm)) ∙ h) f
      (λ ne r. k (sym (member_rotate e (kept_e aggressive g p i)) ∙ r))

  in_variables : (i j : ℕ) → member i (collected g p) ≡ true → is_mass aggressive g p i ≡ false → member j (variables_of t i) ≡ true → member j (kept_v g p i) ≡ true
  in_variables i j m nm h = sym (member_rotate j (kept_v g p i)) ∙ ap (member j) (sym (st.new_variables i m nm)) ∙ h

  -- a member of the new element
  pub in_pivot : (i : ℕ) → member i (variables_of t p) ≡ true → (member i (collected g p) ≡ true) × (0 < weight t i)
  in_pivot i h =
      let k : member i (keep (has_weight t) (collected g p)) ≡ true = ap (member i) (sym st.pivot_members) ∙ h in
      (kept_was i (has_weight t) (collected g p) k, ltb-true 0 (weight t i) (kept_passes i (has_weight t) (collected g p) k))

  -- ---- W2

  heavy' : (v : ℕ) → Var t v → 1 ≤ weight t v
  heavy' v h = var_cases q pv st (1 ≤ weight t v) v h (λ ne m x. rw (st.still_weight v ne m) (q.heavy v x)) (λ m a b c. omega (arith, q.heavy v (collected_var q p pv v m)))

  light' : (v : ℕ) → is_variable (kind t v) ≡ false → is_element (kind t v) ≡ false → weight t v ≡ 0
  light' v h k =
      either (weight t v ≡ 0) (eqb v p)
      (λ x. clash (is_element (kind t v)) (ap (λ (z : ℕ). is_element (kind t z)) (eqb-true v p x) ∙ ap is_element st.pivot_kind) k)
      (λ x.
      let ne = eqb-false v p x in
      either (weight t v ≡ 0) (member v (collected g p)) (λ m. go m (st.after v m))
      (λ m. st.still_weight v ne m ∙ q.light v (ap is_variable (sym (st.still_kind v ne m)) ∙ h) (ap is_element (sym (st.still_kind v ne m)) ∙ k)))
    where
      go : member v (collected g p) ≡ true → After aggressive g t p v → weight t v ≡ 0
      go m (away a b) = b
      go m (remains a b c d) = clash (is_variable (kind t v)) (ap is_variable b ∙ collected_var q p pv v m) h

  orphan' : (v : ℕ) → Var t v → live t v ≡ true
  orphan' v h =
      var_cases q pv st (live t v ≡ true) v h
      (λ ne m x. ap is_none (st.still_parent v (var_inside q v x) ne m ∙ ap (λ (b : Bool). cond b (some p) (parent g v)) (var_untaken q pv st v x)) ∙ q.orphan v x)
      (λ m a b c. ap is_none c ∙ q.orphan v (collected_var q p pv v m))

  -- ---- W3

  pivot_not_kept : (i : ℕ) → Var g i → member p (rotate (kept_e aggressive g p i)) ≡ false
  pivot_not_kept i h =
      member_rotate p (kept_e aggressive g p i)
      ∙ either (member p (kept_e aggressive g p i) ≡ false) (member p (kept_e aggressive g p i))
      (λ k. clash (member p (elements_of g i)) (kept_element_lem aggressive g p q pv i p k) (var_elsewhere q i p h pv)) (λ k. k)

  distinct_elements' : (i : ℕ) → Var t i → Distinct (elements_of t i)
  distinct_elements' i h =
      var_cases q pv st (Distinct (elements_of t i)) i h
      (λ ne m x. rw (st.still_elements i ne m) (q.distinct_elements i x))
      (λ m a b c.
      let x = collected_var q p pv i m in
      rw (st.new_elements i m a) (pivot_not_kept i x, distinct_rotate (kept_e aggressive g p i) (kept_distinct aggressive g p q pv i x)))

  distinct_variables' : (i : ℕ) → Var t i → Distinct (variables_of t i)
  distinct_variables' i h =
      var_cases q pv st (Distinct (variables_of t i)) i h
      (λ ne m x. rw (st.still_variables i ne m) (q.distinct_variables i x))
      (λ m a b c. rw (st.new_variables i m a) (distinct_rotate (kept_v g p i) (kept_distinct_variables aggressive g p q pv i (collected_var q p pv i m))))

  not_own' : (i : ℕ) → Var t i → member i (variables_of t i) ≡ false
  not_own' i h =
      var_cases q pv st (member i (variables_of t i) ≡ false) i h
      (λ ne m x. ap (member i) (st.still_variables i ne m) ∙ q.not_own i x)
      (λ m a b c. either (member i (variables_of t i) ≡ false) (member i (variables_of t i))
      (λ k. clash (member i (collected g p)) m (kept_variable_outside aggressive g p q pv i i (in_variables i i m a k))) (λ k. k))

  inside_variables' : (i j : ℕ) → Var t i → member j (variables_of t i) ≡ true → j < n
  inside_variables' i j h k =
      var_cases q pv st (j < n) i h
      (λ ne m x. q.inside_variables i j x (ap (member j) (sym (st.still_variables i ne m)) ∙ k))
      (λ m a b c. q.inside_variables i j (collected_var q p pv i m) (kept_variable_lem aggressive g p q pv i j (in_variables i j m a k)))

  distinct_members' : (e : ℕ) → Live t e → Distinct (variables_of t e)
  distinct_members' e h =
      live_cases q pv st (Distinct (variables_of t e)) e h
      (λ x. rw (x, st.pivot_members) (distinct_keep (has_weight t) (collected g p) (distinct_collected g p)))
      (λ ne m l u. rw (members_same q pv st e l) (q.distinct_members e l))

  inside_members' : (e i : ℕ) → Live t e → member i (variables_of t e) ≡ true → i < n
  inside_members' e i h k =
      live_cases q pv st (i < n) e h
      (λ x. var_inside q i (collected_var q p pv i (in_pivot i (ap (λ (z : ℕ). member i (variables_of t z)) (sym x) ∙ k)).0))
      (λ ne m l u. q.inside_members e i l (ap (member i) (sym (members_same q pv st e l)) ∙ k))

  -- ---- W4

  elements_live' : (i e : ℕ) → Var t i → member e (elements_of t i) ≡ true → Live t e
  elements_live' i e h k =
      var_cases q pv st (Live t e) i h
      (λ ne m x.
      let r : member e (elements_of g i) ≡ true = ap (member e) (sym (st.still_elements i ne m)) ∙ k in
      live_after q pv st e (q.elements_live i e x r) (outside_untaken aggressive g p q pv i e x ne m r))
      (λ m a b c. in_elements i e m a (Live t e) k
      (λ x. rw x (pivot_live q pv st))
      (λ r. live_after q pv st e (q.elements_live i e (collected_var q p pv i m) (kept_element_lem aggressive g p q pv i e r))
      (kept_untaken aggressive g p q pv i e (collected_var q p pv i m) r)))

  elements_have' : (i e : ℕ) → Var t i → member e (elements_of t i) ≡ true → member i (variables_of t e) ≡ true
  elements_have' i e h k =
      var_cases q pv st (member i (variables_of t e) ≡ true) i h
      (λ ne m x.
      let r : member e (elements_of g i) ≡ true = ap (member e) (sym (st.still_elements i ne m)) ∙ k in
      ap (member i) (members_same q pv st e (q.elements_live i e x r)) ∙ q.elements_have i e x r)
      (λ m a b c.
      let vi = collected_var q p pv i m in
      in_elements i e m a (member i (variables_of t e) ≡ true) k
      (λ x. rw (x, st.pivot_members) (member_kept i (has_weight t) (collected g p) (lt-ltb 0 (weight t i) (omega (arith, q.heavy i vi))) m))
      (λ r.
      let me = kept_element_lem aggressive g p q pv i e r in
      ap (member i) (members_same q pv st e (q.elements_live i e vi me)) ∙ q.elements_have i e vi me))

  members_know' : (e i : ℕ) → Live t e → member i (variables_of t e) ≡ true → Var t i → member e (elements_of t i) ≡ true
  members_know' e i h k v =
      live_cases q pv st (member e (elements_of t i) ≡ true) e h
      (λ x.
      let mi : member i (collected g p) ≡ true = (in_pivot i (ap (λ (z : ℕ). member i (variables_of t z)) (sym x) ∙ k)).0 in
      var_cases q pv st (member e (elements_of t i) ≡ true) i v
      (λ ne m y. clash (member i (collected g p)) mi m)
      (λ m a b c. rw (x, st.new_elements i m a) (member_here p (rotate (kept_e aggressive g p i)))))
      (λ ne m l u.
      let r : member i (variables_of g e) ≡ true = ap (member i) (sym (members_same q pv st e l)) ∙ k in
      var_cases q pv st (member e (elements_of t i) ≡ true) i v
      (λ ni mi y. ap (member e) (st.still_elements i ni mi) ∙ q.members_know e i l r y)
      (λ mi a b c. ap (member e) (st.new_elements i mi a)
      ∙ member_there e p (rotate (kept_e aggressive g p i))
      (member_rotate e (kept_e aggressive g p i) ∙ untaken_kept aggressive g p q pv i e mi (q.members_know e i l r (collected_var q p pv i mi)) u)))

  -- ---- W5

  no_element' : (i j : ℕ) → Var t i → member j (variables_of t i) ≡ true → is_element (kind t j) ≡ false
  no_element' i j h k =
      var_cases q pv st (is_element (kind t j) ≡ false) i h
      (λ ne m x.
      let r : member j (variables_of g i) ≡ true = ap (member j) (sym (st.still_variables i ne m)) ∙ k in
      either (is_element (kind t j) ≡ false) (member j (collected g p)) (λ mj. collected_no_element q pv st j mj)
      (λ mj. ap is_element (st.still_kind j (λ y. apart p j (variables_of g i) (outside_variables aggressive g p q pv i x m) r (sym y)) mj) ∙ q.no_element i j x r))
      (λ m a b c.
      let r = in_variables i j m a k in
      ap is_element (st.still_kind j (kept_variable_apart aggressive g p q pv i j r) (kept_variable_outside aggressive g p q pv i j r))
      ∙ q.no_element i j (collected_var q p pv i m) (kept_variable_lem aggressive g p q pv i j r))

  mutual' : (i j : ℕ) → Var t i → member j (variables_of t i) ≡ true → Var t j → member i (variables_of t j) ≡ true
  mutual' i j h k v =
      var_cases q pv st (member i (variables_of t j) ≡ true) i h
      (λ ne m x.
      let r : member j (variables_of g i) ≡ true = ap (member j) (sym (st.still_variables i ne m)) ∙ k in
      var_cases q pv st (member i (variables_of t j) ≡ true) j v
      (λ nj mj y. ap (member i) (st.still_variables j nj mj) ∙ q.mutual_variables i j x r y)
      (λ mj a b c. ap (member i) (st.new_variables j mj a)
      ∙ member_rotate i (kept_v g p j)
      ∙ variable_kept aggressive g p q pv j i (q.mutual_variables i j x r (collected_var q p pv j mj)) x ne m))
      (λ m a b c.
      let r = in_variables i j m a k in
      let vi = collected_var q p pv i m in
      ap (member i) (st.still_variables j (kept_variable_apart aggressive g p q pv i j r) (kept_variable_outside aggressive g p q pv i j r))
      ∙ q.mutual_variables i j vi (kept_variable_lem aggressive g p q pv i j r) (kept_variable_var aggressive g p q pv i j vi r))

  -- ---- W9

  nonempty' : (i : ℕ) → Var t i → 0 < length (elements_of t i) + length (variables_of t i)
  nonempty' i h =
      var_cases q pv st (0 < length (elements_of t i) + length (variables_of t i)) i h
      (λ ne m x. rw (st.still_elements i ne m, st.still_variables i ne m) (q.nonempty i x))
      (λ m a b c. rw (st.new_elements i m a) (omega arith))

  -- ---- W10

  -- the pivot is in no element that stays
  pub pivot_no_member : (e i : ℕ) → Live g e → is_taken aggressive g p e ≡ false → member i (variables_of g e) ≡ true → i ≢ p
  pivot_no_member e i l u r x =
      clash (is_taken aggressive g p e)
      (or_left (member e (elements_of g p)) _ (q.members_know e p l (ap (λ (z : ℕ). member z (variables_of g e)) (sym x) ∙ r) pv)) u

  members_kind' : (e i : ℕ) → Live t e → member i (variables_of t e) ≡ true → is_element (kind t i) ≡ false
  members_kind' e i h k =
      live_cases q pv st (is_element (kind t i) ≡ false) e h
      (λ x. collected_no_element q pv st i (in_pivot i (ap (λ (z : ℕ). member i (variables_of t z)) (sym x) ∙ k)).0)
      (λ ne m l u.
      let r : member i (variables_of g e) ≡ true = ap (member i) (sym (members_same q pv st e l)) ∙ k in
      either (is_element (kind t i) ≡ false) (member i (collected g p)) (λ mi. collected_no_element q pv st i mi)
      (λ mi. ap is_element (st.still_kind i (pivot_no_member e i l u r) mi) ∙ q.members_kind e i l r))

  members_ordered' : (e i : ℕ) → Live t e → member i (variables_of t e) ≡ true → is_dense (kind t i) ≡ false
  members_ordered' e i h k =
      live_cases q pv st (is_dense (kind t i) ≡ false) e h
      (λ x. collected_not_dense q pv st i (in_pivot i (ap (λ (z : ℕ). member i (variables_of t z)) (sym x) ∙ k)).0)
      (λ ne m l u.
      let r : member i (variables_of g e) ≡ true = ap (member i) (sym (members_same q pv st e l)) ∙ k in
      either (is_dense (kind t i) ≡ false) (member i (collected g p)) (λ mi. collected_not_dense q pv st i mi)
      (λ mi. ap is_dense (st.still_kind i (pivot_no_member e i l u r) mi) ∙ q.members_ordered e i l r))

  -- ---- W6

  -- a sum over an element's list: within the new element, and outside it
  split : (h : Graph) (e : ℕ) → Live g e → total (weight h) (variables_of g e)
      ≡ total (part (λ v. member v (variables_of g e)) h) (collected g p) + total (weight h) (keep (λ v. not (member v (collected g p))) (variables_of g e))
  split h e l = split_members (weight h) (collected g p) (variables_of g e) (distinct_collected g p) (q.distinct_members e l)

  -- the members of an element that stays are closed under equal lists
  pub members_closed : (e i j : ℕ) → Live g e → is_taken aggressive g p e ≡ false → member i (collected g p) ≡ true → member j (collected g p) ≡ true
      → Within (kept_e aggressive g p i ++ kept_v g p i) (kept_e aggressive g p j ++ kept_v g p j) → member i (variables_of g e) ≡ true → member j (variables_of g e) ≡ true
  members_closed e i j l u mi mj w m =
      let vj = collected_var q p pv j mj in
      let k : member e (kept_e aggressive g p i) ≡ true = untaken_kept aggressive g p q pv i e mi (q.members_know e i l m (collected_var q p pv i mi)) u in
      let r : member e (kept_e aggressive g p j ++ kept_v g p j) ≡ true = w e (member_append e (kept_e aggressive g p i) (kept_v g p i) ∙ or_left (member e (kept_e aggressive g p i)) (member e (kept_v g p i)) k) in
      or_cases (member j (variables_of g e) ≡ true) (member e (kept_e aggressive g p j)) (member e (kept_v g p j)) (sym (member_append e (kept_e aggressive g p j) (kept_v g p j)) ∙ r)
      (λ x. q.elements_have j e vj (kept_element_lem aggressive g p q pv j e x))
      (λ x. clash (is_element (kind g e)) l.0 (q.no_element j e vj (kept_variable_lem aggressive g p q pv j e x)))

  element_weight' : (e : ℕ) → Live t e → degree t e ≡ total (weight t) (variables_of t e)
  element_weight' e h =
      live_cases q pv st (degree t e ≡ total (weight t) (variables_of t e)) e h
      (λ x. rw x st.pivot_degree)
      (λ ne m l u.
      st.still_degree e ne m ∙ q.element_weight e l
      ∙ (split g e l ∙ (sym (both e l u) ∙ sym (split t e l)))
      ∙ ap (total (weight t)) (sym (members_same q pv st e l)))
    where
      both : (e : ℕ) → Live g e → is_taken aggressive g p e ≡ false
          → total (part (λ v. member v (variables_of g e)) t) (collected g p) + total (weight t) (keep (λ v. not (member v (collected g p))) (variables_of g e))
          ≡ total (part (λ v. member v (variables_of g e)) g) (collected g p) + total (weight g) (keep (λ v. not (member v (collected g p))) (variables_of g e))
      both e l u =
          let a = st.sums (λ v. member v (variables_of g e))
          (λ i j mi mj ei ej w v. bool_ext (member i (variables_of g e)) (member j (variables_of g e)) (members_closed e i j l u mi mj w) (members_closed e j i l u mj mi v))
          (λ v mv ms. either (member v (variables_of g e) ≡ false) (member v (variables_of g e)) (λ k. absurd (mass_elements aggressive g p q pv v e mv ms l u k)) (λ k. k)) in
          let b = total_members (weight t) (weight g) (keep (λ v. not (member v (collected g p))) (variables_of g e))
          (λ v mv. st.still_weight v
          (pivot_no_member e v l u (kept_was v (λ x. not (member x (collected g p))) (variables_of g e) mv))
          (not_back (member v (collected g p)) (kept_passes v (λ x. not (member x (collected g p))) (variables_of g e) mv))) in
          omega (arith, a, b)

  element_heavy' : (e : ℕ) → Live t e → 0 < length (variables_of t e) → 1 ≤ degree t e
  element_heavy' e h k =
      live_cases q pv st (1 ≤ degree t e) e h
      (λ x. rw x (first (variables_of t p) (λ i m. m) (rw x at k)))
      (λ ne m l u. rw (st.still_degree e ne m) (q.element_heavy e l (rw (members_same q pv st e l) at k)))
    where
      first : (vs : List ℕ) → ((i : ℕ) → member i vs ≡ true → member i (variables_of t p) ≡ true) → 0 < length vs → 1 ≤ degree t p
      first [] w z = absurd (omega arith)
      first (v ∷ vs) w z =
          let m = w v (member_here v vs) in
          omega (arith, one_below (weight t) v (variables_of t p) m, (in_pivot v m).1, st.pivot_degree)

  -- ---- all of the graph's part

  pub quotient_after : Quotient n t
  quotient_after = record {
    sized = st.sized;
    heavy = heavy';
    light = light';
    orphan = orphan';
    distinct_elements = distinct_elements';
    distinct_variables = distinct_variables';
    not_own = not_own';
    inside_variables = inside_variables';
    distinct_members = distinct_members';
    inside_members = inside_members';
    elements_live = elements_live';
    elements_have = elements_have';
    members_know = members_know';
    no_element = no_element';
    mutual_variables = mutual';
    element_weight = element_weight';
    element_heavy = element_heavy';
    nonempty = nonempty';
    members_kind = members_kind';
    members_ordered = members_ordered';
  }
