-- H1 and H4: the front of an element, as it was told at its birth, is what belongs to its variables as long as it is live, and has as many rows as the element has
-- remaining weight. Kept by a step; and a front has no row twice, and no dense row.
-- Assumes nothing.
use Prim.Native.Nat.{ℕ, ◌<◌}
use native.Mathlib.Omega.{arith}
use mathlib.Core.Path.{◌≡◌, sym, ap, ◌∙◌}
use mathlib.Core.Logic.{◌≢◌}
use mathlib.Core.Bool.{Bool, true, false, cond}
use mathlib.Core.List.{List, []}
use lib.Dec.{eqb}
use lib.ListN.{length, set, length-set}
use lib.Seq.{get_or-set_same, get_or-set_other}
use borrow.Author.Tests.{eqb-true, eqb-false, lt-ltb}
use Rattle.plain.proofs.Fibres.{total_fibres}
use Rattle.plain.proofs.Logic.{either, clash, eqb_comm}
use Rattle.plain.proofs.Members.{member_kept, kept_both, up_to_below, member_up_to}
use Rattle.plain.proofs.Repeats.{distinct_keep, distinct_count_up}
use Rattle.plain.proofs.Sums.{total_members, total_keep, total_ones}
use Rattle.plain.specs.Lists.{member, keep, total, up_to}
use Rattle.plain.specs.Members.{In, Distinct, same}
use Rattle.definition.specs.State.{Graph, kind, weight, variables_of, degree, rep, row_count, has_weight, is_variable, is_element, is_dense}
use Rattle.definition.specs.Pivot.{collected}
use Rattle.facts.proofs.Belonging.{Belonging, row_cases}
use Rattle.facts.proofs.Cases.{live_cases, pivot_no_var, pivot_live, members_same, collected_no_element, dense_after}
use Rattle.facts.proofs.Collected.{collected_var}
use Rattle.facts.proofs.Facts.{mass_elements}
use Rattle.facts.proofs.Followed.{Followed}
use Rattle.facts.proofs.Invariant.{var_inside, var_not_dense}
use Rattle.facts.proofs.Preserved.{quotient_after, in_pivot, pivot_no_member, members_closed}
use Rattle.facts.proofs.Stepped.{is_taken, After, away, remains, Stepped}
use Rattle.facts.proofs.Weighing.{Weighing}
use Rattle.facts.specs.History.{front_at, front_of}
use Rattle.facts.specs.Invariant.{Var, Live, Quotient}

pub record Fronted (n : ℕ) (g : Graph) (fs : List (List ℕ)) : Type 0 where
  pub size : length fs ≡ n
  -- H1
  pub inside : (e v : ℕ) → Live g e → In v (front_of fs e) → Var g (rep g v) × (member (rep g v) (variables_of g e) ≡ true)
  pub back : (e v : ℕ) → v < n → Live g e → Var g (rep g v) → member (rep g v) (variables_of g e) ≡ true → In v (front_of fs e)
  -- H4
  pub counted : (e : ℕ) → is_element (kind g e) ≡ true → length (front_of fs e) ≡ degree g e
  pub below : (e v : ℕ) → In v (front_of fs e) → v < n
  pub once : (e : ℕ) → Distinct (front_of fs e)
  pub ordered : (e v : ℕ) → In v (front_of fs e) → is_dense (kind g v) ≡ false

-- ---- what stands in a front at its birth

module _ {n : ℕ} (t : Graph) (p : ℕ) (size : row_count t ≡ n) where
  pub in_front_lem : (v : ℕ) → In v (front_at t p) → (v < n) × (member (rep t v) (variables_of t p) ≡ true)
  unfolding front_at
  in_front_lem v h = let k = kept_both v (λ x. member (rep t x) (variables_of t p)) (up_to (row_count t)) h in (omega (arith, up_to_below v (row_count t) k.1), k.0)

  pub front_has : (v : ℕ) → v < n → member (rep t v) (variables_of t p) ≡ true → In v (front_at t p)
  unfolding front_at
  front_has v l h = member_kept v (λ x. member (rep t x) (variables_of t p)) (up_to (row_count t)) h (member_up_to v (row_count t) (omega arith))

  pub front_once : Distinct (front_at t p)
  unfolding front_at
  front_once = distinct_keep (λ x. member (rep t x) (variables_of t p)) (up_to (row_count t)) (distinct_count_up 0 (row_count t))

  -- LL7: as many rows as its variables weigh
  pub front_length : Distinct (variables_of t p) → Weighing n t → ((i : ℕ) → member i (variables_of t p) ≡ true → (i < n) × (is_dense (kind t i) ≡ false))
      → length (front_at t p) ≡ total (weight t) (variables_of t p)
  unfolding front_at
  front_length d w h =
      sym (total_ones (keep (λ x. member (rep t x) (variables_of t p)) (up_to (row_count t))))
      ∙ sym (total_fibres (λ x. 1) (rep t) (variables_of t p) (up_to (row_count t)) d)
      ∙ total_members (λ i. total (λ x. 1) (keep (λ x. eqb (rep t x) i) (up_to (row_count t)))) (weight t) (variables_of t p)
      (λ i m. total_keep (λ x. 1) (λ x. eqb (rep t x) i) (up_to (row_count t))
      ∙ total_members (λ x. cond (eqb (rep t x) i) 1 0) (λ x. same i (rep t x)) (up_to (row_count t)) (λ x k. ap (λ (b : Bool). cond b 1 0) (eqb_comm (rep t x) i))
      ∙ ap (λ (k : ℕ). total (λ x. same i (rep t x)) (up_to k)) size ∙ sym (w i (h i m).0 (h i m).1))

-- ---- a step

module _ {n : ℕ} {aggressive : Bool} {g t : Graph} {p : ℕ} (q : Quotient n g) (pv : Var g p) (st : Stepped n aggressive g t p) (f : Followed n aggressive g t p) where
  -- the new element's variables are those of the collected that remain
  pub pivot_has : (i : ℕ) → member i (collected g p) ≡ true → Var t i → member i (variables_of t p) ≡ true
  pivot_has i m h =
      ap (member i) st.pivot_members
      ∙ member_kept i (has_weight t) (collected g p) (lt-ltb 0 (weight t i) (omega (arith, (quotient_after q pv st).heavy i h))) m

  pub pivot_var : (i : ℕ) → member i (variables_of t p) ≡ true → Var t i
  pivot_var i h = let k = in_pivot q pv st i h in go k.0 k.1 (st.after i k.0)
    where
      go : member i (collected g p) ≡ true → 0 < weight t i → After aggressive g t p i → Var t i
      go m w (away a b) = absurd (omega arith)
      go m w (remains a b c d) = ap is_variable b ∙ collected_var q p pv i m

  module _ (fs : List (List ℕ)) (fd : Fronted n g fs) where
    abbrev fs' : List (List ℕ)
    fs' = set fs p (front_at t p)

    pub front_other : (e : ℕ) → e ≢ p → front_of fs' e ≡ front_of fs e
    front_other e ne = get_or-set_other fs p e (front_at t p) [] ne

    pub front_pivot : front_of fs' p ≡ front_at t p
    front_pivot = get_or-set_same fs p (front_at t p) [] (omega (arith, var_inside q p pv, fd.size))

    -- a row is in the front of the pivot, or the front is as it was
    pub front_cases : (P : Type 0) (e v : ℕ) → In v (front_of fs' e) → (e ≡ p → In v (front_at t p) → P) → (e ≢ p → In v (front_of fs e) → P) → P
    front_cases P e v h a b =
        either P (eqb e p)
        (λ x. let k : e ≡ p = eqb-true e p x in a k (ap (member v) (sym (ap (front_of fs') k ∙ front_pivot)) ∙ h))
        (λ x. let k = eqb-false e p x in b k (ap (member v) (sym (front_other e k)) ∙ h))

    rows : row_count t ≡ n
    rows = st.sized.weights

    -- a variable of a live element that stays: where it goes is one too
    goes_member : (e r : ℕ) → Live g e → is_taken aggressive g p e ≡ false → Var g r → member r (variables_of g e) ≡ true → Var t (f.goes r) × (member (f.goes r) (variables_of g e) ≡ true)
    goes_member e r l u vr m =
        row_cases q pv st f (Var t (f.goes r) × (member (f.goes r) (variables_of g e) ≡ true)) r
        (λ x. absurd (pivot_no_member q pv st e r l u m x))
        (λ c k. absurd (mass_elements aggressive g p q pv r e c k l u m))
        (λ c k. let i = f.of_kept r c k in (i.remains, members_closed q pv st e r (f.goes r) l u c i.chosen i.forth m))
        (λ ne c. rw (f.of_other r ne c) (ap is_variable (st.still_kind r ne c) ∙ vr, m))

    -- and the other way
    came_member : (e r : ℕ) → Live g e → is_taken aggressive g p e ≡ false → Var t (f.goes r) → member (f.goes r) (variables_of g e) ≡ true → Var g r × (member r (variables_of g e) ≡ true)
    came_member e r l u vr m =
        row_cases q pv st f (Var g r × (member r (variables_of g e) ≡ true)) r
        (λ x. absurd (pivot_no_var q pv st (f.goes r) vr (ap f.goes x ∙ f.of_pivot)))
        (λ c k. absurd (pivot_no_var q pv st (f.goes r) vr (f.of_mass r c k)))
        (λ c k. let i = f.of_kept r c k in (collected_var q p pv r c, members_closed q pv st e (f.goes r) r l u i.chosen c i.back m))
        (λ ne c. let z = f.of_other r ne c in
        (ap is_variable (sym (st.still_kind r ne c)) ∙ ap (λ (x : ℕ). is_variable (kind t x)) (sym z) ∙ vr, ap (λ (x : ℕ). member x (variables_of g e)) (sym z) ∙ m))

    pub fronted_after : Belonging n t → Fronted n t fs'
    fronted_after b = record {
      size = length-set fs p (front_at t p) ∙ fd.size;
      inside = λ e v l h. front_cases (Var t (rep t v) × (member (rep t v) (variables_of t e) ≡ true)) e v h
          (λ x k. let z = in_front_lem t p rows v k in (pivot_var (rep t v) z.1, ap (λ (y : ℕ). member (rep t v) (variables_of t y)) x ∙ z.1))
          (λ ne k. live_cases q pv st (Var t (rep t v) × (member (rep t v) (variables_of t e) ≡ true)) e l
          (λ x. absurd (ne x))
          (λ ne2 m lg u.
          let z = fd.inside e v lg k in
          let y = goes_member e (rep g v) lg u z.0 z.1 in
          rw (f.follows v (fd.below e v k), members_same q pv st e lg) y));
      back = λ e v lv l vr m. live_cases q pv st (In v (front_of fs' e)) e l
          (λ x. let z : front_of fs' e ≡ front_at t p = ap (front_of fs') x ∙ front_pivot in
          ap (member v) z ∙ front_has t p rows v lv (ap (λ (y : ℕ). member (rep t v) (variables_of t y)) (sym x) ∙ m))
          (λ ne c lg u.
          let w = f.follows v lv in
          let z = came_member e (rep g v) lg u (ap (λ (y : ℕ). is_variable (kind t y)) (sym w) ∙ vr)
          (ap (λ (y : ℕ). member y (variables_of g e)) (sym w) ∙ ap (member (rep t v)) (sym (members_same q pv st e lg)) ∙ m) in
          ap (member v) (front_other e ne) ∙ fd.back e v lv lg z.0 z.1);
      counted = λ e h. either (length (front_of fs' e) ≡ degree t e) (eqb e p)
          (λ x. let k : e ≡ p = eqb-true e p x in rw k (ap length front_pivot
          ∙ front_length t p rows ((quotient_after q pv st).distinct_members p (pivot_live q pv st)) b.weighs
          (λ i m. let vi = pivot_var i m in (var_inside (quotient_after q pv st) i vi, var_not_dense (kind t i) vi))
          ∙ sym st.pivot_degree))
          (λ x. let ne = eqb-false e p x in
          either (length (front_of fs' e) ≡ degree t e) (member e (collected g p))
          (λ m. clash (is_element (kind t e)) h (collected_no_element q pv st e m))
          (λ m. ap length (front_other e ne) ∙ fd.counted e (ap is_element (sym (st.still_kind e ne m)) ∙ h) ∙ sym (st.still_degree e ne m)));
      below = λ e v h. front_cases (v < n) e v h (λ x k. (in_front_lem t p rows v k).0) (λ ne k. fd.below e v k);
      once = λ e. either (Distinct (front_of fs' e)) (eqb e p)
          (λ x. rw (eqb-true e p x, front_pivot) (front_once t p rows))
          (λ x. rw (front_other e (eqb-false e p x)) (fd.once e));
      ordered = λ e v h. front_cases (is_dense (kind t v) ≡ false) e v h
          (λ x k. let z = in_front_lem t p rows v k in
          either (is_dense (kind t v) ≡ false) (is_dense (kind t v))
          (λ d. let y = b.alone v z.0 d in var_not_dense (kind t v) (ap (λ (r : ℕ). is_variable (kind t r)) (sym y) ∙ pivot_var (rep t v) z.1))
          (λ d. d))
          (λ ne k. dense_after q pv st v ∙ fd.ordered e v k);
    }
