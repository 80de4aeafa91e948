-- Facts inside a step: what is kept (K1), F4, F5 and F7.
-- Assumes nothing.
use Prim.Native.Nat.{ℕ, ◌+◌, ◌≤◌, ◌<◌}
use native.Mathlib.Omega.{arith}
use mathlib.Core.Path.{◌≡◌, refl, sym, ap, ◌∙◌}
use mathlib.Core.Logic.{◌≢◌}
use mathlib.Core.Bool.{Bool, true, false, cond, not, ◌&&◌, ◌||◌, false≢true}
use mathlib.Core.List.{List, [], ◌∷◌}
use mathlib.Core.Option.{Option, some}
use lib.Dec.{eqb, ltb}
use lib.ListN.{length, get_or}
use borrow.Author.Tests.{eqb-true}
use Rattle.plain.proofs.Folds.{hits_at, hits_where}
use Rattle.plain.proofs.Logic.{either, and_left, clash, and_right, and_both, not_false, not_back}
use Rattle.plain.proofs.Members.{member_kept, kept_was, kept_passes, not_here, not_there, not_cons, none_of, member_here}
use Rattle.plain.proofs.Repeats.{length_keep, length_dropped, distinct_keep}
use Rattle.plain.proofs.Sums.{one_below}
use Rattle.plain.specs.Lists.{member, keep, is_none, is_empty}
use Rattle.plain.specs.Members.{Distinct}
use Rattle.definition.specs.State.{Graph, weight, elements_of, variables_of, parent, has_weight, live}
use Rattle.definition.specs.Pivot.{collected, passed}
use Rattle.definition.specs.Trim.{kept_elements, kept_variables, dropped_elements, swallowed, external}
use Rattle.facts.proofs.Invariant.{var_weighs, weighs_var, element_inside}
use Rattle.facts.proofs.Collected.{from_element, from_variables, collected_var, tied}
use Rattle.facts.proofs.Rows.{same_passed, parent_passed}
use Rattle.facts.proofs.Stepped.{kept_e, kept_v, is_mass, is_dropped, is_taken}
use Rattle.facts.specs.Invariant.{Var, Live, Quotient}

or_none : (P : Type 0) (a b : Bool) → a || b ≡ false → (a ≡ false → b ≡ false → P) → P
or_none P true b h f = absurd (false≢true (sym h))
or_none P false b h f = f refl h

or_nothing : (a b : Bool) → a ≡ false → b ≡ false → a || b ≡ false
or_nothing true b h k = h
or_nothing false b h k = k

passed_live : (b : Bool) (o : Option ℕ) (p : ℕ) → is_none (cond b (some p) o) ≡ true → b ≡ false
passed_live true o p h = sym h
passed_live false o p h = refl

module _ {n : ℕ} (aggressive : Bool) (g : Graph) (p : ℕ) (q : Quotient n g) (pv : Var g p) where
  swallows : ℕ → Bool
  swallows e = swallowed aggressive (passed g p) (collected g p) e

  here_elements : (v : ℕ) → elements_of (passed g p) v ≡ elements_of g v
  here_elements v = ap (λ (l : List (List ℕ)). get_or l v []) (same_passed g p).elements

  here_variables : (v : ℕ) → variables_of (passed g p) v ≡ variables_of g v
  here_variables v = ap (λ (l : List (List ℕ)). get_or l v []) (same_passed g p).variables

  here_weight : (v : ℕ) → weight (passed g p) v ≡ weight g v
  here_weight v = ap (λ (l : List ℕ). get_or l v 0) (same_passed g p).weights

  -- an element that is not the pivot's is live as before
  live_passed : (e : ℕ) → e < n → member e (elements_of g p) ≡ false → live (passed g p) e ≡ live g e
  live_passed e l m = ap is_none (parent_passed g p e q.sized l ∙ ap (λ (b : Bool). cond b (some p) (parent g e)) m)

  live_not_passed : (e : ℕ) → e < n → live (passed g p) e ≡ true → member e (elements_of g p) ≡ false
  live_not_passed e l h = passed_live (member e (elements_of g p)) (parent g e) p (ap is_none (sym (parent_passed g p e q.sized l)) ∙ h)

  -- ---- K1: the elements kept are those not taken

  pub kept_element_lem : (v e : ℕ) → member e (kept_e aggressive g p v) ≡ true → member e (elements_of g v) ≡ true
  unfolding kept_elements
  kept_element_lem v e m = ap (λ (l : List ℕ). member e l) (sym (here_elements v)) ∙ kept_was e _ (elements_of (passed g p) v) m

  kept_test : (v e : ℕ) → member e (kept_e aggressive g p v) ≡ true → live (passed g p) e && not (swallows e) ≡ true
  unfolding kept_elements swallows
  kept_test v e m = kept_passes e (λ x. live (passed g p) x && not (swallowed aggressive (passed g p) (collected g p) x)) (elements_of (passed g p) v) m

  dropped_test : (v e : ℕ) → member e (dropped_elements aggressive (passed g p) (collected g p) v) ≡ true → live (passed g p) e && swallows e ≡ true
  unfolding dropped_elements swallows
  dropped_test v e m = kept_passes e (λ x. live (passed g p) x && swallowed aggressive (passed g p) (collected g p) x) (elements_of (passed g p) v) m

  dropped_in : (v e : ℕ) → member e (elements_of g v) ≡ true → live (passed g p) e ≡ true → swallows e ≡ true
      → member e (dropped_elements aggressive (passed g p) (collected g p) v) ≡ true
  unfolding dropped_elements swallows
  dropped_in v e m h k =
      member_kept e (λ x. live (passed g p) x && swallowed aggressive (passed g p) (collected g p) x) (elements_of (passed g p) v)
      (and_both (live (passed g p) e) (swallowed aggressive (passed g p) (collected g p) e) h k) (ap (λ (l : List ℕ). member e l) (here_elements v) ∙ m)

  -- not dropped by any, if not swallowed
  not_swallowed : (e : ℕ) → swallows e ≡ false → is_dropped aggressive g p e ≡ false
  not_swallowed e h = either (is_dropped aggressive g p e ≡ false) (is_dropped aggressive g p e)
      (λ k.
      let r = hits_where (λ v. member e (dropped_elements aggressive (passed g p) (collected g p) v)) (collected g p) k in
      clash (swallows e) (and_right (live (passed g p) e) (swallows e) (dropped_test r.0 e r.2)) h)
      (λ k. k)

  pub kept_untaken : (v e : ℕ) → Var g v → member e (kept_e aggressive g p v) ≡ true → is_taken aggressive g p e ≡ false
  kept_untaken v e vv m =
      let l : e < n = element_inside q e (q.elements_live v e vv (kept_element_lem v e m)).0 in
      or_nothing (member e (elements_of g p)) (is_dropped aggressive g p e)
      (live_not_passed e l (and_left (live (passed g p) e) (not (swallows e)) (kept_test v e m)))
      (not_swallowed e (not_back (swallows e) (and_right (live (passed g p) e) (not (swallows e)) (kept_test v e m))))

  pub untaken_kept : (v e : ℕ) → member v (collected g p) ≡ true → member e (elements_of g v) ≡ true → is_taken aggressive g p e ≡ false
      → member e (kept_e aggressive g p v) ≡ true
  unfolding kept_elements swallows
  untaken_kept v e m me h =
      let li = q.elements_live v e (collected_var q p pv v m) me in
      or_none (member e (kept_e aggressive g p v) ≡ true) (member e (elements_of g p)) (is_dropped aggressive g p e) h
      (λ a b.
      let lv : live (passed g p) e ≡ true = live_passed e (element_inside q e li.0) a ∙ li.1 in
      member_kept e (λ x. live (passed g p) x && not (swallowed aggressive (passed g p) (collected g p) x)) (elements_of (passed g p) v)
      (and_both (live (passed g p) e) (not (swallows e)) lv
      (not_false (swallows e) (either (swallows e ≡ false) (swallows e)
      (λ k. clash (is_dropped aggressive g p e)
      (hits_at (λ w. member e (dropped_elements aggressive (passed g p) (collected g p) w)) v (collected g p) m (dropped_in v e me lv k)) b)
      (λ k. k))))
      (ap (λ (l : List ℕ). member e l) (here_elements v) ∙ me))

  -- ---- the variables kept

  pub kept_variable_lem : (v w : ℕ) → member w (kept_v g p v) ≡ true → member w (variables_of g v) ≡ true
  unfolding kept_variables
  kept_variable_lem v w m = ap (λ (l : List ℕ). member w l) (sym (here_variables v)) ∙ kept_was w _ (variables_of (passed g p) v) m

  kept_variable_test : (v w : ℕ) → member w (kept_v g p v) ≡ true → has_weight (passed g p) w && not (member w (p ∷ collected g p)) ≡ true
  unfolding kept_variables
  kept_variable_test v w m = kept_passes w (λ x. has_weight (passed g p) x && not (member x (p ∷ collected g p))) (variables_of (passed g p) v) m

  kept_out : (v w : ℕ) → member w (kept_v g p v) ≡ true → member w (p ∷ collected g p) ≡ false
  kept_out v w m = not_back (member w (p ∷ collected g p)) (and_right (has_weight (passed g p) w) (not (member w (p ∷ collected g p))) (kept_variable_test v w m))

  pub kept_variable_apart : (v w : ℕ) → member w (kept_v g p v) ≡ true → w ≢ p
  kept_variable_apart v w m = not_here w p (collected g p) (kept_out v w m)

  pub kept_variable_outside : (v w : ℕ) → member w (kept_v g p v) ≡ true → member w (collected g p) ≡ false
  kept_variable_outside v w m = not_there w p (collected g p) (kept_out v w m)

  pub kept_variable_var : (v w : ℕ) → Var g v → member w (kept_v g p v) ≡ true → Var g w
  kept_variable_var v w vv m =
      weighs_var q w (q.no_element v w vv (kept_variable_lem v w m))
      (ap (λ (x : ℕ). ltb 0 x) (sym (here_weight w)) ∙ and_left (has_weight (passed g p) w) (not (member w (p ∷ collected g p))) (kept_variable_test v w m))

  pub variable_kept : (v w : ℕ) → member w (variables_of g v) ≡ true → Var g w → w ≢ p → member w (collected g p) ≡ false → member w (kept_v g p v) ≡ true
  unfolding kept_variables
  variable_kept v w m vw np nc =
      member_kept w (λ x. has_weight (passed g p) x && not (member x (p ∷ collected g p))) (variables_of (passed g p) v)
      (and_both (has_weight (passed g p) w) (not (member w (p ∷ collected g p))) (ap (λ (x : ℕ). ltb 0 x) (here_weight w) ∙ var_weighs q w vw)
      (not_false (member w (p ∷ collected g p)) (not_cons w p (collected g p) np nc)))
      (ap (λ (l : List ℕ). member w l) (here_variables v) ∙ m)

  -- W3 of what is kept
  pub kept_distinct : (i : ℕ) → Var g i → Distinct (kept_e aggressive g p i)
  unfolding kept_elements
  kept_distinct i h = distinct_keep _ _ (rw (ap (λ (l : List (List ℕ)). get_or l i []) (same_passed g p).elements) (q.distinct_elements i h))

  pub kept_distinct_variables : (i : ℕ) → Var g i → Distinct (kept_v g p i)
  unfolding kept_variables
  kept_distinct_variables i h = distinct_keep _ _ (rw (ap (λ (l : List (List ℕ)). get_or l i []) (same_passed g p).variables) (q.distinct_variables i h))

  -- ---- F4: a variable outside loses no element, and the pivot is none of its variables

  outside_weighs : (i e : ℕ) → Var g i → member i (collected g p) ≡ false → member i (variables_of g e) ≡ true → swallows e ≡ false
  unfolding swallows external
  outside_weighs i e vi nc m = either (swallows e ≡ false) (swallows e)
      (λ k.
      let z : external (passed g p) (collected g p) e ≡ 0 = eqb-true (external (passed g p) (collected g p) e) 0 (and_right aggressive (eqb (external (passed g p) (collected g p) e) 0) k) in
      let b : weight (passed g p) i ≤ external (passed g p) (collected g p) e =
      one_below (weight (passed g p)) i (keep (λ v. not (member v (collected g p))) (variables_of (passed g p) e))
      (member_kept i (λ v. not (member v (collected g p))) (variables_of (passed g p) e) (not_false (member i (collected g p)) nc)
      (ap (λ (l : List ℕ). member i l) (here_variables e) ∙ m)) in
      absurd (omega (arith, here_weight i, q.heavy i vi)))
      (λ k. k)

  pub outside_untaken : (i e : ℕ) → Var g i → i ≢ p → member i (collected g p) ≡ false → member e (elements_of g i) ≡ true → is_taken aggressive g p e ≡ false
  outside_untaken i e vi np nc me =
      let mi : member i (variables_of g e) ≡ true = q.elements_have i e vi me in
      or_nothing (member e (elements_of g p)) (is_dropped aggressive g p e)
      (either (member e (elements_of g p) ≡ false) (member e (elements_of g p)) (λ k. clash (member i (collected g p)) (from_element q p pv e i k mi vi np) nc) (λ k. k))
      (not_swallowed e (outside_weighs i e vi nc mi))

  pub outside_variables : (i : ℕ) → Var g i → member i (collected g p) ≡ false → member p (variables_of g i) ≡ false
  outside_variables i vi nc =
      either (member p (variables_of g i) ≡ false) (member p (variables_of g i))
      (λ k. clash (member i (collected g p)) (from_variables q p pv i (q.mutual_variables i p vi k pv) vi) nc) (λ k. k)

  -- ---- F7: a mass eliminated variable stands in no list that stays

  pub mass_elements : (i e : ℕ) → member i (collected g p) ≡ true → is_mass aggressive g p i ≡ true → Live g e → is_taken aggressive g p e ≡ false
      → member i (variables_of g e) ≡ true → ⊥
  mass_elements i e m h le nt mi =
      let k : member e (kept_e aggressive g p i) ≡ true = untaken_kept i e m (q.members_know e i le mi (collected_var q p pv i m)) nt in
      clash (member e (kept_e aggressive g p i)) k (none_of (kept_e aggressive g p i) e (and_left (is_empty (kept_e aggressive g p i)) (is_empty (kept_v g p i)) h))

  pub mass_variables : (i j : ℕ) → member i (collected g p) ≡ true → is_mass aggressive g p i ≡ true → Var g j → j ≢ p → member j (collected g p) ≡ false
      → member i (variables_of g j) ≡ true → ⊥
  mass_variables i j m h vj np nc mi =
      let k : member j (kept_v g p i) ≡ true = variable_kept i j (q.mutual_variables j i vj mi (collected_var q p pv i m)) vj np nc in
      clash (member j (kept_v g p i)) k (none_of (kept_v g p i) j (and_right (is_empty (kept_e aggressive g p i)) (is_empty (kept_v g p i)) h))

  -- ---- F5: the place that is freed

  kept_elements_length : (v : ℕ) → length (kept_e aggressive g p v) ≤ length (elements_of g v)
  unfolding kept_elements
  kept_elements_length v = rw (← (here_elements v)) (length_keep _ (elements_of (passed g p) v))

  kept_variables_length : (v : ℕ) → length (kept_v g p v) ≤ length (variables_of g v)
  unfolding kept_variables
  kept_variables_length v = rw (← (here_variables v)) (length_keep _ (variables_of (passed g p) v))

  pub own_place : (i : ℕ) → member i (collected g p) ≡ true → length (kept_e aggressive g p i) + length (kept_v g p i) < length (elements_of g i) + length (variables_of g i)
  unfolding kept_elements kept_variables swallows
  own_place i m =
      tied q p pv (length (kept_e aggressive g p i) + length (kept_v g p i) < length (elements_of g i) + length (variables_of g i)) i m
      (λ e mp mi.
      let t : live (passed g p) e && not (swallows e) ≡ false = either (live (passed g p) e && not (swallows e) ≡ false) (live (passed g p) e && not (swallows e))
      (λ k. clash (member e (elements_of g p)) mp
      (live_not_passed e (element_inside q e (q.elements_live p e pv mp).0) (and_left (live (passed g p) e) (not (swallows e)) k))) (λ k. k) in
      let k : length (kept_e aggressive g p i) < length (elements_of g i) = shorter_elements i e mi t in
      omega (arith, kept_variables_length i))
      (λ mp.
      let k : length (kept_v g p i) < length (variables_of g i) = shorter_variables i mp in
      omega (arith, kept_elements_length i))
    where
      shorter_elements : (i e : ℕ) → member e (elements_of g i) ≡ true → live (passed g p) e && not (swallows e) ≡ false → length (kept_e aggressive g p i) < length (elements_of g i)
      shorter_elements i e me t = rw (← (here_elements i)) (length_dropped (λ x. live (passed g p) x && not (swallows x)) (elements_of (passed g p) i) e (ap (λ (l : List ℕ). member e l) (here_elements i) ∙ me) t)

      shorter_variables : (i : ℕ) → member p (variables_of g i) ≡ true → length (kept_v g p i) < length (variables_of g i)
      shorter_variables i mp =
          rw (← (here_variables i)) (length_dropped (λ x. has_weight (passed g p) x && not (member x (p ∷ collected g p))) (variables_of (passed g p) i) p
          (ap (λ (l : List ℕ). member p l) (here_variables i) ∙ mp)
          (either (has_weight (passed g p) p && not (member p (p ∷ collected g p)) ≡ false) (has_weight (passed g p) p && not (member p (p ∷ collected g p)))
          (λ k. clash (member p (p ∷ collected g p)) (member_here p (collected g p))
          (not_back (member p (p ∷ collected g p)) (and_right (has_weight (passed g p) p) (not (member p (p ∷ collected g p))) k))) (λ k. k)))
