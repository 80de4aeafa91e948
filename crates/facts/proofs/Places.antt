-- R1: the places that all lists hold together never become more.
-- Assumes nothing.
use Prim.Native.Nat.{ℕ, ◌+◌, ◌≤◌, ◌<◌}
use native.Mathlib.Omega.{arith}
use mathlib.Core.Path.{◌≡◌, refl, sym, ap, ◌∙◌}
use mathlib.Core.Logic.{◌≢◌}
use mathlib.Core.Bool.{Bool, true, false, cond, not, ◌&&◌}
use mathlib.Core.List.{List, [], ◌∷◌, ◌++◌, foldl, flat_map}
use mathlib.Core.Option.{some}
use lib.ListN.{length, length-append, get_or}
use borrow.Author.Tests.{lt-ltb, le-ltb}
use Rattle.plain.proofs.Logic.{either, cond_has, not_back, or_left, or_elim, or_false_left, and_both}
use Rattle.plain.proofs.Members.{member_append, member_cases, kept_passes, kept_was, not_here, not_there, append_either, up_to_below}
use Rattle.plain.proofs.Repeats.{distinct_append, length_keep, length_rotate}
use Rattle.plain.proofs.Sums.{total_looked, total_append, total_below, total_zero, total_members, total_rows, length_flat_map}
use Rattle.plain.specs.Lists.{member, keep, total, up_to, is_none}
use Rattle.plain.specs.Members.{Distinct}
use Rattle.definition.specs.State.{Graph, State, kind, weight, elements_of, variables_of, parent, has_weight, live, is_element, started}
use Rattle.definition.specs.Pivot.{Found, nobody, found, pivot, candidates, collect_one, collected, wanted}
use Rattle.definition.specs.Elimination.{eliminate, step, run}
use Rattle.definition.specs.Room.{places, all_places}
use Rattle.facts.proofs.Invariant.{var_inside, var_weighs, var_elsewhere, element_inside}
use Rattle.facts.proofs.Collected.{distinct_collected, pivot_outside, collected_var}
use Rattle.facts.proofs.Cases.{element_apart, element_outside}
use Rattle.facts.proofs.Facts.{own_place}
use Rattle.facts.proofs.Stepped.{kept_e, kept_v, is_taken, is_dropped, After, away, remains, Stepped}
use Rattle.facts.proofs.Sizes.{sized_started}
use Rattle.facts.proofs.Start.{Neighbourly, elements_is, variables_is}
use Rattle.facts.proofs.Enlisted.{inv_start}
use Rattle.facts.proofs.Step.{stepped}
use Rattle.facts.proofs.Pivots.{Pivoted, pivoted}
use Rattle.facts.proofs.Weighed.{Weighed, weighed_start, run_keeps, pivot_elements}
use Rattle.facts.specs.Invariant.{Var, Live, Quotient, Inv}

-- ---- the places of one row

-- a variable's and a live element's list hold a place for each entry
pub places_full : (g : Graph) (v : ℕ) → has_weight g v ≡ true → live g v ≡ true → places g v ≡ length (elements_of g v) + length (variables_of g v)
unfolding places
places_full g v h k = ap (λ (b : Bool). cond b (length (elements_of g v) + length (variables_of g v)) 0) (and_both (has_weight g v) (live g v) h k)

-- no row holds more
pub places_most : (g : Graph) (v : ℕ) → places g v ≤ length (elements_of g v) + length (variables_of g v)
unfolding places
places_most g v = cond_has (λ (x : ℕ). x ≤ length (elements_of g v) + length (variables_of g v)) (has_weight g v && live g v) (λ e. omega arith) (λ e. omega arith)

pub places_light : (g : Graph) (v : ℕ) → weight g v ≡ 0 → places g v ≡ 0
unfolding places
places_light g v h =
    ap (λ (b : Bool). cond (b && live g v) (length (elements_of g v) + length (variables_of g v)) 0) (le-ltb 0 (weight g v) (omega arith))

and_false : (b : Bool) → b && false ≡ false
and_false true = refl
and_false false = refl

pub places_absorbed : (g : Graph) (v : ℕ) → live g v ≡ false → places g v ≡ 0
unfolding places
places_absorbed g v h =
    ap (λ (b : Bool). cond b (length (elements_of g v) + length (variables_of g v)) 0) (ap (λ (b : Bool). has_weight g v && b) h ∙ and_false (has_weight g v))

places_same : (g t : Graph) (v : ℕ) → weight t v ≡ weight g v → parent t v ≡ parent g v → elements_of t v ≡ elements_of g v → variables_of t v ≡ variables_of g v
    → places t v ≡ places g v
unfolding places
places_same g t v a b c d = rw (a, b, c, d)

-- ---- what a step reads

length_collecting : (g : Graph) (p : ℕ) (cs acc : List ℕ) → length (foldl (collect_one g p) acc cs) ≤ length acc + length cs
unfolding collect_one
length_collecting g p [] acc = omega arith
length_collecting g p (c ∷ cs) acc = omega (arith, length_collecting g p cs (collect_one g p acc c), one)
  where
    one : length (collect_one g p acc c) ≤ length acc + 1
    one = cond_has (λ (l : List ℕ). length l ≤ length acc + 1) (wanted g p acc c) (λ e. omega (arith, length-append acc (c ∷ []))) (λ e. omega arith)

-- the new element has no more variables than are read
pub length_collected : (g : Graph) (p : ℕ) → length (collected g p) ≤ total (λ e. length (variables_of g e)) (elements_of g p) + length (variables_of g p)
unfolding collected candidates
length_collected g p =
    omega (arith, length_collecting g p (candidates g p) [], length-append (flat_map (variables_of g) (elements_of g p)) (variables_of g p), length_flat_map (variables_of g) (elements_of g p))

module _ {n : ℕ} {g : Graph} (q : Quotient n g) (heavy : (e : ℕ) → is_element (kind g e) ≡ true → 1 ≤ weight g e) where
  pub places_var : (v : ℕ) → Var g v → places g v ≡ length (elements_of g v) + length (variables_of g v)
  places_var v h = places_full g v (var_weighs q v h) (q.orphan v h)

  pub places_live : (e : ℕ) → Live g e → places g e ≡ length (elements_of g e) + length (variables_of g e)
  places_live e h = places_full g e (lt-ltb 0 (weight g e) (omega (arith, heavy e h.0))) h.1

  -- an element of a variable has a place for each of its variables
  element_places : (p : ℕ) → Var g p → total (λ e. length (variables_of g e)) (elements_of g p) ≤ total (places g) (elements_of g p)
  element_places p pv = total_below (λ e. length (variables_of g e)) (places g) (elements_of g p) (λ e m. omega (arith, places_live e (q.elements_live p e pv m)))

  -- all rows hold as many places as the pivot and its elements at least
  pub places_read : (p : ℕ) → Var g p → length (elements_of g p) + length (variables_of g p) + total (λ e. length (variables_of g e)) (elements_of g p) ≤ all_places g
  unfolding all_places total
  places_read p pv =
      let a = total_rows {n = n} (places g) (p ∷ elements_of g p) (var_elsewhere q p p pv pv, q.distinct_elements p pv)
      (λ x m. member_cases (x < n) x p (elements_of g p) m (λ e. rw e (var_inside q p pv)) (λ ne k. element_inside q x (q.elements_live p x pv k).0)) in
      rw q.sized.weights (omega (arith, a, element_places p pv, places_var p pv))

  module _ {aggressive : Bool} {t : Graph} {p : ℕ} (pv : Var g p) (st : Stepped n aggressive g t p) (own : elements_of t p ≡ []) where
    -- the rows whose lists the step reads or changes
    abbrev touched : List ℕ
    touched = p ∷ (collected g p ++ elements_of g p)

    distinct_touched : Distinct touched
    distinct_touched = (
      rw (member_append p (collected g p) (elements_of g p), pivot_outside g p) (var_elsewhere q p p pv pv),
      distinct_append (collected g p) (elements_of g p) (distinct_collected g p) (q.distinct_elements p pv) (λ x m. var_elsewhere q p x pv (collected_var q p pv x m)),
    )

    inside_touched : (x : ℕ) → member x touched ≡ true → x < n
    inside_touched x m =
        member_cases (x < n) x p (collected g p ++ elements_of g p) m (λ e. rw e (var_inside q p pv))
        (λ ne k. or_elim (x < n) (append_either x (collected g p) (elements_of g p) k) (λ c. var_inside q x (collected_var q p pv x c)) (λ c. element_inside q x (q.elements_live p x pv c).0))

    -- a row that is neither the pivot nor collected: an element that is taken holds no place any more
    still : (v : ℕ) → v < n → v ≢ p → member v (collected g p) ≡ false → places t v ≤ places g v
    still v l ne m =
        either (places t v ≤ places g v) (is_taken aggressive g p v)
        (λ k. omega (arith, places_absorbed t v (ap is_none (st.still_parent v l ne m) ∙ ap (λ (b : Bool). is_none (cond b (some p) (parent g v))) k)))
        (λ k. omega (
          arith,
          places_same g t v (st.still_weight v ne m) (st.still_parent v l ne m ∙ ap (λ (b : Bool). cond b (some p) (parent g v)) k)
              (st.still_elements v ne m) (st.still_variables v ne m),
        ))

    -- a collected row: by F5 its new list fits in its own place
    changed : (v : ℕ) → member v (collected g p) ≡ true → places t v ≤ places g v
    changed v m = go (st.after v m)
      where
        go : After aggressive g t p v → places t v ≤ places g v
        go (away a b) = omega (arith, places_light t v b)
        go (remains a b c d) =
            omega (
              arith,
              places_most t v,
              ap length (st.new_elements v m a),
              ap length (st.new_variables v m a),
              length_rotate (kept_e aggressive g p v),
              length_rotate (kept_v g p v),
              own_place aggressive g p q pv v m,
              places_var v (collected_var q p pv v m),
            )

    -- an element of the pivot is taken
    passed_places : (e : ℕ) → member e (elements_of g p) ≡ true → places t e ≡ 0
    passed_places e m =
        let le = q.elements_live p e pv m in
        places_absorbed t e
        (ap is_none (st.still_parent e (element_inside q e le.0) (element_apart q pv st e le.0) (element_outside q pv st e le.0))
        ∙ ap (λ (b : Bool). is_none (cond b (some p) (parent g e))) (or_left (member e (elements_of g p)) (is_dropped aggressive g p e) m))

    -- R1, and a place more is freed for each element of the pivot
    pub places_fall : all_places t + length (elements_of g p) ≤ all_places g
    unfolding all_places total
    places_fall =
        let a = total_rows {n = n} (places t) touched distinct_touched inside_touched in
        let b = total_rows {n = n} (places g) touched distinct_touched inside_touched in
        let c = total_below (places t) (places g) (keep (λ v. not (member v touched)) (up_to n))
        (λ v m.
        let out = not_back (member v touched) (kept_passes v (λ x. not (member x touched)) (up_to n) m) in
        still v (up_to_below v n (kept_was v (λ x. not (member x touched)) (up_to n) m)) (not_here v p (collected g p ++ elements_of g p) out)
        (or_false_left (member v (collected g p)) (member v (elements_of g p)) (sym (member_append v (collected g p) (elements_of g p)) ∙ not_there v p (collected g p ++ elements_of g p) out))) in
        let d = total_below (places t) (places g) (collected g p) changed in
        let e = total_zero (places t) (elements_of g p) passed_places in
        rw (st.sized.weights, q.sized.weights)
        (omega (
          arith,
          total_append (places t) (collected g p) (elements_of g p),
          total_append (places g) (collected g p) (elements_of g p),
          places_most t p,
          ap length own,
          ap length st.pivot_members,
          length_keep (has_weight t) (collected g p),
          length_collected g p,
          places_var p pv,
          element_places p pv,
        ))

-- ---- of the states

module _ {n : ℕ} (s : State) (v : Inv n s) (w : Weighed s) where
  -- an element has no elements
  pub places_element : (e : ℕ) → Live s.graph e → places s.graph e ≡ length (variables_of s.graph e)
  places_element e h = omega (arith, places_live v.graph w.heavy e h, ap length (w.bare e h.0))

  -- what the others hold: the lists that stay where the pivot's and its elements' are free
  abbrev others : ℕ → ℕ
  others p = total (places s.graph) (keep (λ x. not (member x (p ∷ elements_of s.graph p))) (up_to n))

  pub places_others : (p : ℕ) → Var s.graph p
      → others p + (length (elements_of s.graph p) + length (variables_of s.graph p) + total (λ e. length (variables_of s.graph e)) (elements_of s.graph p)) ≡ all_places s.graph
  unfolding all_places total
  places_others p pv =
      let a = total_rows {n = n} (places s.graph) (p ∷ elements_of s.graph p) (var_elsewhere v.graph p p pv pv, v.graph.distinct_elements p pv)
      (λ x m. member_cases (x < n) x p (elements_of s.graph p) m (λ e. rw e (var_inside v.graph p pv)) (λ ne k. element_inside v.graph x (v.graph.elements_live p x pv k).0)) in
      let b = total_members (places s.graph) (λ e. length (variables_of s.graph e)) (elements_of s.graph p) (λ e m. places_element e (v.graph.elements_live p e pv m)) in
      rw v.graph.sized.weights (omega (arith, a, b, places_var v.graph w.heavy p pv))

pub places_start : (limit : ℕ) (nbrs : List (List ℕ)) → all_places (started limit nbrs).graph ≤ total length nbrs
unfolding all_places
places_start limit nbrs =
    rw (sized_started limit nbrs).graph.weights
    (omega (
      arith,
      total_below (places (started limit nbrs).graph) (λ v. length (get_or nbrs v [])) (up_to (length nbrs))
          (λ v m. omega (arith, places_most (started limit nbrs).graph v, ap length (elements_is limit nbrs v), ap length (variables_is limit nbrs v))),
      total_looked length nbrs [],
    ))

module _ {n : ℕ} (key_of : ℕ → ℕ) (aggressive : Bool) where
  -- R1
  pub places_eliminate : (s : State) → Inv n s → Weighed s → (p d : ℕ) → Pivoted s p d
      → all_places (eliminate key_of n aggressive s p d).graph + length (elements_of s.graph p) ≤ all_places s.graph
  places_eliminate s v w p d pd =
      places_fall v.graph w.heavy pd.is_var (stepped key_of n aggressive s p d v.graph pd.is_var) (pivot_elements key_of n aggressive s p d v.graph pd.is_var)

  pub places_step : (s : State) → Inv n s → Weighed s → all_places (step key_of n aggressive s (pivot s)).graph ≤ all_places s.graph
  unfolding step
  places_step s v w = go (pivot s) refl
    where
      go : (f : Found) → pivot s ≡ f → all_places (step key_of n aggressive s f).graph ≤ all_places s.graph
      go nobody e = omega arith
      go (found p d) e = omega (arith, places_eliminate s v w p d (pivoted s v p d e))

-- R1, of every state of a run: no more places than A + A' has entries
pub places_run : (nbrs : List (List ℕ)) → Neighbourly nbrs → (key_of : ℕ → ℕ) (aggressive : Bool) (limit k : ℕ)
    → all_places (run key_of k (length nbrs) aggressive (started limit nbrs)).graph ≤ total length nbrs
places_run nbrs nb key_of aggressive limit k =
    (run_keeps key_of aggressive (λ (s : State). all_places s.graph ≤ total length nbrs)
    (λ s v w l p d pd h. omega (arith, places_eliminate key_of aggressive s v w p d pd)) k (started limit nbrs)
    (inv_start limit nbrs nb) (weighed_start limit nbrs) (places_start limit nbrs)).2
