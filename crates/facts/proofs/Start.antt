-- The invariant at the start: W1 to W10 of `started`, where the neighbour lists are without repeats, without the diagonal, in range and mutual.
-- Assumes nothing.
use Prim.Native.Nat.{ℕ, zero, suc, ◌+◌, ◌≤◌, ◌<◌}
use native.Mathlib.Omega.{arith}
use native.Mathlib.Decide.{dec_lt}
use mathlib.Core.Path.{◌≡◌, refl, sym, ap, ◌∙◌}
use mathlib.Core.Logic.{◌≢◌}
use mathlib.Core.Bool.{Bool, true, false, cond, ◌||◌, false≢true}
use mathlib.Core.List.{List, [], ◌∷◌, map}
use mathlib.Core.Option.{none}
use lib.Dec.{eqb, ltb}
use lib.ListN.{length, get_or, get_or-eq_default, get_or-map}
use borrow.Author.Tests.{eqb-true, eqb-false}
use Rattle.plain.proofs.Logic.{either}
use Rattle.plain.proofs.Members.{no_member, member_below}
use Rattle.plain.proofs.Positions.{get_or_counted, length_counted, get_or_same}
use Rattle.plain.proofs.Repeats.{length_count_up}
use Rattle.plain.proofs.Sums.{total_members, total_keep, total_add, total_ones}
use Rattle.plain.specs.Lists.{member, keep, total, up_to, is_none}
use Rattle.plain.specs.Members.{Distinct}
use Rattle.definition.specs.State.{Graph, Kind, variable, merged, element, dense, kind, weight, elements_of, variables_of, degree, live, is_variable, is_element, is_dense, is_merged, start_degree, start_kind, start_weight, at_once, started}
use Rattle.facts.proofs.Invariant.{var_not_merged, element_not_merged}
use Rattle.facts.proofs.Sizes.{sized_started}
use Rattle.facts.specs.Invariant.{Var, Quotient, var_weight}

pub record Neighbourly (nbrs : List (List ℕ)) : Type 0 where
  pub distinct : (v : ℕ) → Distinct (get_or nbrs v [])
  pub own : (v : ℕ) → member v (get_or nbrs v []) ≡ false
  pub inside : (v w : ℕ) → member w (get_or nbrs v []) ≡ true → w < length nbrs
  pub mutual_rows : (v w : ℕ) → member w (get_or nbrs v []) ≡ true → member v (get_or nbrs w []) ≡ true

-- ---- looking up

module _ (limit : ℕ) (nbrs : List (List ℕ)) where
  abbrev n : ℕ
  n = length nbrs

  abbrev g : Graph
  g = (started limit nbrs).graph

  pub kind_in : (v : ℕ) → v < n → kind g v ≡ start_kind limit nbrs v
  unfolding started
  kind_in v l = get_or_counted (start_kind limit nbrs) merged 0 n v l ∙ ap (start_kind limit nbrs) (omega arith)

  pub kind_out : (v : ℕ) → n ≤ v → kind g v ≡ merged
  unfolding started
  kind_out v l = get_or-eq_default (map (start_kind limit nbrs) (up_to n)) merged {n = v} (rw (length_counted (start_kind limit nbrs) 0 n) l)

  pub kind_inside : (v : ℕ) → is_merged (kind g v) ≡ false → v < n
  kind_inside v h = go (dec_lt v n)
    where
      go : Dec (v < n) → v < n
      go (yes k) = k
      go (no k) = absurd (false≢true (sym h ∙ ap is_merged (kind_out v (omega arith))))

  pub weight_is : (v : ℕ) → weight g v ≡ start_weight (kind g v)
  unfolding started start_weight
  weight_is v = go (dec_lt v n)
    where
      go : Dec (v < n) → weight g v ≡ start_weight (kind g v)
      go (yes k) = get_or_counted (λ x. start_weight (start_kind limit nbrs x)) 0 0 n v k ∙ ap (λ (x : ℕ). start_weight (start_kind limit nbrs x)) (omega arith) ∙ ap start_weight (sym (kind_in v k))
      go (no k) = get_or-eq_default (map (λ x. start_weight (start_kind limit nbrs x)) (up_to n)) 0 {n = v} (rw (length_counted (λ x. start_weight (start_kind limit nbrs x)) 0 n) (omega arith))
          ∙ ap start_weight (sym (kind_out v (omega arith)))

  pub elements_is : (v : ℕ) → elements_of g v ≡ []
  unfolding started
  elements_is v = get_or_same n v []

  pub variables_is : (v : ℕ) → variables_of g v ≡ get_or nbrs v []
  unfolding started
  variables_is v = refl

  pub live_is : (v : ℕ) → live g v ≡ true
  unfolding started
  live_is v = ap is_none (get_or_same n v none)

  pub degree_is : (v : ℕ) → degree g v ≡ length (get_or nbrs v [])
  unfolding started
  degree_is v = get_or-map length nbrs v []

  -- ---- kinds and degrees

  kind_cases : (P : Kind → Type 0) (v : ℕ) → P dense → (start_degree nbrs v ≡ 0 → P element) → (start_degree nbrs v ≢ 0 → P variable) → P (start_kind limit nbrs v)
  unfolding start_kind
  kind_cases P v a b c = go (ltb limit (start_degree nbrs v)) (eqb (start_degree nbrs v) 0) refl
    where
      go : (x y : Bool) → eqb (start_degree nbrs v) 0 ≡ y → P (cond y element (cond x dense variable))
      go x true e = b (eqb-true (start_degree nbrs v) 0 e)
      go true false e = a
      go false false e = c (eqb-false (start_degree nbrs v) 0 e)

  -- nobody is merged
  pub start_not_merged : (v : ℕ) → v < n → is_merged (kind g v) ≡ false
  start_not_merged v l = ap is_merged (kind_in v l) ∙ kind_cases (λ (k : Kind). is_merged k ≡ false) v refl (λ z. refl) (λ z. refl)

  pub element_empty : (e : ℕ) → is_element (kind g e) ≡ true → length (get_or nbrs e []) ≡ 0
  element_empty e h =
      let l = kind_inside e (element_not_merged (kind g e) h) in
      kind_cases (λ (k : Kind). is_element k ≡ true → length (get_or nbrs e []) ≡ 0) e (λ x. absurd (false≢true x)) (λ z x. z) (λ z x. absurd (false≢true x))
      (ap is_element (sym (kind_in e l)) ∙ h)

  pub var_degree : (i : ℕ) → Var g i → 0 < length (get_or nbrs i [])
  var_degree i h =
      let l = kind_inside i (var_not_merged (kind g i) h) in
      kind_cases (λ (k : Kind). is_variable k ≡ true → 0 < length (get_or nbrs i [])) i (λ x. absurd (false≢true x)) (λ z x. absurd (false≢true x)) (λ z x. positive (length (get_or nbrs i [])) z)
      (ap is_variable (sym (kind_in i l)) ∙ h)
    where
      positive : (k : ℕ) → k ≢ 0 → 0 < k
      positive zero z = absurd (z refl)
      positive (suc k) z = omega arith

  none_in : (l : List ℕ) → length l ≡ 0 → (x : ℕ) → member x l ≡ true → ⊥
  none_in [] h x m = no_member x m
  none_in (y ∷ ys) h x m = absurd (omega arith)

  pub no_member_of : (e i : ℕ) → is_element (kind g e) ≡ true → member i (variables_of g e) ≡ true → ⊥
  no_member_of e i h m = none_in (get_or nbrs e []) (element_empty e h) i (ap (member i) (sym (variables_is e)) ∙ m)

  module _ (nb : Neighbourly nbrs) where
    pub quotient_start : Quotient (length nbrs) g
    unfolding start_weight total
    quotient_start = record {
      sized = (sized_started limit nbrs).graph;
      heavy = λ v h. rw (weight_is v) (heavy_kind (kind g v) h);
      light = λ v h k. weight_is v ∙ light_kind (kind g v) h k;
      orphan = λ v h. live_is v;
      distinct_elements = λ i h. rw (elements_is i) tt;
      distinct_variables = λ i h. rw (variables_is i) (nb.distinct i);
      not_own = λ i h. ap (member i) (variables_is i) ∙ nb.own i;
      inside_variables = λ i j h m. nb.inside i j (ap (member j) (sym (variables_is i)) ∙ m);
      distinct_members = λ e h. rw (variables_is e) (nb.distinct e);
      inside_members = λ e i h m. nb.inside e i (ap (member i) (sym (variables_is e)) ∙ m);
      elements_live = λ i e h m. no_member e (ap (member e) (sym (elements_is i)) ∙ m);
      elements_have = λ i e h m. no_member e (ap (member e) (sym (elements_is i)) ∙ m);
      members_know = λ e i h m v. absurd (no_member_of e i h.0 m);
      no_element = λ i j h m. either (is_element (kind g j) ≡ false) (is_element (kind g j))
          (λ k. absurd (no_member_of j i k (ap (member i) (variables_is j) ∙ nb.mutual_rows i j (ap (member j) (sym (variables_is i)) ∙ m)))) (λ k. k);
      mutual_variables = λ i j h m v. ap (member i) (variables_is j) ∙ nb.mutual_rows i j (ap (member j) (sym (variables_is i)) ∙ m);
      element_weight = λ e h. degree_is e ∙ empty_total (get_or nbrs e []) (element_empty e h.0) ∙ ap (total (weight g)) (sym (variables_is e));
      element_heavy = λ e h k. let z = element_empty e h.0 in absurd (omega (arith, ap length (variables_is e)));
      nonempty = λ i h. omega (arith, var_degree i h, ap length (variables_is i));
      members_kind = λ e i h m. absurd (no_member_of e i h.0 m);
      members_ordered = λ e i h m. absurd (no_member_of e i h.0 m);
    }
      where
        heavy_kind : (k : Kind) → is_variable k ≡ true → 1 ≤ start_weight k
        heavy_kind variable h = omega arith
        heavy_kind merged h = absurd (false≢true h)
        heavy_kind element h = absurd (false≢true h)
        heavy_kind dense h = absurd (false≢true h)

        light_kind : (k : Kind) → is_variable k ≡ false → is_element k ≡ false → start_weight k ≡ 0
        light_kind variable h e = absurd (false≢true (sym h))
        light_kind merged h e = refl
        light_kind element h e = absurd (false≢true (sym e))
        light_kind dense h e = refl

        empty_total : (l : List ℕ) → length l ≡ 0 → length l ≡ total (weight g) l
        empty_total [] h = refl
        empty_total (x ∷ xs) h = absurd (omega arith)

    -- W7
    pub counted_start : total (var_weight g) (up_to (length nbrs)) + length (at_once limit nbrs) ≡ length nbrs
    unfolding at_once start_weight
    counted_start =
        let a = total_members (λ v. var_weight g v + cond (is_element (start_kind limit nbrs v) || is_dense (start_kind limit nbrs v)) 1 0) (λ v. 1) (up_to (length nbrs)) one in
        let b = total_add (var_weight g) (λ v. cond (is_element (start_kind limit nbrs v) || is_dense (start_kind limit nbrs v)) 1 0) (up_to (length nbrs)) in
        let c = total_keep (λ v. 1) (λ v. is_element (start_kind limit nbrs v) || is_dense (start_kind limit nbrs v)) (up_to (length nbrs)) in
        let d = total_ones (keep (λ v. is_element (start_kind limit nbrs v) || is_dense (start_kind limit nbrs v)) (up_to (length nbrs))) in
        omega (arith, a, b, c, d, total_ones (up_to (length nbrs)), length_count_up 0 (length nbrs))
      where
        one : (v : ℕ) → member v (up_to (length nbrs)) ≡ true → var_weight g v + cond (is_element (start_kind limit nbrs v) || is_dense (start_kind limit nbrs v)) 1 0 ≡ 1
        one v m =
            let l : v < length nbrs = omega (arith, member_below v 0 (length nbrs) m) in
            rw (weight_is v, kind_in v l)
            (kind_cases (λ (k : Kind). cond (is_variable k) (start_weight k) 0 + cond (is_element k || is_dense k) 1 0 ≡ 1) v refl (λ z. refl) (λ z. refl))
