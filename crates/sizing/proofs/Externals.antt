-- Step 3 for the definition, F6 in the memory: within a pivot's step, the marks of the elements of the collected variables become the flag and the external size.
-- Assumes nothing.
use Rattle.std.proofs.Common.{◌≡◌, ℕ, ◌+◌, ◌-◌, ◌^◌, ◌<◌, ◌≤◌, Bool, true, false, cond, ltb, ◌⊎◌, List, [], ◌∷◌, ◌++◌, length, get_or, take, ℤ, sym, refl, ap, ◌∙◌, inl, inr, arith}
use mathlib.Core.List.{flat_map}
use mathlib.Core.Option.{some}
use Rattle.plain.proofs.Entries.{entries_length, entries_take, upd_other, upd_same}
use Rattle.plain.proofs.Logic.{and_both, clash, either, none_if}
use Rattle.plain.proofs.Members.{member_flat_map, member_joined, no_member}
use Rattle.plain.proofs.Sums.{total_members}
use Rattle.plain.specs.Lists.{is_none, member, total}
use Rattle.plain.specs.Members.{In}
use Rattle.plain.specs.Turns.{entries, upd}
use Rattle.definition.specs.Pivot.{collected, passed}
use Rattle.definition.specs.State.{Graph, Kind, State, degree, elements_of, has_weight, is_element, is_variable, kind, live, merged, parent, variables_of, weight}
use Rattle.definition.specs.Trim.{external}
use Rattle.facts.proofs.Bounds.{element_left}
use Rattle.facts.proofs.Collected.{collected_apart, collected_var}
use Rattle.facts.proofs.External.{counter}
use Rattle.facts.proofs.Invariant.{element_inside, var_inside, var_not_element, var_weighs}
use Rattle.facts.proofs.Rows.{parent_passed, same_passed}
use Rattle.facts.specs.Counter.{met, sharing}
use Rattle.facts.specs.Invariant.{Inv, Live, Var}
use Rattle.cells.proofs.Fields.{rd_null}
use Rattle.cells.proofs.Slices.{split}
use Rattle.cells.specs.Layout.{DEGREE, ELEN, LEN, NV, PE, W}
use Rattle.cells.specs.View.{at, rd}
use Rattle.drawn.specs.Drawn.{Within, list_of}
use Rattle.drawn.specs.Flags.{Flagged}
use Rattle.sizing.specs.Counters.{shared}
use Rattle.packed.proofs.Frame.{inside_space}
use Rattle.packed.specs.Places.{places}
use Rattle.sizing.specs.Model.{sized_all}
use Rattle.sizing.specs.Outside.{Outside}
use Rattle.sizing.specs.Sizes.{Listed, Measured, Ready}
use Rattle.sizing.proofs.Keeping.{drawn_kept}
use Rattle.sizing.proofs.Measuring.{measured_all}

-- ---- lists

take_front : (xs ys : List ℕ) → take (length xs) (xs ++ ys) ≡ xs
take_front [] ys = refl
take_front (x ∷ xs) ys = ap (λ (l : List ℕ). x ∷ l) (take_front xs ys)

front_short : (xs ys : List ℕ) → length xs ≤ length (xs ++ ys)
front_short [] ys = omega arith
front_short (x ∷ xs) ys = omega (arith, front_short xs ys)

-- the first part of a list that lies in a memory
pub entries_front : (F : ℕ → ℕ) (p k : ℕ) (xs ys : List ℕ) → entries F p k ≡ xs ++ ys → entries F p (length xs) ≡ xs
entries_front F p k xs ys h =
    let b : length xs ≤ k = omega (arith, front_short xs ys, entries_length F p k, ap length h) in
    sym (entries_take F p k (length xs) b) ∙ ap (take (length xs)) h ∙ take_front xs ys

has_some : (x : ℕ) (xs : List ℕ) → member x xs ≡ true → 0 < length xs
has_some x [] m = no_member x m
has_some x (y ∷ xs) m = omega arith

module _ {n : ℕ} (st : State) (v : Inv n st) (p : ℕ) (pv : Var st.graph p) (l s : List ℤ) (cnt base lim flag : ℕ)
    (h : Within n l s (passed st.graph p) p (collected st.graph p) cnt base lim) (f : Flagged n s (passed st.graph p) flag) (b : n + flag < 2 ^ 63)
    (light : (i : ℕ) → Var st.graph i → weight st.graph i ≤ flag) where
  abbrev g : Graph
  g = st.graph

  abbrev g₁ : Graph
  g₁ = passed g p

  abbrev new : List ℕ
  new = collected g p

  -- ---- the graph with the passed elements marked has the same rows

  kinds : (i : ℕ) → kind g₁ i ≡ kind g i
  kinds i = ap (λ (ks : List Kind). get_or ks i merged) (same_passed g p).kinds

  weights : (i : ℕ) → weight g₁ i ≡ weight g i
  weights i = ap (λ (ws : List ℕ). get_or ws i 0) (same_passed g p).weights

  elements : (i : ℕ) → elements_of g₁ i ≡ elements_of g i
  elements i = ap (λ (es : List (List ℕ)). get_or es i []) (same_passed g p).elements

  variables : (i : ℕ) → variables_of g₁ i ≡ variables_of g i
  variables i = ap (λ (vs : List (List ℕ)). get_or vs i []) (same_passed g p).variables

  degrees : (i : ℕ) → degree g₁ i ≡ degree g i
  degrees i = ap (λ (ds : List ℕ). get_or ds i 0) (same_passed g p).degrees

  -- ---- the collected rows

  row : (i : ℕ) → In i new → Var g i
  row i m = collected_var v.graph p pv i m

  row_live : (i : ℕ) → In i new → live g₁ i ≡ true
  row_live i m =
      let no : member i (elements_of g p) ≡ false = none_if (member i (elements_of g p))
      (λ y. clash (is_element (kind g i)) (v.graph.elements_live p i pv y).0 (var_not_element (kind g i) (row i m))) in
      ap is_none (parent_passed g p i v.graph.sized (var_inside v.graph i (row i m)) ∙ ap (λ (x : Bool). cond x (some p) (parent g i)) no) ∙ v.graph.orphan i (row i m)

  row_list : (i : ℕ) → In i new → list_of g₁ i ≡ elements_of g₁ i ++ variables_of g₁ i
  unfolding list_of
  row_list i m =
      let w : has_weight g₁ i ≡ true = ap (λ (x : ℕ). ltb 0 x) (weights i) ∙ var_weighs v.graph i (row i m) in
      rw (and_both (has_weight g₁ i) (live g₁ i) w (row_live i m))

  -- a list lies inside the list space
  list_inside : (i : ℕ) → 0 < rd n LEN s i → rd n PE s i + rd n LEN s i ≤ length l
  list_inside i z = inside_space l (places n s) lim (upd (list_of g₁) p new) h.space.lists i z

  listed : Listed n l s (elements_of g₁) new
  listed i m =
      let a = h.space.lists.lists i ∙ upd_other (list_of g₁) p new i (collected_apart g p i m) ∙ row_list i m in
      let e : rd n ELEN s i ≡ length (elements_of g₁ i) = h.elens i (ap is_variable (kinds i) ∙ row i m) in
      let k : rd n LEN s i ≡ length (elements_of g₁ i ++ variables_of g₁ i) = sym (entries_length (at l) (rd n PE s i) (rd n LEN s i)) ∙ ap length a in
      (rw e (entries_front (at l) (rd n PE s i) (rd n LEN s i) (elements_of g₁ i) (variables_of g₁ i) a), rw (elements i) (v.graph.distinct_elements i (row i m)), λ z. omega (arith, e, k, front_short (elements_of g₁ i) (variables_of g₁ i), list_inside i (omega (arith, e, k, z, front_short (elements_of g₁ i) (variables_of g₁ i)))))

  new_length : rd n LEN s p ≡ length new
  new_length = sym (entries_length (at l) (rd n PE s p) (rd n LEN s p)) ∙ ap length (h.space.lists.lists p ∙ upd_same (list_of g₁) p new)

  rows : entries (at l) (rd n PE s p) (length new) ≡ new
  rows = rw (← new_length) (h.space.lists.lists p ∙ upd_same (list_of g₁) p new)

  below : (e : ℕ) → rd n W s e < flag
  below e = by_size (split e n)
    where
      by_size : (e < n) ⊎ (n ≤ e) → rd n W s e < flag
      by_size (inl q) = f.below e q
      by_size (inr q) = omega (arith, rd_null n W s e (omega arith) q, f.below p (var_inside v.graph p pv))

  -- ---- an element that a collected row has

  module _ (e i : ℕ) (m : In i new) (me : In e (elements_of g₁ i)) where
    has : member e (elements_of g i) ≡ true
    has = ap (λ (es : List ℕ). member e es) (sym (elements i)) ∙ me

    there : Live g e
    there = v.graph.elements_live i e (row i m) has

    inside : e < n
    inside = element_inside v.graph e there.0

    degree_is : rd n DEGREE s e ≡ degree g e
    degree_is = h.degrees e inside ∙ degrees e

    joined : In e (flat_map (elements_of g₁) new)
    joined = member_joined e i (elements_of g₁) new m me

    loses : shared (elements_of g₁) (rd n NV s) e new ≡ total (sharing g e) (met g p)
    loses =
        total_members (λ j. cond (member e (elements_of g₁ j)) (rd n NV s j) 0) (sharing g e) new
        (λ j mj. rw (elements j, h.weights j (var_inside v.graph j (row j mj)), weights j))

    counts : shared (elements_of g₁) (rd n NV s) e new + external g₁ new e ≡ rd n DEGREE s e
    counts = omega (arith, loses, degree_is, counter g p v.graph pv e there)

    fits : rd n DEGREE s e + flag < 2 ^ 63
    fits = omega (arith, degree_is, element_left st v e there)

    heavy : live g₁ e ≡ true → 0 < rd n W s e
    heavy y =
        let o : 0 < length (variables_of g₁ e) = rw (variables e) (has_some i (variables_of g e) (v.graph.elements_have i e (row i m) has)) in
        omega (arith, f.element e inside (ap is_element (kinds e) ∙ there.0) y o)

    dead : live g₁ e ≡ false → rd n W s e ≡ 0
    dead y = f.absorbed e inside (ap is_element (kinds e) ∙ there.0) y

  ready : Ready n flag (rd n PE s p) (length new) l s (elements_of g₁) new
  ready =
      record {
        room = h.space.room;
        rows = rows;
        inside = λ z. omega (arith, new_length, list_inside p (omega (arith, new_length, z)));
        lists = listed;
        light = λ i m. rw (h.weights i (var_inside v.graph i (row i m)), weights i) (light i (row i m));
        below = below;
        small = λ e w m. let r = member_flat_map e (elements_of g₁) new m in fits e r.0 r.1 r.2;
        enough = λ e w m. let r = member_flat_map e (elements_of g₁) new m in omega (arith, counts e r.0 r.1 r.2);
      }

  abbrev t : List ℤ
  t = sized_all n l flag (rd n PE s p) (length new) s

  measured : Measured n flag s t (elements_of g₁) new
  measured = measured_all n flag (rd n PE s p) (length new) l s (elements_of g₁) new ready

  size_of_lem : (e i : ℕ) → In i new → In e (elements_of g₁ i) → rd n W t e ≡ cond (live g₁ e) (flag + external g₁ new e) 0
  size_of_lem e i m me =
      either (rd n W t e ≡ cond (live g₁ e) (flag + external g₁ new e) 0) (live g₁ e)
      (λ y.
      let z : rd n DEGREE s e - shared (elements_of g₁) (rd n NV s) e new ≡ external g₁ new e = omega (arith, counts e i m me) in
      rw (y, ← z) (measured.sizes e (heavy e i m me y) (joined e i m me)))
      (λ y. rw y (measured.gone e (dead e i m me y)))

  -- F6, step 3
  pub outside_all : Outside n flag s t g₁ new
  outside_all =
      record {
        kept = measured.kept;
        sizes = size_of_lem;
        others = λ e no. measured.others e
            (none_if (member e (flat_map (elements_of g₁) new)) (λ m. let r = member_flat_map e (elements_of g₁) new m in clash (member e (elements_of g₁ r.0)) r.2 (no r.0 r.1)));
        gone = measured.gone;
      }

  -- the memory holds what it held
  pub within_all : Within n l t g₁ p new cnt base lim
  within_all = drawn_kept measured.kept h
