-- The sums of step 4 are numbers of a cell: of the numbers that a row keeps, of their sizes, and of the weights that the pivot takes.
-- Assumes nothing.
use Rattle.std.proofs.Common.{◌≡◌, ℕ, ◌+◌, ◌-◌, ◌*◌, ◌^◌, ◌<◌, ◌≤◌, Bool, true, false, cond, not, ◌&&◌, ltb, List, ◌∷◌, length, ℤ, sym, refl, ap, ◌∙◌, mul-le-mul, arith}
use mathlib.Core.Bool.{false≢true}
use Rattle.plain.proofs.Logic.{and_left}
use Rattle.plain.proofs.Members.{kept_passes, kept_was}
use Rattle.plain.proofs.Repeats.{distinct_keep, length_below}
use Rattle.plain.proofs.Sums.{total_members, total_most}
use Rattle.plain.specs.Lists.{itself, keep, member, total}
use Rattle.plain.specs.Members.{Distinct, In}
use Rattle.cells.specs.Layout.{NV, W, WANT}
use Rattle.cells.specs.View.{rd}
use Rattle.definition.specs.Pivot.{collected, passed}
use Rattle.definition.specs.State.{Graph, State, elements_of, is_variable, kind, live, variables_of, weight}
use Rattle.definition.specs.Trim.{external, kept_elements, kept_variables, swallowed}
use Rattle.facts.proofs.Bounds.{element_left}
use Rattle.facts.proofs.Collected.{distinct_collected}
use Rattle.facts.proofs.Facts.{kept_distinct, kept_distinct_variables, kept_element_lem, kept_variable_var}
use Rattle.facts.proofs.Flags.{external_below, weight_most}
use Rattle.facts.proofs.Invariant.{element_inside, var_inside}
use Rattle.facts.proofs.Stepped.{is_mass}
use Rattle.facts.specs.Invariant.{Live, Quotient, Var}
use Rattle.trimming.specs.Step.{Ready}
use Rattle.trimming.proofs.Done.{mass, size}
use Rattle.trimming.proofs.GraphMatch.{kept_elements_lem, kept_variables_lem, mass_is, row, want_is, weights1}
use Rattle.trimming.proofs.Sifting.{kept_e, kept_v, numbers}

-- at most n numbers of at most n
pub total_square : (n : ℕ) (f : ℕ → ℕ) (xs : List ℕ) → n ≤ 2 ^ 30 → Distinct xs → ((x : ℕ) → In x xs → (x < n) × (f x ≤ n)) → total f xs ≤ 2 ^ 60
total_square n f xs few d h =
    let a : total f xs ≤ length xs * n = total_most f n xs (λ x m. (h x m).1) in
    let b : length xs ≤ 2 ^ 30 = omega (arith, length_below n xs d (λ x m. (h x m).0)) in
    let c : length xs * n ≤ 2 ^ 30 * 2 ^ 30 = mul-le-mul b few in
    omega arith

full : (u : Bool) (x : ℕ) → ltb 0 (cond u x 0) ≡ true → cond u x 0 ≡ x
full true x e = refl
full false x e = absurd (false≢true e)

module _ {n : ℕ} {st : State} {p : ℕ} {l s : List ℤ} {cnt base lim flag : ℕ} (b : Ready n st p l s cnt base lim flag) where
  abbrev g : Graph
  g = st.graph

  abbrev g₁ : Graph
  g₁ = passed g p

  abbrev new : List ℕ
  new = collected g p

  q : Quotient n g
  q = b.inv.graph

  -- of the rows new that pass a test, and of any one
  pub weights_small : (f : ℕ → Bool) → total (weight g) (keep f (collected st.graph p)) ≤ 2 ^ 60
  weights_small f =
      total_square n (weight g) (keep f new) b.few (distinct_keep f new (distinct_collected g p))
      (λ x k. let v = row b x (kept_was x f new k) in (var_inside q x v, weight_most st b.inv x v))

  pub weight_small : (i : ℕ) → Var st.graph i → weight st.graph i ≤ 2 ^ 30
  weight_small i v = omega (arith, weight_most st b.inv i v, b.few)

  module _ (aggressive : Bool) where
    module _ (i : ℕ) (m : In i new) where
      abbrev es : List ℕ
      es = kept_elements aggressive g₁ new i

      abbrev vs : List ℕ
      vs = kept_variables g₁ p new i

      vi : Var g i
      vi = row b i m

      has : (e : ℕ) → In e es → In e (elements_of g i)
      has e k = kept_element_lem aggressive g p q b.var i e k

      there : (e : ℕ) → In e es → Live g e
      there e k = q.elements_live i e vi (has e k)

      es_once : Distinct es
      es_once = kept_distinct aggressive g p q b.var i vi

      vs_once : Distinct vs
      vs_once = kept_distinct_variables aggressive g p q b.var i vi

      is_var : (w : ℕ) → In w vs → Var g w
      is_var w k = kept_variable_var aggressive g p q b.var i w vi k

      pub light : numbers (kept_e n flag aggressive s (elements_of g₁ i)) (kept_v n s (variables_of g₁ i)) < 2 ^ 63
      light =
          let x : total itself es ≤ 2 ^ 60 =
          total_square n itself es b.few es_once (λ e k. let y = element_inside q e (there e k).0 in (y, omega arith)) in
          let z : total itself vs ≤ 2 ^ 60 =
          total_square n itself vs b.few vs_once (λ w k. let y = var_inside q w (is_var w k) in (y, omega arith)) in
          rw (kept_elements_lem b aggressive i m, kept_variables_lem b i m) (omega arith)

      -- ---- the sizes

      live_mark : (e : ℕ) → In e es → rd n W s e - flag ≡ external g₁ new e
      unfolding kept_elements
      live_mark e k =
          let y : live g₁ e ≡ true =
          and_left (live g₁ e) (not (swallowed aggressive g₁ new e))
          (kept_passes e (λ x. live g₁ x && not (swallowed aggressive g₁ new x)) (elements_of g₁ i) k) in
          let z : rd n W s e ≡ flag + external g₁ new e = b.marks e i m (kept_was e _ (elements_of g₁ i) k) ∙ rw y in
          omega arith

      want_weight : (w : ℕ) → In w (kept_v n s (variables_of g₁ i)) → rd n WANT s w ≡ weight g₁ w
      want_weight w k =
          let a = want_is b i w m (kept_was w (λ x. ltb 0 (rd n WANT s x)) (variables_of g₁ i) k) in
          a ∙ full (is_variable (kind g₁ w) && not (member w (p ∷ new))) (weight g₁ w) (ap (ltb 0) (sym a) ∙ kept_passes w (λ x. ltb 0 (rd n WANT s x)) (variables_of g₁ i) k)

      pub size_is : size n p flag aggressive s (elements_of g₁) (variables_of g₁) i
          ≡ total (external g₁ new) (kept_elements aggressive g₁ new i) + total (weight g₁) (kept_variables g₁ p new i)
      size_is =
          rw (
            kept_elements_lem b aggressive i m,
            total_members (λ e. rd n W s e - flag) (external g₁ new) es live_mark,
            total_members (rd n WANT s) (weight g₁) (kept_v n s (variables_of g₁ i)) want_weight,
            kept_variables_lem b i m,
          )

      external_most : (e : ℕ) → In e es → external g₁ new e ≤ n
      external_most e k = omega (arith, external_below st b.inv p b.var e i m (has e k), element_left st b.inv e (there e k))

      pub size_small : size n p flag aggressive s (elements_of g₁) (variables_of g₁) i < 2 ^ 63
      size_small =
          let x : total (external g₁ new) es ≤ 2 ^ 60 =
          total_square n (external g₁ new) es b.few es_once (λ e k. (element_inside q e (there e k).0, external_most e k)) in
          let z : total (weight g₁) vs ≤ 2 ^ 60 =
          total_square n (weight g₁) vs b.few vs_once
          (λ w k. (var_inside q w (is_var w k), omega (arith, weights1 g p w, weight_most st b.inv w (is_var w k)))) in
          rw size_is (omega arith)

    -- ---- the weights that the pivot takes

    pub weights_mass : total (rd n NV s) (mass n p flag aggressive s (elements_of (passed st.graph p)) (variables_of (passed st.graph p)) (collected st.graph p))
        ≡ total (weight st.graph) (keep (is_mass aggressive st.graph p) (collected st.graph p))
    weights_mass =
        ap (total (rd n NV s)) (mass_is b aggressive)
        ∙ total_members (rd n NV s) (weight g) (keep (is_mass aggressive g p) new)
        (λ j k. b.drawn.weights j (var_inside q j (row b j (kept_was j (is_mass aggressive g p) new k))) ∙ weights1 g p j)

    pub weights_few : total (rd n NV s) (mass n p flag aggressive s (elements_of (passed st.graph p)) (variables_of (passed st.graph p)) (collected st.graph p)) ≤ 2 ^ 60
    weights_few = omega (arith, weights_mass, weights_small (is_mass aggressive g p))
