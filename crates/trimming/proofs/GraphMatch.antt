-- What the code keeps of a collected row by the marks and the field WANT is what the definition keeps.
-- Assumes nothing.
use Rattle.std.proofs.Common.{◌≡◌, ℕ, ◌+◌, ◌<◌, Bool, true, false, cond, not, ◌&&◌, eqb, ltb, List, [], ◌∷◌, get_or, ℤ, sym, refl, ap, ◌∙◌, arith, ltb-true, lt-ltb, eq-eqb, eqb-true}
use mathlib.Core.Option.{some}
use Rattle.plain.proofs.Repeats.{some_length}
use Rattle.plain.proofs.Folds.{member_hits}
use Rattle.plain.proofs.Logic.{bool_ext}
use Rattle.plain.proofs.Members.{keep_same, member_keep, not_kept}
use Rattle.plain.proofs.Parts.{flat_map_same}
use Rattle.plain.specs.Lists.{is_none, keep, member}
use Rattle.plain.specs.Members.{In}
use Rattle.cells.specs.Layout.{W, WANT}
use Rattle.cells.specs.View.{rd}
use Rattle.definition.specs.Pivot.{collected, passed}
use Rattle.definition.specs.State.{Graph, Kind, State, degree, elements_of, has_weight, is_variable, kind, live, merged, parent, variables_of, weight}
use Rattle.definition.specs.Trim.{dropped_elements, external, kept_elements, kept_variables, swallowed}
use Rattle.facts.proofs.Collected.{collected_var}
use Rattle.facts.proofs.Invariant.{var_elsewhere, var_inside}
use Rattle.facts.proofs.KindsKept.{weighs_variable}
use Rattle.facts.proofs.Rows.{parent_passed, same_passed}
use Rattle.facts.proofs.Stepped.{is_dropped, is_mass}
use Rattle.facts.specs.Invariant.{Quotient, Var}
use Rattle.trimming.specs.Step.{Ready}
use Rattle.trimming.proofs.Done.{gone, kept, mass}
use Rattle.trimming.proofs.Dropping.{goes, stays}
use Rattle.trimming.proofs.Sifting.{gone_e, kept_e, kept_v}

-- ---- the graph with the passed elements marked has the same rows

module _ (g : Graph) (p : ℕ) where
  pub kinds1 : (i : ℕ) → kind (passed g p) i ≡ kind g i
  kinds1 i = ap (λ (ks : List Kind). get_or ks i merged) (same_passed g p).kinds

  pub weights1 : (i : ℕ) → weight (passed g p) i ≡ weight g i
  weights1 i = ap (λ (ws : List ℕ). get_or ws i 0) (same_passed g p).weights

  pub elements1 : (i : ℕ) → elements_of (passed g p) i ≡ elements_of g i
  elements1 i = ap (λ (es : List (List ℕ)). get_or es i []) (same_passed g p).elements

  pub variables1 : (i : ℕ) → variables_of (passed g p) i ≡ variables_of g i
  variables1 i = ap (λ (vs : List (List ℕ)). get_or vs i []) (same_passed g p).variables

  pub degrees1 : (i : ℕ) → degree (passed g p) i ≡ degree g i
  degrees1 i = ap (λ (ds : List ℕ). get_or ds i 0) (same_passed g p).degrees

-- a variable has no parent yet
pub orphan1 : {n : ℕ} {g : Graph} (q : Quotient n g) (p : ℕ) → Var g p → (i : ℕ) → Var g i → live (passed g p) i ≡ true
orphan1 {n} {g} q p pv i vi =
    ap is_none (parent_passed g p i q.sized (var_inside q i vi) ∙ ap (λ (x : Bool). cond x (some p) (parent g i)) (var_elsewhere q p i pv vi)) ∙ q.orphan i vi

-- ---- marks

-- the mark of an element, live or not, of external size x
counts : (alive : Bool) (flag x : ℕ) → 0 < flag → ltb 0 (cond alive (flag + x) 0) ≡ alive
counts true flag x b = lt-ltb 0 (flag + x) (omega arith)
counts false flag x b = refl

is_flag : (flag x : ℕ) → eqb (flag + x) flag ≡ eqb x 0
is_flag flag x =
    bool_ext (eqb (flag + x) flag) (eqb x 0) (λ e. let k = eqb-true (flag + x) flag e in eq-eqb x 0 (omega arith)) (λ e. let k = eqb-true x 0 e in eq-eqb (flag + x) flag (omega arith))

stays_is : (aggressive alive : Bool) (flag x : ℕ) → 0 < flag → stays aggressive flag (cond alive (flag + x) 0) ≡ alive && not (aggressive && eqb x 0)
stays_is aggressive true flag x b = rw (counts true flag x b, is_flag flag x)
stays_is aggressive false flag x b = refl

goes_is : (aggressive alive : Bool) (flag x : ℕ) → 0 < flag → goes aggressive flag (cond alive (flag + x) 0) ≡ alive && (aggressive && eqb x 0)
goes_is aggressive true flag x b = rw (counts true flag x b, is_flag flag x)
goes_is aggressive false flag x b = refl

module _ {n : ℕ} {st : State} {p : ℕ} {l s : List ℤ} {cnt base lim flag : ℕ} (b : Ready n st p l s cnt base lim flag) where
  abbrev g : Graph
  g = st.graph

  abbrev g₁ : Graph
  g₁ = passed g p

  abbrev new : List ℕ
  new = collected g p

  q : Quotient n g
  q = b.inv.graph

  pub row : (i : ℕ) → In i (collected st.graph p) → Var st.graph i
  row i m = collected_var b.inv.graph p b.var i m

  -- ---- the variables

  module _ (i w : ℕ) (m : In i new) (mw : In w (variables_of g₁ i)) where
    own_variable : In w (variables_of g i)
    own_variable = ap (λ (vs : List ℕ). member w vs) (sym (variables1 g p i)) ∙ mw

    pub want_is : rd n WANT s w ≡ cond (is_variable (kind g₁ w) && not (member w (p ∷ new))) (weight g₁ w) 0
    want_is = b.drawn.wants w (q.inside_variables i w (row i m) own_variable)

    wanted : ltb 0 (rd n WANT s w) ≡ has_weight g₁ w && not (member w (p ∷ new))
    wanted =
        let y : has_weight g₁ w ≡ is_variable (kind g₁ w) =
        ap (ltb 0) (weights1 g p w) ∙ weighs_variable q i w (row i m) own_variable ∙ ap is_variable (sym (kinds1 g p w)) in
        ap (ltb 0) want_is ∙ go (is_variable (kind g₁ w)) (not (member w (p ∷ new))) y
      where
        go : (u v : Bool) → has_weight g₁ w ≡ u → ltb 0 (cond (u && v) (weight g₁ w) 0) ≡ has_weight g₁ w && v
        go true true y = rw y
        go true false y = rw y
        go false v y = rw y

  pub kept_variables_lem : (i : ℕ) → In i (collected st.graph p)
      → kept_v n s (variables_of (passed st.graph p) i) ≡ kept_variables (passed st.graph p) p (collected st.graph p) i
  unfolding kept_variables
  kept_variables_lem i m =
      keep_same (λ w. ltb 0 (rd n WANT s w)) (λ w. has_weight g₁ w && not (member w (p ∷ new))) (variables_of g₁ i) (λ w mw. wanted i w m mw)

  -- ---- the elements

  module _ (aggressive : Bool) where
    pub kept_elements_lem : (i : ℕ) → In i (collected st.graph p)
        → kept_e n flag aggressive s (elements_of (passed st.graph p) i) ≡ kept_elements aggressive (passed st.graph p) (collected st.graph p) i
    unfolding kept_elements
    kept_elements_lem i m =
        keep_same (λ e. stays aggressive flag (rd n W s e)) (λ e. live g₁ e && not (swallowed aggressive g₁ new e)) (elements_of g₁ i)
        (λ e me. ap (stays aggressive flag) (b.marks e i m me) ∙ stays_is aggressive (live g₁ e) flag (external g₁ new e) b.flags)

    pub gone_elements : (i : ℕ) → In i (collected st.graph p)
        → gone_e n flag aggressive s (elements_of (passed st.graph p) i) ≡ dropped_elements aggressive (passed st.graph p) (collected st.graph p) i
    unfolding dropped_elements
    gone_elements i m =
        keep_same (λ e. goes aggressive flag (rd n W s e)) (λ e. live g₁ e && swallowed aggressive g₁ new e) (elements_of g₁ i)
        (λ e me. ap (goes aggressive flag) (b.marks e i m me) ∙ goes_is aggressive (live g₁ e) flag (external g₁ new e) b.flags)

    -- ---- who keeps nothing, and which elements go

    pub kept_some : (i : ℕ) → In i (collected st.graph p)
        → ltb 0 (kept n p flag aggressive s (elements_of (passed st.graph p)) (variables_of (passed st.graph p)) i) ≡ not (is_mass aggressive st.graph p i)
    kept_some i m = rw (kept_elements_lem i m, kept_variables_lem i m) (some_length (kept_elements aggressive g₁ new i) (kept_variables g₁ p new i))

    pub mass_is : mass n p flag aggressive s (elements_of (passed st.graph p)) (variables_of (passed st.graph p)) (collected st.graph p)
        ≡ keep (is_mass aggressive st.graph p) (collected st.graph p)
    mass_is =
        keep_same (λ i. not (ltb 0 (kept n p flag aggressive s (elements_of g₁) (variables_of g₁) i))) (is_mass aggressive g p) new
        (λ i m. ap not (kept_some i m) ∙ twice (is_mass aggressive g p i))
      where
        twice : (u : Bool) → not (not u) ≡ u
        twice true = refl
        twice false = refl

    pub gone_is : (x : ℕ)
        → member x (gone n p flag aggressive s (elements_of (passed st.graph p)) (variables_of (passed st.graph p)) (collected st.graph p)) ≡ is_dropped aggressive st.graph p x
    gone_is x =
        ap (member x) (flat_map_same (λ i. gone_e n flag aggressive s (elements_of g₁ i)) (dropped_elements aggressive g₁ new) new gone_elements)
        ∙ member_hits x (dropped_elements aggressive g₁ new) new

    -- of a row of the new element, and of another
    pub in_mass : (i : ℕ) → In i (collected st.graph p)
        → member i (mass n p flag aggressive s (elements_of (passed st.graph p)) (variables_of (passed st.graph p)) (collected st.graph p)) ≡ is_mass aggressive st.graph p i
    in_mass i m = ap (member i) mass_is ∙ member_keep i (is_mass aggressive g p) new ∙ rw m (last (is_mass aggressive g p i))
      where
        last : (u : Bool) → u && true ≡ u
        last true = refl
        last false = refl

    pub out_mass : (i : ℕ) → member i (collected st.graph p) ≡ false
        → member i (mass n p flag aggressive s (elements_of (passed st.graph p)) (variables_of (passed st.graph p)) (collected st.graph p)) ≡ false
    out_mass i m = ap (member i) mass_is ∙ not_kept i (is_mass aggressive g p) new m

    pub some_kept : (i : ℕ) → In i (collected st.graph p) → is_mass aggressive st.graph p i ≡ false
        → 0 < kept n p flag aggressive s (elements_of (passed st.graph p)) (variables_of (passed st.graph p)) i
    some_kept i m k = ltb-true 0 (kept n p flag aggressive s (elements_of g₁) (variables_of g₁) i) (kept_some i m ∙ ap not k)
