-- The graph after step 6 from the one before it, row by row: `became`; and the marks and the log of merges that go with it: `flagged_by`, `logged_by`.
-- Assumes nothing.
use Prim.Native.Nat.{ℕ, ◌+◌, ◌≤◌, ◌<◌}
use native.Mathlib.Omega.{arith}
use mathlib.Core.Path.{◌≡◌, sym, ap, ◌∙◌, subst⁻¹}
use mathlib.Core.Logic.{◌≢◌, ◌⊎◌, inl, inr, ⊎_elim}
use mathlib.Core.Bool.{true, false}
use mathlib.Core.List.{List, []}
use mathlib.Core.Option.{Option, none}
use lib.IntN.{ℤ}
use lib.ListN.{length, get_or}
use Rattle.plain.proofs.Entries.{entries_same}
use Rattle.plain.proofs.Logic.{clash}
use Rattle.plain.specs.Lists.{member, is_none}
use Rattle.definition.specs.State.{Graph, Kind, merged, element, kind, weight, elements_of, variables_of, parent, degree, live, is_variable, is_element, is_merged}
use Rattle.definition.specs.Place.{Placed, placed, as_element}
use Rattle.facts.proofs.Placing.{SameButDegrees, placed_same, placed_other, element_weights, element_parents, element_kind_other, element_elements_other, element_variables_other, element_kind, element_variables, element_elements, element_degree}
use Rattle.facts.specs.Invariant.{Sized}
use Rattle.cells.proofs.Slices.{same?}
use Rattle.cells.specs.Layout.{W, MERGES}
use Rattle.cells.specs.View.{rd}
use Rattle.drawn.specs.Flags.{Flagged}
use Rattle.drawn.specs.Log.{Logged}

-- from g to t the row p became an element with the rows vs, of the remaining weight size; the degrees of others may differ
pub record Became (g t : Graph) (p : ℕ) (vs : List ℕ) (size : ℕ) : Type 0 where
  pub weights : (v : ℕ) → weight t v ≡ weight g v
  pub parents : (v : ℕ) → parent t v ≡ parent g v
  pub kinds : (v : ℕ) → v ≢ p → kind t v ≡ kind g v
  pub elements : (v : ℕ) → v ≢ p → elements_of t v ≡ elements_of g v
  pub variables : (v : ℕ) → v ≢ p → variables_of t v ≡ variables_of g v
  pub own_kind : kind t p ≡ element
  pub own_elements : elements_of t p ≡ []
  pub own_variables : variables_of t p ≡ vs
  pub own_degree : degree t p ≡ size

pub became : (n : ℕ) (g : Graph) (p : ℕ) (vs : List ℕ) (left size d : ℕ) (qs : List (List ℕ)) → Sized n g → p < n → member p vs ≡ false
    → Became g (placed left size vs (record { graph = as_element p vs size g; queues = qs; least = d })).graph p vs size
became n g p vs left size d qs sized hp out =
    let start : Placed = record { graph = as_element p vs size g; queues = qs; least = d } in
    let same : SameButDegrees (as_element p vs size g) (placed left size vs start).graph = placed_same left size vs start in
    record {
      weights = λ v. ap (λ (w : List ℕ). get_or w v 0) (same.weights ∙ element_weights p vs size g);
      parents = λ v. ap (λ (w : List (Option ℕ)). get_or w v none) (same.parents ∙ element_parents p vs size g);
      kinds = λ v ne. ap (λ (w : List Kind). get_or w v merged) same.kinds ∙ element_kind_other p vs size g v ne;
      elements = λ v ne. ap (λ (w : List (List ℕ)). get_or w v []) same.elements ∙ element_elements_other p vs size g v ne;
      variables = λ v ne. ap (λ (w : List (List ℕ)). get_or w v []) same.variables ∙ element_variables_other p vs size g v ne;
      own_kind = ap (λ (w : List Kind). get_or w p merged) same.kinds ∙ element_kind p vs size g sized hp;
      own_elements = ap (λ (w : List (List ℕ)). get_or w p []) same.elements ∙ element_elements p vs size g sized hp;
      own_variables = ap (λ (w : List (List ℕ)). get_or w p []) same.variables ∙ element_variables p vs size g sized hp;
      own_degree = placed_other left size p vs start out ∙ element_degree p vs size g sized hp;
    }

module _ {g t : Graph} {p : ℕ} {vs : List ℕ} {size : ℕ} (b : Became g t p vs size) where
  pub no_variable : is_variable (kind t p) ≡ false
  no_variable = ap is_variable b.own_kind

  pub var_apart : (v : ℕ) → is_variable (kind t v) ≡ true → v ≢ p
  var_apart v a e = clash (is_variable (kind t v)) a (ap (λ (x : ℕ). is_variable (kind t x)) e ∙ no_variable)

  -- ---- the marks

  module _ (n : ℕ) (s s2 : List ℤ) (flag : ℕ) (two : 1 < flag) (orphan : live g p ≡ true) (other : (x : ℕ) → x ≢ p → rd n W s2 x ≡ rd n W s x)
      (low : rd n W s2 p ≤ 1) (own : 0 < length vs → rd n W s2 p ≡ 1) (f : Flagged n s g flag) where
    below_at : (x : ℕ) → x < n → (x ≡ p) ⊎ (x ≢ p) → rd n W s2 x < flag
    below_at x hx (inl e) = omega (arith, ap (rd n W s2) e)
    below_at x hx (inr ne) = omega (arith, other x ne, f.below x hx)

    there_at : (x : ℕ) → x < n → is_element (kind t x) ≡ true → live t x ≡ true → 0 < length (variables_of t x) → (x ≡ p) ⊎ (x ≢ p) → 1 ≤ rd n W s2 x
    there_at x hx a c z (inl e) =
        omega (arith, ap (rd n W s2) e, own (omega (arith, ap (λ (y : ℕ). length (variables_of t y)) e, ap length b.own_variables)))
    there_at x hx a c z (inr ne) =
        omega (
          arith,
          other x ne,
          f.element x hx (sym (ap is_element (b.kinds x ne)) ∙ a) (sym (ap is_none (b.parents x)) ∙ c) (omega (arith, ap length (b.variables x ne))),
        )

    gone_at : (x : ℕ) → x < n → is_element (kind t x) ≡ true → live t x ≡ false → (x ≡ p) ⊎ (x ≢ p) → rd n W s2 x ≡ 0
    gone_at x hx a c (inl e) = clash (live t x) (ap (live t) e ∙ ap is_none (b.parents p) ∙ orphan) c
    gone_at x hx a c (inr ne) = other x ne ∙ f.absorbed x hx (sym (ap is_element (b.kinds x ne)) ∙ a) (sym (ap is_none (b.parents x)) ∙ c)

    pub flagged_by : Flagged n s2 t flag
    flagged_by =
        record {
          below = λ x hx. below_at x hx (same? x p);
          variable = λ x hx a.
              let ne = var_apart x a in
              omega (arith, other x ne, f.variable x hx (sym (ap is_variable (b.kinds x ne)) ∙ a));
          element = λ x hx a c z. there_at x hx a c z (same? x p);
          absorbed = λ x hx a c. gone_at x hx a c (same? x p);
        }

  -- ---- the log

  module _ (n : ℕ) (s s2 : List ℤ) (kept : is_merged (kind g p) ≡ false) (same : (i : ℕ) → rd n MERGES s2 i ≡ rd n MERGES s i) (ms : List ℕ) (k : Logged n s g ms) where
    merged_at_lem : (v : ℕ) → (v ≡ p) ⊎ (v ≢ p) → is_merged (kind t v) ≡ is_merged (kind g v)
    merged_at_lem v (inl e) = subst⁻¹ (λ (x : ℕ). is_merged (kind t x) ≡ is_merged (kind g x)) e (ap is_merged b.own_kind ∙ sym kept)
    merged_at_lem v (inr ne) = ap is_merged (b.kinds v ne)

    pub logged_by : Logged n s2 t ms
    logged_by =
        record {
          log = entries_same (rd n MERGES s) (rd n MERGES s2) 0 0 (length ms) (λ i l. same (0 + i)) ∙ k.log;
          once = k.once;
          inside = λ v i. ((k.inside v i).0, merged_at_lem v (same? v p) ∙ (k.inside v i).1);
          all = λ v hv m. k.all v hv (sym (merged_at_lem v (same? v p)) ∙ m);
          later = λ i v l e. ⊎_elim (λ x. inl (merged_at_lem v (same? v p) ∙ x)) (λ x. inr x) (k.later i v l (sym (b.parents (get_or ms i 0)) ∙ e));
        }
