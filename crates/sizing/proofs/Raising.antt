-- After step 3 all marks are below the flag raised by the largest degree of a live element: what the next flag rests on.
-- Assumes nothing.
use Rattle.std.proofs.Common.{◌≡◌, ℕ, ◌+◌, ◌<◌, ◌≤◌, Bool, true, false, cond, List, [], get_or, ℤ, sym, ap, ◌∙◌, arith}
use mathlib.Core.List.{flat_map}
use Rattle.plain.proofs.Logic.{clash, either, none_if}
use Rattle.plain.proofs.Members.{member_flat_map, member_joined}
use Rattle.plain.specs.Lists.{member}
use Rattle.plain.specs.Members.{In}
use Rattle.definition.specs.Pivot.{collected, passed}
use Rattle.definition.specs.State.{Graph, Kind, State, degree, elements_of, is_element, is_variable, kind, live, merged}
use Rattle.definition.specs.Trim.{external}
use Rattle.facts.proofs.Collected.{collected_var}
use Rattle.facts.proofs.Flags.{external_below}
use Rattle.facts.proofs.Invariant.{var_inside, var_not_element}
use Rattle.facts.proofs.Rows.{same_passed}
use Rattle.facts.specs.Invariant.{Inv, Live, Var}
use Rattle.cells.specs.Layout.{W}
use Rattle.cells.specs.View.{rd}
use Rattle.drawn.specs.Flags.{Flagged}
use Rattle.sizing.specs.Outside.{Outside}

-- a row of the new element has e
record Shared (g : Graph) (new : List ℕ) (e : ℕ) : Type 0 where
  by : ℕ
  row : In by new
  has : In e (elements_of g by)

module _ {n flag : ℕ} (st : State) (v : Inv n st) (p : ℕ) (pv : Var st.graph p) (s t : List ℤ)
    (o : Outside n flag s t (passed st.graph p) (collected st.graph p)) (f : Flagged n s (passed st.graph p) flag)
    (m : ℕ) (low : (e : ℕ) → Live st.graph e → degree st.graph e ≤ m) where
  abbrev g : Graph
  g = st.graph

  abbrev g₁ : Graph
  g₁ = passed g p

  abbrev new : List ℕ
  new = collected g p

  kinds : (i : ℕ) → kind g₁ i ≡ kind g i
  kinds i = ap (λ (ks : List Kind). get_or ks i merged) (same_passed g p).kinds

  elements : (i : ℕ) → elements_of g₁ i ≡ elements_of g i
  elements i = ap (λ (es : List (List ℕ)). get_or es i []) (same_passed g p).elements

  some_flag : 0 < flag
  some_flag = omega (arith, f.below p (var_inside v.graph p pv))

  -- a mark is a counter, or as it was
  which : (P : Type 0) (e : ℕ) → (Shared g₁ new e → P) → (rd n W t e ≡ rd n W s e → P) → P
  which P e counts stays =
      either P (member e (flat_map (elements_of g₁) new))
      (λ k. let r = member_flat_map e (elements_of g₁) new k in counts (record { by = r.0; row = r.1; has = r.2 }))
      (λ k. stays (o.others e (λ i mi. none_if (member e (elements_of g₁ i)) (λ y. clash (member e (flat_map (elements_of g₁) new)) (member_joined e i (elements_of g₁) new mi y) k))))

  module _ (e : ℕ) (h : Shared g₁ new e) where
    own : member e (elements_of g h.by) ≡ true
    own = ap (λ (es : List ℕ). member e es) (sym (elements h.by)) ∙ h.has

    there : Live g e
    there = v.graph.elements_live h.by e (collected_var v.graph p pv h.by h.row) own

    live_mark : live g₁ e ≡ true → rd n W t e ≡ flag + external g₁ new e
    live_mark y = o.sizes e h.by h.row h.has ∙ ap (λ (x : Bool). cond x (flag + external g₁ new e) 0) y

    dead_mark : live g₁ e ≡ false → rd n W t e ≡ 0
    dead_mark y = o.sizes e h.by h.row h.has ∙ ap (λ (x : Bool). cond x (flag + external g₁ new e) 0) y

    counter_below : rd n W t e < flag + m
    counter_below =
        either (rd n W t e < flag + m) (live g₁ e)
        (λ y. omega (arith, live_mark y, external_below st v p pv e h.by h.row own, low e there))
        (λ y. omega (arith, dead_mark y, some_flag))

  pub flagged_outside : Flagged n t g₁ (flag + m)
  flagged_outside =
      record {
        below = λ e a. which (rd n W t e < flag + m) e (λ h. counter_below e h) (λ q. omega (arith, q, f.below e a));
        variable = λ e a k. which (1 ≤ rd n W t e) e
            (λ h. clash (is_element (kind g e)) (there e h).0 (var_not_element (kind g e) (ap is_variable (sym (kinds e)) ∙ k)))
            (λ q. omega (arith, q, f.variable e a k));
        element = λ e a k y z. which (1 ≤ rd n W t e) e (λ h. omega (arith, live_mark e h y, some_flag)) (λ q. omega (arith, q, f.element e a k y z));
        absorbed = λ e a k y. o.gone e (f.absorbed e a k y);
      }
