-- The marks after step 4: below any flag that they were below, and 0 of the elements taken up.
-- Assumes nothing.
use Rattle.std.proofs.Common.{◌≡◌, ℕ, ◌<◌, ◌≤◌, Bool, true, false, cond, List, length, ℤ, sym, ap, ◌∙◌, arith}
use Rattle.plain.proofs.Logic.{clash, either, none_if}
use Rattle.plain.specs.Lists.{is_none, member}
use Rattle.plain.specs.Turns.{upd}
use Rattle.cells.specs.Layout.{W}
use Rattle.cells.specs.View.{rd}
use Rattle.definition.specs.Pivot.{collected, passed}
use Rattle.definition.specs.State.{Graph, State, elements_of, is_element, is_variable, kind, live, variables_of}
use Rattle.drawn.specs.Drawn.{list_of}
use Rattle.drawn.specs.Flags.{Flagged}
use Rattle.facts.proofs.Invariant.{element_not_merged, var_not_element}
use Rattle.facts.proofs.Rows.{still_kind, still_variables}
use Rattle.facts.proofs.Stepped.{after_trim, is_dropped, kind2}
use Rattle.facts.specs.Invariant.{Quotient, Var}
use Rattle.trimming.specs.Model.{Trimming}
use Rattle.trimming.specs.Step.{Ready}
use Rattle.trimming.proofs.Done.{Done}
use Rattle.trimming.proofs.GraphMatch.{gone_is, kinds1, row}
use Rattle.trimming.proofs.GraphTrim.{dropped_dead, parent_still, stays_if, var_undropped}

module _ {n : ℕ} {st : State} {p : ℕ} {l s : List ℤ} {cnt base lim flag : ℕ} (b : Ready n st p l s cnt base lim flag) (aggressive : Bool) (made : ℕ) (r : Trimming)
    (d : Done n p flag aggressive (upd (list_of (passed st.graph p)) p (collected st.graph p)) (elements_of (passed st.graph p)) (variables_of (passed st.graph p))
    l s cnt base lim made (collected st.graph p) r) where
  abbrev g : Graph
  g = st.graph

  abbrev g₁ : Graph
  g₁ = passed g p

  abbrev g₂ : Graph
  g₂ = after_trim aggressive g p

  abbrev new : List ℕ
  new = collected g p

  q : Quotient n g
  q = b.inv.graph

  mark_is : (x : ℕ) → rd n W r.mem x ≡ cond (is_dropped aggressive g p x) 0 (rd n W s x)
  mark_is x = d.marks x ∙ rw (gone_is b aggressive x)

  -- a row of the new element is no element after the step, and a variable that is left was one
  was_element : (x : ℕ) → is_element (kind g₂ x) ≡ true → member x new ≡ false
  was_element x h =
      none_if (member x new)
      (λ m.
      let z = stays_if aggressive g p q b.var x m (element_not_merged (kind g₂ x) h) in
      clash (is_element (kind g₂ x)) h (ap is_element (kind2 aggressive g p q b.var x m) ∙ rw z (var_not_element (kind g x) (row b x m))))

  was_variable : (x : ℕ) → is_variable (kind g₂ x) ≡ true → Var g x
  was_variable x h =
      either (Var g x) (member x new) (row b x)
      (λ m. ap is_variable (sym (still_kind aggressive g₁ p new x m ∙ kinds1 g p x)) ∙ h)

  module _ (f : ℕ) (k : Flagged n s g₁ f) where
    below_at : (x : ℕ) → x < n → rd n W r.mem x < f
    below_at x c =
        either (rd n W r.mem x < f) (is_dropped aggressive g p x)
        (λ y. let z : rd n W r.mem x ≡ 0 = mark_is x ∙ rw y in omega (arith, k.below x c))
        (λ y. let z : rd n W r.mem x ≡ rd n W s x = mark_is x ∙ rw y in omega (arith, k.below x c))

    variable_at : (x : ℕ) → x < n → is_variable (kind g₂ x) ≡ true → 1 ≤ rd n W r.mem x
    variable_at x c h =
        let v = was_variable x h in
        let z : rd n W r.mem x ≡ rd n W s x = mark_is x ∙ rw (var_undropped aggressive g p q b.var x v) in
        omega (arith, k.variable x c (ap is_variable (kinds1 g p x) ∙ v))

    element_at : (x : ℕ) → x < n → is_element (kind g₂ x) ≡ true → live g₂ x ≡ true → 0 < length (variables_of g₂ x) → 1 ≤ rd n W r.mem x
    element_at x c h o y =
        let m = was_element x h in
        let u : is_dropped aggressive g p x ≡ false = none_if (is_dropped aggressive g p x)
        (λ w. clash (live g₂ x) o (dropped_dead aggressive g p q b.var x w)) in
        let z : rd n W r.mem x ≡ rd n W s x = mark_is x ∙ rw u in
        omega (
          arith,
          k.element x c (ap is_element (sym (still_kind aggressive g₁ p new x m)) ∙ h) (ap is_none (sym (parent_still aggressive g p q b.var x c m u)) ∙ o)
              (rw (still_variables aggressive g₁ p new x m) at y),
        )

    absorbed_at : (x : ℕ) → x < n → is_element (kind g₂ x) ≡ true → live g₂ x ≡ false → rd n W r.mem x ≡ 0
    absorbed_at x c h o =
        let m = was_element x h in
        mark_is x
        ∙ either (cond (is_dropped aggressive g p x) 0 (rd n W s x) ≡ 0) (is_dropped aggressive g p x) (λ u. rw u)
        (λ u. rw u
        (k.absorbed x c (ap is_element (sym (still_kind aggressive g₁ p new x m)) ∙ h) (ap is_none (sym (parent_still aggressive g p q b.var x c m u)) ∙ o)))

    pub flagged_after : Flagged n r.mem g₂ f
    flagged_after = record { below = below_at; variable = variable_at; element = element_at; absorbed = absorbed_at }
