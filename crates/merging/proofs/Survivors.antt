-- The rows that step 5 compares, of a state of the elimination: each is as `Row` asks, an element in its list is there, and what step 5 asks for is given.
-- Assumes nothing.
use Prim.Native.Nat.{◌+◌, ◌<◌, ◌^◌, ℕ}
use mathlib.Core.Bool.{Bool, true, false, cond}
use mathlib.Core.List.{List, []}
use mathlib.Core.Option.{some}
use mathlib.Core.Path.{◌∙◌, ◌≡◌, ap, sym}
use lib.IntN.{ℤ}
use lib.ListN.{get_or, length}
use Rattle.plain.proofs.Logic.{clash, or_cases}
use Rattle.plain.proofs.Members.{kept_was, member_append, member_kept, not_in}
use Rattle.plain.specs.Lists.{is_none, member, rotate, total}
use Rattle.plain.specs.Members.{In}
use Rattle.cells.specs.Layout.{W}
use Rattle.cells.specs.View.{rd}
use Rattle.definition.specs.Pivot.{collected, passed}
use Rattle.definition.specs.Merge.{entries_of}
use Rattle.definition.specs.State.{Graph, Kind, merged, elements_of, has_weight, is_element, is_variable, kind, live, parent, variables_of, weight}
use Rattle.definition.specs.Trim.{kept_elements, kept_variables}
use Rattle.drawn.specs.Drawn.{Within}
use Rattle.drawn.specs.Log.{Logged}
use Rattle.facts.proofs.Collected.{collected_apart, collected_var, distinct_collected}
use Rattle.facts.proofs.Facts.{kept_element_lem, kept_untaken, kept_variable_outside, kept_variable_var}
use Rattle.facts.proofs.Invariant.{element_inside, var_not_element}
use Rattle.facts.proofs.Rows.{same_passed, still_kind}
use Rattle.facts.proofs.Stepped.{after_trim, elements2, inside, is_mass, kept_e, kept_v, kind2, other_parent2, sized2, var_parent2}
use Rattle.facts.proofs.Weights.{compared_mass, distinct_entries, entry}
use Rattle.facts.specs.Invariant.{Quotient, Var}
use Rattle.drawn.specs.Buckets.{Bucketed}
use Rattle.merging.specs.Rows.{Row}
use Rattle.merging.specs.declared.Tally.{Tally}
use Rattle.merging.proofs.Theorem.{Given}

module _ {n : ℕ} (aggressive : Bool) (g : Graph) (p : ℕ) (q : Quotient n g) (pv : Var g p) where
  abbrev g₂ : Graph
  g₂ = after_trim aggressive g p

  abbrev new : List ℕ
  new = collected g p

  module _ (v : ℕ) (m : In v new) (heavy : has_weight g₂ v ≡ true) where
    vv : Var g v
    vv = collected_var q p pv v m

    no_mass : is_mass aggressive g p v ≡ false
    no_mass = compared_mass (λ x. x) aggressive g p q pv v (member_kept v (has_weight g₂) new heavy m)

    element_few : (y : ℕ) → In y (kept_e aggressive g p v) → y < n
    unfolding kept_elements
    element_few y z =
        element_inside q y
        (q.elements_live v y vv (ap (λ (x : List (List ℕ)). member y (get_or x v [])) (sym (same_passed g p).elements) ∙ kept_was y _ (elements_of (passed g p) v) z)).0

    variable_few : (y : ℕ) → In y (kept_v g p v) → y < n
    unfolding kept_variables
    variable_few y z =
        q.inside_variables v y vv (ap (λ (x : List (List ℕ)). member y (get_or x v [])) (sym (same_passed g p).variables) ∙ kept_was y _ (variables_of (passed g p) v) z)

    pub survivor_row : Row n p new g₂ v
    survivor_row =
        record {
          below = inside aggressive g p q pv v m;
          other = collected_apart g p v m;
          inside = m;
          heavy = heavy;
          is = ap is_variable (kind2 aggressive g p q pv v m) ∙ rw no_mass vv;
          orphan = ap is_none (var_parent2 aggressive g p q pv v vv (λ _. no_mass)) ∙ q.orphan v vv;
          rest = rotate (kept_e aggressive g p v);
          elements = elements2 aggressive g p q pv v m no_mass;
          few = λ y z.
              or_cases (y < n) (member y (kept_e aggressive g p v)) (member y (kept_v g p v))
              (sym (member_append y (kept_e aggressive g p v) (kept_v g p v)) ∙ sym (entry (λ x. x) aggressive g p q pv y v m no_mass) ∙ z) (element_few y) (variable_few y);
          once = distinct_entries (λ x. x) aggressive g p q pv v m no_mass;
        }

  -- an element in their lists is there
  pub survivor_present : (v y : ℕ) → In v new → has_weight g₂ v ≡ true → In y (entries_of g₂ v) → is_element (kind g₂ y) ≡ true → live g₂ y ≡ true
  survivor_present v y m heavy z e =
      let nm = no_mass v m heavy in
      or_cases (live g₂ y ≡ true) (member y (kept_e aggressive g p v)) (member y (kept_v g p v))
      (sym (member_append y (kept_e aggressive g p v) (kept_v g p v)) ∙ sym (entry (λ x. x) aggressive g p q pv y v m nm) ∙ z)
      (λ k.
      let vv = collected_var q p pv v m in
      let o = q.elements_live v y vv (kept_element_lem aggressive g p q pv v y k) in
      ap is_none (other_parent2 aggressive g p q pv y (element_inside q y o.0) (not_collected y o.0)
      ∙ ap (λ (b : Bool). cond b (some p) (parent g y)) (kept_untaken aggressive g p q pv v y vv k)) ∙ o.1)
      (λ k. absurd (no_element y (kept_variable_var aggressive g p q pv v y (collected_var q p pv v m) k) (kept_variable_outside aggressive g p q pv v y k) e))
    where
      not_collected : (x : ℕ) → is_element (kind g x) ≡ true → member x new ≡ false
      not_collected x h = not_in x new (λ i. clash (is_element (kind g x)) h (var_not_element (kind g x) (collected_var q p pv x i)))

      no_element : (x : ℕ) → Var g x → member x new ≡ false → is_element (kind g₂ x) ≡ true → ⊥
      no_element x xv out h =
          clash (is_element (kind g x)) (ap is_element (sym (still_kind aggressive (passed g p) p new x out ∙ ap (λ (l : List Kind). get_or l x merged) (same_passed g p).kinds)) ∙ h)
          (var_not_element (kind g x) xv)

  -- step 5 begins, of a state of the elimination: `step` of Theorem is what the code does then
  pub survivors_given : (key_of : ℕ → ℕ) (l s : List ℤ) (cnt base lim : ℕ) (t : Tally) (ms : List ℕ) → Within n l s g₂ p new cnt base lim → total (weight g₂) new < 2 ^ 63
      → Bucketed n s key_of g₂ new → ((y : ℕ) → y < n → rd n W s y < t.flag) → n < 2 ^ 63 → Logged n s g₂ ms → t.logged ≡ length ms
      → t.flag + length new + length new < 2 ^ 63 → Given n l s key_of g₂ p new cnt base lim t
  survivors_given key_of l s cnt base lim t ms drawn light bucketed below small logged count room =
      record {
        drawn = drawn;
        sized = sized2 aggressive g p q pv;
        light = light;
        once = distinct_collected g p;
        inside = inside aggressive g p q pv;
        rows = survivor_row;
        bucketed = bucketed;
        below = below;
        small = small;
        ms = ms;
        logged = logged;
        count = count;
        room = room;
      }
