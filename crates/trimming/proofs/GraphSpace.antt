-- The lists that step 4 leaves are those of the trimmed graph.
-- Assumes nothing.
use Rattle.std.proofs.Common.{◌≡◌, ℕ, ◌<◌, ◌≤◌, Bool, true, false, cond, not, ◌&&◌, ◌≢◌, ◌⊎◌, List, [], ◌++◌, ℤ, sym, refl, ap, ◌∙◌, inl, inr, arith, lt-ltb}
use mathlib.Core.Path.{subst⁻¹}
use lib.ListN.{get_or-eq_default}
use Rattle.plain.proofs.Entries.{upd_other, upd_same}
use Rattle.plain.proofs.Logic.{either}
use Rattle.plain.specs.Lists.{is_none, member}
use Rattle.plain.specs.Members.{In}
use Rattle.plain.specs.Turns.{upd}
use Rattle.cells.proofs.Slices.{same?, split}
use Rattle.definition.specs.Pivot.{collected, passed}
use Rattle.definition.specs.State.{Graph, State, elements_of, has_weight, live, variables_of, weight}
use Rattle.drawn.specs.Drawn.{list_of}
use Rattle.facts.proofs.Collected.{collected_apart}
use Rattle.facts.proofs.Rows.{still_elements, still_variables, still_weight}
use Rattle.facts.proofs.Stepped.{after_trim, elements2, is_dropped, is_mass, sized1, var_parent2, variables2, weight2}
use Rattle.facts.specs.Invariant.{Quotient}
use Rattle.trimming.specs.Step.{Ready}
use Rattle.trimming.proofs.Done.{gone, listed}
use Rattle.trimming.proofs.GraphMatch.{gone_is, kept_elements_lem, kept_some, kept_variables_lem, row}
use Rattle.trimming.proofs.GraphTrim.{dropped_dead, parent_still, var_undropped}

-- ---- lists that are held

list_light : (g : Graph) (j : ℕ) → weight g j ≡ 0 → list_of g j ≡ []
unfolding list_of
list_light g j e = rw e

list_dead : (g : Graph) (j : ℕ) → live g j ≡ false → list_of g j ≡ []
unfolding list_of
list_dead g j e = rw e (nothing (has_weight g j))
  where
    nothing : (u : Bool) → cond (u && false) (elements_of g j ++ variables_of g j) [] ≡ []
    nothing true = refl
    nothing false = refl

list_there : (g : Graph) (j : ℕ) → has_weight g j ≡ true → live g j ≡ true → list_of g j ≡ elements_of g j ++ variables_of g j
unfolding list_of
list_there g j w e = rw (w, e)

list_same : (g t : Graph) (j : ℕ) → weight t j ≡ weight g j → live t j ≡ live g j → elements_of t j ≡ elements_of g j → variables_of t j ≡ variables_of g j → list_of t j ≡ list_of g j
unfolding list_of
list_same g t j a b c d = rw (a, b, c, d)

module _ {n : ℕ} {st : State} {p : ℕ} {l s : List ℤ} {cnt base lim flag : ℕ} (b : Ready n st p l s cnt base lim flag) (aggressive : Bool) where
  abbrev g : Graph
  g = st.graph

  abbrev g₁ : Graph
  g₁ = passed g p

  abbrev g₂ : Graph
  g₂ = after_trim aggressive g p

  abbrev new : List ℕ
  new = collected g p

  abbrev is_mass_lem : ℕ → Bool
  is_mass_lem = is_mass aggressive g p

  abbrev gone' : List ℕ
  gone' = gone n p flag aggressive s (elements_of g₁) (variables_of g₁) new

  abbrev list' : ℕ → List ℕ
  list' j = listed n p flag aggressive s (elements_of g₁) (variables_of g₁) j

  q : Quotient n g
  q = b.inv.graph

  row_mass : (j : ℕ) → In j new → is_mass_lem j ≡ true → list' j ≡ list_of g₂ j
  row_mass j m k =
      let z : weight g₂ j ≡ 0 = weight2 aggressive g p q b.var j m ∙ rw k in
      rw (kept_some b aggressive j m ∙ ap not k) (sym (list_light g₂ j z))

  row_stays : (j : ℕ) → In j new → is_mass_lem j ≡ false → list' j ≡ list_of g₂ j
  row_stays j m k =
      let z : weight g₂ j ≡ weight g j = weight2 aggressive g p q b.var j m ∙ rw k in
      let w : has_weight g₂ j ≡ true = lt-ltb 0 (weight g₂ j) (omega (arith, q.heavy j (row b j m))) in
      let v : live g₂ j ≡ true = ap is_none (var_parent2 aggressive g p q b.var j (row b j m) (λ _. k)) ∙ q.orphan j (row b j m) in
      rw (kept_some b aggressive j m ∙ ap not k, kept_elements_lem b aggressive j m, kept_variables_lem b j m)
      (sym (list_there g₂ j w v ∙ rw (elements2 aggressive g p q b.var j m k, variables2 aggressive g p q b.var j m k)))

  outside_list : (j : ℕ) → j ≢ p → member j new ≡ false → cond (is_dropped aggressive g p j) [] (list_of g₁ j) ≡ list_of g₂ j
  outside_list j np m =
      either (cond (is_dropped aggressive g p j) [] (list_of g₁ j) ≡ list_of g₂ j) (is_dropped aggressive g p j)
      (λ k. rw k (sym (list_dead g₂ j (dropped_dead aggressive g p q b.var j k))))
      (λ k. rw k (sym (untouched k (split j n))))
    where
      untouched : is_dropped aggressive g p j ≡ false → (j < n) ⊎ (n ≤ j) → list_of g₂ j ≡ list_of g₁ j
      untouched k (inl c) =
          list_same g₁ g₂ j (still_weight aggressive g₁ p new j np m) (ap is_none (parent_still aggressive g p q b.var j c m k)) (still_elements aggressive g₁ p new j m) (still_variables aggressive g₁ p new j m)
      untouched k (inr c) =
          let z : weight g₁ j ≡ 0 = get_or-eq_default g₁.weights 0 (omega (arith, (sized1 aggressive g p q b.var).weights)) in
          list_light g₂ j (still_weight aggressive g₁ p new j np m ∙ z) ∙ sym (list_light g₁ j z)

  pub same_list : (j : ℕ)
      → cond (member j (collected st.graph p)) (listed n p flag aggressive s (elements_of (passed st.graph p)) (variables_of (passed st.graph p)) j)
      (cond (member j (gone n p flag aggressive s (elements_of (passed st.graph p)) (variables_of (passed st.graph p)) (collected st.graph p))) []
      (upd (list_of (passed st.graph p)) p (collected st.graph p) j))
      ≡ upd (list_of (after_trim aggressive st.graph p)) p (collected st.graph p) j
  same_list j =
      either (cond (member j new) (list' j) (cond (member j gone') [] (upd (list_of g₁) p new j)) ≡ upd (list_of g₂) p new j) (member j new)
      (λ m. ap (λ (y : Bool). cond y (list' j) (cond (member j gone') [] (upd (list_of g₁) p new j))) m
      ∙ either (list' j ≡ list_of g₂ j) (is_mass_lem j) (row_mass j m) (row_stays j m)
      ∙ sym (upd_other (list_of g₂) p new j (collected_apart g p j m)))
      (λ m. ap (λ (y : Bool). cond y (list' j) (cond (member j gone') [] (upd (list_of g₁) p new j))) m
      ∙ ap (λ (y : Bool). cond y [] (upd (list_of g₁) p new j)) (gone_is b aggressive j) ∙ out m (same? j p))
    where
      out : member j new ≡ false → (j ≡ p) ⊎ (j ≢ p) → cond (is_dropped aggressive g p j) [] (upd (list_of g₁) p new j) ≡ upd (list_of g₂) p new j
      out m (inl e) =
          subst⁻¹ (λ (y : ℕ). cond (is_dropped aggressive g p y) [] (upd (list_of g₁) p new y) ≡ upd (list_of g₂) p new y) e
          (rw (var_undropped aggressive g p q b.var p b.var) (upd_same (list_of g₁) p new ∙ sym (upd_same (list_of g₂) p new)))
      out m (inr e) =
          ap (λ (y : List ℕ). cond (is_dropped aggressive g p j) [] y) (upd_other (list_of g₁) p new j e) ∙ outside_list j e m ∙ sym (upd_other (list_of g₂) p new j e)
