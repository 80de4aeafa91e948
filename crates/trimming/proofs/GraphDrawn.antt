-- Step 4 in memory for the definition: from what it leaves on plain data, the memory holds the trimmed graph.
-- Assumes nothing.
use Rattle.std.proofs.Common.{◌≡◌, ℕ, suc, ◌<◌, Bool, true, false, cond, not, ◌&&◌, ◌||◌, ◌≢◌, ◌⊎◌, List, [], ◌∷◌, length, ℤ, sym, refl, ap, ◌∙◌, inl, inr, arith, lt-ltb}
use mathlib.Core.Option.{some}
use mathlib.Core.Path.{subst⁻¹}
use Rattle.plain.proofs.Entries.{entries_length}
use Rattle.plain.proofs.Logic.{clash, either, none_if, or_false_left, or_false_right}
use Rattle.plain.proofs.Members.{member_kept, not_here, not_there}
use Rattle.plain.proofs.Repeats.{length_rotate}
use Rattle.plain.specs.Lists.{keep, member}
use Rattle.plain.specs.Turns.{entries, upd}
use Rattle.cells.proofs.Slices.{same?}
use Rattle.cells.specs.Layout.{DEGREE, ELEN, LEN, NV, PE, WANT}
use Rattle.cells.specs.Links.{named, parent}
use Rattle.cells.specs.View.{at, rd}
use Rattle.definition.specs.Pivot.{collected, passed}
use Rattle.definition.specs.State.{Graph, State, degree, elements_of, is_variable, kind, variables_of, weight}
use Rattle.definition.specs.State as state
use Rattle.definition.specs.Trim.{kept_elements}
use Rattle.drawn.specs.Drawn.{Within, list_of}
use Rattle.facts.proofs.Collected.{distinct_collected}
use Rattle.facts.proofs.Invariant.{var_inside, var_not_merged}
use Rattle.facts.proofs.Rows.{still_degree, still_elements, still_kind, still_weight, trim_degree, trimmed_degree}
use Rattle.facts.proofs.Stepped.{after_trim, elements2, is_dropped, is_mass, sized1, weight2}
use Rattle.facts.specs.Invariant.{Quotient}
use Rattle.packed.proofs.Spaces.{space_renamed}
use Rattle.packed.specs.Places.{Space}
use Rattle.trimming.specs.Model.{Trimming}
use Rattle.trimming.specs.Step.{Ready}
use Rattle.trimming.proofs.Done.{Done, gone, kept, listed, mass}
use Rattle.trimming.proofs.GraphBounds.{size_is, size_small, weight_small, weights_few, weights_mass}
use Rattle.trimming.proofs.GraphMatch.{gone_is, in_mass, kept_elements_lem, mass_is, out_mass, some_kept, weights1}
use Rattle.trimming.proofs.GraphSpace.{same_list}
use Rattle.trimming.proofs.GraphTrim.{parent_after, pivot_takes, stays_if}

module _ {n : ℕ} {st : State} {p : ℕ} {l s : List ℤ} {cnt base lim flag : ℕ} (b : Ready n st p l s cnt base lim flag) (aggressive : Bool) (made : ℕ) (r : Trimming)
    (d : Done n p flag aggressive (upd (list_of (passed st.graph p)) p (collected st.graph p)) (elements_of (passed st.graph p)) (variables_of (passed st.graph p))
    l s cnt base lim made (collected st.graph p) r) where
  abbrev g : Graph
  g = st.graph

  abbrev g₁ : Graph
  g₁ = passed g p

  abbrev g₂ : Graph
  g₂ = after_trim aggressive g p

  abbrev new : List ℕ
  new = collected g p

  abbrev is_mass_lem : ℕ → Bool
  is_mass_lem = is_mass aggressive g p

  abbrev gone' : List ℕ
  gone' = gone n p flag aggressive s (elements_of g₁) (variables_of g₁) new

  abbrev mass' : List ℕ
  mass' = mass n p flag aggressive s (elements_of g₁) (variables_of g₁) new

  abbrev list' : ℕ → List ℕ
  list' j = listed n p flag aggressive s (elements_of g₁) (variables_of g₁) j

  abbrev kept' : ℕ → ℕ
  kept' j = kept n p flag aggressive s (elements_of g₁) (variables_of g₁) j

  q : Quotient n g
  q = b.inv.graph

  -- ---- the lists

  space : Space n (upd (list_of g₂) p new) r.lists r.mem cnt base lim
  space = space_renamed n (λ j. cond (member j new) (list' j) (cond (member j gone') [] (upd (list_of g₁) p new j))) r.lists r.mem cnt base lim d.space (upd (list_of g₂) p new) (same_list b aggressive)

  -- ---- the weights

  pivot_weight : rd n NV s p ≡ weight g p
  pivot_weight = b.drawn.weights p (var_inside q p b.var) ∙ weights1 g p p

  weights_at : (v : ℕ) → v < n → (v ≡ p) ⊎ (v ≢ p) → rd n NV r.mem v ≡ weight g₂ v
  weights_at v c (inl e) =
      subst⁻¹ (λ (y : ℕ). rd n NV r.mem y ≡ weight g₂ y) e
      (d.own (omega (arith, weights_few b aggressive, pivot_weight, weight_small b p b.var)) ∙ rw (pivot_weight, weights_mass b aggressive) (sym (pivot_takes aggressive g p q b.var)))
  weights_at v c (inr e) =
      d.weights v (λ y. e (sym y)) ∙ ap (λ (y : ℕ). cond (member v mass') 0 y) (b.drawn.weights v c)
      ∙ either (cond (member v mass') 0 (weight g₁ v) ≡ weight g₂ v) (member v new)
      (λ m. rw (in_mass b aggressive v m, weights1 g p v) (sym (weight2 aggressive g p q b.var v m)))
      (λ m. rw (out_mass b aggressive v m) (sym (still_weight aggressive g₁ p new v e m)))

  wants_at : (v : ℕ) → rd n WANT s v ≡ cond (is_variable (kind g₁ v) && not (member v (p ∷ new))) (weight g₁ v) 0
      → rd n WANT s v ≡ cond (is_variable (kind g₂ v) && not (member v (p ∷ new))) (weight g₂ v) 0
  wants_at v h =
      either (rd n WANT s v ≡ cond (is_variable (kind g₂ v) && not (member v (p ∷ new))) (weight g₂ v) 0) (member v (p ∷ new))
      (λ m.
      let z : (u w : Bool) → (x : ℕ) → w ≡ true → cond (u && not w) x 0 ≡ 0 = λ u w x y. unwanted u w x y in
      h ∙ z (is_variable (kind g₁ v)) (member v (p ∷ new)) (weight g₁ v) m ∙ sym (z (is_variable (kind g₂ v)) (member v (p ∷ new)) (weight g₂ v) m))
      (λ m.
      let a = not_here v p new m in
      let c = not_there v p new m in
      rw (still_kind aggressive g₁ p new v c, still_weight aggressive g₁ p new v a c) h)
    where
      unwanted : (u w : Bool) (x : ℕ) → w ≡ true → cond (u && not w) x 0 ≡ 0
      unwanted true w x e = rw e
      unwanted false w x e = refl

  -- ---- the elements of a row

  elens_at : (v : ℕ) → is_variable (kind g₂ v) ≡ true → rd n ELEN r.mem v ≡ length (elements_of g₂ v)
  elens_at v k =
      either (rd n ELEN r.mem v ≡ length (elements_of g₂ v)) (member v new)
      (λ m.
      let z = stays_if aggressive g p q b.var v m (var_not_merged (kind g₂ v) k) in
      d.elens v m (some_kept b aggressive v m z)
      ∙ rw (kept_elements_lem b aggressive v m, elements2 aggressive g p q b.var v m z) (ap suc (sym (length_rotate (kept_elements aggressive g₁ new v)))))
      (λ m. d.elens_out v m ∙ b.drawn.elens v (ap is_variable (sym (still_kind aggressive g₁ p new v m)) ∙ k) ∙ ap length (sym (still_elements aggressive g₁ p new v m)))

  -- ---- the degrees

  degrees_at : (v : ℕ) → v < n → rd n DEGREE r.mem v ≡ degree g₂ v
  degrees_at v c =
      either (rd n DEGREE r.mem v ≡ degree g₂ v) (member v new)
      (λ m.
      let a : degree g₂ v ≡ cond (is_mass_lem v) (degree g₁ v) (trim_degree aggressive g₁ p new v) =
      trimmed_degree aggressive g₁ p new (sized1 aggressive g p q b.var) (distinct_collected g p) v c m in
      either (rd n DEGREE r.mem v ≡ degree g₂ v) (is_mass_lem v)
      (λ k. d.degrees_mass v (in_mass b aggressive v m ∙ k) ∙ b.drawn.degrees v c ∙ rw k at (sym a))
      (λ k. d.degrees v m (some_kept b aggressive v m k) (size_small b aggressive v m) ∙ rw (b.drawn.degrees v c, size_is b aggressive v m) (rw k at (sym a))))
      (λ m. d.degrees_out v m ∙ b.drawn.degrees v c ∙ sym (still_degree aggressive g₁ p new v m))

  -- ---- the parents

  -- a list that is empty after the step was so before, but of a row that keeps nothing and of an element that goes
  was_empty : (v : ℕ) → member v (keep is_mass_lem new) ≡ false → is_dropped aggressive g p v ≡ false → rd n LEN r.mem v ≡ 0 → rd n LEN s v ≡ 0
  was_empty v k e z =
      either (rd n LEN s v ≡ 0) (member v new)
      (λ m.
      let no : is_mass_lem v ≡ false = none_if (is_mass_lem v) (λ y. clash (member v (keep is_mass_lem new)) (member_kept v is_mass_lem new y m) k) in
      let u : entries (at r.lists) (rd n PE r.mem v) (rd n LEN r.mem v) ≡ list' v = now ∙ rw m in
      let w : length (list' v) ≡ 0 = ap length (sym u) ∙ sizes in
      absurd (omega (arith, rw (lt-ltb 0 (kept' v) (some_kept b aggressive v m no)) at w)))
      (λ m.
      let w : entries (at r.lists) (rd n PE r.mem v) (rd n LEN r.mem v) ≡ upd (list_of g₁) p new v = now ∙ rw (m, gone_is b aggressive v ∙ e) in
      sym (entries_length (at l) (rd n PE s v) (rd n LEN s v)) ∙ ap length (b.drawn.space.lists.lists v ∙ sym w) ∙ sizes)
    where
      now : entries (at r.lists) (rd n PE r.mem v) (rd n LEN r.mem v) ≡ cond (member v new) (list' v) (cond (member v gone') [] (upd (list_of g₁) p new v))
      now = d.space.lists.lists v

      sizes : length (entries (at r.lists) (rd n PE r.mem v) (rd n LEN r.mem v)) ≡ 0
      sizes = entries_length (at r.lists) (rd n PE r.mem v) (rd n LEN r.mem v) ∙ z

  parents_at : (v : ℕ) → v < n → rd n LEN r.mem v ≡ 0 → parent n r.mem v ≡ state.parent g₂ v
  parents_at v c z =
      let a : parent n r.mem v ≡ cond (member v (keep is_mass_lem new) || is_dropped aggressive g p v) (named n p) (parent n s v) =
      d.parents v ∙ rw (mass_is b aggressive, gone_is b aggressive v) in
      let e : named n p ≡ some p = rw (lt-ltb p n (var_inside q p b.var)) in
      a ∙ either (cond (member v (keep is_mass_lem new) || is_dropped aggressive g p v) (named n p) (parent n s v) ≡ state.parent g₂ v) (member v (keep is_mass_lem new) || is_dropped aggressive g p v)
      (λ k. rw (k, e) (rw k at (sym (parent_after aggressive g p q b.var v c))))
      (λ k.
      let y = was_empty v (or_false_left (member v (keep is_mass_lem new)) (is_dropped aggressive g p v) k) (or_false_right (member v (keep is_mass_lem new)) (is_dropped aggressive g p v) k) z in
      rw k (b.drawn.parents v c y ∙ rw k at (sym (parent_after aggressive g p q b.var v c))))

  -- THE memory after step 4
  pub drawn_after : Within n r.lists r.mem (after_trim aggressive st.graph p) p (collected st.graph p) cnt base lim
  drawn_after =
      record {
        space = space;
        weights = λ v c. weights_at v c (same? v p);
        wants = λ v c. d.fields WANT v refl refl refl refl refl refl refl refl refl refl ∙ wants_at v (b.drawn.wants v c);
        elens = elens_at;
        degrees = degrees_at;
        parents = parents_at;
      }
