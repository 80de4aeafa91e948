-- The log of merges after step 4: behind the rows merged before stand those that went into the pivot.
-- Assumes nothing.
use Rattle.std.proofs.Common.{◌≡◌, ℕ, suc, ◌+◌, ◌-◌, ◌<◌, ◌≤◌, Bool, true, false, ◌⊎◌, List, ◌++◌, length, get_or, drop, ℤ, sym, ap, ◌∙◌, subst, inl, inr, ⊎_elim, arith, length-append}
use mathlib.Core.Option.{some}
use lib.ListN.{get_or-append}
use Rattle.plain.proofs.Logic.{clash, either, none_if}
use Rattle.plain.proofs.Members.{append_either, kept_both, kept_was, member_kept, member_left, member_right, not_kept}
use Rattle.plain.proofs.Positions.{get_or_behind, member_get_or, drop_left, drop_right}
use Rattle.plain.proofs.Repeats.{distinct_append, distinct_keep, length_below}
use Rattle.plain.specs.Lists.{keep, member}
use Rattle.plain.specs.Members.{Distinct, In}
use Rattle.plain.specs.Turns.{entries, upd}
use Rattle.cells.proofs.Slices.{split}
use Rattle.cells.specs.Layout.{MERGES}
use Rattle.cells.specs.Links.{linked}
use Rattle.cells.specs.View.{rd}
use Rattle.definition.specs.Pivot.{collected, passed}
use Rattle.definition.specs.State.{Graph, State, elements_of, is_element, is_merged, kind, parent, variables_of}
use Rattle.drawn.specs.Drawn.{list_of}
use Rattle.drawn.specs.Log.{Logged}
use Rattle.facts.proofs.Collected.{distinct_collected, pivot_outside}
use Rattle.facts.proofs.Invariant.{element_not_merged, var_inside, var_not_merged}
use Rattle.facts.proofs.Rows.{still_kind}
use Rattle.facts.proofs.Stepped.{after_trim, is_mass, kind2}
use Rattle.facts.specs.Invariant.{Quotient}
use Rattle.trimming.specs.Model.{Trimming}
use Rattle.trimming.specs.Step.{Ready}
use Rattle.trimming.proofs.Done.{Done}
use Rattle.trimming.proofs.GraphMatch.{kinds1, mass_is, row}
use Rattle.trimming.proofs.GraphTrim.{parent_after, undropped}

module _ {n : ℕ} {st : State} {p : ℕ} {l s : List ℤ} {cnt base lim flag : ℕ} (b : Ready n st p l s cnt base lim flag) (aggressive : Bool) (ms : List ℕ) (r : Trimming)
    (d : Done n p flag aggressive (upd (list_of (passed st.graph p)) p (collected st.graph p)) (elements_of (passed st.graph p)) (variables_of (passed st.graph p))
    l s cnt base lim (length ms) (collected st.graph p) r) (k : Logged n s (passed st.graph p) ms) where
  abbrev g : Graph
  g = st.graph

  abbrev g₁ : Graph
  g₁ = passed g p

  abbrev g₂ : Graph
  g₂ = after_trim aggressive g p

  abbrev new : List ℕ
  new = collected g p

  abbrev is_mass_lem : ℕ → Bool
  is_mass_lem = is_mass aggressive g p

  abbrev massed : List ℕ
  massed = keep is_mass_lem new

  q : Quotient n g
  q = b.inv.graph

  -- ---- kinds

  -- whoever is merged before is no row of the new element, and no element
  was_merged : (v : ℕ) → is_merged (kind g₁ v) ≡ true → member v new ≡ false
  was_merged v h = none_if (member v new) (λ m. clash (is_merged (kind g₁ v)) h (ap is_merged (kinds1 g p v) ∙ var_not_merged (kind g v) (row b v m)))

  logged_out : (v : ℕ) → In v ms → member v new ≡ false
  logged_out v m = was_merged v (k.inside v m).1

  mass_merged : (v : ℕ) → In v massed → is_merged (kind g₂ v) ≡ true
  mass_merged v m = let y = kept_both v is_mass_lem new m in ap is_merged (kind2 aggressive g p q b.var v y.1) ∙ rw y.0

  -- whoever is not merged before is not so after, but for the mass
  not_merged : (v : ℕ) → is_merged (kind g₁ v) ≡ false → member v massed ≡ false → is_merged (kind g₂ v) ≡ false
  not_merged v h o =
      either (is_merged (kind g₂ v) ≡ false) (member v new)
      (λ m.
      let z : is_mass_lem v ≡ false = none_if (is_mass_lem v) (λ y. clash (member v massed) (member_kept v is_mass_lem new y m) o) in
      ap is_merged (kind2 aggressive g p q b.var v m) ∙ rw z (var_not_merged (kind g v) (row b v m)))
      (λ m. ap is_merged (still_kind aggressive g₁ p new v m) ∙ h)

  -- ---- the list

  pub log_once : Distinct (ms ++ keep (is_mass aggressive st.graph p) (collected st.graph p))
  log_once = distinct_append ms massed k.once (distinct_keep is_mass_lem new (distinct_collected g p)) (λ v m. not_kept v is_mass_lem new (logged_out v m))

  log_inside : (v : ℕ) → In v (ms ++ massed) → v < n
  log_inside v m = ⊎_elim (λ y. (k.inside v y).0) (λ y. var_inside q v (row b v (kept_was v is_mass_lem new y))) (append_either v ms massed m)

  pub log_fits : length ms + length (keep (is_mass aggressive st.graph p) (collected st.graph p)) ≤ n
  log_fits = omega (arith, length_below n (ms ++ massed) log_once log_inside, length-append ms massed)

  log_is : entries (rd n MERGES r.mem) 0 (length (ms ++ massed)) ≡ ms ++ massed
  log_is =
      rw (length-append ms massed)
      (rw (mass_is b aggressive) at (d.log (rw (mass_is b aggressive) log_fits)) ∙ ap (λ (y : List ℕ). y ++ massed) k.log)

  -- ---- who took a row

  before : (t v : ℕ) → t < length ms → (is_merged (kind g₁ v) ≡ false) ⊎ In v (drop (suc t) ms) → (is_merged (kind g₂ v) ≡ false) ⊎ In v (drop (suc t) (ms ++ massed))
  before t v c (inl y) =
      either ((is_merged (kind g₂ v) ≡ false) ⊎ In v (drop (suc t) (ms ++ massed))) (member v massed)
      (λ m. inr (drop_right v (suc t) ms massed (omega arith) m))
      (λ m. inl (not_merged v y m))
  before t v c (inr y) = inr (drop_left v (suc t) ms massed y)

  -- a merged row keeps its parent
  same_parent : (v : ℕ) → In v ms → parent g₂ v ≡ parent g₁ v
  same_parent v m =
      let h = k.inside v m in
      let e : is_element (kind g v) ≡ false =
      none_if (is_element (kind g v)) (λ y. clash (is_merged (kind g₁ v)) h.1 (ap is_merged (kinds1 g p v) ∙ element_not_merged (kind g v) y)) in
      parent_after aggressive g p q b.var v h.0 ∙ rw (not_kept v is_mass_lem new (logged_out v m), undropped aggressive g p q b.var v e)

  mass_parent : (v : ℕ) → In v massed → parent g₂ v ≡ some p
  mass_parent v m = parent_after aggressive g p q b.var v (var_inside q v (row b v (kept_was v is_mass_lem new m))) ∙ rw m

  later_at : (t v : ℕ) → t < length (ms ++ massed) → parent g₂ (get_or (ms ++ massed) t 0) ≡ some v → (t < length ms) ⊎ (length ms ≤ t)
      → (is_merged (kind g₂ v) ≡ false) ⊎ In v (drop (suc t) (ms ++ massed))
  later_at t v c h (inl o) =
      before t v o
      (k.later t v o (sym (same_parent (get_or ms t 0) (member_get_or ms t o)) ∙ ap (parent g₂) (sym (get_or-append ms massed 0 t o)) ∙ h))
  later_at t v c h (inr o) =
      let x : ℕ = get_or massed (t - length ms) 0 in
      let m : In x massed = member_get_or massed (t - length ms) (omega (arith, length-append ms massed)) in
      let e : p ≡ v = ap (linked 0) (sym (mass_parent x m) ∙ ap (parent g₂) (sym (get_or_behind ms massed 0 t o)) ∙ h) in
      inl (subst (λ (y : ℕ). is_merged (kind g₂ y) ≡ false) e
      (ap is_merged (still_kind aggressive g₁ p new p (pivot_outside g p) ∙ kinds1 g p p) ∙ var_not_merged (kind g p) b.var))

  -- THE log
  pub logged_after : Logged n r.mem (after_trim aggressive st.graph p) (ms ++ keep (is_mass aggressive st.graph p) (collected st.graph p))
  logged_after =
      record {
        log = log_is;
        once = log_once;
        inside = λ v m. (
          log_inside v m,
          ⊎_elim (λ y. ap is_merged (still_kind aggressive g₁ p new v (logged_out v y)) ∙ (k.inside v y).1) (λ y. mass_merged v y) (append_either v ms massed m),
        );
        all = λ v c h.
            either (In v (ms ++ massed)) (member v massed)
            (λ m. member_right v ms massed m)
            (λ m. member_left v ms massed
            (k.all v c (either (is_merged (kind g₁ v) ≡ true) (is_merged (kind g₁ v)) (λ y. y) (λ y. clash (is_merged (kind g₂ v)) h (not_merged v y m)))));
        later = λ t v c h. later_at t v c h (split t (length ms));
      }

  pub logged_count : r.merged.made ≡ length (ms ++ keep (is_mass aggressive st.graph p) (collected st.graph p))
  logged_count = rw (mass_is b aggressive) at (d.count (rw (mass_is b aggressive) (omega (arith, log_fits, b.few)))) ∙ sym (length-append ms massed)
