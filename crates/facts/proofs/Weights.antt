-- The weights through steps 4 and 5: F8, and that the pivot takes what the collected rows lose.
-- Assumes nothing.
use Prim.Native.Nat.{ℕ, ◌+◌, ◌<◌}
use native.Mathlib.Omega.{arith}
use mathlib.Core.Path.{◌≡◌, refl, sym, ap, ◌∙◌}
use mathlib.Core.Bool.{Bool, true, false, cond, not, ◌||◌}
use mathlib.Core.List.{List, [], ◌∷◌, ◌++◌, foldl}
use lib.ListN.{get_or}
use borrow.Author.Tests.{ltb-true, ltb-false}
use Rattle.plain.proofs.Logic.{either, clash, not_back}
use Rattle.plain.proofs.Members.{member_here, member_there, member_append, member_rotate, kept_was, kept_passes, not_kept_at, apart, not_kept}
use Rattle.plain.proofs.Repeats.{distinct_rotate, distinct_append}
use Rattle.plain.proofs.Sums.{total_parts, total_members, total_zero, total_keep}
use Rattle.plain.specs.Lists.{member, keep, total, rotate}
use Rattle.plain.specs.Members.{Distinct, Within}
use Rattle.definition.specs.State.{Graph, kind, weight, has_weight, is_element, merge_into, put_elements, put_variables, put_degree}
use Rattle.definition.specs.Pivot.{collected, passed}
use Rattle.definition.specs.Trim.{trimmed, trim_one, trim_to, relist, drop_element, kept_elements, kept_variables, dropped_elements}
use Rattle.definition.specs.Merge.{entries_of, same_lists}
use Rattle.facts.proofs.Invariant.{var_inside}
use Rattle.facts.proofs.Collected.{distinct_collected, collected_var, pivot_outside}
use Rattle.facts.proofs.Rows.{same_passed, same_dropped, nothing_kept}
use Rattle.facts.proofs.Merging.{part, part_moved}
use Rattle.facts.proofs.Stepped.{kept_e, kept_v, is_mass, after_trim, after_merge, inside, sized1, weight2, elements2, variables2, joined2}
use Rattle.facts.proofs.Facts.{kept_element_lem, kept_variable_lem, kept_distinct, kept_distinct_variables}
use Rattle.facts.proofs.Same.{same_entries}
use Rattle.facts.proofs.Sizes.{sized_dropped, sized_trim_one}
use Rattle.facts.specs.Invariant.{Sized, Var, Quotient}

-- rows without weight add nothing
pub heavy_all : (g : Graph) (xs : List ℕ) → total (weight g) (keep (has_weight g) xs) ≡ total (weight g) xs
heavy_all g xs =
    total_keep (weight g) (has_weight g) xs
    ∙ total_members (λ v. cond (has_weight g v) (weight g v) 0) (weight g) xs
    (λ v m. either (cond (has_weight g v) (weight g v) 0 ≡ weight g v) (has_weight g v) (λ e. rw e) (λ e. rw e (omega (arith, ltb-false 0 (weight g v) e))))

-- ---- step 4 moves weight to the pivot only

trim_one_total : {n : ℕ} (aggressive : Bool) (g : Graph) (p : ℕ) (new : List ℕ) (h : Graph) (w : ℕ) → Sized n h → p < n → w < n → Distinct (p ∷ new) → member w new ≡ true
    → total (weight (trim_one aggressive g p new h w)) (p ∷ new) ≡ total (weight h) (p ∷ new)
unfolding trim_one trim_to relist put_elements put_variables put_degree
trim_one_total {n} aggressive g p new h w s lp lw d m =
    go (nothing_kept aggressive g p new w) ∙ ap (λ (l : List ℕ). total (λ v. get_or l v 0) (p ∷ new)) (same_dropped h p (dropped_elements aggressive g new w)).weights
  where
    base : Graph
    base = foldl (drop_element p) h (dropped_elements aggressive g new w)

    go : (b : Bool) → total (weight (cond b (merge_into p w base) (relist g p new (kept_elements aggressive g new w) (kept_variables g p new w) w base))) (p ∷ new) ≡ total (weight base) (p ∷ new)
    go true = part_moved (λ x. true) p w base (p ∷ new) (sized_dropped p h (dropped_elements aggressive g new w) s) lp lw (apart p w new d.0 m) refl d (member_here p new) (member_there w p new m)
    go false = refl

trim_total : {n : ℕ} (aggressive : Bool) (g : Graph) (p : ℕ) (new ws : List ℕ) (h : Graph) → Sized n h → p < n → ((v : ℕ) → member v new ≡ true → v < n) → Distinct (p ∷ new) → Within ws new
    → total (weight (foldl (trim_one aggressive g p new) h ws)) (p ∷ new) ≡ total (weight h) (p ∷ new)
trim_total aggressive g p new [] h s lp l d w = refl
trim_total aggressive g p new (v ∷ ws) h s lp l d w =
    trim_total aggressive g p new ws (trim_one aggressive g p new h v) (sized_trim_one aggressive g p new h v s) lp l d (λ x m. w x (member_there x v ws m))
    ∙ trim_one_total aggressive g p new h v s lp (l v (w v (member_here v ws))) d (w v (member_here v ws))

module _ {n : ℕ} (key_of : ℕ → ℕ) (aggressive : Bool) (g : Graph) (p : ℕ) (q : Quotient n g) (pv : Var g p) where
  abbrev g2 : Graph
  g2 = after_trim aggressive g p

  abbrev g3 : Graph
  g3 = after_merge key_of aggressive g p

  abbrev new : List ℕ
  new = collected g p

  abbrev compared : List ℕ
  compared = keep (has_weight g2) new

  abbrev others : List ℕ
  others = keep (λ v. not (has_weight g2 v)) new

  -- what is compared is no mass, and what is not is mass
  pub compared_mass : (v : ℕ) → member v compared ≡ true → is_mass aggressive g p v ≡ false
  compared_mass v m = either (is_mass aggressive g p v ≡ false) (is_mass aggressive g p v)
      (λ e.
      let z : weight g2 v ≡ 0 = weight2 aggressive g p q pv v (kept_was v (has_weight g2) new m) ∙ ap (λ (b : Bool). cond b 0 (weight g v)) e in
      absurd (omega (arith, ltb-true 0 (weight g2 v) (kept_passes v (has_weight g2) new m))))
      (λ e. e)

  others_mass : (v : ℕ) → member v others ≡ true → is_mass aggressive g p v ≡ true
  others_mass v m = either (is_mass aggressive g p v ≡ true) (is_mass aggressive g p v) (λ e. e)
      (λ e.
      let mv : member v new ≡ true = kept_was v (λ x. not (has_weight g2 x)) new m in
      let z : weight g2 v ≡ weight g v = weight2 aggressive g p q pv v mv ∙ ap (λ (b : Bool). cond b 0 (weight g v)) e in
      absurd (omega (arith, q.heavy v (collected_var q p pv v mv), ltb-false 0 (weight g2 v) (not_back (has_weight g2 v) (kept_passes v (λ x. not (has_weight g2 x)) new m)))))

  others_weight : (v : ℕ) → member v others ≡ true → weight g3 v ≡ 0
  others_weight v m =
      let nw : has_weight g2 v ≡ false = not_back (has_weight g2 v) (kept_passes v (λ x. not (has_weight g2 x)) new m) in
      (joined2 aggressive g p q pv key_of).outside_weight v (not_kept_at v (has_weight g2) new nw) ∙ light nw
    where
      light : has_weight g2 v ≡ false → weight g2 v ≡ 0
      light nw = let b = ltb-false 0 (weight g2 v) nw in omega arith

  compared_weight : (v : ℕ) → member v compared ≡ true → weight g2 v ≡ weight g v
  compared_weight v m =
      weight2 aggressive g p q pv v (kept_was v (has_weight g2) new m) ∙ ap (λ (b : Bool). cond b 0 (weight g v)) (compared_mass v m)

  -- ---- the entries that step 5 compares

  entries : (v : ℕ) → member v new ≡ true → is_mass aggressive g p v ≡ false → entries_of g2 v ≡ rotate (kept_e aggressive g p v) ++ rotate (kept_v g p v)
  entries v m e = rw (elements2 aggressive g p q pv v m e, variables2 aggressive g p q pv v m e)

  pub entry : (x v : ℕ) → member v new ≡ true → is_mass aggressive g p v ≡ false → member x (entries_of g2 v) ≡ member x (kept_e aggressive g p v ++ kept_v g p v)
  entry x v m e =
      ap (member x) (entries v m e) ∙ member_append x (rotate (kept_e aggressive g p v)) (rotate (kept_v g p v))
      ∙ ap (λ (b : Bool). b || member x (rotate (kept_v g p v))) (member_rotate x (kept_e aggressive g p v))
      ∙ ap (λ (b : Bool). member x (kept_e aggressive g p v) || b) (member_rotate x (kept_v g p v))
      ∙ sym (member_append x (kept_e aggressive g p v) (kept_v g p v))

  pub distinct_entries : (v : ℕ) → member v new ≡ true → is_mass aggressive g p v ≡ false → Distinct (entries_of g2 v)
  distinct_entries v m e =
      let vv = collected_var q p pv v m in
      rw (entries v m e)
      (distinct_append (rotate (kept_e aggressive g p v)) (rotate (kept_v g p v)) (distinct_rotate (kept_e aggressive g p v) (kept_distinct aggressive g p q pv v vv))
      (distinct_rotate (kept_v g p v) (kept_distinct_variables aggressive g p q pv v vv))
      (λ x k. either (member x (rotate (kept_v g p v)) ≡ false) (member x (rotate (kept_v g p v)))
      (λ r. clash (is_element (kind g x))
      (q.elements_live v x vv (kept_element_lem aggressive g p q pv v x (sym (member_rotate x (kept_e aggressive g p v)) ∙ k))).0
      (q.no_element v x vv (kept_variable_lem aggressive g p q pv v x (sym (member_rotate x (kept_v g p v)) ∙ r)))) (λ r. r)))

  -- ---- F8

  pub sums3 : (r : ℕ → Bool)
      → ((i j : ℕ) → member i new ≡ true → member j new ≡ true → is_mass aggressive g p i ≡ false → is_mass aggressive g p j ≡ false
      → Within (kept_e aggressive g p i ++ kept_v g p i) (kept_e aggressive g p j ++ kept_v g p j)
      → Within (kept_e aggressive g p j ++ kept_v g p j) (kept_e aggressive g p i ++ kept_v g p i) → r i ≡ r j)
      → ((v : ℕ) → member v new ≡ true → is_mass aggressive g p v ≡ true → r v ≡ false)
      → total (part r g3) new ≡ total (part r g) new
  sums3 r closed none =
      let a : total (part r g3) others ≡ 0 = total_zero (part r g3) others (λ v m. ap (λ (w : ℕ). cond (r v) w 0) (others_weight v m) ∙ zero_both (r v)) in
      let b : total (part r g) others ≡ 0 = total_zero (part r g) others
      (λ v m. ap (λ (b : Bool). cond b (weight g v) 0) (none v (kept_was v (λ x. not (has_weight g2 x)) new m) (others_mass v m))) in
      let c : total (part r g3) compared ≡ total (part r g2) compared = (joined2 aggressive g p q pv key_of).sums r agree in
      let d : total (part r g2) compared ≡ total (part r g) compared = total_members (part r g2) (part r g) compared (λ v m. ap (λ (w : ℕ). cond (r v) w 0) (compared_weight v m)) in
      omega (arith, total_parts (part r g3) (has_weight g2) new, total_parts (part r g) (has_weight g2) new)
    where
      zero_both : (b : Bool) → ◌≡◌ {A = ℕ} (cond b 0 0) 0
      zero_both true = refl
      zero_both false = refl

      agree : (i j : ℕ) → member i compared ≡ true → member j compared ≡ true → same_lists g2 i j ≡ true → r i ≡ r j
      agree i j mi mj h =
          let ni = kept_was i (has_weight g2) new mi in
          let nj = kept_was j (has_weight g2) new mj in
          let ei = compared_mass i mi in
          let ej = compared_mass j mj in
          let k = same_entries g2 i j h in
          closed i j ni nj ei ej
          (λ x m. sym (entry x j nj ej) ∙ k.3 x (entry x i ni ei ∙ m))
          (λ x m. sym (entry x i ni ei) ∙ k.2 x (entry x j nj ej ∙ m))

  -- ---- all of it

  pub conserved3 : weight g3 p + total (weight g3) new ≡ weight g p + total (weight g) new
  unfolding trimmed total
  conserved3 =
      let dn : Distinct (p ∷ new) = (pivot_outside g p, distinct_collected g p) in
      let a : total (weight g2) (p ∷ new) ≡ total (weight (passed g p)) (p ∷ new) =
      trim_total aggressive (passed g p) p new new (passed g p) (sized1 aggressive g p q pv) (var_inside q p pv) (inside aggressive g p q pv) dn (λ x m. m) in
      let b : total (weight (passed g p)) (p ∷ new) ≡ total (weight g) (p ∷ new) = ap (λ (l : List ℕ). total (λ v. get_or l v 0) (p ∷ new)) (same_passed g p).weights in
      let c : weight g3 p ≡ weight g2 p = (joined2 aggressive g p q pv key_of).outside_weight p (not_kept p (has_weight g2) new (pivot_outside g p)) in
      let d : total (weight g3) compared ≡ total (weight g2) compared = (joined2 aggressive g p q pv key_of).sums (λ x. true) (λ i j mi mj h. refl) in
      let e : total (weight g3) others ≡ total (weight g2) others = total_members (weight g3) (weight g2) others
      (λ v m. (joined2 aggressive g p q pv key_of).outside_weight v (not_kept_at v (has_weight g2) new (not_back (has_weight g2 v) (kept_passes v (λ x. not (has_weight g2 x)) new m)))) in
      omega (arith, total_parts (weight g3) (has_weight g2) new, total_parts (weight g2) (has_weight g2) new)
