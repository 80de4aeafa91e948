-- Steps 4 and 5: whom each row belongs to after them. Mass elimination gives to the pivot what belonged to a variable; a merge gives it to a row of equal lists.
-- Assumes nothing.
use Prim.Native.Nat.{ℕ, ◌<◌}
use native.Mathlib.Omega.{arith}
use mathlib.Core.Path.{◌≡◌, refl, sym, ap, ◌∙◌}
use mathlib.Core.Logic.{◌≢◌}
use mathlib.Core.Bool.{Bool, true, false, cond, ◌&&◌}
use mathlib.Core.List.{List, [], ◌∷◌, foldl}
use mathlib.Core.Option.{none, some}
use lib.Dec.{eqb}
use lib.ListN.{get_or}
use lib.Seq.{get_or-set_same}
use borrow.Author.Tests.{eqb-true, eqb-false, eq-eqb, ne_eqb, ltb-true}
use Rattle.plain.proofs.Logic.{either, and_left, and_right}
use Rattle.plain.proofs.Members.{no_member, member_cases, kept_was, kept_passes, apart, not_there, not_here}
use Rattle.plain.proofs.Positions.{get_or_mapped}
use Rattle.plain.specs.Lists.{member, keep}
use Rattle.plain.specs.Members.{Distinct, Within}
use Rattle.definition.specs.State.{Graph, weight, parent, rep, has_weight, put_kind, put_reps, put_parent, put_weight, put_elements, put_variables, put_degree, merge_into}
use Rattle.definition.specs.Trim.{trim_one, trim_to, relist, drop_element, kept_elements, kept_variables, dropped_elements}
use Rattle.definition.specs.Merge.{entries_of, key, same_lists, alike, merged_alike}
use Rattle.facts.proofs.Merging.{merged_keeps, weight_into, weight_gone, weight_kept, parent_kept, elements_kept, variables_kept}
use Rattle.facts.proofs.Rows.{same_dropped, nothing_kept}
use Rattle.facts.proofs.Same.{same_entries}
use Rattle.facts.proofs.Sizes.{sized_merge_into, sized_dropped, sized_trim_one}
use Rattle.facts.specs.Invariant.{Sized}

-- ---- one merge

pub rep_into : {n : ℕ} (i j v : ℕ) (h : Graph) → Sized n h → v < n → rep (merge_into i j h) v ≡ cond (eqb (rep h v) j) i (rep h v)
unfolding merge_into put_kind put_reps put_parent put_weight
rep_into i j v h s l = get_or_mapped (λ r. cond (eqb r j) i r) h.reps v 0 0 (omega (arith, s.reps))

pub parent_gone : {n : ℕ} (i j : ℕ) (h : Graph) → Sized n h → j < n → parent (merge_into i j h) j ≡ some i
unfolding merge_into put_kind put_reps put_parent put_weight
parent_gone i j h s l = get_or-set_same h.parents j (some i) none (omega (arith, s.parents))

-- ---- step 4

-- where r goes while the rows ws are trimmed
unfoldable pub chased : (ℕ → Bool) → ℕ → List ℕ → ℕ → ℕ
chased mass p [] r = r
chased mass p (w ∷ ws) r = chased mass p ws (cond (mass w && eqb r w) p r)

pub chased_other : (mass : ℕ → Bool) (p : ℕ) (ws : List ℕ) (r : ℕ) → member r ws ≡ false → chased mass p ws r ≡ r
unfolding chased
chased_other mass p [] r m = refl
chased_other mass p (w ∷ ws) r m = rw (ne_eqb r w (not_here r w ws m)) (pass (mass w) (chased_other mass p ws r (not_there r w ws m)))
  where
    pass : (b : Bool) → chased mass p ws r ≡ r → chased mass p ws (cond (b && false) p r) ≡ r
    pass true e = e
    pass false e = e

pub chased_mass : (mass : ℕ → Bool) (p : ℕ) (ws : List ℕ) (r : ℕ) → member p ws ≡ false → member r ws ≡ true → mass r ≡ true → chased mass p ws r ≡ p
unfolding chased
chased_mass mass p [] r np m k = no_member r m
chased_mass mass p (w ∷ ws) r np m k =
    member_cases (chased mass p ws (cond (mass w && eqb r w) p r) ≡ p) r w ws m
    (λ e. rw (← e, k, eq-eqb r r refl) (chased_other mass p ws p (not_there p w ws np)))
    (λ ne x. rw (ne_eqb r w ne) (pass (mass w) (chased_mass mass p ws r (not_there p w ws np) x k)))
  where
    pass : (b : Bool) → chased mass p ws r ≡ p → chased mass p ws (cond (b && false) p r) ≡ p
    pass true e = e
    pass false e = e

pub chased_kept : (mass : ℕ → Bool) (p : ℕ) (ws : List ℕ) (r : ℕ) → mass r ≡ false → chased mass p ws r ≡ r
unfolding chased
chased_kept mass p [] r k = refl
chased_kept mass p (w ∷ ws) r k =
    either (chased mass p ws (cond (mass w && eqb r w) p r) ≡ r) (eqb r w)
    (λ e. rw (← (eqb-true r w e), k) (chased_kept mass p ws r k))
    (λ e. rw e (pass (mass w) (chased_kept mass p ws r k)))
  where
    pass : (b : Bool) → chased mass p ws r ≡ r → chased mass p ws (cond (b && false) p r) ≡ r
    pass true e = e
    pass false e = e

module _ (aggressive : Bool) (g : Graph) (p : ℕ) (new : List ℕ) where
  abbrev mass : ℕ → Bool
  mass w = nothing_kept aggressive g p new w

  rep_turn : {n : ℕ} (v : ℕ) → v < n → (h : Graph) (w : ℕ) → Sized n h → rep (trim_one aggressive g p new h w) v ≡ cond (mass w && eqb (rep h v) w) p (rep h v)
  unfolding trim_one trim_to relist put_elements put_variables put_degree
  rep_turn v l h w s = go (mass w)
    where
      base : Graph
      base = foldl (drop_element p) h (dropped_elements aggressive g new w)

      before : rep base v ≡ rep h v
      before = ap (λ (m : List ℕ). get_or m v 0) (same_dropped h p (dropped_elements aggressive g new w)).reps

      go : (b : Bool) → rep (cond b (merge_into p w base) (relist g p new (kept_elements aggressive g new w) (kept_variables g p new w) w base)) v ≡ cond (b && eqb (rep h v) w) p (rep h v)
      go true = rep_into p w v base (sized_dropped p h (dropped_elements aggressive g new w) s) l ∙ ap (λ (r : ℕ). cond (eqb r w) p r) before
      go false = before

  pub rep_turns : {n : ℕ} (v : ℕ) → v < n → (ws : List ℕ) (h : Graph) → Sized n h → rep (foldl (trim_one aggressive g p new) h ws) v ≡ chased mass p ws (rep h v)
  unfolding chased
  rep_turns v l [] h s = refl
  rep_turns v l (w ∷ ws) h s =
      rep_turns v l ws (trim_one aggressive g p new h w) (sized_trim_one aggressive g p new h w s) ∙ ap (chased mass p ws) (rep_turn v l h w s)

-- ---- step 5

pub record Moved (n : ℕ) (vs : List ℕ) (g h : Graph) : Type 0 where
  pub sized : Sized n h
  pub elements : h.elements ≡ g.elements
  pub variables : h.variables ≡ g.variables
  pub goes : ℕ → ℕ
  pub follows : (v : ℕ) → v < n → rep h v ≡ goes (rep g v)
  pub outside : (r : ℕ) → member r vs ≡ false → goes r ≡ r
  pub inside : (r : ℕ) → member r vs ≡ true → (member (goes r) vs ≡ true) × (0 < weight h (goes r))
  pub forth : (r : ℕ) → member r vs ≡ true → Within (entries_of g r) (entries_of g (goes r))
  pub back : (r : ℕ) → member r vs ≡ true → Within (entries_of g (goes r)) (entries_of g r)
  pub fixed : (r : ℕ) → member r vs ≡ true → 0 < weight h r → goes r ≡ r
  pub lost : (r : ℕ) → member r vs ≡ true → weight h r ≡ 0 → (i : ℕ) × (member i vs ≡ true) × (parent h r ≡ some i) × (goes r ≡ goes i)

as_before : {n : ℕ} {vs : List ℕ} {g h : Graph} (i j : ℕ) → Moved n vs g h → same_lists h i j ≡ true → same_lists g i j ≡ true
unfolding same_lists
as_before i j k q = rw (← k.elements, ← k.variables) q

module _ {n : ℕ} (vs : List ℕ) (g : Graph) (l : (v : ℕ) → member v vs ≡ true → v < n) where
  moved_merge : (key_of : ℕ → ℕ) (i j : ℕ) (h : Graph) → member i vs ≡ true → member j vs ≡ true → i ≢ j → alike key_of h i j ≡ true → Moved n vs g h
      → Moved n vs g (merge_into i j h)
  unfolding alike
  moved_merge key_of i j h mi mj ne e k =
      let a1 : has_weight h i && has_weight h j && eqb (key key_of h i) (key key_of h j) ≡ true = and_left _ (same_lists h i j) e in
      let a2 : has_weight h i && has_weight h j ≡ true = and_left _ (eqb (key key_of h i) (key key_of h j)) a1 in
      let wi : 0 < weight h i = ltb-true 0 (weight h i) (and_left (has_weight h i) (has_weight h j) a2) in
      let wj : 0 < weight h j = ltb-true 0 (weight h j) (and_right (has_weight h i) (has_weight h j) a2) in
      let same : same_lists g i j ≡ true = as_before i j k (and_right (has_weight h i && has_weight h j && eqb (key key_of h i) (key key_of h j)) (same_lists h i j) e) in
      let ws = same_entries g i j same in
      record {
        sized = sized_merge_into i j h k.sized;
        elements = elements_kept i j h ∙ k.elements;
        variables = variables_kept i j h ∙ k.variables;
        goes = λ r. cond (eqb (k.goes r) j) i (k.goes r);
        follows = λ v lv. rep_into i j v h k.sized lv ∙ ap (λ (r : ℕ). cond (eqb r j) i r) (k.follows v lv);
        outside = λ r m. let q : k.goes r ≡ r = k.outside r m in rw (q, ne_eqb r j (apart r j vs m mj));
        inside = λ r m. either ((member (cond (eqb (k.goes r) j) i (k.goes r)) vs ≡ true) × (0 < weight (merge_into i j h) (cond (eqb (k.goes r) j) i (k.goes r)))) (eqb (k.goes r) j)
            (λ q. rw q (mi, rw (weight_into i j h k.sized (l i mi) ne) (omega arith)))
            (λ q. rw q ((k.inside r m).0, heavy (k.goes r) (eqb-false (k.goes r) j q) wi (k.inside r m).1));
        forth = λ r m. either (Within (entries_of g r) (entries_of g (cond (eqb (k.goes r) j) i (k.goes r)))) (eqb (k.goes r) j)
            (λ q. rw q (λ x h. ws.2 x (ap (λ (z : ℕ). member x (entries_of g z)) (sym (eqb-true (k.goes r) j q)) ∙ k.forth r m x h)))
            (λ q. rw q (k.forth r m));
        back = λ r m. either (Within (entries_of g (cond (eqb (k.goes r) j) i (k.goes r))) (entries_of g r)) (eqb (k.goes r) j)
            (λ q. rw q (λ x h. k.back r m x (ap (λ (z : ℕ). member x (entries_of g z)) (eqb-true (k.goes r) j q) ∙ ws.3 x h)))
            (λ q. rw q (k.back r m));
        fixed = λ r m w. either (cond (eqb (k.goes r) j) i (k.goes r) ≡ r) (eqb r j)
            (λ q. absurd (omega (arith, weight_gone i j h k.sized (l j mj), ap (weight (merge_into i j h)) (eqb-true r j q))))
            (λ q. let z : k.goes r ≡ r = k.fixed r m (was_heavy r (eqb-false r j q) wi w) in rw (z, q));
        lost = λ r m w. either ((x : ℕ) × (member x vs ≡ true) × (parent (merge_into i j h) r ≡ some x) × (cond (eqb (k.goes r) j) i (k.goes r) ≡ cond (eqb (k.goes x) j) i (k.goes x))) (eqb r j)
            (λ q. (i, mi, ap (parent (merge_into i j h)) (eqb-true r j q) ∙ parent_gone i j h k.sized (l j mj), ap (λ (x : ℕ). cond (eqb (k.goes x) j) i (k.goes x)) (eqb-true r j q) ∙ now_one wi wj))
            (λ q. let z = k.lost r m (was_light r (eqb-false r j q) wi w) in
            (z.0, z.1, parent_kept i j r h (eqb-false r j q) ∙ z.2, ap (λ (x : ℕ). cond (eqb x j) i x) z.3));
      }
    where
      -- what belonged to j belongs to i now
      now_one : 0 < weight h i → 0 < weight h j → cond (eqb (k.goes j) j) i (k.goes j) ≡ cond (eqb (k.goes i) j) i (k.goes i)
      now_one wi wj =
          let a : k.goes i ≡ i = k.fixed i mi wi in
          let b : k.goes j ≡ j = k.fixed j mj wj in
          rw (a, b, eq-eqb j j refl, ne_eqb i j ne)

      heavy : (r : ℕ) → r ≢ j → 0 < weight h i → 0 < weight h r → 0 < weight (merge_into i j h) r
      heavy r nj wi w = either (0 < weight (merge_into i j h) r) (eqb r i)
          (λ q. rw (eqb-true r i q, weight_into i j h k.sized (l i mi) ne) (omega arith))
          (λ q. rw (weight_kept i j r h (eqb-false r i q) nj) w)

      was_heavy : (r : ℕ) → r ≢ j → 0 < weight h i → 0 < weight (merge_into i j h) r → 0 < weight h r
      was_heavy r nj wi w = either (0 < weight h r) (eqb r i) (λ q. rw (eqb-true r i q) wi) (λ q. omega (arith, weight_kept i j r h (eqb-false r i q) nj))

      was_light : (r : ℕ) → r ≢ j → 0 < weight h i → weight (merge_into i j h) r ≡ 0 → weight h r ≡ 0
      was_light r nj wi w = either (weight h r ≡ 0) (eqb r i)
          (λ q. absurd (omega (arith, weight_into i j h k.sized (l i mi) ne, ap (weight (merge_into i j h)) (eqb-true r i q))))
          (λ q. sym (weight_kept i j r h (eqb-false r i q) nj) ∙ w)

pub moved : {n : ℕ} (key_of : ℕ → ℕ) (new : List ℕ) (g : Graph) → Sized n g → Distinct new → ((v : ℕ) → member v new ≡ true → v < n)
    → Moved n (keep (has_weight g) new) g (merged_alike key_of new g)
moved {n} key_of new g s d l =
    let vs = keep (has_weight g) new in
    merged_keeps (Moved n vs g) key_of new g d (moved_merge vs g (λ v m. l v (kept_was v (has_weight g) new m)) key_of)
    (record {
      sized = s;
      elements = refl;
      variables = refl;
      goes = λ r. r;
      follows = λ v lv. refl;
      outside = λ r m. refl;
      inside = λ r m. (m, ltb-true 0 (weight g r) (kept_passes r (has_weight g) new m));
      forth = λ r m x h. h;
      back = λ r m x h. h;
      fixed = λ r m w. refl;
      lost = λ r m w. absurd (omega (arith, ltb-true 0 (weight g r) (kept_passes r (has_weight g) new m)));
    })
