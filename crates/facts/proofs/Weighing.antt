-- The weights are counts: who is not dense weighs as many rows as belong to it, and a merged row none. Each merge keeps it (LL7 at a merge), and so does each step.
-- Assumes nothing.
use Prim.Native.Nat.{ℕ, ◌-◌, ◌+◌, ◌<◌}
use native.Mathlib.Omega.{arith}
use mathlib.Core.Path.{◌≡◌, refl, sym, ap, ◌∙◌}
use mathlib.Core.Logic.{◌≢◌}
use mathlib.Core.Bool.{Bool, true, false, cond}
use mathlib.Core.List.{List, ◌∷◌, foldl}
use lib.Dec.{eqb}
use lib.ListN.{get_or}
use borrow.Author.Tests.{eqb-true, eqb-false}
use Rattle.plain.proofs.Counting.{same_eq, same_ne}
use Rattle.plain.proofs.Folds.{foldl_keeps, all_in}
use Rattle.plain.proofs.Logic.{either}
use Rattle.plain.proofs.Members.{member_here, member_there, member_cases, kept_was, up_to_below, apart}
use Rattle.plain.proofs.Sums.{total_members, total_add, total_zero}
use Rattle.plain.specs.Lists.{member, total, up_to}
use Rattle.plain.specs.Members.{In, same}
use Rattle.definition.specs.State.{Graph, State, Kind, merged, kind, weight, rep, has_weight, is_dense, merge_into, put_elements, put_variables, put_degree}
use Rattle.definition.specs.Pivot.{collected, passed, delisted}
use Rattle.definition.specs.Trim.{trim_one, trim_to, trimmed, relist, drop_element, kept_elements, kept_variables, dropped_elements}
use Rattle.definition.specs.Elimination.{eliminate, finish}
use Rattle.facts.proofs.Collected.{distinct_collected, collected_var, pivot_outside}
use Rattle.facts.proofs.Invariant.{var_inside, var_not_dense}
use Rattle.facts.proofs.Merging.{merged_keeps, weight_into, weight_gone, weight_kept, kind_gone, kind_kept}
use Rattle.facts.proofs.Moved.{rep_into}
use Rattle.facts.proofs.Rows.{SameRows, same_passed, same_dropped, nothing_kept}
use Rattle.facts.proofs.Sizes.{sized_merge_into, sized_dropped, sized_trim_one}
use Rattle.facts.proofs.Step.{survivors_of, rest_of, start_of, weight_t, rep_t, kind_t}
use Rattle.facts.proofs.Stepped.{after_trim, after_merge, inside, sized1}
use Rattle.facts.specs.Invariant.{Sized, Var, Quotient}

-- how many of the rows below n belong to i
abbrev pub owned : ℕ → Graph → ℕ → ℕ
owned n g i = total (λ v. same i (rep g v)) (up_to n)

abbrev pub Weighing : ℕ → Graph → Type 0
Weighing n g = (i : ℕ) → i < n → is_dense (kind g i) ≡ false → weight g i ≡ owned n g i

-- ---- one merge

counted_into : (i j r : ℕ) → i ≢ j → same i (cond (eqb r j) i r) ≡ same i r + same j r
counted_into i j r ne =
    either (same i (cond (eqb r j) i r) ≡ same i r + same j r) (eqb r j)
    (λ e. let k : r ≡ j = eqb-true r j e in rw e (omega (arith, same_eq i i refl, same_ne i r (λ x. ne (x ∙ k)), same_eq j r (sym k))))
    (λ e. rw e (omega (arith, same_ne j r (λ x. eqb-false r j e (sym x)))))

counted_gone : (i j r : ℕ) → i ≢ j → same j (cond (eqb r j) i r) ≡ 0
counted_gone i j r ne =
    either (same j (cond (eqb r j) i r) ≡ 0) (eqb r j)
    (λ e. rw e (same_ne j i (λ x. ne (sym x))))
    (λ e. rw e (same_ne j r (λ x. eqb-false r j e (sym x))))

counted_kept : (i j k r : ℕ) → k ≢ i → k ≢ j → same k (cond (eqb r j) i r) ≡ same k r
counted_kept i j k r ni nj =
    either (same k (cond (eqb r j) i r) ≡ same k r) (eqb r j)
    (λ e. let x : r ≡ j = eqb-true r j e in rw e (omega (arith, same_ne k i ni, same_ne k r (λ y. nj (y ∙ x)))))
    (λ e. rw e)

module _ {n : ℕ} (i j : ℕ) (h : Graph) (s : Sized n h) (li : i < n) (lj : j < n) (ne : i ≢ j) where
  weighing_merge : is_dense (kind h i) ≡ false → is_dense (kind h j) ≡ false → Weighing n h → Weighing n (merge_into i j h)
  weighing_merge oi oj w k lk ok =
      either (weight (merge_into i j h) k ≡ owned n (merge_into i j h) k) (eqb k j)
      (λ e. let x : k ≡ j = eqb-true k j e in
      rw x (weight_gone i j h s lj ∙ sym (total_zero (λ v. same j (rep (merge_into i j h) v)) (up_to n)
      (λ v m. ap (same j) (rep_into i j v h s (up_to_below v n m)) ∙ counted_gone i j (rep h v) ne))))
      (λ e. either (weight (merge_into i j h) k ≡ owned n (merge_into i j h) k) (eqb k i)
      (λ f. let x : k ≡ i = eqb-true k i f in
      rw x (weight_into i j h s li ne
      ∙ omega (
        arith,
        w i li oi,
        w j lj oj,
        total_add (λ v. same i (rep h v)) (λ v. same j (rep h v)) (up_to n),
        total_members (λ v. same i (rep (merge_into i j h) v)) (λ v. same i (rep h v) + same j (rep h v)) (up_to n)
            (λ v m. ap (same i) (rep_into i j v h s (up_to_below v n m)) ∙ counted_into i j (rep h v) ne),
      )))
      (λ f. let nj = eqb-false k j e in
      let ni = eqb-false k i f in
      weight_kept i j k h ni nj ∙ w k lk (ap is_dense (sym (kind_kept i j k h nj)) ∙ ok)
      ∙ total_members (λ v. same k (rep h v)) (λ v. same k (rep (merge_into i j h) v)) (up_to n)
      (λ v m. sym (ap (same k) (rep_into i j v h s (up_to_below v n m)) ∙ counted_kept i j k (rep h v) ni nj))))

weighing_same : {n : ℕ} (g h : Graph) → h.kinds ≡ g.kinds → h.weights ≡ g.weights → h.reps ≡ g.reps → Weighing n g → Weighing n h
weighing_same {n} g h a b c w i l o =
    ap (λ (m : List ℕ). get_or m i 0) b ∙ w i l (ap (λ (m : List Kind). is_dense (get_or m i merged)) (sym a) ∙ o)
    ∙ ap (λ (m : List ℕ). total (λ v. same i (get_or m v 0)) (up_to n)) (sym c)

-- ---- through steps 4 and 5

-- the rows vs are not dense, and may be merged
record Fair (n : ℕ) (vs : List ℕ) (h : Graph) : Type 0 where
  sized : Sized n h
  weighing : Weighing n h
  ordered : (v : ℕ) → member v vs ≡ true → is_dense (kind h v) ≡ false

module _ {n : ℕ} (vs : List ℕ) (l : (v : ℕ) → member v vs ≡ true → v < n) where
  fair_merge : (i j : ℕ) (h : Graph) → member i vs ≡ true → member j vs ≡ true → i ≢ j → Fair n vs h → Fair n vs (merge_into i j h)
  fair_merge i j h mi mj ne f = record {
    sized = sized_merge_into i j h f.sized;
    weighing = weighing_merge i j h f.sized (l i mi) (l j mj) ne (f.ordered i mi) (f.ordered j mj) f.weighing;
    ordered = λ v m. either (is_dense (kind (merge_into i j h) v) ≡ false) (eqb v j)
        (λ e. ap (λ (z : ℕ). is_dense (kind (merge_into i j h) z)) (eqb-true v j e) ∙ ap is_dense (kind_gone i j h f.sized (l j mj)))
        (λ e. ap is_dense (kind_kept i j v h (eqb-false v j e)) ∙ f.ordered v m);
  }

fair_same : {n : ℕ} (vs : List ℕ) (g h : Graph) → Sized n h → SameRows g h → Fair n vs g → Fair n vs h
fair_same vs g h s same f = record {
  sized = s;
  weighing = weighing_same g h same.kinds same.weights same.reps f.weighing;
  ordered = λ v m. ap (λ (k : List Kind). is_dense (get_or k v merged)) same.kinds ∙ f.ordered v m;
}

fair_trim : {n : ℕ} (aggressive : Bool) (g : Graph) (p : ℕ) (new : List ℕ) (h : Graph) (w : ℕ) → ((v : ℕ) → member v (p ∷ new) ≡ true → v < n) → member p new ≡ false → member w new ≡ true
    → Fair n (p ∷ new) h → Fair n (p ∷ new) (trim_one aggressive g p new h w)
unfolding trim_one trim_to relist put_elements put_variables put_degree
fair_trim {n} aggressive g p new h w l np m f = go (nothing_kept aggressive g p new w) (sized_trim_one aggressive g p new h w f.sized)
  where
    base : Graph
    base = foldl (drop_element p) h (dropped_elements aggressive g new w)

    fair_base : Fair n (p ∷ new) base
    fair_base = fair_same (p ∷ new) h base (sized_dropped p h (dropped_elements aggressive g new w) f.sized) (same_dropped h p (dropped_elements aggressive g new w)) f

    go : (b : Bool) → Sized n (cond b (merge_into p w base) (relist g p new (kept_elements aggressive g new w) (kept_variables g p new w) w base))
        → Fair n (p ∷ new) (cond b (merge_into p w base) (relist g p new (kept_elements aggressive g new w) (kept_variables g p new w) w base))
    go true s = fair_merge (p ∷ new) l p w base (member_here p new) (member_there w p new m) (apart p w new np m) fair_base
    go false s = record { sized = s; weighing = fair_base.weighing; ordered = fair_base.ordered }

module _ {n : ℕ} (key_of : ℕ → ℕ) (aggressive : Bool) (g : Graph) (p : ℕ) (q : Quotient n g) (pv : Var g p) where
  abbrev new : List ℕ
  new = collected g p

  below : (v : ℕ) → member v (p ∷ new) ≡ true → v < n
  below v m = member_cases (v < n) v p new m (λ e. rw e (var_inside q p pv)) (λ ne k. inside aggressive g p q pv v k)

  ordered_first : (v : ℕ) → member v (p ∷ new) ≡ true → is_dense (kind g v) ≡ false
  ordered_first v m = var_not_dense (kind g v) (member_cases (Var g v) v p new m (λ e. rw e pv) (λ ne k. collected_var q p pv v k))

  fair1 : Weighing n g → Fair n (p ∷ new) (passed g p)
  fair1 w = fair_same (p ∷ new) g (passed g p) (sized1 aggressive g p q pv) (same_passed g p) (record { sized = q.sized; weighing = w; ordered = ordered_first })

  fair2 : Weighing n g → Fair n (p ∷ new) (after_trim aggressive g p)
  unfolding trimmed
  fair2 w = foldl_keeps (Fair n (p ∷ new)) (λ v. In v new) (trim_one aggressive (passed g p) p new)
      (λ b v m f. fair_trim aggressive (passed g p) p new b v below (pivot_outside g p) m f) new (passed g p) (all_in (λ v. In v new) new (λ x m. m)) (fair1 w)

  fair3 : Weighing n g → Fair n (p ∷ new) (after_merge key_of aggressive g p)
  fair3 w = merged_keeps (Fair n (p ∷ new)) key_of new (after_trim aggressive g p) (distinct_collected g p)
      (λ i j h mi mj ne e f. fair_merge (p ∷ new) below i j h
      (member_there i p new (kept_was i (has_weight (after_trim aggressive g p)) new mi)) (member_there j p new (kept_was j (has_weight (after_trim aggressive g p)) new mj)) ne f)
      (fair2 w)

  module _ (left : ℕ) (queues : List (List ℕ)) (least : ℕ) where
    abbrev t : Graph
    t = (Rattle.definition.specs.Place.placed left (rest_of key_of aggressive g p) (survivors_of key_of aggressive g p) (start_of key_of aggressive g p queues least)).graph

    weighing_t : Weighing n g → Weighing n t
    weighing_t w i l o =
        let f = fair3 w in
        weight_t key_of aggressive g p q pv left queues least i
        ∙ f.weighing i l
        (either (is_dense (kind (after_merge key_of aggressive g p) i) ≡ false) (eqb i p)
        (λ e. ap (λ (z : ℕ). is_dense (kind (after_merge key_of aggressive g p) z)) (eqb-true i p e) ∙ f.ordered p (member_here p new))
        (λ e. ap is_dense (sym (kind_t key_of aggressive g p q pv left queues least i (eqb-false i p e))) ∙ o))
        ∙ total_members (λ v. same i (rep (after_merge key_of aggressive g p) v)) (λ v. same i (rep t v)) (up_to n)
        (λ v m. ap (same i) (sym (rep_t key_of aggressive g p q pv left queues least v)))

pub weighing_after : {n : ℕ} (key_of : ℕ → ℕ) (m : ℕ) (aggressive : Bool) (s : State) (p d : ℕ) → Quotient n s.graph → Var s.graph p
    → Weighing n s.graph → Weighing n (eliminate key_of m aggressive s p d).graph
unfolding eliminate finish survivors_of rest_of
weighing_after key_of m aggressive s p d q pv =
    weighing_t key_of aggressive s.graph p q pv (m - (s.gone + weight (after_merge key_of aggressive s.graph p) p)) (delisted s.graph s.queues (p ∷ collected s.graph p)) d
