-- K-c: comparing only rows of one place, place after place in any order, merges as comparing all of them does, wherever rows of equal lists have one place.
-- Assumes nothing.
use Prim.Native.Nat.{ℕ, ◌<◌}
use mathlib.Core.Path.{◌≡◌, refl, sym, ap, ◌∙◌}
use mathlib.Core.Logic.{◌⊎◌, inl, inr}
use mathlib.Core.Bool.{Bool, true, false, cond, ◌&&◌}
use mathlib.Core.List.{List, [], ◌∷◌, foldl, reverse, map}
use lib.Dec.{eqb}
use borrow.Author.Tests.{eq-eqb, eqb-true}
use Rattle.plain.specs.Lists.{member, keep}
use Rattle.plain.specs.Members.{In, Distinct}
use Rattle.plain.specs.Turns.{firsts}
use Rattle.plain.specs.Classes.{take_all, Alone}
use Rattle.plain.proofs.Logic.{either, clash, or_elim}
use Rattle.plain.proofs.Members.{member_here, member_there, member_either, member_kept, kept_was, kept_passes, member_reverse, member_map, no_member, member_nil, not_cons}
use Rattle.plain.proofs.Repeats.{distinct_keep, distinct_reverse}
use Rattle.plain.proofs.Firsts.{distinct_firsts, firsts_has}
use Rattle.plain.proofs.Classes.{all_other, all_fresh, first_keep}
use Rattle.definition.specs.State.{Graph, has_weight}
use Rattle.definition.specs.Pivot.{collected}
use Rattle.definition.specs.Merge.{key, same_lists, merge_all, merged_alike}
use Rattle.facts.specs.Classes.{newest_first, top_of, owner_of, Grouped, bucket_of, merge_buckets}
use Rattle.facts.specs.Invariant.{Sized, Var, Quotient}
use Rattle.facts.proofs.Collected.{distinct_collected}
use Rattle.facts.proofs.Stepped.{after_trim, after_merge, inside, sized2}
use Rattle.facts.proofs.Same.{same_key}
use Rattle.facts.proofs.Keys.{Clean, clean_compared}
use Rattle.facts.proofs.Classes.{same_equivalence, grouped_owner, grouped_only, grouped_self, grouped_all, top}
use Rattle.facts.proofs.Tops.{top_like}

-- the owners, where the places of `done` are through
unfoldable partly : (ℕ → ℕ) → List ℕ → Graph → List ℕ → ℕ → ℕ
partly place vs g done v = cond (member (place v) done && member v vs) (top_of g vs v) v

module _ {n : ℕ} (vs : List ℕ) (g : Graph) (d : Distinct vs) (l : (v : ℕ) → member v vs ≡ true → v < n) (heavy : (v : ℕ) → In v vs → has_weight g v ≡ true) (clean : Clean vs g)
    (place : ℕ → ℕ) (agree : (i j : ℕ) → In i vs → In j vs → same_lists g i j ≡ true → place i ≡ place j) (key_of : ℕ → ℕ) where
  bucket_was : (k v : ℕ) → In v (bucket_of place vs k) → In v vs
  unfolding bucket_of
  bucket_was k v m = kept_was v (λ x. eqb (place x) k) vs m

  bucket_place : (k v : ℕ) → In v (bucket_of place vs k) → place v ≡ k
  unfolding bucket_of
  bucket_place k v m = eqb-true (place v) k (kept_passes v (λ x. eqb (place x) k) vs m)

  bucket_has : (k v : ℕ) → place v ≡ k → In v vs → In v (bucket_of place vs k)
  unfolding bucket_of
  bucket_has k v e m = member_kept v (λ x. eqb (place x) k) vs (eq-eqb (place v) k e) m

  distinct_bucket : (k : ℕ) → Distinct (bucket_of place vs k)
  unfolding bucket_of
  distinct_bucket k = distinct_keep (λ x. eqb (place x) k) vs d

  -- a place that is not through is untouched
  partly_fresh : (done : List ℕ) (v : ℕ) → member (place v) done ≡ false → partly place vs g done v ≡ v
  unfolding partly
  partly_fresh done v e = rw e

  partly_done : (done : List ℕ) (v : ℕ) → In (place v) done → In v vs → partly place vs g done v ≡ top_of g vs v
  unfolding partly
  partly_done done v e m = rw (e, m)

  partly_out : (done : List ℕ) (v : ℕ) → member v vs ≡ false → partly place vs g done v ≡ v
  unfolding partly
  partly_out done v m = go (member (place v) done)
    where
      go : (b : Bool) → cond (b && member v vs) (top_of g vs v) v ≡ v
      go true = rw m
      go false = refl

  partly_alone : (k : ℕ) (done : List ℕ) → member k done ≡ false → (v : ℕ) → In v (bucket_of place vs k) → Alone (partly place vs g done) v
  partly_alone k done nk v m x e =
      either (x ≡ v) (member (place x) done)
      (λ a. either (x ≡ v) (member x vs)
      (λ b.
      let t : top_of g vs x ≡ v = sym (partly_done done x a b) ∙ e in
      let q : place v ≡ place x = agree v x (bucket_was k v m) b (ap (λ (y : ℕ). same_lists g y x) (sym t) ∙ top_like g vs x b) in
      clash (member (place x) done) a (ap (λ (y : ℕ). member y done) (sym q ∙ bucket_place k v m) ∙ nk))
      (λ b. sym (partly_out done x b) ∙ e))
      (λ a. sym (partly_fresh done x a) ∙ e)

  -- one place
  partly_after : (k : ℕ) (done : List ℕ) → member k done ≡ false → (v : ℕ) → take_all (same_lists g) (bucket_of place vs k) (partly place vs g done) v ≡ partly place vs g (k ∷ done) v
  unfolding bucket_of top_of
  partly_after k done nk v =
      either (take_all (same_lists g) (bucket_of place vs k) (partly place vs g done) v ≡ partly place vs g (k ∷ done) v) (member v (bucket_of place vs k))
      (λ m.
      let mv : In v vs = bucket_was k v m in
      let pv : place v ≡ k = bucket_place k v m in
      all_fresh (same_lists g) (same_equivalence g) v (bucket_of place vs k) (partly place vs g done) (distinct_keep (λ x. eqb (place x) k) vs d)
      (λ x mx. partly_fresh done x (ap (λ (y : ℕ). member y done) (bucket_place k x mx) ∙ nk)) m
      ∙ first_keep (same_lists g) (λ x. eqb (place x) k) v vs (λ i mi h. eq-eqb (place i) k (agree i v mi mv h ∙ pv))
      ∙ sym (partly_done (k ∷ done) v (ap (λ (y : ℕ). member y (k ∷ done)) pv ∙ member_here k done) mv))
      (λ m.
      all_other (same_lists g) v (bucket_of place vs k) (partly place vs g done) m
      ∙ either (partly place vs g done v ≡ partly place vs g (k ∷ done) v) (member v vs)
      (λ mv. either (partly place vs g done v ≡ partly place vs g (k ∷ done) v) (member (place v) done)
      (λ a. partly_done done v a mv ∙ sym (partly_done (k ∷ done) v (member_there (place v) k done a) mv))
      (λ a. partly_fresh done v a ∙ sym (partly_fresh (k ∷ done) v (not_cons (place v) k done (λ q. clash (member v (bucket_of place vs k)) (bucket_has k v q mv) m) a))))
      (λ mv. partly_out done v mv ∙ sym (partly_out (k ∷ done) v mv)))

  grouped_bucket : (k : ℕ) (done : List ℕ) (h : Graph) → member k done ≡ false → Grouped n vs (partly place vs g done) g h
      → Grouped n vs (partly place vs g (k ∷ done)) g (merge_all key_of (bucket_of place vs k) h)
  grouped_bucket k done h nk r =
      grouped_owner (partly_after k done nk)
      (grouped_all vs g d l heavy clean key_of (bucket_of place vs k) (partly place vs g done) h (distinct_bucket k) (bucket_was k) (partly_alone k done nk) r)

  -- all of them
  grouped_buckets : (ks done : List ℕ) (h : Graph) → Distinct ks → ((k : ℕ) → In k ks → member k done ≡ false)
      → ((v : ℕ) → In v vs → In (place v) ks ⊎ In (place v) done) → Grouped n vs (partly place vs g done) g h
      → Grouped n vs (owner_of g vs) g (foldl (λ b k. merge_all key_of (bucket_of place vs k) b) h ks)
  unfolding owner_of
  grouped_buckets [] done h e a c r =
      grouped_owner (λ v. either (partly place vs g done v ≡ cond (member v vs) (top_of g vs v) v) (member v vs)
      (λ m. rw m (partly_done done v (or_elim (In (place v) done) (c v m) (λ q. no_member (place v) q) (λ q. q)) m))
      (λ m. rw m (partly_out done v m))) r
  grouped_buckets (k ∷ ks) done h e a c r =
      grouped_buckets ks (k ∷ done) (merge_all key_of (bucket_of place vs k) h) e.1
      (λ x m. not_cons x k done (λ q. clash (member x ks) m (ap (λ (y : ℕ). member y ks) q ∙ e.0)) (a x (member_there x k ks m)))
      (λ v m. or_elim (In (place v) ks ⊎ In (place v) (k ∷ done)) (c v m)
      (λ q. or_elim (In (place v) ks ⊎ In (place v) (k ∷ done)) (member_either (place v) k ks q)
      (λ f. inr (ap (λ (y : ℕ). member y (k ∷ done)) f ∙ member_here k done)) (λ f. inl f))
      (λ q. inr (member_there (place v) k done q)))
      (grouped_bucket k done h (a k (member_here k ks)) r)

  -- K-c
  pub buckets : Sized n g → (key_of' : ℕ → ℕ) (ks : List ℕ) → Distinct ks → ((v : ℕ) → In v vs → In (place v) ks) → merge_buckets key_of place vs ks g ≡ merge_all key_of' vs g
  unfolding merge_buckets
  buckets s key_of' ks e c =
      grouped_only
      (grouped_buckets ks [] g e (λ k m. member_nil k) (λ v m. inl (c v m)) (grouped_owner (λ v. sym (partly_fresh [] v (member_nil (place v)))) (grouped_self vs g d l s)))
      (top vs g d l heavy clean key_of' s)

  -- each place at the first of its rows
  pub buckets_met : Sized n g → (key_of' : ℕ → ℕ) → merge_buckets key_of place vs (firsts (λ k. true) (map place vs)) g ≡ merge_all key_of' vs g
  buckets_met s key_of' =
      buckets s key_of' (firsts (λ k. true) (map place vs)) (distinct_firsts (λ k. true) (map place vs))
      (λ v m. firsts_has (λ k. true) (map place vs) (place v) refl (member_map place v vs m))

-- ---- in step 5: the place is the key

pub merged_buckets : {n : ℕ} (key_of key_of' : ℕ → ℕ) (new : List ℕ) (g : Graph) → Sized n g → Distinct new → ((v : ℕ) → member v new ≡ true → v < n)
    → Clean (keep (has_weight g) new) g → (ks : List ℕ) → Distinct ks → ((v : ℕ) → In v (newest_first g new) → In (key key_of g v) ks)
    → merge_buckets key_of' (key key_of g) (newest_first g new) ks g ≡ merged_alike key_of new g
unfolding merged_alike newest_first
merged_buckets key_of key_of' new g s d l c ks e f =
    buckets (reverse vs) g (distinct_reverse vs (distinct_keep (has_weight g) new d)) (λ v m. l v (kept_was v (has_weight g) new (back v m)))
    (λ v m. kept_passes v (has_weight g) new (back v m)) (λ v m. c v (back v m)) (key key_of g)
    (λ i j mi mj h. same_key key_of g i j (c i (back i mi)) (c j (back j mj)) h) key_of' s key_of ks e f
  where
    vs : List ℕ
    vs = keep (has_weight g) new

    back : (v : ℕ) → In v (reverse vs) → In v vs
    back v m = sym (member_reverse v vs) ∙ m

-- of a state of the elimination
pub step_buckets : {n : ℕ} (key_of key_of' : ℕ → ℕ) (aggressive : Bool) (g : Graph) (p : ℕ) → Quotient n g → Var g p → (ks : List ℕ) → Distinct ks
    → ((v : ℕ) → In v (newest_first (after_trim aggressive g p) (collected g p)) → In (key key_of (after_trim aggressive g p) v) ks)
    → merge_buckets key_of' (key key_of (after_trim aggressive g p)) (newest_first (after_trim aggressive g p) (collected g p)) ks (after_trim aggressive g p)
    ≡ after_merge key_of aggressive g p
step_buckets key_of key_of' aggressive g p q pv ks e f =
    merged_buckets key_of key_of' (collected g p) (after_trim aggressive g p) (sized2 aggressive g p q pv) (distinct_collected g p) (inside aggressive g p q pv)
    (clean_compared aggressive g p q pv) ks e f
