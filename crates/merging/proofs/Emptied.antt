-- All buckets: row after row of the new element, the bucket of its key is emptied and its rows are compared. That is the definition's step 5, bucket by bucket in the
-- order met.
-- Assumes nothing.
use Prim.Native.Nat.{◌+◌, ◌<◌, ◌≤◌, ◌^◌, ℕ}
use native.Mathlib.Omega.{arith}
use mathlib.Core.Bool.{true, false}
use mathlib.Core.List.{List, [], ◌∷◌, ◌++◌, foldl}
use mathlib.Core.Logic.{◌≢◌, ◌⊎◌, inl, inr}
use mathlib.Core.Path.{◌∙◌, ◌≡◌, ap, refl, sym}
use borrow.Author.Tests.{eqb-true, lt-ltb, ne_eqb}
use lib.Dec.{eqb}
use lib.IntN.{ℤ}
use lib.ListN.{length}
use Rattle.plain.proofs.Logic.{clash, either}
use Rattle.plain.proofs.Members.{kept_passes, kept_was, member_append, member_cases, member_here, member_nil, member_there, no_member, not_kept_at}
use Rattle.plain.proofs.Repeats.{distinct_keep, distinct_snoc, length_keep}
use Rattle.plain.specs.Lists.{member, total}
use Rattle.plain.specs.Members.{Distinct, In}
use Rattle.cells.proofs.Laws.{mem, rd_up_field, room_yes}
use Rattle.cells.proofs.Slices.{same?}
use Rattle.cells.specs.Layout.{HHEAD, HKEY, HNEXT, NV, W}
use Rattle.cells.specs.View.{Room, rd, up}
use Rattle.definition.specs.Merge.{merge_all}
use Rattle.definition.specs.State.{Graph, has_weight, weight}
use Rattle.facts.specs.Classes.{bucket_of, merge_buckets}
use Rattle.packed.proofs.Picked.{foldl_append}
use Rattle.drawn.proofs.Buckets.{chain_same}
use Rattle.drawn.specs.Buckets.{Chain}
use Rattle.merging.specs.Rows.{Now, Row}
use Rattle.merging.specs.Model.{Merging, bucket_run, merged_key, merged_of, merging}
use Rattle.merging.specs.declared.Tally.{Tally}
use Rattle.merging.proofs.Counted.{counted, counted_all, counted_more, member_end, member_last}
use Rattle.merging.proofs.Kept.{Kept, entries_buckets, kept_fewer, kept_head, kept_then}
use Rattle.merging.proofs.Light.{light_all}
use Rattle.merging.proofs.Ran.{Ready, ran}
use Rattle.merging.proofs.Rows.{field_now}
use Rattle.merging.proofs.Walked.{one_key}

-- ---- bucket after bucket

module _ (n : ℕ) (l : List ℤ) (p : ℕ) (new : List ℕ) (cnt base lim : ℕ) (place : ℕ → ℕ) (vs : List ℕ) (g : Graph) (s₀ : List ℤ) (flag₀ : ℕ) where
  -- the graph after the buckets of ks
  abbrev after : List ℕ → Graph
  after ks = merge_buckets one_key place vs ks g

  -- the buckets of ks are through, and they are those of the rows of done
  pub record Through (ks done : List ℕ) (m : Merging) : Type 0 where
    pub now : Now n l p new cnt base lim m.mem (merge_buckets one_key place vs ks g) m.tally.logged
    pub once : Distinct ks
    pub gone : (κ : ℕ) → κ < n → member κ ks ≡ true → rd n HHEAD m.mem κ ≡ n
    pub heads : (κ : ℕ) → κ < n → member κ ks ≡ false → Chain n (rd n HNEXT m.mem) (rd n HHEAD m.mem κ) (bucket_of place vs κ)
    pub keys : (v : ℕ) → In v vs → rd n HKEY m.mem v ≡ place v
    pub rows : (v : ℕ) → In v vs → member (place v) ks ≡ false → Row n p new (merge_buckets one_key place vs ks g) v
    pub kept : Kept n vs g s₀ m.mem
    pub light : (v : ℕ) → has_weight g v ≡ false → has_weight (merge_buckets one_key place vs ks g) v ≡ false
    pub below : (y : ℕ) → y < n → rd n W m.mem y < m.tally.flag
    pub flags : m.tally.flag ≤ flag₀ + total (counted place ks) vs
    pub rises : flag₀ ≤ m.tally.flag
    pub seen : (v : ℕ) → In v done → In v vs → In (place v) ks

  module _ (distinct : Distinct new) (dv : Distinct vs) (k : ℕ) (enough : length vs ≤ k) (small : flag₀ + length vs + length vs < 2 ^ 63)
      (ks done : List ℕ) (s : List ℤ) (t : Tally) (r : Through ks done (merging s t)) (v : ℕ) where
    room : Room n s
    room = r.now.drawn.space.room

    done_more : (ks' : List ℕ) → ((x : ℕ) → In x ks → In x ks') → (In v vs → In (place v) ks') → (x : ℕ) → In x (v ∷ done) → In x vs → In (place x) ks'
    done_more ks' f a x m z =
        member_cases (In (place x) ks') x v done m (λ q. rw q (a (rw (← q) z))) (λ _ d. f (place x) (r.seen x d z))

    -- a row that is no more, or never was
    skipped : (In v vs → In (place v) ks) → Through ks (v ∷ done) (merging s t)
    skipped a =
        record {
          now = r.now;
          once = r.once;
          gone = r.gone;
          heads = r.heads;
          keys = r.keys;
          rows = r.rows;
          kept = r.kept;
          light = r.light;
          below = r.below;
          flags = r.flags;
          rises = r.rises;
          seen = done_more ks (λ x z. z) a;
        }

    module _ (κ : ℕ) (hκ : κ < n) (is : place v ≡ κ) where
      abbrev s₁ : List ℤ
      s₁ = up n HHEAD s κ n

      abbrev m₁ : Merging
      m₁ = bucket_run l n k k (rd n HHEAD s κ) (merging s₁ t)

      ready : (xs : List ℕ) → ((x : ℕ) → In x xs → Row n p new (after ks) x) → Distinct xs → Chain n (rd n HNEXT s) (rd n HHEAD s κ) xs → length xs ≤ length vs
          → Ready n l p new cnt base lim s₁ (after ks) (rd n HHEAD s κ) xs t
      ready xs f d c e =
          record {
            now = field_now s (after ks) r.now HHEAD κ n refl refl refl refl refl refl refl refl;
            rows = f;
            distinct = d;
            chain = chain_same n (rd n HNEXT s) (rd n HNEXT s₁) xs (rd n HHEAD s κ) (λ x m. rd_up_field n HHEAD HNEXT s κ n x refl) c;
            below = λ y b. rw (rd_up_field n HHEAD W s κ n y refl) (r.below y b);
            room = omega (arith, r.flags, counted_all place vs ks);
          }

      head_here : rd n HHEAD s₁ κ ≡ n
      head_here = simp (mem, room_yes n s room, lt-ltb κ n hκ)

      head_other : (x : ℕ) → x ≢ κ → rd n HHEAD s₁ x ≡ rd n HHEAD s x
      head_other x d = simp mem

      head_gone : (x : ℕ) → (x ≡ κ) ⊎ (x ≢ κ) → (x ≢ κ → rd n HHEAD s x ≡ n) → rd n HHEAD s₁ x ≡ n
      head_gone x (inl e) f = rw e head_here
      head_gone x (inr d) f = head_other x d ∙ f d

      kept_more : (xs : List ℕ) → ((x : ℕ) → In x xs → In x vs) → Kept n xs (after ks) s₁ m₁.mem → Kept n vs g s₀ m₁.mem
      kept_more xs f w =
          kept_then n vs g s₀ s m₁.mem r.kept
          (kept_then n vs g s s₁ m₁.mem (kept_head n vs g s κ n)
          (kept_fewer n vs g xs (after ks) s₁ m₁.mem f (λ x. entries_buckets one_key x place vs ks g) w))

      -- its bucket is through already
      old : In κ ks → Through ks (v ∷ done) m₁
      unfolding merge_all
      old z =
          let w = ran n l p new cnt base lim distinct k k [] s₁ (after ks) (rd n HHEAD s κ) t (omega arith) (omega arith)
          (ready [] (λ x m. no_member x m) tt (r.gone κ hκ z) (omega arith)) in
          record {
            now = w.now;
            once = r.once;
            gone = λ x b e. w.heads x ∙ head_gone x (same? x κ) (λ _. r.gone x b e);
            heads = λ x b e.
                let d : x ≢ κ = λ q. clash (member κ ks) z (ap (λ (y : ℕ). member y ks) (sym q) ∙ e) in
                rw (w.heads x, head_other x d)
                (chain_same n (rd n HNEXT s) (rd n HNEXT m₁.mem) (bucket_of place vs x) (rd n HHEAD s x)
                (λ y m. w.next y (member_nil y) ∙ rd_up_field n HHEAD HNEXT s κ n y refl) (r.heads x b e));
            keys = λ x m. w.kept.fields HKEY x refl refl refl refl refl refl refl ∙ rd_up_field n HHEAD HKEY s κ n x refl ∙ r.keys x m;
            rows = r.rows;
            kept = kept_more [] (λ x m. no_member x m) w.kept;
            light = r.light;
            below = w.below;
            flags = omega (arith, w.flags, r.flags);
            rises = omega (arith, w.rises, r.rises);
            seen = done_more ks (λ x q. q) (λ _. rw is z);
          }

      in_bucket : (x y : ℕ) → In y (bucket_of place vs x) → In y vs
      unfolding bucket_of
      in_bucket x y m = kept_was y (λ z. eqb (place z) x) vs m

      of_bucket : (x y : ℕ) → In y (bucket_of place vs x) → place y ≡ x
      unfolding bucket_of
      of_bucket x y m = eqb-true (place y) x (kept_passes y (λ z. eqb (place z) x) vs m)

      off_bucket : (y : ℕ) → place y ≢ κ → member y (bucket_of place vs κ) ≡ false
      unfolding bucket_of
      off_bucket y d = not_kept_at y (λ z. eqb (place z) κ) vs (ne_eqb (place y) κ d)

      bucket_distinct : Distinct (bucket_of place vs κ)
      unfolding bucket_of
      bucket_distinct = distinct_keep (λ z. eqb (place z) κ) vs dv

      bucket_length : length (bucket_of place vs κ) ≤ length vs
      unfolding bucket_of
      bucket_length = length_keep (λ z. eqb (place z) κ) vs

      more_after : after (ks ++ (κ ∷ [])) ≡ merge_all one_key (bucket_of place vs κ) (after ks)
      unfolding merge_buckets
      more_after = foldl_append (λ h x. merge_all one_key (bucket_of place vs x) h) g ks (κ ∷ [])

      still_in : (x : ℕ) → In x ks → In x (ks ++ (κ ∷ []))
      still_in x z = member_append x ks (κ ∷ []) ∙ rw z

      not_this : (x : ℕ) → member x (ks ++ (κ ∷ [])) ≡ false → x ≢ κ
      not_this x e q = clash (member x (ks ++ (κ ∷ []))) (rw q (member_last κ ks)) e

      -- its bucket is new
      fresh : member κ ks ≡ false → Through (ks ++ (κ ∷ [])) (v ∷ done) m₁
      fresh z =
          let w = ran n l p new cnt base lim distinct k k (bucket_of place vs κ) s₁ (after ks) (rd n HHEAD s κ) t (omega (arith, bucket_length)) (omega (arith, bucket_length))
          (ready (bucket_of place vs κ) (λ x m. r.rows x (in_bucket κ x m) (ap (λ (y : ℕ). member y ks) (of_bucket κ x m) ∙ z)) bucket_distinct (r.heads κ hκ z) bucket_length) in
          record {
            now = rw more_after w.now;
            once = distinct_snoc κ ks r.once z;
            gone = λ x b e. w.heads x ∙ head_gone x (same? x κ) (λ d. r.gone x b (sym (member_end x κ ks d) ∙ e));
            heads = λ x b e.
                let d : x ≢ κ = not_this x e in
                rw (w.heads x, head_other x d)
                (chain_same n (rd n HNEXT s) (rd n HNEXT m₁.mem) (bucket_of place vs x) (rd n HHEAD s x)
                (λ y m. w.next y (off_bucket y (λ q. d (sym (of_bucket x y m) ∙ q))) ∙ rd_up_field n HHEAD HNEXT s κ n y refl) (r.heads x b (sym (member_end x κ ks d) ∙ e)));
            keys = λ x m. w.kept.fields HKEY x refl refl refl refl refl refl refl ∙ rd_up_field n HHEAD HKEY s κ n x refl ∙ r.keys x m;
            rows = λ x m e.
                let d : place x ≢ κ = not_this (place x) e in
                rw more_after (w.keeps x (r.rows x m (sym (member_end (place x) κ ks d) ∙ e)) (off_bucket x d));
            kept = kept_more (bucket_of place vs κ) (in_bucket κ) w.kept;
            light = λ x e. rw more_after (light_all one_key x (bucket_of place vs κ) (after ks) (r.light x e));
            below = w.below;
            flags = omega (arith, w.flags, r.flags, counted_more place vs ks κ z);
            rises = omega (arith, w.rises, r.rises);
            seen = done_more (ks ++ (κ ∷ [])) still_in (λ _. rw is (member_last κ ks));
          }

  -- some buckets are through
  pub record Passing (done : List ℕ) (m : Merging) : Type 0 where
    pub keys : List ℕ
    pub through : Through keys done m

  module _ (distinct : Distinct new) (dv : Distinct vs) (k : ℕ) (enough : length vs ≤ k) (small : flag₀ + length vs + length vs < 2 ^ 63)
      (inside : (v : ℕ) → In v new → v < n) (out : (v : ℕ) → In v new → has_weight g v ≡ true → In v vs) (placed : (v : ℕ) → In v vs → place v < n) where
    module _ (ks done : List ℕ) (s : List ℤ) (t : Tally) (r : Through ks done (merging s t)) (v : ℕ) (mv : In v new) where
      weighs : rd n NV s v ≡ weight (after ks) v
      weighs = r.now.drawn.weights v (inside v mv)

      compared : has_weight (after ks) v ≡ true → In v vs
      compared e = either (In v vs) (has_weight g v) (λ a. out v mv a) (λ a. clash (has_weight (after ks) v) e (r.light v a))

      is_key : has_weight (after ks) v ≡ true → merged_of l n k v (merging s t) ≡ bucket_run l n k k (rd n HHEAD s (place v)) (merging (up n HHEAD s (place v) n) t)
      unfolding merged_of merged_key
      is_key e = rw (weighs, e, r.keys v (compared e), lt-ltb (place v) n (placed v (compared e)))

      is_none_lem : has_weight (after ks) v ≡ false → merged_of l n k v (merging s t) ≡ merging s t
      unfolding merged_of
      is_none_lem e = rw (weighs, e)

      one : Passing (v ∷ done) (merged_of l n k v (merging s t))
      one =
          either (Passing (v ∷ done) (merged_of l n k v (merging s t))) (has_weight (after ks) v)
          (λ e.
          rw (is_key e)
          (either (Passing (v ∷ done) (bucket_run l n k k (rd n HHEAD s (place v)) (merging (up n HHEAD s (place v) n) t))) (member (place v) ks)
          (λ z. record { keys = ks; through = old distinct dv k enough small ks done s t r v (place v) (placed v (compared e)) refl z })
          (λ z. record { keys = ks ++ (place v ∷ []); through = fresh distinct dv k enough small ks done s t r v (place v) (placed v (compared e)) refl z })))
          (λ e.
          rw (is_none_lem e)
          record {
            keys = ks;
            through = skipped distinct dv k enough small ks done s t r v
                (λ z. either (In (place v) ks) (member (place v) ks) (λ a. a) (λ a. clash (has_weight (after ks) v) (r.rows v z a).heavy e));
          })

    pub record Ended (xs done : List ℕ) (m : Merging) : Type 0 where
      pub keys : List ℕ
      pub rows : List ℕ
      pub through : Through keys rows m
      pub all : (x : ℕ) → In x xs → In x rows
      pub more : (x : ℕ) → In x done → In x rows

    pub every_row : (xs ks done : List ℕ) (m : Merging) → Through ks done m → ((x : ℕ) → In x xs → In x new) → Ended xs done (foldl (λ a x. merged_of l n k x a) m xs)
    every_row [] ks done m r f = record { keys = ks; rows = done; through = r; all = λ x z. no_member x z; more = λ x z. z }
    every_row (v ∷ xs) ks done m r f =
        let a = one ks done m.mem m.tally r v (f v (member_here v xs)) in
        let e = every_row xs a.keys (v ∷ done) (merged_of l n k v m) a.through (λ x z. f x (member_there x v xs z)) in
        record {
          keys = e.keys;
          rows = e.rows;
          through = e.through;
          all = λ x z. member_cases (In x e.rows) x v xs z (λ q. rw q (e.more v (member_here v done))) (λ _ y. e.all x y);
          more = λ x z. e.more x (member_there x v done z);
        }
