-- A bucket in memory: its newest row takes those that have its list, then the next of those that are left, and so on; that is the definition's `merge_all` of the bucket.
-- Assumes nothing.
use Prim.Native.Nat.{◌+◌, ◌-◌, ◌<◌, ◌≤◌, ◌^◌, suc, zero, ℕ}
use native.Mathlib.Omega.{arith}
use mathlib.Core.Bool.{Bool, true, false, not}
use mathlib.Core.List.{List, [], ◌∷◌, foldl}
use mathlib.Core.Path.{◌∙◌, ◌≡◌, ap, refl, sym}
use borrow.Author.Tests.{lt-ltb}
use lib.IntN.{ℤ}
use lib.ListN.{length}
use Rattle.plain.proofs.Logic.{clash, either}
use Rattle.plain.proofs.Members.{keep_same, kept_passes, kept_was, member_here, member_there, not_here, not_there}
use Rattle.plain.proofs.Repeats.{distinct_keep, length_keep}
use Rattle.plain.specs.Lists.{keep, member}
use Rattle.plain.specs.Members.{Distinct, In}
use Rattle.cells.proofs.Slices.{plus_sum}
use Rattle.cells.specs.Layout.{ELEN, HHEAD, HNEXT, LEN, PE, W}
use Rattle.cells.specs.View.{plus, rd}
use Rattle.definition.specs.Merge.{alike, entries_of, key, merge_all, merge_one, same_lists}
use Rattle.definition.specs.State.{Graph, merge_into}
use Rattle.facts.proofs.Absorbing.{absorbing, fold_chosen}
use Rattle.drawn.proofs.Buckets.{chain_same}
use Rattle.drawn.specs.Buckets.{Chain}
use Rattle.merging.specs.Rows.{Now, Row}
use Rattle.merging.specs.Model.{Comparing, Merging, bucket_run, comparing, flagged, followers, marked_list, merged_at, merged_into, merging, walked}
use Rattle.merging.specs.declared.Tally.{Tally}
use Rattle.merging.proofs.Kept.{Kept, entries_row, kept_fewer, kept_self, kept_then}
use Rattle.merging.proofs.Marks.{held_inside, held_rest, mark_below, mark_higher, mark_all, marking_all, marks, marks_field, miss}
use Rattle.merging.proofs.Rows.{held, marks_now}
use Rattle.merging.proofs.Walked.{Behind, Walked, one_key, walked as along}
use Rattle.merging.proofs.Walks.{run_alone, run_over}

module _ (n : ℕ) (l : List ℤ) (p : ℕ) (new : List ℕ) (cnt base lim : ℕ) where
  -- before a bucket: its rows are vs
  pub record Ready (s : List ℤ) (h : Graph) (x : ℕ) (vs : List ℕ) (t : Tally) : Type 0 where
    pub now : Now n l p new cnt base lim s h t.logged
    pub rows : (v : ℕ) → In v vs → Row n p new h v
    pub distinct : Distinct vs
    pub chain : Chain n (rd n HNEXT s) x vs
    pub below : (y : ℕ) → y < n → rd n W s y < t.flag
    pub room : t.flag + length vs < 2 ^ 63

  -- after it, or a part of it: h is now h', the flag rose by at most c
  pub record Left (s : List ℤ) (h : Graph) (vs : List ℕ) (t : Tally) (h' : Graph) (c : ℕ) (m : Merging) : Type 0 where
    pub now : Now n l p new cnt base lim m.mem h' m.tally.logged
    pub next : (v : ℕ) → member v vs ≡ false → rd n HNEXT m.mem v ≡ rd n HNEXT s v
    pub heads : (κ : ℕ) → rd n HHEAD m.mem κ ≡ rd n HHEAD s κ
    pub kept : Kept n vs h s m.mem
    pub below : (y : ℕ) → y < n → rd n W m.mem y < m.tally.flag
    pub flags : m.tally.flag ≤ t.flag + c
    pub rises : t.flag ≤ m.tally.flag
    pub keeps : (v : ℕ) → Row n p new h v → member v vs ≡ false → Row n p new h' v

  -- one row, and those behind it that are left
  record Took (s : List ℤ) (h : Graph) (i : ℕ) (js : List ℕ) (t : Tally) (m : Merging) : Type 0 where
    left : Left s h (i ∷ js) t (foldl (merge_one one_key i) h js) 1 m
    chain : Chain n (rd n HNEXT m.mem) (rd n HNEXT m.mem i) (keep (λ j. not (same_lists h i j)) js)
    rows : (v : ℕ) → In v (keep (λ j. not (same_lists h i j)) js) → Row n p new (foldl (merge_one one_key i) h js) v

  not_kept : (b : Bool) → not b ≡ true → b ≡ false
  not_kept true e = sym e
  not_kept false e = refl

  module _ (once : Distinct new) (k : ℕ) (s : List ℤ) (h : Graph) (x i : ℕ) (js : List ℕ) (t : Tally) (r : Ready s h x (i ∷ js) t) (enough : length js ≤ k) where
    ri : Row n p new h i
    ri = r.rows i (member_here i js)

    abbrev sₘ : List ℤ
    sₘ = mark_all n t.flag (entries_of h i) s

    is_marked : marked_list l n t.flag i s ≡ sₘ
    unfolding marked_list
    is_marked =
        marking_all l n t.flag (rd n PE s i + 1) (rd n LEN s i - 1) s (held_inside n l s h i (held s h r.now i ri))
        ∙ ap (λ (xs : List ℕ). mark_all n t.flag xs s) (held_rest n l s h i (held s h r.now i ri))

    behind : Behind n l p new cnt base lim i (rd n LEN sₘ i) (rd n ELEN sₘ i) t.flag sₘ h i (rd n HNEXT s i) t.logged js
    behind =
        record {
          now = marks_now t.flag (entries_of h i) s h r.now;
          first = ri;
          rows = λ v m. r.rows v (member_there v i js m);
          distinct = r.distinct.1;
          other = r.distinct.0;
          marked = marks n t.flag (entries_of h i) s r.now.drawn.space.room r.below;
          long = refl;
          many = refl;
          chain = chain_same n (rd n HNEXT s) (rd n HNEXT sₘ) js (rd n HNEXT s i) (λ v m. marks_field n t.flag HNEXT refl (entries_of h i) s v) r.chain.2;
          small = ri.below;
          before = r.distinct.0;
          link = marks_field n t.flag HNEXT refl (entries_of h i) s i;
        }

    abbrev mᵢ : Comparing
    mᵢ = followers l n i (rd n LEN sₘ i) (rd n ELEN sₘ i) t.flag k (comparing sₘ (record { last = i; next = rd n HNEXT s i; logged = t.logged }))

    w : Walked n l p new cnt base lim i (rd n LEN sₘ i) (rd n ELEN sₘ i) t.flag sₘ h i js mᵢ
    w = along n l p new cnt base lim i (rd n LEN sₘ i) (rd n ELEN sₘ i) t.flag once js k sₘ h i (rd n HNEXT s i) t.logged enough behind

    is_at : merged_at l n k i (rd n HNEXT s i) (merging s t) ≡ flagged (walked t.flag mᵢ)
    unfolding merged_at merged_into
    is_at = rw is_marked

    took : Took s h i js t (merged_at l n k i (rd n HNEXT s i) (merging s t))
    took =
        let f : plus t.flag 1 ≡ t.flag + 1 = plus_sum t.flag 1 (omega (arith, r.room)) in
        rw is_at
        record {
          left = record {
            now = w.now;
            next = λ v e. w.next v (not_here v i js e) (not_there v i js e) ∙ marks_field n t.flag HNEXT refl (entries_of h i) s v;
            heads = λ κ. w.fields HHEAD κ refl refl refl refl refl ∙ marks_field n t.flag HHEAD refl (entries_of h i) s κ;
            kept = record {
              fields = λ c v e1 e2 e3 e4 e5 e6 e7. w.fields c v e1 e2 e3 e4 e5 ∙ marks_field n t.flag c e6 (entries_of h i) s v;
              others = λ c v e e1 e2 e3 e4. w.others c v (not_here v i js e) (not_there v i js e) e1 e2 ∙ marks_field n t.flag c e3 (entries_of h i) s v;
              higher = λ y b. rw (w.fields W y refl refl refl refl refl) (mark_higher n t.flag y b (entries_of h i) s r.now.drawn.space.room (r.below y b));
              unmarked = λ y b e. w.fields W y refl refl refl refl refl ∙ miss n t.flag y b (entries_of h i) s (e i (member_here i js));
            };
            below = λ y b. rw (f, w.fields W y refl refl refl refl refl) (mark_below n t.flag y b (entries_of h i) s r.now.drawn.space.room (r.below y b));
            flags = omega (arith, f);
            rises = omega (arith, f);
            keeps = λ v q e. w.keeps v q (λ z. clash (member v js) z (not_there v i js e));
          };
          chain = w.chain;
          rows = λ v m.
              let z : In v js = kept_was v (λ j. not (same_lists h i j)) js m in
              w.keeps v (r.rows v (member_there v i js z)) (λ _. not_kept (same_lists h i v) (kept_passes v (λ j. not (same_lists h i j)) js m));
        }

  -- ---- the definition: the first row takes those that have its list, they leave, and the rest is compared

  module _ (s : List ℤ) (h : Graph) (x i : ℕ) (js : List ℕ) (t : Tally) (r : Ready s h x (i ∷ js) t) where
    alike_one : (j : ℕ) → In j js → alike one_key h i j ≡ same_lists h i j
    unfolding alike key
    alike_one j m = rw ((r.rows i (member_here i js)).heavy, (r.rows j (member_there j i js m)).heavy)

    split_all : merge_all one_key (i ∷ js) h ≡ merge_all one_key (keep (λ j. not (same_lists h i j)) js) (foldl (merge_one one_key i) h js)
    split_all =
        absorbing one_key i (r.rows i (member_here i js)).below js h r.now.sized r.distinct.0 r.distinct.1 (λ v m. (r.rows v (member_there v i js m)).below)
        ∙ ap (λ (xs : List ℕ). merge_all one_key xs (foldl (λ b j. merge_into i j b) h (keep (alike one_key h i) js)))
        (keep_same (λ j. not (alike one_key h i j)) (λ j. not (same_lists h i j)) js (λ j m. ap not (alike_one j m)))
        ∙ ap (merge_all one_key (keep (λ j. not (same_lists h i j)) js))
        (sym (fold_chosen one_key i (r.rows i (member_here i js)).below js h r.now.sized r.distinct.0 r.distinct.1))

    rest_fewer : length (keep (λ j. not (same_lists h i j)) js) ≤ length js
    rest_fewer = length_keep (λ j. not (same_lists h i j)) js

    out_of_rest : (v : ℕ) → member v (i ∷ js) ≡ false → member v (keep (λ j. not (same_lists h i j)) js) ≡ false
    out_of_rest v e =
        either (member v (keep (λ j. not (same_lists h i j)) js) ≡ false) (member v (keep (λ j. not (same_lists h i j)) js))
        (λ m. clash (member v js) (kept_was v (λ j. not (same_lists h i j)) js m) (not_there v i js e)) (λ m. m)

    module _ (m : Merging) (k : Took s h i js t m) where
      again : Ready m.mem (foldl (merge_one one_key i) h js) (rd n HNEXT m.mem i) (keep (λ j. not (same_lists h i j)) js) m.tally
      again =
          record {
            now = k.left.now;
            rows = k.rows;
            distinct = distinct_keep (λ j. not (same_lists h i j)) js r.distinct.1;
            chain = k.chain;
            below = k.left.below;
            room = omega (arith, r.room, rest_fewer, k.left.flags);
          }

      joint : (h₂ : Graph) (m₂ : Merging) → Left m.mem (foldl (merge_one one_key i) h js) (keep (λ j. not (same_lists h i j)) js) m.tally h₂
          (length (keep (λ j. not (same_lists h i j)) js)) m₂ → Left s h (i ∷ js) t h₂ (length (i ∷ js)) m₂
      joint h₂ m₂ w =
          record {
            now = w.now;
            next = λ v e. w.next v (out_of_rest v e) ∙ k.left.next v e;
            heads = λ κ. w.heads κ ∙ k.left.heads κ;
            kept = kept_then n (i ∷ js) h s m.mem m₂.mem k.left.kept
                (kept_fewer n (i ∷ js) h (keep (λ j. not (same_lists h i j)) js) (foldl (merge_one one_key i) h js) m.mem m₂.mem
                (λ v z. member_there v i js (kept_was v (λ j. not (same_lists h i j)) js z)) (λ v. entries_row one_key v i js h) w.kept);
            below = w.below;
            flags = omega (arith, w.flags, k.left.flags, rest_fewer);
            rises = omega (arith, w.rises, k.left.rises);
            keeps = λ v q e. w.keeps v (k.left.keeps v q e) (out_of_rest v e);
          }

  run_one : (k c i x : ℕ) (m : Merging) → x ≡ rd n HNEXT m.mem i → i < n → x < n
      → bucket_run l n k (suc c) i m ≡ bucket_run l n k c (rd n HNEXT (merged_at l n k i x m).mem i) (merged_at l n k i x m)
  unfolding bucket_run
  run_one k c i x m h a b = rw (← h, lt-ltb i n a, lt-ltb x n b)

  none_merged : (h : Graph) → merge_all one_key [] h ≡ h
  unfolding merge_all
  none_merged h = refl

  ran_none : (k c : ℕ) (s : List ℤ) (h : Graph) (x : ℕ) (t : Tally) → Ready s h x [] t → Left s h [] t (merge_all one_key [] h) 0 (bucket_run l n k c x (merging s t))
  ran_none k c s h x t r =
      rw (run_over l n k c x (merging s t) (omega (arith, r.chain)), none_merged h)
      record {
        now = r.now;
        next = λ v e. refl;
        heads = λ κ. refl;
        kept = kept_self n [] h s;
        below = r.below;
        flags = omega arith;
        rises = omega arith;
        keeps = λ v q e. q;
      }

  -- nobody is behind the first row
  ran_alone : (k c : ℕ) (s : List ℤ) (h : Graph) (x i : ℕ) (t : Tally) → Ready s h x (i ∷ []) t
      → Left s h (i ∷ []) t (merge_all one_key (i ∷ []) h) 1 (bucket_run l n k c x (merging s t))
  unfolding keep
  ran_alone k c s h x i t r =
      rw (r.chain.0, run_alone l n k c i (merging s t) (omega (arith, r.chain.2)), split_all s h x i [] t r, none_merged h)
      record {
        now = r.now;
        next = λ v e. refl;
        heads = λ κ. refl;
        kept = kept_self n (i ∷ []) h s;
        below = r.below;
        flags = omega arith;
        rises = omega arith;
        keeps = λ v q e. q;
      }

  -- the buckets of at most c rows
  abbrev Runs : ℕ → ℕ → Type 0
  Runs k c = (vs : List ℕ) (s : List ℤ) (h : Graph) (x : ℕ) (t : Tally) → length vs ≤ c → length vs ≤ k → Ready s h x vs t
      → Left s h vs t (merge_all one_key vs h) (length vs) (bucket_run l n k c x (merging s t))

  runs_none : (k : ℕ) → Runs k 0
  runs_none k [] s h x t a b r = ran_none k 0 s h x t r
  runs_none k (i ∷ js) s h x t a b r = absurd (omega arith)

  -- somebody is behind it
  runs_on : Distinct new → (k c : ℕ) → Runs k c → (i : ℕ) (js : List ℕ) (s : List ℤ) (h : Graph) (x : ℕ) (t : Tally) → length js ≤ c → length js ≤ k → Ready s h x (i ∷ js) t
      → rd n HNEXT s i < n → Left s h (i ∷ js) t (merge_all one_key (i ∷ js) h) (length (i ∷ js)) (bucket_run l n k (suc c) x (merging s t))
  runs_on once k c f i js s h x t a b r y =
      let fewer = rest_fewer s h x i js t r in
      let m = merged_at l n k i (rd n HNEXT s i) (merging s t) in
      let w = took once k s h x i js t r b in
      rw (r.chain.0, run_one k c i (rd n HNEXT s i) (merging s t) refl r.chain.1 y, split_all s h x i js t r)
      (joint s h x i js t r m w (merge_all one_key (keep (λ j. not (same_lists h i j)) js) (foldl (merge_one one_key i) h js)) (bucket_run l n k c (rd n HNEXT m.mem i) m)
      (f (keep (λ j. not (same_lists h i j)) js) m.mem (foldl (merge_one one_key i) h js) (rd n HNEXT m.mem i) m.tally (omega arith) (omega arith)
      (again s h x i js t r m w)))

  runs_more : Distinct new → (k c : ℕ) → Runs k c → Runs k (suc c)
  runs_more once k c f [] s h x t a b r = ran_none k (suc c) s h x t r
  runs_more once k c f (i ∷ []) s h x t a b r = ran_alone k (suc c) s h x i t r
  runs_more once k c f (i ∷ (j ∷ js)) s h x t a b r =
      runs_on once k c f i (j ∷ js) s h x t (omega arith) (omega arith) r (omega (arith, r.chain.2.0, r.chain.2.1))

  -- K-b in memory: the bucket
  pub ran : Distinct new → (k c : ℕ) (vs : List ℕ) (s : List ℤ) (h : Graph) (x : ℕ) (t : Tally) → length vs ≤ c → length vs ≤ k → Ready s h x vs t
      → Left s h vs t (merge_all one_key vs h) (length vs) (bucket_run l n k c x (merging s t))
  ran once k zero = runs_none k
  ran once k (suc c) = runs_more once k c (ran once k c)
