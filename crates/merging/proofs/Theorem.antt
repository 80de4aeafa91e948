-- Step 5 in memory: from the graph after step 4, with the kept rows in the buckets of their keys, to the definition's `merged_alike`; the buckets are empty again, and the
-- flag rose by at most one for each row that was compared. What it leaves of the memory beside, and that the marks still tell which elements are no more.
-- Assumes nothing.
use Prim.Native.Nat.{◌+◌, ◌<◌, ◌≤◌, ◌^◌, ℕ}
use native.Mathlib.Omega.{arith}
use mathlib.Core.Bool.{true, false}
use mathlib.Core.List.{List, [], ◌∷◌, foldl}
use mathlib.Core.Path.{◌∙◌, ◌≡◌, ap, refl, subst, sym}
use borrow.Author.Tests.{eqb-true}
use lib.Dec.{eqb}
use lib.IntN.{ℤ}
use lib.ListN.{length}
use Rattle.plain.proofs.Entries.{entries_length}
use Rattle.plain.proofs.Logic.{clash, either, none_if}
use Rattle.plain.proofs.Members.{kept_passes, kept_was, member_here, member_kept, member_reverse, no_member}
use Rattle.plain.proofs.Repeats.{distinct_keep, distinct_reverse}
use Rattle.plain.proofs.Sums.{total_ones, total_within}
use Rattle.plain.proofs.Turns.{times_fold}
use Rattle.plain.specs.Lists.{is_none, keep, member, total}
use Rattle.plain.specs.Members.{Distinct, In}
use Rattle.plain.specs.Turns.{entries}
use Rattle.cells.proofs.Rows.{clipped_part}
use Rattle.cells.specs.Layout.{HHEAD, HNEXT, LEN, MERGES, NV, PE, W}
use Rattle.cells.specs.View.{at, rd}
use Rattle.definition.specs.Merge.{entries_of, key, merged_alike}
use Rattle.definition.specs.State.{Graph, has_weight, is_element, is_variable, kind, live, weight}
use Rattle.drawn.specs.Drawn.{Within}
use Rattle.drawn.specs.Flags.{Flagged}
use Rattle.drawn.specs.Log.{Logged}
use Rattle.facts.proofs.Buckets.{merged_buckets}
use Rattle.facts.proofs.Invariant.{var_not_element}
use Rattle.facts.proofs.Merging.{Fate, Joined, joined, joins, stays}
use Rattle.facts.specs.Classes.{bucket_of, merge_buckets, newest_first}
use Rattle.facts.specs.Invariant.{Sized}
use Rattle.drawn.specs.Buckets.{Bucketed, Chain}
use Rattle.merging.specs.Rows.{Row}
use Rattle.merging.specs.Model.{Merging, merged_of, merged_row, merged_rows, merging}
use Rattle.merging.specs.declared.Tally.{Tally}
use Rattle.merging.proofs.Counted.{counted_all}
use Rattle.merging.proofs.Emptied.{Through, every_row}
use Rattle.merging.proofs.Kept.{Kept, kept_self}
use Rattle.merging.proofs.Walked.{one_key}

-- the rows that are compared
module _ (g : Graph) (new : List ℕ) where
  pub newest_kept : (v : ℕ) → In v (newest_first g new) → In v new × (has_weight g v ≡ true)
  unfolding newest_first
  newest_kept v m =
      let z : In v (keep (has_weight g) new) = sym (member_reverse v (keep (has_weight g) new)) ∙ m in
      (kept_was v (has_weight g) new z, kept_passes v (has_weight g) new z)

  pub kept_newest : (v : ℕ) → In v new → has_weight g v ≡ true → In v (newest_first g new)
  unfolding newest_first
  kept_newest v m e = member_reverse v (keep (has_weight g) new) ∙ member_kept v (has_weight g) new e m

  pub newest_distinct : Distinct new → Distinct (newest_first g new)
  unfolding newest_first
  newest_distinct d = distinct_reverse (keep (has_weight g) new) (distinct_keep (has_weight g) new d)

  pub newest_fewer : Distinct new → length (newest_first g new) ≤ length new
  newest_fewer d =
      let a = total_ones (newest_first g new) in
      let b = total_ones new in
      let c = total_within (λ x. 1) (newest_first g new) new (newest_distinct d) d (λ x m. (newest_kept x m).0) in
      omega arith

-- rows in one order, as a loop and as a fold
rows_fold : (l : List ℤ) (n from k : ℕ) (m : Merging) → (0 < k → from + k ≤ length l) → merged_rows l n from k m ≡ foldl (λ a x. merged_of l n k x a) m (entries (at l) from k)
unfolding merged_rows merged_row
rows_fold l n from k m b = rw (clipped_part (length l) from k b) (times_fold (λ x a. merged_of l n k x a) (at l) from k m)

-- what step 5 leaves: the graph h, from the flag on at most c flags used
pub record Merged (n : ℕ) (l : List ℤ) (p : ℕ) (new : List ℕ) (cnt base lim : ℕ) (flag c : ℕ) (h : Graph) (m : Merging) : Type 0 where
  pub drawn : Within n l m.mem h p new cnt base lim
  pub heads : (κ : ℕ) → κ < n → rd n HHEAD m.mem κ ≡ n
  pub below : (y : ℕ) → y < n → rd n W m.mem y < m.tally.flag
  pub flags : m.tally.flag ≤ flag + c
  pub rises : flag ≤ m.tally.flag
  pub ms : List ℕ
  pub logged : Logged n m.mem h ms
  pub count : m.tally.logged ≡ length ms

-- what step 5 asks for
pub record Given (n : ℕ) (l s : List ℤ) (key_of : ℕ → ℕ) (g : Graph) (p : ℕ) (new : List ℕ) (cnt base lim : ℕ) (t : Tally) : Type 0 where
  pub drawn : Within n l s g p new cnt base lim
  pub sized : Sized n g
  pub light : total (weight g) new < 2 ^ 63
  pub once : Distinct new
  pub inside : (v : ℕ) → In v new → v < n
  pub rows : (v : ℕ) → In v new → has_weight g v ≡ true → Row n p new g v
  pub bucketed : Bucketed n s key_of g new
  pub below : (y : ℕ) → y < n → rd n W s y < t.flag
  pub small : n < 2 ^ 63
  pub ms : List ℕ
  pub logged : Logged n s g ms
  pub count : t.logged ≡ length ms
  pub room : t.flag + length new + length new < 2 ^ 63

-- a bucket whose key is through
no_bucket : (n : ℕ) (nx : ℕ → ℕ) (x : ℕ) (xs : List ℕ) → ((v : ℕ) → In v xs → ⊥) → Chain n nx x xs → x ≡ n
no_bucket n nx x [] f c = c
no_bucket n nx x (y ∷ ys) f c = absurd (f y (member_here y ys))

module _ (n : ℕ) (l s : List ℤ) (key_of : ℕ → ℕ) (g : Graph) (p : ℕ) (new : List ℕ) (cnt base lim : ℕ) (t : Tally) (a : Given n l s key_of g p new cnt base lim t)
    (from k : ℕ) (list : entries (at l) from k ≡ new) (inside : 0 < k → from + k ≤ length l) where
  long : length new ≡ k
  long = sym (ap length list) ∙ entries_length (at l) from k

  few : length (newest_first g new) ≤ length new
  few = newest_fewer g new a.once

  start : Through n l p new cnt base lim (key key_of g) (newest_first g new) g s t.flag [] [] (merging s t)
  unfolding merge_buckets
  start =
      record {
        now = record { drawn = a.drawn; sized = a.sized; light = a.light; small = a.small; ms = a.ms; logged = a.logged; count = a.count };
        once = tt;
        gone = λ κ b e. no_member κ e;
        heads = λ κ b e. a.bucketed.bucket κ b;
        keys = a.bucketed.keys;
        rows = λ v m e. a.rows v (newest_kept g new v m).0 (newest_kept g new v m).1;
        kept = kept_self n (newest_first g new) g s;
        light = λ v e. e;
        below = a.below;
        flags = omega arith;
        rises = omega arith;
        seen = λ v m z. no_member v m;
      }

  module _ (m : Merging) (ks done : List ℕ) (r : Through n l p new cnt base lim (key key_of g) (newest_first g new) g s t.flag ks done m)
      (all : (v : ℕ) → In v new → In v done) where
    covered : (v : ℕ) → In v (newest_first g new) → In (key key_of g v) ks
    covered v z = r.seen v (all v (newest_kept g new v z).0) z

    same : merge_buckets one_key (key key_of g) (newest_first g new) ks g ≡ merged_alike key_of new g
    same =
        merged_buckets key_of one_key new g a.sized a.once a.inside
        (λ v z. (a.rows v (kept_was v (has_weight g) new z) (kept_passes v (has_weight g) new z)).once) ks r.once covered

    empty : (κ : ℕ) → member κ ks ≡ false → (v : ℕ) → In v (bucket_of (key key_of g) (newest_first g new) κ) → ⊥
    unfolding bucket_of
    empty κ e v z =
        let q : key key_of g v ≡ κ = eqb-true (key key_of g v) κ (kept_passes v (λ x. eqb (key key_of g x) κ) (newest_first g new) z) in
        clash (member κ ks) (rw (← q) (covered v (kept_was v (λ x. eqb (key key_of g x) κ) (newest_first g new) z))) e

    finished : Merged n l p new cnt base lim t.flag (length (newest_first g new)) (merged_alike key_of new g) m
    finished =
        record {
          drawn = subst (λ (h : Graph). Within n l m.mem h p new cnt base lim) same r.now.drawn;
          heads = λ κ b.
              either (rd n HHEAD m.mem κ ≡ n) (member κ ks) (λ e. r.gone κ b e)
              (λ e. no_bucket n (rd n HNEXT m.mem) (rd n HHEAD m.mem κ) (bucket_of (key key_of g) (newest_first g new) κ) (empty κ e) (r.heads κ b e));
          ms = r.now.ms;
          logged = subst (λ (h : Graph). Logged n m.mem h r.now.ms) same r.now.logged;
          count = r.now.count;
          below = r.below;
          flags = omega (arith, r.flags, counted_all (key key_of g) (newest_first g new) ks);
          rises = r.rises;
        }

  -- all rows, and what was kept on the way
  whole : Merged n l p new cnt base lim t.flag (length (newest_first g new)) (merged_alike key_of new g) (merged_rows l n from k (merging s t))
      × Kept n (newest_first g new) g s (merged_rows l n from k (merging s t)).mem
  whole =
      let e = every_row n l p new cnt base lim (key key_of g) (newest_first g new) g s t.flag a.once (newest_distinct g new a.once) k (omega (arith, long, few))
      (omega (arith, a.room, few)) a.inside (kept_newest g new) a.bucketed.below new [] [] (merging s t) start (λ x m. m) in
      rw (rows_fold l n from k (merging s t) inside, list)
      (finished (foldl (λ b x. merged_of l n k x b) (merging s t) new) e.keys e.rows e.through e.all, e.through.kept)

  -- step 5 of the plan, in memory
  pub step : Merged n l p new cnt base lim t.flag (length (newest_first g new)) (merged_alike key_of new g) (merged_rows l n from k (merging s t))
  step = whole.0

  -- what it does not touch
  pub step_kept : Kept n (newest_first g new) g s (merged_rows l n from k (merging s t)).mem
  step_kept = whole.1

  pub step_fields : (f x : ℕ) → eqb PE f ≡ false → eqb LEN f ≡ false → eqb W f ≡ false → eqb HHEAD f ≡ false → eqb HNEXT f ≡ false → eqb MERGES f ≡ false → eqb NV f ≡ false
      → rd n f (merged_rows l n from k (merging s t)).mem x ≡ rd n f s x
  step_fields f x e1 e2 e3 e4 e5 e6 e7 = step_kept.fields f x e7 e2 e1 e6 e5 e3 e4

  -- the pivot is no row that is compared: its place, its length and its weight are as before
  pub step_pivot : (f : ℕ) → eqb W f ≡ false → eqb HHEAD f ≡ false → eqb HNEXT f ≡ false → eqb MERGES f ≡ false
      → rd n f (merged_rows l n from k (merging s t)).mem p ≡ rd n f s p
  step_pivot f e1 e2 e3 e4 =
      step_kept.others f p (none_if (member p (newest_first g new)) (λ z. (a.rows p (newest_kept g new p z).0 (newest_kept g new p z).1).other refl)) e4 e3 e1 e2

  -- ---- the marks

  -- the rows that are compared, and what becomes of the others
  outcome : Joined n (keep (has_weight g) new) g (merged_alike key_of new g)
  outcome = joined key_of new g a.sized a.once a.inside

  compared_variable : (x : ℕ) → In x (keep (has_weight g) new) → is_variable (kind g x) ≡ true
  compared_variable x m = (a.rows x (kept_was x (has_weight g) new m) (kept_passes x (has_weight g) new m)).is

  was_variable : (x : ℕ) → is_variable (kind (merged_alike key_of new g) x) ≡ true → is_variable (kind g x) ≡ true
  was_variable x e =
      either (is_variable (kind g x) ≡ true) (member x (keep (has_weight g) new)) (compared_variable x) (λ m. ap is_variable (sym (outcome.outside_kind x m)) ∙ e)

  no_element : (x : ℕ) → is_variable (kind g x) ≡ true → Fate g (merged_alike key_of new g) x → is_element (kind (merged_alike key_of new g) x) ≡ false
  no_element x v (stays c w q) = ap is_element c ∙ var_not_element (kind g x) v
  no_element x v (joins c w) = ap is_element c

  element_out : (x : ℕ) → is_element (kind (merged_alike key_of new g) x) ≡ true → member x (keep (has_weight g) new) ≡ false
  element_out x e =
      none_if (member x (keep (has_weight g) new))
      (λ m. clash (is_element (kind (merged_alike key_of new g) x)) e (no_element x (compared_variable x m) (outcome.fate x m)))

  was_element : (x : ℕ) → is_element (kind (merged_alike key_of new g) x) ≡ true → is_element (kind g x) ≡ true
  was_element x e = ap is_element (sym (outcome.outside_kind x (element_out x e))) ∙ e

  same_live : (x : ℕ) → is_element (kind (merged_alike key_of new g) x) ≡ true → live g x ≡ live (merged_alike key_of new g) x
  same_live x e = ap is_none (sym (outcome.outside_parent x (element_out x e)))

  -- no entry of a row that is compared is an element that another took up
  pub step_flagged : ((v y : ℕ) → In v new → has_weight g v ≡ true → In y (entries_of g v) → is_element (kind g y) ≡ true → live g y ≡ true) → Flagged n s g t.flag
      → Flagged n (merged_rows l n from k (merging s t)).mem (merged_alike key_of new g) (merged_rows l n from k (merging s t)).tally.flag
  step_flagged present f =
      record {
        below = step.below;
        variable = λ x b e. omega (arith, f.variable x b (was_variable x e), step_kept.higher x b);
        element = λ x b e o z.
            omega (
              arith,
              f.element x b (was_element x e) (same_live x e ∙ o) (rw (← outcome.variables) z),
              step_kept.higher x b,
            );
        absorbed = λ x b e o.
            step_kept.unmarked x b
            (λ v m.
            none_if (member x (entries_of g v))
            (λ z. clash (live g x) (present v x (newest_kept g new v m).0 (newest_kept g new v m).1 z (was_element x e)) (same_live x e ∙ o)))
            ∙ f.absorbed x b (was_element x e) (same_live x e ∙ o);
      }
