-- The turns of the loops: entry after entry of a comparison, row after row of a walk along a bucket, and of a bucket. Each loop's laws stand in one list.
-- Assumes nothing.
use Prim.Native.Nat.{◌+◌, ◌-◌, ◌<◌, ◌≤◌, suc, zero, ℕ}
use native.Mathlib.Nat.{add-zero}
use native.Mathlib.Omega.{arith}
use native.Mathlib.Numerals.{add-one}
use mathlib.Core.Bool.{Bool, true, false, ◌&&◌}
use mathlib.Core.List.{List, [], ◌∷◌, ◌++◌}
use mathlib.Core.Logic.{◌≢◌}
use mathlib.Core.Path.{◌∙◌, ◌≡◌, ap, refl, subst, sym}
use borrow.Author.Tests.{eq-eqb, le-ltb, lt-ltb, ne_eqb}
use lib.Dec.{ltb}
use lib.IntN.{ℤ}
use lib.ListN.{length}
use Rattle.plain.proofs.Entries.{entries_snoc}
use Rattle.plain.proofs.Logic.{cond_has}
use Rattle.plain.specs.Lists.{every}
use Rattle.plain.specs.Turns.{entries}
use Rattle.cells.specs.Layout.{ELEN, HNEXT, LEN, W}
use Rattle.cells.specs.Rows.{clipped}
use Rattle.cells.specs.View.{at, rd}
use Rattle.merging.specs.Model.{Comparing, Merging, all_marked, bucket_run, compared, comparing, followers, has_mark, merged_at, merged_into, merging}
use Rattle.merging.specs.declared.Tally.{Tally}
use Rattle.merging.specs.declared.Trail.{Trail}

-- ---- the entries of a comparison

every_snoc : (p : ℕ → Bool) (xs : List ℕ) (x : ℕ) → every p xs ≡ true → p x ≡ true → every p (xs ++ (x ∷ [])) ≡ true
unfolding every
every_snoc p [] x h e = rw e
every_snoc p (y ∷ ys) x h e = go (p y) h (λ f. every_snoc p ys x f e)
  where
    go : (b : Bool) → b && every p ys ≡ true → (every p ys ≡ true → every p (ys ++ (x ∷ [])) ≡ true) → b && every p (ys ++ (x ∷ [])) ≡ true
    go true h f = f h
    go false h f = h

some_fails : (p : ℕ → Bool) (F : ℕ → ℕ) (a k t : ℕ) → t < k → p (F (a + t)) ≡ false → every p (entries F a k) ≡ false
unfolding every entries
some_fails p F a zero t h e = absurd (omega arith)
some_fails p F a (suc k) zero h e = rw (ap (λ (x : ℕ). p (F x)) (sym (add-zero a)) ∙ e)
some_fails p F a (suc k) (suc t) h e = go (p (F a)) (some_fails p F (suc a) k t (omega arith) (ap (λ (x : ℕ). p (F x)) (omega arith) ∙ e))
  where
    go : (b : Bool) → every p (entries F (suc a) k) ≡ false → b && every p (entries F (suc a) k) ≡ false
    go true f = f
    go false f = refl

-- the first t entries are marked
pub record MarkedTo (l : List ℤ) (n : ℕ) (s : List ℤ) (p flag t : ℕ) : Type 0 where
  pub so : every (has_mark n s flag) (entries (at l) p t) ≡ true

module _ (l : List ℤ) (n : ℕ) (s : List ℤ) (p flag : ℕ) where
  pub marked_start : MarkedTo l n s p flag 0
  unfolding every entries
  marked_start = record { so = refl }

  module _ (t : ℕ) (h : MarkedTo l n s p flag t) where
    module _ (x w : ℕ) (hx : x ≡ at l (p + t)) (hw : w ≡ rd n W s x) where
      is : rd n W s (at l (p + t)) ≡ w
      is = rw (← hx, hw)

      pub marked_more : w ≡ flag → MarkedTo l n s p flag (t + 1)
      marked_more e =
          record {
            so = rw (add-one t, entries_snoc (at l) p t)
                (every_snoc (has_mark n s flag) (entries (at l) p t) (at l (p + t)) h.so (eq-eqb (rd n W s (at l (p + t))) flag (is ∙ e)));
          }

      pub marked_not : (k c : ℕ) → c ≡ clipped (length l) p k → w ≢ flag → t < c → false ≡ all_marked l n s p k flag
      unfolding all_marked
      marked_not k c hc e lt =
          sym (some_fails (has_mark n s flag) (at l) p (clipped (length l) p k) t (rw hc at lt) (ne_eqb (rd n W s (at l (p + t))) flag (λ q. e (sym is ∙ q))))

    pub marked_all : (k c : ℕ) → c ≡ clipped (length l) p k → c ≤ t → t ≤ c → true ≡ all_marked l n s p k flag
    unfolding all_marked
    marked_all k c hc a b = sym (subst (λ (d : ℕ). every (has_mark n s flag) (entries (at l) p d) ≡ true) (omega arith) h.so)

pub ruleset mark_turns = (marked_start, marked_more, marked_not, marked_all)

-- ---- a walk: what is left to do gives what was to be done

-- after c turns of k
pub record Walking (l : List ℤ) (n i len elen flag k : ℕ) (m₀ : Comparing) (c : ℕ) (m : Comparing) : Type 0 where
  pub same : followers l n i len elen flag k m₀ ≡ followers l n i len elen flag (k - c) m

module _ (l : List ℤ) (n i len elen flag k : ℕ) (m₀ : Comparing) where
  pub walk_start : Walking l n i len elen flag k m₀ 0 m₀
  walk_start = record { same = let z : k - 0 ≡ k = omega arith in rw z }

  next_turn_lem : (c : ℕ) (m : Comparing) → c < k → m.walk.next < n → followers l n i len elen flag (k - c) m ≡ followers l n i len elen flag (k - (c + 1)) (compared l n i len elen flag m)
  unfolding followers
  next_turn_lem c m a b = let e : k - c ≡ suc (k - (c + 1)) = omega arith in rw (e, lt-ltb m.walk.next n b)

  pub walk_more : (c : ℕ) (s : List ℤ) (w : Trail) → Walking l n i len elen flag k m₀ c (comparing s w)
      → (r : List ℤ) (v : Trail) → comparing r v ≡ compared l n i len elen flag (comparing s w) → c < k → w.next < n → Walking l n i len elen flag k m₀ (c + 1) (comparing r v)
  walk_more c s w h r v e a b = record { same = rw e (h.same ∙ next_turn_lem c (comparing s w) a b) }

pub at_end : (l : List ℤ) (n i len elen flag k : ℕ) (m : Comparing) → n ≤ m.walk.next → followers l n i len elen flag k m ≡ m
unfolding followers
at_end l n i len elen flag zero m h = refl
at_end l n i len elen flag (suc k) m h = rw (le-ltb m.walk.next n h)

at_last : (l : List ℤ) (n i len elen flag k : ℕ) (m : Comparing) → k ≡ 0 → followers l n i len elen flag k m ≡ m
unfolding followers
at_last l n i len elen flag k m h = rw h

module _ (l : List ℤ) (n k i x : ℕ) (s : List ℤ) (t : Tally) (len elen : ℕ) (hl : len ≡ rd n LEN s i) (he : elen ≡ rd n ELEN s i) (c : ℕ) (r : List ℤ) (w : Trail)
    (h : Walking l n i len elen t.flag k (comparing s (record { last = i; next = x; logged = t.logged })) c (comparing r w)) where
  whole : followers l n i len elen t.flag (k - c) (comparing r w) ≡ comparing r w → merging r (record { flag = t.flag; logged = w.logged }) ≡ merged_into l n k i x (merging s t)
  unfolding merged_into
  whole e = rw (← hl, ← he, h.same, e)

  pub walk_end : n ≤ w.next → merging r (record { flag = t.flag; logged = w.logged }) ≡ merged_into l n k i x (merging s t)
  walk_end a = whole (at_end l n i len elen t.flag (k - c) (comparing r w) a)

  pub walk_out : k ≤ c → merging r (record { flag = t.flag; logged = w.logged }) ≡ merged_into l n k i x (merging s t)
  walk_out a = whole (at_last l n i len elen t.flag (k - c) (comparing r w) (omega arith))

pub ruleset walk_turns = (walk_start, walk_more, walk_end, walk_out)

-- ---- the rows of a bucket

module _ (l : List ℤ) (n k : ℕ) where
  pub run_over : (c i : ℕ) (m : Merging) → n ≤ i → bucket_run l n k c i m ≡ m
  unfolding bucket_run
  run_over zero i m h = refl
  run_over (suc c) i m h = rw (le-ltb i n h)

  -- nobody is behind
  pub run_alone : (c i : ℕ) (m : Merging) → n ≤ rd n HNEXT m.mem i → bucket_run l n k c i m ≡ m
  unfolding bucket_run
  run_alone zero i m h = refl
  run_alone (suc c) i m h = rw (le-ltb (rd n HNEXT m.mem i) n h) (cond_has (λ (r : Merging). r ≡ m) (ltb i n) (λ _. refl) (λ _. refl))

  run_last : (c i : ℕ) (m : Merging) → c ≡ 0 → bucket_run l n k c i m ≡ m
  unfolding bucket_run
  run_last c i m h = rw h

  run_turn : (c i x : ℕ) (m : Merging) → x ≡ rd n HNEXT m.mem i → c < k → i < n → x < n
      → bucket_run l n k (k - c) i m ≡ bucket_run l n k (k - (c + 1)) (rd n HNEXT (merged_at l n k i x m).mem i) (merged_at l n k i x m)
  unfolding bucket_run
  run_turn c i x m h a b d = let e : k - c ≡ suc (k - (c + 1)) = omega arith in rw (e, ← h, lt-ltb i n b, lt-ltb x n d)

-- after c turns of k
pub record Running (l : List ℤ) (n k i₀ : ℕ) (m₀ : Merging) (c i : ℕ) (m : Merging) : Type 0 where
  pub same : bucket_run l n k k i₀ m₀ ≡ bucket_run l n k (k - c) i m

module _ (l : List ℤ) (n k i₀ : ℕ) (m₀ : Merging) where
  pub run_start : Running l n k i₀ m₀ 0 i₀ m₀
  run_start = record { same = let z : k - 0 ≡ k = omega arith in rw z }

  module _ (c i : ℕ) (s : List ℤ) (t : Tally) (h : Running l n k i₀ m₀ c i (merging s t)) where
    pub run_more : (x : ℕ) → x ≡ rd n HNEXT s i → (r : List ℤ) (u : Tally) (next : ℕ) → merging r u ≡ merged_at l n k i x (merging s t) → next ≡ rd n HNEXT r i → c < k → i < n → x < n
        → Running l n k i₀ m₀ (c + 1) next (merging r u)
    run_more x hx r u next e hn a b d =
        record {
          same = rw hn
              (h.same ∙ run_turn l n k c i x (merging s t) hx a b d ∙ ap (λ (m : Merging). bucket_run l n k (k - (c + 1)) (rd n HNEXT m.mem i) m) (sym e));
        }

    pub run_rest : n ≤ rd n HNEXT s i → merging s t ≡ bucket_run l n k k i₀ m₀
    run_rest a = sym (h.same ∙ run_alone l n k (k - c) i (merging s t) a)

    pub run_end : n ≤ i → merging s t ≡ bucket_run l n k k i₀ m₀
    run_end a = sym (h.same ∙ run_over l n k (k - c) i (merging s t) a)

    pub run_out : k ≤ c → merging s t ≡ bucket_run l n k k i₀ m₀
    run_out a = sym (h.same ∙ run_last l n k (k - c) i (merging s t) (omega arith))

pub ruleset run_turns = (run_start, run_more, run_rest, run_end, run_out)
