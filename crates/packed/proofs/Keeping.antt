-- A filter of a list in its own place: the entries that pass, in order, moved to the left.
-- Assumes nothing.
use Rattle.std.proofs.Common.{◌≡◌, ℕ, suc, ◌+◌, ◌<◌, ◌≤◌, Bool, true, false, ltb, ◌⊎◌, List, [], ◌∷◌, ◌++◌, length, ℤ, refl, ap, ◌∙◌, subst, inl, inr, ⊎_elim, append-nil, arith, length-append, le-ltb, lt-ltb}
use Rattle.plain.proofs.Entries.{entries_none, entries_same, entries_snoc}
use Rattle.plain.proofs.Turns.{times_keeps, times_same}
use Rattle.plain.specs.Lists.{cons_if, keep}
use Rattle.plain.specs.Turns.{entries, upd}
use Rattle.cells.proofs.Rows.{clipped_part}
use Rattle.cells.proofs.Slices.{at_wr_other, at_wr_same, length_wr, split}
use Rattle.cells.specs.Layout.{LEN, PE}
use Rattle.cells.specs.Rows.{clipped}
use Rattle.cells.specs.View.{at, rd, up, wr}
use Rattle.packed.specs.Gather.{Cut, cut, kept_one, kept_part}
use Rattle.packed.specs.Places.{Space, places}
use Rattle.packed.proofs.Frame.{inside_space}
use Rattle.packed.proofs.Spaces.{space_rewritten}

keep_snoc : (w : ℕ → Bool) (xs : List ℕ) (x : ℕ) → keep w (xs ++ (x ∷ [])) ≡ keep w xs ++ cons_if (w x) x []
unfolding keep
keep_snoc w [] x = refl
keep_snoc w (y ∷ ys) x = rw (keep_snoc w ys x) (go (w y))
  where
    go : (b : Bool) → cons_if b y (keep w ys ++ cons_if (w x) x []) ≡ cons_if b y (keep w ys) ++ cons_if (w x) x []
    go true = refl
    go false = refl

-- of the t numbers of l from p on, m has those that pass, from p on; what is not among them is as it was
pub record Kept (w : ℕ → Bool) (l : List ℤ) (p t : ℕ) (m : Cut) : Type 0 where
  pub count : m.count ≡ length (keep w (entries (at l) p t))
  pub here : entries (at m.lists) p m.count ≡ keep w (entries (at l) p t)
  pub few : m.count ≤ t
  pub rest : (q : ℕ) → (q < p) ⊎ (p + t ≤ q) → at m.lists q ≡ at l q
  pub long : length m.lists ≡ length l

-- ---- one turn

module _ (n f : ℕ) (s : List ℤ) (q e : ℕ) (l : List ℤ) (c x w : ℕ) (hx : x ≡ at l q) (hw : w ≡ rd n f s x) where
  pub keep_yes : (l₁ : List ℤ) (r : ℕ) → l₁ ≡ wr l e x → r ≡ c + 1 → 0 < w → cut l₁ r ≡ kept_one n f s q e (cut l c)
  unfolding kept_one
  keep_yes l₁ r hl hr h = rw (← hx, ← hw, lt-ltb 0 w h, hl, hr)

  pub keep_no : w ≤ 0 → cut l c ≡ kept_one n f s q e (cut l c)
  unfolding kept_one
  keep_no h = rw (← hx, ← hw, le-ltb 0 w h)

-- ---- all turns

module _ (n f : ℕ) (s l : List ℤ) (p k : ℕ) (fits : 0 < k → p + k ≤ length l) where
  abbrev w : ℕ → Bool
  w v = ltb 0 (rd n f s v)

  abbrev step : ℕ → Cut → Cut
  step t m = kept_one n f s (p + t) (p + m.count) m

  module _ (t : ℕ) (m : Cut) (b : t < k) (h : Kept w l p t m) where
    abbrev x : ℕ
    x = at m.lists (p + t)

    same : x ≡ at l (p + t)
    same = h.rest (p + t) (inr (omega arith))

    longer : keep w (entries (at l) p (suc t)) ≡ keep w (entries (at l) p t) ++ cons_if (w x) x []
    longer = rw same (ap (keep w) (entries_snoc (at l) p t) ∙ keep_snoc w (entries (at l) p t) (at l (p + t)))

    passes : 0 < rd n f s x → Kept w l p (suc t) (step t m)
    passes z =
        let c = m.count in
        let hit : w x ≡ true = lt-ltb 0 (rd n f s x) z in
        let lo : keep w (entries (at l) p (suc t)) ≡ keep w (entries (at l) p t) ++ (x ∷ []) = longer ∙ ap (λ (a : Bool). keep w (entries (at l) p t) ++ cons_if a x []) hit in
        let old : entries (at (wr m.lists (p + c) x)) p c ≡ entries (at m.lists) p c =
        entries_same (at m.lists) (at (wr m.lists (p + c) x)) p p c (λ i a. at_wr_other m.lists (p + c) x (p + i) (λ e. absurd (omega arith))) in
        let new : at (wr m.lists (p + c) x) (p + c) ≡ x = at_wr_same m.lists (p + c) x (omega (arith, h.long, h.few, fits (omega arith))) in
        subst (Kept w l p (suc t)) (keep_yes n f s (p + t) (p + c) m.lists c x (rd n f s x) refl refl (wr m.lists (p + c) x) (suc c) refl (omega arith) z)
        record {
          count = rw lo (omega (arith, h.count, length-append (keep w (entries (at l) p t)) (x ∷ [])));
          here = entries_snoc (at (wr m.lists (p + c) x)) p c ∙ rw (lo, old, new) (ap (λ (y : List ℕ). y ++ (x ∷ [])) h.here);
          few = omega (arith, h.few);
          rest = λ q o. at_wr_other m.lists (p + c) x q (λ e. absurd (⊎_elim (λ a. omega arith) (λ a. omega (arith, h.few)) o))
              ∙ h.rest q (⊎_elim (λ a. inl a) (λ a. inr (omega arith)) o);
          long = length_wr m.lists (p + c) x ∙ h.long;
        }

    fails : rd n f s x ≤ 0 → Kept w l p (suc t) (step t m)
    fails z =
        let miss : w x ≡ false = le-ltb 0 (rd n f s x) z in
        let lo : keep w (entries (at l) p (suc t)) ≡ keep w (entries (at l) p t) =
        longer ∙ ap (λ (a : Bool). keep w (entries (at l) p t) ++ cons_if a x []) miss ∙ append-nil (keep w (entries (at l) p t)) in
        subst (Kept w l p (suc t)) (keep_no n f s (p + t) (p + m.count) m.lists m.count x (rd n f s x) refl refl z)
        record {
          count = rw lo h.count;
          here = rw lo h.here;
          few = omega (arith, h.few);
          rest = λ q o. h.rest q (⊎_elim (λ a. inl a) (λ a. inr (omega arith)) o);
          long = h.long;
        }

  begun : Kept w l p 0 (cut l 0)
  unfolding keep
  begun =
      record {
        count = rw (entries_none (at l) p);
        here = rw (entries_none (at l) p);
        few = omega arith;
        rest = λ q o. refl;
        long = refl;
      }

  -- THE filter
  pub kept_part_lem : Kept w l p k (kept_part n f s p k l)
  unfolding kept_part
  kept_part_lem =
      rw (clipped_part (length l) p k fits)
      (times_keeps (Kept w l p) step k (λ t m b h. ⊎_elim (λ z. passes t m b h z) (λ z. fails t m b h z) (split 0 (rd n f s (at m.lists (p + t))))) k (cut l 0) (omega arith) begun)

-- the test reads nothing but the field
pub kept_by : (n f : ℕ) (s s' l : List ℤ) (p k : ℕ) → ((v : ℕ) → rd n f s' v ≡ rd n f s v) → kept_part n f s' p k l ≡ kept_part n f s p k l
unfolding kept_part kept_one
kept_by n f s s' l p k same =
    times_same (λ t m. kept_one n f s' (p + t) (p + m.count) m) (λ t m. kept_one n f s (p + t) (p + m.count) m) (clipped (length l) p k) (cut l 0)
    (λ t m b. rw (same (at m.lists (p + t))))

-- the list of an object
module _ (n : ℕ) (X : ℕ → List ℕ) (l s : List ℤ) (cnt base lim : ℕ) (g : Space n X l s cnt base lim) (f j : ℕ) (hj : j < n) where
  abbrev kept : Cut
  kept = kept_part n f s (rd n PE s j) (rd n LEN s j) l

  inside_l : 0 < rd n LEN s j → rd n PE s j + rd n LEN s j ≤ length l
  inside_l z = inside_space l (places n s) lim X g.lists j z

  pub space_kept : Space n (upd X j (keep (λ v. ltb 0 (rd n f s v)) (X j))) kept.lists (up n LEN s j kept.count) cnt base lim
  space_kept =
      let h = kept_part_lem n f s l (rd n PE s j) (rd n LEN s j) inside_l in
      space_rewritten n X l s cnt base lim g j hj kept.lists kept.count (keep (λ v. ltb 0 (rd n f s v)) (X j)) h.few h.long
      (λ q o. h.rest q o) (h.here ∙ ap (keep (λ v. ltb 0 (rd n f s v))) (g.lists.lists j))
