-- A part of the list space filtered to the left: what is kept of it, counted and summed, and what stays as it was.
-- Assumes nothing.
use Rattle.std.proofs.Common.{◌≡◌, ℕ, suc, ◌+◌, ◌^◌, ◌<◌, ◌≤◌, Bool, true, false, ◌⊎◌, List, [], ◌∷◌, ◌++◌, length, ℤ, refl, ap, ◌∙◌, inl, inr, ⊎_elim, append-nil, arith, length-append}
use Rattle.plain.proofs.Entries.{entries_same, entries_snoc}
use Rattle.plain.proofs.Sums.{total_append, total_one}
use Rattle.plain.specs.Lists.{cons_if, itself, keep, total}
use Rattle.plain.specs.Turns.{entries}
use Rattle.cells.proofs.Slices.{at_wr_other, at_wr_same, length_wr, wrapped_sum}
use Rattle.cells.specs.View.{at, wr}
use Rattle.trimming.specs.Model.{Keeping, counted, keeping, kept_entry}

pub keep_snoc : (w : ℕ → Bool) (xs : List ℕ) (x : ℕ) → keep w (xs ++ (x ∷ [])) ≡ keep w xs ++ cons_if (w x) x []
unfolding keep
keep_snoc w [] x = refl
keep_snoc w (y ∷ ys) x = rw (keep_snoc w ys x) (go (w y))
  where
    go : (b : Bool) → cons_if b y (keep w ys ++ cons_if (w x) x []) ≡ cons_if b y (keep w ys) ++ cons_if (w x) x []
    go true = refl
    go false = refl

-- one number more is read
pub keep_one_more : (w : ℕ → Bool) (F : ℕ → ℕ) (p t x : ℕ) → x ≡ F (p + t) → w x ≡ true → keep w (entries F p (suc t)) ≡ keep w (entries F p t) ++ (x ∷ [])
keep_one_more w F p t x e h =
    ap (keep w) (entries_snoc F p t) ∙ keep_snoc w (entries F p t) (F (p + t)) ∙ rw (← e, h)

pub keep_no_more : (w : ℕ → Bool) (F : ℕ → ℕ) (p t x : ℕ) → x ≡ F (p + t) → w x ≡ false → keep w (entries F p (suc t)) ≡ keep w (entries F p t)
keep_no_more w F p t x e h =
    ap (keep w) (entries_snoc F p t) ∙ keep_snoc w (entries F p t) (F (p + t)) ∙ rw (← e, h) (append-nil (keep w (entries F p t)))

-- Of the cells from `from` on t are read. ys is kept, from b on; d and z are the sums before. D is the size of an entry.
pub record Left (D : ℕ → ℕ) (l : List ℤ) (b from d z t : ℕ) (ys : List ℕ) (m : Keeping) : Type 0 where
  pub end : m.kept.end ≡ b + length ys
  pub here : entries (at m.lists) b (length ys) ≡ ys
  pub few : length ys ≤ t
  pub rest : (q : ℕ) → (q < b) ⊎ (from + t ≤ q) → at m.lists q ≡ at l q
  pub long : length m.lists ≡ length l
  pub deg : d + total D ys < 2 ^ 63 → m.kept.deg ≡ d + total D ys
  pub sum : z + total itself ys < 2 ^ 63 → m.kept.sum ≡ z + total itself ys

module _ (D : ℕ → ℕ) (l : List ℤ) (b from d z t : ℕ) (ys : List ℕ) (m : Keeping) (h : Left D l b from d z t ys m) where
  -- the next is kept
  pub left_more : (x : ℕ) → b ≤ from → from + t < length l → Left D l b from d z (suc t) (ys ++ (x ∷ [])) (kept_entry x (D x) m)
  unfolding kept_entry counted
  left_more x lo hi =
      let k = length ys in
      let len : length (ys ++ (x ∷ [])) ≡ suc k = length-append ys (x ∷ []) ∙ omega arith in
      let td : total D (ys ++ (x ∷ [])) ≡ total D ys + D x = total_append D ys (x ∷ []) ∙ ap (λ (y : ℕ). total D ys + y) (total_one D x) in
      let tz : total itself (ys ++ (x ∷ [])) ≡ total itself ys + x = total_append itself ys (x ∷ []) ∙ ap (λ (y : ℕ). total itself ys + y) (total_one itself x) in
      let old : entries (at (wr m.lists (b + k) x)) b k ≡ entries (at m.lists) b k =
      entries_same (at m.lists) (at (wr m.lists (b + k) x)) b b k (λ i a. at_wr_other m.lists (b + k) x (b + i) (λ u. absurd (omega arith))) in
      let new : at (wr m.lists (b + k) x) (b + k) ≡ x = at_wr_same m.lists (b + k) x (omega (arith, h.long, h.few)) in
      rw h.end
      record {
        end = omega (arith, len);
        here = rw len (entries_snoc (at (wr m.lists (b + k) x)) b k ∙ rw (old, new) (ap (λ (y : List ℕ). y ++ (x ∷ [])) h.here));
        few = omega (arith, h.few, len);
        rest = λ q o. at_wr_other m.lists (b + k) x q (λ u. absurd (⊎_elim (λ a. omega arith) (λ a. omega (arith, h.few)) o))
            ∙ h.rest q (⊎_elim (λ a. inl a) (λ a. inr (omega arith)) o);
        long = length_wr m.lists (b + k) x ∙ h.long;
        deg = λ f. let g : m.kept.deg ≡ d + total D ys = h.deg (omega (arith, td)) in wrapped_sum m.kept.deg (D x) (omega (arith, td)) ∙ omega (arith, td);
        sum = λ f. let g : m.kept.sum ≡ z + total itself ys = h.sum (omega (arith, tz)) in wrapped_sum m.kept.sum x (omega (arith, tz)) ∙ omega (arith, tz);
      }

  -- the next is not kept; the scratch may change
  pub left_same : (s : List ℤ) → Left D l b from d z (suc t) ys (keeping m.lists s m.kept)
  left_same s =
      record {
        end = h.end;
        here = h.here;
        few = omega (arith, h.few);
        rest = λ q o. h.rest q (⊎_elim (λ a. inl a) (λ a. inr (omega arith)) o);
        long = h.long;
        deg = h.deg;
        sum = h.sum;
      }
