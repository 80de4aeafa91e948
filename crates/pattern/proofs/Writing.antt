-- What a scan writes: after the pairs ps each cursor stands behind what ps write into its list, and where there is room the list is that.
-- Assumes nothing.
use Prim.Native.Nat.{ℕ, ◌+◌, ◌<◌, ◌^◌}
use native.Mathlib.Omega.{arith}
use mathlib.Core.Path.{◌≡◌, refl, sym, ◌∙◌, fun_ext}
use mathlib.Core.Logic.{◌≢◌, ◌⊎◌, inl, inr}
use mathlib.Core.Bool.{Bool, true, false}
use mathlib.Core.List.{List, [], ◌∷◌, ◌++◌, append_assoc, append-nil}
use lib.Dec.{eqb}
use lib.ListN.{length}
use borrow.Author.Tests.{lt-ltb, eq-eqb, ne_eqb}
use Rattle.plain.specs.Lists.{cons_if}
use Rattle.plain.specs.Turns.{upd}
use Rattle.plain.proofs.Entries.{upd_same, upd_other}
use Rattle.definition.specs.Neighbours.{Pair, pair, written}
use Rattle.cells.specs.View.{at, wr, rd, up, Room, plus}
use Rattle.cells.proofs.Slices.{same?, at_wr_same, at_wr_other, length_wr, plus_sum}
use Rattle.cells.proofs.Fields.{room_up, length_up}
use Rattle.cells.proofs.Laws.{mem, room_yes}
use Rattle.pattern.specs.Cursors.{Filled}
use Rattle.pattern.specs.Model.{Heap, heap, added, paired}
use Rattle.pattern.proofs.Cursor.{filled_more}

-- ---- what one pair more writes

written_append : (v : ℕ) (ps qs : List Pair) → written v (ps ++ qs) ≡ written v ps ++ written v qs
unfolding written
written_append v [] qs = refl
written_append v (p ∷ ps) qs = go (eqb v p.one) (eqb v p.other) (written_append v ps qs)
  where
    go : (a b : Bool) → written v (ps ++ qs) ≡ written v ps ++ written v qs
        → cons_if a p.other (cons_if b p.one (written v (ps ++ qs))) ≡ cons_if a p.other (cons_if b p.one (written v ps)) ++ written v qs
    go true true e = rw e
    go true false e = rw e
    go false true e = rw e
    go false false e = e

-- the lists with each of i and j at the end of the other's
abbrev pub both : (ℕ → List ℕ) → ℕ → ℕ → ℕ → List ℕ
both X i j = upd (upd X i (X i ++ (j ∷ []))) j (upd X i (X i ++ (j ∷ [])) j ++ (i ∷ []))

both_at : (X : ℕ → List ℕ) (i j v : ℕ) → (v ≡ j) ⊎ (v ≢ j) → (v ≡ i) ⊎ (v ≢ i) → X v ++ cons_if (eqb v i) j (cons_if (eqb v j) i []) ≡ both X i j v
both_at X i j v (inl e) (inl f) =
    let g : j ≡ i = sym e ∙ f in
    rw (f, g, eq-eqb i i refl, upd_same (upd X i (X i ++ (i ∷ []))) i (upd X i (X i ++ (i ∷ [])) i ++ (i ∷ [])), upd_same X i (X i ++ (i ∷ [])))
    (sym (append_assoc (X i) (i ∷ []) (i ∷ [])))
both_at X i j v (inl e) (inr f) =
    let g : j ≢ i = λ q. f (e ∙ q) in
    rw (e, eq-eqb j j refl, ne_eqb j i g, upd_same (upd X i (X i ++ (j ∷ []))) j (upd X i (X i ++ (j ∷ [])) j ++ (i ∷ [])), upd_other X i (X i ++ (j ∷ [])) j g)
both_at X i j v (inr e) (inl f) =
    let g : i ≢ j = λ q. e (f ∙ q) in
    rw (f, eq-eqb i i refl, ne_eqb i j g, upd_other (upd X i (X i ++ (j ∷ []))) j (upd X i (X i ++ (j ∷ [])) j ++ (i ∷ [])) i g, upd_same X i (X i ++ (j ∷ [])))
both_at X i j v (inr e) (inr f) =
    rw (ne_eqb v i f, ne_eqb v j e, upd_other (upd X i (X i ++ (j ∷ []))) j (upd X i (X i ++ (j ∷ [])) j ++ (i ∷ [])) v e, upd_other X i (X i ++ (j ∷ [])) v f)
    (append-nil (X v))

pub written_both : (ps : List Pair) (i j : ℕ) → both (λ v. written v ps) i j ≡ (λ v. written v (ps ++ (pair i j ∷ [])))
unfolding written
written_both ps i j =
    fun_ext (λ v. sym (written_append v ps (pair i j ∷ []) ∙ both_at (λ u. written u ps) i j v (same? v j) (same? v i)))

-- ---- in the memory

room_added : (n i x : ℕ) (h : Heap) → Room n h.mem → Room n (added n i x h).mem
unfolding added
room_added n i x h r = room_up n 12 h.mem i (plus (rd n 12 h.mem i) 1) r

long_added : (n i x : ℕ) (h : Heap) → length (added n i x h).lists ≡ length h.lists
unfolding added
long_added n i x h = length_wr h.lists (rd n 12 h.mem i) x

module _ (n i j : ℕ) (h : Heap) where
  paired_other : (f : ℕ) → (f ≡ 0) ⊎ (f ≡ 1) → (q : ℕ) → rd n f (paired n i j h).mem q ≡ rd n f h.mem q
  unfolding paired added
  paired_other f (inl e) q = rw e (simp mem)
  paired_other f (inr e) q = rw e (simp mem)

  paired_long : length (paired n i j h).lists ≡ length h.lists
  unfolding paired added
  paired_long = simp mem

  paired_wide : length (paired n i j h).mem ≡ length h.mem
  unfolding paired added
  paired_wide = simp mem

module _ (n : ℕ) (start len : ℕ → ℕ) (size : ℕ) (small : (i : ℕ) → i < n → start i + len i < 2 ^ 63) where
  abbrev Fill : Heap → (ℕ → List ℕ) → Type 0
  Fill h X = Filled n start len size (rd n 12 h.mem) (at h.lists) X

  added_filled : (h : Heap) (X : ℕ → List ℕ) (i x : ℕ) → i < n → Room n h.mem → length h.lists ≡ size → Fill h X
      → Fill (added n i x h) (upd X i (X i ++ (x ∷ [])))
  unfolding added
  added_filled h X i x hi r long fill =
      filled_more n start len size small (rd n 12 h.mem) (at h.lists) (rd n 12 (up n 12 h.mem i (plus (rd n 12 h.mem i) 1)))
      (at (wr h.lists (rd n 12 h.mem i) x)) X fill i x hi
      (λ v ne. simp mem)
      (λ l. simp (mem, room_yes n h.mem r, lt-ltb i n hi) (plus_sum (rd n 12 h.mem i) 1 l ∙ omega arith))
      (λ q ne. at_wr_other h.lists (rd n 12 h.mem i) x q ne)
      (λ l. at_wr_same h.lists (rd n 12 h.mem i) x (rw long l))

  paired_filled : (h : Heap) (X : ℕ → List ℕ) (i j : ℕ) → i < n → j < n → Room n h.mem → length h.lists ≡ size → Fill h X
      → Fill (paired n i j h) (both X i j)
  unfolding paired
  paired_filled h X i j hi hj r long fill =
      added_filled (added n i j h) (upd X i (X i ++ (j ∷ []))) j i hj (room_added n i j h r) (long_added n i j h ∙ long) (added_filled h X i j hi r long fill)

  -- after the pairs ps; places, lengths and sizes are as they were
  pub record Out (P L : ℕ → ℕ) (most : ℕ) (ps : List Pair) (h : Heap) : Type 0 where
    pub fill : Filled n start len size (rd n 12 h.mem) (at h.lists) (λ v. written v ps)
    pub place : (v : ℕ) → rd n 0 h.mem v ≡ P v
    pub count : (v : ℕ) → rd n 1 h.mem v ≡ L v
    pub long : length h.lists ≡ size
    pub wide : length h.mem ≡ most

  pub out_pair : (P L : ℕ → ℕ) (most : ℕ) (ps : List Pair) (h : Heap) (i j : ℕ) → i < n → j < n → Room n h.mem → Out P L most ps h
      → Out P L most (ps ++ (pair i j ∷ [])) (paired n i j h)
  out_pair P L most ps h i j hi hj r o = record {
    fill = rw (← written_both ps i j) (paired_filled h (λ v. written v ps) i j hi hj r o.long o.fill);
    place = λ v. paired_other n i j h 0 (inl refl) v ∙ o.place v;
    count = λ v. paired_other n i j h 1 (inr refl) v ∙ o.count v;
    long = paired_long n i j h ∙ o.long;
    wide = paired_wide n i j h ∙ o.wide;
  }

  pub out_mark : (P L : ℕ → ℕ) (most : ℕ) (ps : List Pair) (h : Heap) (j v : ℕ) → Out P L most ps h → Out P L most ps (heap h.lists (up n 13 h.mem j v))
  out_mark P L most ps h j v o =
      let e : rd n 12 (up n 13 h.mem j v) ≡ rd n 12 h.mem = fun_ext (λ q. simp mem) in
      record {
        fill = rw e o.fill;
        place = λ q. simp mem (o.place q);
        count = λ q. simp mem (o.count q);
        long = o.long;
        wide = length_up n 13 h.mem j v ∙ o.wide;
      }
