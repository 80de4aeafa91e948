-- A pass over the columns of a jumbled pattern: each column is written at the cursors of its rows, at each once. So after all columns each row's cursor stands
-- behind the columns that have it, ascending, and where there is room they are the list.
-- Assumes nothing.
use Prim.Native.Nat.{ℕ, suc, ◌+◌, ◌-◌, ◌≤◌, ◌<◌, ◌^◌}
use native.Mathlib.Omega.{arith}
use mathlib.Core.Path.{◌≡◌, refl, sym, ap, ◌∙◌, fun_ext}
use mathlib.Core.Logic.{◌≢◌, ◌⊎◌, inl, inr}
use mathlib.Core.Bool.{Bool, true, false}
use mathlib.Core.List.{List, [], ◌∷◌, ◌++◌, foldl, append_assoc, append-nil}
use lib.Dec.{eqb}
use lib.IntN.{ℤ}
use lib.ListN.{length, get_or}
use borrow.Author.Tests.{lt-ltb, eq-eqb, ne_eqb}
use Rattle.plain.specs.Lists.{member, up_to, count_up, keep, cons_if}
use Rattle.plain.specs.Turns.{times, upd}
use Rattle.plain.proofs.Members.{member_here, member_there, member_nil, member_last, member_snoc}
use Rattle.plain.proofs.Folds.{keep_append}
use Rattle.plain.proofs.Entries.{upd_same, upd_other}
use Rattle.plain.proofs.Sums.{count_up_snoc}
use Rattle.plain.proofs.Turns.{times_keeps, times_fold}
use Rattle.definition.specs.Cleaned.{columns_with}
use Rattle.cells.specs.View.{at, rd, up, Room, spare, plus}
use Rattle.cells.proofs.Slices.{same?, plus_sum}
use Rattle.cells.proofs.Fields.{room_up}
use Rattle.cells.proofs.Laws.{mem, room_yes}
use Rattle.pattern.specs.Cursors.{Filled}
use Rattle.pattern.specs.Columned.{Stands}
use Rattle.pattern.specs.Model.{rowed, visited, visited_column, visited_next, visited_all}
use Rattle.pattern.proofs.Cursor.{filled_more, filled_none}

-- ---- lists

keep_next : (p : ℕ → Bool) (j : ℕ) → keep p (up_to (suc j)) ≡ keep p (up_to j) ++ cons_if (p j) j []
unfolding keep
keep_next p j =
    let q : 0 + j ≡ j = omega arith in
    ap (keep p) (count_up_snoc 0 j) ∙ keep_append p (up_to j) ((0 + j) ∷ []) ∙ ap (λ (x : ℕ). keep p (up_to j) ++ cons_if (p x) x []) q

module _ (cols : List (List ℕ)) where
  -- the columns before j that have row i, and j where it is among those seen
  abbrev pub seen : ℕ → List ℕ → ℕ → List ℕ
  seen j done i = keep (λ c. member i (get_or cols c [])) (up_to j) ++ cons_if (member i done) j []

  seen_none : (i : ℕ) → seen 0 [] i ≡ []
  unfolding keep count_up member
  seen_none i = refl

  seen_old_at : (j : ℕ) (done : List ℕ) (i v : ℕ) → member i done ≡ true → (v ≡ i) ⊎ (v ≢ i) → seen j done v ≡ seen j (done ++ (i ∷ [])) v
  seen_old_at j done i v h (inl e) = rw (e, member_last i done, h)
  seen_old_at j done i v h (inr e) = rw (member_snoc v i done e)

  seen_old : (j : ℕ) (done : List ℕ) (i : ℕ) → member i done ≡ true → seen j done ≡ seen j (done ++ (i ∷ []))
  seen_old j done i h = fun_ext (λ v. seen_old_at j done i v h (same? v i))

  seen_new_at : (j : ℕ) (done : List ℕ) (i v : ℕ) → member i done ≡ false → (v ≡ i) ⊎ (v ≢ i) → upd (seen j done) i (seen j done i ++ (j ∷ [])) v ≡ seen j (done ++ (i ∷ [])) v
  seen_new_at j done i v h (inl e) =
      rw (e, upd_same (seen j done) i (seen j done i ++ (j ∷ [])), member_last i done, h)
      (ap (λ (l : List ℕ). l ++ (j ∷ [])) (append-nil (keep (λ c. member i (get_or cols c [])) (up_to j))))
  seen_new_at j done i v h (inr e) = rw (upd_other (seen j done) i (seen j done i ++ (j ∷ [])) v e, member_snoc v i done e)

  seen_new : (j : ℕ) (done : List ℕ) (i : ℕ) → member i done ≡ false → upd (seen j done) i (seen j done i ++ (j ∷ [])) ≡ seen j (done ++ (i ∷ []))
  seen_new j done i h = fun_ext (λ v. seen_new_at j done i v h (same? v i))

  -- a column is done
  seen_next : (j : ℕ) → seen j (get_or cols j []) ≡ seen (suc j) []
  seen_next j =
      fun_ext (λ v. sym (keep_next (λ c. member v (get_or cols c [])) j) ∙ sym (append-nil (keep (λ c. member v (get_or cols c [])) (up_to (suc j))))
      ∙ ap (λ (b : Bool). keep (λ c. member v (get_or cols c [])) (up_to (suc j)) ++ cons_if b (suc j) []) (sym (member_nil v)))

  -- all are
  pub seen_all : (n i : ℕ) → length cols ≡ n → seen n [] i ≡ columns_with cols i
  unfolding columns_with
  seen_all n i e =
      ap (λ (b : Bool). keep (λ c. member i (get_or cols c [])) (up_to n) ++ cons_if b n []) (member_nil i)
      ∙ append-nil (keep (λ c. member i (get_or cols c [])) (up_to n)) ∙ ap (λ (k : ℕ). keep (λ c. member i (get_or cols c [])) (up_to k)) (sym e)

-- ---- in the memory

module _ (n j i : ℕ) (s : List ℤ) where
  row_room : Room n s → Room n (rowed n j i s)
  unfolding rowed
  row_room r = room_up n 13 _ _ _ (room_up n 12 _ _ _ (room_up n 16 _ _ _ r))

  row_spare : spare n (rowed n j i s) ≡ spare n s
  unfolding rowed
  row_spare = simp mem

  row_col : (q : ℕ) → rd n 15 (rowed n j i s) q ≡ rd n 15 s q
  unfolding rowed
  row_col q = simp mem

  row_wide : length (rowed n j i s) ≡ length s
  unfolding rowed
  row_wide = simp mem

module _ (n : ℕ) (cols : List (List ℕ)) (ptr rows : List ℤ) (source : Stands n (at ptr) (at rows) cols)
    (within : (k i : ℕ) → member i (get_or cols k []) ≡ true → i < n)
    (start len : ℕ → ℕ) (size : ℕ) (small : (i : ℕ) → i < n → start i + len i < 2 ^ 63) (E : ℕ → ℕ) (most : ℕ) where
  -- the memory when the columns before j are done, and the entries `done` of column j
  pub record Visiting (j : ℕ) (done : List ℕ) (s : List ℤ) : Type 0 where
    pub fill : Filled n start len size (rd n 12 s) (rd n 16 s) (seen cols j done)
    pub marks : (i : ℕ) → i < n → eqb (rd n 13 s i) (suc j) ≡ member i done
    pub low : (i : ℕ) → i < n → rd n 13 s i ≤ suc j
    pub room : Room n s
    pub spare_is : spare n s ≡ size
    pub col : (q : ℕ) → rd n 15 s q ≡ E q
    pub wide : length s ≡ most

  module _ (j i : ℕ) (done : List ℕ) (s : List ℤ) (hi : i < n) (v : Visiting j done s) where
    abbrev t : List ℤ
    t = rowed n j i s

    row_filled : Filled n start len size (rd n 12 (rowed n j i s)) (rd n 16 (rowed n j i s)) (upd (seen cols j done) i (seen cols j done i ++ (j ∷ [])))
    unfolding rowed
    row_filled =
        filled_more n start len size small (rd n 12 s) (rd n 16 s)
        (rd n 12 (up n 13 (up n 12 (up n 16 s (rd n 12 s i) j) i (plus (rd n 12 s i) 1)) i (j + 1)))
        (rd n 16 (up n 13 (up n 12 (up n 16 s (rd n 12 s i) j) i (plus (rd n 12 s i) 1)) i (j + 1)))
        (seen cols j done) v.fill i j hi
        (λ u ne. simp mem)
        (λ l. simp (mem, room_yes n s v.room, lt-ltb i n hi) (plus_sum (rd n 12 s i) 1 l ∙ omega arith))
        (λ q ne. simp mem)
        (λ l. simp (mem, lt-ltb (rd n 12 s i) (spare n s) (rw v.spare_is l)))

    mark_at : (u : ℕ) → u < n → (u ≡ i) ⊎ (u ≢ i) → eqb (rd n 13 (rowed n j i s) u) (suc j) ≡ member u (done ++ (i ∷ []))
    unfolding rowed
    mark_at u l (inl e) =
        let q : j + 1 ≡ suc j = omega arith in
        rw (e, member_last i done) (simp (mem, room_yes n s v.room, lt-ltb i n hi) (eq-eqb (j + 1) (suc j) q))
    mark_at u l (inr e) = rw (member_snoc u i done e) (simp mem (v.marks u l))

    low_at : (u : ℕ) → u < n → (u ≡ i) ⊎ (u ≢ i) → rd n 13 (rowed n j i s) u ≤ suc j
    unfolding rowed
    low_at u l (inl e) = rw e (simp (mem, room_yes n s v.room, lt-ltb i n hi) (omega arith))
    low_at u l (inr e) = simp mem (v.low u l)

    rowed_visit : member i done ≡ false → Visiting j (done ++ (i ∷ [])) (rowed n j i s)
    rowed_visit h = record {
      fill = rw (← seen_new cols j done i h) row_filled;
      marks = λ u l. mark_at u l (same? u i);
      low = λ u l. low_at u l (same? u i);
      room = row_room n j i s v.room;
      spare_is = row_spare n j i s ∙ v.spare_is;
      col = λ q. row_col n j i s q ∙ v.col q;
      wide = row_wide n j i s ∙ v.wide;
    }

    old_visit : member i done ≡ true → Visiting j (done ++ (i ∷ [])) s
    old_visit h = record {
      fill = rw (← seen_old cols j done i h) v.fill;
      marks = λ u l. old_mark u l (same? u i);
      low = v.low;
      room = v.room;
      spare_is = v.spare_is;
      col = v.col;
      wide = v.wide;
    }
      where
        old_mark : (u : ℕ) → u < n → (u ≡ i) ⊎ (u ≢ i) → eqb (rd n 13 s u) (suc j) ≡ member u (done ++ (i ∷ []))
        old_mark u l (inl e) = rw (e, member_last i done) (v.marks i hi ∙ h)
        old_mark u l (inr e) = rw (member_snoc u i done e) (v.marks u l)

    visit_by : (b : Bool) → member i done ≡ b → Visiting j (done ++ (i ∷ [])) (visited n j i s)
    unfolding visited
    visit_by true h =
        let q : j + 1 ≡ suc j = omega arith in
        rw (q, v.marks i hi, h) (old_visit h)
    visit_by false h =
        let q : j + 1 ≡ suc j = omega arith in
        let c : eqb (rd n 13 s i) (j + 1) ≡ false = rw q (v.marks i hi ∙ h) in
        rw c (rowed_visit h)

    pub visited_one : Visiting j (done ++ (i ∷ [])) (visited n j i s)
    visited_one = visit_by (member i done) refl

  -- ---- a column

  visited_list : (j : ℕ) (xs done : List ℕ) (s : List ℤ) → ((i : ℕ) → member i xs ≡ true → i < n) → Visiting j done s
      → Visiting j (done ++ xs) (foldl (λ a x. visited n j x a) s xs)
  visited_list j [] done s w v = rw (append-nil done) v
  visited_list j (x ∷ xs) done s w v =
      rw (← append_assoc done (x ∷ []) xs)
      (visited_list j xs (done ++ (x ∷ [])) (visited n j x s) (λ i m. w i (member_there i x xs m)) (visited_one j x done s (w x (member_here x xs)) v))

  next_column : (j : ℕ) (s : List ℤ) → Visiting j (get_or cols j []) s → Visiting (suc j) [] s
  next_column j s v = record {
    fill = rw (← seen_next cols j) v.fill;
    marks = λ i l. ne_eqb (rd n 13 s i) (suc (suc j)) (λ e. omega (arith, v.low i l, e)) ∙ sym (member_nil i);
    low = λ i l. omega (arith, v.low i l);
    room = v.room;
    spare_is = v.spare_is;
    col = v.col;
    wide = v.wide;
  }

  visited_column_lem : (j : ℕ) (s : List ℤ) → j < n → Visiting j [] s → Visiting (suc j) [] (visited_next n ptr rows j s)
  unfolding visited_next visited_column
  visited_column_lem j s hj v =
      let q : j + 1 ≡ suc j = omega arith in
      let c = source.column j hj in
      next_column j (times (at ptr (j + 1) - at ptr j) (λ t. visited n j (at rows (at ptr j + t))) s)
      (rw (q, times_fold (visited n j) (at rows) (at ptr j) (at ptr (suc j) - at ptr j) s, c) (visited_list j (get_or cols j []) [] s (within j) v))

  pub visited_all_lem : (s : List ℤ) → Visiting 0 [] s → Visiting n [] (visited_all n ptr rows s)
  unfolding visited_all
  visited_all_lem s v = times_keeps (λ j x. Visiting j [] x) (visited_next n ptr rows) n (λ j x l r. visited_column_lem j x l r) n s (omega arith) v

  -- every cursor at its list's place, and no row marked
  pub visiting_start : (s : List ℤ) → ((i : ℕ) → i < n → rd n 12 s i ≡ start i) → ((i : ℕ) → i < n → rd n 13 s i ≡ 0) → Room n s → spare n s ≡ size
      → ((q : ℕ) → rd n 15 s q ≡ E q) → length s ≡ most → Visiting 0 [] s
  visiting_start s a b r p c w = record {
    fill = filled_none n start len size (rd n 12 s) (rd n 16 s) (seen cols 0 []) (seen_none cols) a;
    marks = λ i l. rw (b i l) (sym (member_nil i));
    low = λ i l. omega (arith, b i l);
    room = r;
    spare_is = p;
    col = c;
    wide = w;
  }
