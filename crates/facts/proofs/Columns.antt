-- The columns of a pattern that passes the checks of its n, its pointers and its rows: they are the first nnz rows, one part after the other, and all
-- of their entries are below n.
-- Assumes nothing.
use Prim.Native.Nat.{ℕ, zero, suc, ◌+◌, ◌-◌, ◌≤◌, ◌<◌}
use native.Mathlib.Omega.{arith}
use native.Mathlib.Decide.{dec_lt}
use mathlib.Core.Path.{◌≡◌, refl, sym, ap, ◌∙◌}
use mathlib.Core.Bool.{true, false, ◌&&◌, ◌||◌, false≢true}
use mathlib.Core.List.{List, [], ◌∷◌, ◌++◌, map, flat_map, map-append, append-nil}
use lib.IntN.{ℤ, pos, negsuc, nat_abs}
use lib.Signed.{le_z, lt_z}
use lib.Dec.{ltb, leb, eqb}
use lib.ListN.{length, get_or, take, drop, length-map, take-append-drop, get_or-eq_default}
use lib.Seq.{slice, take-take, length-slice, length-take-le, get_or-take}
use borrow.Author.Tests.{ltb-true, ltb-false, leb-true, eqb-true, not-false}
use Rattle.plain.proofs.Logic.{and_left, and_right, or_false_left, or_false_right}
use Rattle.plain.proofs.Members.{no_member, member_cases, member_joined, member_up_to}
use Rattle.plain.proofs.Folds.{every_all, flat_map_append}
use Rattle.plain.proofs.Positions.{get_or_counted, length_counted, all_at}
use Rattle.plain.proofs.Sums.{count_up_snoc, total_up_to, total_map}
use Rattle.plain.specs.Lists.{member, up_to, count_up, every, total}
use Rattle.plain.specs.Members.{All}
use Rattle.definition.specs.Limits.{Limits, outside}
use Rattle.definition.specs.Pattern.{Pattern, column_count, pointer, nnz, column, columns, bad_count, bad_length, bad_first, climbs_from, climbs, bad_order, bad_total, bad_pointers, bad_rows}

-- ---- signed numbers that pass a test

pub count_in : (most : ℕ) (z : ℤ) → outside most z ≡ false → (z ≡ pos (nat_abs z)) × (nat_abs z ≤ most)
unfolding outside
count_in most (pos k) h = (refl, ltb-false most k (or_false_right (ltb k 0) (ltb most k) h))
count_in most (negsuc k) h = absurd (false≢true (sym h))

zero_first : (z : ℤ) → le_z (pos 0) z && le_z z (pos 0) ≡ true → z ≡ pos 0
zero_first (pos k) h = ap pos (omega (arith, leb-true k 0 (and_right (leb 0 k) (leb k 0) h)))
zero_first (negsuc k) h = absurd (false≢true h)

row_in : (n : ℕ) (z : ℤ) → le_z (pos 0) z && lt_z z (pos n) ≡ true → (z ≡ pos (nat_abs z)) × (nat_abs z < n)
row_in n (pos k) h = (refl, ltb-true k n (and_right (leb 0 k) (ltb k n) h))
row_in n (negsuc k) h = absurd (false≢true h)

-- pointers that climb from one not below 0
climbing : (b : ℕ) (xs : List ℤ) → climbs_from (pos b) xs ≡ true → (k : ℕ) → k < length xs → nat_abs (get_or (pos b ∷ xs) k (pos 0)) ≤ nat_abs (get_or xs k (pos 0))
unfolding climbs_from
climbing b [] h k l = absurd (omega arith)
climbing b (pos x ∷ xs) h zero l = leb-true b x (and_left (leb b x) (climbs_from (pos x) xs) h)
climbing b (pos x ∷ xs) h (suc k) l = climbing x xs (and_right (leb b x) (climbs_from (pos x) xs) h) k (omega arith)
climbing b (negsuc x ∷ xs) h k l = absurd (false≢true h)

climbing_is : (b : ℕ) (xs : List ℤ) → climbs_from (pos b) xs ≡ true → (k : ℕ) → get_or xs k (pos 0) ≡ pos (nat_abs (get_or xs k (pos 0)))
unfolding climbs_from
climbing_is b [] h k = refl
climbing_is b (pos x ∷ xs) h zero = refl
climbing_is b (pos x ∷ xs) h (suc k) = climbing_is x xs (and_right (leb b x) (climbs_from (pos x) xs) h) k
climbing_is b (negsuc x ∷ xs) h k = absurd (false≢true h)

-- a list of pointers from 0 on
steps : (xs : List ℤ) → get_or xs 0 (pos 0) ≡ pos 0 → climbs xs ≡ true → (k : ℕ) → suc k < length xs → nat_abs (get_or xs k (pos 0)) ≤ nat_abs (get_or xs (suc k) (pos 0))
unfolding climbs
steps [] f h k l = absurd (omega arith)
steps (x ∷ xs) f h k l =
    omega (arith, ap (λ (z : ℤ). nat_abs (get_or (z ∷ xs) k (pos 0))) f, climbing 0 xs (ap (λ (z : ℤ). climbs_from z xs) (sym f) ∙ h) k (omega arith))

pub step_is : (xs : List ℤ) → get_or xs 0 (pos 0) ≡ pos 0 → climbs xs ≡ true → (k : ℕ) → get_or xs k (pos 0) ≡ pos (nat_abs (get_or xs k (pos 0)))
unfolding climbs
step_is [] f h k = refl
step_is (x ∷ xs) f h zero = f ∙ ap (λ (z : ℤ). pos (nat_abs z)) (sym f)
step_is (x ∷ xs) f h (suc k) = climbing_is 0 xs (ap (λ (z : ℤ). climbs_from z xs) (sym f) ∙ h) k

-- ---- the pattern

pub length_columns : (a : Pattern) → length (columns a) ≡ column_count a
unfolding columns
length_columns a = length_counted (column a) 0 (column_count a)

pub column_at : (a : Pattern) (k : ℕ) → k < column_count a → get_or (columns a) k [] ≡ column a k
unfolding columns
column_at a k l = get_or_counted (column a) [] 0 (column_count a) k l ∙ ap (column a) (omega arith)

column_out : (a : Pattern) (k : ℕ) → column_count a ≤ k → get_or (columns a) k [] ≡ []
column_out a k l = get_or-eq_default (columns a) [] {n = k} (rw (length_columns a) l)

module _ (limits : Limits) (a : Pattern) (counted : bad_count limits a ≡ false) where
  pub count_is : a.n ≡ pos (column_count a)
  unfolding bad_count
  count_is = (count_in limits.most_columns a.n counted).0

  pub count_most : column_count a ≤ limits.most_columns
  unfolding bad_count
  count_most = (count_in limits.most_columns a.n counted).1

module _ (limits : Limits) (a : Pattern) (pointed : bad_pointers limits a ≡ false) where
  rest : bad_first a || (bad_order a || bad_total limits a) ≡ false
  unfolding bad_pointers
  rest = or_false_right (bad_length a) (bad_first a || (bad_order a || bad_total limits a)) pointed

  pub pointer_count : length a.pointers ≡ suc (column_count a)
  unfolding bad_pointers bad_length
  pointer_count =
      eqb-true (length a.pointers) (suc (column_count a))
      (not-false (eqb (length a.pointers) (suc (column_count a))) (or_false_left (bad_length a) (bad_first a || (bad_order a || bad_total limits a)) pointed))

  first : get_or a.pointers 0 (pos 0) ≡ pos 0
  unfolding bad_first
  first =
      zero_first (get_or a.pointers 0 (pos 0))
      (not-false (le_z (pos 0) (get_or a.pointers 0 (pos 0)) && le_z (get_or a.pointers 0 (pos 0)) (pos 0)) (or_false_left (bad_first a) (bad_order a || bad_total limits a) rest))

  order : climbs a.pointers ≡ true
  unfolding bad_order
  order = not-false (climbs a.pointers) (or_false_left (bad_order a) (bad_total limits a) (or_false_right (bad_first a) (bad_order a || bad_total limits a) rest))

  bounded : bad_total limits a ≡ false
  bounded = or_false_right (bad_order a) (bad_total limits a) (or_false_right (bad_first a) (bad_order a || bad_total limits a) rest)

  pub entries_most : nnz a ≤ limits.most_entries
  unfolding bad_total
  entries_most = ltb-false limits.most_entries (nnz a) (or_false_left (ltb limits.most_entries (nnz a)) (ltb (length a.rows) (nnz a)) bounded)

  pub rows_enough : nnz a ≤ length a.rows
  unfolding bad_total
  rows_enough = ltb-false (length a.rows) (nnz a) (or_false_right (ltb limits.most_entries (nnz a)) (ltb (length a.rows) (nnz a)) bounded)

  pub pointer_is : (k : ℕ) → get_or a.pointers k (pos 0) ≡ pos (pointer a k)
  pointer_is k = step_is a.pointers first order k

  pub pointer_first : pointer a 0 ≡ 0
  pointer_first = ap nat_abs first

  pub pointer_step : (k : ℕ) → k < column_count a → pointer a k ≤ pointer a (suc k)
  pointer_step k l = steps a.pointers first order k (omega (arith, pointer_count))

  below_last : (k d : ℕ) → k + d ≡ column_count a → pointer a k ≤ nnz a
  below_last k zero e = let q : k ≡ column_count a = omega arith in rw q (omega arith)
  below_last k (suc d) e = omega (arith, pointer_step k (omega arith), below_last (suc k) d (omega arith))

  pub pointer_most : (k : ℕ) → k ≤ column_count a → pointer a k ≤ nnz a
  pointer_most k l = below_last k (column_count a - k) (omega arith)

  -- ---- the columns are the first nnz rows

  pub length_column : (k : ℕ) → k < column_count a → length (column a k) ≡ pointer a (suc k) - pointer a k
  unfolding column
  length_column k l =
      length-map (slice (pointer a k) (pointer a (suc k)) a.rows) nat_abs
      ∙ length-slice (pointer a k) (pointer a (suc k)) a.rows (omega (arith, pointer_most (suc k) (omega arith), rows_enough))

  columns_before : (c : ℕ) → c ≤ column_count a → total (λ k. length (column a k)) (up_to c) ≡ pointer a c
  unfolding count_up total
  columns_before zero l = sym pointer_first
  columns_before (suc c) l =
      total_up_to (λ k. length (column a k)) c
      ∙ omega (arith, columns_before c (omega arith), length_column c (omega arith), pointer_step c (omega arith))

  pub total_columns : total length (columns a) ≡ nnz a
  unfolding columns
  total_columns = total_map length (column a) (up_to (column_count a)) ∙ columns_before (column_count a) (omega arith)

  joined_before : (c : ℕ) → c ≤ column_count a → flat_map (column a) (up_to c) ≡ map nat_abs (take (pointer a c) a.rows)
  unfolding count_up flat_map column
  joined_before zero l = rw pointer_first
  joined_before (suc c) l =
      let q : 0 + c ≡ c = omega arith in
      ap (flat_map (column a)) (count_up_snoc 0 c)
      ∙ flat_map_append (column a) (up_to c) ((0 + c) ∷ [])
      ∙ ap (λ (x : ℕ). flat_map (column a) (up_to c) ++ (column a x ++ [])) q
      ∙ ap (λ (r : List ℕ). flat_map (column a) (up_to c) ++ r) (append-nil (column a c))
      ∙ ap (λ (r : List ℕ). r ++ column a c)
      (joined_before c (omega arith) ∙ ap (map nat_abs) (sym (take-take (pointer a c) (pointer a (suc c)) a.rows (pointer_step c (omega arith)))))
      ∙ sym (map-append nat_abs (take (pointer a c) (take (pointer a (suc c)) a.rows)) (drop (pointer a c) (take (pointer a (suc c)) a.rows)))
      ∙ ap (map nat_abs) (take-append-drop (pointer a c) (take (pointer a (suc c)) a.rows))

  pub columns_join : flat_map (column a) (up_to (column_count a)) ≡ map nat_abs (take (nnz a) a.rows)
  columns_join = joined_before (column_count a) (omega arith)

  -- ---- and their entries are rows

  module _ (counted : bad_count limits a ≡ false) (ranged : bad_rows a ≡ false) where
    rows_pass : All (λ r. le_z (pos 0) r && lt_z r (pos (column_count a)) ≡ true) (take (nnz a) a.rows)
    unfolding bad_rows
    rows_pass =
        every_all (λ r. le_z (pos 0) r && lt_z r (pos (column_count a))) (take (nnz a) a.rows)
        (ap (λ (z : ℤ). every (λ r. le_z (pos 0) r && lt_z r z) (take (nnz a) a.rows)) (sym (count_is limits a counted))
        ∙ not-false (every (λ r. le_z (pos 0) r && lt_z r a.n) (take (nnz a) a.rows)) ranged)

    -- a row of the pattern, as it came
    pub row_is : (j : ℕ) → j < nnz a → (get_or a.rows j (pos 0) ≡ pos (nat_abs (get_or a.rows j (pos 0)))) × (nat_abs (get_or a.rows j (pos 0)) < column_count a)
    row_is j l =
        row_in (column_count a) (get_or a.rows j (pos 0))
        (ap (λ (z : ℤ). le_z (pos 0) z && lt_z z (pos (column_count a))) (sym (get_or-take (nnz a) a.rows j (pos 0) l))
        ∙ all_at (λ r. le_z (pos 0) r && lt_z r (pos (column_count a)) ≡ true) (take (nnz a) a.rows) (pos 0) rows_pass j (rw (length-take-le (nnz a) a.rows rows_enough) l))

    low : (n : ℕ) (rs : List ℤ) → All (λ r. le_z (pos 0) r && lt_z r (pos n) ≡ true) rs → (i : ℕ) → member i (map nat_abs rs) ≡ true → i < n
    low n [] h i m = no_member i m
    low n (r ∷ rs) h i m = member_cases (i < n) i (nat_abs r) (map nat_abs rs) m (λ e. omega (arith, (row_in n r h.0).1)) (λ ne k. low n rs h.1 i k)

    pub column_inside : (k i : ℕ) → k < column_count a → member i (column a k) ≡ true → i < column_count a
    column_inside k i l m =
        low (column_count a) (take (nnz a) a.rows) rows_pass i
        (ap (member i) (sym columns_join) ∙ member_joined i k (column a) (up_to (column_count a)) (member_up_to k (column_count a) l) m)

    pub columns_inside : (k i : ℕ) → member i (get_or (columns a) k []) ≡ true → i < length (columns a)
    columns_inside k i m = rw (length_columns a) (go (dec_lt k (column_count a)))
      where
        go : Dec (k < column_count a) → i < column_count a
        go (yes l) = column_inside k i l (ap (member i) (sym (column_at a k l)) ∙ m)
        go (no l) = no_member i (ap (member i) (sym (column_out a k (omega arith))) ∙ m)
