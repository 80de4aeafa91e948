-- The space at the start: lists packed by rising number from 0, without a gap, and no table yet. This is what the building of A + A' leaves.
-- Assumes nothing.
use Rattle.std.proofs.Common.{◌≡◌, ℕ, ◌+◌, ◌<◌, ◌≤◌, ◌⊎◌, List, [], length, get_or, ℤ, sym, ap, ◌∙◌, inl, inr, arith}
use lib.ListN.{get_or-eq_default}
use Rattle.plain.proofs.Entries.{counted_whole, entries_none}
use Rattle.plain.proofs.Sums.{total_map}
use Rattle.plain.specs.Lists.{total, up_to}
use Rattle.plain.specs.Turns.{entries}
use Rattle.cells.proofs.Fields.{rd_null}
use Rattle.cells.proofs.Slices.{split}
use Rattle.cells.specs.Layout.{LEN, PE}
use Rattle.cells.specs.View.{Room, at, rd}
use Rattle.packed.specs.Places.{Owns, Space, places, sum_to}
use Rattle.packed.proofs.Packing.{live_below}
use Rattle.packed.proofs.Spaces.{space_start}
use Rattle.packed.proofs.Sums.{sum_apart}

module _ (n : ℕ) (X : ℕ → List ℕ) (l s : List ℤ) (room : Room n s) (none : (i : ℕ) → n ≤ i → X i ≡ [])
    (len : (i : ℕ) → i < n → rd n LEN s i ≡ length (X i)) (place : (i : ℕ) → i < n → rd n PE s i ≡ sum_to i (λ j. length (X j)))
    (there : (i : ℕ) → i < n → entries (at l) (sum_to i (λ j. length (X j))) (length (X i)) ≡ X i) (fits : sum_to n (λ j. length (X j)) ≤ length l) where
  abbrev L : ℕ → ℕ
  L i = length (X i)

  list : (i : ℕ) → (i < n) ⊎ (n ≤ i) → entries (at l) (rd n PE s i) (rd n LEN s i) ≡ X i
  list i (inl a) = rw (place i a, len i a) (there i a)
  list i (inr a) = rw (rd_null n LEN s i (omega arith) a, none i a) (entries_none (at l) (rd n PE s i))

  behind : (i j : ℕ) → i < j → 0 < rd n LEN s i → 0 < rd n LEN s j → rd n PE s i + rd n LEN s i ≤ rd n PE s j
  behind i j a x y =
      let b = live_below n s i x in
      let c = live_below n s j y in
      omega (arith, place i b, len i b, place j c, sum_apart j L i a)

  owner : (i j q : ℕ) → Owns (places n s) i q → Owns (places n s) j q → (i < j) ⊎ (j ≤ i) → (j < i) ⊎ (i ≤ j) → i ≡ j
  owner i j q o w (inl a) b = absurd (omega (arith, o.from, o.to, w.from, w.to, behind i j a (omega (arith, o.from, o.to)) (omega (arith, w.from, w.to))))
  owner i j q o w (inr a) (inl b) = absurd (omega (arith, o.from, o.to, w.from, w.to, behind j i b (omega (arith, w.from, w.to)) (omega (arith, o.from, o.to))))
  owner i j q o w (inr a) (inr b) = omega arith

  pub space_packed : Space n X l s 0 (sum_to n L) (sum_to n L)
  space_packed =
      space_start n X l s (sum_to n L)
      record {
        lists = λ i. list i (split i n);
        one = λ i j q o w. owner i j q o w (split i j) (split j i);
        under = λ j q o.
            let b = live_below n s j (omega (arith, o.from, o.to)) in
            omega (arith, o.to, place j b, len j b, sum_apart n L j b);
        fits = fits;
      }
      room behind

-- the same of the rows of a graph
module _ (n : ℕ) (A : List (List ℕ)) (l s : List ℤ) (room : Room n s) (size : length A ≡ n) (list : (v : ℕ) → v < n → entries (at l) (rd n PE s v) (rd n LEN s v) ≡ get_or A v [])
    (place : (v : ℕ) → v < n → rd n PE s v ≡ sum_to v (λ u. length (get_or A u []))) (count : (v : ℕ) → v < n → rd n LEN s v ≡ length (get_or A v [])) (fits : total length A ≤ length l) where
  pub rows_sum : sum_to n (λ v. length (get_or A v [])) ≡ total length A
  rows_sum =
      ap (λ (k : ℕ). total (λ v. length (get_or A v [])) (up_to k)) (sym size)
      ∙ sym (total_map length (λ v. get_or A v []) (up_to (length A))) ∙ ap (total length) (counted_whole A [])

  pub space_rows : Space n (λ v. get_or A v []) l s 0 (total length A) (total length A)
  space_rows =
      rw (← rows_sum)
      (space_packed n (λ v. get_or A v []) l s room (λ i a. get_or-eq_default A [] (omega (arith, size))) count place
      (λ i a. rw (← place i a, ← count i a) (list i a)) (omega (arith, rows_sum)))
