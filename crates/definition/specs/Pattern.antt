-- Document 01, "The piece of work", on the pattern, and of "Answers" what is said of the pattern alone. Its pointers are the pattern's own.
-- Assumes nothing.
use Rattle.std.specs.Prelude.{ℕ, suc, Bool, true, not, ◌&&◌, ◌||◌, List, [], ◌∷◌, map, ℤ, pos, nat_abs, ltb, eqb, length, get_or, take}
use Rattle.std.specs.Int.Signed.{le_z, lt_z}
use Rattle.std.proofs.Math.Seq.{slice}
use Rattle.plain.specs.Lists.{up_to, every, rises}
use Rattle.definition.specs.Limits.{Limits, outside}

-- "A pattern is n columns: a slice of 32-bit signed pointers, and a slice of 32-bit signed row numbers."
pub record Pattern : Type 0 where
  pub n : ℤ
  pub pointers : List ℤ
  pub rows : List ℤ

-- n as a number, where it is not below 0
abbrev pub column_count : Pattern → ℕ
column_count a = nat_abs a.n

-- pointer k as a number, where the pointers are accepted
abbrev pub pointer : Pattern → ℕ → ℕ
pointer a k = nat_abs (get_or a.pointers k (pos 0))

-- "Call the last pointer nnz."
abbrev pub nnz : Pattern → ℕ
nnz a = pointer a (column_count a)

-- "Column k owns the rows from pointer k up to pointer k+1."
unfoldable pub column : Pattern → ℕ → List ℕ
column a k = map nat_abs (slice (pointer a k) (pointer a (suc k)) a.rows)

-- the n columns, in order
unfoldable pub columns : Pattern → List (List ℕ)
columns a = map (column a) (up_to (column_count a))

-- "some column has a row not above the row before it (jumbled)"
unfoldable pub jumbled : List (List ℕ) → Bool
jumbled cols = not (every rises cols)

-- ---- what a pattern is refused for

-- answer 2: "n below 0 or above 2,000,000"
unfoldable pub bad_count : Limits → Pattern → Bool
bad_count limits a = outside limits.most_columns a.n

-- "pointer slice not of length n+1"
unfoldable pub bad_length : Pattern → Bool
bad_length a = not (eqb (length a.pointers) (suc (column_count a)))

-- "first pointer not 0"
unfoldable pub bad_first : Pattern → Bool
bad_first a = not (le_z (pos 0) (get_or a.pointers 0 (pos 0)) && le_z (get_or a.pointers 0 (pos 0)) (pos 0))

-- no number is below the one before it, the first not below b
unfoldable pub climbs_from : ℤ → List ℤ → Bool
climbs_from b [] = true
climbs_from b (x ∷ xs) = le_z b x && climbs_from x xs

-- no number is below the one before it
unfoldable pub climbs : List ℤ → Bool
climbs [] = true
climbs (x ∷ xs) = climbs_from x xs

-- "a pointer below the one before it"
unfoldable pub bad_order : Pattern → Bool
bad_order a = not (climbs a.pointers)

-- "nnz above 20,000,000, or nnz above the length of the row slice"
unfoldable pub bad_total : Limits → Pattern → Bool
bad_total limits a = ltb limits.most_entries (nnz a) || ltb (length a.rows) (nnz a)

-- answer 5, its faults in the order of document 01's sentence
unfoldable pub bad_pointers : Limits → Pattern → Bool
bad_pointers limits a = bad_length a || (bad_first a || (bad_order a || bad_total limits a))

-- answer 6: "one of the first nnz rows below 0, or n or more". "Rows past nnz are never looked at."
unfoldable pub bad_rows : Pattern → Bool
bad_rows a = not (every (λ r. le_z (pos 0) r && lt_z r a.n) (take (nnz a) a.rows))
