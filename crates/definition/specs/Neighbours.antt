-- "Each row starts with its neighbours in A+A', no diagonal, no repeats, in the order in which `amd_1.rs` writes them".
-- Each pair (i, j) is met once, and then each of the two is written at the end of the other's list. So the lists follow from the order of the pairs.
-- Assumes nothing.
use Rattle.std.specs.Prelude.{ℕ, not, ltb, eqb, length, get_or, set, replicate}
use mathlib.Core.List.{List, [], ◌∷◌, ◌++◌, map, foldl, flat_map}
use Rattle.plain.specs.Lists.{up_to, leading, trailing, cons_if}

-- two rows that are neighbours in A+A'
pub record Pair : Type 0 where
  pub one : ℕ
  pub other : ℕ

-- the pair (i, j)
abbrev pub pair : ℕ → ℕ → Pair
pair i j = record { one = i; other = j }

-- the pairs met so far, in order, and of each column passed the rows below the diagonal that are not met yet
pub record Scan : Type 0 where
  pub met : List Pair
  pub waiting : List (List ℕ)

-- the list without k, where k stands first
unfoldable pub skip : ℕ → List ℕ → List ℕ
skip k [] = []
skip k (x ∷ xs) = cons_if (not (eqb x k)) x xs

-- the rows of a column above the diagonal, or of what waits those before k
unfoldable pub above : ℕ → List ℕ → List ℕ
above k col = leading (λ i. ltb i k) col

-- the rows of a column below the diagonal: what is left of it, with k passed over
unfoldable pub below : ℕ → List ℕ → List ℕ
below k col = skip k (trailing (λ i. ltb i k) col)

-- Row j of column k, above the diagonal: the pair (j, k). Then the rows that wait in column j, up to k: those before k are in no column above the
-- diagonal and make pairs, and k itself is this same pair.
unfoldable pub meet : ℕ → Scan → ℕ → Scan
meet k m j = record {
  met = m.met ++ (pair j k ∷ map (λ i. pair i j) (above k (get_or m.waiting j [])));
  waiting = set m.waiting j (below k (get_or m.waiting j []));
}

-- column k: each row above the diagonal is met in turn, and what stands below waits
unfoldable pub meet_column : List (List ℕ) → Scan → ℕ → Scan
meet_column cols m k =
    let r = foldl (meet k) m (above k (get_or cols k [])) in
    record { met = r.met; waiting = set r.waiting k (below k (get_or cols k [])) }

-- the columns in order
unfoldable pub scanned : List (List ℕ) → Scan
scanned cols = foldl (meet_column cols) (record { met = []; waiting = replicate (length cols) [] }) (up_to (length cols))

-- what still waits in column j
unfoldable pub left_over : Scan → ℕ → List Pair
left_over m j = map (λ i. pair i j) (get_or m.waiting j [])

-- every pair in the order in which it is met: by the columns, then what waits at the end, column by column
unfoldable pub all_pairs : List (List ℕ) → List Pair
all_pairs cols = let m = scanned cols in m.met ++ flat_map (left_over m) (up_to (length cols))

-- what the pairs write into the list of row v
unfoldable pub written : ℕ → List Pair → List ℕ
written v [] = []
written v (p ∷ ps) = cons_if (eqb v p.one) p.other (cons_if (eqb v p.other) p.one (written v ps))

-- the neighbours of each row, in the order in which they are written
unfoldable pub neighbours : List (List ℕ) → List (List ℕ)
neighbours cols = let ps = all_pairs cols in map (λ v. written v ps) (up_to (length cols))
