-- What each function does to the memory: the code's own steps, as functions. The laws of `proofs/` say what these mean for columns and neighbours.
-- Assumes nothing.
use Rattle.std.specs.Prelude.{ℕ, ◌+◌, ◌-◌, Bool, cond, List, eqb, ltb, ℤ}
use Rattle.plain.specs.Turns.{times}
use Rattle.cells.specs.Layout.{PE, LEN, SP, TP, COLUMN, ENTRY}
use Rattle.cells.specs.View.{at, wr, rd, up, plus}
use Rattle.pattern.specs.Reach.{reach, past}

-- ---- an orderly pattern is copied as it is

unfoldable pub copied_pointer : ℕ → List ℤ → ℕ → List ℤ → List ℤ
copied_pointer n ptr k s = up n COLUMN s k (at ptr k)

unfoldable pub copied_pointers : ℕ → List ℤ → List ℤ → List ℤ
copied_pointers n ptr s = times (n + 1) (copied_pointer n ptr) s

unfoldable pub copied_row : ℕ → List ℤ → ℕ → List ℤ → List ℤ
copied_row n rows p s = up n ENTRY s p (at rows p)

unfoldable pub copied_rows : ℕ → List ℤ → ℕ → List ℤ → List ℤ
copied_rows n rows k s = times k (copied_row n rows) s

unfoldable pub copied : ℕ → List ℤ → List ℤ → List ℤ → List ℤ
copied n ptr rows s = copied_rows n rows (at ptr n) (copied_pointers n ptr s)

-- ---- a jumbled one is transposed, without repeats: a pass over it with every cursor at 0 counts, and a second one, from each row's place, writes

-- no entry yet, and no column had the row
unfoldable pub cleared : ℕ → ℕ → List ℤ → List ℤ
cleared n i s = up n TP (up n SP s i 0) i 0

unfoldable pub cleared_all : ℕ → List ℤ → List ℤ
cleared_all n s = times n (cleared n) s

-- column j at row i's cursor
unfoldable pub rowed : ℕ → ℕ → ℕ → List ℤ → List ℤ
rowed n j i s = up n TP (up n SP (up n ENTRY s (rd n SP s i) j) i (plus (rd n SP s i) 1)) i (j + 1)

-- the same where it is not there yet
unfoldable pub visited : ℕ → ℕ → ℕ → List ℤ → List ℤ
visited n j i s = cond (eqb (rd n TP s i) (j + 1)) s (rowed n j i s)

-- the k entries of column j that begin at p
unfoldable pub visited_column : ℕ → List ℤ → ℕ → ℕ → ℕ → List ℤ → List ℤ
visited_column n rows j p k s = times k (λ t. visited n j (at rows (p + t))) s

unfoldable pub visited_next : ℕ → List ℤ → List ℤ → ℕ → List ℤ → List ℤ
visited_next n ptr rows j s = visited_column n rows j (at ptr j) (at ptr (j + 1) - at ptr j) s

unfoldable pub visited_all : ℕ → List ℤ → List ℤ → List ℤ → List ℤ
visited_all n ptr rows s = times n (visited_next n ptr rows) s

-- the scratch, and the next free place
pub record Spot : Type 0 where
  pub mem : List ℤ
  pub free : ℕ

abbrev pub spot : List ℤ → ℕ → Spot
spot s a = record { mem = s; free = a }

-- row i's count becomes its place
unfoldable pub placed_row : ℕ → ℕ → Spot → Spot
placed_row n i m =
    spot (up n TP (up n SP (up n COLUMN m.mem i m.free) i m.free) i 0) (plus m.free (rd n SP m.mem i))

unfoldable pub placed_rows : ℕ → List ℤ → Spot
placed_rows n s = times n (placed_row n) (spot s 0)

unfoldable pub closed_rows : ℕ → Spot → List ℤ
closed_rows n m = up n COLUMN m.mem n m.free

unfoldable pub transposed : ℕ → List ℤ → List ℤ → List ℤ → List ℤ
transposed n ptr rows s = visited_all n ptr rows (closed_rows n (placed_rows n (visited_all n ptr rows (cleared_all n s))))

unfoldable pub tidied : ℕ → List ℤ → List ℤ → Bool → List ℤ → List ℤ
tidied n ptr rows jumbled s = cond jumbled (transposed n ptr rows s) (copied n ptr rows s)

-- ---- the lists of A+A': again a pass with every cursor at 0 counts, and a second one, from each list's place, writes

-- the list space and the scratch
pub record Heap : Type 0 where
  pub lists : List ℤ
  pub mem : List ℤ

abbrev pub heap : List ℤ → List ℤ → Heap
heap l s = record { lists = l; mem = s }

-- x at the cursor of i
unfoldable pub added : ℕ → ℕ → ℕ → Heap → Heap
added n i x h = heap (wr h.lists (rd n SP h.mem i) x) (up n SP h.mem i (plus (rd n SP h.mem i) 1))

-- i and j become neighbours
unfoldable pub paired : ℕ → ℕ → ℕ → Heap → Heap
paired n i j h = added n j i (added n i j h)

-- the entry of column j at place p, if it is a row; and those from p on, before q
unfoldable pub paired_at : ℕ → ℕ → ℕ → Heap → Heap
paired_at n j p h = cond (ltb (rd n ENTRY h.mem p) n) (paired n (rd n ENTRY h.mem p) j h) h

unfoldable pub paired_part : ℕ → ℕ → ℕ → ℕ → Heap → Heap
paired_part n j p q h = times (q - p) (λ t. paired_at n j (p + t)) h

-- where the scan of column j stops before row k, begun at p; and where it goes on, past row k
unfoldable pub stop_of : ℕ → List ℤ → ℕ → ℕ → ℕ → ℕ
stop_of n s j k p = reach (rd n ENTRY s) k p (rd n COLUMN s (j + 1))

unfoldable pub next_of : ℕ → List ℤ → ℕ → ℕ → ℕ → ℕ
next_of n s j k p = past (rd n ENTRY s) k (stop_of n s j k p) (rd n COLUMN s (j + 1))

-- the scan position of column j
unfoldable pub marked : ℕ → ℕ → ℕ → Heap → Heap
marked n j p h = heap h.lists (up n TP h.mem j p)

-- what waits in column j before row k is paired
unfoldable pub passed : ℕ → ℕ → ℕ → Heap → Heap
passed n j k h =
    let p = rd n TP h.mem j in
    marked n j (next_of n h.mem j k p) (paired_part n j p (stop_of n h.mem j k p) h)

-- row j of column k, above the diagonal; and those in its places from p on, before q
unfoldable pub met : ℕ → ℕ → ℕ → Heap → Heap
met n k j h = passed n j k (paired n j k h)

unfoldable pub met_at : ℕ → ℕ → ℕ → Heap → Heap
met_at n k p h = met n k (rd n ENTRY h.mem p) h

unfoldable pub met_part : ℕ → ℕ → ℕ → ℕ → Heap → Heap
met_part n k p q h = times (q - p) (λ t. met_at n k (p + t)) h

unfoldable pub met_column : ℕ → ℕ → Heap → Heap
met_column n k h =
    let p = rd n COLUMN h.mem k in
    marked n k (next_of n h.mem k k p) (met_part n k p (stop_of n h.mem k k p) h)

unfoldable pub met_columns : ℕ → Heap → Heap
met_columns n h = times n (met_column n) h

-- what still waits in column j
unfoldable pub met_rest : ℕ → ℕ → Heap → Heap
met_rest n j h = paired_part n j (rd n TP h.mem j) (rd n COLUMN h.mem (j + 1)) h

unfoldable pub met_rests : ℕ → Heap → Heap
met_rests n h = times n (met_rest n) h

unfoldable pub scanned : ℕ → Heap → Heap
scanned n h = met_rests n (met_columns n h)

unfoldable pub emptied : ℕ → ℕ → List ℤ → List ℤ
emptied n i s = up n SP s i 0

unfoldable pub emptied_all : ℕ → List ℤ → List ℤ
emptied_all n s = times n (emptied n) s

-- row i's count becomes its length, its place and its cursor
unfoldable pub placed_list : ℕ → ℕ → Spot → Spot
placed_list n i m =
    spot (up n SP (up n PE (up n LEN m.mem i (rd n SP m.mem i)) i m.free) i m.free) (plus m.free (rd n SP m.mem i))

unfoldable pub placed_lists : ℕ → List ℤ → Spot
placed_lists n s = times n (placed_list n) (spot s 0)

-- the whole: what is counted, where it is placed, and what is written
unfoldable pub counted : ℕ → List ℤ → List ℤ → Heap
counted n l s = scanned n (heap l (emptied_all n s))

unfoldable pub placed : ℕ → Heap → Spot
placed n h = placed_lists n h.mem

unfoldable pub built : ℕ → List ℤ → List ℤ → Heap
built n l s = scanned n (heap (counted n l s).lists (placed n (counted n l s)).mem)

unfoldable pub built_free : ℕ → List ℤ → List ℤ → ℕ
built_free n l s = (placed n (counted n l s)).free
