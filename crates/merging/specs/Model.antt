-- What each function does to the memory, step by step: the code's own steps, as functions. The laws of `proofs/` say what these mean for the graph.
-- Assumes nothing.
use Rattle.std.specs.Prelude.{ℕ, zero, suc, ◌+◌, ◌-◌, ◌<◌, ◌^◌, Bool, false, cond, List, eqb, ltb, ℤ, length}
use Rattle.plain.specs.Lists.{every}
use Rattle.plain.specs.Turns.{entries, times}
use Rattle.cells.specs.Layout.{ELEN, HHEAD, HKEY, HNEXT, LEN, MERGES, NV, PE, W}
use Rattle.cells.specs.Links.{hang, named}
use Rattle.cells.specs.Rows.{clipped}
use Rattle.cells.specs.View.{at, plus, rd, up}
use Rattle.merging.specs.declared.Tally.{Tally}
use Rattle.merging.specs.declared.Trail.{Trail}

-- ---- marks

-- the rows in the k cells from p on, as far as they are there, are marked
unfoldable pub marking : List ℤ → ℕ → ℕ → ℕ → ℕ → List ℤ → List ℤ
marking l n flag p k s = times (clipped (length l) p k) (λ t m. up n W m (at l (p + t)) flag) s

-- the entries of i's list after the first are
unfoldable pub marked_list : List ℤ → ℕ → ℕ → ℕ → List ℤ → List ℤ
marked_list l n flag i s = marking l n flag (rd n PE s i + 1) (rd n LEN s i - 1) s

-- ---- the comparison

-- x is marked
abbrev pub has_mark : ℕ → List ℤ → ℕ → ℕ → Bool
has_mark n s flag x = eqb (rd n W s x) flag

-- the rows in the k cells from p on, as far as they are there, are all marked
unfoldable pub all_marked : List ℤ → ℕ → List ℤ → ℕ → ℕ → ℕ → Bool
all_marked l n s p k flag = every (has_mark n s flag) (entries (at l) p (clipped (length l) p k))

-- the entries of j's list after the first, its length being len, are
unfoldable pub tail_marked : List ℤ → ℕ → List ℤ → ℕ → ℕ → ℕ → Bool
tail_marked l n s j len flag = all_marked l n s (rd n PE s j + 1) (len - 1) flag

-- and it has elen elements
unfoldable pub same_elements : List ℤ → ℕ → List ℤ → ℕ → ℕ → ℕ → ℕ → Bool
same_elements l n s j len elen flag = cond (eqb elen (rd n ELEN s j)) (tail_marked l n s j len flag) false

-- j has the list whose entries are marked, of length len with elen elements
unfoldable pub alike_now : List ℤ → ℕ → List ℤ → ℕ → ℕ → ℕ → ℕ → Bool
alike_now l n s j len elen flag = cond (eqb len (rd n LEN s j)) (same_elements l n s j (rd n LEN s j) elen flag) false

-- ---- a merge

-- the weight of j goes to i
unfoldable pub weighed : ℕ → List ℤ → ℕ → ℕ → List ℤ
weighed n s i j = up n NV (up n NV s i (plus (rd n NV s i) (rd n NV s j))) j 0

-- j has no list any more, and hangs from i
unfoldable pub left : ℕ → List ℤ → ℕ → ℕ → List ℤ
left n s i j = hang n (up n LEN s j 0) j (named n i)

unfoldable pub joined : ℕ → List ℤ → ℕ → ℕ → ℕ → List ℤ
joined n s i j log = up n MERGES (left n (weighed n s i j) i j) log j

-- ---- a bucket

-- the walk stands behind a row, and its numbers fit a cell
pub record Slight (n : ℕ) (w : Trail) : Type 0 where
  pub last : w.last < n
  pub next : w.next < 2 ^ 63
  pub logged : w.logged < 2 ^ 63

-- the scratch, and where the walk stands
pub record Comparing : Type 0 where
  pub mem : List ℤ
  pub walk : Trail

abbrev pub comparing : List ℤ → Trail → Comparing
comparing s w = record { mem = s; walk = w }

-- the scratch, and the numbers beside it
pub record Merging : Type 0 where
  pub mem : List ℤ
  pub tally : Tally

abbrev pub merging : List ℤ → Tally → Merging
merging s t = record { mem = s; tally = t }

-- the next row, which x stands behind, is merged into i and leaves the bucket
unfoldable pub taken_next : ℕ → ℕ → ℕ → Comparing → Comparing
taken_next n i x m =
    comparing (up n HNEXT (joined n m.mem i m.walk.next m.walk.logged) m.walk.last x)
    (record { last = m.walk.last; next = x; logged = plus m.walk.logged 1 })

-- it is passed by
unfoldable pub passed_next : ℕ → Comparing → Comparing
passed_next x m = comparing m.mem (record { last = m.walk.next; next = x; logged = m.walk.logged })

-- the one or the other, the list of i being of length len with elen elements
unfoldable pub compared : List ℤ → ℕ → ℕ → ℕ → ℕ → ℕ → Comparing → Comparing
compared l n i len elen flag m =
    cond (alike_now l n m.mem m.walk.next len elen flag)
    (taken_next n i (rd n HNEXT m.mem m.walk.next) m) (passed_next (rd n HNEXT m.mem m.walk.next) m)

-- the rows from the next on, at most k
unfoldable pub followers : List ℤ → ℕ → ℕ → ℕ → ℕ → ℕ → ℕ → Comparing → Comparing
followers l n i len elen flag zero m = m
followers l n i len elen flag (suc k) m = cond (ltb m.walk.next n) (followers l n i len elen flag k (compared l n i len elen flag m)) m

-- what a walk leaves
abbrev pub walked : ℕ → Comparing → Merging
walked flag m = merging m.mem (record { flag = flag; logged = m.walk.logged })

-- those behind i, from x on
unfoldable pub merged_into : List ℤ → ℕ → ℕ → ℕ → ℕ → Merging → Merging
merged_into l n k i x m =
    walked m.tally.flag
    (followers l n i (rd n LEN m.mem i) (rd n ELEN m.mem i) m.tally.flag k (comparing m.mem (record { last = i; next = x; logged = m.tally.logged })))

-- one more flag is used
abbrev pub flagged : Merging → Merging
flagged m = merging m.mem (record { flag = plus m.tally.flag 1; logged = m.tally.logged })

-- row i takes those behind it, from x on, that have its list
unfoldable pub merged_at : List ℤ → ℕ → ℕ → ℕ → ℕ → Merging → Merging
merged_at l n k i x m = flagged (merged_into l n k i x (merging (marked_list l n m.tally.flag i m.mem) m.tally))

-- the rows of a bucket from i on, at most c, as long as there is anybody behind
unfoldable pub bucket_run : List ℤ → ℕ → ℕ → ℕ → ℕ → Merging → Merging
bucket_run l n k zero i m = m
bucket_run l n k (suc c) i m =
    let m' = merged_at l n k i (rd n HNEXT m.mem i) m in
    cond (ltb i n) (cond (ltb (rd n HNEXT m.mem i) n) (bucket_run l n k c (rd n HNEXT m'.mem i) m') m) m

-- ---- all buckets

-- the bucket of a key, if there is one
unfoldable pub merged_key : List ℤ → ℕ → ℕ → ℕ → Merging → Merging
merged_key l n k key m = cond (ltb key n) (bucket_run l n k k (rd n HHEAD m.mem key) (merging (up n HHEAD m.mem key n) m.tally)) m

-- the bucket of row i, if it is still there
unfoldable pub merged_of : List ℤ → ℕ → ℕ → ℕ → Merging → Merging
merged_of l n k i m = cond (ltb 0 (rd n NV m.mem i)) (merged_key l n k (rd n HKEY m.mem i) m) m

unfoldable pub merged_row : List ℤ → ℕ → ℕ → ℕ → Merging → Merging
merged_row l n k q m = merged_of l n k (at l q) m

-- the buckets of the rows in the k cells from `from` on, as far as they are there
unfoldable pub merged_rows : List ℤ → ℕ → ℕ → ℕ → Merging → Merging
merged_rows l n from k m = times (clipped (length l) from k) (λ t. merged_row l n k (from + t)) m
