-- What each function does to the memory: the code's own steps, as functions. The laws of `proofs/` say what these mean for the lists.
-- Assumes nothing.
use Rattle.std.specs.Prelude.{ℕ, ◌+◌, cond, List, length, ℤ, nat_lt}
use Rattle.plain.specs.Turns.{times}
use Rattle.cells.specs.Layout.{LEN, MERGES, NV, ORD, PE, TMP}
use Rattle.cells.specs.Links.{hang, named}
use Rattle.cells.specs.Rows.{clipped}
use Rattle.cells.specs.View.{at, plus, rd, up, wr}
use Rattle.packed.specs.Places.{due, places}

-- ---- the collection

-- the k numbers from p on, moved to e on, first the first
unfoldable pub copied : ℕ → ℕ → ℕ → List ℤ → List ℤ
copied p e k l = times k (λ t m. wr m (e + t) (at m (p + t))) l

-- the list space, the scratch and the end of what is packed
pub record Heap : Type 0 where
  pub lists : List ℤ
  pub mem : List ℤ
  pub end : ℕ

abbrev pub heap : List ℤ → List ℤ → ℕ → Heap
heap l s e = record { lists = l; mem = s; end = e }

-- object j's list, k numbers, moved down to the end of what is packed
unfoldable pub moved_down : ℕ → ℕ → ℕ → Heap → Heap
moved_down n j k m =
    heap (copied (rd n PE m.mem j) m.end k m.lists) (up n PE m.mem j m.end) (plus m.end k)

unfoldable pub moved_one : ℕ → ℕ → ℕ → Heap → Heap
moved_one n top j m =
    cond (nat_lt 0 (due (places n m.mem) top j)) (moved_down n j (due (places n m.mem) top j) m) m

-- the objects by number
unfoldable pub moved_low : ℕ → ℕ → ℕ → Heap → Heap
moved_low n top k m = times k (moved_one n top) m

-- the object that the table has at t
unfoldable pub moved_next : ℕ → ℕ → ℕ → Heap → Heap
moved_next n top t m = moved_one n top (rd n ORD m.mem t) m

unfoldable pub moved_new : ℕ → ℕ → ℕ → Heap → Heap
moved_new n top k m = times k (moved_next n top) m

-- the whole: first what begins below base, by number, then what the table has
unfoldable pub packed_low : ℕ → ℕ → List ℤ → List ℤ → Heap
packed_low n base l s = moved_low n base n (heap l s 0)

unfoldable pub packed_all : ℕ → ℕ → ℕ → ℕ → List ℤ → List ℤ → Heap
packed_all n base lim cnt l s = moved_new n lim cnt (packed_low n base l s)

-- ---- a list laid at a place

-- the first k numbers of the scratch table, copied to e on, as far as there are cells
unfoldable pub laid : ℕ → List ℤ → ℕ → ℕ → List ℤ → List ℤ
laid n s e k l = times (clipped (length l) e k) (λ t m. wr m (e + t) (rd n TMP s t)) l

-- object j, with k numbers from e on, is the last of the order
unfoldable pub entered : ℕ → List ℤ → ℕ → ℕ → ℕ → ℕ → List ℤ
entered n s cnt j e k = up n ORD (up n LEN (up n PE s j e) j k) cnt j

-- ---- a row that goes to another

-- the weight of row goes to `to`; row has no list any more, hangs from it, and is number log of the log
unfoldable pub joined_row : ℕ → ℕ → ℕ → ℕ → List ℤ → List ℤ
joined_row n to row log s =
    up n MERGES (hang n (up n LEN (up n NV (up n NV s to (plus (rd n NV s to) (rd n NV s row))) row 0) row 0) row (named n to)) log row
