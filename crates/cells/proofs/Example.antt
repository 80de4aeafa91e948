-- How `mem` is used, one line for each combination of a store and a read.
-- Assumes nothing.
use Prim.Native.Nat.{ℕ, ◌<◌, ◌≤◌}
use mathlib.Core.Path.{◌≡◌}
use mathlib.Core.Logic.{◌≢◌}
use mathlib.Core.List.{List}
use mathlib.Core.Option.{Option, none}
use borrow.Author.Tests.{lt-ltb, le-leb}
use lib.IntN.{ℤ}
use lib.ListN.{length}
use Rattle.cells.specs.Layout.{PE, LEN, NEXT, LAST, HEAD, NV, COLUMN, ENTRY}
use Rattle.cells.specs.View.{at, wr, rd, up, Room, spare}
use Rattle.cells.specs.Links.{parent, hang}
use Rattle.cells.proofs.Laws.{mem, room_yes}

module _ (n : ℕ) (s : List ℤ) (i j k v w : ℕ) (p : Option ℕ) where
  -- node field against node field, table, pattern and parent, each way
  other_field : rd n LEN (up n NEXT (up n HEAD (up n COLUMN (up n ENTRY (hang n s i p) k v) j v) i w) i v) i ≡ rd n LEN s i
  other_field = simp mem

  other_table : rd n NV (hang n (up n PE (up n HEAD (up n ENTRY s i v) i w) i v) j p) i ≡ rd n NV s i
  other_table = simp mem

  of_pattern : rd n ENTRY (up n COLUMN (up n PE (up n HEAD (hang n s i p) i v) i v) i v) j ≡ rd n ENTRY s j
  of_pattern = simp mem

  of_parent : parent n (up n LEN (up n HEAD (up n ENTRY s i v) k v) i v) i ≡ parent n s i
  of_parent = simp mem

  -- another place of the same field, with the inequality either way round
  other_cell : i ≢ j → k ≢ j → rd n NEXT (up n NEXT (up n NEXT (hang n s j p) k w) i v) j ≡ rd n NEXT s j
  other_cell d e = simp mem

  other_cell' : j ≢ i → j ≢ k → rd n PE (up n PE (hang n (up n PE s i w) k p) i v) j ≡ rd n PE s j
  other_cell' d e = simp mem

  -- the same place
  same_cell : Room n s → i < n → i ≢ j → rd n LAST (up n NEXT (up n LAST (up n LAST (hang n s i p) i v) j w) i k) i ≡ v
  same_cell r h d = simp (mem, room_yes n s r, lt-ltb i n h)

  same_table : Room n s → i < n → rd n HEAD (up n LAST (hang n (up n HEAD (up n LEN s i k) i v) i p) i w) i ≡ v
  same_table r h = simp (mem, room_yes n s r, lt-ltb i n h)

  same_column : Room n s → i ≤ n → rd n COLUMN (up n ENTRY (up n COLUMN s i v) j w) i ≡ v
  same_column r h = simp (mem, room_yes n s r, le-leb i n h)

  same_entry : i < spare n s → rd n ENTRY (up n COLUMN (up n ENTRY (up n PE s j w) i v) j w) i ≡ v
  same_entry h = simp (mem, lt-ltb i (spare n s) h)

  same_parent : Room n s → i < n → parent n (up n LEN (hang n (up n PE s i w) i p) i 0) i ≡ p
  same_parent r h = simp (mem, room_yes n s r, lt-ltb i n h)

  -- a place and a parent of one object drive each other out
  no_place : rd n PE (up n LEN (hang n s i p) i 0) i ≡ 0
  no_place = simp mem

  no_parent : parent n (up n LEN (up n PE s i v) i w) i ≡ none
  no_parent = simp mem

  -- the list space
  of_lists : i ≢ j → i < length s → at (wr (wr s i v) j w) i ≡ v
  of_lists d h = simp (mem, lt-ltb i (length s) h)

  -- a store at the null link, and one past it
  at_null : rd n NEXT (up n NEXT (hang n (up n HEAD s n v) n p) n w) i ≡ rd n NEXT s i
  at_null = simp mem

  past : n ≤ j → rd n NEXT (up n NEXT (hang n (up n NEXT s j v) j p) j w) i ≡ rd n NEXT s i
  past h = simp (mem, le-leb n j h)
