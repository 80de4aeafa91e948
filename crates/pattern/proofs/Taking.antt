-- An accepted problem, from its slices to the lists of A+A': the cleaned columns in the scratch, and from these the graph that the elimination starts from.
-- Whatever the lists held before, and the scratch too, as long as it is a room.
-- Assumes nothing.
use Prim.Native.Nat.{ℕ, ◌+◌, ◌*◌, ◌≤◌, ◌<◌, ◌^◌}
use native.Mathlib.Omega.{arith}
use mathlib.Core.Path.{◌≡◌, sym}
use mathlib.Core.Bool.{Bool, true, false}
use mathlib.Core.List.{List, []}
use lib.IntN.{ℤ}
use lib.ListN.{length, get_or}
use Rattle.plain.specs.Lists.{member, total}
use Rattle.definition.specs.Limits.{base_limits}
use Rattle.definition.specs.Pattern.{Pattern, column_count, nnz, columns, jumbled}
use Rattle.definition.specs.Answers.{Problem}
use Rattle.definition.specs.Cleaned as D
use Rattle.definition.specs.Cleaned.{cleaned}
use Rattle.definition.specs.Ordering.{graph_of}
use Rattle.facts.specs.Accepted.{Accepted}
use Rattle.facts.proofs.Accepted.{checked, length_columns, cleaned_inside, length_cleaned_columns, cleaned_entries, few_entries, graph_entries}
use Rattle.facts.proofs.Columns as C
use Rattle.facts.proofs.Cleaning.{cleaned_same, cleaned_jumbled}
use Rattle.cells.specs.View.{at, Room, spare}
use Rattle.pattern.specs.Columned.{Columned}
use Rattle.pattern.specs.Lists.{Packed}
use Rattle.pattern.specs.Model.{copied, transposed, tidied, built, built_free}
use Rattle.pattern.proofs.Source.{pointer_at, source_stands}
use Rattle.pattern.proofs.Copying.{copied_rep, copied_wide, copied_room}
use Rattle.pattern.proofs.Transposing.{transposed_rep, transposed_wide, transposed_room}
use Rattle.pattern.proofs.Building.{built_rep, built_long, built_room}

spare_of : (n c : ℕ) (s : List ℤ) → c + 16 * n + 16 ≤ length s → c ≤ spare n s
unfolding spare
spare_of n c s h = omega arith

small_numbers : (p : Problem) → Accepted p → nnz p.pattern < 2 ^ 63
unfolding base_limits
small_numbers p ok = omega (arith, few_entries p ok)

-- what is said of the scratch s' after it was s: the cleaned columns are there, as long as before
pub record Cleansed (p : Problem) (s s' : List ℤ) : Type 0 where
  pub columned : Columned (column_count p.pattern) s' (cleaned (columns p.pattern))
  pub room : Room (column_count p.pattern) s'
  pub wide : length s' ≡ length s

module _ (p : Problem) (ok : Accepted p) (s : List ℤ) (calm : Room (column_count p.pattern) s) (fits : nnz p.pattern + 16 * column_count p.pattern + 16 ≤ length s) where
  abbrev a : Pattern
  a = p.pattern

  abbrev n : ℕ
  n = column_count a

  cols_inside : (k i : ℕ) → member i (get_or (columns a) k []) ≡ true → i < n
  cols_inside k i m = rw (← length_columns p ok) (C.columns_inside base_limits a (checked p ok).pointers (checked p ok).count (checked p ok).rows k i m)

  by_copy : jumbled (columns a) ≡ false → Cleansed p s (copied n a.pointers a.rows s)
  by_copy h =
      let f : at a.pointers n ≤ spare n s = rw (pointer_at p ok n) (spare_of n (nnz a) s fits) in
      record {
        columned = rw (cleaned_same (columns a) h) (copied_rep n (columns a) a.pointers a.rows s (source_stands p ok) calm f);
        room = copied_room n (columns a) a.pointers a.rows s (source_stands p ok) calm f;
        wide = copied_wide n (columns a) a.pointers a.rows s (source_stands p ok) calm f;
      }

  by_transpose : jumbled (columns a) ≡ true → Cleansed p s (transposed n a.pointers a.rows s)
  by_transpose h =
      let e : total length (D.transposed (columns a)) ≤ nnz a = rw (← cleaned_jumbled (columns a) h) (cleaned_entries p ok) in
      let f : total length (D.transposed (columns a)) ≤ spare n s = omega (arith, e, spare_of n (nnz a) s fits) in
      let g : total length (D.transposed (columns a)) < 2 ^ 63 = omega (arith, e, small_numbers p ok) in
      record {
        columned = rw (cleaned_jumbled (columns a) h) (transposed_rep n (columns a) a.pointers a.rows s (source_stands p ok) (length_columns p ok) cols_inside calm f g);
        room = transposed_room n (columns a) a.pointers a.rows s (source_stands p ok) (length_columns p ok) cols_inside calm f g;
        wide = transposed_wide n (columns a) a.pointers a.rows s (source_stands p ok) (length_columns p ok) cols_inside calm f g;
      }

  tidied_by : (b : Bool) → jumbled (columns a) ≡ b → Cleansed p s (tidied n a.pointers a.rows b s)
  unfolding tidied
  tidied_by true h = by_transpose h
  tidied_by false h = by_copy h

  pub cleaned_rep : (b : Bool) → b ≡ jumbled (columns p.pattern)
      → Cleansed p s (tidied (column_count p.pattern) p.pattern.pointers p.pattern.rows b s)
  cleaned_rep b e = tidied_by b (sym e)

  -- ---- the lists

  module _ (l : List ℤ) (b : Bool) (e : b ≡ jumbled (columns p.pattern))
      (room : 2 * nnz p.pattern + column_count p.pattern ≤ length l) where
    abbrev t : List ℤ
    t = tidied n a.pointers a.rows b s

    inside : (k i : ℕ) → member i (get_or (cleaned (columns a)) k []) ≡ true → i < n
    inside k i m = rw (← length_cleaned_columns p ok) (cleaned_inside p ok k i m)

    enough : total length (graph_of a) ≤ length l
    enough = omega (arith, graph_entries p ok, room)

    short : total length (graph_of a) < 2 ^ 63
    unfolding base_limits
    short = omega (arith, graph_entries p ok, few_entries p ok)

    -- what `take_pattern` leaves
    pub taken_rep : Packed (column_count p.pattern) (graph_of p.pattern) (built (column_count p.pattern) l (tidied (column_count p.pattern) p.pattern.pointers p.pattern.rows b s)).lists (built (column_count p.pattern) l (tidied (column_count p.pattern) p.pattern.pointers p.pattern.rows b s)).mem
        (built_free (column_count p.pattern) l (tidied (column_count p.pattern) p.pattern.pointers p.pattern.rows b s))
    taken_rep =
        let c = cleaned_rep b e in
        built_rep n (cleaned (columns a)) l t c.columned (length_cleaned_columns p ok) inside c.room enough short

    pub taken_long : length (built (column_count p.pattern) l (tidied (column_count p.pattern) p.pattern.pointers p.pattern.rows b s)).lists ≡ length l
    taken_long =
        let c = cleaned_rep b e in
        built_long n (cleaned (columns a)) l t c.columned (length_cleaned_columns p ok) inside c.room enough short

    pub taken_room : Room (column_count p.pattern) (built (column_count p.pattern) l (tidied (column_count p.pattern) p.pattern.pointers p.pattern.rows b s)).mem
    taken_room =
        let c = cleaned_rep b e in
        built_room n (cleaned (columns a)) l t c.columned (length_cleaned_columns p ok) inside c.room enough short
