-- The columns of an accepted problem as the code reads them: from the slices of pointers and rows, where no number is below 0.
-- Assumes nothing.
use Prim.Native.Nat.{ℕ, suc, ◌+◌, ◌-◌, ◌<◌}
use native.Mathlib.Omega.{arith}
use mathlib.Core.Path.{◌≡◌, sym, ap, ◌∙◌}
use mathlib.Core.List.{List}
use lib.IntN.{ℤ, pos, nat_abs}
use lib.ListN.{get_or, drop, take, get_or-map}
use lib.Seq.{get_or-take, get_or-drop}
use Rattle.plain.specs.Turns.{entries}
use Rattle.plain.proofs.Entries.{entries_same, entries_whole}
use Rattle.definition.specs.Limits.{base_limits}
use Rattle.definition.specs.Pattern.{Pattern, column_count, pointer, nnz, column, columns}
use Rattle.definition.specs.Answers.{Problem}
use Rattle.facts.specs.Accepted.{Accepted}
use Rattle.facts.proofs.Accepted.{checked}
use Rattle.facts.proofs.Columns as C
use Rattle.cells.specs.View.{nat, at}
use Rattle.pattern.specs.Columned.{Stands}

at_is : (l : List ℤ) (i k : ℕ) → get_or l i (pos 0) ≡ pos k → at l i ≡ k
unfolding at
at_is l i k e = ap nat e

module _ (p : Problem) (ok : Accepted p) where
  abbrev a : Pattern
  a = p.pattern

  pub pointer_at : (k : ℕ) → at p.pattern.pointers k ≡ pointer p.pattern k
  pointer_at k = at_is a.pointers k (pointer a k) (C.pointer_is base_limits a (checked p ok).pointers k)

  row_at_lem : (j : ℕ) → j < nnz a → at a.rows j ≡ nat_abs (get_or a.rows j (pos 0))
  row_at_lem j l = at_is a.rows j (nat_abs (get_or a.rows j (pos 0))) (C.row_is base_limits a (checked p ok).pointers (checked p ok).count (checked p ok).rows j l).0

  part_at : (k : ℕ) → k < column_count a → (t : ℕ) → t < pointer a (suc k) - pointer a k → at a.rows (pointer a k + t) ≡ get_or (column a k) (0 + t) 0
  unfolding column
  part_at k l t u =
      let z : 0 + t ≡ t = omega arith in
      rw z
      (row_at_lem (pointer a k + t) (omega (arith, C.pointer_most base_limits a (checked p ok).pointers (suc k) l, u))
      ∙ ap nat_abs (sym (get_or-take (pointer a (suc k)) a.rows (pointer a k + t) (pos 0) (omega arith)) ∙ sym (get_or-drop (pointer a k) (take (pointer a (suc k)) a.rows) t (pos 0)))
      ∙ sym (get_or-map nat_abs (drop (pointer a k) (take (pointer a (suc k)) a.rows)) t (pos 0)))

  column_is : (k : ℕ) → k < column_count a → entries (at a.rows) (pointer a k) (pointer a (suc k) - pointer a k) ≡ column a k
  column_is k l =
      entries_same (λ i. get_or (column a k) i 0) (at a.rows) 0 (pointer a k) (pointer a (suc k) - pointer a k) (part_at k l)
      ∙ ap (entries (λ i. get_or (column a k) i 0) 0) (sym (C.length_column base_limits a (checked p ok).pointers k l)) ∙ entries_whole (column a k) 0

  pub source_stands : Stands (column_count p.pattern) (at p.pattern.pointers) (at p.pattern.rows) (columns p.pattern)
  source_stands = record {
    first = pointer_at 0 ∙ C.pointer_first base_limits a (checked p ok).pointers;
    step = λ k l. rw (pointer_at k, pointer_at (suc k)) (C.pointer_step base_limits a (checked p ok).pointers k l);
    column = λ k l. rw (pointer_at k, pointer_at (suc k), C.column_at a k l) (column_is k l);
  }
