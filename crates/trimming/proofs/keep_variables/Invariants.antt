use Rattle.std.proofs.Common.{◌≡◌, ◌+◌, ◌≤◌, length}
use Rattle.cells.specs.Rows.{Rows}
use Rattle.plain.specs.Turns.{Turned}
use Rattle.trimming.specs.Model.{halfway, keeping, kept_variable}
use Rattle.trimming.proofs.keep_variables.Given as goal

abbrev pub invariant-loop-t : goal.invariant-loop-t
invariant-loop-t l = record {
  turned : Turned (λ j. kept_variable l.n (l.part.from + j)) (keeping l.initial.lists l.s (halfway l.fn.start)) l.t (keeping l.lists l.s l.k);
  size : length l.lists ≡ length l.initial.lists;
  rows : Rows l.n l.lists;
  elements : l.k.elements ≡ l.fn.start.end;
  low : l.fn.start.end ≤ l.k.end;
  high : l.k.end ≤ l.part.from + l.t;
}
