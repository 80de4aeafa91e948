-- `pattern::copy_rows` meets its contract. Assumes nothing.
use mathlib.Core.Path.{◌≡◌}
use Rattle.plain.specs.Turns.{times}
use Rattle.pattern.specs.Model.{copied_row}
use Rattle.cells.specs.Space.{space}
use Rattle.pattern.proofs.copy_rows.Given as goal

abbrev pub invariant-loop-p : goal.invariant-loop-p
invariant-loop-p l = space l.m ≡ record (space l.initial.m) { scratch = times l.p (copied_row (space l.initial.m).n l.rows) (space l.initial.m).scratch }
