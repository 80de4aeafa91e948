-- `pattern::meet_columns` meets its contract. Assumes nothing.
use mathlib.Core.Path.{◌≡◌}
use Rattle.plain.specs.Turns.{times}
use Rattle.cells.specs.Space.{space, SameSize}
use Rattle.pattern.specs.Model.{heap, met_column}
use Rattle.pattern.proofs.meet_columns.Given as goal

abbrev pub invariant-loop-k : goal.invariant-loop-k
invariant-loop-k l =
    (heap (space l.m).lists (space l.m).scratch ≡ times l.k (met_column (space l.initial.m).n) (heap (space l.initial.m).lists (space l.initial.m).scratch))
    × SameSize (space l.initial.m) (space l.m)
