use Rattle.std.proofs.Common.{◌≡◌}
use Rattle.plain.specs.Turns.{times}
use Rattle.pattern.specs.Model.{cleared}
use Rattle.cells.specs.Space.{space}
use Rattle.pattern.proofs.start_cleaning.Given as goal

abbrev pub invariant-loop-i : goal.invariant-loop-i
invariant-loop-i l = space l.m ≡ record (space l.initial.m) { scratch = times l.i (cleared (space l.initial.m).n) (space l.initial.m).scratch }
