use Rattle.std.proofs.Common.{◌≡◌, ◌≤◌}
use Rattle.plain.specs.Turns.{times}
use Rattle.opening.specs.Start.{begun}
use Rattle.cells.specs.Space.{space}
use Rattle.opening.proofs.start_rows.Given as goal

abbrev pub invariant-loop-i : goal.invariant-loop-i
invariant-loop-i l = (space l.m ≡ record (space l.initial.m) { scratch = times l.i (begun (space l.initial.m).n) (space l.initial.m).scratch })
    × (l.i ≤ (space l.initial.m).n)
