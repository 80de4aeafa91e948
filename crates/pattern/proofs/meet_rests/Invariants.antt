-- `pattern::meet_rests` meets its contract. Assumes nothing.
use mathlib.Core.Path.{◌≡◌}
use Rattle.plain.specs.Turns.{times}
use Rattle.cells.specs.Space.{space, SameSize}
use Rattle.pattern.specs.Model.{heap, met_rest}
use Rattle.pattern.proofs.meet_rests.Given as goal

abbrev pub invariant-loop-j : goal.invariant-loop-j
invariant-loop-j l =
    (heap (space l.m).lists (space l.m).scratch ≡ times l.j (met_rest (space l.initial.m).n) (heap (space l.initial.m).lists (space l.initial.m).scratch))
    × SameSize (space l.initial.m) (space l.m)
