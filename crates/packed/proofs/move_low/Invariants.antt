use Rattle.std.proofs.Common.{◌^◌, ◌<◌, ◌≤◌}
use Rattle.cells.specs.Space.{space, SameSize}
use Rattle.packed.specs.Model.{heap, moved_one}
use Rattle.plain.specs.Turns.{Turned}
use Rattle.packed.proofs.move_low.Given as goal

abbrev pub invariant-loop-j : goal.invariant-loop-j
invariant-loop-j l = Turned (moved_one (space l.initial.m).n l.top) (heap (space l.initial.m).lists (space l.initial.m).scratch l.start) l.j
    (heap (space l.m).lists (space l.m).scratch l.end)
    × SameSize (space l.initial.m) (space l.m) × (l.end < 2 ^ 63) × (l.j ≤ l.n)
