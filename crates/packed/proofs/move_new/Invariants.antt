use Rattle.std.proofs.Common.{◌^◌, ◌<◌, ◌≤◌}
use Rattle.cells.specs.Space.{space, SameSize}
use Rattle.packed.specs.Model.{heap, moved_next}
use Rattle.plain.specs.Turns.{Turned}
use Rattle.packed.proofs.move_new.Given as goal

abbrev pub invariant-loop-t : goal.invariant-loop-t
invariant-loop-t l = Turned (moved_next (space l.initial.m).n l.top) (heap (space l.initial.m).lists (space l.initial.m).scratch l.start) l.t
    (heap (space l.m).lists (space l.m).scratch l.end)
    × SameSize (space l.initial.m) (space l.m) × (l.end < 2 ^ 63) × (l.t ≤ l.cnt)
