-- `pattern::place_rows` meets its contract. Assumes nothing.
use Prim.Native.Nat.{◌<◌, ◌^◌}
use mathlib.Core.Path.{◌≡◌}
use Rattle.plain.specs.Turns.{times}
use Rattle.cells.specs.Space.{space, SameLists}
use Rattle.pattern.specs.Model.{spot, placed_row}
use Rattle.pattern.proofs.place_rows.Given as goal

abbrev pub invariant-loop-i : goal.invariant-loop-i
invariant-loop-i l =
    (spot (space l.m).scratch l.free ≡ times l.i (placed_row (space l.initial.m).n) (spot (space l.initial.m).scratch 0))
    × SameLists (space l.initial.m) (space l.m) × (l.free < 2 ^ 63)
