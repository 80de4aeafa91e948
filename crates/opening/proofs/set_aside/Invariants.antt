use Rattle.std.proofs.Common.{◌≡◌, ◌≤◌}
use Rattle.plain.specs.Turns.{times}
use Rattle.cells.specs.Space.{space, SameLists}
use Rattle.opening.specs.Start.{setting, set_one}
use Rattle.opening.proofs.set_aside.Given as goal

abbrev pub invariant-loop-i : goal.invariant-loop-i
invariant-loop-i l = record {
  set : setting (space l.m).scratch l.a ≡ times l.i (set_one (space l.initial.m).n l.limit) (setting (space l.initial.m).scratch l.initial.a);
  lists : SameLists (space l.initial.m) (space l.m);
  within : l.i ≤ (space l.initial.m).n;
}
