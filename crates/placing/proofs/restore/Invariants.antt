use Rattle.std.proofs.Common.{◌<◌, ◌≤◌, ◌^◌}
use Rattle.cells.specs.Space.{space, SameSize}
use Rattle.placing.proofs.Restoring.{Restoring}
use Rattle.placing.proofs.restore.Given as goal

abbrev pub invariant-loop-q : goal.invariant-loop-q
invariant-loop-q l = record {
  restoring : Restoring (space l.initial.m).n l.size l.left l.part.from (space l.initial.m).lists (space l.initial.m).scratch l.start l.q (space l.m).lists
      (space l.m).scratch l.r;
  same : SameSize (space l.initial.m) (space l.m);
  small : l.r.least < 2 ^ 63;
  within : l.q ≤ l.q-end;
}
