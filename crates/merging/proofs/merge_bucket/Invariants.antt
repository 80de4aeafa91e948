use Rattle.cells.specs.Space.{space, SameLists}
use Rattle.merging.specs.Model.{merging}
use Rattle.merging.proofs.Walks.{Running}
use Rattle.merging.proofs.merge_bucket.Given as goal

abbrev pub invariant-loop : goal.invariant-loop
invariant-loop l = record {
  running : Running (space l.fn.m).lists (space l.fn.m).n l.k l.initial.i (merging (space l.fn.m).scratch l.initial.t) l.counter l.i
      (merging (space l.m).scratch l.t);
  lists : SameLists (space l.fn.m) (space l.m);
}
