use Rattle.cells.specs.Space.{space, SameSize}
use Rattle.elimination.proofs.Steps.{Running}
use Rattle.elimination.proofs.eliminate_all.Given as goal

abbrev pub invariant-loop : goal.invariant-loop
invariant-loop l = record {
  running : Running (space l.fn.m).n l.aggressive l.dense (space l.fn.m).n (space l.fn.m).lists (space l.fn.m).scratch l.fn.start l.counter (space l.m).lists
      (space l.m).scratch l.w;
  size : SameSize (space l.fn.m) (space l.m);
}
