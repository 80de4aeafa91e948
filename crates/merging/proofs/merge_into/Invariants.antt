use Rattle.cells.specs.Space.{space, SameLists}
use Rattle.merging.specs.Model.{Slight, comparing}
use Rattle.merging.proofs.Walks.{Walking}
use Rattle.merging.proofs.merge_into.Given as goal

abbrev pub invariant-loop : goal.invariant-loop
invariant-loop l = record {
  walking : Walking (space l.fn.m).lists (space l.fn.m).n l.i l.shape.len l.shape.elen l.shape.flag l.k
      (comparing (space l.fn.m).scratch l.initial.w) l.counter (comparing (space l.m).scratch l.w);
  lists : SameLists (space l.fn.m) (space l.m);
  slight : Slight (space l.fn.m).n l.w;
}
