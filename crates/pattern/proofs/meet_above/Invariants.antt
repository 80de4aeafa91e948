-- `pattern::meet_above` meets its contract. Assumes nothing.
use Rattle.cells.specs.Space.{space, SameSize}
use Rattle.pattern.specs.Model.{heap, met_at}
use Rattle.pattern.proofs.Scans.{Scanned}
use Rattle.pattern.proofs.meet_above.Given as goal

abbrev pub invariant-loop-p : goal.invariant-loop-p
invariant-loop-p l = record {
  done : Scanned (space l.initial.m).n l.k l.from l.to (met_at (space l.initial.m).n l.k) (heap (space l.initial.m).lists (space l.initial.m).scratch)
      (heap (space l.m).lists (space l.m).scratch) l.p;
  size : SameSize (space l.initial.m) (space l.m);
}
