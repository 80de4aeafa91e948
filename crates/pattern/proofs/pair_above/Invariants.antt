-- `pattern::pair_above` meets its contract. Assumes nothing.
use Rattle.cells.specs.Space.{space, SameSize}
use Rattle.pattern.specs.Model.{heap, paired_at}
use Rattle.pattern.proofs.Scans.{Scanned}
use Rattle.pattern.proofs.pair_above.Given as goal

abbrev pub invariant-loop-p : goal.invariant-loop-p
invariant-loop-p l = record {
  done : Scanned (space l.initial.m).n l.k l.from l.to (paired_at (space l.initial.m).n l.j) (heap (space l.initial.m).lists (space l.initial.m).scratch)
      (heap (space l.m).lists (space l.m).scratch) l.p;
  size : SameSize (space l.initial.m) (space l.m);
}
