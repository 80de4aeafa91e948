-- `tree::walk_all` meets its contract: the loop is a fold by turns. Assumes nothing.
use Rattle.std.proofs.Common.{◌≡◌}
use Rattle.plain.specs.Turns.{times}
use Rattle.cells.specs.Space.{space, SameLists}
use Rattle.tree.specs.Model.{begun, sheets, stepped, tour}
use Rattle.tree.proofs.walk_all.Given as goal

abbrev pub invariant-loop : goal.invariant-loop
invariant-loop l = record {
  turned : tour (space l.m).scratch l.permutation l.inverse l.w
      ≡ times l.counter (λ k. stepped (space l.initial.m).n)
      (begun (space l.initial.m).n (space l.initial.m).scratch (sheets l.initial.permutation l.initial.inverse));
  lists : SameLists (space l.initial.m) (space l.m);
}
