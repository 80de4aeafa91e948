use Rattle.std.proofs.Common.{◌≡◌}
use Rattle.plain.specs.Turns.{times}
use Rattle.chain.specs.Model.{enlisted_one}
use Rattle.cells.specs.Space.{space}
use Rattle.chain.proofs.enlist_all.Given as goal

abbrev pub invariant-loop-i : goal.invariant-loop-i
invariant-loop-i l = space l.m ≡ record (space l.initial.m) { scratch = times l.i (enlisted_one (space l.initial.m).n l.limit) (space l.initial.m).scratch }
