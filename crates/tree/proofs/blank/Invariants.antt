-- `tree::blank` meets its contract: the loop is a fold by turns. Assumes nothing.
use Rattle.std.proofs.Common.{◌≡◌}
use Rattle.plain.specs.Turns.{times}
use Rattle.tree.specs.Model.{blank_one}
use Rattle.cells.specs.Space.{space}
use Rattle.tree.proofs.blank.Given as goal

abbrev pub invariant-loop-j : goal.invariant-loop-j
invariant-loop-j l = space l.m ≡ record (space l.initial.m) { scratch = times l.j (blank_one (space l.initial.m).n) (space l.initial.m).scratch }
