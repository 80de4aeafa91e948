use Rattle.std.proofs.Common.{◌-◌, ◌≤◌, max}
use Rattle.chain.proofs.Turn.{Passed}
use Rattle.cells.specs.Space.{space}
use Rattle.chain.proofs.find_pivot.Given as goal

abbrev pub invariant-loop-d : goal.invariant-loop-d
invariant-loop-d l = Passed (space l.m).n (space l.m).scratch l.least l.d × (l.d ≤ max l.least l.n)

abbrev pub decreases-loop-d : goal.decreases-loop-d
decreases-loop-d l = l.n - l.d
