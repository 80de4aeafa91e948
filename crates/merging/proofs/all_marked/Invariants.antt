use Rattle.std.proofs.Common.{◌-◌, ◌≤◌}
use Rattle.merging.proofs.Walks.{MarkedTo}
use Rattle.cells.specs.Space.{space}
use Rattle.merging.proofs.all_marked.Given as goal

abbrev pub invariant-entries : goal.invariant-entries
invariant-entries l = MarkedTo (space l.m).lists (space l.m).n (space l.m).scratch l.part.from l.flag l.t × (l.t ≤ l.there)

abbrev pub decreases-entries : goal.decreases-entries
decreases-entries l = l.there - l.t
