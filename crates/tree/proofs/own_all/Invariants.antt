-- `tree::own_all` meets its contract: the loop is a fold by turns. Assumes nothing.
use Rattle.std.proofs.Common.{◌≡◌, ◌-◌}
use Rattle.plain.specs.Turns.{times}
use Rattle.cells.specs.Layout.{MERGES}
use Rattle.cells.specs.View.{rd}
use Rattle.cells.specs.Space.{space}
use Rattle.tree.specs.Model.{owned}
use Rattle.tree.proofs.own_all.Given as goal

abbrev pub invariant-loop-t : goal.invariant-loop-t
invariant-loop-t l =
    let n = (space l.initial.m).n in
    space l.m ≡ record (space l.initial.m) { scratch = times (l.count - l.t) (λ t s. owned n (rd n MERGES s (l.count - 1 - t)) s) (space l.initial.m).scratch }
