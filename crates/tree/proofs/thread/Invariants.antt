-- `tree::thread` meets its contract: the loop is a fold by turns. Assumes nothing.
use Rattle.std.proofs.Common.{◌≡◌, ◌-◌}
use Rattle.plain.specs.Turns.{times}
use Rattle.tree.specs.Class.{class_number}
use Rattle.tree.specs.Model.{threaded_one}
use Rattle.cells.specs.Space.{space}
use Rattle.tree.proofs.thread.Given as goal

abbrev pub invariant-loop-j : goal.invariant-loop-j
invariant-loop-j l =
    let n = (space l.initial.m).n in
    space l.m ≡ record (space l.initial.m) { scratch = times (n - l.j) (λ k. threaded_one n (class_number l.class) (n - 1 - k)) (space l.initial.m).scratch }
