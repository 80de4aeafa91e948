use Rattle.std.proofs.Common.{◌≡◌, ◌+◌}
use Rattle.plain.specs.Turns.{times}
use Rattle.cells.specs.Layout.{W}
use Rattle.cells.specs.View.{at, up}
use Rattle.cells.specs.Space.{space}
use Rattle.merging.proofs.mark_part.Given as goal

abbrev pub invariant-loop-t : goal.invariant-loop-t
invariant-loop-t l = space l.m
    ≡ record (space l.fn.m) { scratch = times l.t (λ j s. up (space l.fn.m).n W s (at (space l.fn.m).lists (l.part.from + j)) l.flag) (space l.fn.m).scratch }
