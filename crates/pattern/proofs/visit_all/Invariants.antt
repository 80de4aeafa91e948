-- `pattern::visit_all` meets its contract. Assumes nothing.
use mathlib.Core.Path.{◌≡◌}
use Rattle.plain.specs.Turns.{times}
use Rattle.pattern.specs.Model.{visited_next}
use Rattle.cells.specs.Space.{space}
use Rattle.pattern.proofs.visit_all.Given as goal

abbrev pub invariant-loop-j : goal.invariant-loop-j
invariant-loop-j l =
    space l.m ≡ record (space l.initial.m) {
      scratch = times l.j (visited_next (space l.initial.m).n l.pattern.pointers.now l.pattern.rows.now)
          (space l.initial.m).scratch;
    }
