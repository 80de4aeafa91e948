-- `pattern::visit_column` meets its contract. Assumes nothing.
use Prim.Native.Nat.{◌+◌}
use mathlib.Core.Path.{◌≡◌}
use Rattle.plain.specs.Turns.{times}
use Rattle.cells.specs.View.{at}
use Rattle.cells.specs.Space.{space}
use Rattle.pattern.specs.Model.{visited}
use Rattle.pattern.proofs.visit_column.Given as goal

abbrev pub invariant-loop-t : goal.invariant-loop-t
invariant-loop-t l =
    space l.m ≡ record (space l.initial.m) { scratch = times l.t (λ t. visited (space l.initial.m).n l.j (at l.rows (l.from + t))) (space l.initial.m).scratch }
