use Rattle.std.proofs.Common.{◌≡◌}
use Rattle.cells.specs.View.{Room}
use Rattle.sizing.specs.Model.{sized_part}
use Rattle.sizing.proofs.size_elements.Given as goal

abbrev pub invariant-loop-t : goal.invariant-loop-t
invariant-loop-t l = (l.s ≡ sized_part l.n l.lists l.charge.weight l.charge.flag l.part.from l.t l.initial.s) × Room l.n l.s
