use Rattle.std.proofs.Common.{◌≡◌, ◌+◌}
use Rattle.plain.specs.Turns.{times}
use Rattle.cells.specs.View.{Room}
use Rattle.sizing.specs.Model.{sized_row, weighed_row}
use Rattle.sizing.proofs.size_all.Given as goal

abbrev pub invariant-loop-t : goal.invariant-loop-t
invariant-loop-t l = record {
  marks : l.s ≡ times l.t (λ j. sized_row l.n l.lists l.flag (l.part.from + j)) l.initial.s;
  weights : l.sum ≡ times l.t (λ j. weighed_row l.n l.lists l.initial.s (l.part.from + j)) 0;
  room : Room l.n l.s;
}
