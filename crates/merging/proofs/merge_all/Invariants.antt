use Rattle.std.proofs.Common.{◌≡◌, ◌+◌}
use Rattle.plain.specs.Turns.{times}
use Rattle.cells.specs.Space.{space, SameLists}
use Rattle.merging.specs.Model.{merged_row, merging}
use Rattle.merging.proofs.merge_all.Given as goal

abbrev pub invariant-loop-i : goal.invariant-loop-i
invariant-loop-i l = record {
  merged : merging (space l.m).scratch l.t
      ≡ times l.i (λ j. merged_row (space l.fn.m).lists (space l.fn.m).n l.part.len (l.part.from + j)) (merging (space l.fn.m).scratch l.initial.t);
  lists : SameLists (space l.fn.m) (space l.m);
}
