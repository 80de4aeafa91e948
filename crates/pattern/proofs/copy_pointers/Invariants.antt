-- `pattern::copy_pointers` meets its contract. Assumes nothing.
use mathlib.Core.Path.{◌≡◌}
use Rattle.plain.specs.Turns.{times}
use Rattle.pattern.specs.Model.{copied_pointer}
use Rattle.cells.specs.Space.{space}
use Rattle.pattern.proofs.copy_pointers.Given as goal

abbrev pub invariant-loop-k : goal.invariant-loop-k
invariant-loop-k l = space l.m
    ≡ record (space l.initial.m) { scratch = times l.k (copied_pointer (space l.initial.m).n l.pointers) (space l.initial.m).scratch }
