-- `pattern::pair_part` meets its contract. Assumes nothing.
use Prim.Native.Nat.{◌+◌, ◌-◌, ◌≤◌}
use mathlib.Core.Path.{◌≡◌}
use Rattle.plain.specs.Turns.{times}
use Rattle.cells.specs.Space.{space, SameSize}
use Rattle.pattern.specs.Model.{heap, paired_at}
use Rattle.pattern.proofs.pair_part.Given as goal

abbrev pub invariant-loop-p : goal.invariant-loop-p
invariant-loop-p l =
    (heap (space l.m).lists (space l.m).scratch
    ≡ times (l.p - l.from) (λ t. paired_at (space l.initial.m).n l.j (l.from + t)) (heap (space l.initial.m).lists (space l.initial.m).scratch))
    × SameSize (space l.initial.m) (space l.m) × (l.from ≤ l.p) × (l.p - l.from ≤ l.to - l.from)
