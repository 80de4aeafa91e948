use Rattle.std.proofs.Common.{◌≡◌, ◌+◌, ◌≤◌, length}
use Rattle.cells.specs.Rows.{Rows}
use Rattle.cells.specs.View.{at, wr}
use Rattle.plain.specs.Turns.{Turned}
use Rattle.packed.proofs.copy_down.Given as goal

abbrev pub invariant-loop-k : goal.invariant-loop-k
invariant-loop-k l = Turned (λ t y. wr y (l.e + t) (at y (l.p + t))) l.initial.lists l.k l.lists × (length l.lists ≡ length l.initial.lists)
    × Rows l.n l.lists × (l.k ≤ l.len)
