use Rattle.std.proofs.Common.{◌≡◌, ◌+◌, ◌≤◌, length}
use Rattle.cells.specs.Layout.{TMP}
use Rattle.cells.specs.Rows.{Rows}
use Rattle.cells.specs.View.{rd, wr}
use Rattle.plain.specs.Turns.{Turned}
use Rattle.packed.proofs.lay.Given as goal

abbrev pub invariant-loop-t : goal.invariant-loop-t
invariant-loop-t l = Turned (λ i y. wr y (l.part.from + i) (rd l.n TMP l.s i)) l.initial.lists l.t l.lists × (length l.lists ≡ length l.initial.lists)
    × Rows l.n l.lists × (l.t ≤ l.there)
