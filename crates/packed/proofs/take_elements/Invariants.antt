use Rattle.std.proofs.Common.{◌≡◌, ◌+◌, ◌≤◌, length}
use Rattle.cells.specs.View.{Room, at}
use Rattle.packed.specs.Tray.{Tabled, taking, took_element}
use Rattle.plain.specs.Turns.{Turned}
use Rattle.packed.proofs.take_elements.Given as goal

abbrev pub invariant-loop-i : goal.invariant-loop-i
invariant-loop-i l = Turned (λ j. took_element l.n l.me l.quota l.lists (at l.lists (l.part.from + j))) (taking l.initial.s l.initial.t) l.i (taking l.s l.t)
    × (length l.s ≡ length l.initial.s) × Room l.n l.s × Tabled l.n l.s l.t.cnt × (l.i ≤ l.there)
