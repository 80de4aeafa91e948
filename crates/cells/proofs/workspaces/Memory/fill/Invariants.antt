use Rattle.std.proofs.Common.{◌≡◌}
use Rattle.plain.specs.Turns.{times}
use Rattle.cells.specs.View.{up}
use Rattle.cells.specs.Space.{space}
use Rattle.cells.specs.Field.{field_number}
use Rattle.cells.proofs.workspaces.Memory.fill.Given as goal

abbrev pub invariant-loop-node : goal.invariant-loop-node
invariant-loop-node l =
    space l.self ≡ record (space l.initial.self) {
      scratch = times l.node (λ i s. up (space l.initial.self).n (field_number l.field) s i l.v) (space l.initial.self).scratch;
    }
