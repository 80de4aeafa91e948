use Rattle.std.proofs.Common.{rules}
use Rattle.cells.specs.Space.{space}
use Rattle.packed.proofs.Tables.{tabled_room}
use Rattle.packed.proofs.gather_outside.Goals as goal

pub enter-requires : goal.enter-requires
unfolding space
enter-requires c = search (rules, tabled_room)
