use Rattle.std.proofs.Common.{rules}
use Rattle.cells.proofs.Fields.{room_cleared}
use Rattle.cells.proofs.workspaces.Memory.new.Goals as goal

pub over-requires-clause-room : goal.over-requires-clause-room
over-requires-clause-room c = search (rules, room_cleared, c.clear-2.ensures)
