use Rattle.std.proofs.Common.{rules}
use Rattle.cells.proofs.Coding.{room_coded}
use Rattle.cells.specs.Links.{hang}
use Rattle.cells.specs.View.{place}
use Rattle.cells.proofs.memory.set_parent.Goals as goal

pub returns : goal.returns
unfolding hang place
returns c = (search rules, room_coded _ _ c.args.i _ _ c.store_signed.ensures (search rules) c.requires.0)
