use Rattle.std.proofs.Common.{rules}
use Rattle.packed.proofs.Tables.{tabled_spare, tabled_want}
use Rattle.packed.proofs.take_one.Goals as goal

pub take_row-requires : goal.take_row-requires
take_row-requires c = (search rules, search rules, search (rules, tabled_spare), search (rules, tabled_want))
