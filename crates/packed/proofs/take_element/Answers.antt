use Rattle.std.proofs.Common.{rules}
use Rattle.packed.proofs.Tables.{tabled_absorbed}
use Rattle.packed.proofs.take_element.Goals as goal

pub take_part-requires : goal.take_part-requires
take_part-requires c = (search rules, search rules, tabled_absorbed _ _ _ _ _ _ c.absorb.ensures.0 c.requires.3)
