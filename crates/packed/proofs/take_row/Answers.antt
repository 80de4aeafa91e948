use Rattle.std.proofs.Common.{rules}
use Rattle.packed.proofs.Tables.{tabled_row}
use Rattle.packed.proofs.take_row.Goals as goal

pub returns-clause-table : goal.returns-clause-table
returns-clause-table c = search (rules, tabled_row)
