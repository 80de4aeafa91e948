-- `probe::put` meets its contract.
use mathlib.Core.Path.{sym}
use lib.Seq.{set_out}
use Rattle.probe.proofs.put.Goals as goal

pub returns-else-i-cells : goal.returns-else-i-cells
returns-else-i-cells c = sym (set_out _ _ _ c.if-i-cells.false)
