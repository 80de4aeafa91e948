-- `probe::order_probe` meets its contract.
use borrow.Author.Rules.{rules}
use mir.Syntax.{w32}
use Rattle.checks.proofs.Orders.{read}
use Rattle.probe.proofs.Cells.{told_left}
use Rattle.probe.proofs.order_probe.Goals as goal

pub returns : goal.returns
returns c =
    let s = c in
    told_left _ c.order-o.result _ _ _ _ _ _ _ (rw (read w32 s.args.n s.ranges.n.sfits) at c.order-o.ensures) c.put_statistics.ensures (search rules)
