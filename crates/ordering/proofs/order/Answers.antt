-- `ordering::order` meets its contract.
use mathlib.Core.Path.{sym, ◌∙◌}
use mir.Syntax.{w32}
use Rattle.checks.proofs.Orders.{read}
use Rattle.definition.specs.Promise.{problem_of}
use Rattle.ordering.specs.Left.{lent}
use Rattle.ordering.proofs.Leaving.{refused_left}
use Rattle.ordering.proofs.order.Goals as goal

pub order_accepted-requires : goal.order_accepted-requires
unfolding problem_of
order_accepted-requires c =
    rw (read w32 c.args.n c.ranges.n.sfits)
    (record { answered = rw (read w32 c.args.n c.ranges.n.sfits) at c.check-a.ensures; accepted = sym c.is_accepted.ensures ∙ c.if-is_accepted.true })

pub returns-then-is_accepted : goal.returns-then-is_accepted
returns-then-is_accepted c = rw (read w32 c.args.n c.ranges.n.sfits) at c.order_accepted.ensures

pub returns : goal.returns
unfolding problem_of
returns c =
    let a = c.args in
    refused_left (lent a.n a.pointers.now a.rows.now a.settings a.permutation.now a.inverse.now a.lists.now a.scratch.now)
    c.check-a.result c.refusal.result c.refusal.ensures
    (sym c.is_accepted.ensures ∙ c.if-is_accepted.false)
    (rw (read w32 c.args.n c.ranges.n.sfits) at c.check-a.ensures)
