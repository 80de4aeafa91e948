-- `ordering::order_accepted` meets its contract.
use Prim.Native.Nat.{ℕ}
use mathlib.Core.Path.{ap, ◌∙◌}
use lib.IntN.{pos}
use lib.ListN.{replicate}
use borrow.Author.Rules.{rules}
use mir.Syntax.{w32}
use Rattle.checks.proofs.Orders.{read}
use Rattle.ordering.proofs.Calls.{all_left}
use Rattle.ordering.proofs.order_accepted.Goals as goal

pub order_columns-x-requires : goal.order_columns-x-requires
order_columns-x-requires c = rw (read w32 c.args.n c.ranges.n.sfits) (record { answered = c.requires.answered; accepted = c.requires.accepted })

pub returns : goal.returns
returns c =
    let clear = c.clear in
    let clear2 = c.clear-2 in
    all_left _ _ _ _ _ _ _ _ c.args.a c.requires.answered c.requires.accepted _ _ _ _ _
    (rw (read w32 c.args.n c.ranges.n.sfits) at c.order_columns-x.ensures)
    (clear.ensures ∙ ap (λ (k : ℕ). replicate k (pos 0)) (search rules))
    (clear2.ensures ∙ ap (λ (k : ℕ). replicate k (pos 0)) (search rules))
