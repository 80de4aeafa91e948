-- `ordering::order_columns` meets its contract.
use Prim.Native.Nat.{◌<◌}
use native.Mathlib.Omega.{arith}
use mathlib.Core.Path.{◌≡◌, ap, ◌∙◌}
use lib.IntN.{ℤ, pos, nat_abs}
use lib.ListN.{length-replicate}
use mir.Syntax.{w32}
use borrow.Author.Rules.{rules}
use Rattle.cells.specs.Space.{Space, space}
use Rattle.checks.proofs.Orders.{read, to_number}
use Rattle.ordering.proofs.Calls.{all_met, count_sign, enough, none_met, part_length, within}
use Rattle.ordering.proofs.order_columns.Goals as goal

some : (n : ℤ) → (nat_abs n ≡ 0 → ⊥) → 0 < nat_abs n
some n h = omega arith

pub overflow_cast-columns : goal.overflow_cast-columns
overflow_cast-columns c = to_number w32 c.args.n tt c.ranges.n.sfits (count_sign _ _ _ _ _ _ _ _ c.args.a c.requires.answered c.requires.accepted)

pub returns-then-columns-eq0 : goal.returns-then-columns-eq0
returns-then-columns-eq0 c =
    none_met _ _ _ _ _ _ _ _ c.args.a c.requires.answered c.requires.accepted _
    (rw (read w32 c.args.n c.ranges.n.sfits) at c.if-columns-eq0.true) c.no_statistics.ensures

pub new-m-requires-clause-room : goal.new-m-requires-clause-room
new-m-requires-clause-room c = rw (read w32 c.args.n c.ranges.n.sfits) (enough _ _ _ _ _ _ _ _ c.args.a c.requires.answered c.requires.accepted)

pub order_pattern-requires : goal.order_pattern-requires
order_pattern-requires c = rw (c.new-m.ensures.cleared, read w32 c.args.n c.ranges.n.sfits) (within _ _ _ _ _ _ _ _ c.args.a c.requires.answered c.requires.accepted)

pub returns : goal.returns
returns c =
    let m = space c.new-m.result in
    let columns = ap (λ (x : Space). x.n) c.new-m.ensures.cleared ∙ ap nat_abs (read w32 c.args.n c.ranges.n.sfits) in
    all_met _ _ _ _ _ _ _ _ c.args.a c.requires.answered c.requires.accepted m.lists m.scratch _ _ _ _
    (some c.args.n (rw (read w32 c.args.n c.ranges.n.sfits) at c.if-columns-eq0.false))
    (rw (c.new-m.ensures.cleared) (length-replicate _ (pos 0) ∙ part_length c.args.lists.now c.min-size.result (search rules)))
    (rw (c.new-m.ensures.cleared) (length-replicate _ (pos 0)))
    (rw columns at c.new-m.ensures.fits.room)
    c.is_jumbled.ensures
    (rw columns at c.order_pattern.ensures)
