-- `Pattern::column_rises` meets its contract.
use Prim.Native.Nat.{◌+◌, ◌<◌}
use native.Mathlib.Omega.{arith}
use mathlib.Core.Path.{ap, ◌∙◌}
use lib.IntN.{pos}
use Rattle.plain.specs.Lists.{rises}
use Rattle.definition.specs.Pattern.{Pattern, column, column_count, bad_rows}
use Rattle.checks.specs.Given.{pattern_given}
use Rattle.checks.proofs.Accepted.{accepted_pointers, row_sign, column_is}
use Rattle.checks.proofs.Pattern.column_rises.Goals as goal

pub number_at-from-requires : goal.number_at-from-requires
number_at-from-requires c =
    let p = c.self.inside in
    let right = accepted_pointers p.columns p.pointers.now p.rows.now c.self.invariant in
    record { within = omega (arith, right.size, c.requires.within, ap column_count c.self.view_is); sign = right.sign c.args.k }

pub overflow_add-k : goal.overflow_add-k
overflow_add-k c =
    let p = c.self.inside in
    let right = accepted_pointers p.columns p.pointers.now p.rows.now c.self.invariant in
    record { fits = omega (arith, right.size, c.requires.within, ap column_count c.self.view_is, c.self.told.0) }

pub number_at-to-requires : goal.number_at-to-requires
number_at-to-requires c =
    let p = c.self.inside in
    let right = accepted_pointers p.columns p.pointers.now p.rows.now c.self.invariant in
    record { within = omega (arith, right.size, c.requires.within, ap column_count c.self.view_is); sign = right.sign (c.args.k + 1) }

-- the end of a column is within the first nnz rows
pub rises-requires : goal.rises-requires
rises-requires c =
    let p = c.self.inside in
    let right = accepted_pointers p.columns p.pointers.now p.rows.now c.self.invariant in
    let inside : c.args.k < p.columns = omega (arith, c.requires.within, ap column_count c.self.view_is) in
    let low = right.ends (c.args.k + 1) (omega arith) in
    record {
      order = omega (arith, right.step c.args.k inside, c.number_at-from.ensures, c.number_at-to.ensures);
      within = omega (arith, low, right.within, c.number_at-to.ensures);
      signs = λ k l. row_sign p.columns p.pointers.now p.rows.now c.self.invariant (ap bad_rows c.self.view_is ∙ c.requires.rows) k (omega (arith, low, c.number_at-to.ensures));
    }

pub returns : goal.returns
returns c =
    let p = c.self.inside in
    column_is (pattern_given (pos p.columns) p.pointers.now p.rows.now) c.args.k c.number_at-from.result c.number_at-to.result c.rises.result c.number_at-from.ensures c.number_at-to.ensures c.rises.ensures
    ∙ ap (λ (a : Pattern). rises (column a c.args.k)) c.self.view_is
