-- `Pattern::new` meets its contract, fault by fault.
use Prim.Native.Nat.{◌<◌, ◌^◌, ◌+◌}
use native.Mathlib.Omega.{arith}
use mathlib.Core.Path.{◌≡◌, sym, ap, ◌∙◌}
use mathlib.Core.Bool.{not, false}
use lib.IntN.{pos}
use lib.Signed.{mag}
use lib.ListN.{length}
use mir.Syntax.{w32}
use mir.Val.{hbits}
use Rattle.definition.specs.Limits.{base_limits}
use Rattle.definition.specs.Pattern.{bad_pointers}
use Rattle.checks.specs.Given.{pattern_given}
use Rattle.checks.proofs.Accepted.{sign_at}
use Rattle.checks.proofs.Faults.{zero_read, fault_length, fault_first, fault_order, fault_most, fault_rows, no_fault}
use Rattle.checks.proofs.Slices.{at, told_climbs}
use Rattle.checks.proofs.Pattern.new.Goals as goal
use Rattle.checks.proofs.Pattern.new.Goals.{then-is_empty-via-then-is_empty, then-is_empty-via-else-is_empty+then-pointers-columns, then-pointers-ne0-via-then-pointers-ne0, then-pointers-ne0-via-else-pointers-ne0+then-not-climbing, then-most_entries-nnz-via-then-most_entries-nnz, then-most_entries-nnz-via-else-most_entries-nnz+then-rows-nnz}

pub returns-then-is_empty-clause-pointed : goal.returns-then-is_empty-clause-pointed
returns-then-is_empty-clause-pointed c =
    let a = pattern_given (pos c.args.columns) c.args.pointers.now c.args.rows.now in
    elim c.then-is_empty.branch [
      | then-is_empty-via-then-is_empty w ↦ ap not (fault_length a (λ e. grind arith))
      | then-is_empty-via-else-is_empty+then-pointers-columns w ↦ ap not (fault_length a (λ e. w.if-pointers-columns.true (omega (arith, e))))
    ]

pub returns-then-pointers-ne0-clause-pointed : goal.returns-then-pointers-ne0-clause-pointed
returns-then-pointers-ne0-clause-pointed c =
    let a = pattern_given (pos c.args.columns) c.args.pointers.now c.args.rows.now in
    elim c.then-pointers-ne0.branch [
      | then-pointers-ne0-via-then-pointers-ne0 w ↦ ap not (fault_first a w.if-pointers-ne0.true)
      | then-pointers-ne0-via-else-pointers-ne0+then-not-climbing w ↦
          ap not (fault_order a (sym (told_climbs a.pointers w.climbing.result w.climbing.ensures.0 w.climbing.ensures.1) ∙ w.if-not-climbing.true))
    ]

pub number_at-nnz-requires-clause-sign : goal.number_at-nnz-requires-clause-sign
number_at-nnz-requires-clause-sign c =
    let ps = c.args.pointers.now in
    let fits : mag (at ps 0) < 2 ^ hbits w32 = omega arith in
    sign_at ps (zero_read (at ps 0) fits c.if-pointers-ne0.false) (sym (told_climbs ps c.climbing.result c.climbing.ensures.0 c.climbing.ensures.1) ∙ c.if-not-climbing.false) c.args.columns

pub returns-then-most_entries-nnz-clause-pointed : goal.returns-then-most_entries-nnz-clause-pointed
returns-then-most_entries-nnz-clause-pointed c =
    let a = pattern_given (pos c.args.columns) c.args.pointers.now c.args.rows.now in
    elim c.then-most_entries-nnz.branch [
      | then-most_entries-nnz-via-then-most_entries-nnz w ↦ ap not (fault_most a (omega (arith, c.number_at-nnz.ensures, c.most_entries.ensures, w.if-most_entries-nnz.true)))
      | then-most_entries-nnz-via-else-most_entries-nnz+then-rows-nnz w ↦ ap not (fault_rows a (omega (arith, c.number_at-nnz.ensures, w.if-rows-nnz.true)))
    ]

-- past every test no pointer is wrong
right : (c : goal.Else-rows-nnz) → bad_pointers base_limits (pattern_given (pos c.args.columns) c.args.pointers.now c.args.rows.now) ≡ false
right c =
    let a = pattern_given (pos c.args.columns) c.args.pointers.now c.args.rows.now in
    let size : length a.pointers ≡ c.args.columns + 1 = grind arith in
    let fits : mag (at a.pointers 0) < 2 ^ hbits w32 = omega arith in
    no_fault a size (zero_read (at a.pointers 0) fits c.if-pointers-ne0.false)
    (sym (told_climbs a.pointers c.climbing.result c.climbing.ensures.0 c.climbing.ensures.1) ∙ c.if-not-climbing.false)
    (omega (arith, c.number_at-nnz.ensures, c.most_entries.ensures, c.if-most_entries-nnz.false))
    (omega (arith, c.number_at-nnz.ensures, c.if-rows-nnz.false))

pub invariant_of-result : goal.invariant_of-result
invariant_of-result c = right c

pub returns-clause-pointed : goal.returns-clause-pointed
returns-clause-pointed c = ap not (sym (right c))
