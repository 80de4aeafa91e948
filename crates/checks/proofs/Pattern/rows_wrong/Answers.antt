-- `Pattern::rows_wrong` meets its contract.
use Prim.Native.Nat.{ℕ}
use native.Mathlib.Omega.{arith}
use mathlib.Core.Path.{sym, ap, ◌∙◌}
use mathlib.Core.Bool.{not}
use lib.IntN.{pos}
use lib.ListN.{take, length-take}
use Rattle.plain.specs.Lists.{every}
use Rattle.definition.specs.Pattern.{nnz, bad_rows}
use Rattle.checks.specs.Given.{is_row}
use Rattle.checks.proofs.Accepted.{accepted_pointers}
use Rattle.checks.proofs.Slices.{every_is}
use Rattle.checks.proofs.Pattern.rows_wrong.Goals as goal

pub slice_bounds-rows_right-end : goal.slice_bounds-rows_right-end
slice_bounds-rows_right-end c =
    let p = c.self.inside in
    let right = accepted_pointers p.columns p.pointers.now p.rows.now c.self.invariant in
    omega (arith, right.within, c.entries.ensures.nnz ∙ ap nnz (sym c.self.view_is), length-take c.entries.result p.rows.now)

pub returns : goal.returns
unfolding bad_rows
returns c =
    let p = c.self.inside in
    let test = is_row (pos p.columns) in
    ap not (c.rows_right.ensures ∙ every_is test (take c.entries.result p.rows.now)
    ∙ ap (λ (k : ℕ). every test (take k p.rows.now)) (c.entries.ensures.nnz ∙ ap nnz (sym c.self.view_is)))
    ∙ ap bad_rows c.self.view_is
