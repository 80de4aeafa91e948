use Rattle.std.proofs.Common.{rules}
use Rattle.std.proofs.lemmas.Result.{err_from_is_err_and}
use Rattle.text.proofs.Walks.{begin, turn, stop, finish}
use Rattle.text.proofs.Counts.{read_failed, read_all}
use Rattle.text.proofs.read_numbers.Goals as goal

pub loop-b-init : goal.loop-b-init
loop-b-init c = search (rules, begin)

pub loop-b-preserved : goal.loop-b-preserved
loop-b-preserved c = search (rules, turn)

pub returns-in_err-scan : goal.returns-in_err-scan
returns-in_err-scan c =
    let p = err_from_is_err_and c.from_residual.result c.from_residual.ensures.1 in
    rw (p.1, p.2) (read_failed _ _ _ _ (stop _ _ _ _ _ c.loop-b.invariant _ _ c.loop-b-test.true c.in_err-scan.ensures.0))

pub returns-in_err-whole : goal.returns-in_err-whole
returns-in_err-whole c =
    let p = err_from_is_err_and c.from_residual-in_err-whole.result c.from_residual-in_err-whole.ensures.1 in
    rw (p.1, p.2) (read_failed _ _ _ _ (finish _ _ _ _ _ c.loop-b.invariant _ c.loop-b-test.false c.in_err-whole.ensures.0))

pub returns : goal.returns
returns c = read_all _ _ _ _ c.in_ok-whole.ensures.1 (finish _ _ _ _ _ c.loop-b.invariant _ c.loop-b-test.false c.in_ok-whole.ensures.0)
