-- `checks::rises` meets its contract.
use Rattle.checks.proofs.Slices.{part_rises}
use Rattle.checks.proofs.rises.Goals as goal

pub returns : goal.returns
returns c =
    let a = c.args in
    part_rises a.rows.now a.from a.to c.rising.result c.requires.order c.requires.within c.rising.ensures.0 c.rising.ensures.1 c.requires.signs
