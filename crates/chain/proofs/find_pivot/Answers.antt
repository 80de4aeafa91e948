use Rattle.std.proofs.Common.{rules}
use Rattle.chain.proofs.Turn.{start, more, nothing, found}
use Rattle.chain.proofs.find_pivot.Goals as goal

pub loop-d-init : goal.loop-d-init
loop-d-init c = search (rules, start)

pub loop-d-preserved : goal.loop-d-preserved
loop-d-preserved c = search (rules, more)

pub returns-then-n-d-clause-none : goal.returns-then-n-d-clause-none
returns-then-n-d-clause-none c = search (rules, nothing)

pub returns-then-front-n-clause-first : goal.returns-then-front-n-clause-first
returns-then-front-n-clause-first c = search (rules, found)
