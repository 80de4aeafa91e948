use Rattle.std.proofs.Common.{rules, arith}
use Rattle.placing.proofs.Restoring.{restoring_begins, restoring_keeps, restoring_passes, restoring_placed, restoring_kept}
use Rattle.placing.proofs.restore.Goals as goal
use Rattle.placing.proofs.restore.Goals.{then-own-gt0, else-own-gt0}

pub loop-q-init : goal.loop-q-init
loop-q-init c = search (rules, restoring_begins)

pub loop-q-preserved : goal.loop-q-preserved
loop-q-preserved c =
    elim c.if-own-gt0.branch [
      | then-own-gt0 w ↦ record {
        restoring = restoring_keeps c.loop-q.invariant.restoring c.row-i.result c.get-own.result (search rules) (search rules)
            (search rules) (search rules) (search rules) (search rules);
        same = search rules;
        small = search rules;
        within = omega arith;
      }
      | else-own-gt0 w ↦ record {
        restoring = rw (w.m-is, w.r-is) (restoring_passes c.loop-q.invariant.restoring c.row-i.result c.get-own.result (search rules) (search rules) (search rules));
        same = search rules;
        small = search rules;
        within = omega arith;
      }
    ]

pub returns-clause-placed : goal.returns-clause-placed
returns-clause-placed c = search (rules, restoring_placed)

pub returns-clause-kept : goal.returns-clause-kept
returns-clause-kept c = search (rules, restoring_kept)
