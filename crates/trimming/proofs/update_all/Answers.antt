use Rattle.std.proofs.Common.{rules}
use Rattle.plain.proofs.Turns.{turn}
use Rattle.trimming.proofs.update_all.Goals as goal

pub loop-j-preserved : goal.loop-j-preserved
loop-j-preserved c = record {
  turned = turn _ _ _ _ c.loop-j.invariant.turned _ (rw c.loop-j.invariant.columns at c.update_at-t.ensures.updated);
  columns = search rules;
  size = search rules;
  names = search rules;
}
