use Rattle.std.proofs.Common.{rules}
use Rattle.plain.proofs.Turns.{turn}
use Rattle.trimming.proofs.keep_elements.Goals as goal

pub loop-t-preserved : goal.loop-t-preserved
loop-t-preserved c = record {
  turned = turn _ _ _ _ c.loop-t.invariant.turned _ (rw c.loop-t.invariant.columns at c.keep_element-k.ensures.kept);
  columns = search rules;
  size = search rules;
  names = search rules;
  low = search rules;
  high = search rules;
}
