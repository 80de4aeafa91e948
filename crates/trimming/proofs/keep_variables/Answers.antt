use Rattle.std.proofs.Common.{rules}
use Rattle.plain.proofs.Turns.{turn}
use Rattle.trimming.proofs.keep_variables.Goals as goal

pub loop-t-preserved : goal.loop-t-preserved
loop-t-preserved c = record {
  turned = turn _ _ _ _ c.loop-t.invariant.turned _ c.keep_variable-k.ensures.kept;
  size = search rules;
  rows = search rules;
  elements = search rules;
  low = search rules;
  high = search rules;
}
