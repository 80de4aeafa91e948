use Rattle.std.proofs.Common.{rules, ◌+◌}
use Rattle.plain.specs.Turns.{times}
use Rattle.cells.specs.View.{at, wrapped}
use Rattle.sizing.specs.Model.{weighed_row}
use Rattle.sizing.proofs.Marks.{weight_stays}
use Rattle.sizing.proofs.size_all.Goals as goal

pub loop-t-preserved : goal.loop-t-preserved
unfolding times weighed_row wrapped
loop-t-preserved c =
    search (rules, weight_stays _ _ _ _ c.args.flag c.args.part.from c.loop-t.t (at c.args.lists.now (c.args.part.from + c.loop-t.t)) c.loop-t.invariant.marks)
