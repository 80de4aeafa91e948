-- `replay::replay_all` is safe and ends.
use Rattle.std.proofs.Common.{length}
use Rattle.replay.proofs.replay_all.Given as goal

abbrev pub decreases-loop-left : goal.decreases-loop-left
decreases-loop-left g l = length l.left
