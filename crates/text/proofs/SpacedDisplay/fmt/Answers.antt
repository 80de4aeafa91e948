use Rattle.std.proofs.Common.{rules, refl, add-one}
use Rattle.std.proofs.Output.{has_written_append, has_written_of_eq}
use Rattle.text.proofs.Spaces.{spaced_none, spaced_more}
use Rattle.text.proofs.SpacedDisplay.fmt.Goals as goal

pub loop-x-init : goal.loop-x-init
loop-x-init g c = record { blank = refl; wrote = λ p. rw spaced_none (search rules) }

pub loop-x-preserved : goal.loop-x-preserved
loop-x-preserved g c = record {
  blank = rw add-one refl;
  wrote = λ p. has_written_of_eq _ _ _ _ _
      (spaced_more _ _ _ c.floored-shown.result c.loop-x-test.true c.loop-x.invariant.blank (search rules))
      (has_written_append _ _ _ _ _ _ (c.loop-x.invariant.wrote p) (search rules));
}
