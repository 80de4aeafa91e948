-- `text::Spaced` prints what its `output` says: the numbers up to the index, with a blank before the next.
use Rattle.std.proofs.Common.{◌≡◌, take}
use Rattle.std.specs.Fmt.{HasWritten, IsPlainFormatter}
use Rattle.text.specs.Printed.{spaced}
use Rattle.text.proofs.Spaces.{between}
use Rattle.text.proofs.SpacedDisplay.fmt.Given as goal

abbrev pub invariant-loop-x : goal.invariant-loop-x
invariant-loop-x g l = record {
  blank : l.between ≡ between l.x-index;
  wrote : IsPlainFormatter l.initial.f → HasWritten g.W.Write.write_str_gives l.initial.f (spaced (take l.x-index l.self.0.now)) l.f;
}
