-- `text::read_numbers` meets its contract: what is left of the text leads to the whole reading.
use Rattle.text.proofs.Walks.{Going}
use Rattle.text.proofs.read_numbers.Given as goal

abbrev pub invariant-loop-b : goal.invariant-loop-b
invariant-loop-b l = Going l.text l.initial.out l.out l.scan l.b-index
