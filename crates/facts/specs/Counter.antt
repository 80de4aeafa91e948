-- How a program finds an external size: the counter of an element starts at its weight, and loses the weight of each row of the new element that has it.
-- Assumes nothing.
use Rattle.std.specs.Prelude.{ℕ, cond, List}
use Rattle.plain.specs.Lists.{member}
use Rattle.definition.specs.State.{Graph, weight, elements_of}
use Rattle.definition.specs.Pivot.{collected}

-- what the counter of e loses to row i
abbrev pub sharing : Graph → ℕ → ℕ → ℕ
sharing g e i = cond (member e (elements_of g i)) (weight g i) 0

-- the rows that it meets: those of the new element, and not the pivot
abbrev pub met : Graph → ℕ → List ℕ
met g p = collected g p
