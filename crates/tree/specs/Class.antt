-- The number of a class, as `Model` has it.
-- Assumes nothing.
use Rattle.std.specs.Prelude.{ℕ}
use Rattle.tree.specs.declared.Class.{Class}
use Rattle.tree.specs.declared.Class.TheVariants.{Light, Largest, Other}

abbrev pub class_number : Class → ℕ
class_number Light = 0
class_number Largest = 1
class_number Other = 2
