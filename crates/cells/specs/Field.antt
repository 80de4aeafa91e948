-- The number of a field, as `Layout` has it.
-- Assumes nothing.
use Rattle.std.specs.Prelude.{ℕ}
use Rattle.cells.specs.declared.field.Field.{Field}
use Rattle.cells.specs.declared.field.Field.TheVariants.{Pe, Len, Want, Elen, Degree, W, Next, Last, Head, HHead, HNext, HKey, Ord, Merges, Nv}

abbrev pub field_number : Field → ℕ
field_number Pe = 0
field_number Len = 1
field_number Want = 2
field_number Elen = 3
field_number Degree = 4
field_number W = 5
field_number Next = 6
field_number Last = 7
field_number Head = 8
field_number HHead = 9
field_number HNext = 10
field_number HKey = 11
field_number Ord = 12
field_number Merges = 13
field_number Nv = 14
