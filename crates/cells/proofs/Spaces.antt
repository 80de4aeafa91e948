-- Spaces where nothing was done, and the numbers of the fields.
-- Assumes nothing.
use Rattle.std.specs.Prelude.{◌<◌, ◌≡◌, List, ℤ, refl}
use Rattle.std.proofs.Common.{arith, sym}
use Rattle.cells.specs.declared.field.Field.{Field}
use Rattle.cells.specs.declared.field.Field.TheVariants.{Pe, Len, Want, Elen, Degree, W, Next, Last, Head, HHead, HNext, HKey, Ord, Merges, Nv}
use Rattle.cells.specs.Field.{field_number}
use Rattle.cells.specs.Space.{Space}

pub still : (m : Space) (s : List ℤ) → m.scratch ≡ s → m ≡ record m { scratch = s }
still m s e = rw (sym e) refl

-- ---- the number of a field

pub field_small : (f : Field) → field_number f < 15
field_small Pe = omega arith
field_small Len = omega arith
field_small Want = omega arith
field_small Elen = omega arith
field_small Degree = omega arith
field_small W = omega arith
field_small Next = omega arith
field_small Last = omega arith
field_small Head = omega arith
field_small HHead = omega arith
field_small HNext = omega arith
field_small HKey = omega arith
field_small Ord = omega arith
field_small Merges = omega arith
field_small Nv = omega arith

pub field_above : (f : Field) → (f ≡ Pe → ⊥) → 0 < field_number f
field_above Pe d = absurd (d refl)
field_above Len d = omega arith
field_above Want d = omega arith
field_above Elen d = omega arith
field_above Degree d = omega arith
field_above W d = omega arith
field_above Next d = omega arith
field_above Last d = omega arith
field_above Head d = omega arith
field_above HHead d = omega arith
field_above HNext d = omega arith
field_above HKey d = omega arith
field_above Ord d = omega arith
field_above Merges d = omega arith
field_above Nv d = omega arith
