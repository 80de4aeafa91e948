-- What is printed: numbers in decimal, one blank between two, a negative one as 0; and the line for a fault.
-- Assumes nothing.
use Rattle.std.specs.Prelude.{ℕ, List, ℤ, pos, negsuc, map, codes}
use Rattle.std.specs.Fmt.{signed_decimal}
use Rattle.std.specs.List.{join_with_byte}
use Rattle.text.specs.declared.Fault.{Fault}
use Rattle.text.specs.declared.Fault.TheVariants.{NotNumber, TooLarge, TooMany}

-- a negative number counts as 0
unfoldable pub floored : ℤ → ℤ
floored (pos n) = pos n
floored (negsuc n) = pos 0

unfoldable pub spaced : List ℤ → List ℕ
spaced xs = join_with_byte 32 (map (λ x. signed_decimal (floored x)) xs)

abbrev pub fault_text : Fault → List ℕ
fault_text NotNumber = codes "not a decimal number"
fault_text TooLarge = codes "a number is not below 2147483648"
fault_text TooMany = codes "too many numbers: the rows are at most 1024"
