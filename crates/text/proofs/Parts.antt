-- The first cells of an array, lent as a slice.
-- Assumes nothing.
use Prim.Native.Nat.{ℕ, ◌≤◌}
use native.Mathlib.Omega.{arith}
use mathlib.Core.Path.{◌≡◌}
use mathlib.Core.List.{List}
use lib.IntN.{ℤ}
use lib.ListN.{length, take, length-take}

pub part_length : (k : ℕ) (l : List ℤ) → k ≤ length l → k ≡ length (take k l)
part_length k l h = omega (arith, length-take k l)
