-- The lists of A+A' in the list space.
-- Assumes nothing.
use Rattle.std.specs.Prelude.{ℕ, ◌<◌, ◌≡◌, List, [], ℤ, length, get_or}
use Rattle.plain.specs.Lists.{up_to, total}
use Rattle.plain.specs.Turns.{entries}
use Rattle.cells.specs.Layout.{PE, LEN}
use Rattle.cells.specs.View.{at, rd}

-- the rows of the graph A, packed from the start of the list space l, in order; free is the next free place
pub record Packed (n : ℕ) (A : List (List ℕ)) (l s : List ℤ) (free : ℕ) : Type 0 where
  pub list : (v : ℕ) → v < n → entries (at l) (rd n PE s v) (rd n LEN s v) ≡ get_or A v []
  pub place : (v : ℕ) → v < n → rd n PE s v ≡ total (λ u. length (get_or A u [])) (up_to v)
  pub count : (v : ℕ) → v < n → rd n LEN s v ≡ length (get_or A v [])
  pub end : free ≡ total length A
