-- The columns of the pattern in the scratch.
-- Assumes nothing.
use Rattle.std.specs.Prelude.{ℕ, suc, ◌-◌, ◌≤◌, ◌<◌, ◌≡◌, List, [], ℤ, get_or}
use Rattle.plain.specs.Turns.{entries}
use Rattle.cells.specs.Layout.{COLUMN, ENTRY}
use Rattle.cells.specs.View.{rd}

-- the pointers E start at 0 and rise, and column k stands in the rows F from pointer k up to pointer k + 1
pub record Stands (n : ℕ) (E F : ℕ → ℕ) (cols : List (List ℕ)) : Type 0 where
  pub first : E 0 ≡ 0
  pub step : (k : ℕ) → k < n → E k ≤ E (suc k)
  pub column : (k : ℕ) → k < n → entries F (E k) (E (suc k) - E k) ≡ get_or cols k []

abbrev pub Columned : ℕ → List ℤ → List (List ℕ) → Type 0
Columned n s cols = Stands n (rd n COLUMN s) (rd n ENTRY s) cols
