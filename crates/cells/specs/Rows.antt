-- The list space as a memory of rows: every cell holds one, so that whoever reads a cell that is there need not look at what it reads.
-- Assumes nothing.
use Rattle.std.specs.Prelude.{ℕ, ◌-◌, ◌<◌, min, ◌≡◌, Bool, true, false, List, ltb, ℤ, pos, negsuc, length, get_or}

-- z is a row of n
abbrev pub is_row : ℕ → ℤ → Bool
is_row n (pos k) = ltb k n
is_row n (negsuc k) = false

pub record Rows (n : ℕ) (l : List ℤ) : Type 0 where
  pub low : (q : ℕ) → q < length l → is_row n (get_or l q (pos 0)) ≡ true

-- how many of the k cells from p on are there, of size in all
unfoldable pub clipped : ℕ → ℕ → ℕ → ℕ
clipped size p k = min k (size - p)
