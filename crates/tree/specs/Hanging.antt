-- The lists of what hangs under each row, as links of the memory: from a first row by the rows behind it to n, which is none.
-- Assumes nothing.
use Rattle.std.specs.Prelude.{ℕ, ◌≤◌, ◌<◌, ◌≡◌, List, [], ◌∷◌, ℤ}
use Rattle.cells.specs.Layout.{SIBLING, FIRST}
use Rattle.cells.specs.View.{rd}

-- from x the links `behind` lead through the rows of the list
abbrev pub Chain : ℕ → (ℕ → ℕ) → ℕ → List ℕ → Type 0
Chain n behind x [] = x ≡ n
Chain n behind x (i ∷ l) = (x ≡ i) × (i < n) × Chain n behind (behind i) l

-- under each p up to n hangs L p
pub record Hanging (n : ℕ) (s : List ℤ) (L : ℕ → List ℕ) : Type 0 where
  pub under : (p : ℕ) → p ≤ n → Chain n (rd n SIBLING s) (rd n FIRST s p) (L p)
