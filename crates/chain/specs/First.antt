-- The first degree at or after a given one whose list has a front: what the search for a pivot finds.
-- Assumes nothing.
use Rattle.std.specs.Prelude.{ℕ, ◌<◌, ◌≤◌, ◌≡◌, List, ℤ}
use Rattle.cells.specs.Layout.{HEAD}
use Rattle.cells.specs.View.{rd}

-- i is the front of list d, the first at or after m that has one; i is n where there is none up to n
pub record First (n : ℕ) (s : List ℤ) (m i d : ℕ) : Type 0 where
  pub from : m ≤ d
  pub none : (e : ℕ) → m ≤ e → e < d → n ≤ rd n HEAD s e
  pub here : i < n → (d < n) × (i ≡ rd n HEAD s d)
  pub nowhere : n ≤ i → (i ≡ n) × (n ≤ d)
