-- A list that has each of 0, 1, .., n - 1 once.
-- Assumes nothing.
use Rattle.std.specs.Prelude.{ℕ, ◌<◌, ◌≡◌, List, length}
use Rattle.plain.specs.Members.{In, Distinct}

-- as long, in range, and no number twice
pub record Permutation (n : ℕ) (xs : List ℕ) : Type 0 where
  pub size : length xs ≡ n
  pub below : (x : ℕ) → In x xs → x < n
  pub once : Distinct xs
