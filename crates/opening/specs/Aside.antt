-- What contracts see of an `Aside`: how many rows are no variables from the start, those without neighbours and the dense ones; and what is true of each.
-- Assumes nothing.
use Rattle.std.specs.Prelude.{ℕ, ◌<◌, ◌^◌}

pub record Exceptions : Type 0 where
  pub roots : ℕ
  pub dense : ℕ

-- both are numbers of a cell
pub record Slight (a : Exceptions) : Type 0 where
  pub roots : a.roots < 2 ^ 63
  pub dense : a.dense < 2 ^ 63
