-- What contracts see of a `Merged`: the weight merged into the pivot so far, and the rows in the log; and what is true of every one.
-- Assumes nothing.
use Rattle.std.specs.Prelude.{ℕ, ◌<◌, ◌^◌}

pub record Totals : Type 0 where
  pub weight : ℕ
  pub made : ℕ

-- both are numbers of a cell
pub record Few (t : Totals) : Type 0 where
  pub weight : t.weight < 2 ^ 63
  pub made : t.made < 2 ^ 63
