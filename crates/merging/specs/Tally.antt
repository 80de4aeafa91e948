-- What contracts see of a `Tally`: the flag to mark with, and how many merges are logged; and what is true of every one.
-- Assumes nothing.
use Rattle.std.specs.Prelude.{ℕ, ◌<◌, ◌^◌}

pub record Counts : Type 0 where
  pub flag : ℕ
  pub logged : ℕ

-- both are numbers of a cell
pub record Bounded (t : Counts) : Type 0 where
  pub flag : t.flag < 2 ^ 63
  pub logged : t.logged < 2 ^ 63
