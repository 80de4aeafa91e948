-- What contracts see of a `Met`: the weight of the new element, and what it makes of the numbers that the next pivot takes over; and what is true of every one.
-- Assumes nothing.
use Rattle.std.specs.Prelude.{ℕ, ◌<◌, ◌^◌}

pub record Effects : Type 0 where
  pub size : ℕ
  pub most : ℕ
  pub flag : ℕ
  pub merges : ℕ

-- numbers that a cell can hold
pub record Few (x : Effects) : Type 0 where
  pub size : x.size < 2 ^ 63
  pub most : x.most < 2 ^ 63
  pub flag : x.flag < 2 ^ 63
  pub merges : x.merges < 2 ^ 63
