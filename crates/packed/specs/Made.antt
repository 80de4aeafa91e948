-- What contracts see of a `Made`: a new element's place and length, the free end behind it, and what else the next gather takes over; and what is true of each.
-- Assumes nothing.
use Rattle.std.specs.Prelude.{ℕ, ◌<◌, ◌^◌}

pub record Arrival : Type 0 where
  pub start : ℕ
  pub count : ℕ
  pub free : ℕ
  pub base : ℕ
  pub made : ℕ
  pub collected : ℕ

-- each number is small, as the next gather asks
pub record Brief (r : Arrival) : Type 0 where
  pub start : r.start < 2 ^ 63
  pub count : r.count < 2 ^ 63
  pub free : r.free < 2 ^ 63
  pub made : r.made < 2 ^ 63
  pub collected : r.collected < 2
