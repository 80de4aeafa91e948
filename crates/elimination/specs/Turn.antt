-- What contracts see of a `Turn`: the numbers that a pivot takes over from the one before; and what is true of every one.
-- Assumes nothing.
use Rattle.std.specs.Prelude.{ℕ, ◌<◌, ◌^◌}

pub record Progress : Type 0 where
  pub gone : ℕ
  pub least : ℕ
  pub flag : ℕ
  pub most : ℕ
  pub merges : ℕ
  pub base : ℕ
  pub free : ℕ
  pub made : ℕ
  pub collections : ℕ

-- numbers that a cell can hold
pub record Small (t : Progress) : Type 0 where
  pub gone : t.gone < 2 ^ 63
  pub least : t.least < 2 ^ 63
  pub flag : t.flag < 2 ^ 63
  pub most : t.most < 2 ^ 63
  pub merges : t.merges < 2 ^ 63
  pub free : t.free < 2 ^ 63
  pub made : t.made < 2 ^ 63
  pub collections : t.collections < 2 ^ 63
