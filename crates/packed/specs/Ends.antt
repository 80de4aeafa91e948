-- What contracts see of `Ends`: the end of the lists that go by number, and the end of all.
-- Assumes nothing.
use Rattle.std.specs.Prelude.{ℕ}

pub record Edges : Type 0 where
  pub base : ℕ
  pub end : ℕ
