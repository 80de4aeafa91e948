-- Lengths within the program's arrays.
-- Assumes nothing.
use Rattle.std.specs.Prelude.{◌≤◌}
use Rattle.replay.specs.declared.Lengths.{Lengths}

pub record Fitting (k : Lengths) : Type 0 where
  pub permutation : k.permutation ≤ 160
  pub inverse : k.inverse ≤ 160
  pub lists : k.lists ≤ 2048
  pub scratch : k.scratch ≤ 4096
