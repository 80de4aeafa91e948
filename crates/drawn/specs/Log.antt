-- The log of merges: each merged row once, a row before the one that took it, if that was merged in its turn.
-- Assumes nothing.
use Rattle.std.specs.Prelude.{ℕ, suc, ◌<◌, ◌≡◌, ◌⊎◌, true, false, List, ℤ, length, get_or, drop}
use Rattle.std.proofs.Math.Option.{some}
use Rattle.plain.specs.Members.{In, Distinct}
use Rattle.plain.specs.Turns.{entries}
use Rattle.definition.specs.State.{Graph, kind, parent, is_merged}
use Rattle.cells.specs.Layout.{MERGES}
use Rattle.cells.specs.View.{rd}

pub record Logged (n : ℕ) (s : List ℤ) (g : Graph) (ms : List ℕ) : Type 0 where
  pub log : entries (rd n MERGES s) 0 (length ms) ≡ ms
  pub once : Distinct ms
  pub inside : (v : ℕ) → In v ms → (v < n) × (is_merged (kind g v) ≡ true)
  pub all : (v : ℕ) → v < n → is_merged (kind g v) ≡ true → In v ms
  -- whoever took the row at t is not merged, or is logged behind it
  pub later : (t p : ℕ) → t < length ms → parent g (get_or ms t 0) ≡ some p → (is_merged (kind g p) ≡ false) ⊎ In p (drop (suc t) ms)
