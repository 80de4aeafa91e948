-- The table of the elements that were made at the free end of the lists: each an element, and each once.
-- Assumes nothing.
use Rattle.std.specs.Prelude.{ℕ, ◌<◌, ◌≡◌, ◌≢◌, true, List, ℤ}
use Rattle.definition.specs.State.{Graph, is_element, kind}
use Rattle.cells.specs.Layout.{ORD}
use Rattle.cells.specs.View.{rd}

pub record Ordered (n : ℕ) (s : List ℤ) (g : Graph) (made : ℕ) : Type 0 where
  pub old : (i : ℕ) → i < made → is_element (kind g (rd n ORD s i)) ≡ true
  pub once : (i j : ℕ) → i < j → j < made → rd n ORD s i ≢ rd n ORD s j
