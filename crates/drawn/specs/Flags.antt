-- The marks of the rows: all below the flag, 0 exactly where an element is no more.
-- Assumes nothing.
use Rattle.std.specs.Prelude.{ℕ, ◌≤◌, ◌<◌, ◌≡◌, true, false, List, ℤ, length}
use Rattle.definition.specs.State.{Graph, kind, variables_of, live, is_element, is_variable}
use Rattle.cells.specs.Layout.{W}
use Rattle.cells.specs.View.{rd}

pub record Flagged (n : ℕ) (s : List ℤ) (g : Graph) (flag : ℕ) : Type 0 where
  pub below : (x : ℕ) → x < n → rd n W s x < flag
  -- a variable, or a live element that has variables, is there
  pub variable : (x : ℕ) → x < n → is_variable (kind g x) ≡ true → 1 ≤ rd n W s x
  pub element : (x : ℕ) → x < n → is_element (kind g x) ≡ true → live g x ≡ true → 0 < length (variables_of g x) → 1 ≤ rd n W s x
  -- an element that another took up is not
  pub absorbed : (x : ℕ) → x < n → is_element (kind g x) ≡ true → live g x ≡ false → rd n W s x ≡ 0
