-- What the marks say after step 3, for the definition: g is the graph with the passed elements marked, and new the collected variables.
-- Assumes nothing.
use Rattle.std.specs.Prelude.{◌≡◌, ℕ, ◌+◌, false, cond, List, ℤ}
use Rattle.plain.specs.Lists.{member}
use Rattle.plain.specs.Members.{In}
use Rattle.definition.specs.State.{Graph, elements_of, live}
use Rattle.definition.specs.Trim.{external}
use Rattle.cells.specs.Layout.{W}
use Rattle.cells.specs.View.{rd}
use Rattle.sizing.specs.Sizes.{Kept}

pub record Outside (n flag : ℕ) (s t : List ℤ) (g : Graph) (new : List ℕ) : Type 0 where
  pub kept : Kept n s t
  -- an element of a collected variable: the flag and its external size while it is live, else 0
  pub sizes : (e i : ℕ) → In i new → In e (elements_of g i) → rd n W t e ≡ cond (live g e) (flag + external g new e) 0
  -- every other mark is as it was, and 0 stays 0
  pub others : (e : ℕ) → ((i : ℕ) → In i new → member e (elements_of g i) ≡ false) → rd n W t e ≡ rd n W s e
  pub gone : (e : ℕ) → rd n W s e ≡ 0 → rd n W t e ≡ 0
