-- What step 5 asks of the rows that it compares, and of the memory.
-- Assumes nothing.
use Rattle.std.specs.Prelude.{ℕ, ◌<◌, ◌^◌, true, List, ◌∷◌, ◌≢◌, ◌≡◌, ℤ, length}
use Rattle.plain.specs.Lists.{total}
use Rattle.plain.specs.Members.{Distinct, In}
use Rattle.definition.specs.Merge.{entries_of}
use Rattle.definition.specs.State.{Graph, elements_of, has_weight, is_variable, kind, live, weight}
use Rattle.drawn.specs.Drawn.{Within}
use Rattle.drawn.specs.Log.{Logged}
use Rattle.facts.specs.Invariant.{Sized}

-- a row that step 5 compares: a variable of the new element, whose list begins with it
pub record Row (n p : ℕ) (new : List ℕ) (h : Graph) (v : ℕ) : Type 0 where
  pub below : v < n
  pub other : v ≢ p
  pub inside : In v new
  pub heavy : has_weight h v ≡ true
  pub is : is_variable (kind h v) ≡ true
  pub orphan : live h v ≡ true
  pub rest : List ℕ
  pub elements : elements_of h v ≡ p ∷ rest
  pub few : (y : ℕ) → In y (entries_of h v) → y < n
  pub once : Distinct (entries_of h v)

-- the memory holds the graph and the log of its merges, `log` of them, and no sum of weights goes beyond a cell
pub record Now (n : ℕ) (l : List ℤ) (p : ℕ) (new : List ℕ) (cnt base lim : ℕ) (s : List ℤ) (h : Graph) (log : ℕ) : Type 0 where
  pub drawn : Within n l s h p new cnt base lim
  pub sized : Sized n h
  pub light : total (weight h) new < 2 ^ 63
  pub small : n < 2 ^ 63
  pub ms : List ℕ
  pub logged : Logged n s h ms
  pub count : log ≡ length ms
