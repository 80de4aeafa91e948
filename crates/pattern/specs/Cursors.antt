-- Lists that grow, each from its own place on, by a store at its cursor: no memory is spoken of, only what its reads give.
-- Assumes nothing.
use Rattle.std.specs.Prelude.{ℕ, ◌+◌, ◌≤◌, ◌<◌, ◌≡◌, List, length}
use Rattle.plain.specs.Turns.{entries}

-- no list is longer than the room that is left for it
pub record Fits (n : ℕ) (len : ℕ → ℕ) (X : ℕ → List ℕ) : Type 0 where
  pub most : (i : ℕ) → i < n → length (X i) ≤ len i

-- the rooms lie one behind the other, before the end
pub record Apart (n : ℕ) (start len : ℕ → ℕ) (size : ℕ) : Type 0 where
  pub order : (i j : ℕ) → i < j → j < n → start i + len i ≤ start j
  pub inside : (i : ℕ) → i < n → start i + len i ≤ size

-- cur and F, the cursors and the cells, after the lists X were written: as long as they fit, each cursor stands behind its list; and where the rooms lie
-- apart, each list stands in its room
pub record Filled (n : ℕ) (start len : ℕ → ℕ) (size : ℕ) (cur F : ℕ → ℕ) (X : ℕ → List ℕ) : Type 0 where
  pub cursor : Fits n len X → (i : ℕ) → i < n → cur i ≡ start i + length (X i)
  pub held : Fits n len X → Apart n start len size → (i : ℕ) → i < n → entries F (start i) (length (X i)) ≡ X i
