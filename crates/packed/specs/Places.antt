-- Many lists in one memory. Object j's list is the `len j` numbers from `pe j` on; an object of length 0 is dead, and its place says nothing.
-- Assumes nothing.
use Rattle.std.specs.Prelude.{◌≡◌, ℕ, ◌+◌, ◌<◌, ◌≤◌, cond, ◌⊎◌, List, length, ℤ, nat_le, nat_lt}
use Rattle.plain.specs.Lists.{total, up_to}
use Rattle.plain.specs.Turns.{entries}
use Rattle.cells.specs.Layout.{LEN, ORD, PE}
use Rattle.cells.specs.View.{Room, at, rd}

-- D 0 + .. + D (k - 1)
abbrev pub sum_to : ℕ → (ℕ → ℕ) → ℕ
sum_to k D = total D (up_to k)

pub record Places : Type 0 where
  pub pe : ℕ → ℕ
  pub len : ℕ → ℕ

abbrev pub places : ℕ → List ℤ → Places
places n s = record { pe = rd n PE s; len = rd n LEN s }

-- cell q is object j's: never for a dead one
pub record Owns (f : Places) (j q : ℕ) : Type 0 where
  pub from : f.pe j ≤ q
  pub to : q < f.pe j + f.len j

-- the memory l holds the lists X below lim, at the places f, and no cell has two owners
pub record Mem (l : List ℤ) (f : Places) (lim : ℕ) (X : ℕ → List ℕ) : Type 0 where
  pub lists : (j : ℕ) → entries (at l) (f.pe j) (f.len j) ≡ X j
  pub one : (i j q : ℕ) → Owns f i q → Owns f j q → i ≡ j
  pub under : (j q : ℕ) → Owns f j q → q < lim
  pub fits : lim ≤ length l

-- ---- the order in which a collection meets the objects

-- the length of j's list if it begins below top, else 0
unfoldable pub due : Places → ℕ → ℕ → ℕ
due f top j = cond (nat_lt (f.pe j) top) (f.len j) 0

-- the length of j's list if it ends at e or before, else 0
unfoldable pub share : Places → ℕ → ℕ → ℕ
share f e j = cond (nat_le (f.pe j + f.len j) e) (f.len j) 0

-- i comes in the order at k or later
pub record Waits (ob : ℕ → ℕ) (cnt k i : ℕ) : Type 0 where
  pub turn : ℕ
  pub late : k ≤ turn
  pub soon : turn < cnt
  pub is : ob turn ≡ i

-- Before turn k of a collection down to d₀. Turn t meets object `ob t`, of whose list D t numbers are to be moved (0: it is dead, or begins
-- at top or later). The turns to come meet their objects by rising place, from e on and below top;
-- every list ends at e or before, or waits, or begins at top or later.
pub record Queue (f : Places) (ob : ℕ → ℕ) (cnt : ℕ) (D : ℕ → ℕ) (top d₀ k e : ℕ) : Type 0 where
  pub now : (u : ℕ) → k ≤ u → u < cnt → due f top (ob u) ≡ D u
  pub order : (t u : ℕ) → k ≤ t → t < u → u < cnt → 0 < D t → 0 < D u → f.pe (ob t) + D t ≤ f.pe (ob u)
  pub from : (u : ℕ) → k ≤ u → u < cnt → 0 < D u → e ≤ f.pe (ob u)
  pub to : (u : ℕ) → k ≤ u → u < cnt → 0 < D u → f.pe (ob u) + D u ≤ top
  pub each : (i q : ℕ) → Owns f i q → (f.pe i + f.len i ≤ e) ⊎ (Waits ob cnt k i ⊎ (top ≤ f.pe i))
  pub low : e ≤ top
  pub sum : e ≡ d₀ + sum_to k D
  pub placed : (t : ℕ) → t < k → t < cnt → 0 < D t → (f.pe (ob t) ≡ d₀ + sum_to t D) × (f.pe (ob t) + D t ≤ e)

-- The order of the lists in the memory: those that begin below base by number, behind them those of the table `ob`, by their turn.
pub record Sorted (f : Places) (ob : ℕ → ℕ) (cnt base lim : ℕ) : Type 0 where
  pub low : (i j : ℕ) → i < j → 0 < f.len i → 0 < f.len j → f.pe i < base → f.pe j < base → f.pe i + f.len i ≤ f.pe j
  pub edge : (i : ℕ) → 0 < f.len i → f.pe i < base → f.pe i + f.len i ≤ base
  pub over : (t : ℕ) → t < cnt → 0 < f.len (ob t) → base ≤ f.pe (ob t)
  pub high : (t u : ℕ) → t < u → u < cnt → 0 < f.len (ob t) → 0 < f.len (ob u) → f.pe (ob t) + f.len (ob t) ≤ f.pe (ob u)
  pub all : (i : ℕ) → 0 < f.len i → (f.pe i < base) ⊎ Waits ob cnt 0 i
  pub wide : base ≤ lim

-- all of it: the list space l and the scratch s hold the lists X below lim, in the order
pub record Space (n : ℕ) (X : ℕ → List ℕ) (l s : List ℤ) (cnt base lim : ℕ) : Type 0 where
  pub lists : Mem l (places n s) lim X
  pub room : Room n s
  pub sorted : Sorted (places n s) (rd n ORD s) cnt base lim
