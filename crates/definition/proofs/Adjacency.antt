-- "its neighbours in A+A' (..) in the order in which `amd_1.rs` writes them, for a jumbled pattern from what `preprocess.rs` gives": one table, under one
-- statement. Each pattern has a pair that waits until another wakes it, a pair that is stored twice, and a pair that is left over; were one of them
-- written elsewhere, or twice, the lists would differ.
-- Assumes nothing.
use Prim.Native.Nat.{ℕ}
use mathlib.Core.Path.{◌≡◌, refl}
use mathlib.Core.List.{List, [], ◌∷◌, map}
use Rattle.definition.specs.Cleaned.{cleaned}
use Rattle.definition.specs.Neighbours.{neighbours}
use Rattle.definition.specs.Opened.{opened}

pub record Row : Type 0 where
  pub columns : List (List ℕ)
  pub says : List (List ℕ)

abbrev row : List (List ℕ) → List (List ℕ) → Row
row columns l = record { columns = columns; says = l }

-- the second and the third have a diagonal entry; the last is jumbled, and its rows as they stand, sorted or not, have other lists
abbrev pub table : List Row
table =
    row ((1 ∷ 3 ∷ []) ∷ (3 ∷ []) ∷ [] ∷ (0 ∷ []) ∷ [])
    ((3 ∷ 1 ∷ []) ∷ (0 ∷ 3 ∷ []) ∷ [] ∷ (0 ∷ 1 ∷ []) ∷ [])
    ∷ row ((2 ∷ 3 ∷ 4 ∷ []) ∷ (0 ∷ []) ∷ (2 ∷ 5 ∷ []) ∷ [] ∷ (0 ∷ []) ∷ (1 ∷ []) ∷ [])
    ((1 ∷ 4 ∷ 2 ∷ 3 ∷ []) ∷ (0 ∷ 5 ∷ []) ∷ (0 ∷ 5 ∷ []) ∷ (0 ∷ []) ∷ (0 ∷ []) ∷ (1 ∷ 2 ∷ []) ∷ [])
    ∷ row ((0 ∷ 3 ∷ []) ∷ (3 ∷ 4 ∷ 5 ∷ []) ∷ (0 ∷ 5 ∷ []) ∷ [] ∷ [] ∷ (1 ∷ []) ∷ (1 ∷ 3 ∷ []) ∷ [] ∷ [])
    ((2 ∷ 3 ∷ []) ∷ (5 ∷ 3 ∷ 4 ∷ 6 ∷ []) ∷ (0 ∷ 5 ∷ []) ∷ (1 ∷ 6 ∷ 0 ∷ []) ∷ (1 ∷ []) ∷ (1 ∷ 2 ∷ []) ∷ (1 ∷ 3 ∷ []) ∷ [] ∷ [])
    ∷ row ((2 ∷ []) ∷ (4 ∷ 4 ∷ []) ∷ (3 ∷ 1 ∷ 1 ∷ []) ∷ (1 ∷ 2 ∷ []) ∷ (0 ∷ []) ∷ [])
    ((2 ∷ 4 ∷ []) ∷ (4 ∷ 2 ∷ 3 ∷ []) ∷ (0 ∷ 3 ∷ 1 ∷ []) ∷ (2 ∷ 1 ∷ []) ∷ (1 ∷ 0 ∷ []) ∷ [])
    ∷ []

pub listed : map (λ r. neighbours (cleaned r.columns)) table ≡ map (λ r. r.says) table
unfolding opened
listed = refl
