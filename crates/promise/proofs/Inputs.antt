-- The inputs on which the shams fail.
-- Assumes nothing.
use Prim.Native.Nat.{ℕ}
use mathlib.Core.Bool.{Bool, true, false}
use mathlib.Core.List.{List, [], ◌∷◌, map}
use lib.IntN.{pos}
use lib.ListN.{length, replicate}
use Rattle.definition.specs.Limits.{scratch_room}
use Rattle.definition.specs.Promise.{Lent}
use Rattle.definition.proofs.Problems.{ten}

-- n columns, with pointers and rows, and so many cells of lists; every slice that may be written holds ones
abbrev offered : ℕ → List ℕ → List ℕ → Bool → ℕ → Lent
offered n pointers rows aggressive lists = record {
  n = pos n;
  pointers = map pos pointers;
  rows = map pos rows;
  multiplier = ten;
  aggressive = aggressive;
  permutation = replicate n (pos 1);
  inverse = replicate n (pos 1);
  lists = replicate lists (pos 1);
  scratch = replicate (scratch_room n (length rows)) (pos 1);
}

-- case D, a path of three rows, at the least room
abbrev pub path : Lent
path = offered 3 (0 ∷ 0 ∷ 1 ∷ 2 ∷ []) (0 ∷ 1 ∷ []) true 7

-- the path 2, 0, 3, 1
abbrev pub longer : Lent
longer = offered 4 (0 ∷ 0 ∷ 0 ∷ 1 ∷ 3 ∷ []) (0 ∷ 0 ∷ 1 ∷ []) true 10

-- eight rows, aggressive off, in so many cells of lists
abbrev crowded : ℕ → Lent
crowded lists = offered 8 (0 ∷ 0 ∷ 0 ∷ 1 ∷ 3 ∷ 5 ∷ 6 ∷ 9 ∷ 12 ∷ []) (1 ∷ 0 ∷ 2 ∷ 2 ∷ 3 ∷ 0 ∷ 1 ∷ 4 ∷ 5 ∷ 1 ∷ 3 ∷ 5 ∷ []) false lists

-- the least room, which fills up
abbrev pub tight : Lent
tight = crowded 32

-- a cell more, and it does not
abbrev pub roomier : Lent
roomier = crowded 33
