-- Problems to compute on, and what is shown of their outcomes.
-- Assumes nothing.
use Prim.Native.Nat.{ℕ, ◌-◌}
use mathlib.Core.Bool.{Bool, true, false, ◌&&◌}
use mathlib.Core.List.{List, [], ◌∷◌, map}
use lib.IntN.{pos, negsuc}
use lib.Dec.{eqb}
use lib.ListN.{length, replicate}
use lib.Ieee.{Float, fin}
use Rattle.plain.specs.Lists.{count_up}
use Rattle.definition.specs.Limits.{lists_room, scratch_room}
use Rattle.definition.specs.Answers.{Problem}
use Rattle.definition.specs.Outcome.{Statistics}

-- ---- multipliers

abbrev pub ten : Float
ten = fin false 5 (pos 1)

abbrev pub minus_one : Float
minus_one = fin true 1 (pos 0)

abbrev pub a_quarter : Float
a_quarter = fin false 1 (negsuc 1)

abbrev pub minus_zero : Float
minus_zero = fin true 0 (pos 0)

-- ---- problems

-- n columns, with pointers, rows, multiplier, aggressive or not, and the size of lists
abbrev pub problem : ℕ → List ℕ → List ℕ → Float → Bool → ℕ → Problem
problem n pointers rows m aggressive lists = record {
  pattern = record { n = pos n; pointers = map pos pointers; rows = map pos rows };
  multiplier = m;
  aggressive = aggressive;
  permutation_size = n;
  inverse_size = n;
  lists_size = lists;
  scratch_size = scratch_room n (length rows);
}

-- aggressive, in the least room
abbrev pub asked : ℕ → List ℕ → List ℕ → Float → Problem
asked n pointers rows m = problem n pointers rows m true (lists_room n (length rows))

-- row 0 in each column but column 0, full rows only
abbrev pub star : ℕ → Problem
star n = asked n (0 ∷ count_up 0 n) (replicate (n - 1) 0) minus_one

-- ---- what is shown

-- in document 01's order
abbrev pub seven_of : Statistics → List ℕ
seven_of s = s.lnz ∷ s.n_div ∷ s.n_mult_subs_ldl ∷ s.n_mult_subs_lu ∷ s.n_dense ∷ s.d_max ∷ s.n_cmp_a ∷ []

-- n_cmp_a left out
abbrev pub six_of : Statistics → List ℕ
six_of s = s.lnz ∷ s.n_div ∷ s.n_mult_subs_ldl ∷ s.n_mult_subs_lu ∷ s.n_dense ∷ s.d_max ∷ []

unfoldable pub equal : List ℕ → List ℕ → Bool
equal [] [] = true
equal [] (y ∷ ys) = false
equal (x ∷ xs) [] = false
equal (x ∷ xs) (y ∷ ys) = eqb x y && equal xs ys
