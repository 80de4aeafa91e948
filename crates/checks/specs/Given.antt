-- The pattern and the problem that a check is given, as the definition has them, and the test of one row.
-- Assumes nothing.
use Rattle.std.specs.Prelude.{ℕ, Bool, ◌&&◌, ◌||◌, List, [], ◌∷◌, ltb, Float, ℤ, pos}
use Rattle.std.specs.Int.Signed.{le_z, lt_z}
use Rattle.definition.specs.Limits.{base_limits, lists_room, scratch_room}
use Rattle.definition.specs.Pattern.{Pattern, column_count, nnz, columns, jumbled, bad_pointers, bad_rows}
use Rattle.definition.specs.Answers.{Answer, wrong_pointers, wrong_rows, wrong_room, ordered_jumbled, Problem}

abbrev pub pattern_given : ℤ → List ℤ → List ℤ → Pattern
pattern_given n pointers rows = record { n = n; pointers = pointers; rows = rows }

abbrev pub problem_given : Pattern → Float → Bool → ℕ → ℕ → ℕ → ℕ → Problem
problem_given pattern multiplier aggressive permutation inverse lists scratch = record {
  pattern = pattern;
  multiplier = multiplier;
  aggressive = aggressive;
  permutation_size = permutation;
  inverse_size = inverse;
  lists_size = lists;
  scratch_size = scratch;
}

-- a row of a pattern of n columns: not below 0, and below n
abbrev pub is_row : ℤ → ℤ → Bool
is_row n r = le_z (pos 0) r && lt_z r n

-- the table from answer 5 on
unfoldable pub pattern_checks : Pattern → ℕ → ℕ → List (Bool × Answer)
pattern_checks a lists scratch =
    (bad_pointers base_limits a, wrong_pointers)
    ∷ (bad_rows a, wrong_rows)
    ∷ (ltb lists (lists_room (column_count a) (nnz a)) || ltb scratch (scratch_room (column_count a) (nnz a)), wrong_room)
    ∷ (jumbled (columns a), ordered_jumbled)
    ∷ []
