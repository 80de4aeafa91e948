-- What a call from outside leaves: what `after` says, with the answer as its number and the statistics in cells.
-- Assumes nothing.
use Rattle.std.specs.Prelude.{ℕ, Bool, List, [], ◌∷◌, ◌++◌, Float, ℤ, pos, length, take, drop}
use Rattle.definition.specs.Answers.{number_of}
use Rattle.definition.specs.Outcome.{Statistics}
use Rattle.definition.specs.Promise.{Lent, After}

-- "in this order: lnz, n_div, n_mult_subs_ldl, n_mult_subs_lu, n_dense, d_max, n_cmp_a"
unfoldable pub seven_of : Statistics → List ℕ
seven_of x = x.lnz ∷ x.n_div ∷ x.n_mult_subs_ldl ∷ x.n_mult_subs_lu ∷ x.n_dense ∷ x.d_max ∷ x.n_cmp_a ∷ []

-- as many of the numbers as fit into the cells, from the first; the cells behind them as they were
unfoldable pub written : List ℕ → List ℕ → List ℕ
written numbers cells = take (length cells) numbers ++ drop (length numbers) cells

-- the answer's number, and each slice that may be written, as it is after the call
pub record Told : Type 0 where
  pub number : ℤ
  pub permutation : List ℤ
  pub inverse : List ℤ
  pub lists : List ℤ
  pub scratch : List ℤ
  pub statistics : List ℕ

-- what the definition leaves, told in cells
unfoldable pub told : After → List ℕ → Told
told a cells = record {
  number = pos (number_of a.answer);
  permutation = a.permutation;
  inverse = a.inverse;
  lists = a.lists;
  scratch = a.scratch;
  statistics = written (seven_of a.statistics) cells;
}

-- what is lent, the settings as two numbers
abbrev pub lent_by : ℤ → List ℤ → List ℤ → Float → Bool → List ℤ → List ℤ → List ℤ → List ℤ → Lent
lent_by n pointers rows multiplier aggressive permutation inverse lists scratch = record {
  n = n;
  pointers = pointers;
  rows = rows;
  multiplier = multiplier;
  aggressive = aggressive;
  permutation = permutation;
  inverse = inverse;
  lists = lists;
  scratch = scratch;
}

-- what the call left
abbrev pub seen : ℤ → List ℤ → List ℤ → List ℤ → List ℤ → List ℕ → Told
seen number permutation inverse lists scratch statistics = record {
  number = number;
  permutation = permutation;
  inverse = inverse;
  lists = lists;
  scratch = scratch;
  statistics = statistics;
}
