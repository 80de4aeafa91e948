-- What a call leaves behind, as one equation: "Every public function's promise fixes its whole answer and every lent slice after it".
-- Assumes nothing.
use Rattle.std.specs.Prelude.{Bool, true, false, List, map, ℤ, pos, length, replicate, Float}
use Rattle.definition.specs.Answers.{Answer, accepts, Problem, answer_of}
use Rattle.definition.specs.Outcome.{Statistics, Outcome, outcome}

-- what is lent, each slice as it is before the call
pub record Lent : Type 0 where
  pub n : ℤ
  pub pointers : List ℤ
  pub rows : List ℤ
  pub multiplier : Float
  pub aggressive : Bool
  pub permutation : List ℤ
  pub inverse : List ℤ
  pub lists : List ℤ
  pub scratch : List ℤ

-- the problem that is lent: of the slices that are written, their lengths alone
unfoldable pub problem_of : Lent → Problem
problem_of l = record {
  pattern = record { n = l.n; pointers = l.pointers; rows = l.rows };
  multiplier = l.multiplier;
  aggressive = l.aggressive;
  permutation_size = length l.permutation;
  inverse_size = length l.inverse;
  lists_size = length l.lists;
  scratch_size = length l.scratch;
}

-- the answer, the statistics, and each slice that may be written, as it is after the call; the pattern's slices are lent for reading only
pub record After : Type 0 where
  pub answer : Answer
  pub statistics : Statistics
  pub permutation : List ℤ
  pub inverse : List ℤ
  pub lists : List ℤ
  pub scratch : List ℤ

-- "wholly zero"
unfoldable pub zeroed : List ℤ → List ℤ
zeroed before = replicate (length before) (pos 0)

-- "Answers 0 and 1: both outputs filled, inputs unchanged, both workspaces wholly zero."
unfoldable pub filled : Lent → Outcome → After
filled l o = record {
  answer = o.answer;
  statistics = o.statistics;
  permutation = map pos o.permutation;
  inverse = map pos o.inverse;
  lists = zeroed l.lists;
  scratch = zeroed l.scratch;
}

-- "Answers 2 to 7: all seven statistics zero, every lent slice as before."
unfoldable pub untouched : Lent → Outcome → After
untouched l o = record {
  answer = o.answer;
  statistics = o.statistics;
  permutation = l.permutation;
  inverse = l.inverse;
  lists = l.lists;
  scratch = l.scratch;
}

-- all that a call leaves behind: two calls that meet it leave the same
unfoldable pub after : Lent → After
after l = elim (accepts (answer_of (problem_of l))) [ true ↦ filled l (outcome (problem_of l)) | false ↦ untouched l (outcome (problem_of l)) ]
