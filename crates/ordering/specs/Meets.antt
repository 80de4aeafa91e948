-- What the definition says of the outputs and the statistics of an accepted problem.
-- Assumes nothing.
use Rattle.std.specs.Prelude.{◌≡◌, List, map, ℤ, pos}
use Rattle.definition.specs.Answers.{rule_for}
use Rattle.definition.specs.Ordering.{plain}
use Rattle.definition.specs.Outcome.{seven, collection_count}
use Rattle.definition.specs.Promise.{Lent, problem_of}
use Rattle.numbers.specs.Meaning.{statistics_meant}
use Rattle.numbers.specs.declared.Statistics.{Statistics}

-- of what is lent: p is the permutation, i its inverse, and r the statistics
pub record Meets (z : Lent) (p i : List ℤ) (r : Statistics) : Type 0 where
  pub permutation : p ≡ map pos (plain (problem_of z).pattern (rule_for (problem_of z)) (problem_of z).aggressive).permutation
  pub inverse : i ≡ map pos (plain (problem_of z).pattern (rule_for (problem_of z)) (problem_of z).aggressive).inverse
  pub counts : statistics_meant r ≡ seven (plain (problem_of z).pattern (rule_for (problem_of z)) (problem_of z).aggressive).six (collection_count (problem_of z))
