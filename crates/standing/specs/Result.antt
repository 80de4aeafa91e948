-- What the elimination of an accepted problem leaves: the memory of the definition's final graph, and the definition's statistics.
-- Assumes nothing.
use Rattle.std.specs.Prelude.{ℕ, ◌<◌, List, ◌≡◌, ℤ, length}
use Rattle.definition.specs.Answers.{Problem, rule_for}
use Rattle.definition.specs.Ordering.{final_of, plain}
use Rattle.definition.specs.Outcome.{collection_count, seven}
use Rattle.definition.specs.Pattern.{column_count}
use Rattle.numbers.specs.Meaning.{statistics_meant}
use Rattle.tree.specs.Final.{Final}
use Rattle.elimination.specs.declared.Eliminated.{Eliminated}

pub record Result (p : Problem) (l l' s' : List ℤ) (r : Eliminated) : Type 0 where
  pub merges : List ℕ
  pub count : length merges ≡ r.merges
  pub final : Final (column_count p.pattern) s' (final_of p.pattern (rule_for p) p.aggressive).graph merges
  pub statistics : 0 < column_count p.pattern → statistics_meant r.statistics ≡ seven (plain p.pattern (rule_for p) p.aggressive).six (collection_count p)
  pub long : length l' ≡ length l
