-- The course of an ordering: the lists are cleared, the pattern taken, the graph eliminated, and the tree that this leaves is put in order.
-- Assumes nothing.
use Rattle.std.specs.Prelude.{ℕ, ◌≡◌, Bool, List, ℤ, length}
use Rattle.definition.specs.Answers.{or_full_rows}
use Rattle.definition.specs.Threshold.{rule_of, threshold}
use Rattle.numbers.specs.declared.Settings.{Settings}
use Rattle.numbers.specs.declared.Statistics.{Statistics}
use Rattle.pattern.specs.Model.{tidied, built, built_free}
use Rattle.elimination.specs.declared.Eliminated.{Eliminated}
use Rattle.elimination.specs.Runs.{Whole}
use Rattle.tree.specs.Final.{Outputs}

-- of n columns with pointers a and rows b, in the lists l and the scratch s: p and i become p' and i', and r are the statistics
pub record Course (n : ℕ) (a b : List ℤ) (x : Settings) (jumbled : Bool) (l s p i p' i' : List ℤ) (r : Statistics) : Type 0 where
  -- the lists that the pattern is taken into
  pub l₀ : List ℤ
  pub long : length l₀ ≡ length l
  -- what the elimination leaves
  pub l' : List ℤ
  pub s' : List ℤ
  pub e : Eliminated
  pub whole : Whole n (threshold (or_full_rows (rule_of x.multiplier)) n) (built_free n l₀ (tidied n a b jumbled s)) x.aggressive
      (built n l₀ (tidied n a b jumbled s)).lists (built n l₀ (tidied n a b jumbled s)).mem l' s' e
  pub outputs : Outputs n e.merges s' p i p' i'
  pub counts : r ≡ e.statistics
