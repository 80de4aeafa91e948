-- The outcome of a problem: the answer, both permutations, and the seven statistics. All of it but the collection count is what `Ordering` says, whatever the room.
-- Assumes nothing.
use Rattle.std.specs.Prelude.{ℕ, true, false, List, []}
use Rattle.definition.specs.Answers.{Answer, accepts, Problem, answer_of, rule_for}
use Rattle.definition.specs.Statistics.{Six, no_six}
use Rattle.definition.specs.Ordering.{Plain, plain, graph_of, limit_of, key_for}
use Rattle.definition.specs.Room.{collections_of}

-- "lnz, n_div, n_mult_subs_ldl, n_mult_subs_lu, n_dense, d_max, n_cmp_a"
pub record Statistics : Type 0 where
  pub lnz : ℕ
  pub n_div : ℕ
  pub n_mult_subs_ldl : ℕ
  pub n_mult_subs_lu : ℕ
  pub n_dense : ℕ
  pub d_max : ℕ
  pub n_cmp_a : ℕ

-- the six that every workspace shares, "and n_cmp_a"
unfoldable pub seven : Six → ℕ → Statistics
seven x count = record {
  lnz = x.lnz;
  n_div = x.n_div;
  n_mult_subs_ldl = x.n_mult_subs_ldl;
  n_mult_subs_lu = x.n_mult_subs_lu;
  n_dense = x.n_dense;
  d_max = x.d_max;
  n_cmp_a = count;
}

-- what is told of a problem; on a refusal both permutations are empty, and none is written
pub record Outcome : Type 0 where
  pub answer : Answer
  pub permutation : List ℕ
  pub inverse : List ℕ
  pub statistics : Statistics

-- "n_cmp_a, the number of list collections that happened", in the problem's own room
unfoldable pub collection_count : Problem → ℕ
collection_count p =
    collections_of (key_for p.pattern) p.aggressive (limit_of p.pattern (rule_for p)) (graph_of p.pattern) p.lists_size

-- the ordering that every workspace shares, and beside it the count
unfoldable pub with_count : Answer → Plain → ℕ → Outcome
with_count answer x count = record { answer = answer; permutation = x.permutation; inverse = x.inverse; statistics = seven x.six count }

-- "Answers 2 to 7: all seven statistics zero"
unfoldable pub refused : Answer → Outcome
refused answer = record { answer = answer; permutation = []; inverse = []; statistics = seven no_six 0 }

-- answers 0 and 1, or a refusal
unfoldable pub outcome : Problem → Outcome
outcome p = elim (accepts (answer_of p)) [
  | true ↦ with_count (answer_of p) (plain p.pattern (rule_for p) p.aggressive) (collection_count p)
  | false ↦ refused (answer_of p)
]
