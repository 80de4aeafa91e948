-- What each value of the code stands for in the definition: answers, dense rules, statistics, outcomes.
-- Assumes nothing.
use Rattle.std.specs.Prelude.{ℕ, ◌≡◌, List}
use Rattle.std.proofs.Math.Option.{some}
use Rattle.definition.specs.Answers
use Rattle.definition.specs.Outcome as Outcomes
use Rattle.definition.specs.Threshold.{Rule, full_rows, multiplier, rule_of}
use Rattle.numbers.specs.declared.Answer.{Answer}
use Rattle.numbers.specs.declared.Answer.TheVariants.{Ordered, OrderedJumbled, WrongCount, WrongMultiplier, WrongOutputs, WrongPointers, WrongRows, WrongRoom}
use Rattle.numbers.specs.declared.DenseRule.{DenseRule}
use Rattle.numbers.specs.declared.DenseRule.TheVariants.{FullRows, Multiplier}
use Rattle.numbers.specs.declared.Statistics.{Statistics}
use Rattle.numbers.specs.declared.Outcome.{Outcome}

abbrev pub answer_meant : Answer → Answers.Answer
answer_meant Ordered = Answers.ordered
answer_meant OrderedJumbled = Answers.ordered_jumbled
answer_meant WrongCount = Answers.wrong_count
answer_meant WrongMultiplier = Answers.wrong_multiplier
answer_meant WrongOutputs = Answers.wrong_outputs
answer_meant WrongPointers = Answers.wrong_pointers
answer_meant WrongRows = Answers.wrong_rows
answer_meant WrongRoom = Answers.wrong_room

abbrev pub rule_meant : DenseRule → Rule
rule_meant FullRows = full_rows
rule_meant (Multiplier x) = multiplier x

-- a rule that some accepted multiplier gives: what the threshold is promised of
abbrev pub Accepted : DenseRule → Type 0
Accepted FullRows = Unit
Accepted (Multiplier x) = rule_of x ≡ some (multiplier x)

unfoldable pub statistics_meant : Statistics → Outcomes.Statistics
statistics_meant s = record {
  lnz = s.lnz;
  n_div = s.n_div;
  n_mult_subs_ldl = s.n_mult_subs_ldl;
  n_mult_subs_lu = s.n_mult_subs_lu;
  n_dense = s.n_dense;
  d_max = s.d_max;
  n_cmp_a = s.n_cmp_a;
}

-- with the permutation and the inverse, which are told beside it
unfoldable pub outcome_meant : Outcome → List ℕ → List ℕ → Outcomes.Outcome
outcome_meant o perm inverse = record { answer = answer_meant o.answer; permutation = perm; inverse = inverse; statistics = statistics_meant o.statistics }
