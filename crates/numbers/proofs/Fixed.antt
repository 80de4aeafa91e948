-- A meaning belongs to one value only, so a promise that gives the meaning fixes the whole result.
-- Assumes nothing.
use mathlib.Core.Path.{◌≡◌, refl, sym, ap, ◌∙◌}
use Rattle.definition.specs.Answers
use Rattle.definition.specs.Outcome as Outcomes
use Rattle.definition.specs.Threshold.{Rule, full_rows, multiplier}
use Rattle.numbers.specs.declared.Answer.{Answer}
use Rattle.numbers.specs.declared.Answer.TheVariants.{Ordered, OrderedJumbled, WrongCount, WrongMultiplier, WrongOutputs, WrongPointers, WrongRows, WrongRoom}
use Rattle.numbers.specs.declared.DenseRule.{DenseRule}
use Rattle.numbers.specs.declared.DenseRule.TheVariants.{FullRows, Multiplier}
use Rattle.numbers.specs.declared.Statistics.{Statistics}
use Rattle.numbers.specs.Meaning.{answer_meant, rule_meant, statistics_meant}

-- an answer
the_answer : Answers.Answer → Answer
the_answer Answers.ordered = Ordered
the_answer Answers.ordered_jumbled = OrderedJumbled
the_answer Answers.wrong_count = WrongCount
the_answer Answers.wrong_multiplier = WrongMultiplier
the_answer Answers.wrong_outputs = WrongOutputs
the_answer Answers.wrong_pointers = WrongPointers
the_answer Answers.wrong_rows = WrongRows
the_answer Answers.wrong_room = WrongRoom

answer_back : (a : Answer) → the_answer (answer_meant a) ≡ a
unfolding the_answer
answer_back Ordered = refl
answer_back OrderedJumbled = refl
answer_back WrongCount = refl
answer_back WrongMultiplier = refl
answer_back WrongOutputs = refl
answer_back WrongPointers = refl
answer_back WrongRows = refl
answer_back WrongRoom = refl

pub same_answer : (a b : Answer) → answer_meant a ≡ answer_meant b → a ≡ b
same_answer a b e = sym (answer_back a) ∙ ap the_answer e ∙ answer_back b

-- a dense rule
the_rule : Rule → DenseRule
the_rule full_rows = FullRows
the_rule (multiplier x) = Multiplier x

rule_back : (r : DenseRule) → the_rule (rule_meant r) ≡ r
unfolding the_rule
rule_back FullRows = refl
rule_back (Multiplier x) = refl

pub same_rule : (a b : DenseRule) → rule_meant a ≡ rule_meant b → a ≡ b
same_rule a b e = sym (rule_back a) ∙ ap the_rule e ∙ rule_back b

-- statistics
the_statistics : Outcomes.Statistics → Statistics
the_statistics x = record {
  lnz = x.lnz;
  n_div = x.n_div;
  n_mult_subs_ldl = x.n_mult_subs_ldl;
  n_mult_subs_lu = x.n_mult_subs_lu;
  n_dense = x.n_dense;
  d_max = x.d_max;
  n_cmp_a = x.n_cmp_a;
}

statistics_back : (s : Statistics) → the_statistics (statistics_meant s) ≡ s
unfolding the_statistics statistics_meant
statistics_back s = refl

pub same_statistics : (s t : Statistics) → statistics_meant s ≡ statistics_meant t → s ≡ t
same_statistics s t e = sym (statistics_back s) ∙ ap the_statistics e ∙ statistics_back t
