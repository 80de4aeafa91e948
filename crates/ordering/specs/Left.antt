-- What a call is lent and what it leaves behind, in the definition's records.
-- Assumes nothing.
use Rattle.std.specs.Prelude.{List, ℤ}
use Rattle.definition.specs.Promise.{Lent, After}
use Rattle.numbers.specs.Meaning.{answer_meant, statistics_meant}
use Rattle.numbers.specs.declared.Outcome.{Outcome}
use Rattle.numbers.specs.declared.Settings.{Settings}

abbrev pub lent : ℤ → List ℤ → List ℤ → Settings → List ℤ → List ℤ → List ℤ → List ℤ → Lent
lent n pointers rows settings permutation inverse lists scratch = record {
  n = n;
  pointers = pointers;
  rows = rows;
  multiplier = settings.multiplier;
  aggressive = settings.aggressive;
  permutation = permutation;
  inverse = inverse;
  lists = lists;
  scratch = scratch;
}

abbrev pub left : Outcome → List ℤ → List ℤ → List ℤ → List ℤ → After
left r permutation inverse lists scratch = record {
  answer = answer_meant r.answer;
  statistics = statistics_meant r.statistics;
  permutation = permutation;
  inverse = inverse;
  lists = lists;
  scratch = scratch;
}
