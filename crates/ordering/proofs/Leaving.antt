-- What a call leaves, as the definition says it: of a problem that is refused, and of one that is accepted.
-- Assumes nothing.
use mathlib.Core.Path.{◌≡◌, refl, sym, ap, ◌∙◌}
use mathlib.Core.Bool.{Bool, true, false, cond}
use mathlib.Core.List.{List, []}
use lib.Dec.{eqb}
use lib.IntN.{ℤ, pos}
use lib.ListN.{length, replicate}
use Rattle.definition.specs.Answers.{accepts, answer_of, number_of, ordered, ordered_jumbled}
use Rattle.definition.specs.Answers as Answers
use Rattle.definition.specs.Outcome.{with_count, refused}
use Rattle.definition.specs.Outcome as Outcomes
use Rattle.definition.specs.Pattern.{columns, jumbled}
use Rattle.definition.specs.Promise.{Lent, problem_of, zeroed, filled, untouched, after}
use Rattle.facts.proofs.Accepted.{checked, answer_is}
use Rattle.facts.specs.Accepted.{Accepted}
use Rattle.numbers.specs.Meaning.{answer_meant, outcome_meant}
use Rattle.numbers.specs.declared.Answer.{Answer}
use Rattle.numbers.specs.declared.Outcome.{Outcome}
use Rattle.numbers.specs.declared.Statistics.{Statistics}
use Rattle.promise.proofs.Left as Promised
use Rattle.ordering.specs.Left.{left}
use Rattle.ordering.specs.Meets.{Meets}

pub refused_left : (z : Lent) (a : Answer) (r : Outcome) → outcome_meant r [] [] ≡ refused (answer_meant a) → accepts (answer_meant a) ≡ false → answer_meant a ≡ answer_of (problem_of z)
    → left r z.permutation z.inverse z.lists z.scratch ≡ after z
unfolding untouched refused outcome_meant
refused_left z a r h denied is =
    let answer : answer_meant r.answer ≡ answer_of (problem_of z) = ap (λ (o : Outcomes.Outcome). o.answer) h ∙ is in
    let statistics = ap (λ (o : Outcomes.Outcome). o.statistics) h in
    rw (answer, statistics) (sym (Promised.left_refused z (ap accepts (sym is) ∙ denied)))

pub accepted_left : (z : Lent) (a : Answer) (x : Statistics) (p i : List ℤ) → Accepted (problem_of z) → answer_meant a ≡ answer_of (problem_of z) → Meets z p i x
    → left (record { answer = a; statistics = x }) p i (replicate (length z.lists) (pos 0)) (replicate (length z.scratch) (pos 0)) ≡ after z
unfolding filled with_count zeroed
accepted_left z a x p i ok is h = rw (is, h.counts, h.permutation, h.inverse) (sym (Promised.left z ok))

-- ---- jumbled or not, by the answer's number

pub jumbled_is : (z : Lent) (a : Answer) → Accepted (problem_of z) → answer_meant a ≡ answer_of (problem_of z)
    → eqb (number_of (answer_meant a)) 1 ≡ jumbled (columns (problem_of z).pattern)
unfolding number_of
jumbled_is z a ok is =
    ap (λ (y : Answers.Answer). eqb (number_of y) 1) (is ∙ answer_is (problem_of z) (checked (problem_of z) ok)) ∙ go (jumbled (columns (problem_of z).pattern))
  where
    go : (b : Bool) → eqb (number_of (cond b ordered_jumbled ordered)) 1 ≡ b
    go true = refl
    go false = refl
