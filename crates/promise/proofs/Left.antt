-- What a call leaves, accepted or refused; accepted, the definition's ordering of its pattern.
-- Assumes nothing.
use Prim.Native.Nat.{ℕ}
use mathlib.Core.Path.{◌≡◌, refl, ap}
use mathlib.Core.Bool.{false}
use mathlib.Core.List.{List, [], ◌∷◌, map}
use lib.IntN.{pos}
use Rattle.plain.proofs.Logic.{either}
use Rattle.definition.specs.Answers.{accepts, Problem, answer_of, rule_for}
use Rattle.definition.specs.Ordering.{Plain, plain}
use Rattle.definition.specs.Outcome.{outcome, seven, with_count, refused, collection_count}
use Rattle.definition.specs.Promise.{Lent, After, problem_of, filled, untouched, after}
use Rattle.facts.specs.Accepted.{Accepted}
use Rattle.promise.specs.Demand.{numbers}

-- the ordering of what is lent: no slice that is written is read, nor its length
abbrev pub ordering_of : Lent → Plain
ordering_of l = plain (problem_of l).pattern (rule_for (problem_of l)) (problem_of l).aggressive

outcome_is : (p : Problem) → Accepted p → outcome p ≡ with_count (answer_of p) (plain p.pattern (rule_for p) p.aggressive) (collection_count p)
unfolding outcome
outcome_is p ok = rw (ok, outcome)

outcome_refused : (p : Problem) → accepts (answer_of p) ≡ false → outcome p ≡ refused (answer_of p)
unfolding outcome
outcome_refused p bad = rw (bad, outcome)

pub left : (l : Lent) → Accepted (problem_of l) → after l ≡ filled l (with_count (answer_of (problem_of l)) (ordering_of l) (collection_count (problem_of l)))
unfolding after
left l ok = rw (ok, after) (ap (filled l) (outcome_is (problem_of l) ok))

pub left_refused : (l : Lent) → accepts (answer_of (problem_of l)) ≡ false → after l ≡ untouched l (refused (answer_of (problem_of l)))
unfolding after
left_refused l bad = rw (bad, after) (ap (untouched l) (outcome_refused (problem_of l) bad))

-- the answer is the table's, at every input
pub answer_told : (l : Lent) → (after l).answer ≡ answer_of (problem_of l)
unfolding filled with_count untouched refused
answer_told l = either _ (accepts (answer_of (problem_of l))) (λ ok. ap (λ (a : After). a.answer) (left l ok)) (λ bad. ap (λ (a : After). a.answer) (left_refused l bad))

-- "for one workspace it equals the collections of a definition that includes the room"
pub count_told : (l : Lent) → Accepted (problem_of l) → (after l).statistics.n_cmp_a ≡ collection_count (problem_of l)
unfolding filled with_count seven
count_told l ok = ap (λ (a : After). a.statistics.n_cmp_a) (left l ok)

pub numbers_pos : (xs : List ℕ) → numbers (map pos xs) ≡ xs
numbers_pos [] = refl
numbers_pos (x ∷ xs) = ap (λ (ys : List ℕ). x ∷ ys) (numbers_pos xs)
