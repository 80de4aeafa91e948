-- Each sham's function does what the sham does, so none of the five meets the promise.
-- Assumes nothing.
use Prim.Native.Nat.{ℕ, zero, suc, ◌-◌, ◌/◌, ◌≤◌}
use native.Mathlib.Nat.{mul-zero, mul_comm}
use native.Mathlib.Omega.{arith}
use mathlib.Core.Path.{◌≡◌, refl, ap, ◌∙◌}
use mathlib.Core.Bool.{true}
use mathlib.Core.List.{List, [], ◌∷◌, ◌++◌, map, flat_map}
use lib.Dec.{eqb}
use lib.IntN.{ℤ, pos}
use lib.Signed.{le_z}
use borrow.Author.Tests.{eqb-true, le-leb}
use Rattle.plain.proofs.Logic.{either, and_both, and_right}
use Rattle.plain.specs.Lists.{up_to, count_up, keep, total}
use Rattle.definition.specs.Pattern.{climbs, climbs_from}
use Rattle.definition.specs.Statistics.{gain_q, blocks_of, sum_of, six_of}
use Rattle.definition.specs.Outcome.{Outcome, refused, seven}
use Rattle.definition.specs.Promise.{Lent, After, problem_of, filled, untouched}
use Rattle.facts.specs.Accepted.{Accepted}
use Rattle.promise.specs.Demand.{Meets, size, numbers}
use Rattle.promise.specs.Shams.{RefusesAll, GivesIdentity, TellsFull, LeavesPermutation, LeavesInverse, OrdersByDegree, CountsNothing, initial_degree, answering, refusing, identity_outcome, identical, untouching, by_degree, degree_outcome, one_pass, uncounting}
use Rattle.promise.proofs.Left.{numbers_pos}
use Rattle.promise.proofs.Shams.{no_refusing, no_identity, no_left_permutation, no_one_pass, no_uncounted}

answered : (o : Lent → Outcome) (l : Lent) → Accepted (problem_of l) → answering o l ≡ filled l (o l)
answered o l ok = rw ok

-- ---- refuse everything

pub refuses : RefusesAll refusing
unfolding refusing untouched refused
refuses l ok = refl

pub refusing_fails : Meets refusing → ⊥
refusing_fails meets = no_refusing refusing meets refuses

-- ---- the identity with lnz n(n-1)/2

pub identity_given : GivesIdentity identical
unfolding identical filled
identity_given l ok = ap (λ (a : After). a.permutation) (answered identity_outcome l ok)

pub full_told : TellsFull identical
unfolding identical filled seven six_of sum_of blocks_of gain_q total
full_told l ok =
    ap (λ (a : After). a.statistics.lnz) (answered identity_outcome l ok)
    ∙ omega (arith, mul-zero (size l), ap (λ (k : ℕ). k / 2) (mul_comm (size l) (size l - 1)))

pub identical_fails : Meets identical → ⊥
identical_fails meets = no_identity identical meets identity_given

-- ---- outputs untouched

pub permutation_left : LeavesPermutation untouching
unfolding untouching
permutation_left l ok = refl

pub inverse_left : LeavesInverse untouching
unfolding untouching
inverse_left l ok = refl

pub untouching_fails : Meets untouching → ⊥
untouching_fails meets = no_left_permutation untouching meets permutation_left

-- ---- one pass by initial degree

module _ (deg : ℕ → ℕ) where
  abbrev degrees : List ℕ → List ℤ
  degrees vs = map (λ v. pos (deg v)) vs

  -- rows of degree d, and behind them what climbs from d
  climbs_block : (b d : ℕ) (vs rest : List ℕ) → b ≤ d → ((c : ℕ) → c ≤ d → climbs_from (pos c) (degrees rest) ≡ true)
      → climbs_from (pos b) (degrees (keep (λ v. eqb (deg v) d) vs ++ rest)) ≡ true
  unfolding keep climbs_from
  climbs_block b d [] rest h r = r b h
  climbs_block b d (v ∷ vs) rest h r = either _ (eqb (deg v) d)
      (λ e. rw e (and_both _ _ (le-leb b (deg v) (omega (arith, eqb-true (deg v) d e))) (climbs_block (deg v) d vs rest (omega (arith, eqb-true (deg v) d e)) r)))
      (λ e. rw e (climbs_block b d vs rest h r))

  climbs_blocks : (n a k b : ℕ) → b ≤ a → climbs_from (pos b) (degrees (flat_map (λ d. keep (λ v. eqb (deg v) d) (up_to n)) (count_up a k))) ≡ true
  unfolding flat_map count_up climbs_from
  climbs_blocks n a zero b h = refl
  climbs_blocks n a (suc k) b h = climbs_block b a (up_to n) _ h (λ c l. climbs_blocks n (suc a) k c (omega arith))

climbs_from_lem : (b : ℕ) (xs : List ℤ) → climbs_from (pos b) xs ≡ true → climbs xs ≡ true
unfolding climbs climbs_from
climbs_from_lem b [] h = refl
climbs_from_lem b (x ∷ xs) h = and_right (le_z (pos b) x) (climbs_from x xs) h

pub ordered_by_degree : OrdersByDegree one_pass
unfolding one_pass filled by_degree
ordered_by_degree l ok =
    ap (λ (a : After). climbs (degrees (initial_degree l) (numbers a.permutation))) (answered degree_outcome l ok)
    ∙ rw (numbers_pos (by_degree l)) (climbs_from_lem 0 _ (climbs_blocks (initial_degree l) (size l) 0 (size l) 0 (omega arith)))

pub one_pass_fails : Meets one_pass → ⊥
one_pass_fails meets = no_one_pass one_pass meets ordered_by_degree

-- ---- a collection count of always zero

pub nothing_counted : CountsNothing uncounting
unfolding uncounting
nothing_counted l ok = refl

pub uncounting_fails : Meets uncounting → ⊥
uncounting_fails meets = no_uncounted uncounting meets nothing_counted
