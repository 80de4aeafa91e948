-- No sham meets the promise: for each an input at which it leaves something else.
-- Assumes nothing.
use Prim.Native.Nat.{ℕ}
use native.Mathlib.Omega.{arith}
use mathlib.Core.Path.{◌≡◌, refl, sym, ap, ◌∙◌}
use mathlib.Core.Bool.{false}
use mathlib.Core.List.{List, [], ◌∷◌, map}
use lib.IntN.{ℤ, pos, nat_abs}
use lib.ListN.{get_or}
use Rattle.plain.proofs.Logic.{clash}
use Rattle.definition.specs.Answers.{accepts, answer_of}
use Rattle.definition.specs.Pattern.{climbs}
use Rattle.definition.specs.Promise.{Lent, After, problem_of, after}
use Rattle.facts.specs.Accepted.{Accepted}
use Rattle.promise.specs.Demand.{Meets, Alike, numbers}
use Rattle.promise.specs.Shams.{RefusesAll, GivesIdentity, TellsFull, LeavesPermutation, LeavesInverse, OrdersByDegree, CountsNothing, KeepsOut, initial_degree}
use Rattle.promise.specs.Opened.{opened}
use Rattle.promise.proofs.Left.{answer_told}
use Rattle.promise.proofs.Inputs.{path, longer, tight, roomier}

-- ---- what is left at the inputs

path_accepted : Accepted (problem_of path)
unfolding opened
path_accepted = refl

path_permutation : (after path).permutation ≡ pos 2 ∷ pos 0 ∷ pos 1 ∷ []
unfolding opened
path_permutation = refl

path_inverse : (after path).inverse ≡ pos 1 ∷ pos 2 ∷ pos 0 ∷ []
unfolding opened
path_inverse = refl

path_lnz : (after path).statistics.lnz ≡ 2
unfolding opened
path_lnz = refl

longer_accepted : Accepted (problem_of longer)
unfolding opened
longer_accepted = refl

-- rows of degree 1, 2, 1, 2
longer_order : climbs (map (λ v. pos (initial_degree longer v)) (numbers (after longer).permutation)) ≡ false
unfolding opened
longer_order = refl

tight_accepted : Accepted (problem_of tight)
unfolding opened
tight_accepted = refl

tight_count : (after tight).statistics.n_cmp_a ≡ 1
unfolding opened
tight_count = refl

roomier_accepted : Accepted (problem_of roomier)
unfolding opened
roomier_accepted = refl

roomier_count : (after roomier).statistics.n_cmp_a ≡ 0
unfolding opened
roomier_count = refl

-- ---- no function that does what a sham does meets the promise

-- a refusal is wrong at every accepted input
pub no_refusal : (l : Lent) (a : After) → Accepted (problem_of l) → accepts a.answer ≡ false → a ≡ after l → ⊥
no_refusal l a ok bad e = clash (accepts (answer_of (problem_of l))) ok (sym (ap accepts (ap (λ (x : After). x.answer) e ∙ answer_told l)) ∙ bad)

module _ (f : Lent → After) (meets : Meets f) where
  pub no_refusing : RefusesAll f → ⊥
  no_refusing has = no_refusal path (f path) path_accepted (has path path_accepted) (meets path)

  -- the first of an output
  abbrev head : List ℤ → ℕ
  head xs = nat_abs (get_or xs 0 (pos 0))

  pub no_identity : GivesIdentity f → ⊥
  unfolding opened
  no_identity has = absurd (omega (arith, ap head (sym (has path path_accepted) ∙ ap (λ (a : After). a.permutation) (meets path) ∙ path_permutation)))

  pub no_full : TellsFull f → ⊥
  no_full has = absurd (omega (arith, sym (has path path_accepted) ∙ ap (λ (a : After). a.statistics.lnz) (meets path) ∙ path_lnz))

  pub no_left_permutation : LeavesPermutation f → ⊥
  no_left_permutation has = absurd (omega (arith, ap head (sym (has path path_accepted) ∙ ap (λ (a : After). a.permutation) (meets path) ∙ path_permutation)))

  -- every number that is lent is 1, and the inverse's second is 2
  pub no_left_inverse : LeavesInverse f → ⊥
  no_left_inverse has =
      absurd (omega (arith, ap (λ (xs : List ℤ). nat_abs (get_or xs 1 (pos 0))) (sym (has path path_accepted) ∙ ap (λ (a : After). a.inverse) (meets path) ∙ path_inverse)))

  pub no_one_pass : OrdersByDegree f → ⊥
  no_one_pass has =
      clash (climbs (map (λ v. pos (initial_degree longer v)) (numbers (after longer).permutation)))
      (ap (λ (a : After). climbs (map (λ v. pos (initial_degree longer v)) (numbers a.permutation))) (sym (meets longer)) ∙ has longer longer_accepted)
      longer_order

  pub no_uncounted : CountsNothing f → ⊥
  no_uncounted has = absurd (omega (arith, sym (has tight tight_accepted) ∙ ap (λ (a : After). a.statistics.n_cmp_a) (meets tight) ∙ tight_count))

  pub none_passes : KeepsOut f
  none_passes = record {
    refusing = no_refusing;
    identity = no_identity;
    full = no_full;
    left_permutation = no_left_permutation;
    left_inverse = no_left_inverse;
    one_pass_lem = no_one_pass;
    uncounted = no_uncounted;
  }

-- ---- why the third demand leaves n_cmp_a out: one place more, and there is no collection

pub counts_differ : ((l l' : Lent) → Alike l l' → Accepted (problem_of l) → Accepted (problem_of l') → (after l).statistics.n_cmp_a ≡ (after l').statistics.n_cmp_a) → ⊥
counts_differ same = absurd (omega (arith, sym tight_count ∙ same tight roomier alike tight_accepted roomier_accepted ∙ roomier_count))
  where
    alike : Alike tight roomier
    alike = record { n = refl; pointers = refl; rows = refl; multiplier = refl; aggressive = refl }
