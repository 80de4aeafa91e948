-- Document 01, "What each promise settles": "Try these against it: (..) None may pass." Each sham as what it does, and as a function that does it.
-- What it does is asked of accepted inputs alone, and of no more than the sham is known by, so that every variant of it is kept out too.
-- Assumes nothing.
use Rattle.std.specs.Prelude.{ℕ, ◌-◌, ◌*◌, ◌/◌, ◌≡◌, true, false, cond, eqb, pos, length, get_or}
use mathlib.Core.List.{List, [], ◌∷◌, map, flat_map}
use Rattle.plain.specs.Lists.{up_to, keep}
use Rattle.definition.specs.Pattern.{climbs}
use Rattle.definition.specs.Answers.{accepts, wrong_count, answer_of}
use Rattle.definition.specs.Statistics.{six_of}
use Rattle.definition.specs.Ordering.{graph_of, inverse_of}
use Rattle.definition.specs.Outcome.{Outcome, refused, seven}
use Rattle.definition.specs.Promise.{Lent, After, problem_of, filled, untouched, after}
use Rattle.promise.specs.Demand.{pattern_of, size, numbers}

-- an accepted input has the property
abbrev pub Always : (Lent → Type 0) → Type 0
Always P = (l : Lent) → accepts (answer_of (problem_of l)) ≡ true → P l

-- ---- what each does

-- "refuse everything"
abbrev pub RefusesAll : (Lent → After) → Type 0
RefusesAll f = Always (λ l. accepts (f l).answer ≡ false)

-- "identity permutation with lnz n(n-1)/2": each half by itself
abbrev pub GivesIdentity : (Lent → After) → Type 0
GivesIdentity f = Always (λ l. (f l).permutation ≡ map pos (up_to (size l)))

abbrev pub TellsFull : (Lent → After) → Type 0
TellsFull f = Always (λ l. (f l).statistics.lnz ≡ size l * (size l - 1) / 2)

-- "outputs untouched": each output by itself
abbrev pub LeavesPermutation : (Lent → After) → Type 0
LeavesPermutation f = Always (λ l. (f l).permutation ≡ l.permutation)

abbrev pub LeavesInverse : (Lent → After) → Type 0
LeavesInverse f = Always (λ l. (f l).inverse ≡ l.inverse)

-- the degree of a row at the start
abbrev pub initial_degree : Lent → ℕ → ℕ
initial_degree l v = length (get_or (graph_of (pattern_of l)) v [])

-- "a one-pass ordering by initial degree": no row stands behind one of larger initial degree; rows of one degree as it likes
abbrev pub OrdersByDegree : (Lent → After) → Type 0
OrdersByDegree f = Always (λ l. climbs (map (λ v. pos (initial_degree l v)) (numbers (f l).permutation)) ≡ true)

-- "a collection count of always zero"
abbrev pub CountsNothing : (Lent → After) → Type 0
CountsNothing f = Always (λ l. (f l).statistics.n_cmp_a ≡ 0)

-- "None may pass."
pub record KeepsOut (f : Lent → After) : Type 0 where
  pub refusing : RefusesAll f → ⊥
  pub identity : GivesIdentity f → ⊥
  pub full : TellsFull f → ⊥
  pub left_permutation : LeavesPermutation f → ⊥
  pub left_inverse : LeavesInverse f → ⊥
  pub one_pass_lem : OrdersByDegree f → ⊥
  pub uncounted : CountsNothing f → ⊥

-- ---- a function for each

unfoldable pub refusing : Lent → After
refusing l = untouched l (refused wrong_count)

-- an outcome where the input is accepted, and the promised refusal where not
abbrev pub answering : (Lent → Outcome) → Lent → After
answering o l = cond (accepts (answer_of (problem_of l))) (filled l (o l)) (after l)

-- one sham element of all rows
abbrev pub identity_outcome : Lent → Outcome
identity_outcome l = record {
  answer = answer_of (problem_of l);
  permutation = up_to (size l);
  inverse = up_to (size l);
  statistics = seven (six_of 0 (record { row = 0; pivots = size l; rest = 0 } ∷ [])) 0;
}

unfoldable pub identical : Lent → After
identical l = answering identity_outcome l

-- all else as promised
unfoldable pub untouching : Lent → After
untouching l = record {
  answer = (after l).answer;
  statistics = (after l).statistics;
  permutation = l.permutation;
  inverse = l.inverse;
  lists = (after l).lists;
  scratch = (after l).scratch;
}

-- the rows of degree 0, then those of degree 1, and so on, each ascending
unfoldable pub by_degree : Lent → List ℕ
by_degree l = flat_map (λ d. keep (λ v. eqb (initial_degree l v) d) (up_to (size l))) (up_to (size l))

-- a sham element for each row, with its initial degree
abbrev pub degree_outcome : Lent → Outcome
degree_outcome l = record {
  answer = answer_of (problem_of l);
  permutation = by_degree l;
  inverse = inverse_of (by_degree l);
  statistics = seven (six_of 0 (map (λ v. record { row = v; pivots = 1; rest = initial_degree l v }) (by_degree l))) 0;
}

unfoldable pub one_pass : Lent → After
one_pass l = answering degree_outcome l

-- all else as promised
unfoldable pub uncounting : Lent → After
uncounting l = record {
  answer = (after l).answer;
  statistics = record {
    lnz = (after l).statistics.lnz;
    n_div = (after l).statistics.n_div;
    n_mult_subs_ldl = (after l).statistics.n_mult_subs_ldl;
    n_mult_subs_lu = (after l).statistics.n_mult_subs_lu;
    n_dense = (after l).statistics.n_dense;
    d_max = (after l).statistics.d_max;
    n_cmp_a = 0;
  };
  permutation = (after l).permutation;
  inverse = (after l).inverse;
  lists = (after l).lists;
  scratch = (after l).scratch;
}
