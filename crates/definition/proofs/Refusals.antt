-- Document 01, "Answers": an input for each answer, for each fault inside answer 5, and what a call leaves behind.
-- Assumes nothing.
use Prim.Native.Nat.{ℕ}
use mathlib.Core.Path.{◌≡◌, refl}
use mathlib.Core.Bool.{Bool, true, false}
use mathlib.Core.List.{List, [], ◌∷◌, map}
use lib.IntN.{ℤ, pos, negsuc}
use lib.Dec.{ltb}
use lib.ListN.{length, replicate}
use lib.Ieee.{Float}
use Rattle.definition.specs.Limits.{base_limits, lists_room, scratch_room, room_within}
use Rattle.definition.specs.Pattern.{Pattern, bad_length, bad_first, bad_order, bad_total}
use Rattle.definition.specs.Answers.{Problem, ordered, wrong_room, number_of, answer_of, answer_within}
use Rattle.definition.specs.Promise.{Lent, problem_of, after}
use Rattle.definition.specs.Opened.{opened}
use Rattle.definition.proofs.Problems.{ten}
use Rattle.definition.proofs.Thresholds.{too_large}

-- slices of the given lengths, all ones
abbrev lent : ℤ → List ℤ → List ℤ → Float → ℕ → ℕ → ℕ → ℕ → Lent
lent n pointers rows m permutation inverse lists scratch = record {
  n = n;
  pointers = pointers;
  rows = rows;
  multiplier = m;
  aggressive = true;
  permutation = replicate permutation (pos 1);
  inverse = replicate inverse (pos 1);
  lists = replicate lists (pos 1);
  scratch = replicate scratch (pos 1);
}

-- case D's
abbrev good : List ℤ
good = pos 0 ∷ pos 0 ∷ pos 1 ∷ pos 2 ∷ []

abbrev falling : List ℤ
falling = pos 0 ∷ pos 1 ∷ pos 0 ∷ pos 2 ∷ []

-- ---- the order of the table: the first has every fault, the next one fault less, and so on; a row past nnz is never looked at

abbrev ladder : List Lent
ladder =
    lent (negsuc 0) falling (pos 0 ∷ pos 3 ∷ []) too_large 2 3 0 66
    ∷ lent (pos 3) falling (pos 0 ∷ pos 3 ∷ []) too_large 2 3 0 66
    ∷ lent (pos 3) falling (pos 0 ∷ pos 3 ∷ []) ten 2 3 0 66
    ∷ lent (pos 3) falling (pos 0 ∷ pos 3 ∷ []) ten 3 3 0 66
    ∷ lent (pos 3) good (pos 0 ∷ pos 3 ∷ []) ten 3 3 0 66
    ∷ lent (pos 3) good (pos 0 ∷ pos 1 ∷ negsuc 8 ∷ []) ten 3 3 6 66
    ∷ lent (pos 3) good (pos 0 ∷ pos 1 ∷ negsuc 8 ∷ []) ten 3 3 7 66
    ∷ lent (pos 3) (pos 0 ∷ pos 2 ∷ pos 2 ∷ pos 2 ∷ []) (pos 1 ∷ pos 1 ∷ []) ten 3 3 7 66
    ∷ []

pub answers : map (λ l. number_of (after l).answer) ladder ≡ (2 ∷ 3 ∷ 4 ∷ 5 ∷ 6 ∷ 7 ∷ 0 ∷ 1 ∷ [])
unfolding opened
answers = refl

-- ---- each part of a case alone: n above 2,000,000, and at it, where the outputs are wrong; the inverse too long; a row below 0, a row n; the scratch one short

abbrev single : List Lent
single =
    lent (pos 2000001) good (pos 0 ∷ pos 1 ∷ []) ten 3 3 7 66
    ∷ lent (pos 2000000) good (pos 0 ∷ pos 1 ∷ []) ten 3 3 7 66
    ∷ lent (pos 3) good (pos 0 ∷ pos 1 ∷ []) ten 3 4 7 66
    ∷ lent (pos 3) good (pos 0 ∷ negsuc 0 ∷ []) ten 3 3 7 66
    ∷ lent (pos 3) good (pos 3 ∷ pos 0 ∷ []) ten 3 3 7 66
    ∷ lent (pos 3) good (pos 0 ∷ pos 1 ∷ []) ten 3 3 7 65
    ∷ []

pub parts : map (λ l. number_of (after l).answer) single ≡ (2 ∷ 4 ∷ 4 ∷ 6 ∷ 6 ∷ 7 ∷ [])
unfolding opened
parts = refl

-- ---- n = 0: pointers [0] and 16 cells of scratch are accepted, one less is no room, and no pointer at all is answer 5

pub nothing :
    map (λ l. number_of (after l).answer)
    (lent (pos 0) (pos 0 ∷ []) [] ten 0 0 0 16 ∷ lent (pos 0) (pos 0 ∷ []) [] ten 0 0 0 15 ∷ lent (pos 0) [] [] ten 0 0 0 16 ∷ [])
    ≡ (0 ∷ 7 ∷ 5 ∷ [])
unfolding opened
nothing = refl

-- ---- the faults of the pointers, each alone: length, first pointer, order, total above the row slice

abbrev faults_of : Pattern → List Bool
faults_of a = bad_length a ∷ bad_first a ∷ bad_order a ∷ bad_total base_limits a ∷ []

abbrev three : List ℤ → Pattern
three pointers = record { n = pos 3; pointers = pointers; rows = pos 0 ∷ pos 1 ∷ [] }

pub pointer_faults :
    map (λ ps. faults_of (three ps))
    ((pos 0 ∷ pos 0 ∷ pos 1 ∷ pos 2 ∷ pos 2 ∷ [])
    ∷ (pos 1 ∷ pos 1 ∷ pos 1 ∷ pos 2 ∷ [])
    ∷ falling
    ∷ (pos 0 ∷ pos 1 ∷ pos 2 ∷ pos 3 ∷ [])
    ∷ good
    ∷ [])
    ≡ ((true ∷ false ∷ false ∷ false ∷ [])
    ∷ (false ∷ true ∷ false ∷ false ∷ [])
    ∷ (false ∷ false ∷ true ∷ false ∷ [])
    ∷ (false ∷ false ∷ false ∷ true ∷ [])
    ∷ (false ∷ false ∷ false ∷ false ∷ [])
    ∷ [])
unfolding opened
pointer_faults = refl

-- each of them is answer 5, and so is a total above the limit alone (case D has two entries, and here one is the most)
pub pointer_answers :
    map (λ ps. number_of (after (lent (pos 3) ps (pos 0 ∷ pos 1 ∷ []) ten 3 3 7 66)).answer)
    ((pos 0 ∷ pos 0 ∷ pos 1 ∷ pos 2 ∷ pos 2 ∷ []) ∷ (pos 1 ∷ pos 1 ∷ pos 1 ∷ pos 2 ∷ []) ∷ falling ∷ (pos 0 ∷ pos 1 ∷ pos 2 ∷ pos 3 ∷ []) ∷ [])
    ≡ (5 ∷ 5 ∷ 5 ∷ 5 ∷ [])
unfolding opened
pointer_answers = refl

pub total_alone :
    map (λ most. number_of (answer_within (record { most_columns = 3; most_entries = most }) (problem_of (lent (pos 3) good (pos 0 ∷ pos 1 ∷ []) ten 3 3 7 66)))) (1 ∷ 2 ∷ [])
    ≡ (5 ∷ 0 ∷ [])
unfolding opened
total_alone = refl

-- above 20,000,000 it is answer 5 whatever rows there are; at 20,000,000 the length of the row slice decides
abbrev one : ℕ → List ℤ → Lent
one nnz rows = lent (pos 1) (pos 0 ∷ pos nnz ∷ []) rows ten 1 1 0 0

pub total_above : (rows : List ℤ) → number_of (after (one 20000001 rows)).answer ≡ 5
unfolding opened
total_above rows = refl

pub total_at : (rows : List ℤ) → bad_total base_limits (problem_of (one 20000000 rows)).pattern ≡ ltb (length rows) 20000000
unfolding opened
total_at rows = refl

-- and these are the limits that the answer goes by
pub limited : (p : Problem) → answer_of p ≡ answer_within base_limits p
unfolding opened
limited p = refl

-- ---- what is left behind

-- case D, whole: `0`, `2 0 1`, `2 2 2 2 0 2 0`, and both workspaces zero
pub wholly : after (lent (pos 3) good (pos 0 ∷ pos 1 ∷ []) ten 3 3 7 66) ≡ (record {
  answer = ordered;
  statistics = record { lnz = 2; n_div = 2; n_mult_subs_ldl = 2; n_mult_subs_lu = 2; n_dense = 0; d_max = 2; n_cmp_a = 0 };
  permutation = pos 2 ∷ pos 0 ∷ pos 1 ∷ [];
  inverse = pos 1 ∷ pos 2 ∷ pos 0 ∷ [];
  lists = replicate 7 (pos 0);
  scratch = replicate 66 (pos 0);
})
unfolding opened
wholly = refl

-- the same one place short: refused, and every slice as it was
pub untouched_then : after (lent (pos 3) good (pos 0 ∷ pos 1 ∷ []) ten 3 3 6 66) ≡ (record {
  answer = wrong_room;
  statistics = record { lnz = 0; n_div = 0; n_mult_subs_ldl = 0; n_mult_subs_lu = 0; n_dense = 0; d_max = 0; n_cmp_a = 0 };
  permutation = replicate 3 (pos 1);
  inverse = replicate 3 (pos 1);
  lists = replicate 6 (pos 1);
  scratch = replicate 66 (pos 1);
})
unfolding opened
untouched_then = refl

-- ---- the rooms of case D and of the largest pattern, and none outside the limits

pub rooms :
    (room_within base_limits lists_room (pos 3) (pos 2)
    ∷ room_within base_limits scratch_room (pos 3) (pos 2)
    ∷ room_within base_limits lists_room (pos 2000000) (pos 20000000)
    ∷ room_within base_limits scratch_room (pos 2000000) (pos 20000000)
    ∷ room_within base_limits lists_room (pos 2000001) (pos 0)
    ∷ room_within base_limits scratch_room (pos 0) (pos 20000001)
    ∷ room_within base_limits scratch_room (negsuc 0) (pos 0)
    ∷ room_within base_limits scratch_room (pos 0) (negsuc 0)
    ∷ [])
    ≡ (7 ∷ 66 ∷ 42000000 ∷ 52000016 ∷ 0 ∷ 0 ∷ 0 ∷ 0 ∷ [])
unfolding opened
rooms = refl
