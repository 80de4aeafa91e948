-- Document 01, "The dense threshold": its examples, and which multipliers are refused.
-- Assumes nothing.
use Prim.Native.Nat.{ℕ}
use mathlib.Core.Path.{◌≡◌, refl}
use mathlib.Core.Bool.{true, false}
use mathlib.Core.List.{[], ◌∷◌, map}
use mathlib.Core.Option.{none, some}
use lib.IntN.{pos, negsuc}
use lib.Ieee.{Float, nan, inf, fin}
use Rattle.definition.specs.Threshold.{full_rows, multiplier, quarters_of, rule_of, start, threshold}
use Rattle.definition.specs.Answers.{or_full_rows}
use Rattle.definition.specs.Opened.{opened}
use Rattle.definition.proofs.Problems.{minus_one, minus_zero, a_quarter}

abbrev two : Float
two = fin false 1 (pos 1)

abbrev five_quarters : Float
five_quarters = fin false 5 (negsuc 1)

abbrev thousand : Float
thousand = fin false 125 (pos 3)

-- 1,000.25
abbrev pub too_large : Float
too_large = fin false 4001 (negsuc 1)

-- the float nearest to 0.3
abbrev not_quarters : Float
not_quarters = fin false 5404319552844595 (negsuc 53)

abbrev starts_from : Float → ℕ → ℕ
starts_from m n = start (or_full_rows (rule_of m)) n

abbrev ends_at : Float → ℕ → ℕ
ends_at m n = threshold (or_full_rows (rule_of m)) n

-- "Multiplier 2: n = 99 starts from 19, n = 100 from 20. Multiplier 1.25: n = 399 starts from 24, n = 400 from 25."
pub starts : (starts_from two 99 ∷ starts_from two 100 ∷ starts_from five_quarters 399 ∷ starts_from five_quarters 400 ∷ []) ≡ (19 ∷ 20 ∷ 24 ∷ 25 ∷ [])
unfolding opened
starts = refl

-- "Multiplier 1000 with n = 100,000 ends at 100,000."
pub thousand_ends : ends_at thousand 100000 ≡ 100000
unfolding opened
thousand_ends = refl

-- "start from n-2, or 0 where n is below 2": at n = 0, 1, 2, 18; "Then take at least 16, then at most n": at n = 1, 17, 18, 19
pub full_rows_start : map (starts_from minus_one) (0 ∷ 1 ∷ 2 ∷ 18 ∷ []) ≡ (0 ∷ 0 ∷ 0 ∷ 16 ∷ [])
unfolding opened
full_rows_start = refl

pub full_rows_end : map (ends_at minus_one) (1 ∷ 17 ∷ 18 ∷ 19 ∷ []) ≡ (1 ∷ 16 ∷ 16 ∷ 17 ∷ [])
unfolding opened
full_rows_end = refl

-- a thousand times the root of 2,000,000, at which 20 binary digits are not enough
pub far_start : starts_from thousand 2000000 ≡ 1414213
unfolding opened
far_start = refl

-- "Multiplier 1000.25 and multiplier 0.3 are refused", and what is not a number or infinite, either way
pub refused_multipliers : map rule_of (too_large ∷ not_quarters ∷ nan ∷ inf false ∷ inf true ∷ []) ≡ (none ∷ none ∷ none ∷ none ∷ none ∷ [])
unfolding opened
refused_multipliers = refl

-- 1,000 and 0.25 are not
pub kept_multipliers : map rule_of (thousand ∷ a_quarter ∷ []) ≡ (some (multiplier thousand) ∷ some (multiplier a_quarter) ∷ [])
unfolding opened
kept_multipliers = refl

-- a multiplier below zero may be any number: -1, -0.3
pub full_rows_only : map rule_of (minus_one ∷ fin true 5404319552844595 (negsuc 53) ∷ []) ≡ (some full_rows ∷ some full_rows ∷ [])
unfolding opened
full_rows_only = refl

-- minus zero is kept as it came, and "counts as zero"
pub minus_zero_kept : rule_of minus_zero ≡ some (multiplier minus_zero)
unfolding opened
minus_zero_kept = refl

pub minus_zero_counts : (n : ℕ) → start (multiplier minus_zero) n ≡ start (multiplier (fin false 0 (pos 0))) n
unfolding start quarters_of
minus_zero_counts n = refl
