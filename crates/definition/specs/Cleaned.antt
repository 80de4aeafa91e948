-- The pattern that is ordered: "for a jumbled pattern from what `preprocess.rs` gives", which is the transpose with no repeats.
-- Assumes nothing.
use Rattle.std.specs.Prelude.{ℕ, cond, List, [], map, length, get_or}
use Rattle.plain.specs.Lists.{up_to, keep, member}
use Rattle.definition.specs.Pattern.{jumbled}

-- the columns that have row i, ascending
unfoldable pub columns_with : List (List ℕ) → ℕ → List ℕ
columns_with cols i = keep (λ j. member i (get_or cols j [])) (up_to (length cols))

-- row i of the transpose, for each i: no repeats, ascending
unfoldable pub transposed : List (List ℕ) → List (List ℕ)
transposed cols = map (columns_with cols) (up_to (length cols))

-- a pattern that is not jumbled is ordered as it came
unfoldable pub cleaned : List (List ℕ) → List (List ℕ)
cleaned cols = cond (jumbled cols) (transposed cols) cols
