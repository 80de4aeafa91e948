-- Document 01, "Elimination rules", step 5: variables with the same list are merged.
-- Assumes nothing.
use Rattle.std.specs.Prelude.{ℕ, ◌%◌, Bool, ◌&&◌, cond, eqb, length}
use mathlib.Core.List.{List, [], ◌∷◌, ◌++◌, reverse, tail, foldl}
use Rattle.plain.specs.Lists.{keep, total, itself, same_members}
use Rattle.definition.specs.State.{Graph, elements_of, variables_of, has_weight, merge_into}

-- "the remainder by n of the sum": what is made of the sum of the kept numbers. Every function here takes it as `key_of`.
unfoldable pub plain_key : ℕ → ℕ → ℕ
plain_key n sum = sum % n

-- the entries after the first: the kept elements, which stand behind the new one, and the kept variables
abbrev pub entries_of : Graph → ℕ → List ℕ
entries_of g v = tail (elements_of g v) ++ variables_of g v

-- "Its key is the remainder by n of the sum of the kept element and variable numbers."
unfoldable pub key : (ℕ → ℕ) → Graph → ℕ → ℕ
key key_of g v = key_of (total itself (entries_of g v))

-- "equal length, equal element count and the same entries after the first, in any order"
unfoldable pub same_lists : Graph → ℕ → ℕ → Bool
same_lists g i j =
    eqb (length (entries_of g j)) (length (entries_of g i))
    && eqb (length (elements_of g j)) (length (elements_of g i))
    && same_members (entries_of g j) (entries_of g i)

-- "Variables of equal key are compared": both are still there, have one key, and the same lists
unfoldable pub alike : (ℕ → ℕ) → Graph → ℕ → ℕ → Bool
alike key_of g i j = has_weight g i && has_weight g j && eqb (key key_of g i) (key key_of g j) && same_lists g i j

-- "merge the later one in that order into the earlier, adding its weight"
unfoldable pub merge_one : (ℕ → ℕ) → ℕ → Graph → ℕ → Graph
merge_one key_of i g j = cond (alike key_of g i j) (merge_into i j g) g

-- each variable with those behind it
unfoldable pub merge_all : (ℕ → ℕ) → List ℕ → Graph → Graph
merge_all key_of [] g = g
merge_all key_of (i ∷ js) g = merge_all key_of js (foldl (merge_one key_of i) g js)

-- "Variables of equal key are compared, newest first"
unfoldable pub merged_alike : (ℕ → ℕ) → List ℕ → Graph → Graph
merged_alike key_of new g = merge_all key_of (reverse (keep (has_weight g) new)) g
