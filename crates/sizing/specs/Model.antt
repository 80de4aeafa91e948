-- What each function does to the memory: the code's own steps, as functions. The laws of `proofs/` say what these mean for the marks.
-- Assumes nothing.
use Rattle.std.specs.Prelude.{ℕ, ◌+◌, ◌-◌, ◌^◌, cond, List, length, ℤ, nat_le, nat_lt}
use Rattle.plain.specs.Turns.{times}
use Rattle.cells.specs.Layout.{DEGREE, ELEN, NV, PE, W}
use Rattle.cells.specs.Rows.{clipped}
use Rattle.cells.specs.View.{at, rd, up, wrapped}

-- the counter of e begins, where it is a number of a cell
unfoldable pub sized_first : ℕ → ℕ → ℕ → ℕ → List ℤ → List ℤ
sized_first n weight flag e s = cond (nat_lt (rd n DEGREE s e + (flag - weight)) (2 ^ 63)) (up n W s e (rd n DEGREE s e + (flag - weight))) s

-- a row has e: the counter loses the row's weight
unfoldable pub sized_element : ℕ → ℕ → ℕ → ℕ → List ℤ → List ℤ
sized_element n weight flag e s =
    cond (nat_le flag (rd n W s e)) (up n W s e (rd n W s e - weight)) (cond (nat_lt 0 (rd n W s e)) (sized_first n weight flag e s) s)

-- the element in cell q of the list space
unfoldable pub sized_at : ℕ → List ℤ → ℕ → ℕ → ℕ → List ℤ → List ℤ
sized_at n l weight flag q s = sized_element n weight flag (at l q) s

-- the elements of a part of the list space
unfoldable pub sized_part : ℕ → List ℤ → ℕ → ℕ → ℕ → ℕ → List ℤ → List ℤ
sized_part n l weight flag p k s = times k (λ t. sized_at n l weight flag (p + t)) s

-- the same, where all of it is there and the weight is not above the flag
unfoldable pub sized_list : ℕ → List ℤ → ℕ → ℕ → ℕ → ℕ → List ℤ → List ℤ
sized_list n l weight flag p k s = cond (nat_le (p + k) (length l)) (cond (nat_le weight flag) (sized_part n l weight flag p k s) s) s

-- those of row i
unfoldable pub sized_of : ℕ → List ℤ → ℕ → ℕ → List ℤ → List ℤ
sized_of n l flag i s = sized_list n l (rd n NV s i) flag (rd n PE s i) (rd n ELEN s i) s

-- those of the row in cell q of the list space
unfoldable pub sized_row : ℕ → List ℤ → ℕ → ℕ → List ℤ → List ℤ
sized_row n l flag q s = sized_of n l flag (at l q) s

-- those of the rows of a part of the list space
unfoldable pub sized_all : ℕ → List ℤ → ℕ → ℕ → ℕ → List ℤ → List ℤ
sized_all n l flag from k s = times (clipped (length l) from k) (λ t. sized_row n l flag (from + t)) s

-- ---- the weight of the rows, on the way

unfoldable pub weighed_row : ℕ → List ℤ → List ℤ → ℕ → ℕ → ℕ
weighed_row n l s q sum = wrapped sum (rd n NV s (at l q))

-- a sum that is a number of a cell, or 0
unfoldable pub fitted : ℕ → ℕ
fitted sum = cond (nat_lt sum (2 ^ 63)) sum 0

unfoldable pub weighed_rows : ℕ → List ℤ → List ℤ → ℕ → ℕ → ℕ
weighed_rows n l s from k = fitted (times (clipped (length l) from k) (λ t. weighed_row n l s (from + t)) 0)
