-- What becomes of one mark when the rows of the new element are gone through: numbers alone, and no memory.
-- Assumes nothing.
use Rattle.std.specs.Prelude.{ℕ, ◌+◌, ◌-◌, ◌^◌, cond, List, nat_le, nat_lt}
use mathlib.Core.List.{foldl}
use Rattle.plain.specs.Lists.{member, total}

-- the mark of an element of this degree, after the first row that has it, of this weight: a counter, where that is a number of a cell
unfoldable pub begun : ℕ → ℕ → ℕ → ℕ → ℕ
begun flag weight degree mark = cond (nat_lt (degree + (flag - weight)) (2 ^ 63)) (degree + (flag - weight)) mark

-- after any row that has it
unfoldable pub lessened : ℕ → ℕ → ℕ → ℕ → ℕ
lessened flag weight degree mark = cond (nat_le flag mark) (mark - weight) (cond (nat_lt 0 mark) (begun flag weight degree mark) mark)

-- after row i, whose elements are E i and whose weight is wt i
abbrev pub passing : ℕ → (ℕ → List ℕ) → (ℕ → ℕ) → ℕ → ℕ → ℕ → ℕ → ℕ
passing flag E wt degree e mark i = cond (member e (E i)) (lessened flag (wt i) degree mark) mark

-- after all of them
unfoldable pub counted : ℕ → (ℕ → List ℕ) → (ℕ → ℕ) → ℕ → ℕ → List ℕ → ℕ → ℕ
counted flag E wt degree e new mark = foldl (passing flag E wt degree e) mark new

-- what the rows that have e weigh together
abbrev pub shared : (ℕ → List ℕ) → (ℕ → ℕ) → ℕ → List ℕ → ℕ
shared E wt e new = total (λ i. cond (member e (E i)) (wt i) 0) new
