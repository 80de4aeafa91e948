-- A lent slice of signed numbers as a memory of natural numbers. Of the list space and of a slice of i32, `at l i` is the number in cell i and `wr l i v` the
-- memory with v there; of the scratch, `rd n f s i` is the number of field f at i and `up n f s i v` the memory with v there. All are total: a read outside
-- gives 0, a store outside does nothing. All are shut: whoever reasons about memory uses the laws of `proofs/`, and never the list or the layout.
-- Assumes nothing.
use Rattle.std.specs.Prelude.{ℕ, ◌+◌, ◌-◌, ◌*◌, ◌%◌, ◌^◌, ◌<◌, ◌≤◌, ◌≡◌, Bool, true, false, cond, List, ltb, leb, eqb, ℤ, pos, negsuc, length, get_or, set}
use Rattle.std.specs.Int.Signed.{lt_z}

-- the number of a cell: a negative one counts as 0
abbrev pub nat : ℤ → ℕ
nat (pos k) = k
nat (negsuc k) = 0

-- the number in cell i, 0 past the end
unfoldable pub at : List ℤ → ℕ → ℕ
at l i = nat (get_or l i (pos 0))

-- v in cell i; nothing past the end
unfoldable pub wr : List ℤ → ℕ → ℕ → List ℤ
wr l i v = set l i (pos v)

-- cell i is below 0
unfoldable pub negative : List ℤ → ℕ → Bool
negative l i = lt_z (get_or l i (pos 0)) (pos 0)

-- ---- the scratch: `Layout` names its fields and says what each holds in which phase

-- the cell of field f at i
unfoldable pub place : ℕ → ℕ → ℕ → ℕ
place n f i = cond (ltb f 8) (8 * i + f) (cond (ltb f 16) (f * n + i) (16 * n + 16 + i))

-- field f has an i: below n, but the pointers of the pattern are one more, its rows as many as there is room for, and there is no field behind them
unfoldable pub within : ℕ → ℕ → ℕ → Bool
within n f i = cond (ltb f 15) (ltb i n) (cond (eqb f 15) (leb i n) (eqb f 16))

-- the number of field f at i; 0 where there is none
unfoldable pub rd : ℕ → ℕ → List ℤ → ℕ → ℕ
rd n f s i = cond (within n f i) (at s (place n f i)) 0

-- v in field f at i; nothing where there is none
unfoldable pub up : ℕ → ℕ → List ℤ → ℕ → ℕ → List ℤ
up n f s i v = cond (within n f i) (wr s (place n f i) v) s

-- there is room for all fields but the rows of the pattern, and nothing negative in them but parents (`Links`), which stand where the place of a list stood
pub record Room (n : ℕ) (s : List ℤ) : Type 0 where
  pub room : 16 * n + 16 ≤ length s
  pub calm : (f i : ℕ) → 0 < f → within n f i ≡ true → negative s (place n f i) ≡ false

-- that there is room, as a test
unfoldable pub roomy : ℕ → List ℤ → Bool
roomy n s = leb (16 * n + 16) (length s)

-- for how many rows of the pattern there is room
unfoldable pub spare : ℕ → List ℤ → ℕ
spare n s = length s - (16 * n + 16)

-- ---- sums

-- the sum of two numbers, or the largest number that a cell holds
unfoldable pub plus : ℕ → ℕ → ℕ
plus a b = cond (ltb (a + b) (2 ^ 63)) (a + b) (2 ^ 63 - 1)

-- the sum, as a machine's word has it
unfoldable pub wrapped : ℕ → ℕ → ℕ
wrapped a b = (a + b) % 2 ^ 64

-- ---- where the sign counts: the pattern as it is lent, and the outputs

-- cell i is the number v, and not a negative one
pub record Holds (l : List ℤ) (i v : ℕ) : Type 0 where
  pub is : get_or l i (pos 0) ≡ pos v
