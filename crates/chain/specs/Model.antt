-- What each function does to the memory, step by step: the code's own steps, as functions. The laws of `proofs/` say what these mean for the lists.
-- Assumes nothing.
use Rattle.std.specs.Prelude.{ℕ, cond, List, ltb, leb, ℤ}
use Rattle.plain.specs.Turns.{times}
use Rattle.cells.specs.Layout.{LEN, DEGREE, NEXT, LAST, HEAD}
use Rattle.cells.specs.View.{rd, up}

-- ---- one row

-- what stood before row i, b, or the head of its list, where there is none, goes on at a
unfoldable pub relinked : ℕ → List ℤ → ℕ → ℕ → ℕ → List ℤ
relinked n s i b a = cond (ltb b n) (up n NEXT s b a) (up n HEAD s (rd n DEGREE s i) a)

-- row i leaves its list
unfoldable pub removed : ℕ → List ℤ → ℕ → List ℤ
removed n s i = relinked n (up n LAST s (rd n NEXT s i) (rd n LAST s i)) i (rd n LAST s i) (rd n NEXT s i)

-- row i is the front of list d, before row h
unfoldable pub headed : ℕ → List ℤ → ℕ → ℕ → ℕ → List ℤ
headed n s d h i = up n HEAD (up n DEGREE (up n LAST (up n NEXT s i h) i n) i d) d i

-- row i goes to the front of list d
unfoldable pub pushed : ℕ → List ℤ → ℕ → ℕ → List ℤ
pushed n s d i = up n LAST (headed n s d (rd n HEAD s d) i) (rd n HEAD s d) i

-- ---- the start

-- no list has a front
unfoldable pub emptied : ℕ → List ℤ → List ℤ
emptied n s = times n (λ d m. up n HEAD m d n) s

-- row i goes to the front of the list of its length, if that is not 0, not above the limit and below n
unfoldable pub enlisted_one : ℕ → ℕ → ℕ → List ℤ → List ℤ
enlisted_one n limit i s =
    cond (ltb 0 (rd n LEN s i)) (cond (leb (rd n LEN s i) limit) (cond (ltb (rd n LEN s i) n) (pushed n s (rd n LEN s i) i) s) s) s

-- every row, ascending
unfoldable pub enlisted_all : ℕ → ℕ → List ℤ → List ℤ
enlisted_all n limit s = times n (enlisted_one n limit) (emptied n s)
