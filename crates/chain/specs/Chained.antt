-- What it means that a memory holds the degree lists: `Chained n s L`, where L d is the list of degree d.
-- Assumes nothing.
use Rattle.std.specs.Prelude.{ℕ, ◌<◌, ◌≡◌, List, [], ◌∷◌, ℤ}
use Rattle.plain.specs.Members.{Distinct}
use Rattle.cells.specs.Layout.{DEGREE, NEXT, LAST, HEAD}
use Rattle.cells.specs.View.{rd}

-- the three fields of a row that a list goes by
pub record Links : Type 0 where
  pub next : ℕ → ℕ
  pub last : ℕ → ℕ
  pub degree : ℕ → ℕ

abbrev pub links : ℕ → List ℤ → Links
links n s = record { next = rd n NEXT s; last = rd n LAST s; degree = rd n DEGREE s }

-- x is the row i of list d, behind b
pub record Node (n : ℕ) (f : Links) (d b x i : ℕ) : Type 0 where
  pub here : x ≡ i
  pub small : i < n
  pub back : f.last i ≡ b
  pub deg : f.degree i ≡ d

-- from x on, behind b, the rows are l
abbrev pub Seg : ℕ → Links → ℕ → ℕ → ℕ → List ℕ → Type 0
Seg n f d b x [] = x ≡ n
Seg n f d b x (i ∷ l) = Node n f d b x i × Seg n f d i (f.next i) l

-- every list below n is spelled by the head of its degree and the links, n is the end of each, and every row of it has its degree
pub record Chained (n : ℕ) (s : List ℤ) (L : ℕ → List ℕ) : Type 0 where
  pub chain : (d : ℕ) → d < n → Seg n (links n s) d n (rd n HEAD s d) (L d)
  pub distinct : (d : ℕ) → d < n → Distinct (L d)
