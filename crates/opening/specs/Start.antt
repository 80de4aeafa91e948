-- The start as the code does it: each row a variable, the degree lists, and then the rows that are none set aside.
-- Assumes nothing.
use Rattle.std.specs.Prelude.{ℕ, cond, List, ltb, ℤ}
use Rattle.plain.specs.Turns.{times}
use Rattle.cells.specs.Layout.{LEN, WANT, ELEN, DEGREE, W, HHEAD, NV}
use Rattle.cells.specs.View.{plus, rd, up}
use Rattle.cells.specs.Links.{hang, named}
use Rattle.chain.specs.Model.{enlisted_all}
use Rattle.opening.specs.declared.Aside.{Aside}

-- ---- every row begins

unfoldable pub weighed : ℕ → ℕ → List ℤ → List ℤ
weighed n i s = up n ELEN (up n WANT (up n NV s i 1) i 1) i 0

unfoldable pub marked : ℕ → ℕ → List ℤ → List ℤ
marked n i s = up n HHEAD (up n W (up n DEGREE s i (rd n LEN s i)) i 1) i n

unfoldable pub begun : ℕ → ℕ → List ℤ → List ℤ
begun n i s = marked n i (weighed n i s)

unfoldable pub begun_all : ℕ → List ℤ → List ℤ
begun_all n s = times n (begun n) s

-- ---- the rows that are set aside

unfoldable pub rooted : ℕ → ℕ → List ℤ → List ℤ
rooted n i s = hang n (up n W (up n ELEN (up n WANT s i 0) i 1) i 0) i (named n n)

unfoldable pub left_out : ℕ → ℕ → List ℤ → List ℤ
left_out n i s = hang n (up n LEN (up n WANT (up n NV s i 0) i 0) i 0) i (named n n)

-- the scratch, and the counts
pub record Setting : Type 0 where
  pub mem : List ℤ
  pub aside : Aside

abbrev pub setting : List ℤ → Aside → Setting
setting s a = record { mem = s; aside = a }

unfoldable pub set_dense : ℕ → ℕ → Setting → Setting
set_dense n i m = setting (left_out n i m.mem) (record { roots = m.aside.roots; dense = plus m.aside.dense 1 })

unfoldable pub set_root : ℕ → ℕ → Setting → Setting
set_root n i m = setting (rooted n i m.mem) (record { roots = plus m.aside.roots 1; dense = m.aside.dense })

unfoldable pub set_one : ℕ → ℕ → ℕ → Setting → Setting
set_one n limit i m =
    cond (ltb 0 (rd n LEN m.mem i)) (cond (ltb limit (rd n LEN m.mem i)) (set_dense n i m) m) (set_root n i m)

unfoldable pub set_all : ℕ → ℕ → List ℤ → Setting
set_all n limit s = times n (set_one n limit) (setting s (record { roots = 0; dense = 0 }))

-- ---- the whole

unfoldable pub opened : ℕ → ℕ → List ℤ → Setting
opened n limit s = set_all n limit (enlisted_all n limit (begun_all n s))
