-- A gather's reading, as the code does it: numbers go from lists into the scratch table and out of their degree lists, no list moving.
-- The elements that are read are taken up.
-- Assumes nothing.
use Rattle.std.specs.Prelude.{ℕ, ◌+◌, ◌-◌, ◌<◌, ◌≤◌, cond, List, length, ℤ, ◌==◌, nat_lt}
use Rattle.plain.specs.Turns.{times}
use Rattle.cells.specs.Layout.{ELEN, LEN, PE, TMP, W, WANT}
use Rattle.cells.specs.Links.{hang, named}
use Rattle.cells.specs.Rows.{clipped}
use Rattle.cells.specs.View.{at, plus, rd, up, wrapped}
use Rattle.chain.specs.Model.{removed}
use Rattle.packed.specs.Places.{sum_to}
use Rattle.cells.specs.declared.Part.{Part}
use Rattle.packed.specs.declared.Tray.{Tray}

-- how many rows are wanted
unfoldable pub wanted : ℕ → List ℤ → ℕ
wanted n s = sum_to n (λ i. cond (nat_lt 0 (rd n WANT s i)) 1 0)

-- the scratch table begins with k rows, and has a cell for each row that is still wanted
pub record Tabled (n : ℕ) (s : List ℤ) (k : ℕ) : Type 0 where
  pub spare : k + wanted n s ≤ n
  pub rows : (t : ℕ) → t < k → rd n TMP s t < n

-- the scratch, and the numbers beside it
pub record Taking : Type 0 where
  pub mem : List ℤ
  pub tray : Tray

abbrev pub taking : List ℤ → Tray → Taking
taking s t = record { mem = s; tray = t }

-- an entry is collected, with which r are read: the one that finds no place is marked
unfoldable pub counted : ℕ → ℕ → Tray → Tray
counted quota r t = record { cnt = t.cnt + 1; reads = r; mark = cond (t.cnt == quota) r t.mark }

-- an entry is read and not collected
unfoldable pub passed_by : Tray → Tray
passed_by t = record { cnt = t.cnt; reads = wrapped t.reads 1; mark = t.mark }

-- x, with which r are read, goes into the table, and leaves its degree list
unfoldable pub took_row : ℕ → ℕ → ℕ → ℕ → Taking → Taking
took_row n quota x r m = taking (removed n (up n TMP m.mem m.tray.cnt x) x) (counted quota r m.tray)

-- x is read: if it is wanted, it is collected, and wanted no more
unfoldable pub took : ℕ → ℕ → ℕ → Taking → Taking
took n quota x m =
    cond (nat_lt 0 (rd n WANT m.mem x)) (took_row n quota x (wrapped m.tray.reads 1) (taking (up n WANT m.mem x 0) m.tray))
    (taking m.mem (passed_by m.tray))

-- the numbers of a part of the list space, as far as it is there
unfoldable pub took_part : ℕ → ℕ → List ℤ → ℕ → ℕ → Taking → Taking
took_part n quota l p k m = times (clipped (length l) p k) (λ t. took n quota (at l (p + t))) m

-- element e is no more: me took it up, and it has no list
unfoldable pub absorbed : ℕ → ℕ → ℕ → List ℤ → List ℤ
absorbed n me e s = hang n (up n LEN (up n W s e 0) e 0) e (named n me)

-- the number of element e is read, me takes it up, and what was its list is read
unfoldable pub took_element : ℕ → ℕ → ℕ → List ℤ → ℕ → Taking → Taking
took_element n me quota l e m =
    took_part n quota l (rd n PE m.mem e) (rd n LEN m.mem e) (taking (absorbed n me e m.mem) (passed_by m.tray))

-- the elements whose numbers are in a part of the list space
unfoldable pub took_elements : ℕ → ℕ → ℕ → List ℤ → ℕ → ℕ → Taking → Taking
took_elements n me quota l p k m = times (clipped (length l) p k) (λ t. took_element n me quota l (at l (p + t))) m

-- the part of a list behind its elements
unfoldable pub own_part : ℕ → List ℤ → ℕ → Part
own_part n s me = record { from = plus (rd n PE s me) (rd n ELEN s me); len = rd n LEN s me - rd n ELEN s me }

-- its variables
unfoldable pub took_own : ℕ → ℕ → List ℤ → ℕ → Taking → Taking
took_own n quota l me m = took_part n quota l (own_part n m.mem me).from (own_part n m.mem me).len m

abbrev pub empty_tray : Tray
empty_tray = record { cnt = 0; reads = 0; mark = 0 }

-- the whole reading of a gather
unfoldable pub took_all : ℕ → ℕ → List ℤ → List ℤ → ℕ → Taking
took_all n quota l s me = took_own n quota l me (took_elements n me quota l (rd n PE s me) (rd n ELEN s me) (taking s empty_tray))
