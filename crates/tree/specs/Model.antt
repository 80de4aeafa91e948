-- What the code after the elimination does, as functions of the memory: owners of merged rows, the lists of what hangs under each row, and the walk that
-- writes the permutation and its inverse. The rows without a parent hang under n, which is no row.
-- Assumes nothing.
use Rattle.std.specs.Prelude.{ℕ, ◌-◌, ◌*◌, Bool, false, cond, List, ltb, leb, eqb, ℤ}
use Rattle.plain.specs.Turns.{times}
use Rattle.cells.specs.Layout.{ELEN, MERGES, NV, SIBLING, LARGEST, STACK, FIRST}
use Rattle.cells.specs.Links.{named, linked, parent, hang}
use Rattle.cells.specs.View.{rd, up, wr, plus}
use Rattle.tree.specs.declared.Walk.{Walk}

-- what row i hangs under: its parent, or n
unfoldable pub above : ℕ → List ℤ → ℕ → ℕ
above n s i = linked n (parent n s i)

-- ---- owners

-- where v was merged into a row that is merged itself, v gets that row's parent
unfoldable pub owned : ℕ → ℕ → List ℤ → List ℤ
owned n v s = cond (eqb (rd n NV s (above n s v)) 0) (hang n s v (named n (above n s (above n s v)))) s

-- the same of the k rows of the log, the last first
unfoldable pub owned_all : ℕ → ℕ → List ℤ → List ℤ
owned_all n k s = times k (λ t m. owned n (rd n MERGES m (k - 1 - t)) m) s

-- ---- the largest child

-- nothing hangs under j
unfoldable pub blank_one : ℕ → ℕ → List ℤ → List ℤ
blank_one n j s = up n LARGEST (up n FIRST s j n) j n

unfoldable pub blanked : ℕ → List ℤ → List ℤ
blanked n s = times n (blank_one n) (up n FIRST s n n)

-- j is not smaller than b
unfoldable pub as_large : ℕ → List ℤ → ℕ → ℕ → Bool
as_large n s b j = leb (rd n ELEN s b) (rd n ELEN s j)

-- j is the largest child of p so far, if it is not smaller than the one before
unfoldable pub measured_under : ℕ → ℕ → ℕ → List ℤ → List ℤ
measured_under n p j s = cond (as_large n s (rd n LARGEST s p) j) (up n LARGEST s p j) s

-- the same of an element and its parent
unfoldable pub measured_one : ℕ → ℕ → List ℤ → List ℤ
measured_one n j s = cond (ltb 0 (rd n NV s j)) (measured_under n (above n s j) j s) s

unfoldable pub measured : ℕ → List ℤ → List ℤ
measured n s = times n (measured_one n) s

-- ---- what hangs under each

-- j is the largest child of p
unfoldable pub largest_of : ℕ → List ℤ → ℕ → ℕ → Bool
largest_of n s p j = cond (ltb p n) (eqb (rd n LARGEST s p) j) false

-- 0 of a merged or a dense row, 1 of the largest child of an element, 2 of any other element
unfoldable pub class_of : ℕ → List ℤ → ℕ → ℕ
class_of n s j = cond (ltb 0 (rd n NV s j)) (cond (largest_of n s (above n s j) j) 1 2) 0

-- j becomes the first that hangs under p
unfoldable pub listed : ℕ → ℕ → ℕ → List ℤ → List ℤ
listed n p j s = up n FIRST (up n SIBLING s j (rd n FIRST s p)) p j

-- j becomes the first where it belongs, if it is of class c
unfoldable pub threaded_one : ℕ → ℕ → ℕ → List ℤ → List ℤ
threaded_one n c j s = cond (eqb (class_of n s j) c) (listed n (above n s j) j s) s

-- the rows of class c, the last first
unfoldable pub threaded : ℕ → ℕ → List ℤ → List ℤ
threaded n c s = times n (λ k. threaded_one n c (n - 1 - k)) s

unfoldable pub prepared : ℕ → List ℤ → List ℤ
prepared n s = threaded n 2 (threaded n 1 (threaded n 0 (measured n (blanked n s))))

-- ---- the walk

-- the two outputs
pub record Sheets : Type 0 where
  pub permutation : List ℤ
  pub inverse : List ℤ

abbrev pub sheets : List ℤ → List ℤ → Sheets
sheets p i = record { permutation = p; inverse = i }

-- row v stands at place k
unfoldable pub placed : ℕ → ℕ → ℕ → Sheets → Sheets
placed n k v o = cond (ltb k n) (cond (ltb v n) (sheets (wr o.permutation k v) (wr o.inverse v k)) o) o

-- the memory, the outputs, and where the walk stands
pub record Tour : Type 0 where
  pub mem : List ℤ
  pub out : Sheets
  pub st : Walk

abbrev pub tour : List ℤ → List ℤ → List ℤ → Walk → Tour
tour s p i w = record { mem = s; out = sheets p i; st = w }

-- the row goes on the stack, and what hangs under it comes next
unfoldable pub deeper : ℕ → List ℤ → Walk → Walk
deeper n s w = record { row = rd n FIRST s w.row; depth = plus w.depth 1; done = w.done }

-- the row that the stack has on top
unfoldable pub top : ℕ → List ℤ → Walk → ℕ
top n s w = rd n STACK s (w.depth - 1)

-- it is the next of the permutation, and the one behind it comes next
unfoldable pub higher : ℕ → List ℤ → Walk → Walk
higher n s w = record { row = rd n SIBLING s (top n s w); depth = w.depth - 1; done = plus w.done 1 }

unfoldable pub entered : ℕ → Tour → Tour
entered n m = record { mem = up n STACK m.mem m.st.depth m.st.row; out = m.out; st = deeper n m.mem m.st }

unfoldable pub left_behind : ℕ → Tour → Tour
left_behind n m = record { mem = m.mem; out = placed n m.st.done (top n m.mem m.st) m.out; st = higher n m.mem m.st }

unfoldable pub stepped : ℕ → Tour → Tour
stepped n m = cond (ltb m.st.row n) (entered n m) (cond (ltb 0 m.st.depth) (left_behind n m) m)

-- from the first that hangs under n
abbrev pub begun : ℕ → List ℤ → Sheets → Tour
begun n s o = record { mem = s; out = o; st = record { row = rd n FIRST s n; depth = 0; done = 0 } }

-- twice as many steps as there are rows
unfoldable pub walked : ℕ → List ℤ → Sheets → Sheets
walked n s o = (times (2 * n) (λ k. stepped n) (begun n s o)).out

-- the whole, of a memory whose log of merges has k entries
unfoldable pub ordered : ℕ → ℕ → List ℤ → Sheets → Sheets
ordered n k s o = walked n (prepared n (owned_all n k s)) o
