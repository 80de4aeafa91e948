-- What each function does to the memory: the code's own steps, as functions. The laws of `proofs/` say what these mean for the lists.
-- Assumes nothing.
use Rattle.std.specs.Prelude.{◌≡◌, ℕ, ◌+◌, ◌-◌, ◌%◌, ◌≤◌, Bool, cond, ◌&&◌, List, length, ℤ, ◌==◌, nat_le, nat_lt}
use Rattle.plain.specs.Turns.{times}
use Rattle.cells.specs.Layout.{PE, LEN, WANT, ELEN, DEGREE, W, HHEAD, HNEXT, HKEY, MERGES, NV}
use Rattle.cells.specs.View.{at, plus, rd, up, wr, wrapped}
use Rattle.cells.specs.Rows.{clipped}
use Rattle.cells.specs.Links.{named, hang}
use Rattle.packed.specs.Tray.{absorbed}
use Rattle.trimming.specs.declared.Kept.{Kept}
use Rattle.trimming.specs.declared.Merged.{Merged}

-- ---- what is kept

-- from k to r one more is kept, or none
pub record Grown (k r : Kept) : Type 0 where
  pub elements : r.elements ≡ k.elements
  pub low : k.end ≤ r.end
  pub high : r.end ≤ k.end + 1

unfoldable pub counted : ℕ → ℕ → Kept → Kept
counted x size k = record { elements = k.elements; end = k.end + 1; deg = wrapped k.deg size; sum = wrapped k.sum x }

-- the list space, the scratch, and the numbers beside them
pub record Keeping : Type 0 where
  pub lists : List ℤ
  pub mem : List ℤ
  pub kept : Kept

abbrev pub keeping : List ℤ → List ℤ → Kept → Keeping
keeping l s k = record { lists = l; mem = s; kept = k }

-- x, of this size, goes to the cell behind what is kept
unfoldable pub kept_entry : ℕ → ℕ → Keeping → Keeping
kept_entry x size m = keeping (wr m.lists m.kept.end x) m.mem (counted x size m.kept)

-- an element of mark w is dropped, though it is there
abbrev pub swallows : Bool → ℕ → ℕ → Bool
swallows aggressive flag w = aggressive && w == flag

unfoldable pub kept_live : ℕ → ℕ → ℕ → Bool → ℕ → ℕ → Keeping → Keeping
kept_live n me flag aggressive e w m =
    cond (swallows aggressive flag w) (keeping m.lists (absorbed n me e m.mem) m.kept) (kept_entry e (w - flag) m)

-- the element in cell q
unfoldable pub kept_element : ℕ → ℕ → ℕ → Bool → ℕ → Keeping → Keeping
kept_element n me flag aggressive q m =
    cond (nat_lt 0 (rd n W m.mem (at m.lists q))) (kept_live n me flag aggressive (at m.lists q) (rd n W m.mem (at m.lists q)) m) m

-- of what stands from p on
abbrev pub nothing : ℕ → Kept
nothing p = record { elements = p; end = p; deg = 0; sum = 0 }

unfoldable pub kept_elements : ℕ → ℕ → ℕ → Bool → ℕ → ℕ → List ℤ → List ℤ → Keeping
kept_elements n me flag aggressive p len l s =
    times len (λ t. kept_element n me flag aggressive (p + t)) (keeping l s (nothing p))

-- the variable in cell q
unfoldable pub kept_variable : ℕ → ℕ → Keeping → Keeping
kept_variable n q m =
    cond (nat_lt 0 (rd n WANT m.mem (at m.lists q))) (kept_entry (at m.lists q) (rd n WANT m.mem (at m.lists q)) m) m

-- the elements are done
abbrev pub halfway : Kept → Kept
halfway k = record { elements = k.end; end = k.end; deg = k.deg; sum = k.sum }

unfoldable pub kept_variables : ℕ → ℕ → ℕ → Keeping → Keeping
kept_variables n from len m =
    times len (λ t. kept_variable n (from + t)) (keeping m.lists m.mem (halfway m.kept))

-- of the list of len cells from p on, with so many elements
unfoldable pub kept_all : ℕ → ℕ → ℕ → Bool → ℕ → ℕ → ℕ → List ℤ → List ℤ → Keeping
kept_all n me flag aggressive p elen len l s =
    kept_variables n (p + elen) (len - elen) (kept_elements n me flag aggressive p elen l s)

-- ---- nothing is kept

abbrev pub weighed : ℕ → ℕ → List ℤ → ℕ
weighed n i s = rd n NV s i

unfoldable pub took_weight : ℕ → ℕ → ℕ → List ℤ → List ℤ
took_weight n me i s = up n NV (up n NV s me (plus (rd n NV s me) (rd n NV s i))) i 0

unfoldable pub buried : ℕ → ℕ → ℕ → ℕ → List ℤ → List ℤ
buried n me i made s = up n MERGES (hang n (up n LEN s i 0) i (named n me)) made i

unfoldable pub massed : ℕ → ℕ → List ℤ → Merged → Merged
massed n i s t = record { weight = plus t.weight (rd n NV s i); made = plus t.made 1 }

-- ---- the list of a row that stays

-- the number at place `elements` goes to the end, the first to its place, and me to the front
unfoldable pub turned : ℕ → ℕ → ℕ → ℕ → List ℤ → List ℤ
turned me p elements end l =
    let a = wr l end (at l elements) in
    wr (wr a elements (at a p)) p me

unfoldable pub sized : ℕ → ℕ → ℕ → ℕ → List ℤ → List ℤ
sized n i elements cnt s = up n LEN (up n ELEN s i (elements + 1)) i (cnt + 1)

unfoldable pub lowered : ℕ → ℕ → ℕ → List ℤ → List ℤ
lowered n i deg s = cond (nat_lt deg (rd n DEGREE s i)) (up n DEGREE s i deg) s

unfoldable pub key_of : ℕ → ℕ → ℕ
key_of n sum = cond (nat_lt 0 n) (sum % n) 0

unfoldable pub keyed : ℕ → ℕ → ℕ → List ℤ → List ℤ
keyed n i key s = up n HKEY (up n HHEAD (up n HNEXT s i (rd n HHEAD s key)) key i) i key

unfoldable pub relisted : ℕ → ℕ → ℕ → Kept → List ℤ → List ℤ
relisted n i p k s = keyed n i (key_of n k.sum) (lowered n i k.deg (sized n i (k.elements - p) (k.end - p) s))

-- ---- the rows of the new element

-- the list space, the scratch, the weight merged into the pivot and the rows in the log
pub record Trimming : Type 0 where
  pub lists : List ℤ
  pub mem : List ℤ
  pub merged : Merged

abbrev pub trimming : List ℤ → List ℤ → Merged → Trimming
trimming l s t = record { lists = l; mem = s; merged = t }

-- row i, which keeps something from p on: its new list has one cell more, and where there is none nothing is done
unfoldable pub renewed : ℕ → ℕ → ℕ → ℕ → Keeping → Merged → Trimming
renewed n me i p m t =
    cond (nat_lt m.kept.end (length m.lists))
    (trimming (turned me p m.kept.elements m.kept.end m.lists) (relisted n i p m.kept m.mem) t)
    (trimming m.lists m.mem t)

-- row i, with what is kept from p on
unfoldable pub settled : ℕ → ℕ → ℕ → ℕ → Keeping → Merged → Trimming
settled n me i p m t =
    cond (nat_lt p m.kept.end) (renewed n me i p m t)
    (trimming m.lists (buried n me i t.made (took_weight n me i m.mem)) (massed n i m.mem t))

-- the list of row i is there
abbrev pub present : ℕ → ℕ → List ℤ → List ℤ → Bool
present n i l s = nat_le (rd n ELEN s i) (rd n LEN s i) && nat_le (rd n PE s i + rd n LEN s i) (length l)

unfoldable pub updated : ℕ → ℕ → ℕ → Bool → ℕ → Trimming → Trimming
updated n me flag aggressive i m =
    cond (present n i m.lists m.mem)
    (settled n me i (rd n PE m.mem i) (kept_all n me flag aggressive (rd n PE m.mem i) (rd n ELEN m.mem i) (rd n LEN m.mem i) m.lists m.mem) m.merged)
    m

unfoldable pub updated_at : ℕ → ℕ → ℕ → Bool → ℕ → Trimming → Trimming
updated_at n me flag aggressive q m = updated n me flag aggressive (at m.lists q) m

unfoldable pub updated_all : ℕ → ℕ → ℕ → Bool → ℕ → ℕ → ℕ → List ℤ → List ℤ → Trimming
updated_all n me flag aggressive from len made l s =
    times (clipped (length l) from len) (λ j. updated_at n me flag aggressive (from + j)) (trimming l s (record { weight = 0; made = made }))
