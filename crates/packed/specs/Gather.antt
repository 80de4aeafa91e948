-- A gather as the code does it: lists are read, room is made, and the new list is stored.
-- Assumes nothing.
use Rattle.std.specs.Prelude.{ℕ, ◌+◌, ◌-◌, cond, List, length, ℤ, nat_lt}
use Rattle.plain.specs.Turns.{times}
use Rattle.cells.specs.Layout.{LEN, PE}
use Rattle.cells.specs.Rows.{clipped}
use Rattle.cells.specs.View.{at, plus, rd, up, wr}
use Rattle.packed.specs.Model.{entered, laid, packed_all, packed_low}
use Rattle.packed.specs.Tray.{Taking, empty_tray, taking, took_all, took_part}
use Rattle.packed.specs.declared.Tray.{Tray}
use Rattle.packed.specs.declared.Ends.{Ends}
use Rattle.packed.specs.declared.Made.{Made}

-- ---- the new element's place

-- the list space, the scratch, and the ends
pub record Cleared : Type 0 where
  pub lists : List ℤ
  pub mem : List ℤ
  pub ends : Ends

abbrev pub cleared : List ℤ → List ℤ → Ends → Cleared
cleared l s e = record { lists = l; mem = s; ends = e }

-- as a collection leaves it in the middle of the reading: the entries that are not read yet still have their cells, as far as there are cells
unfoldable pub collected_rest : ℕ → ℕ → ℕ → ℕ → Tray → List ℤ → List ℤ → Cleared
collected_rest n base lim cnt t l s =
    let m = packed_all n base lim cnt l s in
    cleared m.lists m.mem (record { base = (packed_low n base l s).end; end = m.end + clipped (length l) m.end (t.reads - t.mark) })

-- me has no list any more
unfoldable pub made_room : ℕ → ℕ → ℕ → ℕ → ℕ → Tray → List ℤ → List ℤ → Cleared
made_room n me base lim cnt t l s =
    let r = up n LEN s me 0 in
    cond (nat_lt 0 t.mark) (collected_rest n base lim cnt t l r) (cleared l r (record { base = base; end = lim }))

-- ---- the whole, outside of the old place

pub record Outside : Type 0 where
  pub lists : List ℤ
  pub mem : List ℤ
  pub made : Made

abbrev pub outside : List ℤ → List ℤ → Made → Outside
outside l s r = record { lists = l; mem = s; made = r }

unfoldable pub summed : Ends → Tray → ℕ → Made
summed e t made =
    record {
      start = e.end;
      count = t.cnt;
      free = plus e.end t.cnt;
      base = e.base;
      made = plus made 1;
      collected = cond (nat_lt 0 t.mark) 1 0;
    }

-- the table's list is stored where the room was made
unfoldable pub settled : ℕ → ℕ → ℕ → Tray → Cleared → Outside
settled n me made t c =
    outside (laid n c.mem c.ends.end t.cnt c.lists) (entered n c.mem made me c.ends.end t.cnt) (summed c.ends t made)

unfoldable pub gathered_outside : ℕ → ℕ → ℕ → ℕ → ℕ → List ℤ → List ℤ → Outside
gathered_outside n me base lim made l s =
    let m = took_all n (length l - lim) l s me in
    settled n me made m.tray (made_room n me base lim made m.tray l m.mem)

-- ---- in its own place

pub record Inside : Type 0 where
  pub lists : List ℤ
  pub mem : List ℤ
  pub count : ℕ

abbrev pub inside : List ℤ → List ℤ → ℕ → Inside
inside l s k = record { lists = l; mem = s; count = k }

-- the table's list is stored at p, as the list of me
unfoldable pub replaced : ℕ → ℕ → ℕ → List ℤ → Taking → Inside
replaced n me p l m = inside (laid n m.mem p m.tray.cnt l) (up n LEN m.mem me m.tray.cnt) m.tray.cnt

unfoldable pub gathered_inside : ℕ → ℕ → List ℤ → List ℤ → Inside
gathered_inside n me l s =
    replaced n me (rd n PE s me) l (took_part n (rd n LEN s me) l (rd n PE s me) (rd n LEN s me) (taking s empty_tray))

-- ---- some of a list kept, in its own place

pub record Cut : Type 0 where
  pub lists : List ℤ
  pub count : ℕ

abbrev pub cut : List ℤ → ℕ → Cut
cut l c = record { lists = l; count = c }

-- the number in cell q goes to cell e, if its field f is not 0
unfoldable pub kept_one : ℕ → ℕ → List ℤ → ℕ → ℕ → Cut → Cut
kept_one n f s q e m =
    cond (nat_lt 0 (rd n f s (at m.lists q))) (cut (wr m.lists e (at m.lists q)) (m.count + 1)) m

unfoldable pub kept_part : ℕ → ℕ → List ℤ → ℕ → ℕ → List ℤ → Cut
kept_part n f s p k l = times (clipped (length l) p k) (λ t m. kept_one n f s (p + t) (p + m.count) m) (cut l 0)
