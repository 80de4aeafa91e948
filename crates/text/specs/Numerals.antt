-- What a text of decimal numbers reads as: a number is a minus sign or none, then digits; white space ends it, and so does the text's end.
-- Assumes nothing.
use Rattle.std.specs.Prelude.{ℕ, ◌+◌, ◌*◌, ◌-◌, ◌<◌, ◌≤◌, ◌^◌, Bool, true, false, ◌||◌, cond, List, [], ◌∷◌, eqb, ltb, ℤ, pos, ◌-ℤ◌, length, set, Result, Ok, Err}
use Rattle.text.specs.declared.Fault.{Fault}
use Rattle.text.specs.declared.Fault.TheVariants.{NotNumber, TooLarge, TooMany}
use Rattle.text.specs.declared.Place.{Place}
use Rattle.text.specs.declared.Place.TheVariants.{Between, Minus, Digits}
use Rattle.text.specs.declared.Scan.{Scan}

-- blank, tab, line feed, carriage return
unfoldable pub blank : ℕ → Bool
blank b = eqb b 32 || (eqb b 9 || (eqb b 10 || eqb b 13))

-- a digit behind a number; no number reaches 2^31
unfoldable pub longer : Bool → ℕ → ℕ → Result Place Fault
longer negative value b = cond (ltb (10 * value + (b - 48)) (2 ^ 31)) (Ok (Digits negative (10 * value + (b - 48)))) (Err TooLarge)

-- the digit b
unfoldable pub with_digit : Place → ℕ → Result Place Fault
with_digit Between b = longer false 0 b
with_digit Minus b = longer true 0 b
with_digit (Digits negative value) b = longer negative value b

-- any other byte: a minus sign before the digits, or a fault
unfoldable pub with_other : Place → ℕ → Result Place Fault
with_other Between b = cond (eqb b 45) (Ok Minus) (Err NotNumber)
with_other Minus b = Err NotNumber
with_other (Digits negative value) b = Err NotNumber

-- a byte that is not white space
unfoldable pub grown : Place → ℕ → Result Place Fault
grown p b = cond (ltb b 48) (with_other p b) (cond (ltb 57 b) (with_other p b) (with_digit p b))

unfoldable pub signed : Bool → ℕ → ℤ
signed negative value = cond negative (pos 0 -ℤ pos value) (pos value)

-- the cells that take the numbers, and what was read, or the fault at which the reading ended
pub record Page : Type 0 where
  pub cells : List ℤ
  pub scan : Result Scan Fault

abbrev pub page : List ℤ → Result Scan Fault → Page
page cells scan = record { cells = cells; scan = scan }

abbrev pub at : ℕ → Place → Result Scan Fault
at count place = Ok (record { count = count; place = place })

-- a number goes into the next cell, where there is one
unfoldable pub kept : List ℤ → ℕ → ℤ → Page
kept cells count x = cond (ltb count (length cells)) (page (set cells count x) (at (count + 1) Between)) (page cells (Err TooMany))

-- a word ends, if there is one
unfoldable pub ended : List ℤ → ℕ → Place → Page
ended cells count Between = page cells (at count Between)
ended cells count Minus = page cells (Err NotNumber)
ended cells count (Digits negative value) = kept cells count (signed negative value)

-- where a byte of a word leads
abbrev pub placed : ℕ → Result Place Fault → Result Scan Fault
placed count (Ok place) = at count place
placed count (Err f) = Err f

-- a byte; nothing changes behind a fault
unfoldable pub stepped : Page → ℕ → Page
stepped p b =
    elim p.scan [
      | Ok s ↦ cond (blank b) (ended p.cells s.count s.place) (page p.cells (placed s.count (grown s.place b)))
      | Err f ↦ p
    ]

-- the bytes of a text, one after another
unfoldable pub walked : Page → List ℕ → Page
walked p [] = elim p.scan [ Ok s ↦ ended p.cells s.count s.place | Err f ↦ p ]
walked p (b ∷ bs) = walked (stepped p b) bs

-- how many numbers there are, or why they are none
unfoldable pub reading_of : Result Scan Fault → Result ℕ Fault
reading_of (Ok s) = elim s.place [ Between ↦ Ok s.count | Minus ↦ Err NotNumber | Digits negative value ↦ Err NotNumber ]
reading_of (Err f) = Err f

-- the whole of it: a text into cells, from the first
unfoldable pub read_text : List ℕ → List ℤ → Page
read_text text cells = walked (page cells (at 0 Between)) text

-- a number that is open is below 2^31
abbrev pub Small : Place → Type 0
Small Between = Unit
Small Minus = Unit
Small (Digits negative value) = value < 2 ^ 31

-- the numbers that were read lie within the cells
abbrev pub Within : Result ℕ Fault → ℕ → Type 0
Within (Ok count) most = count ≤ most
Within (Err f) most = Unit
