-- The numbers that were read lie within the cells; and what a whole reading leaves.
-- Assumes nothing.
use Rattle.std.proofs.Common.{◌≡◌, ℕ, ◌≤◌, List, [], ◌∷◌, ℤ, length, ltb, Result, Ok, Err, refl, ap, arith}
use borrow.Author.Tests.{ltb-true}
use lib.ListN.{length-set}
use Rattle.plain.proofs.Logic.{either}
use Rattle.text.specs.declared.Fault.{Fault}
use Rattle.text.specs.declared.Place.{Place}
use Rattle.text.specs.declared.Place.TheVariants.{Between, Minus, Digits}
use Rattle.text.specs.declared.Scan.{Scan}
use Rattle.text.specs.Numerals.{blank, grown, signed, Page, page, at, kept, ended, placed, stepped, walked, read_text, reading_of, Within}

Lies : Page → Type 0
Lies p = elim p.scan [ Ok s ↦ s.count ≤ length p.cells | Err f ↦ Unit ]

kept_lies : (l : List ℤ) (count : ℕ) (x : ℤ) → count ≤ length l → Lies (kept l count x)
unfolding Lies kept
kept_lies l count x h =
    either _ (ltb count (length l))
    (λ t. rw (t, length-set l count x) (omega (arith, ltb-true count (length l) t)))
    (λ f. rw f tt)

ended_lies : (l : List ℤ) (count : ℕ) (p : Place) → count ≤ length l → Lies (ended l count p)
unfolding Lies ended
ended_lies l count Between h = h
ended_lies l count Minus h = tt
ended_lies l count (Digits negative value) h = kept_lies l count (signed negative value) h

placed_lies : (l : List ℤ) (count : ℕ) (r : Result Place Fault) → count ≤ length l → Lies (page l (placed count r))
unfolding Lies
placed_lies l count (Ok p) h = h
placed_lies l count (Err f) h = tt

stepped_lies : (l : List ℤ) (r : Result Scan Fault) (b : ℕ) → Lies (page l r) → Lies (stepped (page l r) b)
unfolding Lies stepped
stepped_lies l (Ok s) b h = either _ (blank b) (λ t. rw t (ended_lies l s.count s.place h)) (λ f. rw f (placed_lies l s.count (grown s.place b) h))
stepped_lies l (Err f) b h = tt

walked_lies : (bs : List ℕ) (l : List ℤ) (r : Result Scan Fault) → Lies (page l r) → Lies (walked (page l r) bs)
unfolding Lies walked
walked_lies [] l (Ok s) h = ended_lies l s.count s.place h
walked_lies [] l (Err f) h = tt
walked_lies (b ∷ bs) l r h = walked_lies bs (stepped (page l r) b).cells (stepped (page l r) b).scan (stepped_lies l r b h)

scan_within : (s : Scan) (most : ℕ) → s.count ≤ most → (q : Place) → s.place ≡ q → Within (reading_of (Ok s)) most
unfolding reading_of
scan_within s most h Between e = rw e h
scan_within s most h Minus e = rw e tt
scan_within s most h (Digits negative value) e = rw e tt

page_within : (l : List ℤ) (r : Result Scan Fault) → Lies (page l r) → Within (reading_of r) (length l)
unfolding Lies reading_of
page_within l (Ok s) h = scan_within s (length l) h s.place refl
page_within l (Err f) h = tt

pub within : (text : List ℕ) (l : List ℤ) → Within (reading_of (read_text text l).scan) (length (read_text text l).cells)
unfolding Lies read_text
within text l = page_within (read_text text l).cells (read_text text l).scan (walked_lies text l (at 0 Between) (omega arith))

-- the cells, the answer, and that its numbers lie within them
read_whole : (text : List ℕ) (l l' : List ℤ) (s : Result Scan Fault) → page l' s ≡ read_text text l
    → (l' ≡ (read_text text l).cells) × (reading_of s ≡ reading_of (read_text text l).scan) × Within (reading_of s) (length l')
read_whole text l l' s h =
    let a : l' ≡ (read_text text l).cells = ap (λ (p : Page). p.cells) h in
    let b : reading_of s ≡ reading_of (read_text text l).scan = ap (λ (p : Page). reading_of p.scan) h in
    (a, b, rw (a, b) (within text l))

module _ (text : List ℕ) (l l' : List ℤ) where
  pub read_failed : (f : Fault) → page l' (Err f) ≡ read_text text l
      → (l' ≡ (read_text text l).cells) × (Err f ≡ reading_of (read_text text l).scan) × Unit {0}
  unfolding reading_of
  read_failed f h = read_whole text l l' (Err f) h

  pub read_all : (s : Scan) → s.place ≡ Between → page l' (Ok s) ≡ read_text text l
      → (l' ≡ (read_text text l).cells) × (Ok s.count ≡ reading_of (read_text text l).scan) × (s.count ≤ length l')
  unfolding reading_of
  read_all s e h = rw e at (read_whole text l l' (Ok s) h)
