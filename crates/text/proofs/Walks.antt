-- The loop over the bytes of a text: what is left of it leads to the whole reading.
-- Assumes nothing.
use Rattle.std.proofs.Common.{◌≡◌, ℕ, ◌+◌, ◌<◌, ◌≤◌, List, [], ◌∷◌, ℤ, length, get_or, drop, Ok, Err, refl, ◌∙◌, add-one, drop-cons}
use lib.ListN.{drop_of_length-le}
use Rattle.text.specs.declared.Fault.{Fault}
use Rattle.text.specs.declared.Place.TheVariants.{Between}
use Rattle.text.specs.declared.Scan.{Scan}
use Rattle.text.specs.Numerals.{Page, page, ended, stepped, walked, read_text, Small}

-- behind a fault nothing changes
pub walked_err : (l : List ℤ) (f : Fault) (bs : List ℕ) → walked (page l (Err f)) bs ≡ page l (Err f)
unfolding walked stepped
walked_err l f [] = refl
walked_err l f (b ∷ bs) = walked_err l f bs

pub record Going (text : List ℕ) (first out : List ℤ) (scan : Scan) (i : ℕ) : Type 0 where
  pub same : walked (page out (Ok scan)) (drop i text) ≡ read_text text first
  pub small : Small scan.place

pub begin : (text : List ℕ) (out : List ℤ) → Going text out out (record { count = 0; place = Between }) 0
unfolding read_text
begin text out = record { same = refl; small = tt }

module _ (text : List ℕ) (first out : List ℤ) (scan : Scan) (i : ℕ) (g : Going text first out scan i) where
  on : (p : Page) → i < length text → p ≡ stepped (page out (Ok scan)) (get_or text i 0) → walked p (drop (i + 1) text) ≡ read_text text first
  unfolding walked
  on p h e = rw (e, add-one) (rw (drop-cons text i 0 h) at g.same)

  pub turn : (out' : List ℤ) (scan' : Scan) → i < length text → page out' (Ok scan') ≡ stepped (page out (Ok scan)) (get_or text i 0)
      → Small scan'.place → Going text first out' scan' (i + 1)
  turn out' scan' h e s = record { same = on _ h e; small = s }

  pub stop : (out' : List ℤ) (f : Fault) → i < length text → page out' (Err f) ≡ stepped (page out (Ok scan)) (get_or text i 0)
      → page out' (Err f) ≡ read_text text first
  stop out' f h e = rw (walked_err out' f (drop (i + 1) text)) at (on _ h e)

  pub finish : (p : Page) → length text ≤ i → p ≡ ended out scan.count scan.place → p ≡ read_text text first
  unfolding walked
  finish p h e = e ∙ (rw (drop_of_length-le text h) at g.same)
