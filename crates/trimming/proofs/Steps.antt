-- What a model's step is in each of its cases, with what it reads as premises.
-- Assumes nothing.
use Rattle.std.proofs.Common.{◌≡◌, ℕ, ◌-◌, ◌<◌, ◌≤◌, Bool, true, false, ◌&&◌, eqb, List, ℤ, le-ltb, lt-ltb}
use Rattle.cells.specs.Layout.{WANT, DEGREE, W}
use Rattle.cells.specs.View.{at, rd, up, wr}
use Rattle.packed.specs.Tray.{absorbed}
use Rattle.trimming.specs.declared.Kept.{Kept}
use Rattle.trimming.specs.Model.{Keeping, counted, keeping, kept_element, kept_entry, kept_live, kept_variable, lowered}

module _ (n me flag : ℕ) (aggressive : Bool) (e w : ℕ) (l s : List ℤ) (k : Kept) (b : Bool) (hb : b ≡ (aggressive && eqb w flag)) where
  pub live_no : (r : List ℤ) → r ≡ absorbed n me e s → b ≡ true → keeping l r k ≡ kept_live n me flag aggressive e w (keeping l s k)
  unfolding kept_live
  live_no r hr h = rw (← hb, h, hr)

  pub live_yes : (size : ℕ) (l₁ : List ℤ) (r : Kept) → size ≡ w - flag → l₁ ≡ wr l k.end e → r ≡ counted e size k → b ≡ false
      → keeping l₁ s r ≡ kept_live n me flag aggressive e w (keeping l s k)
  unfolding kept_live kept_entry
  live_yes size l₁ r hs hl hr h = rw (← hb, h, hl, hr, hs)

module _ (n me flag : ℕ) (aggressive : Bool) (q : ℕ) (l s : List ℤ) (k : Kept) (e w : ℕ) (he : e ≡ at l q) (hw : w ≡ rd n W s e) where
  pub element_yes : (x : Keeping) → x ≡ kept_live n me flag aggressive e w (keeping l s k) → 0 < w
      → x ≡ kept_element n me flag aggressive q (keeping l s k)
  unfolding kept_element
  element_yes x hx h = rw (← he, ← hw, lt-ltb 0 w h) hx

  pub element_no : w ≤ 0 → keeping l s k ≡ kept_element n me flag aggressive q (keeping l s k)
  unfolding kept_element
  element_no h = rw (← he, ← hw, le-ltb 0 w h)

module _ (n q : ℕ) (l s : List ℤ) (k : Kept) (v w : ℕ) (hv : v ≡ at l q) (hw : w ≡ rd n WANT s v) where
  pub variable_yes : (l₁ : List ℤ) (r : Kept) → l₁ ≡ wr l k.end v → r ≡ counted v w k → 0 < w
      → keeping l₁ s r ≡ kept_variable n q (keeping l s k)
  unfolding kept_variable kept_entry
  variable_yes l₁ r hl hr h = rw (← hv, ← hw, lt-ltb 0 w h, hl, hr)

  pub variable_no : w ≤ 0 → keeping l s k ≡ kept_variable n q (keeping l s k)
  unfolding kept_variable
  variable_no h = rw (← hv, ← hw, le-ltb 0 w h)

module _ (n i deg : ℕ) (s : List ℤ) (old : ℕ) (ho : old ≡ rd n DEGREE s i) where
  pub lower_yes : (r : List ℤ) → r ≡ up n DEGREE s i deg → deg < old → r ≡ lowered n i deg s
  unfolding lowered
  lower_yes r hr h = rw (← ho, lt-ltb deg old h) hr

  pub lower_no : old ≤ deg → s ≡ lowered n i deg s
  unfolding lowered
  lower_no h = rw (← ho, le-ltb deg old h)
