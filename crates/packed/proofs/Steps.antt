-- One list's turn in a collection, by the two ways out of it.
-- Assumes nothing.
use Rattle.std.proofs.Common.{◌≡◌, ℕ, ◌<◌, ◌≤◌, List, ℤ, le-ltb, lt-ltb}
use Rattle.cells.specs.Layout.{PE}
use Rattle.cells.specs.View.{plus, rd, up}
use Rattle.packed.specs.Model.{copied, heap, moved_down, moved_one}
use Rattle.packed.specs.Places.{due, places}

module _ (n top j : ℕ) (l s : List ℤ) (e k : ℕ) (hk : k ≡ due (places n s) top j) where
  pub one_yes : (p : ℕ) (l' s' : List ℤ) (r : ℕ) → p ≡ rd n PE s j → l' ≡ copied p e k l → s' ≡ up n PE s j e → r ≡ plus e k → 0 < k
      → heap l' s' r ≡ moved_one n top j (heap l s e)
  unfolding moved_one moved_down
  one_yes p l' s' r hp hl hs hr h = rw (← hk, lt-ltb 0 k h, hl, hs, hr, hp)

  pub one_no : k ≤ 0 → heap l s e ≡ moved_one n top j (heap l s e)
  unfolding moved_one
  one_no h = rw (← hk, le-ltb 0 k h)
