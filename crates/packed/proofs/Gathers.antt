-- The room that is made for a new element, by the two ways out of it.
-- Assumes nothing.
use Rattle.std.proofs.Common.{◌≡◌, ℕ, ◌<◌, ◌≤◌, List, ℤ, le-ltb, lt-ltb}
use Rattle.cells.specs.Layout.{LEN}
use Rattle.cells.specs.View.{up}
use Rattle.packed.specs.Gather.{Cleared, cleared, collected_rest, made_room}
use Rattle.packed.specs.declared.Tray.{Tray}

module _ (n me base lim cnt : ℕ) (t : Tray) (l s : List ℤ) (a : List ℤ) (ha : a ≡ up n LEN s me 0) where
  pub room_yes_step : (x : Cleared) → x ≡ collected_rest n base lim cnt t l a → 0 < t.mark → x ≡ made_room n me base lim cnt t l s
  unfolding made_room
  room_yes_step x hx h = rw (lt-ltb 0 t.mark h, ← ha) hx

  pub room_no_step : t.mark ≤ 0 → cleared l a (record { base = base; end = lim }) ≡ made_room n me base lim cnt t l s
  unfolding made_room
  room_no_step h = rw (le-ltb 0 t.mark h, ha)
