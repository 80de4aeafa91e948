-- The rooms of the patterns that the program takes fit its arrays.
-- Assumes nothing.
use Prim.Native.Nat.{ℕ, ◌≤◌}
use native.Mathlib.Omega.{arith}
use mathlib.Core.Path.{◌≡◌}
use mathlib.Core.Bool.{Bool, true, false, ◌||◌, cond}
use lib.IntN.{ℤ, nat_abs}
use mir.Syntax.{w64}
use mir.Val.{to_z}
use mir.Facts.{to_z_pos}
use Rattle.definition.specs.Limits.{base_limits, outside, lists_room, scratch_room, room_within}

few : (b : Bool) (k most : ℕ) → k ≤ most → cond b 0 k ≤ most
few true k most h = omega arith
few false k most h = h

room_few : (room : ℕ → ℕ → ℕ) (x y : ℤ) (most r : ℕ) → r ≡ room_within base_limits room x y → room (nat_abs x) (nat_abs y) ≤ most → r ≤ most
unfolding room_within
room_few room x y most r e h =
    rw e (few (outside base_limits.most_columns x || outside base_limits.most_entries y) (room (nat_abs x) (nat_abs y)) most h)

module _ (n nnz r : ℕ) (a : n ≤ 128) (b : nnz ≤ 1024) where
  pub lists_few : r ≡ room_within base_limits lists_room (to_z w64 n) (to_z w64 nnz) → r ≤ 2176
  unfolding lists_room
  lists_few e = room_few lists_room (to_z w64 n) (to_z w64 nnz) 2176 r e (rw (to_z_pos w64 {n = n} (omega arith), to_z_pos w64 {n = nnz} (omega arith)) (omega arith))

  pub scratch_few : r ≡ room_within base_limits scratch_room (to_z w64 n) (to_z w64 nnz) → r ≤ 3088
  unfolding scratch_room
  scratch_few e = room_few scratch_room (to_z w64 n) (to_z w64 nnz) 3088 r e (rw (to_z_pos w64 {n = n} (omega arith), to_z_pos w64 {n = nnz} (omega arith)) (omega arith))
