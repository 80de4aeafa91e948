-- A number with its sign.
-- Assumes nothing.
use Prim.Native.Nat.{ℕ, zero, suc, ◌-◌, ◌≤◌}
use native.Mathlib.Omega.{arith}
use mathlib.Core.Path.{◌≡◌, ap}
use mathlib.Core.Bool.{Bool, true, false}
use borrow.Author.Tests.{lt-ltb}
use lib.IntN.{pos, negsuc, ◌-ℤ◌}
use lib.Signed.{mag}
use Rattle.text.specs.Numerals.{signed}

minus_is : (v : ℕ) → pos 0 -ℤ pos (suc v) ≡ negsuc v
minus_is v =
    let e : suc v - suc 0 ≡ v = omega arith in
    rw (lt-ltb 0 (suc v) (omega arith)) (ap negsuc e)

pub mag_minus : (v : ℕ) → mag (pos 0 -ℤ pos v) ≤ v
mag_minus zero = omega arith
mag_minus (suc v) = rw (minus_is v) (omega arith)

pub signed_yes : (negative : Bool) (v : ℕ) → negative ≡ true → pos 0 -ℤ pos v ≡ signed negative v
unfolding signed
signed_yes negative v h = rw h

pub signed_no : (negative : Bool) (v : ℕ) → negative ≡ false → pos v ≡ signed negative v
unfolding signed
signed_no negative v h = rw h
