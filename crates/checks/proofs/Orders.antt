-- What a test or a cast of signed numbers says, where they were read from their bits.
-- Assumes nothing.
use mathlib.Core.Path.{◌≡◌, refl, sym, ap, ◌∙◌}
use mathlib.Core.Bool.{true, false, not, true≢false}
use Prim.Native.Nat.{ℕ, ◌<◌, ◌^◌}
use native.Mathlib.Decide.{dec_le}
use native.Mathlib.Nat as Nat
use lib.Dec.{T, ltb, leb}
use lib.IntN.{ℤ, pos, negsuc, nat_abs}
use lib.Signed.{lt_z, le_z, non_neg, mag}
use mir.Syntax.{Width, w32, w64}
use mir.Val.{hbits, bits, SFits, Fits, to_z, of_z}
use mir.Facts.{to_z-of_z, sfits_widen, Fits-nat_abs}
use borrow.Author.Tests.{le-ltb, lt-ltb, le-leb, lt-leb}
use Rattle.definition.specs.Limits.{outside}

-- a number that was read from its bits
pub read : (w : Width) (x : ℤ) → mag x < 2 ^ hbits w → to_z w (of_z w x) ≡ x
read w x hx = to_z-of_z {w = w} {z = x} (record { sfits = hx })

-- a test on two of them
pub lt_read : (w : Width) (x y : ℤ) → mag x < 2 ^ hbits w → mag y < 2 ^ hbits w → lt_z (to_z w (of_z w x)) (to_z w (of_z w y)) ≡ lt_z x y
lt_read w x y hx hy = ap (λ (z : ℤ). lt_z z (to_z w (of_z w y))) (read w x hx) ∙ ap (lt_z x) (read w y hy)

-- on one, and a literal
pub lt_lit : (w : Width) (x y : ℤ) → mag x < 2 ^ hbits w → lt_z (to_z w (of_z w x)) y ≡ lt_z x y
lt_lit w x y hx = ap (λ (z : ℤ). lt_z z y) (read w x hx)

leb_not : (a b : ℕ) → leb a b ≡ not (ltb b a)
leb_not a b = elim (dec_le a b) [ yes h ↦ le-leb a b h ∙ sym (ap not (le-ltb b a h)) | no n ↦ lt-leb a b (Nat.lt_of_not-le n) ∙ sym (ap not (lt-ltb b a (Nat.lt_of_not-le n))) ]

-- `<=` is the other way's `<` denied
pub le_is : (x y : ℤ) → le_z x y ≡ not (lt_z y x)
le_is (pos a) (pos b) = leb_not a b
le_is (pos a) (negsuc b) = refl
le_is (negsuc a) (pos b) = refl
le_is (negsuc a) (negsuc b) = leb_not b a

-- a number that is not below 0
pub not_below_zero : (z : ℤ) → lt_z z (pos 0) ≡ false → non_neg z ≡ true
not_below_zero (pos n) e = refl
not_below_zero (negsuc n) e = absurd (true≢false e)

-- ---- casts

-- to a number, of one that is not below 0
pub to_number : (w : Width) (z : ℤ) → T (ltb (hbits w) (bits w64)) → mag z < 2 ^ hbits w → non_neg z ≡ true
    → T (non_neg (to_z w (of_z w z))) × Fits w64 (nat_abs (to_z w (of_z w z)))
to_number w z t h e = rw (read w z h) (rw e tt, Fits-nat_abs {w = w} {z = z} t (record { sfits = h }))

-- to the wider of the two signed widths, and read back from it
pub to_wide : (z : ℤ) → mag z < 2 ^ hbits w32 → SFits w64 (to_z w32 (of_z w32 z))
to_wide z h = rw (read w32 z h) (sfits_widen {w = w32} {w' = w64} tt (record { sfits = h }))

pub wide_read : (z : ℤ) → mag z < 2 ^ hbits w32 → to_z w64 (of_z w64 (to_z w32 (of_z w32 z))) ≡ z
wide_read z h = read w64 (to_z w32 (of_z w32 z)) (to_wide z h).sfits ∙ read w32 z h

-- ---- a limit that a call gave

pub outside_same : {most limit : ℕ} {x y : ℤ} → most ≡ limit → x ≡ y → outside most x ≡ outside limit y
outside_same e f = rw (e, f)
