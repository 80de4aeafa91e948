-- The operations of `gain_q` and `gain_s`: each fits 64 signed bits, and what it is as a plain number. The factor f-1 alone may be negative.
-- Assumes nothing.
use Prim.Native.Nat.{ℕ, ◌+◌, ◌-◌, ◌*◌, ◌/◌, ◌^◌, ◌≤◌}
use native.Mathlib.Omega.{arith}
use mathlib.Core.Path.{◌≡◌, refl, sym, ap, subst}
use lib.Dec.{T}
use lib.IntN.{ℤ, pos, nat_abs, ◌+ℤ◌, ◌-ℤ◌, ◌*ℤ◌}
use lib.Signed.{non_neg, quot_z}
use mir.Syntax.{w64}
use mir.Val.{SFits, Fits, to_z}
use mir.Facts.{to_z_pos}
use Rattle.definition.specs.Statistics.{gain_q, gain_s}
use Rattle.numbers.proofs.Ops.{rd, Result, same, result, result_is}
use Rattle.numbers.proofs.Bounds

-- a result that is a plain number, as unsigned
pub record Plain (z : ℤ) (n : ℕ) : Type 0 where
  pub casts : T (non_neg (rd z)) × Fits w64 (nat_abs (rd z))
  pub gives : (nat_abs (rd z) ≡ n) × (nat_abs (rd z) ≤ 2 ^ 62)

plain : {z : ℤ} (n : ℕ) → n ≤ 2 ^ 62 → Result z (pos n) → Plain z n
plain n h r = record {
  casts = (subst (λ (y : ℤ). T (non_neg y)) (sym r.reads) tt, subst (λ (y : ℤ). Fits w64 (nat_abs y)) (sym r.reads) (record { fits = omega arith }));
  gives = (ap nat_abs r.reads, subst (λ (y : ℤ). nat_abs y ≤ 2 ^ 62) (sym r.reads) h);
}

-- ---- the operations as the code has them

-- a number, as signed bits read
abbrev sg : ℕ → ℤ
sg n = to_z w64 n

-- f - 1
abbrev less_of : ℕ → ℤ
less_of F = sg F -ℤ pos 1

-- (f - 1) * f
abbrev pairs_of : ℕ → ℤ
pairs_of F = rd (less_of F) *ℤ sg F

-- (f - 1) * f / 2
abbrev half_of : ℕ → ℤ
half_of F = quot_z (rd (pairs_of F)) (pos 2)

-- f * r * r
abbrev square_of : ℕ → ℕ → ℤ
square_of F R = rd (sg F *ℤ sg R) *ℤ sg R

-- r * (f - 1) * f
abbrev mixed_of : ℕ → ℕ → ℤ
mixed_of F R = rd (sg R *ℤ rd (less_of F)) *ℤ sg F

-- 2 * f - 1
abbrev odd_of : ℕ → ℤ
odd_of F = rd (pos 2 *ℤ sg F) -ℤ pos 1

-- (f - 1) * f / 2 * (2 * f - 1) / 3
abbrev sixth_of : ℕ → ℤ
sixth_of F = quot_z (rd (rd (half_of F) *ℤ rd (odd_of F))) (pos 3)

-- ---- what each is

module _ {F R : ℕ} (h : Bounds.Bounded F R) where
  pub f_fits : SFits w64 (pos F)
  f_fits = record { sfits = omega (arith, Bounds.f_small h) }

  pub r_fits : SFits w64 (pos R)
  r_fits = record { sfits = omega (arith, Bounds.r_small h) }

  f_is : sg F ≡ pos F
  f_is = to_z_pos w64 (omega (arith, Bounds.f_small h))

  r_is : sg R ≡ pos R
  r_is = to_z_pos w64 (omega (arith, Bounds.r_small h))

  -- f·r, f-1, (f-1)·f
  pub fr : Result (sg F *ℤ sg R) (pos (F * R))
  fr = result_is ◌*ℤ◌ f_is r_is (F * R) refl (Bounds.fr h)

  pub less : Result (less_of F) (pos F -ℤ pos 1)
  less = result ◌-ℤ◌ f_is (same (pos 1)) (Bounds.less_small F (omega (arith, Bounds.f_small h)))

  pub pairs : Result (pairs_of F) (pos ((F - 1) * F))
  pairs = result_is ◌*ℤ◌ less.reads f_is ((F - 1) * F) (Bounds.less_times F) (Bounds.gf h)

  -- ---- q

  pub half : Result (half_of F) (pos ((F - 1) * F / 2))
  half = result_is quot_z pairs.reads (same (pos 2)) ((F - 1) * F / 2) refl (omega (arith, Bounds.gf h))

  pub q : Result (rd (sg F *ℤ sg R) +ℤ rd (half_of F)) (pos (gain_q F R))
  unfolding gain_q
  q = result_is ◌+ℤ◌ fr.reads half.reads (gain_q F R) refl (omega (arith, Bounds.q_small h))

  pub q_plain : Plain (rd (sg F *ℤ sg R) +ℤ rd (half_of F)) (gain_q F R)
  q_plain = plain (gain_q F R) (Bounds.q_small h) q

  -- ---- s

  pub frr : Result (square_of F R) (pos (F * R * R))
  frr = result_is ◌*ℤ◌ fr.reads r_is (F * R * R) refl (Bounds.frr h)

  pub rg : Result (sg R *ℤ rd (less_of F)) (pos R *ℤ (pos F -ℤ pos 1))
  rg = result ◌*ℤ◌ r_is less.reads (Bounds.times_less_small F R (omega (arith, Bounds.r_small h)) (Bounds.rg h))

  pub rgf : Result (mixed_of F R) (pos (R * (F - 1) * F))
  rgf = result_is ◌*ℤ◌ rg.reads f_is (R * (F - 1) * F) (Bounds.times_less_times F R) (Bounds.rgf h)

  -- no more than all three
  pub first : Result (rd (square_of F R) +ℤ rd (mixed_of F R)) (pos (F * R * R + R * (F - 1) * F))
  unfolding gain_s
  first = result_is ◌+ℤ◌ frr.reads rgf.reads (F * R * R + R * (F - 1) * F) refl (omega (arith, Bounds.s_small h))

  pub twice : Result (pos 2 *ℤ sg F) (pos (2 * F))
  twice = result_is ◌*ℤ◌ (same (pos 2)) f_is (2 * F) refl (omega (arith, Bounds.f_small h))

  pub odd : Result (odd_of F) (pos (2 * F) -ℤ pos 1)
  odd = result ◌-ℤ◌ twice.reads (same (pos 1)) (Bounds.less_small (2 * F) (omega (arith, Bounds.f_small h)))

  pub triples : Result (rd (half_of F) *ℤ rd (odd_of F)) (pos ((F - 1) * F / 2 * (2 * F - 1)))
  triples = result_is ◌*ℤ◌ half.reads odd.reads ((F - 1) * F / 2 * (2 * F - 1)) (Bounds.half_times_odd F) (Bounds.hfo h)

  pub sixth : Result (sixth_of F) (pos ((F - 1) * F * (2 * F - 1) / 6))
  sixth =
      result_is quot_z triples.reads (same (pos 3)) ((F - 1) * F * (2 * F - 1) / 6) (ap pos (Bounds.thirds F))
      (omega (arith, Bounds.thirds F, Bounds.hfo h))

  pub s : Result (rd (rd (square_of F R) +ℤ rd (mixed_of F R)) +ℤ rd (sixth_of F)) (pos (gain_s F R))
  unfolding gain_s
  s = result_is ◌+ℤ◌ first.reads sixth.reads (gain_s F R) refl (omega (arith, Bounds.s_small h))

  pub s_plain : Plain (rd (rd (square_of F R) +ℤ rd (mixed_of F R)) +ℤ rd (sixth_of F)) (gain_s F R)
  s_plain = plain (gain_s F R) (Bounds.s_small h) s
