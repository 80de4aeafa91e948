-- The totals stay below g · N² where g pivots are gone and no element has more than N rows: so there is room for one more element all along (`within_roomy`).
-- Assumes nothing.
use Prim.Native.Nat.{ℕ, zero, suc, ◌+◌, ◌*◌, ◌≤◌}
use native.Mathlib.Nat.{le_refl, suc-mul, add-mul}
use native.Mathlib.Omega.{arith}
use mathlib.Core.List.{List, [], ◌∷◌}
use Rattle.plain.specs.Lists.{total, itself, fall_to}
use Rattle.plain.proofs.Falling.{square, square_mono, fall_sum, fall_squares}
use Rattle.definition.specs.Statistics.{gain_q, gain_s, gain_ldl}
use Rattle.definition.specs.Outcome as Outcomes
use Rattle.numbers.specs.Gains.{begun, gained, Within}

-- ---- what one element adds

own_square : (x : ℕ) → x ≤ x * x
own_square zero = le_refl 0
own_square (suc x) = omega (arith, suc-mul x (suc x))

squares_above : (xs : List ℕ) → total itself xs ≤ total square xs
unfolding total
squares_above [] = le_refl 0
squares_above (x ∷ xs) = omega (arith, own_square x, squares_above xs)

squares_below : (N r f : ℕ) → r + f ≤ N → total square (fall_to r f) ≤ f * (N * N)
unfolding total fall_to
squares_below N r zero h = omega arith
squares_below N r (suc f) h = omega (arith, squares_below N r f (omega arith), square_mono (r + f) N (omega arith), suc-mul f (N * N))

module _ (N f r : ℕ) (h : f + r ≤ N) where
  gain_lu : gain_s f r ≤ f * (N * N)
  unfolding gain_s
  gain_lu = omega (arith, squares_below N r f (omega arith), fall_squares r f)

  gain_lnz : gain_q f r ≤ gain_s f r
  unfolding gain_q gain_s
  gain_lnz = omega (arith, squares_above (fall_to r f), fall_sum r f, fall_squares r f)

  gain_ldl_lem : gain_ldl f r ≤ f * (N * N)
  unfolding gain_ldl
  gain_ldl_lem = omega (arith, gain_lu, gain_lnz)

-- ---- what all add

pub within_begun : (N nd : ℕ) → Within N 0 (begun nd)
unfolding begun
within_begun N nd = record { below_lnz = omega arith; below_div = omega arith; below_ldl = omega arith; below_lu = omega arith }

pub within_gained : (N g f r : ℕ) (x : Outcomes.Statistics) → f + r ≤ N → Within N g x → Within N (g + f) (gained f r x)
unfolding gained
within_gained N g f r x h w =
    let e = add-mul g f (N * N) in
    let a = gain_lnz N f r h in
    let b = gain_lu N f r h in
    let c = gain_ldl_lem N f r h in
    record {
      below_lnz = omega (arith, w.below_lnz);
      below_div = omega (arith, w.below_div);
      below_ldl = omega (arith, w.below_ldl);
      below_lu = omega (arith, w.below_lu);
    }
