-- What an element adds to the statistics is the sum, over its columns, of the falling counts, of their squares and of their triangles.
-- Assumes nothing.
use Prim.Native.Nat.{ℕ, ◌+◌, ◌*◌, ◌/◌}
use native.Mathlib.Omega.{arith}
use mathlib.Core.Path.{◌≡◌, ap, ◌∙◌}
use Rattle.plain.specs.Lists.{total, itself, fall_to}
use Rattle.plain.proofs.Falling.{square, triangle, triangle_both, fall_sum, fall_squares, fall_triangles}
use Rattle.definition.specs.Statistics.{gain_q, gain_s, gain_ldl}

pub fall_q : (r m : ℕ) → total itself (fall_to r m) ≡ gain_q m r
unfolding gain_q
fall_q r m = fall_sum r m

pub fall_s : (r m : ℕ) → total square (fall_to r m) ≡ gain_s m r
unfolding gain_s
fall_s r m = fall_squares r m

pub fall_ldl : (r m : ℕ) → total triangle (fall_to r m) ≡ gain_ldl m r
unfolding gain_ldl
fall_ldl r m = fall_triangles r m ∙ ap (λ (x : ℕ). (x + total itself (fall_to r m)) / 2) (fall_s r m) ∙ ap (λ (x : ℕ). (gain_s m r + x) / 2) (fall_q r m)

-- s + q is even: its half is exact
pub gains_even : (r m : ℕ) → gain_s m r + gain_q m r ≡ 2 * gain_ldl m r
gains_even r m = omega (arith, triangle_both (fall_to r m), fall_s r m, fall_q r m, fall_ldl r m)
