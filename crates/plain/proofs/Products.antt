-- How large the products get that the sums of falling squares are made of, where f + r is at most n and n at most N.
-- Assumes nothing.
use Prim.Native.Nat.{ℕ, ◌+◌, ◌-◌, ◌*◌, ◌/◌, ◌≤◌}
use native.Mathlib.Nat.{mul-le-mul, mul-le-mul_left, mul-le-mul_right, mul_assoc, mul_left_comm}
use native.Mathlib.Omega.{arith}
use Rattle.plain.specs.Lists.{total, itself, up_to}
use Rattle.plain.proofs.Falling.{square, square_mono, fall_under, up_to_mono, fall_sum, fall_squares, sum_below, squares_below}

module _ (N n f r : ℕ) (small : n ≤ N) (fits : f + r ≤ n) where
  f_most : f ≤ N
  f_most = omega arith

  r_most : r ≤ N
  r_most = omega arith

  pub once_most : f * r ≤ N * N
  once_most = mul-le-mul f_most r_most

  less_most : f - 1 ≤ N
  less_most = omega (arith, f_most)

  pub fewer_most : r * (f - 1) ≤ N * N
  fewer_most = mul-le-mul r_most less_most

  -- the two factors that are one product
  pub pairs_most : (f - 1) * f ≤ N * N
  pairs_most = mul-le-mul less_most f_most

  pub rests_most : f * r * r ≤ N * N * N
  rests_most = mul-le-mul once_most r_most

  pub crossed_most : r * (f - 1) * f ≤ N * N * N
  crossed_most = mul-le-mul fewer_most f_most

  pub cubes_most : (f - 1) * f * (2 * f - 1) ≤ 2 * (N * N * N)
  cubes_most =
      let a : (f - 1) * f * (2 * f - 1) ≤ N * N * (2 * N) = mul-le-mul pairs_most (omega (arith, f_most)) in
      omega (arith, mul_left_comm (N * N) 2 N)

  -- halved before the last factor
  pub halved_most : (f - 1) * f / 2 * (2 * f - 1) ≤ N * N * N
  halved_most =
      let a : (f - 1) * f / 2 * (2 * f - 1) ≤ (f - 1) * f / 2 * (2 * N) = mul-le-mul_left ((f - 1) * f / 2) (omega (arith, f_most)) in
      let b : 2 * ((f - 1) * f / 2) ≤ N * N = omega (arith, pairs_most) in
      let c : 2 * ((f - 1) * f / 2) * N ≤ N * N * N = mul-le-mul_right N b in
      omega (arith, mul_left_comm ((f - 1) * f / 2) 2 N, mul_assoc 2 ((f - 1) * f / 2) N)

  -- the sum of all three as it is meant, the last divided by 6
  pub squares_most : f * r * r + r * (f - 1) * f + (f - 1) * f * (2 * f - 1) / 6 ≤ total square (up_to N)
  squares_most =
      omega (arith, fall_squares r f, fall_under square square_mono r r f (omega arith), up_to_mono square square_mono (r + f) N (omega arith))

  -- the sum of the falling numbers
  pub falls_most : f * r + (f - 1) * f / 2 ≤ total itself (up_to N)
  falls_most = omega (arith, fall_sum r f, fall_under itself (λ x y l. l) r r f (omega arith), up_to_mono itself (λ x y l. l) (r + f) N (omega arith))

-- ---- all that stand below n

pub sums_small : (n N : ℕ) → n ≤ N → 2 * total itself (up_to n) ≤ N * N
sums_small n N l =
    let a : (n - 1) * n ≤ N * N = mul-le-mul (omega arith) l in
    omega (arith, sum_below n)

pub squares_small : (n N : ℕ) → n ≤ N → 3 * total square (up_to n) ≤ N * N * N
squares_small n N l = omega (arith, squares_below n, cubes_most N n n 0 l (omega arith))
