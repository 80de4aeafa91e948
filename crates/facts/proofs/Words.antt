-- The statistics in words of 64 bits: each total is small enough for every accepted number of columns, on the way and at the end.
-- Assumes nothing.
use Prim.Native.Nat.{ℕ, ◌+◌, ◌^◌, ◌≤◌, ◌<◌}
use native.Mathlib.Omega.{arith}
use Rattle.plain.proofs.Falling.{square, triangle, square_mono, triangle_mono, sum_below, triangles_below}
use Rattle.plain.proofs.Products.{sums_small, squares_small}
use Rattle.plain.specs.Lists.{total, itself}
use Rattle.definition.specs.Limits.{base_limits}
use Rattle.definition.specs.State.{State}
use Rattle.definition.specs.Statistics.{gain_q, gain_s, gain_ldl, Six}
use Rattle.facts.proofs.Gains.{fall_q, fall_s, fall_ldl}
use Rattle.facts.proofs.Totals.{Tallied, gains_so_far, Bounded}

-- of the elements made so far
pub record SmallTotals (nd : ℕ) (s : State) : Type 0 where
  pub lnz : total (λ e. gain_q e.pivots (e.rest + nd)) s.fronts < 2 ^ 41
  pub lu : total (λ e. gain_s e.pivots (e.rest + nd)) s.fronts < 2 ^ 62
  pub ldl : total (λ e. gain_ldl e.pivots (e.rest + nd)) s.fronts < 2 ^ 62

pub totals_so_far : (nd n : ℕ) (s : State) → n ≤ base_limits.most_columns → Tallied nd n s → SmallTotals nd s
unfolding base_limits
totals_so_far nd n s l q =
    let a = sums_small n base_limits.most_columns l in
    let b = squares_small n base_limits.most_columns l in
    record {
      lnz = omega (arith, gains_so_far itself gain_q (λ x y h. h) fall_q nd n s q);
      lu = omega (arith, gains_so_far square gain_s square_mono fall_s nd n s q);
      ldl = omega (arith, gains_so_far triangle gain_ldl triangle_mono fall_ldl nd n s q, triangles_below n);
    }

-- of all, with the dense block
pub record SmallSix (x : Six) : Type 0 where
  pub lnz : x.lnz < 2 ^ 41
  pub div : x.n_div < 2 ^ 41
  pub lu : x.n_mult_subs_lu < 2 ^ 62
  pub ldl : x.n_mult_subs_ldl < 2 ^ 62
  pub dense : x.n_dense < 2 ^ 31
  pub widest : x.d_max < 2 ^ 31

pub six_small : (n : ℕ) (x : Six) → n ≤ base_limits.most_columns → Bounded n x → SmallSix x
unfolding base_limits
six_small n x l b =
    let a = sums_small n base_limits.most_columns l in
    let c = squares_small n base_limits.most_columns l in
    let e = sum_below n in
    record {
      lnz = omega (arith, b.lnz);
      div = omega (arith, b.div);
      lu = omega (arith, b.lu);
      ldl = omega (arith, b.ldl);
      dense = omega (arith, b.dense);
      widest = omega (arith, b.widest);
    }
