-- The test that the totals have room for one more element.
-- Assumes nothing.
use Prim.Native.Nat.{◌+◌, ◌*◌, ◌≤◌, ◌^◌, ℕ}
use native.Mathlib.Nat.{mul-le-mul, mul-le-mul_right}
use native.Mathlib.Omega.{arith}
use mathlib.Core.Bool.{true}
use mathlib.Core.Path.{◌≡◌}
use borrow.Author.Tests.{le-leb}
use Rattle.definition.specs.Limits.{base_limits}
use Rattle.definition.specs.Outcome as Outcomes
use Rattle.numbers.specs.Gains.{Within, added_element, gained, roomy}

-- the totals while at most N variables are gone
pub within_roomy : (N g : ℕ) (x : Outcomes.Statistics) → g ≤ N → N ≤ base_limits.most_columns → Within N g x → roomy x ≡ true
unfolding roomy base_limits
within_roomy N g x h few w =
    let cube = mul-le-mul few (mul-le-mul few few) in
    let z = mul-le-mul_right (N * N) h in
    rw (
      le-leb x.lnz (2 ^ 63) (omega (arith, w.below_lnz, z, cube)),
      le-leb x.n_div (2 ^ 63) (omega (arith, w.below_div, z, cube)),
      le-leb x.n_mult_subs_ldl (2 ^ 63) (omega (arith, w.below_ldl, z, cube)),
    )
    (le-leb x.n_mult_subs_lu (2 ^ 63) (omega (arith, w.below_lu, z, cube)))

-- so one more element is counted
pub within_added : (N g f r : ℕ) (x : Outcomes.Statistics) → g ≤ N → N ≤ base_limits.most_columns → Within N g x → f + r ≤ base_limits.most_columns → added_element f r x ≡ gained f r x
unfolding added_element
within_added N g f r x h few w b = rw (le-leb (f + r) base_limits.most_columns b, within_roomy N g x h few w)
