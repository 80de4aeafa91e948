-- `square_root` is the largest whole number whose square is at most x, for every x below 4 ^ 32: what document 01 asks of the threshold's start.
-- A caller needs `square_root_is` and `root_only`, and nothing of how the number is found.
-- Assumes nothing.
use Prim.Native.Nat.{ℕ, zero, suc, ◌+◌, ◌*◌, ◌/◌, ◌^◌, ◌≤◌, ◌<◌}
use native.Mathlib.Omega.{arith}
use native.Mathlib.Decide.{dec_lt}
use native.Mathlib.Nat.{mul-add, add-mul, mul-mul-mul_comm, mul-le-mul, pow-succ'}
use mathlib.Core.Path.{◌≡◌}
use mathlib.Core.Bool.{cond}
use lib.Dec.{leb}
use lib.Ieee.{Float}
use borrow.Author.Tests.{leb-true, leb-false}
use Rattle.plain.proofs.Logic.{cond_has}
use Rattle.definition.specs.Threshold.{multiplier, quarters_of, root, square_root, start}

pub record IsRoot (x t : ℕ) : Type 0 where
  pub low : t * t ≤ x
  pub high : x < (t + 1) * (t + 1)

square_next : (r : ℕ) → (r + 1) * (r + 1) ≡ r * r + 2 * r + 1
square_next r = omega (arith, mul-add (r + 1) r 1, add-mul r 1 r)

square_twice : (r : ℕ) → (2 * r) * (2 * r) ≡ 4 * (r * r)
square_twice r = mul-mul-mul_comm 2 r 2 r

root_step : (x r : ℕ) → IsRoot (x / 4) r → IsRoot x (cond (leb ((2 * r + 1) * (2 * r + 1)) x) (2 * r + 1) (2 * r))
root_step x r h =
    cond_has (IsRoot x) (leb ((2 * r + 1) * (2 * r + 1)) x)
    (λ e. record {
      low = leb-true ((2 * r + 1) * (2 * r + 1)) x e;
      high = omega (arith, h.high, square_next r, square_next (2 * r), square_next (2 * r + 1), square_twice r);
    })
    (λ e. record {
      low = omega (arith, h.low, square_twice r);
      high = leb-false ((2 * r + 1) * (2 * r + 1)) x e;
    })

root_is : (k x : ℕ) → x < 4 ^ k → IsRoot x (root k x)
unfolding root
root_is zero x h = record { low = omega arith; high = omega arith }
root_is (suc k) x h = root_step x (root k (x / 4)) (root_is k (x / 4) (omega (arith, pow-succ' 4 k)))

pub square_root_is : (x : ℕ) → x < 4 ^ 32 → IsRoot x (square_root x)
unfolding square_root
square_root_is x h = root_is 32 x h

-- ---- there is one such number only

not_above : (x t u : ℕ) → IsRoot x t → IsRoot x u → Dec (u < t) → t ≤ u
not_above x t u h k (yes l) =
    let m : (u + 1) * (u + 1) ≤ t * t = mul-le-mul {n₁ = u + 1} {m₁ = u + 1} {n₂ = t} {m₂ = t} (omega arith) (omega arith) in
    absurd (omega (arith, h.low, k.high))
not_above x t u h k (no l) = omega arith

pub root_only : (x t u : ℕ) → IsRoot x t → IsRoot x u → t ≡ u
root_only x t u h k = omega (arith, not_above x t u h k (dec_lt u t), not_above x u t k h (dec_lt t u))

-- ---- the start is the largest t with t² at most multiplier² · n, both sixteen times: with q quarters that is 16 · t² at most q² · n

pub record IsStart (x : Float) (n t : ℕ) : Type 0 where
  pub low : 16 * (t * t) ≤ quarters_of x * quarters_of x * n
  pub high : quarters_of x * quarters_of x * n < 16 * ((t + 1) * (t + 1))

pub start_is : (x : Float) (n : ℕ) → quarters_of x * quarters_of x * n < 16 * 4 ^ 32 → IsStart x n (start (multiplier x) n)
unfolding start
start_is x n h =
    let r = square_root_is (quarters_of x * quarters_of x * n / 16) (omega arith) in
    record { low = omega (arith, r.low); high = omega (arith, r.high) }
