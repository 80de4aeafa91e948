-- "Every float operation needed is exact on this domain": `t² <= multiplier² · n`, in floats, says that t is at most where the threshold starts from.
-- For t and n up to the most columns: multiplier² · n is at most 2·10^12 with four fractional bits, t² at most 4·10^12: 53 binary digits hold each.
-- Assumes nothing.
use Prim.Native.Nat.{ℕ, ◌+◌, ◌*◌, ◌^◌, ◌≤◌, ◌<◌}
use native.Mathlib.Nat.{le_trans, lt_of_le_of_lt, mul-one, mul_comm, mul-le-mul}
use native.Mathlib.Decide.{dec_le}
use native.Mathlib.Omega.{arith}
use mathlib.Core.Path.{◌≡◌, refl, ap, ◌∙◌}
use mathlib.Core.Bool.{false}
use lib.Dec.{leb, lit<, lit≤}
use lib.IntN.{pos}
use lib.Ieee.{Float, binary64, mul, le, of_int}
use lib.Ieee.Exact.{HasValue}
use borrow.Author.Tests.{leb-true, le-leb}
use Rattle.plain.proofs.Logic.{bool_ext}
use Rattle.definition.specs.Limits.{base_limits}
use Rattle.definition.specs.Threshold.{multiplier, quarters_of, start}
use Rattle.definition.proofs.Root.{IsStart, start_is}
use Rattle.numbers.proofs.Exact.{mul_exact, int_exact, le_is}
use Rattle.numbers.proofs.Rules.{Quartered}

-- `t * t` and `x * x * n`
abbrev pub square : ℕ → Float
square t = mul binary64 (of_int binary64 (pos t)) (of_int binary64 (pos t))

abbrev pub product : Float → ℕ → Float
product x n = mul binary64 (mul binary64 x x) (of_int binary64 (pos n))

squares : (s t : ℕ) → s ≤ t → s * s ≤ t * t
squares s t h = mul-le-mul h h

-- 16 · t² at most q² · n exactly up to the start
up_to_start : (x : Float) (n s t : ℕ) → IsStart x n s → leb (16 * (t * t)) (quarters_of x * quarters_of x * n) ≡ leb t s
up_to_start x n s t h =
    let Q = quarters_of x * quarters_of x * n in
    bool_ext (leb (16 * (t * t)) Q) (leb t s)
    (λ e. le-leb t s (below (leb-true (16 * (t * t)) Q e) (dec_le (s + 1) t)))
    (λ e. le-leb (16 * (t * t)) Q (omega (arith, h.low, squares t s (leb-true t s e))))
  where
    below : 16 * (t * t) ≤ quarters_of x * quarters_of x * n → Dec (s + 1 ≤ t) → t ≤ s
    below l (yes k) = absurd (omega (arith, h.high, squares (s + 1) t k))
    below l (no k) = omega arith

-- the range: multiplier² · n in sixteenths, and t²
pub range : (16 * (1000 * 1000 * base_limits.most_columns) ≡ 16 * 2000000000000) × (2000000000000 < 2 ^ 41)
    × (16 * 2000000000000 < 2 ^ 53) × (base_limits.most_columns * base_limits.most_columns < 2 ^ 53)
unfolding base_limits
range = (refl, lit< tt, lit< tt, lit< tt)

module _ (x : Float) (n : ℕ) (hn : n ≤ base_limits.most_columns) (Q : Quartered x) where
  sixteenths : quarters_of x * quarters_of x ≤ 16 * (1000 * 1000)
  sixteenths = mul-le-mul Q.bound Q.bound

  pub product_most : quarters_of x * quarters_of x * n ≤ 16 * 2000000000000
  product_most = le_trans (mul-le-mul sixteenths hn) (omega (arith, range.0))

  product_small : quarters_of x * quarters_of x * n < 2 ^ 53
  product_small = lt_of_le_of_lt product_most range.2

  pub product_exact : HasValue (product x n) false (quarters_of x * quarters_of x * n) 16
  unfolding base_limits
  product_exact =
      let q = quarters_of x in
      mul_exact false (mul binary64 x x) (of_int binary64 (pos n)) (q * q) 16 n 1 4 (lit< tt) (lit< tt) refl (lit≤ tt) product_small
      (mul_exact Q.sign x x q 4 q 4 4 (lit< tt) (lit< tt) refl (lit≤ tt) (lt_of_le_of_lt sixteenths (lit< tt)) Q.value Q.value)
      (int_exact n (omega arith))

  pub square_exact : (t : ℕ) → t ≤ base_limits.most_columns → HasValue (square t) false (t * t) 1
  unfolding base_limits
  square_exact t h =
      let v = int_exact t (omega arith) in
      mul_exact false (of_int binary64 (pos t)) (of_int binary64 (pos t)) t 1 t 1 0 (lit< tt) (lit< tt) refl (lit≤ tt) (lt_of_le_of_lt (mul-le-mul h h) range.3) v v

  pub within_start : (t : ℕ) → t ≤ base_limits.most_columns → le (square t) (product x n) ≡ leb t (start (multiplier x) n)
  within_start t h =
      let q = quarters_of x in
      le_is (square t) (product x n) (t * t) 1 (q * q * n) 16 (lit< tt) (lit< tt) (square_exact t h) product_exact
      ∙ ap (λ (z : ℕ). leb z (q * q * n * 1)) (mul_comm (t * t) 16)
      ∙ ap (λ (z : ℕ). leb (16 * (t * t)) z) (mul-one (q * q * n))
      ∙ up_to_start x n (start (multiplier x) n) t (start_is x n (omega (arith, product_small)))
