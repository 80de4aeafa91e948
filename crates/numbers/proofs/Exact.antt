-- Where products of floats are exact, and what comparisons of exact values say. For binary64.
-- Assumes nothing.
use mathlib.Core.Path.{◌≡◌, refl, sym, ap, ◌∙◌, subst}
use mathlib.Core.Bool.{Bool, true, false, ◌&&◌, ◌||◌, beq, true≢false, false≢true}
use mathlib.Core.Logic.{◌⊎◌, inl, inr}
use Prim.Native.Nat.{ℕ, ◌+◌, ◌-◌, ◌*◌, ◌^◌, ◌≤◌, ◌<◌}
use native.Mathlib.Nat.{le_of_lt, le_of_eq, lt_of_lt_of_le, lt_irrefl, mul-one, zero-mul, mul_assoc, mul-pos, mul-mul-mul_comm, eq-zero-or-pos}
use native.Mathlib.Omega.{arith}
use lib.Dec.{T, ltb, leb, eqb, ltb→lt, leb→le, le→leb, eqb→eq}
use lib.IntN.{pos}
use lib.Pow.{pow-add, pow_pos, pow_mono, shl_lt}
use lib.Ieee.{Float, nan, inf, fin, binary64, up, down, round, mul, le, eq, unlike, of_int}
use lib.Ieee.Digits.{back}
use lib.Ieee.Fits.{down_pos, and_l, and_i, eq→eqb}
use lib.Ieee.Exact.{HasValue, round_exact}
use lib.Ieee.Back.{round_whole}
use lib.Ieee.Order.{transfer, le_of_values}
use lib.Ieee.Scale.{round_same}

-- two tests that pass alike are equal
pub test_ext : (p q : Bool) → (T p → T q) → (T q → T p) → p ≡ q
test_ext true true f g = refl
test_ext true false f g = absurd (f tt)
test_ext false true f g = absurd (g tt)
test_ext false false f g = refl

-- a fraction over a power of two, with few digits, is not rounded
pub round_small : (s : Bool) (a c i : ℕ) → c ≡ 2 ^ i → i ≤ 1074 → a < 2 ^ 53 → HasValue (round binary64 s a c) s a c
round_small s a c i e h small =
    round_exact binary64 s a c a (1074 - i)
    (subst (λ (z : ℕ). 0 < z) (sym e) (pow_pos i))
    small
    (lt_of_lt_of_le (shl_lt 53 (1074 - i) small) (pow_mono {i = 53 + (1074 - i)} {j = 2098} (omega arith)))
    (ap (λ (z : ℕ). a * z) (ap (λ (z : ℕ). 2 ^ z) (sym (back 1074 i h)) ∙ pow-add 2 (1074 - i) i)
    ∙ sym (mul_assoc a (2 ^ (1074 - i)) (2 ^ i))
    ∙ ap (λ (z : ℕ). a * 2 ^ (1074 - i) * z) (sym e))

alike : (a b s : Bool) → a ≡ s → b ≡ s → unlike a b ≡ false
alike true true s p q = refl
alike true false s p q = absurd (true≢false (p ∙ sym q))
alike false true s p q = absurd (false≢true (p ∙ sym q))
alike false false s p q = refl

-- A product of two values of one sign, whose denominators multiply to a power of two and whose numerators' product has at most 53 digits, is exact and not below zero.
pub mul_exact : (s : Bool) (x y : Float) (a c b d i : ℕ) → 0 < c → 0 < d → c * d ≡ 2 ^ i → i ≤ 1074 → a * b < 2 ^ 53 → HasValue x s a c → HasValue y s b d → HasValue (mul binary64 x y) false (a * b) (c * d)
unfolding mul
mul_exact s nan y a c b d i C D e h small p q = absurd p
mul_exact s (inf t) y a c b d i C D e h small p q = absurd p
mul_exact s (fin t m k) nan a c b d i C D e h small p q = absurd q
mul_exact s (fin t m k) (inf u) a c b d i C D e h small p q = absurd q
mul_exact s (fin t m k) (fin u n l) a c b d i C D e h small p q =
    let x = m * up k in
    let y = n * up l in
    let cross : x * y * (c * d) ≡ a * b * (down k * down l) = mul-mul-mul_comm x y c d ∙ ap (λ (z : ℕ). z * (y * d)) p.1 ∙ ap (λ (z : ℕ). a * down k * z) q.1 ∙ mul-mul-mul_comm a (down k) b (down l) in
    subst (λ (v : Float). HasValue v false (a * b) (c * d))
    (sym (ap (λ (z : Bool). round binary64 z (x * y) (down k * down l)) (alike t u s p.0 q.0)
    ∙ round_same binary64 false (x * y) (down k * down l) (a * b) (c * d) (mul-pos (down_pos k) (down_pos l)) (mul-pos C D) cross))
    (round_small false (a * b) (c * d) i e h small)

-- a whole number up to 2 ^ 53 as a float
pub int_exact : (n : ℕ) → n ≤ 2 ^ 53 → HasValue (of_int binary64 (pos n)) false n 1
unfolding of_int
int_exact n h = round_whole binary64 false n h

or_split : (a b : Bool) → T (a || b) → T a ⊎ T b
or_split true b t = inl tt
or_split false b t = inr t

-- `<=` of two values that are not below zero is that of their fractions, crosswise
cross_of_le : (x y : Float) (a c b d : ℕ) → HasValue x false a c → HasValue y false b d → T (le x y) → a * d ≤ b * c
unfolding le
cross_of_le nan y a c b d p q t = absurd p
cross_of_le (inf s) y a c b d p q t = absurd p
cross_of_le (fin true m e) y a c b d p q t = absurd (true≢false p.0)
cross_of_le (fin false m e) nan a c b d p q t = absurd q
cross_of_le (fin false m e) (inf u) a c b d p q t = absurd q
cross_of_le (fin false m e) (fin true n k) a c b d p q t = absurd (true≢false q.0)
cross_of_le (fin false m e) (fin false n k) a c b d p q t =
    let A = m * up e * down k in
    let B = n * up k * down e in
    let AB : A ≤ B = elim (or_split (ltb A B) (eqb A B && true) t) [ inl u ↦ le_of_lt (ltb→lt A B u) | inr u ↦ le_of_eq (eqb→eq A B (and_l (eqb A B) true u)) ] in
    transfer a b c d (m * up e) (n * up k) (down e) (down k) (down_pos e) (down_pos k) (sym p.1) (sym q.1) AB

pub le_is : (x y : Float) (a c b d : ℕ) → 0 < c → 0 < d → HasValue x false a c → HasValue y false b d → le x y ≡ leb (a * d) (b * c)
le_is x y a c b d C D p q =
    test_ext (le x y) (leb (a * d) (b * c))
    (λ t. le→leb (a * d) (b * c) (cross_of_le x y a c b d p q t))
    (λ t. le_of_values x y a c b d C D p q (leb→le (a * d) (b * c) t))

-- `== 0.0`
times_zero : (n u : ℕ) → 0 < u → n * u ≡ 0 → n ≡ 0
times_zero n u U e = elim (eq-zero-or-pos n) [ inl z ↦ z | inr h ↦ absurd (lt_irrefl 0 (subst (λ (z : ℕ). 0 < z) e (mul-pos h U))) ]

pub is_zero : (v : Float) (s : Bool) (a c : ℕ) → 0 < c → HasValue v s a c → eq v (fin false 0 (pos 0)) ≡ eqb a 0
unfolding eq
is_zero nan s a c C p = absurd p
is_zero (inf t) s a c C p = absurd p
is_zero (fin t m e) s a c C p =
    let A = m * up e * 1 in
    let Z : 0 * 1 * down e ≡ 0 = zero-mul (down e) in
    test_ext (eqb A (0 * 1 * down e) && (beq t false || eqb A 0)) (eqb a 0)
    (λ h. eq→eqb (times_zero a (down e) (down_pos e) (sym p.1 ∙ ap (λ (z : ℕ). z * c) (sym (mul-one (m * up e)) ∙ eqb→eq A (0 * 1 * down e) (and_l (eqb A (0 * 1 * down e)) (beq t false || eqb A 0) h) ∙ Z) ∙ zero-mul c)))
    (λ h.
    let A0 : A ≡ 0 = mul-one (m * up e) ∙ times_zero (m * up e) c C (p.1 ∙ ap (λ (z : ℕ). z * down e) (eqb→eq a 0 h) ∙ zero-mul (down e)) in
    and_i (eqb A (0 * 1 * down e)) (beq t false || eqb A 0) (eq→eqb (A0 ∙ sym Z)) (or_right (beq t false) (eqb A 0) (eq→eqb A0)))
  where
    or_right : (a b : Bool) → T b → T (a || b)
    or_right true b t = tt
    or_right false b t = t
