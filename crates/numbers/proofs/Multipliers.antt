-- The tests by which a multiplier becomes a dense rule (`DenseRule::try_from`), in their order, against the definition's `rule_of`. The remainder by a quarter is exact on every float.
-- Assumes nothing.
use Prim.Native.Nat.{ℕ, zero, suc, ◌+◌, ◌-◌, ◌*◌, ◌/◌, ◌%◌, ◌^◌, ◌≤◌, ◌<◌}
use native.Mathlib.Nat.{lt_of_le_of_lt, lt_of_lt_of_le, lt_irrefl, lt_of_not-le, mul-one, one-mul, zero-mul, add-zero, mul_assoc, mul_left_comm, mul_comm, mul-pos, mod-one, zero-mod, mod-le, mul-mod_left, mul-div_cancel, le_trans, mul-mul-mul_comm, eq_of_mul-eq-mul_right}
use native.Mathlib.Decide.{dec_le}
use native.Mathlib.Omega.{arith}
use mathlib.Core.Path.{◌≡◌, refl, sym, ap, ◌∙◌, subst}
use mathlib.Core.Bool.{Bool, true, false, not, ◌&&◌, ◌||◌, cond, beq, true≢false, false≢true}
use mathlib.Core.Logic.{◌⊎◌, inl, inr}
use mathlib.Core.Option.{Option, none, some}
use lib.Dec.{T, ltb, leb, eqb, lit<, lit≤, ltb→lt, leb→le, eqb→eq}
use lib.IntN.{ℤ, pos, negsuc}
use lib.Pow.{pow-add, pow_pos, pow_mono, pow-lt, shl_lt, mod-pow-add}
use lib.Ieee.{Float, nan, inf, fin, binary64, up, down, round, rem, mul, unlike, lt, eq, ne, fits}
use lib.Ieee.Bits.{is_true}
use lib.Ieee.Digits.{back}
use lib.Ieee.Exact.{HasValue, round_exact}
use lib.Ieee.Fits.{down_pos, up_pos, and_i, and_l, and_r, eq→eqb}
use lib.Ieee.Back.{round_whole}
use lib.Ieee.Nearest.{div_mono, div_same}
use Rattle.std.specs.Float.{float_is_finite, trunc, round_with, ratio_floor}
use borrow.Author.Tests.{le-ltb, ltb-true, ltb-false}
use Rattle.plain.specs.Lists.{is_none}
use Rattle.definition.specs.Threshold.{Rule, full_rows, multiplier, in_quarters, rule_of}
use Rattle.numbers.proofs.Exact.{is_zero, round_small, test_ext}
use Rattle.numbers.proofs.Rules.{above_not, below_is, zero_in, plus_none, minus_none, no_size, zero_size}

-- `!x.is_finite()`
pub not_finite : (x : Float) → float_is_finite x ≡ false → rule_of x ≡ none
unfolding float_is_finite rule_of
not_finite nan e = refl
not_finite (inf s) e = refl
not_finite (fin s m k) e = absurd (true≢false e)

-- `1000.0 < x`: 1000 is 125 · 2³
pub above : (x : Float) → lt (fin false 125 (pos 3)) x ≡ true → rule_of x ≡ none
unfolding lt rule_of
above nan e = refl
above (inf s) e = refl
above (fin true m k) e = absurd (false≢true e)
above (fin false m k) e =
    ap (λ (b : Bool). cond b (some (multiplier (fin false m k))) none)
    (above_not (m * up k) (down k) (omega (arith, ltb-true (1000 * down k) (m * up k * 1) e)))

-- `x < 0.0` is not so of a number without the sign
plus_not : (m : ℕ) (k : ℤ) → lt (fin false m k) (fin false 0 (pos 0)) ≡ true → ⊥
unfolding lt
plus_not m k e = never (m * up k * 1) (0 * 1 * down k) (zero-mul (down k)) e
  where
    never : (a b : ℕ) → b ≡ 0 → ltb a b ≡ true → ⊥
    never a b z h = omega (arith, ltb-true a b h)

full_at : (b : Bool) (m : ℕ) (k : ℤ) → ltb 0 m ≡ b → lt (fin true m k) (fin false 0 (pos 0)) ≡ true → cond b (some full_rows) (cond (in_quarters (m * up k) (down k)) (some (multiplier (fin true m k))) none) ≡ some full_rows
unfolding lt
full_at true m k e h = refl
full_at false m k e h = absurd (true≢false (sym h ∙ le-ltb 0 (m * up k * 1 + 0 * 1 * down k) (omega (arith, zero_size m k (no_size m e)))))

-- `x < 0.0`: full rows only
pub full : (x : Float) → float_is_finite x ≡ true → lt x (fin false 0 (pos 0)) ≡ true → rule_of x ≡ some full_rows
unfolding float_is_finite rule_of
full nan f e = absurd (false≢true f)
full (inf s) f e = absurd (false≢true f)
full (fin true m k) f e = full_at (ltb 0 m) m k refl e
full (fin false m k) f e = absurd (plus_not m k e)

-- ---- the remainder by a quarter is exact
-- what is left of 4 m by 2 ^ (j + 2) is 4 times what is left of m by 2 ^ j
quad_mod : (m j : ℕ) → m * 4 % 2 ^ (j + 2) ≡ m % 2 ^ j * 4
quad_mod m j =
    mod-pow-add (m * 4) j 2
    ∙ ap (λ (z : ℕ). z % 2 ^ j * 4 + m * 4 % 4) (mul-div_cancel m (lit< tt))
    ∙ ap (λ (z : ℕ). m % 2 ^ j * 4 + z) (mul-mod_left m 4)
    ∙ add-zero (m % 2 ^ j * 4)

-- of 4 X by D, over 4 D: where nothing is left
none_left : (s : Bool) (R D : ℕ) → 0 < D → R ≡ 0 → HasValue (round binary64 s R (D * 4)) s R (D * 4)
none_left s R D P e = subst (λ (z : ℕ). HasValue (round binary64 s z (D * 4)) s z (D * 4)) (sym e)
    (round_exact binary64 s 0 (D * 4) 0 0 (mul-pos P (lit< tt)) (lit< tt) (lit< tt) (zero-mul (2 ^ 1074) ∙ sym (zero-mul (D * 4))))

-- where the unit is 2 ^ -(j + 2), the last place that a binary64 has or a higher one
some_left : (s : Bool) (m j : ℕ) → m < 2 ^ 53 → j + 2 ≤ 1074 → HasValue (round binary64 s (m % 2 ^ j * 4) (2 ^ (j + 2) * 4)) s (m % 2 ^ j * 4) (2 ^ (j + 2) * 4)
some_left s m j small h =
    let q = m % 2 ^ j in
    let i = 1074 - (j + 2) in
    let qs : q < 2 ^ 53 = lt_of_le_of_lt (mod-le m (2 ^ j)) small in
    round_exact binary64 s (q * 4) (2 ^ (j + 2) * 4) q i
    (mul-pos (pow_pos (j + 2)) (lit< tt)) qs
    (lt_of_lt_of_le (shl_lt 53 i qs) (pow_mono {i = 53 + i} {j = 2098} (omega arith)))
    (ap (λ (z : ℕ). q * 4 * z) (ap (λ (z : ℕ). 2 ^ z) (sym (back 1074 (j + 2) h)) ∙ pow-add 2 i (j + 2))
    ∙ simp (mul_assoc, mul_comm, mul_left_comm))

small_of : (s : Bool) (m : ℕ) (k : ℕ) → T (fits binary64 (fin s m (negsuc k))) → (m < 2 ^ 53) × ((m ≡ 0) ⊎ (suc k ≤ 1074))
unfolding fits
small_of s zero k t = (lit< tt, inl refl)
small_of s (suc m) k t =
    let a = eqb (suc m % 2) 1 in
    let b = ltb (suc m) (2 ^ 53) in
    let d = leb (2 ^ suc k) (2 ^ 1074) in
    let e = ltb (suc m * 1) (2 ^ 1024 * 2 ^ suc k) in
    let abd = and_l (a && b && d) e t in
    (ltb→lt (suc m) (2 ^ 53) (and_r a b (and_l (a && b) d abd)), inr (exponent (suc k) 1074 (leb→le (2 ^ suc k) (2 ^ 1074) (and_r (a && b) d abd))))
  where
    exponent : (i j : ℕ) → 2 ^ i ≤ 2 ^ j → i ≤ j
    exponent i j h = elim (dec_le i j) [ yes p ↦ p | no n ↦ absurd (lt_irrefl (2 ^ i) (lt_of_le_of_lt h (pow-lt (lt_of_not-le n)))) ]

left : (s : Bool) (m : ℕ) (k : ℤ) → T (fits binary64 (fin s m k)) → HasValue (round binary64 s (m * up k * 4 % down k) (down k * 4)) s (m * up k * 4 % down k) (down k * 4)
left s m (pos n) t = none_left s (m * 2 ^ n * 4 % 1) 1 (lit< tt) (mod-one (m * 2 ^ n * 4))
left s m (negsuc zero) t = none_left s (m * 1 * 4 % 2) 2 (lit< tt) (omega arith)
left s m (negsuc (suc j)) t = elim (small_of s m (suc j) t).1 [
  | inl z ↦ none_left s (m * 1 * 4 % 2 ^ suc (suc j)) (2 ^ suc (suc j)) (pow_pos (suc (suc j))) (ap (λ (y : ℕ). y * 1 * 4 % 2 ^ suc (suc j)) z ∙ zero-mod (2 ^ suc (suc j)))
  | inr h ↦
      subst (λ (d : ℕ). HasValue (round binary64 s (m * 1 * 4 % 2 ^ d) (2 ^ d * 4)) s (m * 1 * 4 % 2 ^ d) (2 ^ d * 4)) (two j)
      (subst (λ (r : ℕ). HasValue (round binary64 s r (2 ^ (j + 2) * 4)) s r (2 ^ (j + 2) * 4)) (sym (ap (λ (y : ℕ). y * 4 % 2 ^ (j + 2)) (mul-one m) ∙ quad_mod m j))
      (some_left s m j (small_of s m (suc j) t).0 (omega arith)))
]
  where
    two : (j : ℕ) → j + 2 ≡ suc (suc j)
    two j = omega arith

-- `x % 0.25 != 0.0`: a quarter is 1 · 2⁻²
rest : (s : Bool) (m : ℕ) (k : ℤ) → T (fits binary64 (fin s m k)) → ne (rem binary64 (fin s m k) (fin false 1 (negsuc 1))) (fin false 0 (pos 0)) ≡ not (eqb (m * up k * 4 % down k) 0)
unfolding ne rem
rest s m k t =
    ap (λ (d : ℕ). not (eq (round binary64 s (m * up k * 4 % d) (down k * 4)) (fin false 0 (pos 0)))) (one-mul (down k))
    ∙ ap not (is_zero (round binary64 s (m * up k * 4 % down k) (down k * 4)) s (m * up k * 4 % down k) (down k * 4) (mul-pos (down_pos k) (lit< tt)) (left s m k t))

nan_no : ne nan nan ≡ false → ⊥
unfolding ne eq
nan_no e = true≢false e

inf_no : (s : Bool) → lt (fin false 125 (pos 3)) (inf s) ≡ false → eq (inf s) (inf true) ≡ false → ⊥
unfolding lt eq
inf_no true b c = true≢false c
inf_no false b c = true≢false b

-- `x < 0.0` failed, with the sign: minus zero
minus_zero_lem : (m : ℕ) (k : ℤ) → lt (fin true m k) (fin false 0 (pos 0)) ≡ false → m * up k ≡ 0
unfolding lt
minus_zero_lem m k e = omega (arith, ltb-false 0 (m * up k * 1 + 0 * 1 * down k) e)

small : (m : ℕ) (k : ℤ) → lt (fin false 125 (pos 3)) (fin false m k) ≡ false → m * up k ≤ 1000 * down k
unfolding lt
small m k e = omega (arith, ltb-false (1000 * down k) (m * up k * 1) e)

pub quarter_left : (x : Float) → T (fits binary64 x) → ne x x ≡ false → lt (fin false 125 (pos 3)) x ≡ false → eq x (inf true) ≡ false → lt x (fin false 0 (pos 0)) ≡ false
    → ne (rem binary64 x (fin false 1 (negsuc 1))) (fin false 0 (pos 0)) ≡ is_none (rule_of x)
quarter_left nan t a b c d = absurd (nan_no a)
quarter_left (inf s) t a b c d = absurd (inf_no s b c)
quarter_left (fin true m k) t a b c d =
    rest true m k t ∙ ap not (is_true (eqb (m * up k * 4 % down k) 0) (eq→eqb (ap (λ (y : ℕ). y * 4 % down k) (minus_zero_lem m k d) ∙ zero-mod (down k)))) ∙ sym (minus_none m k)
quarter_left (fin false m k) t a b c d = rest false m k t ∙ ap not (sym (below_is (m * up k) (down k) (down_pos k) (small m k b))) ∙ sym (plus_none m k)

-- ---- a whole number of quarters: 4 x is exact, and its whole part is it exactly where nothing is left

-- `x * 4.0`
four : (s : Bool) (m : ℕ) (k : ℤ) → T (fits binary64 (fin s m k)) → m * up k ≤ 1000 * down k
    → HasValue (mul binary64 (fin s m k) (fin false 1 (pos 2))) (unlike s false) (m * up k * 4) (down k)
unfolding mul
four s m k t h =
    subst (λ (d : ℕ). HasValue (round binary64 (unlike s false) (m * up k * 4) d) (unlike s false) (m * up k * 4) (down k)) (sym (mul-one (down k)))
    (go (unlike s false) k t h)
  where
    none : (r : Bool) (A D : ℕ) → 0 < D → A ≡ 0 → HasValue (round binary64 r (A * 4) D) r (A * 4) D
    none r A D P e =
        subst (λ (z : ℕ). HasValue (round binary64 r (z * 4) D) r (z * 4) D) (sym e)
        (round_exact binary64 r 0 D 0 0 P (lit< tt) (lit< tt) (zero-mul (2 ^ 1074) ∙ sym (zero-mul D)))

    go : (r : Bool) (k : ℤ) → T (fits binary64 (fin s m k)) → m * up k ≤ 1000 * down k
        → HasValue (round binary64 r (m * up k * 4) (down k)) r (m * up k * 4) (down k)
    go r (pos n) t h = round_small r (m * 2 ^ n * 4) 1 0 refl (omega arith) (omega arith)
    go r (negsuc j) t h = elim (small_of s m j t).1 [
      | inl z ↦ none r (m * 1) (2 ^ suc j) (pow_pos (suc j)) (ap (λ (y : ℕ). y * 1) z)
      | inr i ↦
          let up4 : 2 ^ 1076 ≡ 2 ^ (1076 - suc j) * 2 ^ suc j = ap (λ (z : ℕ). 2 ^ z) (sym (back 1076 (suc j) (omega arith)))
          ∙ pow-add 2 (1076 - suc j) (suc j) in
          subst (λ (a : ℕ). HasValue (round binary64 r (a * 4) (2 ^ suc j)) r (a * 4) (2 ^ suc j)) (sym (mul-one m))
          (round_exact binary64 r (m * 4) (2 ^ suc j) m (1076 - suc j) (pow_pos (suc j)) (small_of s m j t).0
          (lt_of_lt_of_le (shl_lt 53 (1076 - suc j) (small_of s m j t).0) (pow_mono {i = 53 + (1076 - suc j)} {j = 2098} (omega arith)))
          (mul_assoc m 4 (2 ^ 1074) ∙ ap (λ (z : ℕ). m * z) up4 ∙ sym (mul_assoc m (2 ^ (1076 - suc j)) (2 ^ suc j))))
    ]

-- the whole part of a small value
whole_part : (y : Float) (s : Bool) (a c : ℕ) → 0 < c → a ≤ 4000 * c → HasValue y s a c → HasValue (trunc binary64 y) s (a / c) 1
unfolding round_with
whole_part nan s a c C h p = absurd p
whole_part (inf t) s a c C h p = absurd p
whole_part (fin t n e) s a c C h p =
    let q : n * up e / down e ≡ a / c = div_same (n * up e) (down e) a c (down_pos e) C p.1 in
    go t p.0 q
  where
    fits_in : a / c ≤ 2 ^ 53
    fits_in = le_trans (div_mono a c 4000 1 C (lit< tt) (subst (λ (z : ℕ). z ≤ 4000 * c) (sym (mul-one a)) h)) (lit≤ tt)

    go : (t : Bool) → t ≡ s → n * up e / down e ≡ a / c → HasValue (round_with ratio_floor ratio_floor binary64 (fin t n e)) s (a / c) 1
    go true f q = subst (λ (r : Bool). HasValue (round binary64 true (n * up e / down e) 1) r (a / c) 1) f
        (subst (λ (z : ℕ). HasValue (round binary64 true z 1) true (a / c) 1) (sym q) (round_whole binary64 true (a / c) fits_in))
    go false f q = subst (λ (r : Bool). HasValue (round binary64 false (n * up e / down e) 1) r (a / c) 1) f
        (subst (λ (z : ℕ). HasValue (round binary64 false z 1) false (a / c) 1) (sym q) (round_whole binary64 false (a / c) fits_in))

-- `==` of two values of one sign is that of their fractions, crosswise
eq_is : (x y : Float) (s : Bool) (a c b d : ℕ) → 0 < c → 0 < d → HasValue x s a c → HasValue y s b d → eq x y ≡ eqb (a * d) (b * c)
unfolding eq
eq_is nan y s a c b d C D p q = absurd p
eq_is (inf t) y s a c b d C D p q = absurd p
eq_is (fin t m e) nan s a c b d C D p q = absurd q
eq_is (fin t m e) (inf u) s a c b d C D p q = absurd q
eq_is (fin t m e) (fin u n l) s a c b d C D p q =
    let A = m * up e * down l in
    let B = n * up l * down e in
    let E = down e * down l in
    let EP : 0 < E = mul-pos (down_pos e) (down_pos l) in
    let CD : 0 < c * d = mul-pos C D in
    let first : A * (c * d) ≡ a * d * E = mul-mul-mul_comm (m * up e) (down l) c d ∙ ap (λ (z : ℕ). z * (down l * d)) p.1
    ∙ simp (mul_assoc, mul_comm, mul_left_comm) in
    let second : B * (c * d) ≡ b * c * E =
    ap (λ (z : ℕ). B * z) (mul_comm c d) ∙ mul-mul-mul_comm (n * up l) (down e) d c ∙ ap (λ (z : ℕ). z * (down e * c)) q.1
    ∙ simp (mul_assoc, mul_comm, mul_left_comm) in
    test_ext (eqb A B && (beq t u || eqb A 0)) (eqb (a * d) (b * c))
    (λ h. eq→eqb (eq_of_mul-eq-mul_right E EP (a * d) (b * c)
    (sym first ∙ ap (λ (z : ℕ). z * (c * d)) (eqb→eq A B (and_l (eqb A B) (beq t u || eqb A 0) h)) ∙ second)))
    (λ h. and_i (eqb A B) (beq t u || eqb A 0)
    (eq→eqb (eq_of_mul-eq-mul_right (c * d) CD A B (first ∙ ap (λ (z : ℕ). z * E) (eqb→eq (a * d) (b * c) h) ∙ sym second)))
    (or_left (beq t u) (eqb A 0) (same_sign t u (p.0 ∙ sym q.0))))
  where
    or_left : (a b : Bool) → T a → T (a || b)
    or_left true b t = tt
    or_left false b t = absurd t

    same_sign : (t u : Bool) → t ≡ u → T (beq t u)
    same_sign true true e = tt
    same_sign true false e = absurd (true≢false e)
    same_sign false true e = absurd (false≢true e)
    same_sign false false e = tt

-- a number is its whole part exactly where nothing is left
none_over : (a c : ℕ) → 0 < c → eqb (a / c * c) (a * 1) ≡ eqb (a % c) 0
none_over a c C =
    test_ext (eqb (a / c * c) (a * 1)) (eqb (a % c) 0)
    (λ h. eq→eqb (after (eqb→eq (a / c * c) (a * 1) h)))
    (λ h. eq→eqb (before (eqb→eq (a % c) 0 h)))
  where
    parts : c * (a / c) + a % c ≡ a
    parts = omega arith

    after : a / c * c ≡ a * 1 → a % c ≡ 0
    after e = let f : c * (a / c) ≡ a = mul_comm c (a / c) ∙ e ∙ mul-one a in omega arith

    before : a % c ≡ 0 → a / c * c ≡ a * 1
    before e = mul_comm (a / c) c ∙ (let f : c * (a / c) ≡ a = omega arith in f) ∙ sym (mul-one a)

quarters : (s : Bool) (m : ℕ) (k : ℤ) → T (fits binary64 (fin s m k)) → m * up k ≤ 1000 * down k
    → ne (trunc binary64 (mul binary64 (fin s m k) (fin false 1 (pos 2)))) (mul binary64 (fin s m k) (fin false 1 (pos 2)))
    ≡ not (eqb (m * up k * 4 % down k) 0)
unfolding ne
quarters s m k t h =
    let y = mul binary64 (fin s m k) (fin false 1 (pos 2)) in
    let a = m * up k * 4 in
    let c = down k in
    let v = four s m k t h in
    ap not (eq_is (trunc binary64 y) y (unlike s false) (a / c) 1 a c (lit< tt) (down_pos k) (whole_part y (unlike s false) a c (down_pos k) (omega arith) v) v
    ∙ none_over a c (down_pos k))

-- `(x * 4.0).trunc() != x * 4.0`
pub quarters_finite : (x : Float) → T (fits binary64 x) → float_is_finite x ≡ true → lt (fin false 125 (pos 3)) x ≡ false
    → lt x (fin false 0 (pos 0)) ≡ false
    → ne (trunc binary64 (mul binary64 x (fin false 1 (pos 2)))) (mul binary64 x (fin false 1 (pos 2))) ≡ is_none (rule_of x)
unfolding float_is_finite
quarters_finite nan t f b d = absurd (false≢true f)
quarters_finite (inf s) t f b d = absurd (false≢true f)
quarters_finite (fin true m k) t f b d =
    let z = minus_zero_lem m k d in
    quarters true m k t (omega arith)
    ∙ ap not (is_true (eqb (m * up k * 4 % down k) 0) (eq→eqb (ap (λ (y : ℕ). y * 4 % down k) z ∙ zero-mod (down k)))) ∙ sym (minus_none m k)
quarters_finite (fin false m k) t f b d =
    quarters false m k t (small m k b) ∙ ap not (sym (below_is (m * up k) (down k) (down_pos k) (small m k b))) ∙ sym (plus_none m k)

-- the same, of what is a number, not above 1,000 and not the least
pub quarters_left : (x : Float) → T (fits binary64 x) → ne x x ≡ false → lt (fin false 125 (pos 3)) x ≡ false → eq x (inf true) ≡ false
    → lt x (fin false 0 (pos 0)) ≡ false
    → ne (trunc binary64 (mul binary64 x (fin false 1 (pos 2)))) (mul binary64 x (fin false 1 (pos 2))) ≡ is_none (rule_of x)
unfolding float_is_finite
quarters_left nan t a b c d = absurd (nan_no a)
quarters_left (inf s) t a b c d = absurd (inf_no s b c)
quarters_left (fin s m k) t a b c d = quarters_finite (fin s m k) t refl b d

-- more or less than a whole number of quarters
pub no_rule : (o : Option Rule) → is_none o ≡ true → o ≡ none
no_rule none e = refl
no_rule (some r) e = absurd (false≢true e)

-- else the multiplier
pub times : (x : Float) → is_none (rule_of x) ≡ false → lt x (fin false 0 (pos 0)) ≡ false → rule_of x ≡ some (multiplier x)
unfolding rule_of
times nan r e = absurd (true≢false r)
times (inf s) r e = absurd (true≢false r)
times (fin true m k) r e = minus (ltb 0 m) refl (minus_zero_lem m k e)
  where
    minus : (b : Bool) → ltb 0 m ≡ b → m * up k ≡ 0
        → cond b (some full_rows) (cond (in_quarters (m * up k) (down k)) (some (multiplier (fin true m k))) none) ≡ some (multiplier (fin true m k))
    minus true e z = absurd (omega (arith, mul-pos (ltb-true 0 m e) (up_pos k)))
    minus false e z = ap (λ (b : Bool). cond b (some (multiplier (fin true m k))) none) (zero_in (m * up k) (down k) z)
times (fin false m k) r e = taken (in_quarters (m * up k) (down k)) r
  where
    taken : (b : Bool) → is_none (cond b (some (multiplier (fin false m k))) none) ≡ false → cond b (some (multiplier (fin false m k))) none ≡ some (multiplier (fin false m k))
    taken true h = refl
    taken false h = absurd (true≢false h)
