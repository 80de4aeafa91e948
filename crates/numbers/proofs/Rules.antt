-- What `rule_of` says, in plain numbers: a finite multiplier of size X / D is refused where it is not below zero and not a number of quarters up to 4,000.
-- Assumes nothing.
use Prim.Native.Nat.{ℕ, ◌*◌, ◌/◌, ◌%◌, ◌≤◌, ◌<◌}
use native.Mathlib.Nat.{le_refl, mul-le-mul, le_of_mul-le-mul_right, div-add-mod', zero-mul, zero-mod, zero-div}
use native.Mathlib.Omega.{arith}
use mathlib.Core.Path.{◌≡◌, refl, sym, ap, ◌∙◌}
use mathlib.Core.Bool.{Bool, true, false, not, ◌&&◌, cond, true≢false}
use mathlib.Core.Option.{Option, none, some}
use lib.Dec.{leb, ltb, eqb}
use lib.IntN.{ℤ}
use lib.Ieee.{Float, nan, inf, fin, up, down}
use lib.Ieee.Exact.{HasValue}
use borrow.Author.Tests.{eqb-true, le-leb, leb-true, ltb-false}
use Rattle.plain.specs.Lists.{is_none}
use Rattle.plain.proofs.Logic.{and_left, and_right, none_if}
use Rattle.definition.specs.Threshold.{Rule, full_rows, multiplier, quarters_of, in_quarters, rule_of}

-- ---- quarters

-- where four times X / D leaves nothing
whole : (X D : ℕ) → X * 4 % D ≡ 0 → X * 4 ≡ X * 4 / D * D
whole X D e = omega (arith, div-add-mod' (X * 4) D)

few : (X D : ℕ) → 0 < D → X * 4 ≡ X * 4 / D * D → X ≤ 1000 * D → X * 4 / D ≤ 4000
few X D P e h = le_of_mul-le-mul_right {m = X * 4 / D} {n = 4000} {k = D} (omega arith) P

not_above : (X D : ℕ) → X * 4 ≡ X * 4 / D * D → X * 4 / D ≤ 4000 → X ≤ 1000 * D
not_above X D e h = omega (arith, mul-le-mul {n₁ = X * 4 / D} {m₁ = D} {n₂ = 4000} {m₂ = D} h (le_refl D))

-- above 1,000
pub above_not : (X D : ℕ) → 1000 * D < X → in_quarters X D ≡ false
unfolding in_quarters
above_not X D h = none_if (in_quarters X D) (λ e.
    let w = whole X D (eqb-true (X * 4 % D) 0 (and_left (eqb (X * 4 % D) 0) (leb (X * 4 / D) 4000) e)) in
    let l = leb-true (X * 4 / D) 4000 (and_right (eqb (X * 4 % D) 0) (leb (X * 4 / D) 4000) e) in
    omega (arith, not_above X D w l))

-- up to 1,000 only the remainder counts
pub below_is : (X D : ℕ) → 0 < D → X ≤ 1000 * D → in_quarters X D ≡ eqb (X * 4 % D) 0
unfolding in_quarters
below_is X D P h = go (eqb (X * 4 % D) 0) refl
  where
    go : (b : Bool) → eqb (X * 4 % D) 0 ≡ b → (b && leb (X * 4 / D) 4000) ≡ b
    go true e = le-leb (X * 4 / D) 4000 (few X D P (whole X D (eqb-true (X * 4 % D) 0 e)) h)
    go false e = refl

pub zero_in : (X D : ℕ) → X ≡ 0 → in_quarters X D ≡ true
unfolding in_quarters
zero_in X D e =
    let z : X * 4 ≡ 0 = omega arith in
    rw (z, zero-mod D, zero-div D) refl

-- ---- the rule

chosen : (b : Bool) (r : Rule) → is_none (cond b (some r) none) ≡ not b
chosen true r = refl
chosen false r = refl

pub plus_none : (m : ℕ) (k : ℤ) → is_none (rule_of (fin false m k)) ≡ not (in_quarters (m * up k) (down k))
unfolding rule_of
plus_none m k = chosen (in_quarters (m * up k) (down k)) (multiplier (fin false m k))

pub no_size : (m : ℕ) → ltb 0 m ≡ false → m ≡ 0
no_size m e = omega (arith, ltb-false 0 m e)

pub zero_size : (m : ℕ) (k : ℤ) → m ≡ 0 → m * up k ≡ 0
zero_size m k e = ap (λ (z : ℕ). z * up k) e ∙ zero-mul (up k)

pub minus_none : (m : ℕ) (k : ℤ) → is_none (rule_of (fin true m k)) ≡ false
unfolding rule_of
minus_none m k = go (ltb 0 m) refl
  where
    go : (b : Bool) → ltb 0 m ≡ b → is_none (cond b (some full_rows) (cond (in_quarters (m * up k) (down k)) (some (multiplier (fin true m k))) none)) ≡ false
    go true e = refl
    go false e = chosen (in_quarters (m * up k) (down k)) (multiplier (fin true m k)) ∙ ap not (zero_in (m * up k) (down k) (zero_size m k (no_size m e)))

-- ---- an accepted multiplier that is not below zero is a number of quarters, at most 4,000

pub record Quartered (x : Float) : Type 0 where
  pub sign : Bool
  pub value : HasValue x sign (quarters_of x) 4
  pub bound : quarters_of x ≤ 4000

never_none : {r : Rule} → ◌≡◌ {A = Option Rule} none (some r) → ⊥
never_none e = true≢false (ap is_none e)

never_full : (x : Float) → ◌≡◌ {A = Option Rule} (some full_rows) (some (multiplier x)) → ⊥
never_full x e = let z : ◌≡◌ {A = ℕ} 0 1 = cc in omega arith

pub quartered : (x : Float) → rule_of x ≡ some (multiplier x) → Quartered x
unfolding rule_of quarters_of in_quarters
quartered nan h = absurd (never_none h)
quartered (inf s) h = absurd (never_none h)
quartered (fin true m k) h = go (ltb 0 m) refl h
  where
    go : (b : Bool) → ltb 0 m ≡ b → cond b (some full_rows) (cond (in_quarters (m * up k) (down k)) (some (multiplier (fin true m k))) none) ≡ some (multiplier (fin true m k))
        → Quartered (fin true m k)
    go true e h = absurd (never_full (fin true m k) h)
    go false e h =
        let X : m * up k * 4 ≡ 0 = ap (λ (z : ℕ). z * 4) (zero_size m k (no_size m e)) in
        let Q : m * up k * 4 / down k ≡ 0 = ap (λ (z : ℕ). z / down k) X ∙ zero-div (down k) in
        record { sign = true; value = (refl, X ∙ sym (ap (λ (z : ℕ). z * down k) Q ∙ zero-mul (down k))); bound = omega arith }
quartered (fin false m k) h = go (in_quarters (m * up k) (down k)) refl h
  where
    go : (b : Bool) → in_quarters (m * up k) (down k) ≡ b → cond b (some (multiplier (fin false m k))) none ≡ some (multiplier (fin false m k)) → Quartered (fin false m k)
    go false e h = absurd (never_none h)
    go true e h =
        let X = m * up k in
        let D = down k in
        let E : X * 4 ≡ X * 4 / D * D = whole X D (eqb-true (X * 4 % D) 0 (and_left (eqb (X * 4 % D) 0) (leb (X * 4 / D) 4000) e)) in
        record { sign = false; value = (refl, E); bound = leb-true (X * 4 / D) 4000 (and_right (eqb (X * 4 % D) 0) (leb (X * 4 / D) 4000) e) }
