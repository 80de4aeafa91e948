-- A list of numbers, each at most what a bound allows at its place.
-- Assumes nothing.
use Prim.Native.Nat.{ℕ, zero, suc, ◌+◌, ◌≤◌, ◌<◌}
use native.Mathlib.Omega.{arith}
use mathlib.Core.Path.{◌≡◌, refl, sym, ap, ◌∙◌, subst}
use mathlib.Core.List.{List, [], ◌∷◌, ◌++◌}
use lib.ListN.{length, get_or}
use Rattle.plain.specs.Lists.{count_up, total}

module _ (bound : ℕ → ℕ) where
  -- the first place is a
  abbrev pub Under : ℕ → List ℕ → Type 0
  Under a [] = Unit {0}
  Under a (c ∷ cs) = (c ≤ bound a) × Under (suc a) cs

  pub under_append : (a : ℕ) (xs ys : List ℕ) → Under a xs → Under (a + length xs) ys → Under a (xs ++ ys)
  under_append a [] ys h k = let e : a + 0 ≡ a = omega arith in subst (λ (z : ℕ). Under z ys) e k
  under_append a (x ∷ xs) ys h k =
      let e : a + suc (length xs) ≡ suc a + length xs = omega arith in
      (h.0, under_append (suc a) xs ys h.1 (subst (λ (z : ℕ). Under z ys) e k))

  pub under_at : (a : ℕ) (xs : List ℕ) (k : ℕ) → Under a xs → k < length xs → get_or xs k 0 ≤ bound (a + k)
  under_at a [] k h l = absurd (omega arith)
  under_at a (x ∷ xs) zero h l = let e : a + 0 ≡ a = omega arith in subst (λ (z : ℕ). x ≤ bound z) (sym e) h.0
  under_at a (x ∷ xs) (suc k) h l =
      let e : a + suc k ≡ suc a + k = omega arith in
      subst (λ (z : ℕ). get_or xs k 0 ≤ bound z) (sym e) (under_at (suc a) xs k h.1 (omega arith))

  -- the sums of what grows with its number
  pub under_total : (w : ℕ → ℕ) → ((x y : ℕ) → x ≤ y → w x ≤ w y) → (a : ℕ) (xs : List ℕ) → Under a xs → total w xs ≤ total (λ k. w (bound k)) (count_up a (length xs))
  unfolding total count_up
  under_total w mono a [] h = omega arith
  under_total w mono a (x ∷ xs) h = omega (arith, mono x (bound a) h.0, under_total w mono (suc a) xs h.1)

-- the sum of a list is the sum of what stands at each place
pub total_places : (w f : ℕ → ℕ) (xs : List ℕ) (a : ℕ) → ((i : ℕ) → i < length xs → f (a + i) ≡ get_or xs i 0) → total (λ k. w (f k)) (count_up a (length xs)) ≡ total w xs
unfolding total count_up
total_places w f [] a h = refl
total_places w f (x ∷ xs) a h =
    let e : a + 0 ≡ a = omega arith in
    let p : w (f a) ≡ w x = ap w (ap f (sym e) ∙ h 0 (omega arith)) in
    omega (arith, total_places w f xs (suc a) (λ i l. let q : suc a + i ≡ a + suc i = omega arith in ap f q ∙ h (suc i) (omega arith)))
