-- The numbers up to a place, printed with a blank between: one more comes behind a blank, but the first.
-- Assumes nothing.
use Rattle.std.proofs.Common.{◌≡◌, ℕ, zero, suc, ◌+◌, ◌<◌, List, [], ◌∷◌, ◌++◌, ℤ, pos, length, get_or, take, refl, ap, sym, ◌∙◌, arith, append_assoc, add-one}
use Rattle.std.specs.Fmt.{signed_decimal}
use Rattle.text.specs.Printed.{floored, spaced}

-- what stands before the number at a place
abbrev pub between : ℕ → List ℕ
between zero = []
between (suc i) = 32 ∷ []

more : (xs : List ℤ) (i : ℕ) → i < length xs
    → spaced (take (suc i) xs) ≡ spaced (take i xs) ++ (between i ++ signed_decimal (floored (get_or xs i (pos 0))))
unfolding spaced
more [] i h = absurd (omega arith)
more (x ∷ xs) zero h = refl
more (x ∷ []) (suc i) h = absurd (omega arith)
more (x ∷ y ∷ xs) (suc zero) h = refl
more (x ∷ y ∷ xs) (suc (suc i)) h =
    ap (λ (l : List ℕ). signed_decimal (floored x) ++ (32 ∷ l)) (more (y ∷ xs) (suc i) (omega arith))
    ∙ sym (append_assoc (signed_decimal (floored x)) (32 ∷ spaced (take (suc i) (y ∷ xs))) (32 ∷ signed_decimal (floored (get_or xs i (pos 0)))))

pub spaced_none : spaced [] ≡ []
unfolding spaced
spaced_none = refl

pub spaced_more : (xs : List ℤ) (i : ℕ) (b : List ℕ) (z : ℤ) → i < length xs → b ≡ between i → z ≡ floored (get_or xs i (pos 0))
    → spaced (take i xs) ++ (b ++ signed_decimal z) ≡ spaced (take (i + 1) xs)
spaced_more xs i b z h e d = rw (add-one, e, d) (sym (more xs i h))
