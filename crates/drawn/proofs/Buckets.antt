-- The links of a bucket: a chain stays where its links do.
-- Assumes nothing.
use Prim.Native.Nat.{ℕ}
use mathlib.Core.List.{List, [], ◌∷◌}
use mathlib.Core.Path.{◌≡◌, subst⁻¹}
use Rattle.plain.proofs.Members.{member_here, member_there}
use Rattle.plain.specs.Members.{In}
use Rattle.drawn.specs.Buckets.{Chain}

-- the same links along the rows
pub chain_same : (n : ℕ) (f g : ℕ → ℕ) (xs : List ℕ) (x : ℕ) → ((v : ℕ) → In v xs → g v ≡ f v) → Chain n f x xs → Chain n g x xs
chain_same n f g [] x e c = c
chain_same n f g (y ∷ ys) x e c =
    (c.0, c.1, chain_same n f g ys (g y) (λ v m. e v (member_there v y ys m)) (subst⁻¹ (λ (z : ℕ). Chain n f z ys) (e y (member_here y ys)) c.2))
