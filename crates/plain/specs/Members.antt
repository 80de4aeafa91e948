-- What is said of a list: who stands in it, how often, and that nobody stands there twice.
-- Assumes nothing.
use Rattle.std.specs.Prelude.{ℕ, ◌≡◌, true, false, cond, List, [], ◌∷◌, eqb}
use Rattle.plain.specs.Lists.{member, total}

-- x stands in the list
abbrev pub In : ℕ → List ℕ → Type 0
In x xs = member x xs ≡ true

-- every x of xs is one of ys
abbrev pub Within : List ℕ → List ℕ → Type 0
Within xs ys = (x : ℕ) → In x xs → In x ys

-- no entry stands twice
abbrev pub Distinct : List ℕ → Type 0
Distinct [] = Unit {0}
Distinct (x ∷ xs) = (member x xs ≡ false) × Distinct xs

-- P of every element
abbrev pub All : {A : Type 0} → (A → Type 0) → List A → Type 0
All P [] = Unit {0}
All P (x ∷ xs) = P x × All P xs

-- 1 where the two are equal
abbrev pub same : ℕ → ℕ → ℕ
same v x = cond (eqb v x) 1 0

-- how often v stands in the list
abbrev pub count : ℕ → List ℕ → ℕ
count v xs = total (same v) xs
