-- Lists made of a function, loops as folds, and a function with one value changed: the words that models of code are written in.
-- Assumes nothing.
use Rattle.std.specs.Prelude.{ℕ, zero, suc, ◌≡◌, Bool, cond, not, ◌&&◌, List, [], ◌∷◌, eqb}
use Rattle.plain.specs.Lists.{cons_if}

-- F p, F (p + 1), and so on: k values
unfoldable pub entries : {A : Type 0} → (ℕ → A) → ℕ → ℕ → List A
entries F p zero = []
entries F p (suc k) = F p ∷ entries F (suc p) k

-- m after the turns 0 to k - 1 of f
unfoldable pub times : {A : Type 0} → ℕ → (ℕ → A → A) → A → A
times zero f m = m
times (suc k) f m = f k (times k f m)

-- F with x at j
unfoldable pub upd : {A : Type 0} → (ℕ → A) → ℕ → A → ℕ → A
upd F j x i = cond (eqb i j) x (F i)

-- of the numbers of a list those that pass the test, each where it stands first
unfoldable pub firsts : (ℕ → Bool) → List ℕ → List ℕ
firsts p [] = []
firsts p (x ∷ xs) = cons_if (p x) x (firsts (λ y. p y && not (eqb x y)) xs)

-- x is m after k turns of f: the invariant of every counting loop
pub record Turned {A : Type 0} (f : ℕ → A → A) (m : A) (k : ℕ) (x : A) : Type 0 where
  pub same : x ≡ times k f m
