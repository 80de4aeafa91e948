-- Lists in which some entries are alike: the first of each class, and the loop by which each entry takes those alike behind it.
-- Assumes nothing.
use Rattle.std.specs.Prelude.{ℕ, ◌≡◌, Bool, true, cond, ◌&&◌, eqb}
use mathlib.Core.List.{List, [], ◌∷◌, foldl}
use Rattle.plain.specs.Turns.{upd}

-- an equivalence, as a test
pub record Equivalence (like : ℕ → ℕ → Bool) : Type 0 where
  pub self : (i : ℕ) → like i i ≡ true
  pub back : (i j : ℕ) → like i j ≡ true → like j i ≡ true
  pub through : (i j k : ℕ) → like i j ≡ true → like j k ≡ true → like i k ≡ true

-- the first entry that is like j, and j itself where there is none
unfoldable pub first_like : (ℕ → ℕ → Bool) → List ℕ → ℕ → ℕ
first_like like [] j = j
first_like like (i ∷ is) j = cond (like i j) i (first_like like is j)

-- `owner v` is the entry that took v, and v where none did. i takes j, if it is like j and nobody took either.
unfoldable pub take_one : (ℕ → ℕ → Bool) → ℕ → (ℕ → ℕ) → ℕ → ℕ → ℕ
take_one like i owner j = cond ((eqb (owner i) i && eqb (owner j) j) && like i j) (upd owner j i) owner

-- each entry takes from those behind it
unfoldable pub take_all : (ℕ → ℕ → Bool) → List ℕ → (ℕ → ℕ) → ℕ → ℕ
take_all like [] owner = owner
take_all like (i ∷ js) owner = take_all like js (foldl (take_one like i) owner js)

-- nobody but j has j for its owner
abbrev pub Alone : (ℕ → ℕ) → ℕ → Type 0
Alone owner j = (x : ℕ) → owner x ≡ j → x ≡ j
