-- Plain lists of numbers: the words that the definition is written in, besides those of `lib.ListN` and `mathlib.Core.List`.
-- Every test is a Bool that computes on numerals. Assumes nothing.
use Rattle.std.specs.Prelude.{ℕ, zero, suc, ◌+◌, Bool, true, false, cond, ◌&&◌, ◌||◌, not, List, [], ◌∷◌, ◌++◌, eqb, ltb}
use Rattle.std.proofs.Math.Option.{Option, none, some}

-- a, a + 1, and so on: k numbers
unfoldable pub count_up : ℕ → ℕ → List ℕ
count_up a zero = []
count_up a (suc k) = a ∷ count_up (suc a) k

-- 0, 1, .., n - 1
abbrev pub up_to : ℕ → List ℕ
up_to n = count_up 0 n

-- a number as its own summand
abbrev pub itself : ℕ → ℕ
itself x = x

module _ {A : Type 0} where
  -- there is none
  abbrev pub is_none : Option A → Bool
  is_none none = true
  is_none (some x) = false

  -- x in front, where the test passed
  abbrev pub cons_if : Bool → A → List A → List A
  cons_if true x xs = x ∷ xs
  cons_if false x xs = xs

  -- the elements that pass the test, in order
  unfoldable pub keep : (A → Bool) → List A → List A
  keep p [] = []
  keep p (x ∷ xs) = cons_if (p x) x (keep p xs)

  -- the elements before the first that fails the test
  unfoldable pub leading : (A → Bool) → List A → List A
  leading p [] = []
  leading p (x ∷ xs) = cond (p x) (x ∷ leading p xs) []

  -- and those from it on
  unfoldable pub trailing : (A → Bool) → List A → List A
  trailing p [] = []
  trailing p (x ∷ xs) = cond (p x) (trailing p xs) (x ∷ xs)

  -- all elements pass the test
  unfoldable pub every : (A → Bool) → List A → Bool
  every p [] = true
  every p (x ∷ xs) = p x && every p xs

  -- the sum of a number of each element
  unfoldable pub total : (A → ℕ) → List A → ℕ
  total f [] = 0
  total f (x ∷ xs) = f x + total f xs

  -- the first element moved to the end
  unfoldable pub rotate : List A → List A
  rotate [] = []
  rotate (x ∷ xs) = xs ++ (x ∷ [])

  -- there is no element
  unfoldable pub is_empty : List A → Bool
  is_empty [] = true
  is_empty (x ∷ xs) = false

-- x stands in the list
unfoldable pub member : ℕ → List ℕ → Bool
member x [] = false
member x (y ∷ ys) = eqb x y || member x ys

-- each number of one list stands in the other: the same numbers, in any order
unfoldable pub same_members : List ℕ → List ℕ → Bool
same_members xs ys = every (λ x. member x ys) xs && every (λ y. member y xs) ys

-- the list without x, wherever it stands; of a list without repeats, one entry less
unfoldable pub delete : ℕ → List ℕ → List ℕ
delete x ys = keep (λ y. not (eqb x y)) ys

-- where x stands first, counted from 0
unfoldable pub position : ℕ → List ℕ → ℕ
position x [] = 0
position x (y ∷ ys) = cond (eqb x y) 0 (suc (position x ys))

-- each number is above the one before it, the first above b
unfoldable pub rises_from : ℕ → List ℕ → Bool
rises_from b [] = true
rises_from b (x ∷ xs) = ltb b x && rises_from x xs

-- each number is above the one before it
unfoldable pub rises : List ℕ → Bool
rises [] = true
rises (x ∷ xs) = rises_from x xs

-- r + k - 1, .., r + 1, r
unfoldable pub fall_to : ℕ → ℕ → List ℕ
fall_to r zero = []
fall_to r (suc k) = (r + k) ∷ fall_to r k
