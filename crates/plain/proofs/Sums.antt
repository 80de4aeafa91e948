-- Sums over lists: LL1, LL2, LL3 of the proof plan, and what a sum keeps when one number moves to another place.
-- Assumes nothing.
use Prim.Native.Nat.{ℕ, ◌+◌, zero, ◌≤◌, ◌<◌, suc, ◌*◌}
use native.Mathlib.Omega.{arith}
use native.Mathlib.Nat.{suc-mul}
use mathlib.Core.Path.{ap, ◌≡◌, refl, ◌∙◌, sym}
use mathlib.Core.Logic.{◌≢◌}
use mathlib.Core.Bool.{Bool, cond, true, false, not}
use mathlib.Core.List.{List, ◌++◌, [], ◌∷◌, flat_map, map}
use lib.Dec.{eqb}
use lib.ListN.{length, get_or, length-append}
use borrow.Author.Tests.{ne_eqb, eq-eqb}
use Rattle.plain.proofs.Entries.{entries_whole, entries_counted}
use Rattle.plain.proofs.Members.{member_here, member_there, no_member, member_cases, not_here, not_there, member_delete, apart, delete_apart, delete_was, member_kept, kept_passes, member_up_to}
use Rattle.plain.proofs.Repeats.{distinct_delete, distinct_keep, distinct_count_up}
use Rattle.plain.specs.Lists.{total, cons_if, keep, member, delete, count_up, up_to, rotate}
use Rattle.plain.specs.Members.{All, Distinct, Within, In}

module _ {A : Type 0} where
  pub total_append : (f : A → ℕ) (xs ys : List A) → total f (xs ++ ys) ≡ total f xs + total f ys
  unfolding total
  total_append f [] ys = omega arith
  total_append f (x ∷ xs) ys = omega (arith, total_append f xs ys)

  pub total_one : (f : A → ℕ) (x : A) → total f (x ∷ []) ≡ f x
  unfolding total
  total_one f x = omega arith

  pub total_flat_map : {B : Type 0} (f : A → ℕ) (g : B → List A) (xs : List B) → total f (flat_map g xs) ≡ total (λ x. total f (g x)) xs
  unfolding total flat_map
  total_flat_map f g [] = refl
  total_flat_map f g (x ∷ xs) = total_append f (g x) (flat_map g xs) ∙ ap (λ (t : ℕ). total f (g x) + t) (total_flat_map f g xs)

  pub total_add : (f g : A → ℕ) (xs : List A) → total (λ x. f x + g x) xs ≡ total f xs + total g xs
  unfolding total
  total_add f g [] = omega arith
  total_add f g (x ∷ xs) = omega (arith, total_add f g xs)

  pub total_same : (f g : A → ℕ) (xs : List A) → All (λ x. f x ≡ g x) xs → total f xs ≡ total g xs
  unfolding total
  total_same f g [] a = refl
  total_same f g (x ∷ xs) a = omega (arith, a.0, total_same f g xs a.1)

  pub total_none : (f : A → ℕ) (xs : List A) → All (λ x. f x ≡ 0) xs → total f xs ≡ 0
  unfolding total
  total_none f [] a = refl
  total_none f (x ∷ xs) a = omega (arith, a.0, total_none f xs a.1)

  pub total_ones : (xs : List A) → total (λ x. 1) xs ≡ length xs
  unfolding total
  total_ones [] = refl
  total_ones (x ∷ xs) = omega (arith, total_ones xs)

  pub length_flat_map : {B : Type 0} (g : B → List A) (xs : List B) → length (flat_map g xs) ≡ total (λ x. length (g x)) xs
  unfolding total flat_map
  length_flat_map g [] = refl
  length_flat_map g (x ∷ xs) = omega (arith, length-append (g x) (flat_map g xs), length_flat_map g xs)

  total_cons_if : (f : A → ℕ) (b : Bool) (x : A) (xs : List A) → total f (cons_if b x xs) ≡ cond b (f x) 0 + total f xs
  unfolding total
  total_cons_if f true x xs = refl
  total_cons_if f false x xs = omega arith

  pub total_keep : (f : A → ℕ) (p : A → Bool) (xs : List A) → total f (keep p xs) ≡ total (λ x. cond (p x) (f x) 0) xs
  unfolding total keep
  total_keep f p [] = refl
  total_keep f p (x ∷ xs) = total_cons_if f (p x) x (keep p xs) ∙ ap (λ (t : ℕ). cond (p x) (f x) 0 + t) (total_keep f p xs)

zeros : {B : Type 0} (ys : List B) → total (λ y. 0) ys ≡ 0
unfolding total
zeros [] = refl
zeros (y ∷ ys) = omega (arith, zeros ys)

pub total_swap : {A B : Type 0} (f : A → B → ℕ) (xs : List A) (ys : List B) → total (λ x. total (f x) ys) xs ≡ total (λ y. total (λ x. f x y) xs) ys
unfolding total
total_swap f [] ys = sym (zeros ys)
total_swap f (x ∷ xs) ys = omega (arith, total_swap f xs ys, total_add (f x) (λ y. total (λ z. f z y) xs) ys)

pub total_map : {A B : Type 0} (f : B → ℕ) (g : A → B) (xs : List A) → total f (map g xs) ≡ total (λ x. f (g x)) xs
unfolding total
total_map f g [] = refl
total_map f g (x ∷ xs) = omega (arith, total_map f g xs)

-- ---- prefix sums

pub count_up_snoc : (a k : ℕ) → count_up a (suc k) ≡ count_up a k ++ ((a + k) ∷ [])
unfolding count_up
count_up_snoc a zero = ap (λ (x : ℕ). x ∷ []) (omega arith)
count_up_snoc a (suc k) =
    let e : suc a + k ≡ a + suc k = omega arith in
    ap (λ (l : List ℕ). a ∷ l) (count_up_snoc (suc a) k ∙ ap (λ (x : ℕ). count_up (suc a) k ++ (x ∷ [])) e)

pub total_up_to : (f : ℕ → ℕ) (k : ℕ) → total f (up_to (suc k)) ≡ total f (up_to k) + f k
total_up_to f k =
    let e : 0 + k ≡ k = omega arith in
    ap (total f) (count_up_snoc 0 k) ∙ total_append f (up_to k) ((0 + k) ∷ []) ∙ omega (arith, total_one f (0 + k), ap f e)

-- the elements of a list, one by one by their places
pub total_looked : {A : Type 0} (f : A → ℕ) (l : List A) (d : A) → total (λ i. f (get_or l i d)) (up_to (length l)) ≡ total f l
total_looked f l d =
    sym (total_map f (λ i. get_or l i d) (up_to (length l))) ∙ ap (total f) (sym (entries_counted (λ i. get_or l i d) 0 (length l)) ∙ entries_whole l d)

-- ---- over the members

-- what every member has
pub total_members : (f g : ℕ → ℕ) (xs : List ℕ) → ((x : ℕ) → member x xs ≡ true → f x ≡ g x) → total f xs ≡ total g xs
unfolding total
total_members f g [] h = refl
total_members f g (x ∷ xs) h = omega (arith, h x (member_here x xs), total_members f g xs (λ y m. h y (member_there y x xs m)))

pub total_below : (f g : ℕ → ℕ) (xs : List ℕ) → ((x : ℕ) → member x xs ≡ true → f x ≤ g x) → total f xs ≤ total g xs
unfolding total
total_below f g [] h = omega arith
total_below f g (x ∷ xs) h = omega (arith, h x (member_here x xs), total_below f g xs (λ y m. h y (member_there y x xs m)))

pub total_zero : (f : ℕ → ℕ) (xs : List ℕ) → ((x : ℕ) → member x xs ≡ true → f x ≡ 0) → total f xs ≡ 0
unfolding total
total_zero f [] h = refl
total_zero f (x ∷ xs) h = omega (arith, h x (member_here x xs), total_zero f xs (λ y m. h y (member_there y x xs m)))

-- one entry is at most the sum
pub one_below : (f : ℕ → ℕ) (x : ℕ) (xs : List ℕ) → member x xs ≡ true → f x ≤ total f xs
unfolding total
one_below f x [] h = no_member x h
one_below f x (y ∷ ys) h = member_cases (f x ≤ f y + total f ys) x y ys h (λ e. omega (arith, ap f e)) (λ n m. omega (arith, one_below f x ys m))

-- a sum above zero has an entry above zero
pub some_above : (f : ℕ → ℕ) (xs : List ℕ) → 0 < total f xs → (x : ℕ) × (member x xs ≡ true) × (0 < f x)
unfolding total
some_above f [] h = absurd (omega arith)
some_above f (x ∷ xs) h = go (λ (k : 0 < total f xs). some_above f xs k) (f x) refl
  where
    go : (0 < total f xs → (y : ℕ) × (member y xs ≡ true) × (0 < f y)) → (k : ℕ) → f x ≡ k → (y : ℕ) × (member y (x ∷ xs) ≡ true) × (0 < f y)
    go ih zero e = let r = ih (omega arith) in (r.0, member_there r.0 x xs r.1, r.2)
    go ih (suc k) e = (x, member_here x xs, omega arith)

-- LL1
pub total_parts : (f : ℕ → ℕ) (p : ℕ → Bool) (xs : List ℕ) → total f xs ≡ total f (keep p xs) + total f (keep (λ x. not (p x)) xs)
unfolding total keep
total_parts f p [] = refl
total_parts f p (x ∷ xs) = go (total_parts f p xs) (p x)
  where
    go : total f xs ≡ total f (keep p xs) + total f (keep (λ y. not (p y)) xs) → (b : Bool)
        → f x + total f xs ≡ total f (cons_if b x (keep p xs)) + total f (cons_if (not b) x (keep (λ y. not (p y)) xs))
    go ih true = omega arith
    go ih false = omega arith

-- ---- without one

delete_absent : (f : ℕ → ℕ) (x : ℕ) (ys : List ℕ) → member x ys ≡ false → total f (delete x ys) ≡ total f ys
unfolding delete total keep
delete_absent f x [] h = refl
delete_absent f x (y ∷ ys) h =
    let n : x ≢ y = not_here x y ys h in
    rw (ne_eqb x y n) (ap (λ (t : ℕ). f y + t) (delete_absent f x ys (not_there x y ys h)))

pub total_pick : (f : ℕ → ℕ) (x : ℕ) (ys : List ℕ) → Distinct ys → member x ys ≡ true → total f ys ≡ f x + total f (delete x ys)
unfolding delete total keep
total_pick f x [] d h = no_member x h
total_pick f x (y ∷ ys) d h =
    member_cases (f y + total f ys ≡ f x + total f (cons_if (not (eqb x y)) y (delete x ys))) x y ys h
    (λ e. rw (eq-eqb x y e) (omega (arith, ap f e, delete_absent f x ys (ap (λ (z : ℕ). member z ys) e ∙ d.0))))
    (λ n m. rw (ne_eqb x y n) (omega (arith, total_pick f x ys d.1 m)))

-- LL3
pub total_within : (f : ℕ → ℕ) (xs ys : List ℕ) → Distinct xs → Distinct ys → Within xs ys → total f xs ≤ total f ys
unfolding total
total_within f [] ys d e w = omega arith
total_within f (x ∷ xs) ys d e w =
    let k = total_within f xs (delete x ys) d.1 (distinct_delete x ys e) (λ y h. member_delete x y ys (apart x y xs d.0 h) (w y (member_there y x xs h))) in
    omega (arith, k, total_pick f x ys e (w x (member_here x xs)))

-- LL2
pub total_alike : (f : ℕ → ℕ) (xs ys : List ℕ) → Distinct xs → Distinct ys → Within xs ys → Within ys xs → total f xs ≡ total f ys
total_alike f xs ys d e w v = omega (arith, total_within f xs ys d e w, total_within f ys xs e d v)

-- a sum over 0, 1, .., n - 1: over a list of some of them, and over the others
pub total_rows : {n : ℕ} (f : ℕ → ℕ) (xs : List ℕ) → Distinct xs → ((x : ℕ) → member x xs ≡ true → x < n)
    → total f (up_to n) ≡ total f xs + total f (keep (λ v. not (member v xs)) (up_to n))
total_rows {n} f xs d l =
    total_parts f (λ v. member v xs) (up_to n)
    ∙ ap (λ (x : ℕ). x + total f (keep (λ v. not (member v xs)) (up_to n)))
    (total_alike f (keep (λ v. member v xs) (up_to n)) xs (distinct_keep (λ v. member v xs) (up_to n) (distinct_count_up 0 n)) d
    (λ x m. kept_passes x (λ v. member v xs) (up_to n) m)
    (λ x m. member_kept x (λ v. member v xs) (up_to n) m (member_up_to x n (l x m))))

-- what moves from a to b stays in the sum
pub total_moved : (f g : ℕ → ℕ) (a b : ℕ) (xs : List ℕ) → Distinct xs → member a xs ≡ true → member b xs ≡ true → a ≢ b
    → g a + g b ≡ f a + f b → ((x : ℕ) → x ≢ a → x ≢ b → g x ≡ f x) → total g xs ≡ total f xs
total_moved f g a b xs d ma mb n e h =
    let k = total_members g f (delete b (delete a xs))
    (λ x m. h x (λ q. delete_apart a x xs (delete_was b x (delete a xs) m) (sym q)) (λ q. delete_apart b x (delete a xs) m (sym q))) in
    let m : member b (delete a xs) ≡ true = member_delete a b xs n mb in
    omega (
      arith,
      k,
      total_pick f a xs d ma,
      total_pick g a xs d ma,
      total_pick f b (delete a xs) (distinct_delete a xs d) m,
      total_pick g b (delete a xs) (distinct_delete a xs d) m,
    )

pub total_rotate : (f : ℕ → ℕ) (xs : List ℕ) → total f (rotate xs) ≡ total f xs
unfolding rotate total
total_rotate f [] = refl
total_rotate f (x ∷ xs) = omega (arith, total_append f xs (x ∷ []), total_one f x)

-- each summand is at most b
pub total_most : (f : ℕ → ℕ) (b : ℕ) (xs : List ℕ) → ((x : ℕ) → In x xs → f x ≤ b) → total f xs ≤ length xs * b
unfolding total
total_most f b [] h = omega arith
total_most f b (x ∷ xs) h =
    omega (arith, h x (member_here x xs), total_most f b xs (λ y m. h y (member_there y x xs m)), suc-mul (length xs) b)
