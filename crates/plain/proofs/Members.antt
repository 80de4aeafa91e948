-- Who stands in a list: of the parts of a list, and back.
-- Assumes nothing.
use Prim.Native.Nat.{ℕ, ◌+◌, ◌≤◌, zero, suc, ◌<◌}
use native.Mathlib.Omega.{arith}
use mathlib.Core.Path.{◌≡◌, refl, sym, ap, ◌∙◌}
use mathlib.Core.Logic.{◌≢◌, ◌⊎◌, inl, inr}
use mathlib.Core.Bool.{true, false, false≢true, Bool, ◌||◌, not, ◌&&◌}
use mathlib.Core.List.{[], List, ◌∷◌, ◌++◌, reverse, reverse_aux, flat_map, map}
use lib.Dec.{eqb}
use borrow.Author.Tests.{eq-eqb, eqb-true, eqb-false, ne_eqb}
use Rattle.plain.proofs.Logic.{and_no, or_right, either, clash, or_left, or_cases, and_left, and_right, not_back, or_elim}
use Rattle.plain.specs.Lists.{member, keep, cons_if, delete, rotate, count_up, up_to, is_empty, every}
use Rattle.plain.specs.Members.{In, Within}

pub no_member : {P : Type 0} (x : ℕ) → member x [] ≡ true → P
unfolding member
no_member x e = absurd (false≢true e)

pub member_nil : (x : ℕ) → member x [] ≡ false
unfolding member
member_nil x = refl

pub member_first : (x y : ℕ) (ys : List ℕ) → x ≡ y → member x (y ∷ ys) ≡ true
unfolding member
member_first x y ys e = rw (eq-eqb x y e)

pub member_here : (x : ℕ) (xs : List ℕ) → member x (x ∷ xs) ≡ true
unfolding member
member_here x xs = rw (eq-eqb x x refl)

pub member_there : (x y : ℕ) (ys : List ℕ) → member x ys ≡ true → member x (y ∷ ys) ≡ true
unfolding member
member_there x y ys h = or_right (eqb x y) (member x ys) h

pub member_cases : (P : Type 0) (x y : ℕ) (ys : List ℕ) → member x (y ∷ ys) ≡ true → (x ≡ y → P) → (x ≢ y → member x ys ≡ true → P) → P
unfolding member
member_cases P x y ys h f g = either P (eqb x y) (λ e. f (eqb-true x y e)) (λ e. g (eqb-false x y e) (down (eqb x y) e h))
  where
    down : (b : Bool) → b ≡ false → b || member x ys ≡ true → member x ys ≡ true
    down true e k = absurd (false≢true (sym e))
    down false e k = k

pub member_either : (x y : ℕ) (ys : List ℕ) → In x (y ∷ ys) → (x ≡ y) ⊎ In x ys
member_either x y ys h = member_cases ((x ≡ y) ⊎ In x ys) x y ys h (λ e. inl e) (λ n m. inr m)

pub not_here : (x y : ℕ) (ys : List ℕ) → member x (y ∷ ys) ≡ false → x ≢ y
unfolding member
not_here x y ys h e = clash (eqb x y || member x ys) (or_left (eqb x y) (member x ys) (eq-eqb x y e)) h

pub not_there : (x y : ℕ) (ys : List ℕ) → member x (y ∷ ys) ≡ false → member x ys ≡ false
unfolding member
not_there x y ys h = go (eqb x y) h
  where
    go : (b : Bool) → b || member x ys ≡ false → member x ys ≡ false
    go true k = absurd (false≢true (sym k))
    go false k = k

pub not_cons : (x y : ℕ) (ys : List ℕ) → x ≢ y → member x ys ≡ false → member x (y ∷ ys) ≡ false
unfolding member
not_cons x y ys n h = rw (ne_eqb x y n) h

pub not_in : (x : ℕ) (xs : List ℕ) → (In x xs → ⊥) → member x xs ≡ false
not_in x xs h = either (member x xs ≡ false) (member x xs) (λ e. absurd (h e)) (λ e. e)

-- two numbers, one in the list and one not
pub apart : (x y : ℕ) (xs : List ℕ) → member x xs ≡ false → member y xs ≡ true → x ≢ y
apart x y xs h k e = false≢true (sym h ∙ ap (λ (z : ℕ). member z xs) e ∙ k)

-- ---- two lists in a row

pub member_append : (x : ℕ) (xs ys : List ℕ) → member x (xs ++ ys) ≡ member x xs || member x ys
unfolding member
member_append x [] ys = refl
member_append x (z ∷ zs) ys = rw (member_append x zs ys) (assoc (eqb x z) (member x zs) (member x ys))
  where
    assoc : (a b c : Bool) → a || (b || c) ≡ (a || b) || c
    assoc true b c = refl
    assoc false b c = refl

pub member_left : (x : ℕ) (xs ys : List ℕ) → In x xs → In x (xs ++ ys)
member_left x xs ys h = member_append x xs ys ∙ or_left (member x xs) (member x ys) h

pub member_right : (x : ℕ) (xs ys : List ℕ) → In x ys → In x (xs ++ ys)
member_right x xs ys h = member_append x xs ys ∙ or_right (member x xs) (member x ys) h

pub append_either : (x : ℕ) (xs ys : List ℕ) → In x (xs ++ ys) → In x xs ⊎ In x ys
append_either x xs ys h =
    or_cases (In x xs ⊎ In x ys) (member x xs) (member x ys) (sym (member_append x xs ys) ∙ h) (λ k. inl k) (λ k. inr k)

-- ---- what is kept

pub member_keep : (x : ℕ) (p : ℕ → Bool) (xs : List ℕ) → member x (keep p xs) ≡ p x && member x xs
unfolding keep member
member_keep x p [] = rw (member_nil x) (sym (and_no (p x)))
member_keep x p (z ∷ zs) = go (p z) refl (member_keep x p zs)
  where
    swap : (a b c : Bool) → b ≡ a && c → (t : Bool) → (t ≡ true → a ≡ true) → t || b ≡ a && (t || c)
    swap true b c h t k = rw h
    swap false b c h true k = absurd (false≢true (k refl))
    swap false b c h false k = h

    go : (b : Bool) → p z ≡ b → member x (keep p zs) ≡ p x && member x zs → member x (cons_if b z (keep p zs)) ≡ p x && member x (z ∷ zs)
    go true e ih = swap (p x) (member x (keep p zs)) (member x zs) ih (eqb x z) (λ q. ap p (eqb-true x z q) ∙ e)
    go false e ih = either (member x (keep p zs) ≡ p x && member x (z ∷ zs)) (eqb x z)
        (λ q. rw (ih, ap p (eqb-true x z q) ∙ e))
        (λ q. rw (ih, q))

pub member_kept : (x : ℕ) (p : ℕ → Bool) (xs : List ℕ) → p x ≡ true → member x xs ≡ true → member x (keep p xs) ≡ true
member_kept x p xs h k = rw (member_keep x p xs, h) k

pub kept_passes : (x : ℕ) (p : ℕ → Bool) (xs : List ℕ) → member x (keep p xs) ≡ true → p x ≡ true
kept_passes x p xs h = and_left (p x) (member x xs) (sym (member_keep x p xs) ∙ h)

pub kept_was : (x : ℕ) (p : ℕ → Bool) (xs : List ℕ) → member x (keep p xs) ≡ true → member x xs ≡ true
kept_was x p xs h = and_right (p x) (member x xs) (sym (member_keep x p xs) ∙ h)

pub kept_both : (x : ℕ) (p : ℕ → Bool) (xs : List ℕ) → In x (keep p xs) → (p x ≡ true) × In x xs
kept_both x p xs h = (kept_passes x p xs h, kept_was x p xs h)

pub not_kept : (x : ℕ) (p : ℕ → Bool) (xs : List ℕ) → member x xs ≡ false → member x (keep p xs) ≡ false
not_kept x p xs h = rw (member_keep x p xs, h) (and_no (p x))

pub not_kept_at : (x : ℕ) (p : ℕ → Bool) (xs : List ℕ) → p x ≡ false → member x (keep p xs) ≡ false
not_kept_at x p xs h = rw (member_keep x p xs, h)

-- tests that agree on the list
pub keep_same : (p q : ℕ → Bool) (xs : List ℕ) → ((x : ℕ) → In x xs → p x ≡ q x) → keep p xs ≡ keep q xs
unfolding keep
keep_same p q [] h = refl
keep_same p q (x ∷ xs) h = rw (h x (member_here x xs), keep_same p q xs (λ y m. h y (member_there y x xs m)))

pub keep_every : (p : ℕ → Bool) (xs : List ℕ) → ((x : ℕ) → In x xs → p x ≡ true) → keep p xs ≡ xs
unfolding keep
keep_every p [] h = refl
keep_every p (x ∷ xs) h = rw (h x (member_here x xs), keep_every p xs (λ y m. h y (member_there y x xs m)))

pub member_delete : (x y : ℕ) (ys : List ℕ) → x ≢ y → member y ys ≡ true → member y (delete x ys) ≡ true
unfolding delete
member_delete x y ys n h = member_kept y (λ z. not (eqb x z)) ys (rw (ne_eqb x y n)) h

pub delete_was : (x y : ℕ) (ys : List ℕ) → member y (delete x ys) ≡ true → member y ys ≡ true
unfolding delete
delete_was x y ys h = kept_was y (λ z. not (eqb x z)) ys h

pub delete_apart : (x y : ℕ) (ys : List ℕ) → member y (delete x ys) ≡ true → x ≢ y
unfolding delete
delete_apart x y ys h = eqb-false x y (not_back (eqb x y) (kept_passes y (λ z. not (eqb x z)) ys h))

pub delete_nil : (x : ℕ) → delete x [] ≡ []
unfolding delete keep
delete_nil x = refl

pub delete_here : (x y : ℕ) (ys : List ℕ) → y ≡ x → delete x (y ∷ ys) ≡ delete x ys
unfolding delete keep
delete_here x y ys e = rw (eq-eqb x y (sym e))

pub delete_there : (x y : ℕ) (ys : List ℕ) → y ≢ x → delete x (y ∷ ys) ≡ y ∷ delete x ys
unfolding delete keep
delete_there x y ys n = rw (ne_eqb x y (λ e. n (sym e)))

pub delete_fresh : (x : ℕ) (ys : List ℕ) → member x ys ≡ false → delete x ys ≡ ys
unfolding delete
delete_fresh x ys h = keep_every (λ z. not (eqb x z)) ys (λ z m. rw (ne_eqb x z (apart x z ys h m)))

pub delete_gone : (x : ℕ) (ys : List ℕ) → member x (delete x ys) ≡ false
unfolding delete
delete_gone x ys = not_kept_at x (λ z. not (eqb x z)) ys (rw (eq-eqb x x refl))

-- ---- in another order

pub member_rotate : (x : ℕ) (xs : List ℕ) → member x (rotate xs) ≡ member x xs
unfolding rotate member
member_rotate x [] = refl
member_rotate x (z ∷ zs) = member_append x zs (z ∷ []) ∙ swap (eqb x z) (member x zs)
  where
    swap : (a b : Bool) → b || (a || false) ≡ a || b
    swap true true = refl
    swap true false = refl
    swap false true = refl
    swap false false = refl

member_reverse_aux : (x : ℕ) (xs ys : List ℕ) → member x (reverse_aux xs ys) ≡ member x xs || member x ys
unfolding member
member_reverse_aux x [] ys = refl
member_reverse_aux x (z ∷ zs) ys = member_reverse_aux x zs (z ∷ ys) ∙ swap (eqb x z) (member x zs) (member x ys)
  where
    swap : (a b c : Bool) → b || (a || c) ≡ (a || b) || c
    swap true true c = refl
    swap true false c = refl
    swap false b c = refl

pub member_reverse : (x : ℕ) (xs : List ℕ) → member x (reverse xs) ≡ member x xs
unfolding member
member_reverse x xs = member_reverse_aux x xs [] ∙ back (member x xs)
  where
    back : (b : Bool) → b || member x [] ≡ b
    back true = refl
    back false = refl

-- ---- lists of each element of a list

-- a member of a joined list is in one of its parts
pub member_flat_map : (x : ℕ) (f : ℕ → List ℕ) (es : List ℕ) → member x (flat_map f es) ≡ true → (e : ℕ) × (member e es ≡ true) × (member x (f e) ≡ true)
unfolding flat_map
member_flat_map x f [] h = no_member x h
member_flat_map x f (z ∷ zs) h = go (λ (k : member x (flat_map f zs) ≡ true). member_flat_map x f zs k) (member x (f z)) refl (sym (member_append x (f z) (flat_map f zs)) ∙ h)
  where
    go : (member x (flat_map f zs) ≡ true → (e : ℕ) × (member e zs ≡ true) × (member x (f e) ≡ true)) → (b : Bool) → member x (f z) ≡ b → b || member x (flat_map f zs) ≡ true
        → (e : ℕ) × (member e (z ∷ zs) ≡ true) × (member x (f e) ≡ true)
    go ih true q k = (z, member_here z zs, q)
    go ih false q k = let r = ih k in (r.0, member_there r.0 z zs r.1, r.2)

pub member_joined : (x e : ℕ) (f : ℕ → List ℕ) (es : List ℕ) → member e es ≡ true → member x (f e) ≡ true → member x (flat_map f es) ≡ true
unfolding flat_map
member_joined x e f [] h k = no_member e h
member_joined x e f (z ∷ zs) h k =
    member_append x (f z) (flat_map f zs)
    ∙ member_cases (member x (f z) || member x (flat_map f zs) ≡ true) e z zs h
    (λ q. or_left (member x (f z)) (member x (flat_map f zs)) (ap (λ (y : ℕ). member x (f y)) (sym q) ∙ k))
    (λ n m. or_right (member x (f z)) (member x (flat_map f zs)) (member_joined x e f zs m k))

pub member_map : (f : ℕ → ℕ) (x : ℕ) (xs : List ℕ) → In x xs → In (f x) (map f xs)
member_map f x [] h = no_member x h
member_map f x (z ∷ zs) h = or_elim (In (f x) (f z ∷ map f zs)) (member_either x z zs h) (λ e. member_first (f x) (f z) (map f zs) (ap f e)) (λ m. member_there (f x) (f z) (map f zs) (member_map f x zs m))

pub map_was : (f : ℕ → ℕ) (y : ℕ) (xs : List ℕ) → In y (map f xs) → (x : ℕ) × In x xs × (y ≡ f x)
map_was f y [] h = no_member y h
map_was f y (z ∷ zs) h =
    or_elim _ (member_either y (f z) (map f zs) h) (λ e. (z, member_first z z zs refl, e))
    (λ m. let r = map_was f y zs m in (r.0, member_there r.0 z zs r.1, r.2))

-- ---- a, a + 1, and so on

pub member_above : (x a k : ℕ) → member x (count_up a k) ≡ true → a ≤ x
unfolding count_up
member_above x a zero h = no_member x h
member_above x a (suc k) h = member_cases (a ≤ x) x a (count_up (suc a) k) h (λ e. omega arith) (λ n m. omega (arith, member_above x (suc a) k m))

pub member_below : (x a k : ℕ) → member x (count_up a k) ≡ true → x < a + k
unfolding count_up
member_below x a zero h = no_member x h
member_below x a (suc k) h = member_cases (x < a + suc k) x a (count_up (suc a) k) h (λ e. omega arith) (λ ne m. omega (arith, member_below x (suc a) k m))

pub member_count_up : (x a k : ℕ) → a ≤ x → x < a + k → member x (count_up a k) ≡ true
unfolding count_up
member_count_up x a zero l m = absurd (omega arith)
member_count_up x a (suc k) l m = either (member x (a ∷ count_up (suc a) k) ≡ true) (eqb x a)
    (λ e. rw (eqb-true x a e) (member_here a (count_up (suc a) k)))
    (λ e. let n : x ≢ a = eqb-false x a e in member_there x a (count_up (suc a) k) (member_count_up x (suc a) k (omega arith) (omega arith)))

pub member_up_to : (x n : ℕ) → x < n → In x (up_to n)
member_up_to x n h = member_count_up x 0 n (omega arith) (omega arith)

pub up_to_below : (x n : ℕ) → In x (up_to n) → x < n
up_to_below x n h = omega (arith, member_below x 0 n h)

-- ---- a list that has no member, and tests of every member

pub empty_if : (xs : List ℕ) → is_empty xs ≡ true → xs ≡ []
unfolding is_empty
empty_if [] h = refl
empty_if (x ∷ xs) h = absurd (false≢true h)

pub none_of : (xs : List ℕ) (x : ℕ) → is_empty xs ≡ true → member x xs ≡ false
none_of xs x h = rw (empty_if xs h) (member_nil x)

pub every_within : (xs ys : List ℕ) → every (λ x. member x ys) xs ≡ true → Within xs ys
unfolding every
every_within [] ys h x k = no_member x k
every_within (z ∷ zs) ys h x k =
    member_cases (member x ys ≡ true) x z zs k
    (λ e. rw e (and_left (member z ys) (every (λ x. member x ys) zs) h))
    (λ n m. every_within zs ys (and_right (member z ys) (every (λ x. member x ys) zs) h) x m)

pub within_tail : (z : ℕ) (zs ys : List ℕ) → Within (z ∷ zs) ys → Within zs ys
within_tail z zs ys w x h = w x (member_there x z zs h)

pub within_every : (xs ys : List ℕ) → Within xs ys → every (λ x. member x ys) xs ≡ true
unfolding every
within_every [] ys w = refl
within_every (z ∷ zs) ys w = rw (w z (member_here z zs), within_every zs ys (within_tail z zs ys w))

-- ---- with one element more

pub member_last : (x : ℕ) (xs : List ℕ) → member x (xs ++ (x ∷ [])) ≡ true
member_last x xs = member_right x xs (x ∷ []) (member_here x [])

pub member_snoc : (y x : ℕ) (xs : List ℕ) → y ≢ x → member y (xs ++ (x ∷ [])) ≡ member y xs
member_snoc y x xs ne = member_append y xs (x ∷ []) ∙ ap (λ (b : Bool). member y xs || b) (not_cons y x [] ne (member_nil y)) ∙ or_false (member y xs)
  where
    or_false : (b : Bool) → b || false ≡ b
    or_false true = refl
    or_false false = refl
