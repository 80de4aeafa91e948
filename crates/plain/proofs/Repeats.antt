-- Lists without repeats, and their lengths: LL4, LL5, LL6 of the proof plan.
-- Assumes nothing.
use Prim.Native.Nat.{ℕ, zero, suc, ◌≤◌, ◌<◌, ◌+◌}
use native.Mathlib.Omega.{arith}
use mathlib.Core.Path.{◌≡◌, ap, sym, ◌∙◌, refl}
use mathlib.Core.Logic.{◌≢◌}
use mathlib.Core.Bool.{false, Bool, true, not, ◌&&◌}
use mathlib.Core.List.{List, [], ◌∷◌, ◌++◌, map, reverse, reverse_aux}
use lib.Dec.{eqb, ltb}
use lib.ListN.{drop, length, length-append}
use borrow.Author.Tests.{eq-eqb, lt-ltb}
use Rattle.plain.proofs.Logic.{either, and_left, and_right, and_both, bool_ext}
use Rattle.plain.proofs.Members.{member_above, not_in, map_was, not_kept, member_nil, not_here, member_append, not_cons, not_there, member_here, apart, member_there, no_member, member_cases, member_delete, member_up_to, every_within, within_every}
use Rattle.plain.specs.Lists.{count_up, member, cons_if, keep, rotate, delete, up_to, same_members, every, is_empty}
use Rattle.plain.specs.Members.{Distinct, In, Within}

pub distinct_count_up : (a k : ℕ) → Distinct (count_up a k)
unfolding count_up
distinct_count_up a zero = tt
distinct_count_up a (suc k) = (either (member a (count_up (suc a) k) ≡ false) (member a (count_up (suc a) k)) (λ e. absurd (omega (arith, member_above a (suc a) k e))) (λ e. e), distinct_count_up (suc a) k)

pub distinct_cons_if : (b : Bool) (x : ℕ) (xs : List ℕ) → member x xs ≡ false → Distinct xs → Distinct (cons_if b x xs)
distinct_cons_if true x xs h d = (h, d)
distinct_cons_if false x xs h d = d

pub distinct_keep : (p : ℕ → Bool) (xs : List ℕ) → Distinct xs → Distinct (keep p xs)
unfolding keep
distinct_keep p [] d = tt
distinct_keep p (x ∷ xs) d = distinct_cons_if (p x) x (keep p xs) (not_kept x p xs d.0) (distinct_keep p xs d.1)

pub distinct_snoc : (x : ℕ) (xs : List ℕ) → Distinct xs → member x xs ≡ false → Distinct (xs ++ (x ∷ []))
distinct_snoc x [] d h = (member_nil x, tt)
distinct_snoc x (z ∷ zs) d h =
    let n : x ≢ z = not_here x z zs h in
    (rw (member_append z zs (x ∷ []), d.0) (not_cons z x [] (λ e. n (sym e)) (member_nil z)), distinct_snoc x zs d.1 (not_there x z zs h))

pub distinct_rotate : (xs : List ℕ) → Distinct xs → Distinct (rotate xs)
unfolding rotate
distinct_rotate [] d = tt
distinct_rotate (x ∷ xs) d = distinct_snoc x xs d.1 d.0

distinct_reverse_aux : (xs ys : List ℕ) → Distinct xs → Distinct ys → ((x : ℕ) → member x xs ≡ true → member x ys ≡ false) → Distinct (reverse_aux xs ys)
distinct_reverse_aux [] ys d e h = e
distinct_reverse_aux (x ∷ xs) ys d e h =
    distinct_reverse_aux xs (x ∷ ys) d.1 (h x (member_here x xs), e)
    (λ y m. not_cons y x ys (λ q. apart x y xs d.0 m (sym q)) (h y (member_there y x xs m)))

pub distinct_reverse : (xs : List ℕ) → Distinct xs → Distinct (reverse xs)
distinct_reverse xs d = distinct_reverse_aux xs [] d tt (λ x m. member_nil x)

pub distinct_append : (xs ys : List ℕ) → Distinct xs → Distinct ys → ((x : ℕ) → member x xs ≡ true → member x ys ≡ false) → Distinct (xs ++ ys)
distinct_append [] ys d e h = e
distinct_append (x ∷ xs) ys d e h =
    (rw (member_append x xs ys, d.0) (h x (member_here x xs)), distinct_append xs ys d.1 e (λ y m. h y (member_there y x xs m)))

pub distinct_delete : (x : ℕ) (ys : List ℕ) → Distinct ys → Distinct (delete x ys)
unfolding delete
distinct_delete x ys d = distinct_keep (λ z. not (eqb x z)) ys d

pub distinct_drop : (l : List ℕ) (j : ℕ) → Distinct l → Distinct (drop j l)
distinct_drop [] zero d = tt
distinct_drop [] (suc j) d = tt
distinct_drop (x ∷ l) zero d = d
distinct_drop (x ∷ l) (suc j) d = distinct_drop l j d.1

-- ---- lengths

-- LL6: a list that loses one is shorter

-- where equal values come of equal numbers
pub distinct_map : (f : ℕ → ℕ) (xs : List ℕ) → Distinct xs → ((x y : ℕ) → In x xs → In y xs → f x ≡ f y → x ≡ y) → Distinct (map f xs)
distinct_map f [] d h = tt
distinct_map f (x ∷ xs) d h = (
  not_in (f x) (map f xs) (λ m. let r = map_was f (f x) xs m in apart x r.0 xs d.0 r.1 (h x r.0 (member_here x xs) (member_there r.0 x xs r.1) r.2)),
  distinct_map f xs d.1 (λ y z my mz e. h y z (member_there y x xs my) (member_there z x xs mz) e),
)

pub length_keep : (p : ℕ → Bool) (xs : List ℕ) → length (keep p xs) ≤ length xs
unfolding keep
length_keep p [] = omega arith
length_keep p (x ∷ xs) = go (length_keep p xs) (p x)
  where
    go : length (keep p xs) ≤ length xs → (b : Bool) → length (cons_if b x (keep p xs)) ≤ suc (length xs)
    go ih true = omega arith
    go ih false = omega arith

pub length_dropped : (p : ℕ → Bool) (xs : List ℕ) (y : ℕ) → member y xs ≡ true → p y ≡ false → length (keep p xs) < length xs
unfolding keep
length_dropped p [] y h k = no_member y h
length_dropped p (x ∷ xs) y h k =
    member_cases (length (cons_if (p x) x (keep p xs)) < suc (length xs)) y x xs h
    (λ e. rw (ap p (sym e) ∙ k) (omega (arith, length_keep p xs)))
    (λ n m. go (p x) (length_dropped p xs y m k))
  where
    go : (b : Bool) → length (keep p xs) < length xs → length (cons_if b x (keep p xs)) < suc (length xs)
    go true l = omega arith
    go false l = omega arith

pub length_rotate : (xs : List ℕ) → length (rotate xs) ≡ length xs
unfolding rotate
length_rotate [] = refl
length_rotate (x ∷ xs) = omega (arith, length-append xs (x ∷ []))

pub length_count_up : (a k : ℕ) → length (count_up a k) ≡ k
unfolding count_up
length_count_up a zero = refl
length_count_up a (suc k) = ap suc (length_count_up (suc a) k)

length_delete : (x : ℕ) (ys : List ℕ) → In x ys → length (delete x ys) < length ys
unfolding delete
length_delete x ys h = length_dropped (λ y. not (eqb x y)) ys x h (rw (eq-eqb x x refl))

pub length_within : (xs ys : List ℕ) → Distinct xs → Within xs ys → length xs ≤ length ys
length_within [] ys d w = omega arith
length_within (x ∷ xs) ys d w =
    let k = length_within xs (delete x ys) d.1 (λ y h. member_delete x y ys (apart x y xs d.0 h) (w y (member_there y x xs h))) in
    omega (arith, k, length_delete x ys (w x (member_here x xs)))

-- LL5

-- a list without repeats whose entries are all in a list that is no longer has all of that list's entries
pub within_back : (xs ys : List ℕ) → Distinct xs → length xs ≡ length ys → Within xs ys → Within ys xs
within_back xs ys d l w y h = either (member y xs ≡ true) (member y xs) (λ e. e) (λ e. absurd (none_left e))
  where
    none_left : member y xs ≡ false → ⊥
    none_left e =
        let k = length_within xs (delete y ys) d (λ x m. member_delete y x ys (apart y x xs e m) (w x m)) in
        omega (arith, k, length_delete y ys h)

pub length_same : (xs ys : List ℕ) → Distinct xs → Distinct ys → Within xs ys → Within ys xs → length xs ≡ length ys
length_same xs ys d e w v = omega (arith, length_within xs ys d w, length_within ys xs e v)

-- LL4: numbers below n
pub length_below : (n : ℕ) (xs : List ℕ) → Distinct xs → ((x : ℕ) → In x xs → x < n) → length xs ≤ n
length_below n xs d h = omega (arith, length_within xs (up_to n) d (λ x m. member_up_to x n (h x m)), length_count_up 0 n)

-- LL4: and one of them missing
pub length_missing : (n : ℕ) (xs : List ℕ) (y : ℕ) → Distinct xs → ((x : ℕ) → In x xs → x < n) → y < n → member y xs ≡ false → length xs < n
length_missing n xs y d h l m =
    omega (arith, length_within (y ∷ xs) (up_to n) (m, d) (λ x k. member_cases (In x (up_to n)) x y xs k (λ e. member_up_to x n (omega arith)) (λ ne q. member_up_to x n (h x q))), length_count_up 0 n)

-- ---- the same numbers, in any order

pub same_within : (xs ys : List ℕ) → same_members xs ys ≡ true → Within xs ys × Within ys xs
unfolding same_members
same_within xs ys h = (
  every_within xs ys (and_left (every (λ x. member x ys) xs) (every (λ y. member y xs) ys) h),
  every_within ys xs (and_right (every (λ x. member x ys) xs) (every (λ y. member y xs) ys) h),
)

pub within_same : (xs ys : List ℕ) → Within xs ys → Within ys xs → same_members xs ys ≡ true
unfolding same_members
within_same xs ys w v = and_both (every (λ x. member x ys) xs) (every (λ y. member y xs) ys) (within_every xs ys w) (within_every ys xs v)

-- of a list without repeats, and one as long, half of the test is enough
pub same_by_half : (xs ys : List ℕ) → Distinct xs → length xs ≡ length ys → every (λ x. member x ys) xs ≡ same_members xs ys
same_by_half xs ys d l =
    bool_ext (every (λ x. member x ys) xs) (same_members xs ys)
    (λ h. let w = every_within xs ys h in within_same xs ys w (within_back xs ys d l w)) (λ h. within_every xs ys (same_within xs ys h).0)

-- nothing stands in either
pub some_length : (xs ys : List ℕ) → ltb 0 (length xs + length ys) ≡ not (is_empty xs && is_empty ys)
unfolding is_empty
some_length [] [] = refl
some_length [] (y ∷ ys) = lt-ltb 0 (0 + suc (length ys)) (omega arith)
some_length (x ∷ xs) ys = lt-ltb 0 (suc (length xs) + length ys) (omega arith)
