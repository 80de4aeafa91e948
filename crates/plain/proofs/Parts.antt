-- Parts of a list that pass a test, and lists joined.
-- Assumes nothing.
use Prim.Native.Nat.{ℕ, suc, ◌+◌, ◌-◌, ◌<◌}
use native.Mathlib.Nat.{zero-add}
use native.Mathlib.Omega.{arith}
use mathlib.Core.Path.{◌≡◌, refl, sym, ap, ◌∙◌, subst}
use mathlib.Core.Logic.{◌⊎◌, inl, inr}
use mathlib.Core.Bool.{Bool, true, false, ◌&&◌}
use mathlib.Core.List.{List, [], ◌∷◌, ◌++◌, flat_map}
use lib.Dec.{eqb}
use borrow.Author.Tests.{eqb-true, eqb-false, ne_eqb}
use Rattle.plain.proofs.Folds.{flat_map_append, keep_append}
use Rattle.plain.proofs.Members.{member_here, member_there, member_either, apart, no_member, member_nil, not_cons, member_right}
use Rattle.plain.proofs.Sums.{count_up_snoc}
use Rattle.plain.proofs.Entries.{entries_append, entries_cons}
use Rattle.plain.specs.Lists.{member, keep, cons_if, up_to}
use Rattle.plain.specs.Members.{In, Distinct}
use Rattle.plain.specs.Turns.{entries}

pub keep_last : (p : ℕ → Bool) (k : ℕ) → keep p (up_to (suc k)) ≡ keep p (up_to k) ++ cons_if (p k) k []
unfolding keep
keep_last p k = ap (keep p) (count_up_snoc 0 k) ∙ keep_append p (up_to k) ((0 + k) ∷ []) ∙ ap (λ (j : ℕ). keep p (up_to k) ++ cons_if (p j) j []) (zero-add k)

cons_if_keep : (p : ℕ → Bool) (b : Bool) (x : ℕ) (xs : List ℕ) → keep p (cons_if b x xs) ≡ cons_if (p x && b) x (keep p xs)
unfolding keep
cons_if_keep p true x xs = and_true (p x)
  where
    and_true : (c : Bool) → cons_if c x (keep p xs) ≡ cons_if (c && true) x (keep p xs)
    and_true true = refl
    and_true false = refl
cons_if_keep p false x xs = and_false (p x)
  where
    and_false : (c : Bool) → keep p xs ≡ cons_if (c && false) x (keep p xs)
    and_false true = refl
    and_false false = refl

-- a part of a part
pub keep_keep : (p q : ℕ → Bool) (xs : List ℕ) → keep p (keep q xs) ≡ keep (λ x. p x && q x) xs
unfolding keep
keep_keep p q [] = refl
keep_keep p q (x ∷ xs) = cons_if_keep p (q x) x (keep q xs) ∙ ap (cons_if (p x && q x) x) (keep_keep p q xs)

pub keep_none : (p : ℕ → Bool) (xs : List ℕ) → ((x : ℕ) → In x xs → p x ≡ false) → keep p xs ≡ []
unfolding keep
keep_none p [] h = refl
keep_none p (x ∷ xs) h = rw (h x (member_here x xs)) (keep_none p xs (λ y i. h y (member_there y x xs i)))

-- of a list without repeats, the one entry b
pub keep_one : (b : ℕ) (xs : List ℕ) → Distinct xs → In b xs → keep (eqb b) xs ≡ b ∷ []
unfolding keep
keep_one b [] d i = no_member b i
keep_one b (x ∷ xs) d i = by_test (λ j. keep_one b xs d.1 j) (eqb b x) refl
  where
    alone : b ≡ x → keep (eqb b) xs ≡ []
    alone e = keep_none (eqb b) xs (λ y j. ne_eqb b y (λ f. apart x y xs d.0 j (sym e ∙ f)))

    other : eqb b x ≡ false → (b ≡ x) ⊎ In b xs → In b xs
    other e (inl q) = absurd (eqb-false b x e q)
    other e (inr j) = j

    by_test : (In b xs → keep (eqb b) xs ≡ b ∷ []) → (t : Bool) → eqb b x ≡ t → cons_if t x (keep (eqb b) xs) ≡ b ∷ []
    by_test ih true e = let q : b ≡ x = eqb-true b x e in rw (alone q, q)
    by_test ih false e = ih (other e (member_either b x xs i))

pub flat_map_same : (f g : ℕ → List ℕ) (xs : List ℕ) → ((x : ℕ) → In x xs → f x ≡ g x) → flat_map f xs ≡ flat_map g xs
unfolding flat_map
flat_map_same f g [] h = refl
flat_map_same f g (x ∷ xs) h = rw (h x (member_here x xs), flat_map_same f g xs (λ y i. h y (member_there y x xs i)))

pub flat_map_flat_map : (f g : ℕ → List ℕ) (xs : List ℕ) → flat_map f (flat_map g xs) ≡ flat_map (λ x. flat_map f (g x)) xs
unfolding flat_map
flat_map_flat_map f g [] = refl
flat_map_flat_map f g (x ∷ xs) = flat_map_append f (g x) (flat_map g xs) ∙ ap (λ (l : List ℕ). flat_map f (g x) ++ l) (flat_map_flat_map f g xs)

pub flat_map_one : (xs : List ℕ) → flat_map (λ x. x ∷ []) xs ≡ xs
unfolding flat_map
flat_map_one [] = refl
flat_map_one (x ∷ xs) = ap (λ (l : List ℕ). x ∷ l) (flat_map_one xs)

-- what stands in the middle of a list without repeats does not stand before
pub middle_new : (xs : List ℕ) (v : ℕ) (ys : List ℕ) → Distinct (xs ++ (v ∷ ys)) → member v xs ≡ false
middle_new [] v ys d = member_nil v
middle_new (x ∷ xs) v ys d =
    not_cons v x xs (λ e. apart x v (xs ++ (v ∷ ys)) d.0 (member_right v xs (v ∷ ys) (member_here v ys)) (sym e)) (middle_new xs v ys d.1)

-- an entry of a list without repeats does not stand before its place
pub entries_once : (F : ℕ → ℕ) (p k t : ℕ) → t < k → Distinct (entries F p k) → member (F (p + t)) (entries F p t) ≡ false
entries_once F p k t b d =
    let e : t + suc (k - suc t) ≡ k = omega arith in
    let w : entries F p k ≡ entries F p t ++ (F (p + t) ∷ entries F (suc (p + t)) (k - suc t)) =
    ap (entries F p) (sym e) ∙ entries_append F p t (suc (k - suc t)) ∙ ap (λ (y : List ℕ). entries F p t ++ y) (entries_cons F (p + t) (k - suc t)) in
    middle_new (entries F p t) (F (p + t)) (entries F (suc (p + t)) (k - suc t)) (subst Distinct w d)
