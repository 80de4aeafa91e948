-- First occurrences: LL8 of the proof plan.
-- Assumes nothing.
use Prim.Native.Nat.{ℕ, suc, ◌≤◌}
use native.Mathlib.Omega.{arith}
use mathlib.Core.Path.{◌≡◌, refl, sym, ap, ◌∙◌}
use mathlib.Core.Bool.{Bool, true, false, not, cond, ◌&&◌, ◌||◌}
use mathlib.Core.List.{List, [], ◌∷◌, ◌++◌, foldl, append-nil, append_assoc}
use lib.Dec.{eqb}
use lib.ListN.{length}
use borrow.Author.Tests.{eqb-true, eq-eqb, ne_eqb}
use Rattle.plain.specs.Lists.{member, cons_if}
use Rattle.plain.specs.Members.{In, Distinct}
use Rattle.plain.specs.Turns.{firsts}
use Rattle.plain.proofs.Logic.{either, clash, and_left, and_right, and_both, not_back, none_if, eqb_comm}
use Rattle.plain.proofs.Members.{no_member, member_here, member_there, member_cases, member_append}
use Rattle.plain.proofs.Repeats.{distinct_cons_if}

-- the test, once x is taken
abbrev behind : (ℕ → Bool) → ℕ → ℕ → Bool
behind p x y = p y && not (eqb x y)

pub firsts_was : (p : ℕ → Bool) (xs : List ℕ) (y : ℕ) → In y (firsts p xs) → (p y ≡ true) × In y xs
unfolding firsts
firsts_was p [] y h = no_member y h
firsts_was p (x ∷ xs) y h =
    go (λ (k : In y (firsts (behind p x) xs)).
    let r = firsts_was (behind p x) xs y k in
    (and_left (p y) (not (eqb x y)) r.0, member_there y x xs r.1)) (p x) refl h
  where
    go : (In y (firsts (behind p x) xs) → (p y ≡ true) × In y (x ∷ xs)) → (b : Bool) → p x ≡ b → In y (cons_if b x (firsts (behind p x) xs))
        → (p y ≡ true) × In y (x ∷ xs)
    go later true e k =
        member_cases ((p y ≡ true) × In y (x ∷ xs)) y x (firsts (behind p x) xs) k (λ q. (ap p q ∙ e, rw q (member_here x xs))) (λ n m. later m)
    go later false e k = later k

pub firsts_has : (p : ℕ → Bool) (xs : List ℕ) (y : ℕ) → p y ≡ true → In y xs → In y (firsts p xs)
unfolding firsts
firsts_has p [] y h k = no_member y k
firsts_has p (x ∷ xs) y h k =
    member_cases (In y (cons_if (p x) x (firsts (behind p x) xs))) y x xs k here
    (λ n m. kept (p x) (firsts_has (behind p x) xs y (and_both (p y) (not (eqb x y)) h (rw (ne_eqb x y (λ e. n (sym e))))) m))
  where
    here : y ≡ x → In y (cons_if (p x) x (firsts (behind p x) xs))
    here e = rw (ap p (sym e) ∙ h, e) (member_here x (firsts (behind p x) xs))

    kept : (b : Bool) → In y (firsts (behind p x) xs) → In y (cons_if b x (firsts (behind p x) xs))
    kept true m = member_there y x (firsts (behind p x) xs) m
    kept false m = m

pub distinct_firsts : (p : ℕ → Bool) (xs : List ℕ) → Distinct (firsts p xs)
unfolding firsts
distinct_firsts p [] = tt
distinct_firsts p (x ∷ xs) =
    distinct_cons_if (p x) x (firsts (behind p x) xs)
    (none_if (member x (firsts (behind p x) xs))
    (λ h. clash (eqb x x) (eq-eqb x x refl) (not_back (eqb x x) (and_right (p x) (not (eqb x x)) (firsts_was (behind p x) xs x h).0))))
    (distinct_firsts (behind p x) xs)

pub length_firsts : (p : ℕ → Bool) (xs : List ℕ) → length (firsts p xs) ≤ length xs
unfolding firsts
length_firsts p [] = omega arith
length_firsts p (x ∷ xs) = go (p x) (length_firsts (behind p x) xs)
  where
    go : (b : Bool) → length (firsts (behind p x) xs) ≤ length xs → length (cons_if b x (firsts (behind p x) xs)) ≤ suc (length xs)
    go true h = omega arith
    go false h = omega arith

-- ---- tests that agree on the list

pub firsts_same : (p q : ℕ → Bool) (xs : List ℕ) → ((x : ℕ) → In x xs → p x ≡ q x) → firsts p xs ≡ firsts q xs
unfolding firsts
firsts_same p q [] h = refl
firsts_same p q (x ∷ xs) h =
    rw (h x (member_here x xs), firsts_same (behind p x) (behind q x) xs (λ y m. ap (λ (b : Bool). b && not (eqb x y)) (h y (member_there y x xs m))))

-- ---- as a loop finds them: each number that passes and is not there yet goes to the end

abbrev pub gather_one : (ℕ → Bool) → List ℕ → ℕ → List ℕ
gather_one p new x = cond (p x && not (member x new)) (new ++ (x ∷ [])) new

abbrev fresh : (ℕ → Bool) → List ℕ → ℕ → Bool
fresh p new x = p x && not (member x new)

-- x taken, or x not among those that pass
fresh_taken : (p : ℕ → Bool) (new : List ℕ) (x y : ℕ) → fresh p (new ++ (x ∷ [])) y ≡ behind (fresh p new) x y
unfolding member
fresh_taken p new x y = rw (member_append y new (x ∷ []), eqb_comm y x) (go (p y) (member y new) (eqb x y))
  where
    go : (a b c : Bool) → a && not (b || (c || false)) ≡ a && not b && not c
    go true true c = refl
    go true false true = refl
    go true false false = refl
    go false b c = refl

fresh_left : (q : ℕ → Bool) (x y : ℕ) → q x ≡ false → q y ≡ behind q x y
fresh_left q x y h =
    either (q y ≡ behind q x y) (eqb x y) (λ e. rw (ap q (sym (eqb-true x y e)) ∙ h)) (λ e. rw e (at_true (q y)))
  where
    at_true : (b : Bool) → b ≡ b && true
    at_true true = refl
    at_true false = refl

pub gathered : (p : ℕ → Bool) (xs new : List ℕ) → foldl (gather_one p) new xs ≡ new ++ firsts (fresh p new) xs
unfolding firsts
gathered p [] new = sym (append-nil new)
gathered p (x ∷ xs) new = go (fresh p new x) refl (λ l. gathered p xs l)
  where
    go : (b : Bool) → fresh p new x ≡ b → ((l : List ℕ) → foldl (gather_one p) l xs ≡ l ++ firsts (fresh p l) xs)
        → foldl (gather_one p) (cond b (new ++ (x ∷ [])) new) xs ≡ new ++ cons_if b x (firsts (behind (fresh p new) x) xs)
    go true e ih =
        ih (new ++ (x ∷ [])) ∙ append_assoc new (x ∷ []) (firsts (fresh p (new ++ (x ∷ []))) xs)
        ∙ ap (λ (l : List ℕ). new ++ (x ∷ l)) (firsts_same (fresh p (new ++ (x ∷ []))) (behind (fresh p new) x) xs (λ y m. fresh_taken p new x y))
    go false e ih = ih new ∙ ap (λ (l : List ℕ). new ++ l) (firsts_same (fresh p new) (behind (fresh p new) x) xs (λ y m. fresh_left (fresh p new) x y e))
