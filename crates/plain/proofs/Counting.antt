-- How often a number stands in a list.
-- Assumes nothing.
use Prim.Native.Nat.{ℕ, ◌<◌, zero, suc, ◌≤◌, ◌+◌}
use native.Mathlib.Omega.{arith}
use mathlib.Core.Path.{◌≡◌, ap, refl, ◌∙◌, sym}
use mathlib.Core.Logic.{◌≢◌}
use mathlib.Core.Bool.{Bool, cond, true, false, not, false≢true}
use mathlib.Core.List.{List, [], ◌∷◌}
use lib.Dec.{eqb, ltb}
use lib.ListN.{length, get_or}
use borrow.Author.Tests.{eq-eqb, ne_eqb, eqb-true, eqb-false, ltb-true, ltb-false}
use Rattle.plain.proofs.Folds.{all_of, all_imply, all_kept}
use Rattle.plain.proofs.Logic.{eqb_comm, either, or_elim}
use Rattle.plain.proofs.Members.{member_first, member_there, no_member, member_either, kept_passes, member_kept, member_up_to}
use Rattle.plain.proofs.Entries.{counted_whole}
use Rattle.plain.proofs.Repeats.{length_count_up, length_within, distinct_keep, distinct_count_up}
use Rattle.plain.proofs.Sums.{total_keep, total_same, total_ones, total_swap, total_map}
use Rattle.plain.specs.Lists.{total, count_up, keep, up_to, delete, cons_if, member}
use Rattle.plain.specs.Members.{same, count, All, In, Distinct}

pub same_eq : (v x : ℕ) → v ≡ x → same v x ≡ 1
same_eq v x e = rw (eq-eqb v x e)

pub same_ne : (v x : ℕ) → v ≢ x → same v x ≡ 0
same_ne v x n = rw (ne_eqb v x n)

pub same_comm : (a b : ℕ) → same a b ≡ same b a
same_comm a b = ap (λ (t : Bool). cond t 1 0) (eqb_comm a b)

-- ---- among a, a + 1, ..

pick_out : (h : ℕ → ℕ) (a k v : ℕ) → v < a → total (λ x. cond (eqb v x) (h x) 0) (count_up a k) ≡ 0
unfolding total count_up
pick_out h a zero v l = refl
pick_out h a (suc k) v l = rw (ne_eqb v a (omega arith)) (omega (arith, pick_out h (suc a) k v (omega arith)))

pub pick : (h : ℕ → ℕ) (a k v : ℕ) → a ≤ v → v < a + k → total (λ x. cond (eqb v x) (h x) 0) (count_up a k) ≡ h v
unfolding total count_up
pick h a zero v l m = absurd (omega arith)
pick h a (suc k) v l m = go (λ (q : suc a ≤ v). pick h (suc a) k v q (omega arith)) (eqb v a) refl
  where
    go : (suc a ≤ v → total (λ x. cond (eqb v x) (h x) 0) (count_up (suc a) k) ≡ h v) → (b : Bool) → eqb v a ≡ b
        → cond b (h a) 0 + total (λ x. cond (eqb v x) (h x) 0) (count_up (suc a) k) ≡ h v
    go ih true e =
        let q : v ≡ a = eqb-true v a e in
        omega (arith, pick_out h (suc a) k v (omega arith), ap h q)
    go ih false e =
        let q : v ≢ a = eqb-false v a e in
        omega (arith, ih (omega arith))

-- ---- what is kept of 0, 1, .., n - 1

cond_swap : (b c : Bool) → ◌≡◌ {A = ℕ} (cond b (cond c 1 0) 0) (cond c (cond b 1 0) 0)
cond_swap true true = refl
cond_swap true false = refl
cond_swap false true = refl
cond_swap false false = refl

-- v stands once among those that are kept, if it is one, and else not at all
pub count_kept : (p : ℕ → Bool) (n v : ℕ) → v < n → count v (keep p (up_to n)) ≡ cond (p v) 1 0
count_kept p n v h =
    total_keep (same v) p (up_to n)
    ∙ total_same (λ x. cond (p x) (same v x) 0) (λ x. cond (eqb v x) (cond (p x) 1 0) 0) (up_to n) (all_of _ (up_to n) (λ x. cond_swap (p x) (eqb v x)))
    ∙ pick (λ x. cond (p x) 1 0) 0 n v (omega arith) (omega arith)

pub all_up_to : (a k : ℕ) → All (λ x. x < a + k) (count_up a k)
unfolding count_up
all_up_to a zero = tt
all_up_to a (suc k) = (omega arith, all_imply (λ x. x < suc a + k) (λ x. x < a + suc k) (count_up (suc a) k) (λ x h. omega arith) (all_up_to (suc a) k))

pub all_once : (p : ℕ → Bool) (n : ℕ) → All (λ x. count x (keep p (up_to n)) ≡ 1) (keep p (up_to n))
all_once p n =
    all_imply (λ x. (p x ≡ true) × (x < 0 + n)) (λ x. count x (keep p (up_to n)) ≡ 1) (keep p (up_to n))
    (λ x h. count_kept p n x (omega (arith, h.1)) ∙ ap (λ (b : Bool). cond b 1 0) h.0)
    (all_kept (λ x. x < 0 + n) p (up_to n) (all_up_to 0 n))

-- ---- without b

delete_none : (f : ℕ → ℕ) (b : ℕ) (xs : List ℕ) → count b xs ≡ 0 → total f (delete b xs) ≡ total f xs
unfolding total delete keep
delete_none f b [] h = refl
delete_none f b (x ∷ xs) h = go (λ (k : count b xs ≡ 0). delete_none f b xs k) (eqb b x) refl h
  where
    go : (count b xs ≡ 0 → total f (delete b xs) ≡ total f xs) → (t : Bool) → eqb b x ≡ t → cond t 1 0 + count b xs ≡ 0
        → total f (cons_if (not t) x (delete b xs)) ≡ f x + total f xs
    go ih true e k = absurd (omega arith)
    go ih false e k = omega (arith, ih (omega arith))

pub delete_once : (f : ℕ → ℕ) (b : ℕ) (xs : List ℕ) → count b xs ≡ 1 → total f xs ≡ total f (delete b xs) + f b
unfolding total delete keep
delete_once f b [] h = absurd (omega arith)
delete_once f b (x ∷ xs) h = go (λ (k : count b xs ≡ 1). delete_once f b xs k) (eqb b x) refl h
  where
    go : (count b xs ≡ 1 → total f xs ≡ total f (delete b xs) + f b) → (t : Bool) → eqb b x ≡ t → cond t 1 0 + count b xs ≡ 1
        → f x + total f xs ≡ total f (cons_if (not t) x (delete b xs)) + f b
    go ih true e k = omega (arith, delete_none f b xs (omega arith), ap f (eqb-true b x e))
    go ih false e k = omega (arith, ih (omega arith))

-- a list of numbers below n, each of which stands in it once, has length n
pub length_once : (n : ℕ) (xs : List ℕ) → All (λ x. x < n) xs → ((v : ℕ) → v < n → count v xs ≡ 1) → length xs ≡ n
length_once n xs a h =
    sym (total_ones xs)
    ∙ total_same (λ x. 1) (λ x. total (λ v. same v x) (up_to n)) xs (all_imply (λ x. x < n) (λ x. 1 ≡ total (λ v. same v x) (up_to n)) xs (λ x q. sym (seen x q)) a)
    ∙ sym (total_swap (λ v x. same v x) (up_to n) xs)
    ∙ total_same (λ v. count v xs) (λ v. 1) (up_to n) (all_imply (λ v. v < 0 + n) (λ v. count v xs ≡ 1) (up_to n) (λ v q. h v (omega arith)) (all_up_to 0 n))
    ∙ total_ones (up_to n) ∙ length_count_up 0 n
  where
    seen : (x : ℕ) → x < n → total (λ v. same v x) (up_to n) ≡ 1
    seen x q = total_same (λ v. same v x) (same x) (up_to n) (all_of _ (up_to n) (λ v. same_comm v x)) ∙ pick (λ v. 1) 0 n x (omega arith) (omega arith)

-- ---- and the members

pub count_has : (x : ℕ) (xs : List ℕ) → 0 < count x xs → In x xs
unfolding total
count_has x [] h = absurd (omega arith)
count_has x (y ∷ ys) h =
    either (In x (y ∷ ys)) (eqb x y) (λ e. member_first x y ys (eqb-true x y e)) (λ e. member_there x y ys (count_has x ys (omega (arith, rw e at h))))

pub has_count : (x : ℕ) (xs : List ℕ) → In x xs → 0 < count x xs
unfolding total
has_count x [] h = no_member x h
has_count x (y ∷ ys) h = or_elim (0 < same x y + count x ys) (member_either x y ys h) (λ e. rw (eq-eqb x y e) (omega arith)) (λ m. omega (arith, has_count x ys m))

pub distinct_of_count : (xs : List ℕ) → ((v : ℕ) → count v xs ≤ 1) → Distinct xs
unfolding total
distinct_of_count [] h = tt
distinct_of_count (x ∷ xs) h =
    (either (member x xs ≡ false) (member x xs) (λ e. absurd (twice e)) (λ e. e), distinct_of_count xs (λ v. omega (arith, h v)))
  where
    twice : In x xs → ⊥
    twice e =
        let a : same x x + count x xs ≤ 1 = h x in
        let b : same x x ≡ 1 = rw (eq-eqb x x refl) in
        omega (arith, has_count x xs e)

not_count : (x : ℕ) (xs : List ℕ) → member x xs ≡ false → count x xs ≡ 0
not_count x xs h =
    either (count x xs ≡ 0) (ltb 0 (count x xs)) (λ t. absurd (false≢true (sym h ∙ count_has x xs (ltb-true 0 (count x xs) t))))
    (λ t. omega (arith, ltb-false 0 (count x xs) t))

pub count_once : (x : ℕ) (xs : List ℕ) → Distinct xs → In x xs → count x xs ≡ 1
unfolding total
count_once x [] d h = no_member x h
count_once x (y ∷ ys) d h =
    either (same x y + count x ys ≡ 1) (eqb x y)
    (λ t. let q : x ≡ y = eqb-true x y t in
    rw t (omega (arith, not_count x ys (ap (λ (z : ℕ). member z ys) q ∙ d.0))))
    (λ t. rw t (omega (arith, count_once x ys d.1 (or_elim (In x ys) (member_either x y ys h) (λ q. absurd (eqb-false x y t q)) (λ q. q)))))

-- ---- double counting

-- a sum over a list, by its places
pub total_places : {A : Type 0} (f : A → ℕ) (d : A) (xs : List A) → total f xs ≡ total (λ k. f (get_or xs k d)) (up_to (length xs))
total_places f d xs = ap (total f) (sym (counted_whole xs d)) ∙ total_map f (λ k. get_or xs k d) (up_to (length xs))

-- of 0, 1, .., n - 1 as many stand in a list as it has entries, or fewer
pub members_below : (n : ℕ) (xs : List ℕ) → total (λ i. cond (member i xs) 1 0) (up_to n) ≤ length xs
members_below n xs =
    omega (
      arith,
      total_keep (λ i. 1) (λ i. member i xs) (up_to n),
      total_ones (keep (λ i. member i xs) (up_to n)),
      length_within (keep (λ i. member i xs) (up_to n)) xs (distinct_keep (λ i. member i xs) (up_to n) (distinct_count_up 0 n)) (λ x m. kept_passes x (λ i. member i xs) (up_to n) m),
    )

-- and just as many where it has none twice, and all of them are below n
pub members_all : (n : ℕ) (xs : List ℕ) → Distinct xs → ((x : ℕ) → In x xs → x < n) → total (λ i. cond (member i xs) 1 0) (up_to n) ≡ length xs
members_all n xs d h =
    omega (
      arith,
      members_below n xs,
      total_keep (λ i. 1) (λ i. member i xs) (up_to n),
      total_ones (keep (λ i. member i xs) (up_to n)),
      length_within xs (keep (λ i. member i xs) (up_to n)) d (λ x m. member_kept x (λ i. member i xs) (up_to n) m (member_up_to x n (h x m))),
    )
