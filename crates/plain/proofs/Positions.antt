-- Where a number stands in a list, and what stands at a place.
-- Assumes nothing.
use Prim.Native.Nat.{◌-◌, ℕ, ◌<◌, zero, suc, ◌≤◌, ◌+◌}
use native.Mathlib.Omega.{arith}
use mathlib.Core.Path.{refl, ◌≡◌, sym, ◌∙◌, ap}
use mathlib.Core.Logic.{◌≢◌}
use mathlib.Core.Bool.{Bool, true, cond, false≢true, ◌&&◌}
use mathlib.Core.List.{List, [], ◌∷◌, ◌++◌, map}
use lib.Dec.{eqb, ltb}
use lib.ListN.{get_or, length, drop, length-append, length-map, replicate, set}
use lib.Seq.{get_or-append-add, get_or-set_same, set_out, get_or-set_other}
use borrow.Author.Tests.{eqb-true, eqb-false, eq-eqb, ne_eqb, ltb-true, ltb-false}
use Rattle.plain.proofs.Entries.{entries_at, entries_length}
use Rattle.plain.proofs.Logic.{either, or_elim, and_left, and_right}
use Rattle.plain.proofs.Members.{member_first, member_there, no_member, member_either, member_left, member_right}
use Rattle.plain.proofs.Repeats.{length_count_up, length_below, length_missing}
use Rattle.plain.specs.Lists.{member, position, count_up, every}
use Rattle.plain.specs.Members.{In, Distinct, All}
use Rattle.plain.specs.Turns.{entries}

pub member_get_or : (xs : List ℕ) (k : ℕ) → k < length xs → In (get_or xs k 0) xs
member_get_or [] k h = absurd (omega arith)
member_get_or (x ∷ xs) zero h = member_first x x xs refl
member_get_or (x ∷ xs) (suc k) h = member_there (get_or xs k 0) x xs (member_get_or xs k (omega arith))

pub position_is : (x : ℕ) (xs : List ℕ) → In x xs → (position x xs < length xs) × (get_or xs (position x xs) 0 ≡ x)
unfolding position
position_is x [] h = no_member x h
position_is x (y ∷ ys) h =
    either ((cond (eqb x y) 0 (suc (position x ys)) < suc (length ys)) × (get_or (y ∷ ys) (cond (eqb x y) 0 (suc (position x ys))) 0 ≡ x)) (eqb x y)
    (λ e. rw e (omega arith, sym (eqb-true x y e)))
    (λ e. rw e (or_elim ((suc (position x ys) < suc (length ys)) × (get_or ys (position x ys) 0 ≡ x)) (member_either x y ys h) (λ q. absurd (eqb-false x y e q))
    (λ m. let r = position_is x ys m in (omega (arith, r.0), r.1))))

pub position_get_or : (xs : List ℕ) (k : ℕ) → Distinct xs → k < length xs → position (get_or xs k 0) xs ≡ k
unfolding position
position_get_or [] k d h = absurd (omega arith)
position_get_or (x ∷ xs) zero d h = rw (eq-eqb x x refl)
position_get_or (x ∷ xs) (suc k) d h =
    rw (ne_eqb (get_or xs k 0) x (λ e. false≢true (sym d.0 ∙ ap (λ (z : ℕ). member z xs) (sym e) ∙ member_get_or xs k (omega arith))))
    (ap suc (position_get_or xs k d.1 (omega arith)))

pub position_here : (x y : ℕ) (ys : List ℕ) → x ≡ y → position x (y ∷ ys) ≡ 0
unfolding position
position_here x y ys e = rw (eq-eqb x y e)

pub position_there : (x y : ℕ) (ys : List ℕ) → x ≢ y → position x (y ∷ ys) ≡ suc (position x ys)
unfolding position
position_there x y ys n = rw (ne_eqb x y n)

pub position_le : (x : ℕ) (xs : List ℕ) → position x xs ≤ length xs
unfolding position
position_le x [] = omega arith
position_le x (y ∷ ys) = either (cond (eqb x y) 0 (suc (position x ys)) ≤ suc (length ys)) (eqb x y) (λ e. rw e (omega arith)) (λ e. rw e (omega (arith, position_le x ys)))

pub position_left : (x : ℕ) (xs ys : List ℕ) → In x xs → position x (xs ++ ys) ≡ position x xs
position_left x [] ys h = no_member x h
position_left x (z ∷ zs) ys h =
    either (position x (z ∷ zs ++ ys) ≡ position x (z ∷ zs)) (eqb x z)
    (λ e. let q : x ≡ z = eqb-true x z e in position_here x z (zs ++ ys) q ∙ sym (position_here x z zs q))
    (λ e. let q : x ≢ z = eqb-false x z e in
    position_there x z (zs ++ ys) q ∙ ap suc (position_left x zs ys (or_elim (In x zs) (member_either x z zs h) (λ r. absurd (q r)) (λ r. r))) ∙ sym (position_there x z zs q))

pub position_right : (x : ℕ) (xs ys : List ℕ) → (In x xs → ⊥) → position x (xs ++ ys) ≡ length xs + position x ys
position_right x [] ys h = omega arith
position_right x (z ∷ zs) ys h =
    let q : x ≢ z = λ r. h (member_first x z zs r) in
    position_there x z (zs ++ ys) q ∙ omega (arith, position_right x zs ys (λ r. h (member_there x z zs r)))

-- ---- parts of a list

pub member_drop : (l : List ℕ) (j b : ℕ) → j ≤ b → b < length l → In (get_or l b 0) (drop j l)
member_drop [] j b h k = absurd (omega arith)
member_drop (x ∷ l) zero b h k = member_get_or (x ∷ l) b k
member_drop (x ∷ l) (suc j) zero h k = absurd (omega arith)
member_drop (x ∷ l) (suc j) (suc b) h k = member_drop l j b (omega arith) (omega arith)

pub drop_was : (l : List ℕ) (j v : ℕ) → In v (drop j l) → (b : ℕ) × (j ≤ b) × (b < length l) × (get_or l b 0 ≡ v)
drop_was [] zero v h = no_member v h
drop_was [] (suc j) v h = no_member v h
drop_was (x ∷ l) zero v h = let r = position_is v (x ∷ l) h in (position v (x ∷ l), omega arith, r.0, r.1)
drop_was (x ∷ l) (suc j) v h = let r = drop_was l j v h in (suc r.0, omega (arith, r.1), omega (arith, r.2), r.3)

-- the rest of a longer list
pub drop_left : (x k : ℕ) (xs ys : List ℕ) → In x (drop k xs) → In x (drop k (xs ++ ys))
drop_left x zero xs ys m = member_left x xs ys m
drop_left x (suc k) [] ys m = no_member x m
drop_left x (suc k) (z ∷ xs) ys m = drop_left x k xs ys m

pub drop_right : (x k : ℕ) (xs ys : List ℕ) → k ≤ length xs → In x ys → In x (drop k (xs ++ ys))
drop_right x zero xs ys b m = member_right x xs ys m
drop_right x (suc k) [] ys b m = absurd (omega arith)
drop_right x (suc k) (z ∷ xs) ys b m = drop_right x k xs ys (omega arith) m

-- whoever stands behind place t is at a later place
pub later_place : (xs : List ℕ) (t p : ℕ) → Distinct xs → In p (drop (suc t) xs) → t < position p xs
later_place xs t p d m =
    let r = drop_was xs (suc t) p m in
    omega (arith, r.1, position_get_or xs r.0 d r.2, ap (λ (y : ℕ). position y xs) r.3)

-- what stands behind the first list
pub get_or_behind : {A : Type 0} (xs ys : List A) (d : A) (k : ℕ) → length xs ≤ k → get_or (xs ++ ys) k d ≡ get_or ys (k - length xs) d
get_or_behind xs ys d k h =
    let e : k ≡ length xs + (k - length xs) = omega arith in
    ap (λ (z : ℕ). get_or (xs ++ ys) z d) e ∙ get_or-append-add xs ys (k - length xs) d

-- ---- a value for each of a, a + 1, ..

pub get_or_mapped : {A B : Type 0} (f : A → B) (l : List A) (k : ℕ) (d : A) (e : B) → k < length l → get_or (map f l) k e ≡ f (get_or l k d)
get_or_mapped f [] k d e h = absurd (omega arith)
get_or_mapped f (x ∷ l) zero d e h = refl
get_or_mapped f (x ∷ l) (suc k) d e h = get_or_mapped f l k d e (omega arith)

pub get_or_counted : {A : Type 0} (f : ℕ → A) (d : A) (a k i : ℕ) → i < k → get_or (map f (count_up a k)) i d ≡ f (a + i)
unfolding count_up
get_or_counted f d a zero i h = absurd (omega arith)
get_or_counted f d a (suc k) zero h = ap f (omega arith)
get_or_counted f d a (suc k) (suc i) h = get_or_counted f d (suc a) k i (omega arith) ∙ ap f (omega arith)

pub length_counted : {A : Type 0} (f : ℕ → A) (a k : ℕ) → length (map f (count_up a k)) ≡ k
length_counted f a k = length-map (count_up a k) f ∙ length_count_up a k

pub get_or_same : {A : Type 0} (k i : ℕ) (a : A) → get_or (replicate k a) i a ≡ a
get_or_same zero i a = refl
get_or_same (suc k) zero a = refl
get_or_same (suc k) (suc i) a = get_or_same k i a

-- ---- after a place is set: LL9, as far as `lib.Seq` does not have it

pub get_d_set : {A : Type 0} (l : List A) (i j : ℕ) (a d : A) → get_or (set l i a) j d ≡ cond (eqb j i && ltb i (length l)) a (get_or l j d)
get_d_set l i j a d =
    either (get_or (set l i a) j d ≡ cond (eqb j i && ltb i (length l)) a (get_or l j d)) (eqb j i)
    (λ e. rw e (either (get_or (set l i a) j d ≡ cond (ltb i (length l)) a (get_or l j d)) (ltb i (length l))
    (λ h. rw (h, eqb-true j i e) (get_or-set_same l i a d (ltb-true i (length l) h)))
    (λ h. rw (h, set_out l i a (ltb-false i (length l) h)))))
    (λ e. rw e (get_or-set_other l i j a d (eqb-false j i e)))

pub set_has : (P : List ℕ → Type 0) (l : List (List ℕ)) (i : ℕ) (a : List ℕ) (j : ℕ) → P (get_or l j []) → (j ≡ i → P a) → P (get_or (set l i a) j [])
set_has P [] i a j p q = p
set_has P (x ∷ l) zero a zero p q = q refl
set_has P (x ∷ l) zero a (suc j) p q = p
set_has P (x ∷ l) (suc i) a zero p q = p
set_has P (x ∷ l) (suc i) a (suc j) p q = set_has P l i a j p (λ e. q (ap suc e))

-- an entry of the numbers from a on
pub get_or_count_up : (a k i d : ℕ) → i < k → get_or (count_up a k) i d ≡ a + i
unfolding count_up
get_or_count_up a zero i d h = absurd (omega arith)
get_or_count_up a (suc k) zero d h = omega arith
get_or_count_up a (suc k) (suc i) d h = omega (arith, get_or_count_up (suc a) k i d (omega arith))

-- a number below n has its place below n in any list of such numbers without repeats, there or not
pub position_below_bound : (n : ℕ) (xs : List ℕ) → Distinct xs → ((x : ℕ) → In x xs → x < n) → (e : ℕ) → e < n → position e xs < n
position_below_bound n xs d h e l =
    either (position e xs < n) (member e xs)
    (λ t. omega (arith, (position_is e xs t).0, length_below n xs d h))
    (λ t. omega (arith, position_le e xs, length_missing n xs e d h l t))

-- ---- what holds of every element, at a place

pub all_at : {A : Type 0} (P : A → Type 0) (xs : List A) (d : A) → All P xs → (k : ℕ) → k < length xs → P (get_or xs k d)
all_at P [] d h k l = absurd (omega arith)
all_at P (x ∷ xs) d h zero l = h.0
all_at P (x ∷ xs) d h (suc k) l = all_at P xs d h.1 k (omega arith)

pub every_at : {A : Type 0} (p : A → Bool) (xs : List A) (d : A) → every p xs ≡ true → p d ≡ true → (k : ℕ) → p (get_or xs k d) ≡ true
unfolding every
every_at p [] d h q k = q
every_at p (x ∷ xs) d h q zero = and_left (p x) (every p xs) h
every_at p (x ∷ xs) d h q (suc k) = every_at p xs d (and_right (p x) (every p xs) h) q k

pub member_entries : (F : ℕ → ℕ) (p c t : ℕ) → t < c → In (F (p + t)) (entries F p c)
member_entries F p c t l =
    ap (λ (x : ℕ). member x (entries F p c)) (sym (entries_at F p c t 0 l)) ∙ member_get_or (entries F p c) t (rw (entries_length F p c) l)

pub length_snoc : {A : Type 0} (xs : List A) (x : A) → length (xs ++ (x ∷ [])) ≡ suc (length xs)
length_snoc xs x = length-append xs (x ∷ []) ∙ omega arith
