-- Pairs of rows, and the lists that they write: where no pair stands twice, either way round, no list has a row twice (E2).
-- Assumes nothing.
use Prim.Native.Nat.{ℕ, ◌<◌}
use native.Mathlib.Omega.{arith}
use mathlib.Core.Path.{◌≡◌, refl, sym, ap, ◌∙◌}
use mathlib.Core.Bool.{Bool, true, false, ◌&&◌, ◌||◌, false≢true}
use mathlib.Core.List.{List, [], ◌∷◌, ◌++◌, map}
use lib.Dec.{eqb}
use borrow.Author.Tests.{eqb-true, eq-eqb}
use Rattle.plain.proofs.Logic.{and_left, and_right, clash, or_left, or_right, or_cases, and_both, none_if}
use Rattle.plain.proofs.Members.{no_member, member_here, member_there, member_cases}
use Rattle.plain.specs.Lists.{member, cons_if}
use Rattle.plain.specs.Members.{Distinct}
use Rattle.definition.specs.Neighbours.{Pair, pair, written}

-- a pair of the list joins v and w
unfoldable pub touch : ℕ → ℕ → List Pair → Bool
touch v w [] = false
touch v w (p ∷ ps) = (eqb v p.one && eqb w p.other) || ((eqb v p.other && eqb w p.one) || touch v w ps)

pub touch_cases : (P : Type 0) (v w : ℕ) (p : Pair) (ps : List Pair) → touch v w (p ∷ ps) ≡ true → (v ≡ p.one → w ≡ p.other → P) → (v ≡ p.other → w ≡ p.one → P)
    → (touch v w ps ≡ true → P) → P
unfolding touch
touch_cases P v w p ps h a b c =
    or_cases P (eqb v p.one && eqb w p.other) ((eqb v p.other && eqb w p.one) || touch v w ps) h
    (λ k. a (eqb-true v p.one (and_left (eqb v p.one) (eqb w p.other) k)) (eqb-true w p.other (and_right (eqb v p.one) (eqb w p.other) k)))
    (λ k. or_cases P (eqb v p.other && eqb w p.one) (touch v w ps) k
    (λ r. b (eqb-true v p.other (and_left (eqb v p.other) (eqb w p.one) r)) (eqb-true w p.one (and_right (eqb v p.other) (eqb w p.one) r))) c)

pub touch_straight : (v w : ℕ) (p : Pair) (ps : List Pair) → v ≡ p.one → w ≡ p.other → touch v w (p ∷ ps) ≡ true
unfolding touch
touch_straight v w p ps a b = or_left (eqb v p.one && eqb w p.other) _ (and_both (eqb v p.one) (eqb w p.other) (eq-eqb v p.one a) (eq-eqb w p.other b))

pub touch_crossed : (v w : ℕ) (p : Pair) (ps : List Pair) → v ≡ p.other → w ≡ p.one → touch v w (p ∷ ps) ≡ true
unfolding touch
touch_crossed v w p ps a b =
    or_right (eqb v p.one && eqb w p.other) _ (or_left (eqb v p.other && eqb w p.one) _ (and_both (eqb v p.other) (eqb w p.one) (eq-eqb v p.other a) (eq-eqb w p.one b)))

pub touch_there : (v w : ℕ) (p : Pair) (ps : List Pair) → touch v w ps ≡ true → touch v w (p ∷ ps) ≡ true
unfolding touch
touch_there v w p ps h = or_right (eqb v p.one && eqb w p.other) _ (or_right (eqb v p.other && eqb w p.one) _ h)

pub no_touch : {P : Type 0} (v w : ℕ) → touch v w [] ≡ true → P
unfolding touch
no_touch v w h = absurd (false≢true h)

pub touch_back : (v w : ℕ) (ps : List Pair) → touch v w ps ≡ true → touch w v ps ≡ true
touch_back v w [] h = no_touch v w h
touch_back v w (p ∷ ps) h =
    touch_cases (touch w v (p ∷ ps) ≡ true) v w p ps h (λ a b. touch_crossed w v p ps b a) (λ a b. touch_straight w v p ps b a) (λ k. touch_there w v p ps (touch_back v w ps k))

pub touch_append : (P : Type 0) (v w : ℕ) (xs ys : List Pair) → touch v w (xs ++ ys) ≡ true → (touch v w xs ≡ true → P) → (touch v w ys ≡ true → P) → P
touch_append P v w [] ys h a b = b h
touch_append P v w (p ∷ xs) ys h a b =
    touch_cases P v w p (xs ++ ys) h (λ x y. a (touch_straight v w p xs x y)) (λ x y. a (touch_crossed v w p xs x y))
    (λ k. touch_append P v w xs ys k (λ r. a (touch_there v w p xs r)) b)

-- the pairs of j with the rows of a list
pub touch_map : (P : Type 0) (v w j : ℕ) (is : List ℕ) → touch v w (map (λ i. pair i j) is) ≡ true
    → ((i : ℕ) → member i is ≡ true → v ≡ i → w ≡ j → P) → ((i : ℕ) → member i is ≡ true → v ≡ j → w ≡ i → P) → P
touch_map P v w j [] h a b = no_touch v w h
touch_map P v w j (i ∷ is) h a b =
    touch_cases P v w (pair i j) (map (λ x. pair x j) is) h (λ x y. a i (member_here i is) x y) (λ x y. b i (member_here i is) x y)
    (λ k. touch_map P v w j is k (λ x m. a x (member_there x i is m)) (λ x m. b x (member_there x i is m)))

pub touch_left : (v w : ℕ) (xs ys : List Pair) → touch v w xs ≡ true → touch v w (xs ++ ys) ≡ true
touch_left v w [] ys h = no_touch v w h
touch_left v w (p ∷ xs) ys h =
    touch_cases (touch v w (p ∷ xs ++ ys) ≡ true) v w p xs h (λ a b. touch_straight v w p (xs ++ ys) a b) (λ a b. touch_crossed v w p (xs ++ ys) a b)
    (λ k. touch_there v w p (xs ++ ys) (touch_left v w xs ys k))

pub touch_right : (v w : ℕ) (xs ys : List Pair) → touch v w ys ≡ true → touch v w (xs ++ ys) ≡ true
touch_right v w [] ys h = h
touch_right v w (p ∷ xs) ys h = touch_there v w p (xs ++ ys) (touch_right v w xs ys h)

pub touch_mapped : (i j : ℕ) (is : List ℕ) → member i is ≡ true → touch i j (map (λ x. pair x j) is) ≡ true
touch_mapped i j [] h = no_member i h
touch_mapped i j (x ∷ is) h =
    member_cases (touch i j (pair x j ∷ map (λ y. pair y j) is) ≡ true) i x is h (λ e. touch_straight i j (pair x j) (map (λ y. pair y j) is) e refl)
    (λ n m. touch_there i j (pair x j) (map (λ y. pair y j) is) (touch_mapped i j is m))

-- no pair stands twice
abbrev pub Once : List Pair → Type 0
Once [] = Unit {0}
Once (p ∷ ps) = (touch p.one p.other ps ≡ false) × Once ps

pub once_append : (xs ys : List Pair) → Once xs → Once ys → ((v w : ℕ) → touch v w xs ≡ true → touch v w ys ≡ true → ⊥) → Once (xs ++ ys)
once_append [] ys a b h = b
once_append (p ∷ xs) ys a b h = (
  none_if (touch p.one p.other (xs ++ ys))
      (λ k. touch_append ⊥ p.one p.other xs ys k (λ r. clash (touch p.one p.other xs) r a.0)
      (λ r. h p.one p.other (touch_straight p.one p.other p xs refl refl) r)),
  once_append xs ys a.1 b (λ v w k. h v w (touch_there v w p xs k)),
)

pub once_map : (j : ℕ) (is : List ℕ) → Distinct is → ((i : ℕ) → member i is ≡ true → j < i) → Once (map (λ i. pair i j) is)
once_map j [] d l = tt
once_map j (i ∷ is) d l = (
  none_if (touch i j (map (λ x. pair x j) is))
      (λ k. touch_map ⊥ i j j is k
      (λ x m a b. clash (member i is) (ap (λ (z : ℕ). member z is) a ∙ m) d.0)
      (λ x m a b. let z = l i (member_here i is) in absurd (omega arith))),
  once_map j is d.1 (λ x m. l x (member_there x i is m)),
)

-- ---- what is written

member_cons_if : (w : ℕ) (b : Bool) (x : ℕ) (xs : List ℕ) → member w (cons_if b x xs) ≡ (b && eqb w x) || member w xs
unfolding member
member_cons_if w true x xs = refl
member_cons_if w false x xs = refl

pub member_written : (v w : ℕ) (ps : List Pair) → member w (written v ps) ≡ touch v w ps
unfolding written touch member
member_written v w [] = refl
member_written v w (p ∷ ps) =
    member_cons_if w (eqb v p.one) p.other (cons_if (eqb v p.other) p.one (written v ps))
    ∙ ap (λ (r : Bool). (eqb v p.one && eqb w p.other) || r)
    (member_cons_if w (eqb v p.other) p.one (written v ps) ∙ ap (λ (r : Bool). (eqb v p.other && eqb w p.one) || r) (member_written v w ps))

pub distinct_written : (v : ℕ) (ps : List Pair) → Once ps → ((x : ℕ) → touch x x ps ≡ false) → Distinct (written v ps)
unfolding written
distinct_written v [] o a = tt
distinct_written v (p ∷ ps) o a = go (eqb v p.one) refl (eqb v p.other) refl (distinct_written v ps o.1 (λ x. none_if (touch x x ps) (λ k. clash (touch x x (p ∷ ps)) (touch_there x x p ps k) (a x))))
  where
    go : (b : Bool) → eqb v p.one ≡ b → (c : Bool) → eqb v p.other ≡ c → Distinct (written v ps) → Distinct (cons_if b p.other (cons_if c p.one (written v ps)))
    go true e true f d =
        let x : v ≡ p.one = eqb-true v p.one e in
        let y : v ≡ p.other = eqb-true v p.other f in
        clash (touch v v (p ∷ ps)) (touch_straight v v p ps x y) (a v)
    go true e false f d =
        (member_written v p.other ps ∙ ap (λ (z : ℕ). touch z p.other ps) (eqb-true v p.one e) ∙ o.0, d)
    go false e true f d = (
      none_if (member p.one (written v ps))
          (λ k. clash (touch p.one p.other ps) (touch_back p.other p.one ps (ap (λ (z : ℕ). touch z p.one ps) (sym (eqb-true v p.other f)) ∙ sym (member_written v p.one ps) ∙ k)) o.0),
      d,
    )
    go false e false f d = d
