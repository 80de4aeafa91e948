-- What holds of every element of a list, and what holds after a fold.
-- Assumes nothing.
use Prim.Native.Nat.{ℕ}
use mathlib.Core.Path.{ap, ◌≡◌, refl, sym, ◌∙◌}
use mathlib.Core.Logic.{◌≢◌}
use mathlib.Core.Bool.{Bool, true, false, ◌||◌, cond}
use mathlib.Core.List.{List, [], ◌∷◌, ◌++◌, reverse, reverse_aux, foldl, flat_map, append_assoc, append-nil, reverse-cons}
use Rattle.plain.proofs.Logic.{or_left, or_right, clash, and_left, and_right, bool_ext}
use Rattle.plain.proofs.Members.{member_first, member_there, no_member, member_cases, member_here, not_there, not_here, member_flat_map, member_joined}
use Rattle.plain.specs.Lists.{cons_if, keep, member, every, leading, trailing}
use Rattle.plain.specs.Members.{All, In, Distinct}
use Rattle.plain.proofs.Turns.{turn}

module _ {A : Type 0} where
  pub everything : (xs : List A) → All (λ x. Unit {0}) xs
  everything [] = tt
  everything (x ∷ xs) = (tt, everything xs)

  pub all_append : (P : A → Type 0) (xs ys : List A) → All P xs → All P ys → All P (xs ++ ys)
  all_append P [] ys h k = k
  all_append P (x ∷ xs) ys h k = (h.0, all_append P xs ys h.1 k)

  pub all_left : (P : A → Type 0) (xs ys : List A) → All P (xs ++ ys) → All P xs
  all_left P [] ys h = tt
  all_left P (x ∷ xs) ys h = (h.0, all_left P xs ys h.1)

  pub all_right : (P : A → Type 0) (xs ys : List A) → All P (xs ++ ys) → All P ys
  all_right P [] ys h = h
  all_right P (x ∷ xs) ys h = all_right P xs ys h.1

  pub all_cons_if : (P : A → Type 0) (b : Bool) (x : A) (xs : List A) → (b ≡ true → P x) → All P xs → All P (cons_if b x xs)
  all_cons_if P true x xs h k = (h refl, k)
  all_cons_if P false x xs h k = k

  pub all_keep : (P : A → Type 0) (p : A → Bool) (xs : List A) → All P xs → All P (keep p xs)
  unfolding keep
  all_keep P p [] h = tt
  all_keep P p (x ∷ xs) h = all_cons_if P (p x) x (keep p xs) (λ e. h.0) (all_keep P p xs h.1)

  all_reverse_aux : (P : A → Type 0) (xs ys : List A) → All P xs → All P ys → All P (reverse_aux xs ys)
  all_reverse_aux P [] ys h k = k
  all_reverse_aux P (x ∷ xs) ys h k = all_reverse_aux P xs (x ∷ ys) h.1 (h.0, k)

  pub all_reverse : (P : A → Type 0) (xs : List A) → All P xs → All P (reverse xs)
  all_reverse P xs h = all_reverse_aux P xs [] h tt

  -- what each step keeps, at the elements that have Q, the fold keeps
  pub foldl_keeps : {B : Type 0} (P : B → Type 0) (Q : A → Type 0) (f : B → A → B)
      → ((b : B) (a : A) → Q a → P b → P (f b a)) → (xs : List A) (b : B) → All Q xs → P b → P (foldl f b xs)
  foldl_keeps P Q f h [] b q p = p
  foldl_keeps P Q f h (x ∷ xs) b q p = foldl_keeps P Q f h xs (f b x) q.1 (h b x q.0 p)

pub all_flat_map : {A B : Type 0} (P : A → Type 0) (f : B → List A) (xs : List B) → All (λ x. All P (f x)) xs → All P (flat_map f xs)
unfolding flat_map
all_flat_map P f [] h = tt
all_flat_map P f (x ∷ xs) h = all_append P (f x) (flat_map f xs) h.0 (all_flat_map P f xs h.1)

pub all_imply : {A : Type 0} (P Q : A → Type 0) (xs : List A) → ((x : A) → P x → Q x) → All P xs → All Q xs
all_imply P Q [] h a = tt
all_imply P Q (x ∷ xs) h a = (h x a.0, all_imply P Q xs h a.1)

pub all_of : {A : Type 0} (P : A → Type 0) (xs : List A) → ((x : A) → P x) → All P xs
all_of P [] h = tt
all_of P (x ∷ xs) h = (h x, all_of P xs h)

pub all_in : (Q : ℕ → Type 0) (xs : List ℕ) → ((x : ℕ) → In x xs → Q x) → All Q xs
all_in Q [] h = tt
all_in Q (x ∷ xs) h = (h x (member_first x x xs refl), all_in Q xs (λ y k. h y (member_there y x xs k)))

-- what is kept passes the test, and has what all have
pub all_kept : {A : Type 0} (P : A → Type 0) (p : A → Bool) (xs : List A) → All P xs → All (λ x. (p x ≡ true) × P x) (keep p xs)
unfolding keep
all_kept P p [] a = tt
all_kept P p (x ∷ xs) a = all_cons_if (λ y. (p y ≡ true) × P y) (p x) x (keep p xs) (λ e. (e, a.0)) (all_kept P p xs a.1)

-- a test of every element
pub every_all : {A : Type 0} (p : A → Bool) (xs : List A) → every p xs ≡ true → All (λ x. p x ≡ true) xs
unfolding every
every_all p [] h = tt
every_all p (x ∷ xs) h = (and_left (p x) (every p xs) h, every_all p xs (and_right (p x) (every p xs) h))

-- tests that agree keep the same
pub keep_same : {A : Type 0} (p q : A → Bool) (xs : List A) → All (λ x. p x ≡ q x) xs → keep p xs ≡ keep q xs
unfolding keep
keep_same p q [] h = refl
keep_same p q (x ∷ xs) h = rw (h.0, keep_same p q xs h.1)

-- ---- parts in a row

pub leading_trailing : {A : Type 0} (p : A → Bool) (xs : List A) → leading p xs ++ trailing p xs ≡ xs
unfolding leading trailing
leading_trailing p [] = refl
leading_trailing {A = A} p (x ∷ xs) = go (leading_trailing p xs) (p x)
  where
    go : leading p xs ++ trailing p xs ≡ xs → (b : Bool) → cond b (x ∷ leading p xs) [] ++ cond b (trailing p xs) (x ∷ xs) ≡ x ∷ xs
    go ih true = ap (λ (l : List A). x ∷ l) ih
    go ih false = refl

pub flat_map_append : {A B : Type 0} (f : B → List A) (xs ys : List B) → flat_map f (xs ++ ys) ≡ flat_map f xs ++ flat_map f ys
unfolding flat_map
flat_map_append f [] ys = refl
flat_map_append {A = A} f (x ∷ xs) ys = ap (λ (l : List A). f x ++ l) (flat_map_append f xs ys) ∙ sym (append_assoc (f x) (flat_map f xs) (flat_map f ys))

-- ---- one row through a fold: what is looked up in it changes at that row's own turn, or wherever a turn hits it

-- whether a turn of the list hits
unfoldable pub hits : (ℕ → Bool) → List ℕ → Bool
hits p [] = false
hits p (x ∷ xs) = p x || hits p xs

pub hits_at : (p : ℕ → Bool) (x : ℕ) (xs : List ℕ) → member x xs ≡ true → p x ≡ true → hits p xs ≡ true
unfolding hits
hits_at p x [] h k = no_member x h
hits_at p x (y ∷ ys) h k =
    member_cases (p y || hits p ys ≡ true) x y ys h
    (λ e. or_left (p y) (hits p ys) (ap p (sym e) ∙ k))
    (λ n m. or_right (p y) (hits p ys) (hits_at p x ys m k))

pub hits_where : (p : ℕ → Bool) (xs : List ℕ) → hits p xs ≡ true → (x : ℕ) × (member x xs ≡ true) × (p x ≡ true)
unfolding hits
hits_where p [] h = clash true refl (sym h)
hits_where p (y ∷ ys) h = go (λ (k : hits p ys ≡ true). hits_where p ys k) (p y) refl h
  where
    go : (hits p ys ≡ true → (x : ℕ) × (member x ys ≡ true) × (p x ≡ true)) → (b : Bool) → p y ≡ b → b || hits p ys ≡ true
        → (x : ℕ) × (member x (y ∷ ys) ≡ true) × (p x ≡ true)
    go ih true e k = (y, member_here y ys, e)
    go ih false e k = let r = ih k in (r.0, member_there r.0 y ys r.1, r.2)

module _ {A B : Type 0} (f : B → ℕ → B) (look : B → A) where
  -- no turn touches the row
  pub fold_other : (v : ℕ) → ((b : B) (w : ℕ) → w ≢ v → look (f b w) ≡ look b) → (ws : List ℕ) → member v ws ≡ false → (b : B)
      → look (foldl f b ws) ≡ look b
  fold_other v other [] h b = refl
  fold_other v other (w ∷ ws) h b = fold_other v other ws (not_there v w ws h) (f b w) ∙ other b w (λ e. not_here v w ws h (sym e))

  -- the row's own turn changes it, once; I is what the turns need of the whole and keep
  pub fold_row : (I : B → Type 0) (F : A → A) (v : ℕ) → ((b : B) (w : ℕ) → I b → I (f b w)) → ((b : B) (w : ℕ) → w ≢ v → look (f b w) ≡ look b)
      → ((b : B) → I b → look (f b v) ≡ F (look b)) → (ws : List ℕ) → Distinct ws → member v ws ≡ true → (b : B) → I b
      → look (foldl f b ws) ≡ F (look b)
  fold_row I F v keeps other own [] d m b i = no_member v m
  fold_row I F v keeps other own (w ∷ ws) d m b i =
      member_cases (look (foldl f (f b w) ws) ≡ F (look b)) v w ws m
      (λ e. fold_other v other ws (ap (λ (z : ℕ). member z ws) e ∙ d.0) (f b w) ∙ ap (λ (z : ℕ). look (f b z)) (sym e) ∙ own b i)
      (λ n k. fold_row I F v keeps other own ws d.1 k (f b w) (keeps b w i) ∙ ap F (other b w (λ q. n (sym q))))

  -- each turn that hits the row writes the same into it
  pub fold_hits : (I : B → Type 0) (c : A) (hit : ℕ → Bool) → ((b : B) (w : ℕ) → I b → I (f b w))
      → ((b : B) (w : ℕ) → I b → look (f b w) ≡ cond (hit w) c (look b)) → (ws : List ℕ) (b : B) → I b → look (foldl f b ws) ≡ cond (hits hit ws) c (look b)
  unfolding hits
  fold_hits I c hit keeps turn [] b i = refl
  fold_hits I c hit keeps turn (w ∷ ws) b i =
      fold_hits I c hit keeps turn ws (f b w) (keeps b w i) ∙ ap (λ (a : A). cond (hits hit ws) c a) (turn b w i) ∙ join (hit w) (hits hit ws)
    where
      join : (x y : Bool) → cond y c (cond x c (look b)) ≡ cond (x || y) c (look b)
      join true true = refl
      join true false = refl
      join false true = refl
      join false false = refl

pub keep_append : (p : ℕ → Bool) (xs ys : List ℕ) → keep p (xs ++ ys) ≡ keep p xs ++ keep p ys
unfolding keep
keep_append p [] ys = refl
keep_append p (x ∷ xs) ys = go (p x) (keep_append p xs ys)
  where
    go : (b : Bool) → keep p (xs ++ ys) ≡ keep p xs ++ keep p ys → cons_if b x (keep p (xs ++ ys)) ≡ cons_if b x (keep p xs) ++ keep p ys
    go true e = ap (λ (l : List ℕ). x ∷ l) e
    go false e = e

-- a fold over a list with one element more
pub foldl_snoc : {A B : Type 0} (f : A → B → A) (m : A) (xs : List B) (x : B) → foldl f m (xs ++ (x ∷ [])) ≡ f (foldl f m xs) x
foldl_snoc f m [] x = refl
foldl_snoc f m (y ∷ xs) x = foldl_snoc f (f m y) xs x

-- who stands in a joined list
pub member_hits : (x : ℕ) (f : ℕ → List ℕ) (xs : List ℕ) → member x (flat_map f xs) ≡ hits (λ v. member x (f v)) xs
member_hits x f xs =
    bool_ext (member x (flat_map f xs)) (hits (λ v. member x (f v)) xs)
    (λ m. let r = member_flat_map x f xs m in hits_at (λ v. member x (f v)) r.0 xs r.1 r.2)
    (λ m. let r = hits_where (λ v. member x (f v)) xs m in member_joined x r.0 f xs r.1 r.2)

pub keep_reverse : (p : ℕ → Bool) (xs : List ℕ) → keep p (reverse xs) ≡ reverse (keep p xs)
unfolding keep
keep_reverse p [] = refl
keep_reverse p (x ∷ xs) =
    rw (reverse-cons x xs) (keep_append p (reverse xs) (x ∷ []) ∙ ap (λ (y : List ℕ). y ++ cons_if (p x) x []) (keep_reverse p xs) ∙ last (p x))
  where
    last : (b : Bool) → reverse (keep p xs) ++ cons_if b x [] ≡ reverse (cons_if b x (keep p xs))
    last true = sym (reverse-cons x (keep p xs))
    last false = append-nil (reverse (keep p xs))
