-- What a gather reads and collects, on plain lists: the first of each wanted number, in order.
-- Assumes nothing.
use Rattle.std.proofs.Common.{◌≡◌, ℕ, suc, ◌+◌, Bool, true, false, cond, not, ◌&&◌, List, [], ◌∷◌, ◌++◌, length, refl, ap, ◌∙◌, arith}
use mathlib.Core.List.{flat_map, foldl, map-append}
use Rattle.plain.proofs.Firsts.{firsts_same, gather_one, gathered}
use Rattle.plain.specs.Lists.{member, total}
use Rattle.plain.specs.Turns.{firsts}
use Rattle.definition.specs.Room.{Read, read_list}
use Rattle.packed.specs.Reading.{after_parts, entries_of, pick_one, picked, read_all, read_parts}

pub foldl_append : {A B : Type 0} (f : B → A → B) (b : B) (xs ys : List A) → foldl f b (xs ++ ys) ≡ foldl f (foldl f b xs) ys
foldl_append f b [] ys = refl
foldl_append f b (x ∷ xs) ys = foldl_append f (f b x) xs ys

-- ---- how many places are read

pub after_is : (X : ℕ → List ℕ) (c : ℕ) (es : List ℕ) → after_parts X c es ≡ c + length es + total (λ e. length (X e)) es
unfolding after_parts total
after_is X c [] = omega arith
after_is X c (e ∷ es) = after_is X (suc c + length (X e)) es ∙ omega arith

-- ---- what is read

pub entries_list : (c : ℕ) (vs : List ℕ) → entries_of (read_list c vs) ≡ vs
unfolding read_list
entries_list c [] = refl
entries_list c (v ∷ vs) = ap (λ (l : List ℕ). v ∷ l) (entries_list (suc c) vs)

entries_parts : (X : ℕ → List ℕ) (c : ℕ) (es : List ℕ) → entries_of (read_parts X c es) ≡ flat_map X es
unfolding read_parts flat_map
entries_parts X c [] = refl
entries_parts X c (e ∷ es) =
    map-append (λ (a : Read). a.entry) (read_list (suc c) (X e)) (read_parts X (suc c + length (X e)) es)
    ∙ ap (λ (l : List ℕ). l ++ entries_of (read_parts X (suc c + length (X e)) es)) (entries_list (suc c) (X e))
    ∙ ap (λ (l : List ℕ). X e ++ l) (entries_parts X (suc c + length (X e)) es)

pub all_entries : (X : ℕ → List ℕ) (es vs : List ℕ) → entries_of (read_all X es vs) ≡ flat_map X es ++ vs
unfolding read_all
all_entries X es vs =
    map-append (λ (a : Read). a.entry) (read_parts X 0 es) (read_list (after_parts X 0 es) vs)
    ∙ ap (λ (l : List ℕ). l ++ entries_of (read_list (after_parts X 0 es) vs)) (entries_parts X 0 es)
    ∙ ap (λ (l : List ℕ). flat_map X es ++ l) (entries_list (after_parts X 0 es) vs)

-- ---- what is collected of it

picked_fold : (p : ℕ → Bool) (q xs : List Read) → entries_of (foldl (pick_one p) q xs) ≡ foldl (gather_one p) (entries_of q) (entries_of xs)
unfolding pick_one
picked_fold p q [] = refl
picked_fold p q (a ∷ xs) =
    picked_fold p (pick_one p q a) xs
    ∙ ap (λ (l : List ℕ). foldl (gather_one p) l (entries_of xs)) (go (p a.entry && not (member a.entry (entries_of q))))
  where
    go : (b : Bool) → entries_of (cond b (q ++ (a ∷ [])) q) ≡ cond b (entries_of q ++ (a.entry ∷ [])) (entries_of q)
    go true = map-append (λ (c : Read). c.entry) q (a ∷ [])
    go false = refl

pub picked_firsts : (p : ℕ → Bool) (xs : List Read) → entries_of (picked p xs) ≡ firsts p (entries_of xs)
unfolding picked member
picked_firsts p xs =
    picked_fold p [] xs ∙ gathered p (entries_of xs) []
    ∙ firsts_same (λ x. p x && not (member x [])) p (entries_of xs) (λ x m. go (p x))
  where
    go : (b : Bool) → b && true ≡ b
    go true = refl
    go false = refl

-- the new element's list
pub picked_new : (p : ℕ → Bool) (X : ℕ → List ℕ) (es vs : List ℕ) → entries_of (picked p (read_all X es vs)) ≡ firsts p (flat_map X es ++ vs)
picked_new p X es vs = picked_firsts p (read_all X es vs) ∙ ap (firsts p) (all_entries X es vs)
