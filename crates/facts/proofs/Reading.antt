-- What a pivot's step reads: the candidates in order, each with the number of places read so far; and the entries at which a variable is collected.
-- Assumes nothing.
use Prim.Native.Nat.{ℕ, zero, suc, ◌+◌, ◌≤◌, ◌<◌}
use native.Mathlib.Omega.{arith}
use mathlib.Core.Path.{◌≡◌, refl, sym, ap, ◌∙◌}
use mathlib.Core.Bool.{Bool, true, false, cond}
use mathlib.Core.List.{List, [], ◌∷◌, ◌++◌, map, foldl, flat_map, append-nil, append_assoc, map-append}
use lib.ListN.{length, get_or, length-map}
use Rattle.plain.proofs.Folds.{all_append, all_imply, all_cons_if}
use Rattle.plain.specs.Lists.{total, cons_if, is_empty}
use Rattle.plain.specs.Members.{All}
use Rattle.definition.specs.State.{Graph, elements_of, variables_of}
use Rattle.definition.specs.Pivot.{candidates, wanted, collect_one, collected}
use Rattle.definition.specs.Room.{Read, read_list, read_elements, reads}
use Rattle.facts.specs.Reading.{taken, taken_at}

-- ---- the entries are the candidates

entries_list : (c : ℕ) (vs : List ℕ) → map (λ a. a.entry) (read_list c vs) ≡ vs
unfolding read_list
entries_list c [] = refl
entries_list c (v ∷ vs) = ap (λ (l : List ℕ). v ∷ l) (entries_list (suc c) vs)

entries_elements : (g : Graph) (c : ℕ) (es own : List ℕ) → map (λ a. a.entry) (read_elements g c es own) ≡ flat_map (variables_of g) es ++ own
unfolding read_elements flat_map
entries_elements g c [] own = entries_list c own
entries_elements g c (e ∷ es) own =
    map-append _ (read_list (suc c) (variables_of g e)) (read_elements g (suc c + length (variables_of g e)) es own)
    ∙ ap (λ (l : List ℕ). l ++ map (λ a. a.entry) (read_elements g (suc c + length (variables_of g e)) es own)) (entries_list (suc c) (variables_of g e))
    ∙ ap (λ (l : List ℕ). variables_of g e ++ l) (entries_elements g (suc c + length (variables_of g e)) es own)
    ∙ sym (append_assoc (variables_of g e) (flat_map (variables_of g) es) own)

pub read_entries : (g : Graph) (p : ℕ) → map (λ a. a.entry) (reads g p) ≡ candidates g p
unfolding reads candidates
read_entries g p = entries_elements g 0 (elements_of g p) (variables_of g p)

-- ---- how many places have been read

length_list : (c : ℕ) (vs : List ℕ) → length (read_list c vs) ≡ length vs
unfolding read_list
length_list c [] = refl
length_list c (v ∷ vs) = ap suc (length_list (suc c) vs)

-- with the first entry more than c places, with the second more than c + 1, and so on
abbrev pub Late : ℕ → List Read → Type 0
Late c [] = Unit {0}
Late c (a ∷ xs) = (c < a.sofar) × Late (suc c) xs

pub late_append : (c : ℕ) (xs ys : List Read) → Late c xs → Late (c + length xs) ys → Late c (xs ++ ys)
late_append c [] ys h k = let e : c + 0 ≡ c = omega arith in rw e at k
late_append c (a ∷ xs) ys h k = let e : c + suc (length xs) ≡ suc c + length xs = omega arith in (h.0, late_append (suc c) xs ys h.1 (rw e at k))

pub late_left : (c : ℕ) (xs ys : List Read) → Late c (xs ++ ys) → Late c xs
late_left c [] ys h = tt
late_left c (a ∷ xs) ys h = (h.0, late_left (suc c) xs ys h.1)

pub late_right : (c : ℕ) (xs ys : List Read) → Late c (xs ++ ys) → Late (c + length xs) ys
late_right c [] ys h = let e : c + 0 ≡ c = omega arith in rw e h
late_right c (a ∷ xs) ys h = let e : c + suc (length xs) ≡ suc c + length xs = omega arith in rw e (late_right (suc c) xs ys h.1)

late_list : (b c : ℕ) (vs : List ℕ) → b ≤ c → Late b (read_list c vs)
unfolding read_list
late_list b c [] l = tt
late_list b c (v ∷ vs) l = (omega arith, late_list (suc b) (suc c) vs (omega arith))

late_elements : (g : Graph) (b c : ℕ) (es own : List ℕ) → b ≤ c → Late b (read_elements g c es own)
unfolding read_elements
late_elements g b c [] own l = late_list b c own l
late_elements g b c (e ∷ es) own l =
    late_append b (read_list (suc c) (variables_of g e)) (read_elements g (suc c + length (variables_of g e)) es own)
    (late_list b (suc c) (variables_of g e) (omega arith))
    (late_elements g (b + length (read_list (suc c) (variables_of g e))) (suc c + length (variables_of g e)) es own (omega (arith, length_list (suc c) (variables_of g e))))

-- R2: where the pivot has an element, its number is read before any entry
late_first : (g : Graph) (es own : List ℕ) → is_empty es ≡ false → Late 1 (read_elements g 0 es own)
unfolding read_elements is_empty
late_first g [] own h = absurd (mathlib.Core.Bool.false≢true (sym h))
late_first g (e ∷ es) own h =
    late_append 1 (read_list 1 (variables_of g e)) (read_elements g (1 + length (variables_of g e)) es own)
    (late_list 1 1 (variables_of g e) (omega arith))
    (late_elements g (1 + length (read_list 1 (variables_of g e))) (1 + length (variables_of g e)) es own (omega (arith, length_list 1 (variables_of g e))))

pub reads_late : (g : Graph) (p : ℕ) → is_empty (elements_of g p) ≡ false → Late 1 (reads g p)
unfolding reads
reads_late g p h = late_first g (elements_of g p) (variables_of g p) h

-- no more than the places of the pivot and of its elements
within_list : (c : ℕ) (vs : List ℕ) → All (λ a. a.sofar ≤ c + length vs) (read_list c vs)
unfolding read_list
within_list c [] = tt
within_list c (v ∷ vs) = (omega arith, all_imply _ _ (read_list (suc c) vs) (λ a h. omega arith) (within_list (suc c) vs))

within_elements : (g : Graph) (c : ℕ) (es own : List ℕ) → All (λ a. a.sofar ≤ c + length es + total (λ e. length (variables_of g e)) es + length own) (read_elements g c es own)
unfolding read_elements total
within_elements g c [] own = all_imply _ _ (read_list c own) (λ a h. omega arith) (within_list c own)
within_elements g c (e ∷ es) own =
    all_append _ (read_list (suc c) (variables_of g e)) (read_elements g (suc c + length (variables_of g e)) es own)
    (all_imply _ _ (read_list (suc c) (variables_of g e)) (λ a h. omega arith) (within_list (suc c) (variables_of g e)))
    (all_imply _ _ (read_elements g (suc c + length (variables_of g e)) es own) (λ a h. omega arith) (within_elements g (suc c + length (variables_of g e)) es own))

pub reads_within : (g : Graph) (p : ℕ)
    → All (λ a. a.sofar ≤ length (elements_of g p) + length (variables_of g p) + total (λ e. length (variables_of g e)) (elements_of g p)) (reads g p)
unfolding reads
reads_within g p = all_imply _ _ (read_elements g 0 (elements_of g p) (variables_of g p)) (λ a h. omega arith) (within_elements g 0 (elements_of g p) (variables_of g p))

-- ---- where a variable is collected

-- the reading in two parts
pub taken_append : (g : Graph) (p : ℕ) (new : List ℕ) (xs ys : List Read)
    → taken g p new (xs ++ ys) ≡ taken g p new xs ++ taken g p (foldl (collect_one g p) new (map (λ a. a.entry) xs)) ys
unfolding taken
taken_append g p new [] ys = refl
taken_append g p new (a ∷ xs) ys = go (wanted g p new a.entry) _ _ _ (taken_append g p (collect_one g p new a.entry) xs ys)
  where
    go : (b : Bool) (l m k : List Read) → l ≡ m ++ k → cons_if b a l ≡ cons_if b a m ++ k
    go true l m k e = ap (λ (z : List Read). a ∷ z) e
    go false l m k e = e

-- their entries are what the step collects
taken_behind : (g : Graph) (p : ℕ) (new : List ℕ) (xs : List Read) → new ++ map (λ a. a.entry) (taken g p new xs) ≡ foldl (collect_one g p) new (map (λ a. a.entry) xs)
unfolding taken collect_one
taken_behind g p new [] = append-nil new
taken_behind g p new (a ∷ xs) = go (wanted g p new a.entry) (λ l. taken_behind g p l xs)
  where
    go : (b : Bool) → ((l : List ℕ) → l ++ map (λ a. a.entry) (taken g p l xs) ≡ foldl (collect_one g p) l (map (λ a. a.entry) xs))
        → new ++ map (λ a. a.entry) (cons_if b a (taken g p (cond b (new ++ (a.entry ∷ [])) new) xs)) ≡ foldl (collect_one g p) (cond b (new ++ (a.entry ∷ [])) new) (map (λ a. a.entry) xs)
    go true ih = sym (append_assoc new (a.entry ∷ []) (map (λ a. a.entry) (taken g p (new ++ (a.entry ∷ [])) xs))) ∙ ih (new ++ (a.entry ∷ []))
    go false ih = ih new

pub taken_entries : (g : Graph) (p : ℕ) → map (λ a. a.entry) (taken g p [] (reads g p)) ≡ collected g p
unfolding collected
taken_entries g p = taken_behind g p [] (reads g p) ∙ ap (foldl (collect_one g p) []) (read_entries g p)

pub length_taken : (g : Graph) (p : ℕ) → length (taken g p [] (reads g p)) ≡ length (collected g p)
length_taken g p = sym (length-map (taken g p [] (reads g p)) _) ∙ ap length (taken_entries g p)

pub length_taken_at : (g : Graph) (p : ℕ) → length (taken_at g p) ≡ length (collected g p)
unfolding taken_at
length_taken_at g p = length-map (taken g p [] (reads g p)) _ ∙ length_taken g p

-- ---- how many places have been read where the variable number k is collected, counted from 0

late_lower : (c : ℕ) (xs : List Read) → Late (suc c) xs → Late c xs
late_lower c [] h = tt
late_lower c (a ∷ xs) h = (omega (arith, h.0), late_lower (suc c) xs h.1)

late_taken : (g : Graph) (p c : ℕ) (new : List ℕ) (xs : List Read) → Late c xs → Late c (taken g p new xs)
unfolding taken
late_taken g p c new [] h = tt
late_taken g p c new (a ∷ xs) h = go (wanted g p new a.entry) (late_taken g p (suc c) (collect_one g p new a.entry) xs h.1)
  where
    go : (b : Bool) → Late (suc c) (taken g p (collect_one g p new a.entry) xs) → Late c (cons_if b a (taken g p (collect_one g p new a.entry) xs))
    go true k = (h.0, k)
    go false k = late_lower c (taken g p (collect_one g p new a.entry) xs) k

late_at : (c : ℕ) (xs : List Read) (k : ℕ) → Late c xs → k < length xs → c + k < get_or (map (λ a. a.sofar) xs) k 0
late_at c [] k h l = absurd (omega arith)
late_at c (a ∷ xs) zero h l = omega (arith, h.0)
late_at c (a ∷ xs) (suc k) h l = omega (arith, late_at (suc c) xs k h.1 (omega arith))

all_taken : (P : Read → Type 0) (g : Graph) (p : ℕ) (new : List ℕ) (xs : List Read) → All P xs → All P (taken g p new xs)
unfolding taken
all_taken P g p new [] h = tt
all_taken P g p new (a ∷ xs) h =
    all_cons_if P (wanted g p new a.entry) a (taken g p (collect_one g p new a.entry) xs) (λ e. h.0) (all_taken P g p (collect_one g p new a.entry) xs h.1)

all_at : (m : ℕ) (xs : List Read) (k : ℕ) → All (λ a. a.sofar ≤ m) xs → k < length xs → get_or (map (λ a. a.sofar) xs) k 0 ≤ m
all_at m [] k h l = absurd (omega arith)
all_at m (a ∷ xs) zero h l = h.0
all_at m (a ∷ xs) (suc k) h l = all_at m xs k h.1 (omega arith)

pub taken_late : (g : Graph) (p k : ℕ) → is_empty (elements_of g p) ≡ false → k < length (collected g p) → k + 2 ≤ get_or (taken_at g p) k 0
unfolding taken_at
taken_late g p k h l =
    omega (arith, late_at 1 (taken g p [] (reads g p)) k (late_taken g p 1 [] (reads g p) (reads_late g p h)) (omega (arith, length_taken g p)))

pub taken_within : (g : Graph) (p k : ℕ) → k < length (collected g p)
    → get_or (taken_at g p) k 0 ≤ length (elements_of g p) + length (variables_of g p) + total (λ e. length (variables_of g e)) (elements_of g p)
unfolding taken_at
taken_within g p k l =
    all_at _ (taken g p [] (reads g p)) k (all_taken _ g p [] (reads g p) (reads_within g p)) (omega (arith, length_taken g p))
