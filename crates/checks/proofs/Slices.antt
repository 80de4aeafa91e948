-- What the library's words for a whole slice say in the words of the definition.
-- Assumes nothing.
use Prim.Native.Nat.{ℕ, zero, suc, ◌+◌, ◌-◌, ◌≤◌, ◌<◌}
use native.Mathlib.Omega.{arith}
use native.Mathlib.Numerals.{add-one}
use mathlib.Core.Path.{◌≡◌, refl, sym, ap, ◌∙◌}
use mathlib.Core.Bool.{Bool, true, false, not, ◌&&◌, false≢true}
use mathlib.Core.List.{List, [], ◌∷◌, map}
use lib.Dec.{ltb}
use lib.IntN.{ℤ, pos, negsuc, nat_abs}
use lib.Signed.{le_z, lt_z, non_neg}
use lib.ListN.{length, get_or, take, drop, length-take}
use lib.Seq.{slice, get_or-take, get_or-drop}
use Rattle.std.proofs.lemmas.List.{drop-take}
use borrow.Author.Tests.{le-ltb, ltb-true}
use Rattle.std.specs.List.{list_all, range_with_len, AllWithin, HoldsAt}
use Rattle.std.specs.Bool.{MatchBool}
use Rattle.std.specs.Ordering.{int_cmp, is_le}
use Rattle.plain.specs.Lists.{every, rises, rises_from, count_up}
use Rattle.plain.proofs.Logic.{and_no, and_both, and_left, and_right, bool_ext}
use Rattle.definition.specs.Pattern.{Pattern, climbs, climbs_from, column, column_count, columns, jumbled}
use Rattle.checks.proofs.Orders.{le_is}

-- number i of a slice
abbrev pub at : List ℤ → ℕ → ℤ
at xs i = get_or xs i (pos 0)

-- ---- neighbours: each number passes a test with the one before it

module _ (t : ℤ → ℤ → Bool) where
  -- behind the number b
  unfoldable pub chained_from : ℤ → List ℤ → Bool
  chained_from b [] = true
  chained_from b (x ∷ xs) = t b x && chained_from x xs

  unfoldable pub chained : List ℤ → Bool
  chained [] = true
  chained (x ∷ xs) = chained_from x xs

  from_each : (b : ℤ) (xs : List ℤ) → ((k : ℕ) → suc k < length (b ∷ xs) → t (at (b ∷ xs) k) (at (b ∷ xs) (suc k)) ≡ true) → chained_from b xs ≡ true
  unfolding chained_from
  from_each b [] h = refl
  from_each b (x ∷ xs) h = and_both (t b x) (chained_from x xs) (h 0 (omega arith)) (from_each x xs (λ k l. h (suc k) (omega arith)))

  each_from : (b : ℤ) (xs : List ℤ) → chained_from b xs ≡ true → (k : ℕ) → suc k < length (b ∷ xs) → t (at (b ∷ xs) k) (at (b ∷ xs) (suc k)) ≡ true
  unfolding chained_from
  each_from b [] h k l = absurd (omega arith)
  each_from b (x ∷ xs) h zero l = and_left (t b x) (chained_from x xs) h
  each_from b (x ∷ xs) h (suc k) l = each_from x xs (and_right (t b x) (chained_from x xs) h) k (omega arith)

  -- every number and the next
  abbrev pub Each : List ℤ → Type 0
  Each xs = (k : ℕ) → k + 1 < length xs → t (at xs k) (at xs (k + 1)) ≡ true

  chained_each : (xs : List ℤ) → Each xs → chained xs ≡ true
  unfolding chained
  chained_each [] h = refl
  chained_each (x ∷ xs) h = from_each x xs (λ k l. let e = h k (omega arith) in rw (add-one k) at e)

  each_chained : (xs : List ℤ) → chained xs ≡ true → Each xs
  unfolding chained
  each_chained [] h k l = absurd (omega arith)
  each_chained (x ∷ xs) h k l = rw (add-one k) (each_from x xs h k (omega arith))

  pub chained_is : (xs : List ℤ) (r : Bool) → (r ≡ true → Each xs) → (Each xs → r ≡ true) → r ≡ chained xs
  chained_is xs r f g = bool_ext r (chained xs) (λ e. chained_each xs (f e)) (λ e. g (each_chained xs e))

-- ---- the pointers: no number is below the one before it

less_not : (x y : ℤ) → lt_z x y ≡ true → lt_z y x ≡ false
less_not (pos a) (pos b) e = le-ltb b a (omega (arith, ltb-true a b e))
less_not (pos a) (negsuc b) e = absurd (false≢true e)
less_not (negsuc a) (pos b) e = refl
less_not (negsuc a) (negsuc b) e = le-ltb a b (omega (arith, ltb-true b a e))

-- `x <= y`, as an `Ord` has it
pub is_le_told : (x y : ℤ) → is_le (int_cmp x y) ≡ le_z x y
is_le_told x y = sym (le_is x y ∙ go (lt_z x y) (lt_z y x) refl refl)
  where
    go : (b c : Bool) → lt_z x y ≡ b → lt_z y x ≡ c → not (lt_z y x) ≡ is_le (int_cmp x y)
    go true c e f = rw (e, less_not x y e) refl
    go false true e f = rw (e, f) refl
    go false false e f = rw (e, f) refl

climbs_from_is : (b : ℤ) (xs : List ℤ) → chained_from le_z b xs ≡ climbs_from b xs
unfolding chained_from climbs_from
climbs_from_is b [] = refl
climbs_from_is b (x ∷ xs) = ap (λ (c : Bool). le_z b x && c) (climbs_from_is x xs)

climbs_is : (xs : List ℤ) → chained le_z xs ≡ climbs xs
unfolding chained climbs
climbs_is [] = refl
climbs_is (x ∷ xs) = climbs_from_is x xs

pub told_climbs : (xs : List ℤ) (r : Bool) → (r ≡ true → Each le_z xs) → (Each le_z xs → r ≡ true) → r ≡ climbs xs
told_climbs xs r f g = chained_is le_z xs r f g ∙ climbs_is xs

-- ---- the rows of a column, none below 0: each is above the one before it

lt_numbers : (x y : ℤ) → non_neg x ≡ true → non_neg y ≡ true → lt_z x y ≡ ltb (nat_abs x) (nat_abs y)
lt_numbers (pos a) (pos b) e f = refl
lt_numbers (pos a) (negsuc b) e f = absurd (false≢true f)
lt_numbers (negsuc a) y e f = absurd (false≢true e)

rises_from_is : (b : ℤ) (xs : List ℤ) → ((k : ℕ) → k < length (b ∷ xs) → non_neg (at (b ∷ xs) k) ≡ true) → chained_from lt_z b xs ≡ rises_from (nat_abs b) (map nat_abs xs)
unfolding chained_from rises_from
rises_from_is b [] h = refl
rises_from_is b (x ∷ xs) h =
    ap (λ (c : Bool). c && chained_from lt_z x xs) (lt_numbers b x (h 0 (omega arith)) (h 1 (omega arith)))
    ∙ ap (λ (c : Bool). ltb (nat_abs b) (nat_abs x) && c) (rises_from_is x xs (λ k l. h (suc k) (omega arith)))

rises_is : (xs : List ℤ) → ((k : ℕ) → k < length xs → non_neg (at xs k) ≡ true) → chained lt_z xs ≡ rises (map nat_abs xs)
unfolding chained rises
rises_is [] h = refl
rises_is (x ∷ xs) h = rises_from_is x xs h

pub told_rises : (xs : List ℤ) (r : Bool) → (r ≡ true → Each lt_z xs) → (Each lt_z xs → r ≡ true) → ((k : ℕ) → k < length xs → non_neg (at xs k) ≡ true) → r ≡ rises (map nat_abs xs)
told_rises xs r f g signs = chained_is lt_z xs r f g ∙ rises_is xs signs

-- of a part of a slice
pub part_rises : (xs : List ℤ) (from to : ℕ) (r : Bool) → from ≤ to → to ≤ length xs
    → (r ≡ true → Each lt_z (take (to - from) (drop from xs))) → (Each lt_z (take (to - from) (drop from xs)) → r ≡ true)
    → ((k : ℕ) → k < to → non_neg (at xs k) ≡ true) → r ≡ rises (map nat_abs (slice from to xs))
part_rises xs from to r up within f g signs =
    let part = take (to - from) (drop from xs) in
    let whole : from + (to - from) ≡ to = omega arith in
    let same : part ≡ slice from to xs = sym (drop-take from (to - from) xs) ∙ ap (λ (j : ℕ). drop from (take j xs)) whole in
    told_rises part r f g (λ k l.
    let short : k < to - from = omega (arith, l, length-take (to - from) (drop from xs)) in
    ap non_neg (get_or-take (to - from) (drop from xs) k (pos 0) short ∙ get_or-drop from xs k (pos 0)) ∙ signs (from + k) (omega arith))
    ∙ ap (λ (ys : List ℤ). rises (map nat_abs ys)) same

-- ---- each element passes a test

pub every_is : {A : Type 0} (p : A → Bool) (xs : List A) → list_all p xs ≡ every p xs
unfolding every
every_is p [] = refl
every_is p (x ∷ xs) = ap (λ (b : Bool). p x && b) (every_is p xs)

-- as the library's search of an item that fails answers
module _ {A : Type 0} (p : A → Bool) where
  each_all : (xs : List A) → ((k : ℕ) (d : A) → k < length xs → p (get_or xs k d) ≡ true) → list_all p xs ≡ true
  each_all [] h = refl
  each_all (x ∷ xs) h = and_both (p x) (list_all p xs) (h 0 x (omega arith)) (each_all xs (λ k d l. h (suc k) d (omega arith)))

  one_all : (xs : List A) (k : ℕ) → k < length xs → ((d : A) → p (get_or xs k d) ≡ false) → list_all p xs ≡ false
  one_all [] k l h = absurd (omega arith)
  one_all (x ∷ xs) zero l h = ap (λ (b : Bool). b && list_all p xs) (h x)
  one_all (x ∷ xs) (suc k) l h = ap (λ (b : Bool). p x && b) (one_all xs k (omega arith) h) ∙ and_no (p x)

  pub any_told : (xs : List A) (r : Bool) → MatchBool r ((k : ℕ) × (k < length xs) × HoldsAt (λ x. p x ≡ false) xs k) (AllWithin (λ x. p x ≡ true) xs 0 (length xs)) → r ≡ not (list_all p xs)
  any_told xs true h = ap not (sym (one_all xs h.0 h.1 h.2))
  any_told xs false h = ap not (sym (each_all xs (λ k d l. h k d (omega arith) l)))

-- the columns, one by one
every_counted : {A : Type 0} (p : A → Bool) (F : ℕ → A) (i n : ℕ) → list_all (λ k. p (F k)) (range_with_len i n) ≡ every p (map F (count_up i n))
unfolding every count_up
every_counted p F i zero = refl
every_counted p F i (suc n) =
    ap (λ (b : Bool). p (F i) && b)
    (ap (λ (j : ℕ). list_all (λ k. p (F k)) (range_with_len j n)) (add-one i) ∙ every_counted p F (suc i) n)

pub jumbled_is : (a : Pattern) → not (list_all (λ k. rises (column a k)) (range_with_len 0 (column_count a))) ≡ jumbled (columns a)
unfolding jumbled columns
jumbled_is a = ap not (every_counted rises (column a) 0 (column_count a))
