-- The marks of a comparison: of the rows below n exactly those of the list are marked, if no mark was as high as the flag. And the comparison by marks is the
-- definition's: two rows whose lists the memory holds are alike where `same_lists` says so.
-- Assumes nothing.
use Prim.Native.Nat.{◌+◌, ◌-◌, ◌<◌, ◌≤◌, ℕ}
use native.Mathlib.Omega.{arith}
use mathlib.Core.Bool.{Bool, true, false, cond, ◌&&◌}
use mathlib.Core.List.{List, [], ◌∷◌, ◌++◌, foldl}
use mathlib.Core.Logic.{◌≢◌, ◌⊎◌, inl, inr}
use mathlib.Core.Path.{◌∙◌, ◌≡◌, ap, refl, sym}
use borrow.Author.Tests.{eq-eqb, lt-ltb, ne_eqb}
use lib.Dec.{eqb}
use lib.IntN.{ℤ}
use lib.ListN.{drop, length}
use Rattle.plain.proofs.Entries.{entries_drop, entries_length}
use Rattle.plain.proofs.Logic.{either}
use Rattle.plain.proofs.Members.{member_cases, member_here, member_there, no_member, not_here, not_there}
use Rattle.plain.proofs.Turns.{times_fold}
use Rattle.plain.specs.Lists.{every, member}
use Rattle.plain.specs.Members.{Distinct, In}
use Rattle.plain.specs.Turns.{entries}
use Rattle.cells.proofs.Fields.{room_up}
use Rattle.cells.proofs.Laws.{mem, room_yes, rd_up_field}
use Rattle.cells.proofs.Rows.{clipped_part}
use Rattle.cells.proofs.Slices.{same?}
use Rattle.cells.specs.Layout.{ELEN, LEN, PE, W}
use Rattle.cells.specs.Rows.{clipped}
use Rattle.cells.specs.View.{Room, at, rd, up}
use Rattle.definition.specs.Merge.{entries_of, same_lists}
use Rattle.definition.specs.State.{Graph, elements_of, variables_of}
use Rattle.facts.proofs.Same.{same_one_sided}
use Rattle.merging.specs.Model.{alike_now, all_marked, has_mark, marking, same_elements, tail_marked}

-- each row of the list is marked
abbrev pub mark_all : ℕ → ℕ → List ℕ → List ℤ → List ℤ
mark_all n flag xs s = foldl (λ m x. up n W m x flag) s xs

pub marking_all : (l : List ℤ) (n flag p k : ℕ) (s : List ℤ) → p + k ≤ length l → marking l n flag p k s ≡ mark_all n flag (entries (at l) p k) s
unfolding marking
marking_all l n flag p k s b = rw (clipped_part (length l) p k (λ z. b)) (times_fold (λ x m. up n W m x flag) (at l) p k s)

pub marks_room : (n flag : ℕ) (xs : List ℕ) (s : List ℤ) → Room n s → Room n (mark_all n flag xs s)
marks_room n flag [] s r = r
marks_room n flag (x ∷ xs) s r = marks_room n flag xs (up n W s x flag) (room_up n W s x flag r)

-- no other field
pub marks_field : (n flag c : ℕ) → eqb W c ≡ false → (xs : List ℕ) (s : List ℤ) (y : ℕ) → rd n c (mark_all n flag xs s) y ≡ rd n c s y
marks_field n flag c e [] s y = refl
marks_field n flag c e (x ∷ xs) s y = marks_field n flag c e xs (up n W s x flag) y ∙ rd_up_field n W c s x flag y e

module _ (n flag y : ℕ) (hy : y < n) where
  one_hit : (s : List ℤ) → Room n s → (x : ℕ) → (x ≡ y) ⊎ (x ≢ y) → (x ≡ y) ⊎ (rd n W s y ≡ flag) → rd n W (up n W s x flag) y ≡ flag
  one_hit s r x (inl e) b = rw e (simp (mem, room_yes n s r, lt-ltb y n hy))
  one_hit s r x (inr d) (inl e) = absurd (d e)
  one_hit s r x (inr d) (inr e) =
      let z : rd n W (up n W s x flag) y ≡ rd n W s y = simp mem in
      z ∙ e

  stays_hit : (xs : List ℕ) (s : List ℤ) → Room n s → rd n W s y ≡ flag → rd n W (mark_all n flag xs s) y ≡ flag
  stays_hit [] s r e = e
  stays_hit (x ∷ xs) s r e = stays_hit xs (up n W s x flag) (room_up n W s x flag r) (one_hit s r x (same? x y) (inr e))

  pub hit : (xs : List ℕ) (s : List ℤ) → Room n s → In y xs → rd n W (mark_all n flag xs s) y ≡ flag
  hit [] s r m = no_member y m
  hit (x ∷ xs) s r m =
      member_cases (rd n W (mark_all n flag (x ∷ xs) s) y ≡ flag) y x xs m
      (λ e. stays_hit xs (up n W s x flag) (room_up n W s x flag r) (one_hit s r x (same? x y) (inl (sym e))))
      (λ d f. hit xs (up n W s x flag) (room_up n W s x flag r) f)

  pub miss : (xs : List ℕ) (s : List ℤ) → member y xs ≡ false → rd n W (mark_all n flag xs s) y ≡ rd n W s y
  miss [] s m = refl
  miss (x ∷ xs) s m =
      let d : y ≢ x = not_here y x xs m in
      let z : rd n W (up n W s x flag) y ≡ rd n W s y = simp mem in
      miss xs (up n W s x flag) (not_there y x xs m) ∙ z

  pub mark_is : (xs : List ℕ) (s : List ℤ) → Room n s → rd n W s y < flag → has_mark n (mark_all n flag xs s) flag y ≡ member y xs
  mark_is xs s r b =
      either (has_mark n (mark_all n flag xs s) flag y ≡ member y xs) (member y xs)
      (λ m. eq-eqb (rd n W (mark_all n flag xs s) y) flag (hit xs s r m) ∙ sym m)
      (λ m. ne_eqb (rd n W (mark_all n flag xs s) y) flag (λ e. let z = miss xs s m in omega arith) ∙ sym m)

  -- no mark is above the flag
  pub mark_below : (xs : List ℕ) (s : List ℤ) → Room n s → rd n W s y < flag → rd n W (mark_all n flag xs s) y < flag + 1
  mark_below xs s r b =
      either (rd n W (mark_all n flag xs s) y < flag + 1) (member y xs)
      (λ m. let z = hit xs s r m in omega arith)
      (λ m. let z = miss xs s m in omega arith)

  -- nor does one fall
  pub mark_higher : (xs : List ℕ) (s : List ℤ) → Room n s → rd n W s y < flag → rd n W s y ≤ rd n W (mark_all n flag xs s) y
  mark_higher xs s r b =
      either (rd n W s y ≤ rd n W (mark_all n flag xs s) y) (member y xs)
      (λ m. let z = hit xs s r m in omega arith)
      (λ m. let z = miss xs s m in omega arith)

-- of the rows below n, xs are marked
pub record Marked (n : ℕ) (s : List ℤ) (flag : ℕ) (xs : List ℕ) : Type 0 where
  pub is : (y : ℕ) → y < n → has_mark n s flag y ≡ member y xs

pub marks : (n flag : ℕ) (xs : List ℕ) (s : List ℤ) → Room n s → ((y : ℕ) → y < n → rd n W s y < flag) → Marked n (mark_all n flag xs s) flag xs
marks n flag xs s r b = record { is = λ y l. mark_is n flag y l xs s r (b y l) }

every_marked : (n flag : ℕ) (s : List ℤ) (xs : List ℕ) → Marked n s flag xs → (ys : List ℕ) → ((y : ℕ) → In y ys → y < n)
    → every (has_mark n s flag) ys ≡ every (λ y. member y xs) ys
unfolding every
every_marked n flag s xs h [] b = refl
every_marked n flag s xs h (y ∷ ys) b = rw (h.is y (b y (member_here y ys)), every_marked n flag s xs h ys (λ z m. b z (member_there z y ys m)))

-- ---- the comparison

-- the memory holds row v's list, which begins with an element, inside the list space
pub record Held (n : ℕ) (l s : List ℤ) (g : Graph) (v : ℕ) : Type 0 where
  pub list : entries (at l) (rd n PE s v) (rd n LEN s v) ≡ elements_of g v ++ variables_of g v
  pub elen : rd n ELEN s v ≡ length (elements_of g v)
  pub first : ℕ
  pub rest : List ℕ
  pub elements : elements_of g v ≡ first ∷ rest
  pub inside : 0 < rd n LEN s v → rd n PE s v + rd n LEN s v ≤ length l

module _ (n : ℕ) (l s : List ℤ) (g : Graph) (v : ℕ) (h : Held n l s g v) where
  whole : entries (at l) (rd n PE s v) (rd n LEN s v) ≡ h.first ∷ entries_of g v
  whole = rw (h.list, h.elements)

  pub held_length : rd n LEN s v ≡ length (entries_of g v) + 1
  held_length = sym (entries_length (at l) (rd n PE s v) (rd n LEN s v)) ∙ ap length whole ∙ omega arith

  -- the entries after the first
  pub held_rest : entries (at l) (rd n PE s v + 1) (rd n LEN s v - 1) ≡ entries_of g v
  held_rest =
      let e : rd n LEN s v ≡ 1 + (rd n LEN s v - 1) = omega (arith, held_length) in
      sym (entries_drop (at l) (rd n PE s v) (rd n LEN s v - 1) 1) ∙ ap (λ (k : ℕ). drop 1 (entries (at l) (rd n PE s v) k)) (sym e) ∙ ap (drop 1) whole

  pub held_inside : rd n PE s v + 1 + (rd n LEN s v - 1) ≤ length l
  held_inside = omega (arith, held_length, h.inside (omega (arith, held_length)))

eq_as : (a b c d : ℕ) → (a ≡ b → c ≡ d) → (c ≡ d → a ≡ b) → eqb a b ≡ eqb c d
eq_as a b c d f g = go (same? a b)
  where
    go : (a ≡ b) ⊎ (a ≢ b) → eqb a b ≡ eqb c d
    go (inl e) = eq-eqb a b e ∙ sym (eq-eqb c d (f e))
    go (inr e) = ne_eqb a b e ∙ sym (ne_eqb c d (λ x. e (g x)))

all_three : (p q r : Bool) → cond p (cond q r false) false ≡ p && q && r
all_three true true r = refl
all_three true false r = refl
all_three false q r = refl

-- K-a in memory: where the entries of i are marked, and its list is of length len with elen elements, the comparison is the definition's
pub alike_same : (n : ℕ) (l s : List ℤ) (g : Graph) (flag i j len elen : ℕ) → Held n l s g i → Held n l s g j → Marked n s flag (entries_of g i)
    → rd n LEN s i ≡ len → rd n ELEN s i ≡ elen → ((y : ℕ) → In y (entries_of g j) → y < n) → Distinct (entries_of g j) → alike_now l n s j len elen flag ≡ same_lists g i j
unfolding alike_now same_elements tail_marked all_marked
alike_same n l s g flag i j len elen hi hj m hl he b d =
    let a = held_length n l s g i hi in
    let c = held_length n l s g j hj in
    all_three (eqb len (rd n LEN s j)) (eqb elen (rd n ELEN s j))
    (every (has_mark n s flag) (entries (at l) (rd n PE s j + 1) (clipped (length l) (rd n PE s j + 1) (rd n LEN s j - 1))))
    ∙ rw (
      clipped_part (length l) (rd n PE s j + 1) (rd n LEN s j - 1) (λ z. held_inside n l s g j hj),
      held_rest n l s g j hj,
      every_marked n flag s (entries_of g i) m (entries_of g j) b,
      eq_as len (rd n LEN s j) (length (entries_of g j)) (length (entries_of g i)) (λ e. omega arith) (λ e. omega arith),
      eq_as elen (rd n ELEN s j) (length (elements_of g j)) (length (elements_of g i)) (λ e. omega (arith, hi.elen, hj.elen)) (λ e. omega (arith, hi.elen, hj.elen)),
    )
    (same_one_sided g i j d)
