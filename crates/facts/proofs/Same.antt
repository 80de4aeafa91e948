-- `same_lists` of two rows: what it says of their entries, that it is an equivalence (F8, K-a) which has one key for each class, and the one-sided test that a
-- program can make.
-- Assumes nothing.
use Prim.Native.Nat.{ℕ}
use mathlib.Core.Path.{◌≡◌, refl, sym, ap, ◌∙◌}
use mathlib.Core.Bool.{Bool, true, ◌&&◌}
use lib.Dec.{eqb}
use lib.ListN.{length}
use borrow.Author.Tests.{eqb-true, eq-eqb}
use Rattle.plain.specs.Lists.{member, every, same_members, itself}
use Rattle.plain.specs.Members.{Distinct, Within}
use Rattle.plain.proofs.Logic.{and_left, and_right, either}
use Rattle.plain.proofs.Repeats.{same_within, within_same, same_by_half, length_same}
use Rattle.plain.proofs.Sums.{total_alike}
use Rattle.definition.specs.State.{Graph, elements_of}
use Rattle.definition.specs.Merge.{entries_of, key, same_lists}

pub same_entries : (g : Graph) (i j : ℕ) → same_lists g i j ≡ true
    → (length (entries_of g j) ≡ length (entries_of g i)) × (length (elements_of g j) ≡ length (elements_of g i))
    × Within (entries_of g j) (entries_of g i) × Within (entries_of g i) (entries_of g j)
unfolding same_lists
same_entries g i j h =
    let p : Bool = eqb (length (entries_of g j)) (length (entries_of g i)) in
    let q : Bool = eqb (length (elements_of g j)) (length (elements_of g i)) in
    let r : Bool = same_members (entries_of g j) (entries_of g i) in
    let a : length (entries_of g j) ≡ length (entries_of g i) = eqb-true _ _ (and_left p q (and_left (p && q) r h)) in
    let b : length (elements_of g j) ≡ length (elements_of g i) = eqb-true _ _ (and_right p q (and_left (p && q) r h)) in
    let w = same_within (entries_of g j) (entries_of g i) (and_right (p && q) r h) in
    (a, b, w.0, w.1)

-- and the other way, where no list has an entry twice
pub entries_same : (g : Graph) (i j : ℕ) → Distinct (entries_of g i) → Distinct (entries_of g j) → length (elements_of g j) ≡ length (elements_of g i)
    → Within (entries_of g j) (entries_of g i) → Within (entries_of g i) (entries_of g j) → same_lists g i j ≡ true
unfolding same_lists
entries_same g i j d e l w v =
    rw (
      eq-eqb (length (entries_of g j)) (length (entries_of g i)) (length_same (entries_of g j) (entries_of g i) e d w v),
      eq-eqb (length (elements_of g j)) (length (elements_of g i)) l,
    )
    (within_same (entries_of g j) (entries_of g i) w v)

-- ---- F8: it is an equivalence

pub same_self : (g : Graph) (i : ℕ) → same_lists g i i ≡ true
unfolding same_lists
same_self g i =
    rw (eq-eqb (length (entries_of g i)) (length (entries_of g i)) refl, eq-eqb (length (elements_of g i)) (length (elements_of g i)) refl)
    (within_same (entries_of g i) (entries_of g i) (λ x m. m) (λ x m. m))

pub same_back : (g : Graph) (i j : ℕ) → same_lists g i j ≡ true → same_lists g j i ≡ true
unfolding same_lists
same_back g i j h =
    let k = same_entries g i j h in
    rw (eq-eqb (length (entries_of g i)) (length (entries_of g j)) (sym k.0), eq-eqb (length (elements_of g i)) (length (elements_of g j)) (sym k.1))
    (within_same (entries_of g i) (entries_of g j) k.3 k.2)

pub same_through : (g : Graph) (i j k : ℕ) → same_lists g i j ≡ true → same_lists g j k ≡ true → same_lists g i k ≡ true
unfolding same_lists
same_through g i j k h f =
    let a = same_entries g i j h in
    let b = same_entries g j k f in
    rw (
      eq-eqb (length (entries_of g k)) (length (entries_of g i)) (b.0 ∙ a.0),
      eq-eqb (length (elements_of g k)) (length (elements_of g i)) (b.1 ∙ a.1),
    )
    (within_same (entries_of g k) (entries_of g i) (λ x m. a.2 x (b.2 x m)) (λ x m. b.3 x (a.3 x m)))

-- rows of one class have one key, whatever is made of the sum (LL2)
pub same_key : (key_of : ℕ → ℕ) (g : Graph) (i j : ℕ) → Distinct (entries_of g i) → Distinct (entries_of g j) → same_lists g i j ≡ true → key key_of g i ≡ key key_of g j
unfolding key
same_key key_of g i j d e h =
    let k = same_entries g i j h in
    ap key_of (total_alike itself (entries_of g i) (entries_of g j) d e k.3 k.2)

-- ---- by half of it

-- the test of the Rust: equal lengths, and each entry of j is one of i's
pub same_one_sided : (g : Graph) (i j : ℕ) → Distinct (entries_of g j)
    → eqb (length (entries_of g j)) (length (entries_of g i)) && eqb (length (elements_of g j)) (length (elements_of g i))
    && every (λ x. member x (entries_of g i)) (entries_of g j) ≡ same_lists g i j
unfolding same_lists
same_one_sided g i j d =
    either (p && q && half ≡ p && q && whole) p (λ e. rw (same_by_half (entries_of g j) (entries_of g i) d (eqb-true _ _ e))) (λ e. rw e)
  where
    p : Bool
    p = eqb (length (entries_of g j)) (length (entries_of g i))

    q : Bool
    q = eqb (length (elements_of g j)) (length (elements_of g i))

    half : Bool
    half = every (λ x. member x (entries_of g i)) (entries_of g j)

    whole : Bool
    whole = same_members (entries_of g j) (entries_of g i)
