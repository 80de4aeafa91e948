-- Step 5: what merging keeps. No list, no degree changes; each row that is compared stays a variable and gains, or is merged and has no weight; and the
-- weight of any set of rows that is closed under equal lists is what it was (F8, LL7: no closed form of the classes is needed).
-- Assumes nothing.
use Prim.Native.Nat.{ℕ, ◌+◌, ◌≤◌, ◌<◌}
use native.Mathlib.Omega.{arith}
use mathlib.Core.Path.{◌≡◌, refl, sym, ◌∙◌}
use mathlib.Core.Logic.{◌≢◌}
use mathlib.Core.Bool.{Bool, true, false, cond, ◌&&◌}
use mathlib.Core.List.{List, [], ◌∷◌, foldl, reverse}
use mathlib.Core.Option.{none, some}
use lib.Dec.{eqb}
use lib.ListN.{set, length-set}
use lib.Seq.{get_or-set_same, get_or-set_other}
use borrow.Author.Tests.{eqb-true, eqb-false, ltb-true}
use Rattle.plain.proofs.Logic.{either, cond_has, and_left, and_right}
use Rattle.plain.proofs.Members.{member_here, member_there, apart, member_reverse, kept_was, not_there, not_here}
use Rattle.plain.proofs.Repeats.{distinct_reverse, distinct_keep}
use Rattle.plain.proofs.Sums.{total_moved}
use Rattle.plain.specs.Lists.{member, keep, total}
use Rattle.plain.specs.Members.{Distinct, Within}
use Rattle.definition.specs.State.{Graph, merged, kind, weight, parent, has_weight, put_kind, put_reps, put_parent, put_weight, merge_into}
use Rattle.definition.specs.Merge.{key, same_lists, alike, merge_one, merge_all, merged_alike}
use Rattle.facts.proofs.Sizes.{sized_merge_into}
use Rattle.facts.specs.Invariant.{Sized}

-- ---- the rows of `merge_into`

module _ {n : ℕ} (i j : ℕ) (h : Graph) (s : Sized n h) where
  pub weight_into : i < n → i ≢ j → weight (merge_into i j h) i ≡ weight h i + weight h j
  unfolding merge_into put_kind put_reps put_parent put_weight
  weight_into l ne =
      get_or-set_other (set h.weights i (weight h i + weight h j)) j i 0 0 ne
      ∙ get_or-set_same h.weights i (weight h i + weight h j) 0 (omega (arith, s.weights))

  pub weight_gone : j < n → weight (merge_into i j h) j ≡ 0
  unfolding merge_into put_kind put_reps put_parent put_weight
  weight_gone l =
      get_or-set_same (set h.weights i (weight h i + weight h j)) j 0 0 (omega (arith, s.weights, length-set h.weights i (weight h i + weight h j)))

  pub kind_gone : j < n → kind (merge_into i j h) j ≡ merged
  unfolding merge_into put_kind put_reps put_parent put_weight
  kind_gone l = get_or-set_same h.kinds j merged merged (omega (arith, s.kinds))

pub weight_kept : (i j v : ℕ) (h : Graph) → v ≢ i → v ≢ j → weight (merge_into i j h) v ≡ weight h v
unfolding merge_into put_kind put_reps put_parent put_weight
weight_kept i j v h ni nj =
    get_or-set_other (set h.weights i (weight h i + weight h j)) j v 0 0 nj ∙ get_or-set_other h.weights i v (weight h i + weight h j) 0 ni

pub kind_kept : (i j v : ℕ) (h : Graph) → v ≢ j → kind (merge_into i j h) v ≡ kind h v
unfolding merge_into put_kind put_reps put_parent put_weight
kind_kept i j v h nj = get_or-set_other h.kinds j v merged merged nj

pub parent_kept : (i j v : ℕ) (h : Graph) → v ≢ j → parent (merge_into i j h) v ≡ parent h v
unfolding merge_into put_kind put_reps put_parent put_weight
parent_kept i j v h nj = get_or-set_other h.parents j v (some i) none nj

pub elements_kept : (i j : ℕ) (h : Graph) → (merge_into i j h).elements ≡ h.elements
unfolding merge_into put_kind put_reps put_parent put_weight
elements_kept i j h = refl

pub variables_kept : (i j : ℕ) (h : Graph) → (merge_into i j h).variables ≡ h.variables
unfolding merge_into put_kind put_reps put_parent put_weight
variables_kept i j h = refl

pub degrees_kept : (i j : ℕ) (h : Graph) → (merge_into i j h).degrees ≡ h.degrees
unfolding merge_into put_kind put_reps put_parent put_weight
degrees_kept i j h = refl

-- a set of rows, by its test
abbrev pub part : (ℕ → Bool) → Graph → ℕ → ℕ
part q h v = cond (q v) (weight h v) 0

-- the weight of a set that has both or none stays in it
pub part_moved : {n : ℕ} (q : ℕ → Bool) (i j : ℕ) (h : Graph) (vs : List ℕ) → Sized n h → i < n → j < n → i ≢ j → q i ≡ q j
    → Distinct vs → member i vs ≡ true → member j vs ≡ true → total (part q (merge_into i j h)) vs ≡ total (part q h) vs
part_moved q i j h vs s li lj ne e d mi mj =
    total_moved (part q h) (part q (merge_into i j h)) i j vs d mi mj ne
    (rw (weight_into i j h s li ne, weight_gone i j h s lj, e) (go (q j)))
    (λ x ni nj. rw (weight_kept i j x h ni nj))
  where
    go : (b : Bool) → cond b (weight h i + weight h j) 0 + cond b 0 0 ≡ cond b (weight h i) 0 + cond b (weight h j) 0
    go true = omega arith
    go false = refl

-- ---- step 5

-- what each merge keeps, all of them keep
module _ (P : Graph → Type 0) (key_of : ℕ → ℕ) (vs : List ℕ)
    (merge : (i j : ℕ) (h : Graph) → member i vs ≡ true → member j vs ≡ true → i ≢ j → alike key_of h i j ≡ true → P h → P (merge_into i j h)) where
  keeps_one : (i : ℕ) (js : List ℕ) (h : Graph) → member i vs ≡ true → member i js ≡ false → Within js vs → P h → P (foldl (merge_one key_of i) h js)
  unfolding merge_one
  keeps_one i [] h mi ni w k = k
  keeps_one i (j ∷ js) h mi ni w k =
      keeps_one i js _ mi (not_there i j js ni) (λ x m. w x (member_there x j js m))
      (cond_has P (alike key_of h i j) (λ e. merge i j h mi (w j (member_here j js)) (not_here i j js ni) e k) (λ e. k))

  keeps_all : (js : List ℕ) (h : Graph) → Distinct js → Within js vs → P h → P (merge_all key_of js h)
  unfolding merge_all
  keeps_all [] h d w k = k
  keeps_all (i ∷ js) h d w k =
      keeps_all js _ d.1 (λ x m. w x (member_there x i js m))
      (keeps_one i js h (w i (member_here i js)) d.0 (λ x m. w x (member_there x i js m)) k)

pub merged_keeps : (P : Graph → Type 0) (key_of : ℕ → ℕ) (new : List ℕ) (g : Graph) → Distinct new
    → ((i j : ℕ) (h : Graph) → member i (keep (has_weight g) new) ≡ true → member j (keep (has_weight g) new) ≡ true → i ≢ j → alike key_of h i j ≡ true → P h → P (merge_into i j h))
    → P g → P (merged_alike key_of new g)
unfolding merged_alike
merged_keeps P key_of new g d merge k =
    let vs = keep (has_weight g) new in
    keeps_all P key_of vs merge (reverse vs) g (distinct_reverse vs (distinct_keep (has_weight g) new d)) (λ x m. sym (member_reverse x vs) ∙ m) k

pub data Fate (g h : Graph) (v : ℕ) : Type 0 where
  stays : kind h v ≡ kind g v → weight g v ≤ weight h v → parent h v ≡ parent g v → Fate g h v
  joins : kind h v ≡ merged → weight h v ≡ 0 → Fate g h v

pub record Joined (n : ℕ) (vs : List ℕ) (g h : Graph) : Type 0 where
  pub sized : Sized n h
  pub elements : h.elements ≡ g.elements
  pub variables : h.variables ≡ g.variables
  pub degrees : h.degrees ≡ g.degrees
  pub outside_kind : (v : ℕ) → member v vs ≡ false → kind h v ≡ kind g v
  pub outside_weight : (v : ℕ) → member v vs ≡ false → weight h v ≡ weight g v
  pub outside_parent : (v : ℕ) → member v vs ≡ false → parent h v ≡ parent g v
  pub fate : (v : ℕ) → member v vs ≡ true → Fate g h v
  pub sums : (q : ℕ → Bool) → ((i j : ℕ) → member i vs ≡ true → member j vs ≡ true → same_lists g i j ≡ true → q i ≡ q j)
      → total (part q h) vs ≡ total (part q g) vs

joined_self : {n : ℕ} (vs : List ℕ) (g : Graph) → Sized n g → Joined n vs g g
joined_self vs g s = record {
  sized = s;
  elements = refl;
  variables = refl;
  degrees = refl;
  outside_kind = λ v m. refl;
  outside_weight = λ v m. refl;
  outside_parent = λ v m. refl;
  fate = λ v m. stays refl (omega arith) refl;
  sums = λ q c. refl;
}

same_as : {n : ℕ} {vs : List ℕ} {g h : Graph} (i j : ℕ) → Joined n vs g h → same_lists h i j ≡ true → same_lists g i j ≡ true
unfolding same_lists
same_as i j k e = rw (← k.elements, ← k.variables) e

module _ {n : ℕ} (vs : List ℕ) (g : Graph) (d : Distinct vs) (l : (v : ℕ) → member v vs ≡ true → v < n) where
  joined_merge : (key_of : ℕ → ℕ) (i j : ℕ) (h : Graph) → member i vs ≡ true → member j vs ≡ true → i ≢ j → alike key_of h i j ≡ true → Joined n vs g h
      → Joined n vs g (merge_into i j h)
  unfolding alike
  joined_merge key_of i j h mi mj ne e k =
      let a1 : has_weight h i && has_weight h j && eqb (key key_of h i) (key key_of h j) ≡ true = and_left _ (same_lists h i j) e in
      let a2 : has_weight h i && has_weight h j ≡ true = and_left _ (eqb (key key_of h i) (key key_of h j)) a1 in
      let wi : 0 < weight h i = ltb-true 0 (weight h i) (and_left (has_weight h i) (has_weight h j) a2) in
      let same : same_lists g i j ≡ true = same_as i j k (and_right (has_weight h i && has_weight h j && eqb (key key_of h i) (key key_of h j)) (same_lists h i j) e) in
      record {
        sized = sized_merge_into i j h k.sized;
        elements = elements_kept i j h ∙ k.elements;
        variables = variables_kept i j h ∙ k.variables;
        degrees = degrees_kept i j h ∙ k.degrees;
        outside_kind = λ v m. kind_kept i j v h (apart v j vs m mj) ∙ k.outside_kind v m;
        outside_weight = λ v m. weight_kept i j v h (apart v i vs m mi) (apart v j vs m mj) ∙ k.outside_weight v m;
        outside_parent = λ v m. parent_kept i j v h (apart v j vs m mj) ∙ k.outside_parent v m;
        fate = λ v m. either (Fate g (merge_into i j h) v) (eqb v j)
            (λ q. let r : v ≡ j = eqb-true v j q in rw r (joins (kind_gone i j h k.sized (l j mj)) (weight_gone i j h k.sized (l j mj))))
            (λ q. either (Fate g (merge_into i j h) v) (eqb v i)
            (λ t. let r : v ≡ i = eqb-true v i t in rw r (grow (k.fate i mi) wi))
            (λ t. keep_fate v (eqb-false v i t) (eqb-false v j q) (k.fate v m)));
        sums = λ q c. part_moved q i j h vs k.sized (l i mi) (l j mj) ne (c i j mi mj same) d mi mj ∙ k.sums q c;
      }
    where
      keep_fate : (v : ℕ) → v ≢ i → v ≢ j → Fate g h v → Fate g (merge_into i j h) v
      keep_fate v ni nj (stays a b c) = stays (kind_kept i j v h nj ∙ a) (rw (weight_kept i j v h ni nj) b) (parent_kept i j v h nj ∙ c)
      keep_fate v ni nj (joins a b) = joins (kind_kept i j v h nj ∙ a) (weight_kept i j v h ni nj ∙ b)

      grow : Fate g h i → 0 < weight h i → Fate g (merge_into i j h) i
      grow (stays a b c) w = stays (kind_kept i j i h ne ∙ a) (rw (weight_into i j h k.sized (l i mi) ne) (omega arith)) (parent_kept i j i h ne ∙ c)
      grow (joins a b) w = absurd (omega arith)

-- the rows that are compared: those that have a weight left after step 4
pub joined : {n : ℕ} (key_of : ℕ → ℕ) (new : List ℕ) (g : Graph) → Sized n g → Distinct new → ((v : ℕ) → member v new ≡ true → v < n)
    → Joined n (keep (has_weight g) new) g (merged_alike key_of new g)
joined {n} key_of new g s d l =
    let vs = keep (has_weight g) new in
    merged_keeps (Joined n vs g) key_of new g d
    (joined_merge vs g (distinct_keep (has_weight g) new d) (λ v m. l v (kept_was v (has_weight g) new m)) key_of) (joined_self vs g s)
