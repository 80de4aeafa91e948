-- K-b as a program does it: the first row of a list takes all that are alike, these leave the list, and the rest is compared in the same way.
-- Assumes nothing.
use Prim.Native.Nat.{ℕ, ◌<◌}
use native.Mathlib.Omega.{arith}
use mathlib.Core.Path.{◌≡◌, refl, sym, ap, ◌∙◌}
use mathlib.Core.Logic.{◌≢◌}
use mathlib.Core.Bool.{Bool, true, false, not, ◌&&◌}
use mathlib.Core.List.{List, [], ◌∷◌, foldl}
use lib.Dec.{eqb, ltb}
use borrow.Author.Tests.{ltb-true, lt-ltb}
use Rattle.plain.specs.Lists.{member, keep, cons_if}
use Rattle.plain.specs.Members.{In, Distinct}
use Rattle.plain.proofs.Logic.{clash, cond_has, and_left, and_right}
use Rattle.plain.proofs.Members.{member_here, member_there, member_cases, no_member, not_here, not_there, apart, keep_same}
use Rattle.definition.specs.State.{Graph, weight, has_weight, put_kind, put_reps, put_parent, put_weight, merge_into}
use Rattle.definition.specs.Merge.{key, same_lists, alike, merge_one, merge_all}
use Rattle.facts.specs.Invariant.{Sized}
use Rattle.facts.proofs.Merging.{weight_into, weight_gone, weight_kept}
use Rattle.facts.proofs.Sizes.{sized_merge_into}

module _ (key_of : ℕ → ℕ) where
  -- both of two rows that are alike have a weight
  alike_first : (h : Graph) (i j : ℕ) → alike key_of h i j ≡ true → has_weight h i ≡ true
  unfolding alike
  alike_first h i j e =
      and_left (has_weight h i) (has_weight h j) (and_left (has_weight h i && has_weight h j) (eqb (key key_of h i) (key key_of h j))
      (and_left (has_weight h i && has_weight h j && eqb (key key_of h i) (key key_of h j)) (same_lists h i j) e))

  alike_second : (h : Graph) (i j : ℕ) → alike key_of h i j ≡ true → has_weight h j ≡ true
  unfolding alike
  alike_second h i j e =
      and_right (has_weight h i) (has_weight h j) (and_left (has_weight h i && has_weight h j) (eqb (key key_of h i) (key key_of h j))
      (and_left (has_weight h i && has_weight h j && eqb (key key_of h i) (key key_of h j)) (same_lists h i j) e))

  taken : (i j : ℕ) (h : Graph) → alike key_of h i j ≡ true → merge_one key_of i h j ≡ merge_into i j h
  unfolding merge_one
  taken i j h e = rw e

  left : (i j : ℕ) (h : Graph) → alike key_of h i j ≡ false → merge_one key_of i h j ≡ h
  unfolding merge_one
  left i j h e = rw e

  -- ---- rows without a weight may be left out

  pub light_first : (h : Graph) (i j : ℕ) → has_weight h i ≡ false → merge_one key_of i h j ≡ h
  unfolding merge_one
  light_first h i j e = cond_has (λ (b : Graph). b ≡ h) (alike key_of h i j) (λ a. clash (has_weight h i) (alike_first h i j a) e) (λ a. refl)

  pub light_second : (h : Graph) (i j : ℕ) → has_weight h j ≡ false → merge_one key_of i h j ≡ h
  unfolding merge_one
  light_second h i j e = cond_has (λ (b : Graph). b ≡ h) (alike key_of h i j) (λ a. clash (has_weight h j) (alike_second h i j a) e) (λ a. refl)

  light_fold : (i : ℕ) (js : List ℕ) (h : Graph) → has_weight h i ≡ false → foldl (merge_one key_of i) h js ≡ h
  light_fold i [] h e = refl
  light_fold i (j ∷ js) h e = ap (λ (b : Graph). foldl (merge_one key_of i) b js) (light_first h i j e) ∙ light_fold i js h e

  -- and have none later
  light_one : (i j v : ℕ) (h : Graph) → has_weight h v ≡ false → has_weight (merge_one key_of i h j) v ≡ false
  unfolding merge_one
  light_one i j v h e =
      cond_has (λ (b : Graph). has_weight b v ≡ false) (alike key_of h i j)
      (λ a. ap (ltb 0) (weight_kept i j v h
      (λ q. clash (has_weight h v) (ap (has_weight h) q ∙ alike_first h i j a) e) (λ q. clash (has_weight h v) (ap (has_weight h) q ∙ alike_second h i j a) e)) ∙ e)
      (λ a. e)

  light_after : (i v : ℕ) (js : List ℕ) (h : Graph) → has_weight h v ≡ false → has_weight (foldl (merge_one key_of i) h js) v ≡ false
  light_after i v [] h e = e
  light_after i v (j ∷ js) h e = light_after i v js (merge_one key_of i h j) (light_one i j v h e)

  module _ (p : ℕ → Bool) where
    -- those that are left out have no weight
    abbrev Spare : List ℕ → Graph → Type 0
    Spare js h = (j : ℕ) → In j js → p j ≡ false → has_weight h j ≡ false

    fold_spare : (i : ℕ) (js : List ℕ) (h : Graph) → Spare js h → foldl (merge_one key_of i) h js ≡ foldl (merge_one key_of i) h (keep p js)
    unfolding keep
    fold_spare i [] h s = refl
    fold_spare i (j ∷ js) h s = go (p j) refl (λ (b : Graph) t. fold_spare i js b t)
      where
        go : (b : Bool) → p j ≡ b → ((h : Graph) → Spare js h → foldl (merge_one key_of i) h js ≡ foldl (merge_one key_of i) h (keep p js))
            → foldl (merge_one key_of i) (merge_one key_of i h j) js ≡ foldl (merge_one key_of i) h (cons_if b j (keep p js))
        go true e ih = ih (merge_one key_of i h j) (λ x m f. light_one i j x h (s x (member_there x j js m) f))
        go false e ih = ap (λ (b : Graph). foldl (merge_one key_of i) b js) (light_second h i j (s j (member_here j js) e)) ∙ ih h (λ x m f. s x (member_there x j js m) f)

    pub all_spare : (js : List ℕ) (h : Graph) → Spare js h → merge_all key_of js h ≡ merge_all key_of (keep p js) h
    unfolding keep merge_all
    all_spare [] h s = refl
    all_spare (i ∷ js) h s = go (p i) refl (λ (b : Graph) t. all_spare js b t)
      where
        rest : Spare js h
        rest x m f = s x (member_there x i js m) f

        go : (b : Bool) → p i ≡ b → ((h : Graph) → Spare js h → merge_all key_of js h ≡ merge_all key_of (keep p js) h)
            → merge_all key_of js (foldl (merge_one key_of i) h js) ≡ merge_all key_of (cons_if b i (keep p js)) h
        go true e ih =
            ih (foldl (merge_one key_of i) h js) (λ x m f. light_after i x js h (rest x m f))
            ∙ ap (merge_all key_of (keep p js)) (fold_spare i js h rest)
        go false e ih = ap (merge_all key_of js) (light_fold i js h (s i (member_here i js) e)) ∙ ih h rest

  -- ---- who is taken is known from the start

  module _ {n : ℕ} (i : ℕ) (l : i < n) where
    alike_merge : (k j : ℕ) (h : Graph) → Sized n h → i ≢ k → j ≢ i → j ≢ k → has_weight h i ≡ true → alike key_of (merge_into i k h) i j ≡ alike key_of h i j
    unfolding alike merge_into put_kind put_reps put_parent put_weight key same_lists
    alike_merge k j h s nk ni nj e =
        rw (ap (ltb 0) (weight_kept i k j h ni nj), e, heavy)
      where
        heavy : has_weight (merge_into i k h) i ≡ true
        heavy = lt-ltb 0 (weight (merge_into i k h) i) (omega (arith, ltb-true 0 (weight h i) e, weight_into i k h s l nk))

    sized_one : (k : ℕ) (h : Graph) → Sized n h → Sized n (merge_one key_of i h k)
    unfolding merge_one
    sized_one k h s = cond_has (Sized n) (alike key_of h i k) (λ a. sized_merge_into i k h s) (λ a. s)

    alike_one : (k j : ℕ) (h : Graph) → Sized n h → i ≢ k → j ≢ i → j ≢ k → alike key_of (merge_one key_of i h k) i j ≡ alike key_of h i j
    unfolding merge_one
    alike_one k j h s nk ni nj =
        cond_has (λ (b : Graph). alike key_of b i j ≡ alike key_of h i j) (alike key_of h i k) (λ a. alike_merge k j h s nk ni nj (alike_first h i k a)) (λ a. refl)

    -- one by one, as chosen before the first is taken
    pub fold_chosen : (js : List ℕ) (h : Graph) → Sized n h → member i js ≡ false → Distinct js
        → foldl (merge_one key_of i) h js ≡ foldl (λ b j. merge_into i j b) h (keep (alike key_of h i) js)
    unfolding keep
    fold_chosen [] h s o d = refl
    fold_chosen (k ∷ js) h s o d =
        fold_chosen js (merge_one key_of i h k) (sized_one k h s) (not_there i k js o) d.1
        ∙ ap (foldl (λ b j. merge_into i j b) (merge_one key_of i h k))
        (keep_same (alike key_of (merge_one key_of i h k) i) (alike key_of h i) js
        (λ x m. alike_one k x h s (not_here i k js o) (λ q. apart i x js (not_there i k js o) m (sym q)) (λ q. apart k x js d.0 m (sym q))))
        ∙ go (alike key_of h i k) refl
      where
        go : (b : Bool) → alike key_of h i k ≡ b
            → foldl (λ b j. merge_into i j b) (merge_one key_of i h k) (keep (alike key_of h i) js) ≡ foldl (λ b j. merge_into i j b) h (cons_if b k (keep (alike key_of h i) js))
        go true e = ap (λ (b : Graph). foldl (λ b j. merge_into i j b) b (keep (alike key_of h i) js)) (taken i k h e)
        go false e = ap (λ (b : Graph). foldl (λ b j. merge_into i j b) b (keep (alike key_of h i) js)) (left i k h e)

    -- who is taken has no weight
    taken_light : (j : ℕ) (js : List ℕ) (h : Graph) → Sized n h → member i js ≡ false → Distinct js → ((v : ℕ) → In v js → v < n) → In j js → alike key_of h i j ≡ true
        → has_weight (foldl (merge_one key_of i) h js) j ≡ false
    taken_light j [] h s o d b m e = no_member j m
    taken_light j (k ∷ js) h s o d b m e =
        member_cases (has_weight (foldl (merge_one key_of i) (merge_one key_of i h k) js) j ≡ false) j k js m
        (λ q. light_after i j js (merge_one key_of i h k) (rw q (gone k (b k (member_here k js)) (ap (alike key_of h i) (sym q) ∙ e))))
        (λ nk r. taken_light j js (merge_one key_of i h k) (sized_one k h s) (not_there i k js o) d.1 (λ v x. b v (member_there v k js x)) r
        (alike_one k j h s (not_here i k js o) (λ q. apart i j js (not_there i k js o) r (sym q)) nk ∙ e))
      where
        gone : (k : ℕ) → k < n → alike key_of h i k ≡ true → has_weight (merge_one key_of i h k) k ≡ false
        gone k lk a = rw (taken i k h a, weight_gone i k h s lk)

    -- K-b
    pub absorbing : (js : List ℕ) (h : Graph) → Sized n h → member i js ≡ false → Distinct js → ((v : ℕ) → In v js → v < n)
        → merge_all key_of (i ∷ js) h ≡ merge_all key_of (keep (λ j. not (alike key_of h i j)) js) (foldl (λ b j. merge_into i j b) h (keep (alike key_of h i) js))
    unfolding merge_all
    absorbing js h s o d b =
        all_spare (λ j. not (alike key_of h i j)) js (foldl (merge_one key_of i) h js) (λ j m e. taken_light j js h s o d b m (alike_back (alike key_of h i j) e))
        ∙ ap (merge_all key_of (keep (λ j. not (alike key_of h i j)) js)) (fold_chosen js h s o d)
      where
        alike_back : (a : Bool) → not a ≡ false → a ≡ true
        alike_back true e = refl
        alike_back false e = sym e
