-- Each entry of a list takes those alike behind it: then the first of each class has all of it.
-- Assumes nothing.
use Prim.Native.Nat.{ℕ}
use mathlib.Core.Path.{◌≡◌, refl, sym, ap, ◌∙◌}
use mathlib.Core.Logic.{◌≢◌}
use mathlib.Core.Bool.{Bool, true, false, cond, ◌&&◌}
use mathlib.Core.List.{List, [], ◌∷◌, foldl}
use lib.Dec.{eqb}
use borrow.Author.Tests.{eq-eqb, ne_eqb, eqb-true}
use Rattle.plain.specs.Lists.{member, keep, cons_if}
use Rattle.plain.specs.Members.{In, Distinct}
use Rattle.plain.specs.Turns.{upd}
use Rattle.plain.specs.Classes.{Equivalence, first_like, take_one, take_all, Alone}
use Rattle.plain.proofs.Logic.{either, and_left, bool_ext, clash}
use Rattle.plain.proofs.Members.{no_member, member_here, member_there, member_cases, not_there, apart}
use Rattle.plain.proofs.Folds.{fold_other, fold_row}

-- ---- the first that is like j

module _ (like : ℕ → ℕ → Bool) where
  pub first_here : (i j : ℕ) (is : List ℕ) → like i j ≡ true → first_like like (i ∷ is) j ≡ i
  unfolding first_like
  first_here i j is h = rw h

  pub first_there : (i j : ℕ) (is : List ℕ) → like i j ≡ false → first_like like (i ∷ is) j ≡ first_like like is j
  unfolding first_like
  first_there i j is h = rw h

  -- it stands in the list and is like j, if any entry is
  pub first_found : (i j : ℕ) (vs : List ℕ) → In i vs → like i j ≡ true → In (first_like like vs j) vs × (like (first_like like vs j) j ≡ true)
  first_found i j [] m h = no_member i m
  first_found i j (v ∷ vs) m h =
      either (In (first_like like (v ∷ vs) j) (v ∷ vs) × (like (first_like like (v ∷ vs) j) j ≡ true)) (like v j)
      (λ e. rw (first_here v j vs e) (member_here v vs, e))
      (λ e.
      let r = first_found i j vs (member_cases (In i vs) i v vs m (λ q. clash (like v j) (ap (λ (x : ℕ). like x j) (sym q) ∙ h) e) (λ ne k. k)) h in
      rw (first_there v j vs e) (member_there (first_like like vs j) v vs r.0, r.1))

  -- entries that are not like j may go
  pub first_keep : (p : ℕ → Bool) (j : ℕ) (vs : List ℕ) → ((i : ℕ) → In i vs → like i j ≡ true → p i ≡ true) → first_like like (keep p vs) j ≡ first_like like vs j
  unfolding first_like keep
  first_keep p j [] h = refl
  first_keep p j (v ∷ vs) h = go (p v) refl (first_keep p j vs (λ i m. h i (member_there i v vs m)))
    where
      go : (b : Bool) → p v ≡ b → first_like like (keep p vs) j ≡ first_like like vs j → first_like like (cons_if b v (keep p vs)) j ≡ cond (like v j) v (first_like like vs j)
      go true e ih = rw ih
      go false e ih = either (first_like like (keep p vs) j ≡ cond (like v j) v (first_like like vs j)) (like v j)
          (λ k. clash (p v) (h v (member_here v vs) k) e)
          (λ k. rw k ih)

  module _ (e : Equivalence like) where
    pub like_same : (i x y : ℕ) → like x y ≡ true → like i x ≡ like i y
    like_same i x y h = bool_ext (like i x) (like i y) (λ k. e.through i x y k h) (λ k. e.through i y x k (e.back x y h))

    pub first_in_lem : (j : ℕ) (vs : List ℕ) → In j vs → In (first_like like vs j) vs
    first_in_lem j vs m = (first_found j j vs m (e.self j)).0

    pub first_like_lem : (j : ℕ) (vs : List ℕ) → In j vs → like (first_like like vs j) j ≡ true
    first_like_lem j vs m = (first_found j j vs m (e.self j)).1

    -- one for the whole class
    pub first_same : (i j : ℕ) (vs : List ℕ) → In i vs → like i j ≡ true → first_like like vs i ≡ first_like like vs j
    first_same i j [] m h = no_member i m
    first_same i j (v ∷ vs) m h =
        either (first_like like (v ∷ vs) i ≡ first_like like (v ∷ vs) j) (like v i)
        (λ k. first_here v i vs k ∙ sym (first_here v j vs (sym (like_same v i j h) ∙ k)))
        (λ k.
        first_there v i vs k
        ∙ first_same i j vs (member_cases (In i vs) i v vs m (λ q. clash (like v i) (ap (λ (x : ℕ). like v x) q ∙ e.self v) k) (λ ne r. r)) h
        ∙ sym (first_there v j vs (sym (like_same v i j h) ∙ k)))

    pub first_twice : (j : ℕ) (vs : List ℕ) → In j vs → first_like like vs (first_like like vs j) ≡ first_like like vs j
    first_twice j vs m = first_same (first_like like vs j) j vs (first_in_lem j vs m) (first_like_lem j vs m)

-- ---- the loop

module _ (like : ℕ → ℕ → Bool) where
  abbrev takes : (ℕ → ℕ) → ℕ → ℕ → Bool
  takes owner i j = (eqb (owner i) i && eqb (owner j) j) && like i j

  one_at : (i j v : ℕ) (owner : ℕ → ℕ) → take_one like i owner j v ≡ cond (takes owner i j) (cond (eqb v j) i (owner v)) (owner v)
  unfolding take_one upd
  one_at i j v owner = go (takes owner i j)
    where
      go : (b : Bool) → cond b (upd owner j i) owner v ≡ cond b (cond (eqb v j) i (owner v)) (owner v)
      go true = refl
      go false = refl

  same_both : (b : Bool) (x : ℕ) → cond b x x ≡ x
  same_both true x = refl
  same_both false x = refl

  -- i itself is left as it is
  one_first : (i j : ℕ) (owner : ℕ → ℕ) → take_one like i owner j i ≡ owner i
  one_first i j owner = one_at i j i owner ∙ go (takes owner i j) refl
    where
      go : (b : Bool) → takes owner i j ≡ b → cond b (cond (eqb i j) i (owner i)) (owner i) ≡ owner i
      go true h =
          let k : owner i ≡ i = eqb-true (owner i) i (and_left (eqb (owner i) i) (eqb (owner j) j) (and_left (eqb (owner i) i && eqb (owner j) j) (like i j) h)) in
          ap (λ (x : ℕ). cond (eqb i j) i x) k ∙ same_both (eqb i j) i ∙ sym k
      go false h = refl

  one_other : (i j v : ℕ) (owner : ℕ → ℕ) → j ≢ v → take_one like i owner j v ≡ owner v
  one_other i j v owner n = one_at i j v owner ∙ ap (λ (b : Bool). cond (takes owner i j) (cond b i (owner v)) (owner v)) (ne_eqb v j (λ q. n (sym q))) ∙ same_both (takes owner i j) (owner v)

  one_own : (i v : ℕ) (owner : ℕ → ℕ) → take_one like i owner v v ≡ cond (takes owner i v) i (owner v)
  one_own i v owner = one_at i v v owner ∙ ap (λ (b : Bool). cond (takes owner i v) (cond b i (owner v)) (owner v)) (eq-eqb v v refl)

  -- an entry that is not i gains nothing
  pub alone_one : (i j v : ℕ) (owner : ℕ → ℕ) → v ≢ i → Alone owner v → Alone (take_one like i owner j) v
  alone_one i j v owner n a x h = go (takes owner i j) (eqb x j) (sym (one_at i j x owner) ∙ h)
    where
      go : (b c : Bool) → cond b (cond c i (owner x)) (owner x) ≡ v → x ≡ v
      go true true k = absurd (n (sym k))
      go true false k = a x k
      go false c k = a x k

  pub alone_fold : (i v : ℕ) (js : List ℕ) (owner : ℕ → ℕ) → v ≢ i → Alone owner v → Alone (foldl (take_one like i) owner js) v
  alone_fold i v [] owner n a = a
  alone_fold i v (j ∷ js) owner n a = alone_fold i v js (take_one like i owner j) n (alone_one i j v owner n a)

  pub taken_other : (i v : ℕ) (js : List ℕ) (owner : ℕ → ℕ) → member v js ≡ false → foldl (take_one like i) owner js v ≡ owner v
  taken_other i v js owner m = fold_other (take_one like i) (λ (o : ℕ → ℕ). o v) v (λ b w n. one_other i w v b n) js m owner

  pub taken_own : (i v : ℕ) (js : List ℕ) (owner : ℕ → ℕ) → Distinct js → In v js → foldl (take_one like i) owner js v ≡ cond (takes owner i v) i (owner v)
  taken_own i v js owner d m =
      fold_row (take_one like i) (λ (o : ℕ → ℕ). o v) (λ (o : ℕ → ℕ). o i ≡ owner i) (λ x. cond ((eqb (owner i) i && eqb x v) && like i v) i x) v
      (λ b w k. one_first i w b ∙ k) (λ b w n. one_other i w v b n)
      (λ b k. one_own i v b ∙ ap (λ (x : ℕ). cond ((eqb x i && eqb (b v) v) && like i v) i (b v)) k) js d m owner refl

  pub all_other : (v : ℕ) (js : List ℕ) (owner : ℕ → ℕ) → member v js ≡ false → take_all like js owner v ≡ owner v
  unfolding take_all
  all_other v [] owner m = refl
  all_other v (i ∷ js) owner m =
      all_other v js (foldl (take_one like i) owner js) (not_there v i js m) ∙ taken_other i v js owner (not_there v i js m)

  module _ (e : Equivalence like) where
    -- of a class all are taken, or none
    abbrev Classwise : List ℕ → (ℕ → ℕ) → Type 0
    Classwise js owner = (x y : ℕ) → In x js → In y js → like x y ≡ true → eqb (owner x) x ≡ eqb (owner y) y

    -- whether an entry behind i is its own after i's turn
    still_own : (i v : ℕ) (js : List ℕ) (owner : ℕ → ℕ) → Distinct (i ∷ js) → In v js → eqb (foldl (take_one like i) owner js v) v ≡ cond (takes owner i v) false (eqb (owner v) v)
    still_own i v js owner d m = ap (λ (x : ℕ). eqb x v) (taken_own i v js owner d.1 m) ∙ go (takes owner i v)
      where
        go : (b : Bool) → eqb (cond b i (owner v)) v ≡ cond b false (eqb (owner v) v)
        go true = ne_eqb i v (apart i v js d.0 m)
        go false = refl

    classwise_after : (i : ℕ) (js : List ℕ) (owner : ℕ → ℕ) → Distinct (i ∷ js) → Classwise (i ∷ js) owner → Classwise js (foldl (take_one like i) owner js)
    classwise_after i js owner d c x y mx my h =
        still_own i x js owner d mx
        ∙ rw (c x y (member_there x i js mx) (member_there y i js my) h, like_same like e i x y h) (sym (still_own i y js owner d my))

    -- K-b: the first of its class takes every entry that is its own
    pub all_own : (v : ℕ) (js : List ℕ) (owner : ℕ → ℕ) → Distinct js → Classwise js owner → In v js → take_all like js owner v ≡ cond (eqb (owner v) v) (first_like like js v) (owner v)
    unfolding take_all first_like
    all_own v [] owner d c m = no_member v m
    all_own v (i ∷ js) owner d c m =
        member_cases (take_all like js (foldl (take_one like i) owner js) v ≡ cond (eqb (owner v) v) (first_like like (i ∷ js) v) (owner v)) v i js m
        (λ q.
        let out : member v js ≡ false = ap (λ (x : ℕ). member x js) q ∙ d.0 in
        all_other v js (foldl (take_one like i) owner js) out ∙ taken_other i v js owner out
        ∙ here q (eqb (owner v) v) refl)
        (λ n k.
        all_own v js (foldl (take_one like i) owner js) d.1 (classwise_after i js owner d c) k
        ∙ rw (still_own i v js owner d k, taken_own i v js owner d.1 k) (there (eqb (owner i) i) (eqb (owner v) v) (like i v) (c i v (member_here i js) m)))
      where
        here : v ≡ i → (a : Bool) → eqb (owner v) v ≡ a → owner v ≡ cond a (cond (like i v) i (first_like like js v)) (owner v)
        here q true h = rw (ap (λ (x : ℕ). like x v) (sym q) ∙ e.self v) (eqb-true (owner v) v h ∙ q)
        here q false h = refl

        there : (b a l : Bool) → (l ≡ true → b ≡ a)
            → cond (cond ((b && a) && l) false a) (first_like like js v) (cond ((b && a) && l) i (owner v)) ≡ cond a (cond l i (first_like like js v)) (owner v)
        there true true true f = refl
        there true true false f = refl
        there true false l f = refl
        there false true true f = clash true refl (sym (f refl))
        there false true false f = refl
        there false false l f = refl

    -- where nobody of the list is taken yet
    pub all_fresh : (v : ℕ) (js : List ℕ) (owner : ℕ → ℕ) → Distinct js → ((x : ℕ) → In x js → owner x ≡ x) → In v js → take_all like js owner v ≡ first_like like js v
    all_fresh v js owner d f m =
        all_own v js owner d (λ x y mx my h. eq-eqb (owner x) x (f x mx) ∙ sym (eq-eqb (owner y) y (f y my))) m
        ∙ ap (λ (b : Bool). cond b (first_like like js v) (owner v)) (eq-eqb (owner v) v (f v m))
