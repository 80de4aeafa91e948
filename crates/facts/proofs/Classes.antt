-- K-b and `top` of F8: step 5 merges each row into the first of its class, for every key; and nothing else changes.
-- Assumes nothing.
use Prim.Native.Nat.{ℕ, ◌<◌}
use native.Mathlib.Omega.{arith}
use mathlib.Core.Path.{◌≡◌, refl, sym, ap, subst, ◌∙◌}
use mathlib.Core.Logic.{◌≢◌}
use mathlib.Core.Bool.{Bool, true, false, cond, ◌&&◌}
use mathlib.Core.List.{List, [], ◌∷◌, foldl}
use mathlib.Core.Option.{none, some}
use lib.Dec.{eqb, ltb}
use lib.Seq.{get_or-set_same, ext_get_or}
use borrow.Author.Tests.{eqb-true, eqb-false, eq-eqb, ne_eqb, ltb-true, lt-ltb}
use Rattle.plain.specs.Lists.{member, keep, total}
use Rattle.plain.specs.Members.{In, Distinct, Within}
use Rattle.plain.specs.Turns.{upd}
use Rattle.plain.specs.Classes.{Equivalence, first_like, take_one, take_all, Alone}
use Rattle.plain.proofs.Logic.{either, and_left, and_right}
use Rattle.plain.proofs.Members.{member_here, member_there, member_kept, keep_same, apart, not_there, not_here}
use Rattle.plain.proofs.Positions.{get_or_mapped}
use Rattle.plain.proofs.Sums.{one_below}
use Rattle.plain.proofs.Entries.{upd_same, upd_other}
use Rattle.plain.proofs.Fibres.{total_alone_lem, total_joined}
use Rattle.plain.proofs.Classes.{alone_one, alone_fold, all_other, all_fresh}
use Rattle.definition.specs.State.{Graph, merged, kind, weight, parent, rep, has_weight, put_kind, put_reps, put_parent, put_weight, merge_into}
use Rattle.definition.specs.Merge.{same_lists, alike, merge_one, merge_all}
use Rattle.facts.specs.Classes.{top_of, owner_of, Grouped}
use Rattle.facts.specs.Invariant.{Sized}
use Rattle.facts.proofs.Same.{same_self, same_back, same_through}
use Rattle.facts.proofs.Sizes.{sized_merge_into}
use Rattle.facts.proofs.Merging.{weight_into, weight_gone, kind_gone, weight_kept, kind_kept, parent_kept, elements_kept, variables_kept, degrees_kept}
use Rattle.facts.proofs.Keys.{Clean, alike_plain}

-- F8
pub same_equivalence : (g : Graph) → Equivalence (same_lists g)
same_equivalence g = record { self = same_self g; back = same_back g; through = same_through g }

-- ---- the closed form says all of the graph

pub grouped_owner : {n : ℕ} {vs : List ℕ} {owner owner' : ℕ → ℕ} {g h : Graph} → ((v : ℕ) → owner v ≡ owner' v) → Grouped n vs owner g h → Grouped n vs owner' g h
grouped_owner {n} {vs} {owner} {owner'} {g} {h} e k = subst (λ (o : ℕ → ℕ). Grouped n vs o g h) (λ i v. e v i) k

graph_same : (g h : Graph) → g.kinds ≡ h.kinds → g.weights ≡ h.weights → g.elements ≡ h.elements → g.variables ≡ h.variables → g.parents ≡ h.parents
    → g.degrees ≡ h.degrees → g.reps ≡ h.reps → g ≡ h
graph_same g h a b c d e f k = λ i. record { kinds = a i; weights = b i; elements = c i; variables = d i; parents = e i; degrees = f i; reps = k i }

pub grouped_only : {n : ℕ} {vs : List ℕ} {owner : ℕ → ℕ} {g h h' : Graph} → Grouped n vs owner g h → Grouped n vs owner g h' → h ≡ h'
grouped_only {n} {vs} {owner} {g} {h} {h'} k k' =
    graph_same h h'
    (ext_get_or merged h.kinds h'.kinds (k.sized.kinds ∙ sym k'.sized.kinds) (λ v b. k.kinds v ∙ sym (k'.kinds v)))
    (ext_get_or 0 h.weights h'.weights (k.sized.weights ∙ sym k'.sized.weights) (λ v b. either (weight h v ≡ weight h' v) (member v vs)
    (λ m. k.weights v m ∙ sym (k'.weights v m)) (λ m. k.outside v m ∙ sym (k'.outside v m))))
    (k.elements ∙ sym k'.elements)
    (k.variables ∙ sym k'.variables)
    (ext_get_or none h.parents h'.parents (k.sized.parents ∙ sym k'.sized.parents) (λ v b. k.parents v ∙ sym (k'.parents v)))
    (k.degrees ∙ sym k'.degrees)
    (ext_get_or 0 h.reps h'.reps (k.sized.reps ∙ sym k'.sized.reps)
    (λ v b. let i : v < n = omega (arith, k.sized.reps) in k.reps v i ∙ sym (k'.reps v i)))

-- ---- one merge

pub parent_gone : {n : ℕ} (i j : ℕ) (h : Graph) → Sized n h → j < n → parent (merge_into i j h) j ≡ some i
unfolding merge_into put_kind put_reps put_parent put_weight
parent_gone i j h s l = get_or-set_same h.parents j (some i) none (omega (arith, s.parents))

pub rep_into : {n : ℕ} (i j v : ℕ) (h : Graph) → Sized n h → v < n → rep (merge_into i j h) v ≡ cond (eqb (rep h v) j) i (rep h v)
unfolding merge_into put_kind put_reps put_parent put_weight
rep_into i j v h s l = get_or_mapped (λ r. cond (eqb r j) i r) h.reps v 0 0 (omega (arith, s.reps))

module _ {n : ℕ} (vs : List ℕ) (g : Graph) (d : Distinct vs) (l : (v : ℕ) → member v vs ≡ true → v < n) where
  pub grouped_self : Sized n g → Grouped n vs (λ v. v) g g
  grouped_self s = record {
    sized = s;
    elements = refl;
    variables = refl;
    degrees = refl;
    kinds = λ v. rw (eq-eqb v v refl);
    parents = λ v. rw (eq-eqb v v refl);
    reps = λ v k. refl;
    outside = λ v m. refl;
    weights = λ v m. rw (eq-eqb v v refl) (sym (total_alone_lem (weight g) (λ x. x) v vs d m refl (λ x e. e)));
  }

  grouped_merge : (i j : ℕ) (owner : ℕ → ℕ) (h : Graph) → In i vs → In j vs → i ≢ j → owner i ≡ i → owner j ≡ j → Alone owner j
      → Grouped n vs owner g h → Grouped n vs (upd owner j i) g (merge_into i j h)
  grouped_merge i j owner h mi mj ne oi oj a k = record {
    sized = sized_merge_into i j h k.sized;
    elements = elements_kept i j h ∙ k.elements;
    variables = variables_kept i j h ∙ k.variables;
    degrees = degrees_kept i j h ∙ k.degrees;
    kinds = λ v. either (kind (merge_into i j h) v ≡ cond (eqb (upd owner j i v) v) (kind g v) merged) (eqb v j)
        (λ e. let q : v ≡ j = eqb-true v j e in rw (q, upd_same owner j i, ne_eqb i j ne) (kind_gone i j h k.sized (l j mj)))
        (λ e. let q : v ≢ j = eqb-false v j e in rw (upd_other owner j i v q) (kind_kept i j v h q ∙ k.kinds v));
    parents = λ v. either (parent (merge_into i j h) v ≡ cond (eqb (upd owner j i v) v) (parent g v) (some (upd owner j i v))) (eqb v j)
        (λ e. let q : v ≡ j = eqb-true v j e in rw (q, upd_same owner j i, ne_eqb i j ne) (parent_gone i j h k.sized (l j mj)))
        (λ e. let q : v ≢ j = eqb-false v j e in rw (upd_other owner j i v q) (parent_kept i j v h q ∙ k.parents v));
    reps = λ v b. rep_into i j v h k.sized b ∙ rw (k.reps v b) (moved (rep g v));
    outside = λ v m. weight_kept i j v h (apart v i vs m mi) (apart v j vs m mj) ∙ k.outside v m;
    weights = λ v m. either (weight (merge_into i j h) v ≡ cond (eqb (upd owner j i v) v) (total (weight g) (keep (λ x. eqb (upd owner j i x) v) vs)) 0) (eqb v j)
        (λ e. let q : v ≡ j = eqb-true v j e in rw (q, upd_same owner j i, ne_eqb i j ne) (weight_gone i j h k.sized (l j mj)))
        (λ e. either (weight (merge_into i j h) v ≡ cond (eqb (upd owner j i v) v) (total (weight g) (keep (λ x. eqb (upd owner j i x) v) vs)) 0) (eqb v i)
        (λ f. let q : v ≡ i = eqb-true v i f in rw (q, upd_other owner j i i ne, oi, eq-eqb i i refl) gains)
        (λ f. stays v m (eqb-false v i f) (eqb-false v j e)));
  }
    where
      -- who belonged to j belongs to i
      moved : (x : ℕ) → cond (eqb (owner x) j) i (owner x) ≡ upd owner j i x
      moved x = either (cond (eqb (owner x) j) i (owner x) ≡ upd owner j i x) (eqb x j)
          (λ e. let q : x ≡ j = eqb-true x j e in rw (q, upd_same owner j i, eq-eqb (owner j) j oj))
          (λ e. let q : x ≢ j = eqb-false x j e in rw (upd_other owner j i x q, ne_eqb (owner x) j (λ r. q (a x r))))

      own_weight : (v : ℕ) → In v vs → owner v ≡ v → weight h v ≡ total (weight g) (keep (λ x. eqb (owner x) v) vs)
      own_weight v m o = k.weights v m ∙ ap (λ (b : Bool). cond b (total (weight g) (keep (λ x. eqb (owner x) v) vs)) 0) (eq-eqb (owner v) v o)

      gains : weight (merge_into i j h) i ≡ total (weight g) (keep (λ x. eqb (upd owner j i x) i) vs)
      gains = omega (
        arith,
        weight_into i j h k.sized (l i mi) ne,
        own_weight i mi oi,
        own_weight j mj oj,
        total_alone_lem (weight g) owner j vs d mj oj a,
        total_joined (weight g) owner i j vs d mj oj ne,
      )

      -- no other row gains or loses
      fibre : (v : ℕ) → v ≢ i → v ≢ j → keep (λ x. eqb (upd owner j i x) v) vs ≡ keep (λ x. eqb (owner x) v) vs
      fibre v ni nj = keep_same (λ x. eqb (upd owner j i x) v) (λ x. eqb (owner x) v) vs
          (λ x m. either (eqb (upd owner j i x) v ≡ eqb (owner x) v) (eqb x j)
          (λ e. let q : x ≡ j = eqb-true x j e in rw (q, upd_same owner j i, oj, ne_eqb i v (λ r. ni (sym r)), ne_eqb j v (λ r. nj (sym r))))
          (λ e. rw (upd_other owner j i x (eqb-false x j e))))

      stays : (v : ℕ) → In v vs → v ≢ i → v ≢ j → weight (merge_into i j h) v ≡ cond (eqb (upd owner j i v) v) (total (weight g) (keep (λ x. eqb (upd owner j i x) v) vs)) 0
      stays v m ni nj = rw (upd_other owner j i v nj, fibre v ni nj) (weight_kept i j v h ni nj ∙ k.weights v m)

  -- ---- all merges

  module _ (heavy : (v : ℕ) → In v vs → has_weight g v ≡ true) (clean : Clean vs g) (key_of : ℕ → ℕ) where
    -- who has a weight is who is its own
    pub weighs : (owner : ℕ → ℕ) (h : Graph) → Grouped n vs owner g h → (v : ℕ) → In v vs → has_weight h v ≡ eqb (owner v) v
    weighs owner h k v m = ap (ltb 0) (k.weights v m) ∙ go (eqb (owner v) v) refl
      where
        go : (b : Bool) → eqb (owner v) v ≡ b → ltb 0 (cond b (total (weight g) (keep (λ x. eqb (owner x) v) vs)) 0) ≡ b
        go true e = lt-ltb 0 (total (weight g) (keep (λ x. eqb (owner x) v) vs))
            (omega (arith, ltb-true 0 (weight g v) (heavy v m), one_below (weight g) v (keep (λ x. eqb (owner x) v) vs) (member_kept v (λ x. eqb (owner x) v) vs e m)))
        go false e = refl

    same_lists_lem : (owner : ℕ → ℕ) (h : Graph) → Grouped n vs owner g h → (i j : ℕ) → same_lists h i j ≡ same_lists g i j
    unfolding same_lists
    same_lists_lem owner h k i j = rw (k.elements, k.variables)

    test : (owner : ℕ → ℕ) (h : Graph) → Grouped n vs owner g h → (i j : ℕ) → In i vs → In j vs
        → alike key_of h i j ≡ (eqb (owner i) i && eqb (owner j) j) && same_lists g i j
    test owner h k i j mi mj =
        alike_plain key_of h i j (rw (k.elements, k.variables) (clean i mi)) (rw (k.elements, k.variables) (clean j mj))
        ∙ rw (weighs owner h k i mi, weighs owner h k j mj, same_lists_lem owner h k i j)

    grouped_one : (i j : ℕ) (owner : ℕ → ℕ) (h : Graph) → In i vs → In j vs → i ≢ j → Alone owner j → Grouped n vs owner g h
        → Grouped n vs (take_one (same_lists g) i owner j) g (merge_one key_of i h j)
    unfolding take_one merge_one
    grouped_one i j owner h mi mj ne a k = rw (test owner h k i j mi mj) (go ((eqb (owner i) i && eqb (owner j) j) && same_lists g i j) refl)
      where
        go : (b : Bool) → (eqb (owner i) i && eqb (owner j) j) && same_lists g i j ≡ b → Grouped n vs (cond b (upd owner j i) owner) g (cond b (merge_into i j h) h)
        go true e =
            let f : eqb (owner i) i && eqb (owner j) j ≡ true = and_left (eqb (owner i) i && eqb (owner j) j) (same_lists g i j) e in
            grouped_merge i j owner h mi mj ne (eqb-true (owner i) i (and_left (eqb (owner i) i) (eqb (owner j) j) f))
            (eqb-true (owner j) j (and_right (eqb (owner i) i) (eqb (owner j) j) f)) a k
        go false e = k

    grouped_fold : (i : ℕ) (js : List ℕ) (owner : ℕ → ℕ) (h : Graph) → In i vs → member i js ≡ false → Within js vs → ((v : ℕ) → In v js → Alone owner v)
        → Grouped n vs owner g h → Grouped n vs (foldl (take_one (same_lists g) i) owner js) g (foldl (merge_one key_of i) h js)
    grouped_fold i [] owner h mi ni w a k = k
    grouped_fold i (j ∷ js) owner h mi ni w a k =
        grouped_fold i js (take_one (same_lists g) i owner j) (merge_one key_of i h j) mi (not_there i j js ni) (λ x m. w x (member_there x j js m))
        (λ v m. alone_one (same_lists g) i j v owner (λ q. apart i v js (not_there i j js ni) m (sym q)) (a v (member_there v j js m)))
        (grouped_one i j owner h mi (w j (member_here j js)) (not_here i j js ni) (a j (member_here j js)) k)

    -- from any state in which nobody of js has taken another
    pub grouped_all : (js : List ℕ) (owner : ℕ → ℕ) (h : Graph) → Distinct js → Within js vs → ((v : ℕ) → In v js → Alone owner v) → Grouped n vs owner g h
        → Grouped n vs (take_all (same_lists g) js owner) g (merge_all key_of js h)
    unfolding take_all merge_all
    grouped_all [] owner h e w a k = k
    grouped_all (i ∷ js) owner h e w a k =
        grouped_all js (foldl (take_one (same_lists g) i) owner js) (foldl (merge_one key_of i) h js) e.1 (λ x m. w x (member_there x i js m))
        (λ v m. alone_fold (same_lists g) i v js owner (λ q. apart i v js e.0 m (sym q)) (a v (member_there v i js m)))
        (grouped_fold i js owner h (w i (member_here i js)) e.0 (λ x m. w x (member_there x i js m)) (λ v m. a v (member_there v i js m)) k)

    -- K-b
    pub top : Sized n g → Grouped n vs (owner_of g vs) g (merge_all key_of vs g)
    unfolding owner_of top_of
    top s =
        grouped_owner (λ v. either (take_all (same_lists g) vs (λ x. x) v ≡ cond (member v vs) (first_like (same_lists g) vs v) v) (member v vs)
        (λ m. rw m (all_fresh (same_lists g) (same_equivalence g) v vs (λ x. x) d (λ x k. refl) m))
        (λ m. rw m (all_other (same_lists g) v vs (λ x. x) m)))
        (grouped_all vs (λ x. x) g d (λ x m. m) (λ v m x e. e) (grouped_self s))
