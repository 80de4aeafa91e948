-- That a step of the definition is as `Stepped` says.
-- Assumes nothing.
use Prim.Native.Nat.{ℕ, ◌+◌, ◌-◌, ◌<◌, min}
use native.Mathlib.Omega.{arith}
use mathlib.Core.Path.{◌≡◌, sym, ap, ◌∙◌}
use mathlib.Core.Logic.{◌≢◌}
use mathlib.Core.Bool.{Bool, true, false, cond}
use mathlib.Core.List.{List, [], ◌∷◌, ◌++◌}
use mathlib.Core.Option.{Option, none}
use lib.Dec.{ltb}
use lib.ListN.{get_or}
use borrow.Author.Tests.{lt-ltb, le-ltb}
use Rattle.plain.proofs.Folds.{foldl_keeps, everything}
use Rattle.plain.proofs.Logic.{either, clash}
use Rattle.plain.proofs.Members.{member_kept, not_kept, not_kept_at}
use Rattle.plain.proofs.Repeats.{distinct_keep}
use Rattle.plain.specs.Lists.{member, keep, total}
use Rattle.plain.specs.Members.{Distinct}
use Rattle.definition.specs.State.{Graph, State, Kind, merged, kind, weight, elements_of, variables_of, parent, degree, rep, has_weight}
use Rattle.definition.specs.Pivot.{collected, passed, delisted}
use Rattle.definition.specs.Place.{Placed, placed, as_element, new_degree}
use Rattle.definition.specs.Elimination.{eliminate, finish}
use Rattle.facts.proofs.Invariant.{var_inside}
use Rattle.facts.proofs.Collected.{distinct_collected, collected_apart, collected_var, pivot_outside}
use Rattle.facts.proofs.Rows.{same_passed, trim_degree, still_elements, still_variables, still_degree, still_kind, still_weight}
use Rattle.facts.proofs.Merging.{Fate, stays, joins}
use Rattle.facts.proofs.Placing.{SameButDegrees, placed_same, placed_other, placed_own, element_weights, element_parents, element_reps, element_kind_other, element_elements_other, element_variables_other, element_degree_other, element_kind, element_variables, element_degree}
use Rattle.facts.proofs.Weights.{sums3, conserved3}
use Rattle.facts.proofs.Stepped.{is_mass, after_trim, after_merge, After, away, remains, Stepped, inside, weight2, kind2, elements2, variables2, degree2, var_parent2, other_parent2, joined2}
use Rattle.facts.proofs.Sizes.{sized_as_element, sized_put_degree}
use Rattle.facts.specs.Invariant.{Var, Sized, Quotient}

-- keep of the plan, and rw
unfoldable pub survivors_of : (ℕ → ℕ) → Bool → Graph → ℕ → List ℕ
survivors_of key_of aggressive g p = keep (has_weight (after_merge key_of aggressive g p)) (collected g p)

unfoldable pub rest_of : (ℕ → ℕ) → Bool → Graph → ℕ → ℕ
rest_of key_of aggressive g p = total (weight (after_merge key_of aggressive g p)) (survivors_of key_of aggressive g p)

-- what the survivors are placed in
abbrev pub start_of : (ℕ → ℕ) → Bool → Graph → ℕ → List (List ℕ) → ℕ → Placed
start_of key_of aggressive g p queues least =
    record { graph = as_element p (survivors_of key_of aggressive g p) (rest_of key_of aggressive g p) (after_merge key_of aggressive g p); queues = queues; least = least }

module _ {n : ℕ} (key_of : ℕ → ℕ) (aggressive : Bool) (g : Graph) (p : ℕ) (q : Quotient n g) (pv : Var g p) where
  abbrev g2 : Graph
  g2 = after_trim aggressive g p

  abbrev g3 : Graph
  g3 = after_merge key_of aggressive g p

  abbrev new : List ℕ
  new = collected g p

  pub after3 : (v : ℕ) → member v new ≡ true → After aggressive g g3 p v
  after3 v m = either (After aggressive g g3 p v) (is_mass aggressive g p v)
      (λ e.
      let w2 : weight g2 v ≡ 0 = weight2 aggressive g p q pv v m ∙ ap (λ (b : Bool). cond b 0 (weight g v)) e in
      let out : member v (keep (has_weight g2) new) ≡ false = not_kept_at v (has_weight g2) new (le-ltb 0 (weight g2 v) (omega arith)) in
      away ((joined2 aggressive g p q pv key_of).outside_kind v out ∙ kind2 aggressive g p q pv v m ∙ ap (λ (b : Bool). cond b merged (kind g v)) e)
      ((joined2 aggressive g p q pv key_of).outside_weight v out ∙ w2))
      (λ e.
      let w2 : weight g2 v ≡ weight g v = weight2 aggressive g p q pv v m ∙ ap (λ (b : Bool). cond b 0 (weight g v)) e in
      let k2 : kind g2 v ≡ kind g v = kind2 aggressive g p q pv v m ∙ ap (λ (b : Bool). cond b merged (kind g v)) e in
      let vv : Var g v = collected_var q p pv v m in
      let r2 : parent g2 v ≡ parent g v = var_parent2 aggressive g p q pv v vv (λ u. e) in
      let into : member v (keep (has_weight g2) new) ≡ true = member_kept v (has_weight g2) new (lt-ltb 0 (weight g2 v) (omega (arith, q.heavy v vv))) m in
      go e w2 k2 r2 ((joined2 aggressive g p q pv key_of).fate v into))
    where
      go : is_mass aggressive g p v ≡ false → weight g2 v ≡ weight g v → kind g2 v ≡ kind g v → parent g2 v ≡ parent g v → Fate g2 g3 v → After aggressive g g3 p v
      go e w2 k2 r2 (stays a b c) = remains e (a ∙ k2) (omega arith) (c ∙ r2)
      go e w2 k2 r2 (joins a b) = away a b

  -- a row that is not collected is compared with none
  outside3 : (v : ℕ) → member v new ≡ false → member v (keep (has_weight g2) new) ≡ false
  outside3 v m = not_kept v (has_weight g2) new m

  abbrev survivors : List ℕ
  survivors = survivors_of key_of aggressive g p

  abbrev size : ℕ
  size = rest_of key_of aggressive g p

  abbrev start : List (List ℕ) → ℕ → Placed
  start queues least = start_of key_of aggressive g p queues least

  module _ (left : ℕ) (queues : List (List ℕ)) (least : ℕ) where
    abbrev t : Graph
    t = (placed left size survivors (start queues least)).graph

    same : SameButDegrees (as_element p survivors size g3) t
    same = placed_same left size survivors (start queues least)

    lp : p < n
    lp = var_inside q p pv

    s3 : Sized n g3
    s3 = (joined2 aggressive g p q pv key_of).sized

    pub weight_t : (v : ℕ) → weight t v ≡ weight g3 v
    weight_t v = ap (λ (l : List ℕ). get_or l v 0) (same.weights ∙ element_weights p survivors size g3)

    pub rep_t : (v : ℕ) → rep t v ≡ rep g3 v
    rep_t v = ap (λ (l : List ℕ). get_or l v 0) (same.reps ∙ element_reps p survivors size g3)

    pub parent_t : (v : ℕ) → parent t v ≡ parent g3 v
    parent_t v = ap (λ (l : List (Option ℕ)). get_or l v none) (same.parents ∙ element_parents p survivors size g3)

    pub kind_t : (v : ℕ) → v ≢ p → kind t v ≡ kind g3 v
    kind_t v ne = ap (λ (l : List Kind). get_or l v merged) same.kinds ∙ element_kind_other p survivors size g3 v ne

    elements_t : (v : ℕ) → v ≢ p → elements_of t v ≡ elements_of g2 v
    elements_t v ne = ap (λ (l : List (List ℕ)). get_or l v []) same.elements ∙ element_elements_other p survivors size g3 v ne
        ∙ ap (λ (l : List (List ℕ)). get_or l v []) (joined2 aggressive g p q pv key_of).elements

    variables_t : (v : ℕ) → v ≢ p → variables_of t v ≡ variables_of g2 v
    variables_t v ne = ap (λ (l : List (List ℕ)). get_or l v []) same.variables ∙ element_variables_other p survivors size g3 v ne
        ∙ ap (λ (l : List (List ℕ)). get_or l v []) (joined2 aggressive g p q pv key_of).variables

    -- the degree of a row that is no survivor
    degree_t : (v : ℕ) → v ≢ p → member v survivors ≡ false → degree t v ≡ degree g2 v
    degree_t v ne m = placed_other left size v survivors (start queues least) m ∙ element_degree_other p survivors size g3 v ne
        ∙ ap (λ (l : List ℕ). get_or l v 0) (joined2 aggressive g p q pv key_of).degrees

    after_t : (v : ℕ) → v ≢ p → After aggressive g g3 p v → After aggressive g t p v
    after_t v ne (away a b) = away (kind_t v ne ∙ a) (weight_t v ∙ b)
    after_t v ne (remains a b c d) = remains a (kind_t v ne ∙ b) (rw (weight_t v) c) (parent_t v ∙ d)

    members_t : variables_of t p ≡ survivors
    members_t = ap (λ (l : List (List ℕ)). get_or l p []) same.variables ∙ element_variables p survivors size g3 s3 lp

    sized_t : Sized n t
    unfolding placed Rattle.definition.specs.Place.place_one
    sized_t = foldl_keeps (λ (r : Placed). Sized n r.graph) (λ v. Unit {0}) (Rattle.definition.specs.Place.place_one left size)
        (λ b v u k. sized_put_degree v _ b.graph k) survivors (start queues least) (everything survivors)
        (sized_as_element p survivors size g3 s3)

    -- the degree of a survivor
    pub placed_degree : (v : ℕ) → member v new ≡ true → is_mass aggressive g p v ≡ false → member v survivors ≡ true
        → degree t v ≡ min (trim_degree aggressive (passed g p) p new v + size - weight t v) (left - weight t v)
    unfolding survivors_of new_degree
    placed_degree v m nm ms =
        let ne = collected_apart g p v m in
        placed_own left size v survivors (start queues least) (sized_as_element p survivors size g3 s3) (inside aggressive g p q pv v m)
        (distinct_survivors) ms
        ∙ ap (λ (w : ℕ). min (degree (as_element p survivors size g3) v + size - w) (left - w)) (ap (λ (l : List ℕ). get_or l v 0) (element_weights p survivors size g3) ∙ sym (weight_t v))
        ∙ ap (λ (x : ℕ). min (x + size - weight t v) (left - weight t v))
        (element_degree_other p survivors size g3 v ne ∙ ap (λ (l : List ℕ). get_or l v 0) (joined2 aggressive g p q pv key_of).degrees ∙ degree2 aggressive g p q pv v m nm)
      where
        distinct_survivors : Distinct survivors
        distinct_survivors = distinct_keep (has_weight g3) new (distinct_collected g p)

    pub degree_p : degree t p ≡ size
    unfolding survivors_of
    degree_p = placed_other left size p survivors (start queues least) (not_kept p (has_weight g3) new (pivot_outside g p)) ∙ element_degree p survivors size g3 s3 lp

    pub stepped_t : Stepped n aggressive g t p
    unfolding survivors_of rest_of
    stepped_t = record {
      sized = sized_t;
      pivot_kind = ap (λ (l : List Kind). get_or l p merged) same.kinds ∙ element_kind p survivors size g3 s3 lp;
      pivot_parent = parent_t p ∙ (joined2 aggressive g p q pv key_of).outside_parent p (outside3 p (pivot_outside g p))
          ∙ var_parent2 aggressive g p q pv p pv (λ m. clash (member p new) m (pivot_outside g p));
      pivot_members = members_t ∙ ap (λ (l : List ℕ). keep (λ v. ltb 0 (get_or l v 0)) new) (sym (same.weights ∙ element_weights p survivors size g3));
      pivot_degree = (degree_p ∙ ap (λ (l : List ℕ). total (λ v. get_or l v 0) survivors) (sym (same.weights ∙ element_weights p survivors size g3)))
          ∙ ap (total (weight t)) (sym members_t);
      still_kind = λ v ne m. kind_t v ne ∙ (joined2 aggressive g p q pv key_of).outside_kind v (outside3 v m) ∙ still_kind aggressive (passed g p) p new v m
          ∙ ap (λ (l : List Kind). get_or l v merged) (same_passed g p).kinds;
      still_weight = λ v ne m. weight_t v ∙ (joined2 aggressive g p q pv key_of).outside_weight v (outside3 v m) ∙ still_weight aggressive (passed g p) p new v ne m
          ∙ ap (λ (l : List ℕ). get_or l v 0) (same_passed g p).weights;
      still_elements = λ v ne m. elements_t v ne ∙ still_elements aggressive (passed g p) p new v m ∙ ap (λ (l : List (List ℕ)). get_or l v []) (same_passed g p).elements;
      still_variables = λ v ne m. variables_t v ne ∙ still_variables aggressive (passed g p) p new v m ∙ ap (λ (l : List (List ℕ)). get_or l v []) (same_passed g p).variables;
      still_degree = λ v ne m. degree_t v ne (not_kept v (has_weight g3) new m) ∙ still_degree aggressive (passed g p) p new v m ∙ ap (λ (l : List ℕ). get_or l v 0) (same_passed g p).degrees;
      still_parent = λ v l ne m. parent_t v ∙ (joined2 aggressive g p q pv key_of).outside_parent v (outside3 v m) ∙ other_parent2 aggressive g p q pv v l m;
      after = λ v m. after_t v (collected_apart g p v m) (after3 v m);
      new_elements = λ v m e. elements_t v (collected_apart g p v m) ∙ elements2 aggressive g p q pv v m e;
      sums = λ r c z. ap (λ (l : List ℕ). total (λ v. cond (r v) (get_or l v 0) 0) new) (same.weights ∙ element_weights p survivors size g3) ∙ sums3 key_of aggressive g p q pv r c z;
      conserved = ap (λ (l : List ℕ). get_or l p 0 + total (λ v. get_or l v 0) new) (same.weights ∙ element_weights p survivors size g3) ∙ conserved3 key_of aggressive g p q pv;
      new_variables = λ v m e. variables_t v (collected_apart g p v m) ∙ variables2 aggressive g p q pv v m e;
    }

pub stepped : {n : ℕ} (key_of : ℕ → ℕ) (m : ℕ) (aggressive : Bool) (s : State) (p d : ℕ) → Quotient n s.graph → Var s.graph p
    → Stepped n aggressive s.graph (eliminate key_of m aggressive s p d).graph p
unfolding eliminate finish survivors_of rest_of
stepped key_of m aggressive s p d q pv =
    stepped_t key_of aggressive s.graph p q pv (m - (s.gone + weight (after_merge key_of aggressive s.graph p) p)) (delisted s.graph s.queues (p ∷ collected s.graph p)) d

-- what the step adds to the count
pub gone_after : {n : ℕ} (key_of : ℕ → ℕ) (m : ℕ) (aggressive : Bool) (s : State) (p d : ℕ) → Quotient n s.graph → Var s.graph p
    → (eliminate key_of m aggressive s p d).gone ≡ s.gone + weight (eliminate key_of m aggressive s p d).graph p
unfolding eliminate finish survivors_of rest_of
gone_after key_of m aggressive s p d q pv =
    ap (λ (w : ℕ). s.gone + w)
    (sym (weight_t key_of aggressive s.graph p q pv (m - (s.gone + weight (after_merge key_of aggressive s.graph p) p)) (delisted s.graph s.queues (p ∷ collected s.graph p)) d p))

-- what the step tells the statistics
pub fronts_after : {n : ℕ} (key_of : ℕ → ℕ) (m : ℕ) (aggressive : Bool) (s : State) (p d : ℕ) → Quotient n s.graph → Var s.graph p
    → (eliminate key_of m aggressive s p d).fronts
    ≡ s.fronts ++ (record { row = p; pivots = weight (eliminate key_of m aggressive s p d).graph p; rest = degree (eliminate key_of m aggressive s p d).graph p } ∷ [])
unfolding eliminate finish survivors_of rest_of
fronts_after key_of m aggressive s p d q pv =
    let left = m - (s.gone + weight (after_merge key_of aggressive s.graph p) p) in
    let queues = delisted s.graph s.queues (p ∷ collected s.graph p) in
    ap (λ (w : ℕ). s.fronts ++ (record { row = p; pivots = w; rest = rest_of key_of aggressive s.graph p } ∷ []))
    (sym (weight_t key_of aggressive s.graph p q pv left queues d p))
    ∙ ap (λ (w : ℕ). s.fronts ++ (record { row = p; pivots = weight (eliminate key_of m aggressive s p d).graph p; rest = w } ∷ []))
    (sym (degree_p key_of aggressive s.graph p q pv left queues d))
