-- Steps 2, 3 and 4 row by row: what each list of the graph has at a row after the elements are passed and the collected variables trimmed.
-- Assumes nothing.
use Prim.Native.Nat.{ℕ, ◌+◌, ◌<◌, min}
use native.Mathlib.Omega.{arith}
use mathlib.Core.Path.{◌≡◌, refl, sym, ap, ◌∙◌}
use mathlib.Core.Logic.{◌≢◌}
use mathlib.Core.Bool.{Bool, true, false, cond, ◌&&◌, ◌||◌}
use mathlib.Core.List.{List, [], ◌∷◌, foldl}
use mathlib.Core.Option.{Option, none, some}
use lib.Dec.{eqb}
use lib.ListN.{length, get_or, set}
use lib.Seq.{get_or-set_same, get_or-set_other}
use borrow.Author.Tests.{eqb-true, eqb-false}
use Rattle.plain.proofs.Folds.{everything, hits, foldl_keeps, fold_other, fold_row, fold_hits}
use Rattle.plain.proofs.Logic.{either}
use Rattle.plain.specs.Lists.{member, is_empty, rotate, total}
use Rattle.plain.specs.Members.{Distinct}
use Rattle.definition.specs.State.{Graph, Kind, merged, kind, weight, elements_of, variables_of, parent, degree, put_kind, put_reps, put_elements, put_variables, put_parent, put_weight, put_degree, merge_into}
use Rattle.definition.specs.Pivot.{pass_one, passed}
use Rattle.definition.specs.Trim.{trim_one, trim_to, trimmed, relist, drop_element, kept_elements, kept_variables, dropped_elements, external}
use Rattle.facts.proofs.Sizes.{sized_put_parent, sized_trim_one, sized_dropped}
use Rattle.facts.specs.Invariant.{Sized}

-- all but the parents is the same
pub record SameRows (g h : Graph) : Type 0 where
  pub kinds : h.kinds ≡ g.kinds
  pub weights : h.weights ≡ g.weights
  pub elements : h.elements ≡ g.elements
  pub variables : h.variables ≡ g.variables
  pub degrees : h.degrees ≡ g.degrees
  pub reps : h.reps ≡ g.reps

same_rows : (g : Graph) → SameRows g g
same_rows g = record { kinds = refl; weights = refl; elements = refl; variables = refl; degrees = refl; reps = refl }

same_parent : (e p : ℕ) (g h : Graph) → SameRows g h → SameRows g (put_parent e p h)
unfolding put_parent
same_parent e p g h s =
    record { kinds = s.kinds; weights = s.weights; elements = s.elements; variables = s.variables; degrees = s.degrees; reps = s.reps }

pub same_passed : (g : Graph) (p : ℕ) → SameRows g (passed g p)
unfolding passed pass_one
same_passed g p = foldl_keeps (SameRows g) (λ e. Unit {0}) (pass_one p) (λ b e u k. same_parent e p g b k) (elements_of g p) g (everything (elements_of g p)) (same_rows g)

pub same_dropped : (h : Graph) (p : ℕ) (es : List ℕ) → SameRows h (foldl (drop_element p) h es)
unfolding drop_element
same_dropped h p es = foldl_keeps (SameRows h) (λ e. Unit {0}) (drop_element p) (λ b e u k. same_parent e p h b k) es h (everything es) (same_rows h)

-- ---- the parents of the passed and of the dropped

hits_member : (e : ℕ) (es : List ℕ) → hits (λ x. eqb e x) es ≡ member e es
unfolding hits member
hits_member e [] = refl
hits_member e (x ∷ xs) = ap (λ (b : Bool). eqb e x || b) (hits_member e xs)

parent_put : {n : ℕ} (e x p : ℕ) (h : Graph) → Sized n h → e < n → parent (put_parent x p h) e ≡ cond (eqb e x) (some p) (parent h e)
unfolding put_parent
parent_put e x p h s l =
    either (get_or (set h.parents x (some p)) e none ≡ cond (eqb e x) (some p) (parent h e)) (eqb e x)
    (λ q. let k : e ≡ x = eqb-true e x q in
    rw q (ap (λ (z : ℕ). get_or (set h.parents z (some p)) e none) (sym k) ∙ get_or-set_same h.parents e (some p) none (omega (arith, s.parents))))
    (λ q. rw q (get_or-set_other h.parents x e (some p) none (eqb-false e x q)))

pub parent_passed : {n : ℕ} (g : Graph) (p e : ℕ) → Sized n g → e < n → parent (passed g p) e ≡ cond (member e (elements_of g p)) (some p) (parent g e)
unfolding passed pass_one
parent_passed {n} g p e s l =
    fold_hits (pass_one p) (λ (r : Graph). parent r e) (Sized n) (some p) (λ x. eqb e x)
    (λ b w k. sized_put_parent w p b k) (λ b w k. parent_put e w p b k l) (elements_of g p) g s
    ∙ ap (λ (b : Bool). cond b (some p) (parent g e)) (hits_member e (elements_of g p))

parent_dropped : {n : ℕ} (h : Graph) (p e : ℕ) (es : List ℕ) → Sized n h → e < n → parent (foldl (drop_element p) h es) e ≡ cond (member e es) (some p) (parent h e)
unfolding drop_element
parent_dropped {n} h p e es s l =
    fold_hits (drop_element p) (λ (r : Graph). parent r e) (Sized n) (some p) (λ x. eqb e x)
    (λ b w k. sized_put_parent w p b k) (λ b w k. parent_put e w p b k l) es h s
    ∙ ap (λ (b : Bool). cond b (some p) (parent h e)) (hits_member e es)

-- ---- step 4

-- mass elimination
abbrev pub nothing_kept : Bool → Graph → ℕ → List ℕ → ℕ → Bool
nothing_kept aggressive g p new v = is_empty (kept_elements aggressive g new v) && is_empty (kept_variables g p new v)

abbrev pub trim_degree : Bool → Graph → ℕ → List ℕ → ℕ → ℕ
trim_degree aggressive g p new v =
    min (degree g v) (total (external g new) (kept_elements aggressive g new v) + total (weight g) (kept_variables g p new v))

-- an element that v drops, or v itself where it is mass eliminated
abbrev pub taken_at : Bool → Graph → ℕ → List ℕ → ℕ → ℕ → Bool
taken_at aggressive g p new e v = member e (dropped_elements aggressive g new v) || (nothing_kept aggressive g p new v && eqb e v)

module _ (aggressive : Bool) (g : Graph) (p : ℕ) (new : List ℕ) where
  base : Graph → ℕ → Graph
  base h w = foldl (drop_element p) h (dropped_elements aggressive g new w)

  base_same : (h : Graph) (w : ℕ) → SameRows h (base h w)
  unfolding base
  base_same h w = same_dropped h p (dropped_elements aggressive g new w)

  -- what a turn does to a row that is not its own
  elements_other : (v : ℕ) (h : Graph) (w : ℕ) → w ≢ v → elements_of (trim_one aggressive g p new h w) v ≡ elements_of h v
  unfolding base trim_one trim_to relist merge_into put_kind put_reps put_elements put_variables put_parent put_weight put_degree
  elements_other v h w ne = go (nothing_kept aggressive g p new w)
    where
      go : (b : Bool) → elements_of (cond b (merge_into p w (base h w)) (relist g p new (kept_elements aggressive g new w) (kept_variables g p new w) w (base h w))) v ≡ elements_of h v
      go true = ap (λ (l : List (List ℕ)). get_or l v []) (base_same h w).elements
      go false = get_or-set_other (base h w).elements w v _ [] (λ e. ne (sym e)) ∙ ap (λ (l : List (List ℕ)). get_or l v []) (base_same h w).elements

  variables_other : (v : ℕ) (h : Graph) (w : ℕ) → w ≢ v → variables_of (trim_one aggressive g p new h w) v ≡ variables_of h v
  unfolding base trim_one trim_to relist merge_into put_kind put_reps put_elements put_variables put_parent put_weight put_degree
  variables_other v h w ne = go (nothing_kept aggressive g p new w)
    where
      go : (b : Bool) → variables_of (cond b (merge_into p w (base h w)) (relist g p new (kept_elements aggressive g new w) (kept_variables g p new w) w (base h w))) v ≡ variables_of h v
      go true = ap (λ (l : List (List ℕ)). get_or l v []) (base_same h w).variables
      go false = get_or-set_other (base h w).variables w v _ [] (λ e. ne (sym e)) ∙ ap (λ (l : List (List ℕ)). get_or l v []) (base_same h w).variables

  degree_other : (v : ℕ) (h : Graph) (w : ℕ) → w ≢ v → degree (trim_one aggressive g p new h w) v ≡ degree h v
  unfolding base trim_one trim_to relist merge_into put_kind put_reps put_elements put_variables put_parent put_weight put_degree
  degree_other v h w ne = go (nothing_kept aggressive g p new w)
    where
      go : (b : Bool) → degree (cond b (merge_into p w (base h w)) (relist g p new (kept_elements aggressive g new w) (kept_variables g p new w) w (base h w))) v ≡ degree h v
      go true = ap (λ (l : List ℕ). get_or l v 0) (base_same h w).degrees
      go false = get_or-set_other (base h w).degrees w v _ 0 (λ e. ne (sym e)) ∙ ap (λ (l : List ℕ). get_or l v 0) (base_same h w).degrees

  kind_other : (v : ℕ) (h : Graph) (w : ℕ) → w ≢ v → kind (trim_one aggressive g p new h w) v ≡ kind h v
  unfolding base trim_one trim_to relist merge_into put_kind put_reps put_elements put_variables put_parent put_weight put_degree
  kind_other v h w ne = go (nothing_kept aggressive g p new w)
    where
      go : (b : Bool) → kind (cond b (merge_into p w (base h w)) (relist g p new (kept_elements aggressive g new w) (kept_variables g p new w) w (base h w))) v ≡ kind h v
      go true = get_or-set_other (base h w).kinds w v _ merged (λ e. ne (sym e)) ∙ ap (λ (l : List Kind). get_or l v merged) (base_same h w).kinds
      go false = ap (λ (l : List Kind). get_or l v merged) (base_same h w).kinds

  weight_other : (v : ℕ) → v ≢ p → (h : Graph) (w : ℕ) → w ≢ v → weight (trim_one aggressive g p new h w) v ≡ weight h v
  unfolding base trim_one trim_to relist merge_into put_kind put_reps put_elements put_variables put_parent put_weight put_degree
  weight_other v np h w ne = go (nothing_kept aggressive g p new w)
    where
      go : (b : Bool) → weight (cond b (merge_into p w (base h w)) (relist g p new (kept_elements aggressive g new w) (kept_variables g p new w) w (base h w))) v ≡ weight h v
      go true =
          get_or-set_other (set (base h w).weights p (weight (base h w) p + weight (base h w) w)) w v 0 0 (λ e. ne (sym e))
          ∙ get_or-set_other (base h w).weights p v (weight (base h w) p + weight (base h w) w) 0 np
          ∙ ap (λ (l : List ℕ). get_or l v 0) (base_same h w).weights
      go false = ap (λ (l : List ℕ). get_or l v 0) (base_same h w).weights

  -- and to its own
  elements_own : {n : ℕ} (v : ℕ) → v < n → (h : Graph) → Sized n h
      → elements_of (trim_one aggressive g p new h v) v ≡ cond (nothing_kept aggressive g p new v) (elements_of h v) (p ∷ rotate (kept_elements aggressive g new v))
  unfolding base trim_one trim_to relist merge_into put_kind put_reps put_elements put_variables put_parent put_weight put_degree
  elements_own v l h s = go (nothing_kept aggressive g p new v)
    where
      go : (b : Bool) → elements_of (cond b (merge_into p v (base h v)) (relist g p new (kept_elements aggressive g new v) (kept_variables g p new v) v (base h v))) v
          ≡ cond b (elements_of h v) (p ∷ rotate (kept_elements aggressive g new v))
      go true = ap (λ (m : List (List ℕ)). get_or m v []) (base_same h v).elements
      go false = get_or-set_same (base h v).elements v _ [] (omega (arith, ap length (base_same h v).elements, s.elements))

  variables_own : {n : ℕ} (v : ℕ) → v < n → (h : Graph) → Sized n h
      → variables_of (trim_one aggressive g p new h v) v ≡ cond (nothing_kept aggressive g p new v) (variables_of h v) (rotate (kept_variables g p new v))
  unfolding base trim_one trim_to relist merge_into put_kind put_reps put_elements put_variables put_parent put_weight put_degree
  variables_own v l h s = go (nothing_kept aggressive g p new v)
    where
      go : (b : Bool) → variables_of (cond b (merge_into p v (base h v)) (relist g p new (kept_elements aggressive g new v) (kept_variables g p new v) v (base h v))) v
          ≡ cond b (variables_of h v) (rotate (kept_variables g p new v))
      go true = ap (λ (m : List (List ℕ)). get_or m v []) (base_same h v).variables
      go false = get_or-set_same (base h v).variables v _ [] (omega (arith, ap length (base_same h v).variables, s.variables))

  degree_own : {n : ℕ} (v : ℕ) → v < n → (h : Graph) → Sized n h
      → degree (trim_one aggressive g p new h v) v ≡ cond (nothing_kept aggressive g p new v) (degree h v) (trim_degree aggressive g p new v)
  unfolding base trim_one trim_to relist merge_into put_kind put_reps put_elements put_variables put_parent put_weight put_degree
  degree_own v l h s = go (nothing_kept aggressive g p new v)
    where
      go : (b : Bool) → degree (cond b (merge_into p v (base h v)) (relist g p new (kept_elements aggressive g new v) (kept_variables g p new v) v (base h v))) v
          ≡ cond b (degree h v) (trim_degree aggressive g p new v)
      go true = ap (λ (m : List ℕ). get_or m v 0) (base_same h v).degrees
      go false = get_or-set_same (base h v).degrees v _ 0 (omega (arith, ap length (base_same h v).degrees, s.degrees))

  kind_own : {n : ℕ} (v : ℕ) → v < n → (h : Graph) → Sized n h → kind (trim_one aggressive g p new h v) v ≡ cond (nothing_kept aggressive g p new v) merged (kind h v)
  unfolding base trim_one trim_to relist merge_into put_kind put_reps put_elements put_variables put_parent put_weight put_degree
  kind_own v l h s = go (nothing_kept aggressive g p new v)
    where
      go : (b : Bool) → kind (cond b (merge_into p v (base h v)) (relist g p new (kept_elements aggressive g new v) (kept_variables g p new v) v (base h v))) v
          ≡ cond b merged (kind h v)
      go true = get_or-set_same (base h v).kinds v merged merged (omega (arith, ap length (base_same h v).kinds, s.kinds))
      go false = ap (λ (m : List Kind). get_or m v merged) (base_same h v).kinds

  weight_own : {n : ℕ} (v : ℕ) → v < n → (h : Graph) → Sized n h → weight (trim_one aggressive g p new h v) v ≡ cond (nothing_kept aggressive g p new v) 0 (weight h v)
  unfolding base trim_one trim_to relist merge_into put_kind put_reps put_elements put_variables put_parent put_weight put_degree
  weight_own v l h s = go (nothing_kept aggressive g p new v)
    where
      go : (b : Bool) → weight (cond b (merge_into p v (base h v)) (relist g p new (kept_elements aggressive g new v) (kept_variables g p new v) v (base h v))) v
          ≡ cond b 0 (weight h v)
      go true =
          get_or-set_same (set (base h v).weights p (weight (base h v) p + weight (base h v) v)) v 0 0
          (omega (arith, lib.ListN.length-set (base h v).weights p (weight (base h v) p + weight (base h v) v), ap length (base_same h v).weights, s.weights))
      go false = ap (λ (m : List ℕ). get_or m v 0) (base_same h v).weights

  -- any row's parent
  parent_turn : {n : ℕ} (e : ℕ) → e < n → (h : Graph) (w : ℕ) → Sized n h
      → parent (trim_one aggressive g p new h w) e ≡ cond (taken_at aggressive g p new e w) (some p) (parent h e)
  unfolding base trim_one trim_to relist merge_into put_kind put_reps put_elements put_variables put_weight put_degree put_parent
  parent_turn e l h w s = go (nothing_kept aggressive g p new w)
    where
      dropped : Bool
      dropped = member e (dropped_elements aggressive g new w)

      before : parent (base h w) e ≡ cond dropped (some p) (parent h e)
      before = parent_dropped h p e (dropped_elements aggressive g new w) s l

      join : (x y : Bool) → cond y (some p) (cond x (some p) (parent h e)) ≡ cond (x || y) (some p) (parent h e)
      join true true = refl
      join true false = refl
      join false true = refl
      join false false = refl

      go : (b : Bool) → parent (cond b (merge_into p w (base h w)) (relist g p new (kept_elements aggressive g new w) (kept_variables g p new w) w (base h w))) e
          ≡ cond (dropped || (b && eqb e w)) (some p) (parent h e)
      go true = parent_put e w p (base h w) (sized_dropped p h (dropped_elements aggressive g new w) s) l ∙ ap (λ (o : Option ℕ). cond (eqb e w) (some p) o) before ∙ join dropped (eqb e w)
      go false = before ∙ join dropped false

  -- ---- after all turns
  keeps : {n : ℕ} (b : Graph) (w : ℕ) → Sized n b → Sized n (trim_one aggressive g p new b w)
  keeps b w s = sized_trim_one aggressive g p new b w s

  module _ {n : ℕ} (s : Sized n g) (d : Distinct new) where
    pub trimmed_elements : (v : ℕ) → v < n → member v new ≡ true
        → elements_of (trimmed aggressive g p new) v ≡ cond (nothing_kept aggressive g p new v) (elements_of g v) (p ∷ rotate (kept_elements aggressive g new v))
    unfolding trimmed
    trimmed_elements v l m =
        fold_row (trim_one aggressive g p new) (λ (r : Graph). elements_of r v) (Sized n) (λ x. cond (nothing_kept aggressive g p new v) x (p ∷ rotate (kept_elements aggressive g new v))) v
        keeps (elements_other v) (elements_own v l) new d m g s

    pub trimmed_variables : (v : ℕ) → v < n → member v new ≡ true
        → variables_of (trimmed aggressive g p new) v ≡ cond (nothing_kept aggressive g p new v) (variables_of g v) (rotate (kept_variables g p new v))
    unfolding trimmed
    trimmed_variables v l m =
        fold_row (trim_one aggressive g p new) (λ (r : Graph). variables_of r v) (Sized n) (λ x. cond (nothing_kept aggressive g p new v) x (rotate (kept_variables g p new v))) v
        keeps (variables_other v) (variables_own v l) new d m g s

    pub trimmed_degree : (v : ℕ) → v < n → member v new ≡ true
        → degree (trimmed aggressive g p new) v ≡ cond (nothing_kept aggressive g p new v) (degree g v) (trim_degree aggressive g p new v)
    unfolding trimmed
    trimmed_degree v l m =
        fold_row (trim_one aggressive g p new) (λ (r : Graph). degree r v) (Sized n) (λ x. cond (nothing_kept aggressive g p new v) x (trim_degree aggressive g p new v)) v
        keeps (degree_other v) (degree_own v l) new d m g s

    pub trimmed_kind : (v : ℕ) → v < n → member v new ≡ true → kind (trimmed aggressive g p new) v ≡ cond (nothing_kept aggressive g p new v) merged (kind g v)
    unfolding trimmed
    trimmed_kind v l m =
        fold_row (trim_one aggressive g p new) (λ (r : Graph). kind r v) (Sized n) (λ x. cond (nothing_kept aggressive g p new v) merged x) v
        keeps (kind_other v) (kind_own v l) new d m g s

    pub trimmed_weight : (v : ℕ) → v < n → v ≢ p → member v new ≡ true → weight (trimmed aggressive g p new) v ≡ cond (nothing_kept aggressive g p new v) 0 (weight g v)
    unfolding trimmed
    trimmed_weight v l np m =
        fold_row (trim_one aggressive g p new) (λ (r : Graph). weight r v) (Sized n) (λ x. cond (nothing_kept aggressive g p new v) 0 x) v
        keeps (weight_other v np) (weight_own v l) new d m g s

    pub trimmed_parent : (e : ℕ) → e < n → parent (trimmed aggressive g p new) e ≡ cond (hits (taken_at aggressive g p new e) new) (some p) (parent g e)
    unfolding trimmed
    trimmed_parent e l =
        fold_hits (trim_one aggressive g p new) (λ (r : Graph). parent r e) (Sized n) (some p) (taken_at aggressive g p new e)
        keeps (λ b w k. parent_turn e l b w k) new g s

  -- a row that is not collected
  pub still_elements : (v : ℕ) → member v new ≡ false → elements_of (trimmed aggressive g p new) v ≡ elements_of g v
  unfolding trimmed
  still_elements v m = fold_other (trim_one aggressive g p new) (λ (r : Graph). elements_of r v) v (elements_other v) new m g

  pub still_variables : (v : ℕ) → member v new ≡ false → variables_of (trimmed aggressive g p new) v ≡ variables_of g v
  unfolding trimmed
  still_variables v m = fold_other (trim_one aggressive g p new) (λ (r : Graph). variables_of r v) v (variables_other v) new m g

  pub still_degree : (v : ℕ) → member v new ≡ false → degree (trimmed aggressive g p new) v ≡ degree g v
  unfolding trimmed
  still_degree v m = fold_other (trim_one aggressive g p new) (λ (r : Graph). degree r v) v (degree_other v) new m g

  pub still_kind : (v : ℕ) → member v new ≡ false → kind (trimmed aggressive g p new) v ≡ kind g v
  unfolding trimmed
  still_kind v m = fold_other (trim_one aggressive g p new) (λ (r : Graph). kind r v) v (kind_other v) new m g

  pub still_weight : (v : ℕ) → v ≢ p → member v new ≡ false → weight (trimmed aggressive g p new) v ≡ weight g v
  unfolding trimmed
  still_weight v np m = fold_other (trim_one aggressive g p new) (λ (r : Graph). weight r v) v (weight_other v np) new m g
