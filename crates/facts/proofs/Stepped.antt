-- One step of the elimination as a whole, row by row: the graph after it, from the graph before it. All that the invariant needs of a step is here.
-- Assumes nothing.
use Prim.Native.Nat.{ℕ, ◌+◌, ◌≤◌, ◌<◌}
use mathlib.Core.Path.{◌≡◌, refl, sym, ap, ◌∙◌}
use mathlib.Core.Logic.{◌≢◌}
use mathlib.Core.Bool.{Bool, true, false, cond, ◌&&◌, ◌||◌}
use mathlib.Core.List.{List, [], ◌∷◌, ◌++◌}
use mathlib.Core.Option.{Option, some}
use lib.Dec.{eqb}
use lib.ListN.{get_or}
use borrow.Author.Tests.{eqb-true}
use Rattle.plain.proofs.Folds.{hits, hits_at, hits_where}
use Rattle.plain.proofs.Logic.{either, and_left, clash, and_right, or_cases, or_left, bool_ext}
use Rattle.plain.proofs.Members.{kept_was}
use Rattle.plain.specs.Lists.{member, keep, total, rotate}
use Rattle.plain.specs.Members.{Within}
use Rattle.definition.specs.State.{Graph, Kind, merged, element, kind, weight, elements_of, variables_of, parent, degree, has_weight}
use Rattle.definition.specs.Pivot.{collected, passed}
use Rattle.definition.specs.Trim.{trimmed, kept_elements, kept_variables, dropped_elements}
use Rattle.definition.specs.Merge.{merged_alike}
use Rattle.facts.proofs.Invariant.{var_inside, var_elsewhere}
use Rattle.facts.proofs.Collected.{distinct_collected, collected_apart, collected_var}
use Rattle.facts.proofs.Rows.{same_passed, parent_passed, nothing_kept, trim_degree, taken_at, trimmed_elements, trimmed_variables, trimmed_degree, trimmed_kind, trimmed_weight, trimmed_parent}
use Rattle.facts.proofs.Merging.{Joined, joined, part}
use Rattle.facts.proofs.Sizes.{sized_parents, sized_trimmed}
use Rattle.facts.specs.Invariant.{Var, Sized, Quotient}

-- ---- the parts of a step, in the graph before it

abbrev pub kept_e : Bool → Graph → ℕ → ℕ → List ℕ
kept_e aggressive g p v = kept_elements aggressive (passed g p) (collected g p) v

abbrev pub kept_v : Graph → ℕ → ℕ → List ℕ
kept_v g p v = kept_variables (passed g p) p (collected g p) v

abbrev pub is_mass : Bool → Graph → ℕ → ℕ → Bool
is_mass aggressive g p v = nothing_kept aggressive (passed g p) p (collected g p) v

abbrev pub is_dropped : Bool → Graph → ℕ → ℕ → Bool
is_dropped aggressive g p e = hits (λ v. member e (dropped_elements aggressive (passed g p) (collected g p) v)) (collected g p)

-- abs of the plan
abbrev pub is_taken : Bool → Graph → ℕ → ℕ → Bool
is_taken aggressive g p e = member e (elements_of g p) || is_dropped aggressive g p e

abbrev pub after_trim : Bool → Graph → ℕ → Graph
after_trim aggressive g p = trimmed aggressive (passed g p) p (collected g p)

abbrev pub after_merge : (ℕ → ℕ) → Bool → Graph → ℕ → Graph
after_merge key_of aggressive g p = merged_alike key_of (collected g p) (after_trim aggressive g p)

-- what becomes of a collected variable
pub data After (aggressive : Bool) (g t : Graph) (p v : ℕ) : Type 0 where
  away : kind t v ≡ merged → weight t v ≡ 0 → After aggressive g t p v
  remains : is_mass aggressive g p v ≡ false → kind t v ≡ kind g v → weight g v ≤ weight t v → parent t v ≡ parent g v → After aggressive g t p v

pub record Stepped (n : ℕ) (aggressive : Bool) (g t : Graph) (p : ℕ) : Type 0 where
  pub sized : Sized n t
  -- the pivot
  pub pivot_kind : kind t p ≡ element
  pub pivot_parent : parent t p ≡ parent g p
  pub pivot_members : variables_of t p ≡ keep (has_weight t) (collected g p)
  pub pivot_degree : degree t p ≡ total (weight t) (variables_of t p)
  -- a row that is neither the pivot nor collected
  pub still_kind : (v : ℕ) → v ≢ p → member v (collected g p) ≡ false → kind t v ≡ kind g v
  pub still_weight : (v : ℕ) → v ≢ p → member v (collected g p) ≡ false → weight t v ≡ weight g v
  pub still_elements : (v : ℕ) → v ≢ p → member v (collected g p) ≡ false → elements_of t v ≡ elements_of g v
  pub still_variables : (v : ℕ) → v ≢ p → member v (collected g p) ≡ false → variables_of t v ≡ variables_of g v
  pub still_degree : (v : ℕ) → v ≢ p → member v (collected g p) ≡ false → degree t v ≡ degree g v
  pub still_parent : (v : ℕ) → v < n → v ≢ p → member v (collected g p) ≡ false → parent t v ≡ cond (is_taken aggressive g p v) (some p) (parent g v)
  -- a collected row
  pub after : (v : ℕ) → member v (collected g p) ≡ true → After aggressive g t p v
  pub new_elements : (v : ℕ) → member v (collected g p) ≡ true → is_mass aggressive g p v ≡ false → elements_of t v ≡ p ∷ rotate (kept_e aggressive g p v)
  pub new_variables : (v : ℕ) → member v (collected g p) ≡ true → is_mass aggressive g p v ≡ false → variables_of t v ≡ rotate (kept_v g p v)
  -- F8: a set of collected rows that has with each row those of equal lists, and none that is mass eliminated, keeps its weight
  pub sums : (r : ℕ → Bool)
      → ((i j : ℕ) → member i (collected g p) ≡ true → member j (collected g p) ≡ true → is_mass aggressive g p i ≡ false → is_mass aggressive g p j ≡ false
      → Within (kept_e aggressive g p i ++ kept_v g p i) (kept_e aggressive g p j ++ kept_v g p j)
      → Within (kept_e aggressive g p j ++ kept_v g p j) (kept_e aggressive g p i ++ kept_v g p i) → r i ≡ r j)
      → ((v : ℕ) → member v (collected g p) ≡ true → is_mass aggressive g p v ≡ true → r v ≡ false)
      → total (part r t) (collected g p) ≡ total (part r g) (collected g p)
  -- the pivot takes what the others lose
  pub conserved : weight t p + total (weight t) (collected g p) ≡ weight g p + total (weight g) (collected g p)

-- ---- that a step is so

module _ {n : ℕ} (aggressive : Bool) (g : Graph) (p : ℕ) (q : Quotient n g) (pv : Var g p) where
  pub inside : (v : ℕ) → member v (collected g p) ≡ true → v < n
  inside v m = var_inside q v (collected_var q p pv v m)

  pub sized1 : Sized n (passed g p)
  unfolding passed
  sized1 = sized_parents p g (elements_of g p) q.sized

  pub sized2 : Sized n (after_trim aggressive g p)
  sized2 = sized_trimmed aggressive (passed g p) p (collected g p) sized1

  -- step 4 at a collected row
  pub weight2 : (v : ℕ) → member v (collected g p) ≡ true → weight (after_trim aggressive g p) v ≡ cond (is_mass aggressive g p v) 0 (weight g v)
  weight2 v m =
      trimmed_weight aggressive (passed g p) p (collected g p) sized1 (distinct_collected g p) v (inside v m) (collected_apart g p v m) m
      ∙ ap (λ (l : List ℕ). cond (is_mass aggressive g p v) 0 (get_or l v 0)) (same_passed g p).weights

  pub kind2 : (v : ℕ) → member v (collected g p) ≡ true → kind (after_trim aggressive g p) v ≡ cond (is_mass aggressive g p v) merged (kind g v)
  kind2 v m =
      trimmed_kind aggressive (passed g p) p (collected g p) sized1 (distinct_collected g p) v (inside v m) m
      ∙ ap (λ (l : List Kind). cond (is_mass aggressive g p v) merged (get_or l v merged)) (same_passed g p).kinds

  pub elements2 : (v : ℕ) → member v (collected g p) ≡ true → is_mass aggressive g p v ≡ false
      → elements_of (after_trim aggressive g p) v ≡ p ∷ rotate (kept_e aggressive g p v)
  elements2 v m k =
      trimmed_elements aggressive (passed g p) p (collected g p) sized1 (distinct_collected g p) v (inside v m) m
      ∙ ap (λ (b : Bool). cond b (elements_of (passed g p) v) (p ∷ rotate (kept_e aggressive g p v))) k

  pub variables2 : (v : ℕ) → member v (collected g p) ≡ true → is_mass aggressive g p v ≡ false
      → variables_of (after_trim aggressive g p) v ≡ rotate (kept_v g p v)
  variables2 v m k =
      trimmed_variables aggressive (passed g p) p (collected g p) sized1 (distinct_collected g p) v (inside v m) m
      ∙ ap (λ (b : Bool). cond b (variables_of (passed g p) v) (rotate (kept_v g p v))) k

  pub degree2 : (v : ℕ) → member v (collected g p) ≡ true → is_mass aggressive g p v ≡ false
      → degree (after_trim aggressive g p) v ≡ trim_degree aggressive (passed g p) p (collected g p) v
  degree2 v m k =
      trimmed_degree aggressive (passed g p) p (collected g p) sized1 (distinct_collected g p) v (inside v m) m
      ∙ ap (λ (b : Bool). cond b (degree (passed g p) v) (trim_degree aggressive (passed g p) p (collected g p) v)) k

  -- the parents: a variable that is no mass keeps its own
  pub parent2 : (e : ℕ) → e < n → parent (after_trim aggressive g p) e
      ≡ cond (hits (taken_at aggressive (passed g p) p (collected g p) e) (collected g p)) (some p) (cond (member e (elements_of g p)) (some p) (parent g e))
  parent2 e l =
      trimmed_parent aggressive (passed g p) p (collected g p) sized1 (distinct_collected g p) e l
      ∙ ap (λ (o : Option ℕ). cond (hits (taken_at aggressive (passed g p) p (collected g p) e) (collected g p)) (some p) o) (parent_passed g p e q.sized l)

  -- dropped elements are elements
  pub dropped_was : (e v : ℕ) → member e (dropped_elements aggressive (passed g p) (collected g p) v) ≡ true → member e (elements_of g v) ≡ true
  unfolding dropped_elements
  dropped_was e v m = ap (λ (l : List (List ℕ)). member e (get_or l v [])) (sym (same_passed g p).elements) ∙ kept_was e _ (elements_of (passed g p) v) m

  pub not_dropped : (x v : ℕ) → Var g x → member v (collected g p) ≡ true → member x (dropped_elements aggressive (passed g p) (collected g p) v) ≡ true → ⊥
  not_dropped x v vx mv m = clash (member x (elements_of g v)) (dropped_was x v m) (var_elsewhere q v x (collected_var q p pv v mv) vx)

  pub var_parent2 : (x : ℕ) → Var g x → (member x (collected g p) ≡ true → is_mass aggressive g p x ≡ false) → parent (after_trim aggressive g p) x ≡ parent g x
  var_parent2 x vx nm =
      parent2 x (var_inside q x vx)
      ∙ ap (λ (b : Bool). cond b (some p) (cond (member x (elements_of g p)) (some p) (parent g x))) none_hit
      ∙ ap (λ (b : Bool). cond b (some p) (parent g x)) (var_elsewhere q p x pv vx)
    where
      none_hit : hits (taken_at aggressive (passed g p) p (collected g p) x) (collected g p) ≡ false
      none_hit = either (hits (taken_at aggressive (passed g p) p (collected g p) x) (collected g p) ≡ false) (hits (taken_at aggressive (passed g p) p (collected g p) x) (collected g p))
          (λ e.
          let r = hits_where (taken_at aggressive (passed g p) p (collected g p) x) (collected g p) e in
          absurd (or_cases ⊥ (member x (dropped_elements aggressive (passed g p) (collected g p) r.0)) (is_mass aggressive g p r.0 && eqb x r.0) r.2
          (λ k. not_dropped x r.0 vx r.1 k)
          (λ k.
          let same : x ≡ r.0 = eqb-true x r.0 (and_right (is_mass aggressive g p r.0) (eqb x r.0) k) in
          clash (is_mass aggressive g p x) (ap (is_mass aggressive g p) same ∙ and_left (is_mass aggressive g p r.0) (eqb x r.0) k)
          (nm (ap (λ (z : ℕ). member z (collected g p)) same ∙ r.1)))))
          (λ e. e)

  pub other_parent2 : (e : ℕ) → e < n → member e (collected g p) ≡ false → parent (after_trim aggressive g p) e ≡ cond (is_taken aggressive g p e) (some p) (parent g e)
  other_parent2 e l m =
      parent2 e l
      ∙ ap (λ (b : Bool). cond b (some p) (cond (member e (elements_of g p)) (some p) (parent g e))) (hits_same (collected g p) (λ x k. k))
      ∙ join (is_dropped aggressive g p e) (member e (elements_of g p))
    where
      join : (x y : Bool) → cond x (some p) (cond y (some p) (parent g e)) ≡ cond (y || x) (some p) (parent g e)
      join true true = refl
      join true false = refl
      join false true = refl
      join false false = refl

      hits_same : (ws : List ℕ) → ((x : ℕ) → member x ws ≡ true → member x (collected g p) ≡ true)
          → hits (taken_at aggressive (passed g p) p (collected g p) e) ws ≡ hits (λ v. member e (dropped_elements aggressive (passed g p) (collected g p) v)) ws
      hits_same ws w = bool_ext _ _
          (λ h.
          let r = hits_where (taken_at aggressive (passed g p) p (collected g p) e) ws h in
          or_cases _ (member e (dropped_elements aggressive (passed g p) (collected g p) r.0)) (is_mass aggressive g p r.0 && eqb e r.0) r.2
          (λ k. hits_at (λ v. member e (dropped_elements aggressive (passed g p) (collected g p) v)) r.0 ws r.1 k)
          (λ k. clash (member e (collected g p))
          (ap (λ (z : ℕ). member z (collected g p)) (eqb-true e r.0 (and_right (is_mass aggressive g p r.0) (eqb e r.0) k)) ∙ w r.0 r.1) m))
          (λ h.
          let r = hits_where (λ v. member e (dropped_elements aggressive (passed g p) (collected g p) v)) ws h in
          hits_at (taken_at aggressive (passed g p) p (collected g p) e) r.0 ws r.1
          (or_left (member e (dropped_elements aggressive (passed g p) (collected g p) r.0)) (is_mass aggressive g p r.0 && eqb e r.0) r.2))

  pub joined2 : (key_of : ℕ → ℕ) → Joined n (keep (has_weight (after_trim aggressive g p)) (collected g p)) (after_trim aggressive g p) (after_merge key_of aggressive g p)
  joined2 key_of = joined key_of (collected g p) (after_trim aggressive g p) sized2 (distinct_collected g p) inside
