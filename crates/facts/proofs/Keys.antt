-- K-a, and the key that does not matter: rows of equal lists have one key, whatever is made of the sum, so that every key leads to the same merges, the same
-- steps, the same final state and the same number of collections.
-- Assumes nothing.
use Prim.Native.Nat.{ℕ, zero, suc}
use mathlib.Core.Path.{◌≡◌, refl, sym, ap, ◌∙◌}
use mathlib.Core.Bool.{Bool, true, false, cond, ◌&&◌}
use mathlib.Core.List.{List, [], ◌∷◌, foldl, reverse}
use lib.Dec.{eqb, ltb}
use lib.ListN.{length}
use borrow.Author.Tests.{eq-eqb}
use Rattle.plain.proofs.Logic.{cond_has}
use Rattle.plain.proofs.Members.{member_here, member_there, member_reverse, kept_was}
use Rattle.plain.specs.Lists.{member, keep, total}
use Rattle.plain.specs.Members.{Distinct, Within}
use Rattle.definition.specs.State.{Graph, State, has_weight, started, put_kind, put_reps, put_parent, put_weight, merge_into}
use Rattle.definition.specs.Pivot.{Found, nobody, found, pivot, collected}
use Rattle.definition.specs.Merge.{plain_key, entries_of, key, same_lists, alike, merge_one, merge_all, merged_alike}
use Rattle.definition.specs.Elimination.{finish, eliminate, step, run, final_state, beside}
use Rattle.definition.specs.Pattern.{column_count}
use Rattle.definition.specs.Answers.{Problem, answer_of, rule_for}
use Rattle.definition.specs.Ordering.{Plain, plain_from, plain, final_of, graph_of, limit_of, key_for}
use Rattle.definition.specs.Outcome.{outcome, with_count, refused, collection_count}
use Rattle.definition.specs.Room.{Room, room_step, collections_of}
use Rattle.facts.proofs.Same.{same_key}
use Rattle.facts.proofs.Stepped.{after_trim, after_merge}
use Rattle.facts.proofs.Weights.{compared_mass, distinct_entries}
use Rattle.facts.proofs.Pivots.{pivoted}
use Rattle.facts.proofs.Theorem.{inv_step}
use Rattle.facts.proofs.Start.{Neighbourly}
use Rattle.facts.proofs.Enlisted.{inv_start}
use Rattle.facts.proofs.Accepted.{neighbourly_graph}
use Rattle.facts.specs.Accepted.{Accepted}
use Rattle.facts.specs.Classes.{wrapped_key}
use Rattle.facts.specs.Invariant.{Var, Quotient, Inv}

-- ---- one comparison

-- of two rows that have no entry twice the key says nothing more than the lists do
pub alike_plain : (key_of : ℕ → ℕ) (h : Graph) (i j : ℕ) → Distinct (entries_of h i) → Distinct (entries_of h j)
    → alike key_of h i j ≡ (has_weight h i && has_weight h j) && same_lists h i j
unfolding alike
alike_plain key_of h i j d e =
    middle (has_weight h i && has_weight h j) (eqb (key key_of h i) (key key_of h j)) (same_lists h i j) (λ s. eq-eqb (key key_of h i) (key key_of h j) (same_key key_of h i j d e s))
  where
    middle : (a k s : Bool) → (s ≡ true → k ≡ true) → (a && k) && s ≡ a && s
    middle true k true f = ap (λ (b : Bool). b && true) (f refl)
    middle true true false f = refl
    middle true false false f = refl
    middle false k s f = refl

-- ---- step 5

-- no row of vs has an entry twice
abbrev pub Clean : List ℕ → Graph → Type 0
Clean vs h = (v : ℕ) → member v vs ≡ true → Distinct (entries_of h v)

module _ (vs : List ℕ) where
  clean_merge : (i j : ℕ) (h : Graph) → Clean vs h → Clean vs (merge_into i j h)
  unfolding merge_into put_kind put_reps put_parent put_weight
  clean_merge i j h c = c

  pub clean_one : (key_of : ℕ → ℕ) (i j : ℕ) (h : Graph) → Clean vs h → Clean vs (merge_one key_of i h j)
  unfolding merge_one
  clean_one key_of i j h c = cond_has (Clean vs) (alike key_of h i j) (λ e. clean_merge i j h c) (λ e. c)

  pub clean_fold : (key_of : ℕ → ℕ) (i : ℕ) (js : List ℕ) (h : Graph) → Clean vs h → Clean vs (foldl (merge_one key_of i) h js)
  clean_fold key_of i [] h c = c
  clean_fold key_of i (j ∷ js) h c = clean_fold key_of i js (merge_one key_of i h j) (clean_one key_of i j h c)

  module _ (key_of key_of' : ℕ → ℕ) where
    one_any_key : (i j : ℕ) (h : Graph) → member i vs ≡ true → member j vs ≡ true → Clean vs h → merge_one key_of i h j ≡ merge_one key_of' i h j
    unfolding merge_one
    one_any_key i j h mi mj c =
        ap (λ (b : Bool). cond b (merge_into i j h) h) (alike_plain key_of h i j (c i mi) (c j mj) ∙ sym (alike_plain key_of' h i j (c i mi) (c j mj)))

    fold_any_key : (i : ℕ) (js : List ℕ) (h : Graph) → member i vs ≡ true → Within js vs → Clean vs h → foldl (merge_one key_of i) h js ≡ foldl (merge_one key_of' i) h js
    fold_any_key i [] h mi w c = refl
    fold_any_key i (j ∷ js) h mi w c =
        fold_any_key i js (merge_one key_of i h j) mi (λ x m. w x (member_there x j js m)) (clean_one key_of i j h c)
        ∙ ap (λ (b : Graph). foldl (merge_one key_of' i) b js) (one_any_key i j h mi (w j (member_here j js)) c)

    pub all_any_key : (js : List ℕ) (h : Graph) → Within js vs → Clean vs h → merge_all key_of js h ≡ merge_all key_of' js h
    unfolding merge_all
    all_any_key [] h w c = refl
    all_any_key (i ∷ js) h w c =
        all_any_key js (foldl (merge_one key_of i) h js) (λ x m. w x (member_there x i js m)) (clean_fold key_of i js h c)
        ∙ ap (merge_all key_of' js) (fold_any_key i js h (w i (member_here i js)) (λ x m. w x (member_there x i js m)) c)

-- the graph after step 5 is the same for every key
pub merged_any_key : (key_of key_of' : ℕ → ℕ) (new : List ℕ) (g : Graph) → Clean (keep (has_weight g) new) g → merged_alike key_of new g ≡ merged_alike key_of' new g
unfolding merged_alike
merged_any_key key_of key_of' new g c =
    let vs : List ℕ = keep (has_weight g) new in
    all_any_key vs key_of key_of' (reverse vs) g (λ x m. sym (member_reverse x vs) ∙ m) c

-- ---- the elimination

-- what step 5 compares in a state of the elimination has no entry twice
pub clean_compared : {n : ℕ} (aggressive : Bool) (g : Graph) (p : ℕ) → Quotient n g → Var g p
    → Clean (keep (has_weight (after_trim aggressive g p)) (collected g p)) (after_trim aggressive g p)
clean_compared aggressive g p q pv v m =
    distinct_entries (λ x. x) aggressive g p q pv v (kept_was v (has_weight (after_trim aggressive g p)) (collected g p) m) (compared_mass (λ x. x) aggressive g p q pv v m)

pub after_merge_any_key : {n : ℕ} (key_of key_of' : ℕ → ℕ) (aggressive : Bool) (g : Graph) (p : ℕ) → Quotient n g → Var g p
    → after_merge key_of aggressive g p ≡ after_merge key_of' aggressive g p
after_merge_any_key key_of key_of' aggressive g p q pv = merged_any_key key_of key_of' (collected g p) (after_trim aggressive g p) (clean_compared aggressive g p q pv)

module _ {n : ℕ} (key_of key_of' : ℕ → ℕ) (aggressive : Bool) where
  pub eliminate_any_key : (s : State) (p d : ℕ) → Inv n s → Var s.graph p → eliminate key_of n aggressive s p d ≡ eliminate key_of' n aggressive s p d
  unfolding eliminate
  eliminate_any_key s p d v pv = ap (finish n s p d (collected s.graph p)) (after_merge_any_key key_of key_of' aggressive s.graph p v.graph pv)

  pub step_any_key : (s : State) → Inv n s → step key_of n aggressive s (pivot s) ≡ step key_of' n aggressive s (pivot s)
  unfolding step
  step_any_key s v = go (pivot s) refl
    where
      go : (f : Found) → pivot s ≡ f → step key_of n aggressive s f ≡ step key_of' n aggressive s f
      go nobody e = refl
      go (found p d) e = eliminate_any_key s p d v (pivoted s v p d e).is_var

  pub run_any_key : (k : ℕ) (s : State) → Inv n s → run key_of k n aggressive s ≡ run key_of' k n aggressive s
  unfolding run
  run_any_key zero s v = refl
  run_any_key (suc k) s v =
      ap (λ (t : State). elim (ltb s.gone n) [ true ↦ t | false ↦ s ])
      (run_any_key k (step key_of n aggressive s (pivot s)) (inv_step key_of aggressive s v) ∙ ap (run key_of' k n aggressive) (step_any_key s v))

  -- and so is all that is told of the run beside it
  pub beside_any_key : {A : Type 0} (tell : State → Found → State → A → A) (k : ℕ) (s : State) (x : A) → Inv n s
      → beside tell key_of k n aggressive s x ≡ beside tell key_of' k n aggressive s x
  unfolding beside
  beside_any_key tell zero s x v = refl
  beside_any_key {A} tell (suc k) s x v =
      ap (λ (y : A). elim (ltb s.gone n) [ true ↦ y | false ↦ x ])
      (beside_any_key tell k (step key_of n aggressive s (pivot s)) (tell s (pivot s) (step key_of n aggressive s (pivot s)) x) (inv_step key_of aggressive s v)
      ∙ ap (λ (t : State). beside tell key_of' k n aggressive t (tell s (pivot s) t x)) (step_any_key s v))

module _ (limit : ℕ) (nbrs : List (List ℕ)) (nb : Neighbourly nbrs) (aggressive : Bool) where
  -- request 2: the final state, and with it all that is read off it
  pub final_any_key : (key_of key_of' : ℕ → ℕ) → final_state key_of aggressive limit nbrs ≡ final_state key_of' aggressive limit nbrs
  unfolding final_state
  final_any_key key_of key_of' = run_any_key key_of key_of' aggressive (length nbrs) (started limit nbrs) (inv_start limit nbrs nb)

  pub collections_any_key : (key_of key_of' : ℕ → ℕ) (size : ℕ) → collections_of key_of aggressive limit nbrs size ≡ collections_of key_of' aggressive limit nbrs size
  unfolding collections_of
  collections_any_key key_of key_of' size =
      ap (λ (r : Room). r.collections)
      (beside_any_key key_of key_of' aggressive (room_step size) (length nbrs) (started limit nbrs) (record { free = total length nbrs; collections = 0 }) (inv_start limit nbrs nb))

  -- the unlimited sum, and the sum in 32 bits
  pub final_wrapped : (m : ℕ) → final_state (plain_key m) aggressive limit nbrs ≡ final_state (wrapped_key m) aggressive limit nbrs
  final_wrapped m = final_any_key (plain_key m) (wrapped_key m)

  -- permutation, inverse, elements, and the six statistics that no room has a say in
  pub ordering_wrapped : (m : ℕ) → plain_from (final_state (plain_key m) aggressive limit nbrs) ≡ plain_from (final_state (wrapped_key m) aggressive limit nbrs)
  ordering_wrapped m = ap plain_from (final_wrapped m)

  pub collections_wrapped : (m size : ℕ) → collections_of (plain_key m) aggressive limit nbrs size ≡ collections_of (wrapped_key m) aggressive limit nbrs size
  collections_wrapped m size = collections_any_key (plain_key m) (wrapped_key m) size

-- ---- of an accepted problem: the whole outcome is that of any key

module _ (p : Problem) (ok : Accepted p) (key_of : ℕ → ℕ) where
  abbrev final_with : State
  final_with = final_state key_of p.aggressive (limit_of p.pattern (rule_for p)) (graph_of p.pattern)

  pub plain_any_key : plain p.pattern (rule_for p) p.aggressive ≡ plain_from (final_state key_of p.aggressive (limit_of p.pattern (rule_for p)) (graph_of p.pattern))
  unfolding plain final_of
  plain_any_key = ap plain_from (final_any_key (limit_of p.pattern (rule_for p)) (graph_of p.pattern) (neighbourly_graph p ok) p.aggressive (key_for p.pattern) key_of)

  pub count_any_key : collection_count p ≡ collections_of key_of p.aggressive (limit_of p.pattern (rule_for p)) (graph_of p.pattern) p.lists_size
  unfolding collection_count
  count_any_key = collections_any_key (limit_of p.pattern (rule_for p)) (graph_of p.pattern) (neighbourly_graph p ok) p.aggressive (key_for p.pattern) key_of p.lists_size

  pub outcome_any_key : outcome p
      ≡ with_count (answer_of p) (plain_from (final_state key_of p.aggressive (limit_of p.pattern (rule_for p)) (graph_of p.pattern)))
      (collections_of key_of p.aggressive (limit_of p.pattern (rule_for p)) (graph_of p.pattern) p.lists_size)
  unfolding outcome
  outcome_any_key =
      ap (λ (b : Bool). elim b [
        | true ↦ with_count (answer_of p) (plain p.pattern (rule_for p) p.aggressive) (collection_count p)
        | false ↦ refused (answer_of p)
      ]) ok
      ∙ ap (λ (x : Plain). with_count (answer_of p) x (collection_count p)) plain_any_key
      ∙ ap (with_count (answer_of p) (plain_from final_with)) count_any_key

-- request 2: with the sum in 32 bits
pub outcome_wrapped : (p : Problem) → Accepted p
    → outcome p ≡ with_count (answer_of p) (plain_from (final_state (wrapped_key (column_count p.pattern)) p.aggressive (limit_of p.pattern (rule_for p)) (graph_of p.pattern)))
    (collections_of (wrapped_key (column_count p.pattern)) p.aggressive (limit_of p.pattern (rule_for p)) (graph_of p.pattern) p.lists_size)
outcome_wrapped p ok = outcome_any_key p ok (wrapped_key (column_count p.pattern))
