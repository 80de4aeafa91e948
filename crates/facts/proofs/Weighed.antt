-- More of the invariant: an element weighs as many rows as it has pivots, and has no elements; a variable with no element weighs one row.
-- And what each step keeps of such states, and of what is told beside them.
-- Assumes nothing.
use Prim.Native.Nat.{ℕ, ◌+◌, ◌≤◌, ◌<◌}
use native.Mathlib.Omega.{arith}
use mathlib.Core.Path.{◌≡◌, refl, sym, ap, ◌∙◌}
use mathlib.Core.Bool.{Bool, true, ◌||◌, false≢true}
use mathlib.Core.List.{List, []}
use lib.Dec.{eqb}
use lib.ListN.{length, get_or}
use borrow.Author.Tests.{eqb-true, eqb-false, ltb-true}
use Rattle.plain.proofs.Logic.{either, clash, or_left}
use Rattle.plain.proofs.Members.{member_kept, member_up_to, not_in}
use Rattle.plain.proofs.Sums.{one_below, total_ones}
use Rattle.plain.specs.Lists.{member, up_to}
use Rattle.definition.specs.State.{Graph, State, Kind, variable, merged, element, dense, kind, weight, elements_of, is_variable, is_element, is_dense, start_kind, start_weight, at_once, started}
use Rattle.definition.specs.Pivot.{Found, nobody, found, pivot, collected}
use Rattle.definition.specs.Elimination.{eliminate, finish, step, run, beside}
use Rattle.facts.proofs.Beside.{beside_keeps}
use Rattle.facts.proofs.Cases.{var_cases, collected_no_element}
use Rattle.facts.proofs.Enlisted.{inv_start}
use Rattle.facts.proofs.Invariant.{var_inside, var_weighs, element_not_merged}
use Rattle.facts.proofs.Placing.{placed_same, element_elements}
use Rattle.facts.proofs.Pivots.{Pivoted, pivoted, some_pivot}
use Rattle.facts.proofs.Progress.{progress}
use Rattle.facts.proofs.Start.{Neighbourly, kind_in, kind_inside, weight_is, elements_is}
use Rattle.facts.proofs.Step.{stepped, gone_after}
use Rattle.facts.proofs.Stepped.{Stepped, after_merge, joined2}
use Rattle.facts.proofs.Theorem.{inv_eliminate}
use Rattle.facts.specs.Invariant.{Var, Quotient, Inv}

pub record Weighed (s : State) : Type 0 where
  -- W2, of the elements
  pub heavy : (e : ℕ) → is_element (kind s.graph e) ≡ true → 1 ≤ weight s.graph e
  pub among : (e : ℕ) → is_element (kind s.graph e) ≡ true → weight s.graph e ≤ s.gone
  pub bare : (e : ℕ) → is_element (kind s.graph e) ≡ true → elements_of s.graph e ≡ []
  -- nothing was merged into it: that would have been in an element's step
  pub lone : (i : ℕ) → Var s.graph i → elements_of s.graph i ≡ [] → weight s.graph i ≡ 1

-- ---- at the start

element_one : (k : Kind) → is_element k ≡ true → start_weight k ≡ 1
unfolding start_weight
element_one variable h = refl
element_one merged h = absurd (false≢true h)
element_one element h = refl
element_one dense h = absurd (false≢true h)

var_one : (k : Kind) → is_variable k ≡ true → start_weight k ≡ 1
unfolding start_weight
var_one variable h = refl
var_one merged h = absurd (false≢true h)
var_one element h = refl
var_one dense h = absurd (false≢true h)

some_in : (x : ℕ) (xs : List ℕ) → member x xs ≡ true → 1 ≤ length xs
some_in x xs m = omega (arith, one_below (λ y. 1) x xs m, total_ones xs)

one_gone : (limit : ℕ) (nbrs : List (List ℕ)) (e : ℕ) → is_element (kind (started limit nbrs).graph e) ≡ true → 1 ≤ (started limit nbrs).gone
unfolding started at_once
one_gone limit nbrs e h =
    let l : e < length nbrs = kind_inside limit nbrs e (element_not_merged (kind (started limit nbrs).graph e) h) in
    some_in e (at_once limit nbrs)
    (member_kept e (λ v. is_element (start_kind limit nbrs v) || is_dense (start_kind limit nbrs v)) (up_to (length nbrs))
    (or_left (is_element (start_kind limit nbrs e)) (is_dense (start_kind limit nbrs e)) (ap is_element (sym (kind_in limit nbrs e l)) ∙ h)) (member_up_to e (length nbrs) l))

pub weighed_start : (limit : ℕ) (nbrs : List (List ℕ)) → Weighed (started limit nbrs)
weighed_start limit nbrs = record {
  heavy = λ e h. omega (arith, weight_is limit nbrs e, element_one (kind (started limit nbrs).graph e) h);
  among = λ e h. omega (arith, weight_is limit nbrs e, element_one (kind (started limit nbrs).graph e) h, one_gone limit nbrs e h);
  bare = λ e h. elements_is limit nbrs e;
  lone = λ i h k. weight_is limit nbrs i ∙ var_one (kind (started limit nbrs).graph i) h;
}

-- ---- after a step

-- the new element has no elements
pub pivot_elements : {n : ℕ} (key_of : ℕ → ℕ) (m : ℕ) (aggressive : Bool) (s : State) (p d : ℕ) → Quotient n s.graph → Var s.graph p
    → elements_of (eliminate key_of m aggressive s p d).graph p ≡ []
unfolding eliminate finish
pivot_elements key_of m aggressive s p d q pv =
    ap (λ (l : List (List ℕ)). get_or l p []) (placed_same _ _ _ _).elements
    ∙ element_elements p _ _ (after_merge key_of aggressive s.graph p) (joined2 aggressive s.graph p q pv key_of).sized (var_inside q p pv)

module _ {n : ℕ} (key_of : ℕ → ℕ) (aggressive : Bool) where
  -- the new element has the pivot at least
  pub pivot_heavy : (s : State) → Inv n s → (p d : ℕ) → Pivoted s p d → 1 ≤ weight (eliminate key_of n aggressive s p d).graph p
  pivot_heavy s v p d pd =
      omega (arith, gone_after key_of n aggressive s p d v.graph pd.is_var, progress key_of n aggressive s p d (var_weighs v.graph p pd.is_var))

  pub weighed_eliminate : (s : State) → Inv n s → Weighed s → (p d : ℕ) → Pivoted s p d → Weighed (eliminate key_of n aggressive s p d)
  weighed_eliminate s v w p d pd = record {
    heavy = λ e h. cases e h (1 ≤ weight (eliminate key_of n aggressive s p d).graph e) (λ x. rw x (pivot_heavy s v p d pd)) (λ k x. omega (arith, w.heavy e k));
    among = λ e h. cases e h (weight (eliminate key_of n aggressive s p d).graph e ≤ (eliminate key_of n aggressive s p d).gone) (λ x. rw x (omega (arith, up)))
        (λ k x. omega (arith, w.among e k, up));
    bare = λ e h. either _ (eqb e p) (λ x. rw (eqb-true e p x) (pivot_elements key_of n aggressive s p d v.graph pd.is_var))
        (λ x. let ne = eqb-false e p x in
        let out = not_in e (collected s.graph p) (λ m. clash (is_element (kind t e)) h (collected_no_element v.graph pd.is_var st e m)) in
        st.still_elements e ne out ∙ w.bare e (ap is_element (sym (st.still_kind e ne out)) ∙ h));
    lone = λ i h k. var_cases v.graph pd.is_var st _ i h
        (λ ne m x. st.still_weight i ne m ∙ w.lone i x (sym (st.still_elements i ne m) ∙ k))
        (λ m a b c. absurd (omega (arith, ap length (sym (st.new_elements i m a) ∙ k))));
  }
    where
      t : Graph
      t = (eliminate key_of n aggressive s p d).graph

      st : Stepped n aggressive s.graph t p
      st = stepped key_of n aggressive s p d v.graph pd.is_var

      up : (eliminate key_of n aggressive s p d).gone ≡ s.gone + weight t p
      up = gone_after key_of n aggressive s p d v.graph pd.is_var

      cases : (e : ℕ) → is_element (kind t e) ≡ true → (P : Type 0) → (e ≡ p → P) → (is_element (kind s.graph e) ≡ true → weight t e ≡ weight s.graph e → P) → P
      cases e h P a b =
          either P (eqb e p) (λ x. a (eqb-true e p x))
          (λ x.
          let ne = eqb-false e p x in
          either P (member e (collected s.graph p))
          (λ m. clash (is_element (kind t e)) h (collected_no_element v.graph pd.is_var st e m))
          (λ m. b (ap is_element (sym (st.still_kind e ne m)) ∙ h) (st.still_weight e ne m)))

  -- ---- through a run

  -- what a step keeps, of such a state and of what is told beside it, holds after any number of steps
  pub told_keeps : {A : Type 0} (P : State → A → Type 0) (tell : State → Found → State → A → A)
      → ((s : State) (x : A) → Inv n s → Weighed s → s.gone < n → (p d : ℕ) → Pivoted s p d → P s x
      → P (eliminate key_of n aggressive s p d) (tell s (found p d) (eliminate key_of n aggressive s p d) x))
      → (k : ℕ) (s : State) (x : A) → Inv n s → Weighed s → P s x
      → Inv n (run key_of k n aggressive s) × Weighed (run key_of k n aggressive s) × P (run key_of k n aggressive s) (beside tell key_of k n aggressive s x)
  unfolding step
  told_keeps {A} P tell keeps k s x v w p =
      beside_keeps (λ (t : State) (y : A). Inv n t × Weighed t × P t y) tell key_of n aggressive
      (λ t y l h. go t y (ltb-true t.gone n l) h (pivot t) refl) k s x (v, w, p)
    where
      go : (t : State) (y : A) → t.gone < n → Inv n t × Weighed t × P t y → (f : Found) → pivot t ≡ f
          → Inv n (step key_of n aggressive t f) × Weighed (step key_of n aggressive t f) × P (step key_of n aggressive t f) (tell t f (step key_of n aggressive t f) y)
      go t y l h nobody e = absurd (some_pivot t h.0 l e)
      go t y l h (found q d) e =
          let pd = pivoted t h.0 q d e in
          (inv_eliminate key_of aggressive t h.0 q d pd, weighed_eliminate t h.0 h.1 q d pd, keeps t y h.0 h.1 l q d pd h.2)

  -- and so of the states alone
  pub run_keeps : (P : State → Type 0)
      → ((s : State) → Inv n s → Weighed s → s.gone < n → (p d : ℕ) → Pivoted s p d → P s → P (eliminate key_of n aggressive s p d))
      → (k : ℕ) (s : State) → Inv n s → Weighed s → P s → Inv n (run key_of k n aggressive s) × Weighed (run key_of k n aggressive s) × P (run key_of k n aggressive s)
  run_keeps P keeps k s v w p = told_keeps (λ (t : State) (y : Unit {0}). P t) (λ s f t y. y) (λ s y. keeps s) k s tt v w p

-- every state of a run has both
pub reached : (nbrs : List (List ℕ)) → Neighbourly nbrs → (key_of : ℕ → ℕ) (aggressive : Bool) (limit k : ℕ)
    → Inv (length nbrs) (run key_of k (length nbrs) aggressive (started limit nbrs)) × Weighed (run key_of k (length nbrs) aggressive (started limit nbrs))
reached nbrs nb key_of aggressive limit k =
    let h = run_keeps {n = length nbrs} key_of aggressive (λ s. Unit {0}) (λ s v w l p d pd u. u) k (started limit nbrs) (inv_start limit nbrs nb) (weighed_start limit nbrs) tt in
    (h.0, h.1)
