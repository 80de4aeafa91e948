-- A dense row has no parent: so at the start, and every step keeps it. Besides, of the end: what an element weighs, and what a row belongs to.
-- Assumes nothing.
use Prim.Native.Nat.{ℕ, zero, suc, ◌<◌}
use native.Mathlib.Omega.{arith}
use mathlib.Core.Path.{◌≡◌, refl, sym, ap, ◌∙◌}
use mathlib.Core.Bool.{Bool, true, false}
use mathlib.Core.List.{List}
use mathlib.Core.Option.{none}
use lib.Dec.{ltb}
use lib.ListN.{length}
use Rattle.plain.proofs.Counting.{same_eq}
use Rattle.plain.proofs.Logic.{clash, none_if}
use Rattle.plain.proofs.Members.{member_up_to}
use Rattle.plain.proofs.Positions.{get_or_same}
use Rattle.plain.proofs.Sums.{one_below}
use Rattle.plain.specs.Lists.{up_to}
use Rattle.plain.specs.Members.{same}
use Rattle.definition.specs.State.{Graph, State, Kind, variable, merged, element, dense, kind, weight, parent, rep, is_variable, is_element, is_dense, started}
use Rattle.definition.specs.Elimination.{eliminate, step, run, final_state}
use Rattle.definition.specs.Pivot.{Found, nobody, found, pivot}
use Rattle.facts.proofs.Belonging.{as_element, dense_apart, dense_outside}
use Rattle.facts.proofs.Cases.{dense_after, taken_known}
use Rattle.facts.proofs.Enlisted.{inv_start}
use Rattle.facts.proofs.Followed.{followed}
use Rattle.facts.proofs.Pivots.{Pivoted, pivoted}
use Rattle.facts.proofs.Recorded.{Recorded}
use Rattle.facts.proofs.Remembered.{recorded_final}
use Rattle.facts.proofs.Start.{Neighbourly}
use Rattle.facts.proofs.Step.{stepped}
use Rattle.facts.proofs.Stepped.{is_taken, Stepped}
use Rattle.facts.proofs.Theorem.{inv_step}
use Rattle.facts.specs.History.{history}
use Rattle.facts.specs.Invariant.{Inv}

abbrev pub Unparented : ℕ → Graph → Type 0
Unparented n g = (v : ℕ) → v < n → is_dense (kind g v) ≡ true → parent g v ≡ none

element_no_dense : (k : Kind) → is_element k ≡ true → is_dense k ≡ false
element_no_dense element e = refl
element_no_dense dense e = sym e
element_no_dense merged e = refl
element_no_dense variable e = refl

module _ {n : ℕ} (key_of : ℕ → ℕ) (aggressive : Bool) where
  module _ (s : State) (i : Inv n s) (h : Unparented n s.graph) (p d : ℕ) (pd : Pivoted s p d) where
    abbrev g : Graph
    g = s.graph

    abbrev t : Graph
    t = (eliminate key_of n aggressive s p d).graph

    st : Stepped n aggressive g t p
    st = stepped key_of n aggressive s p d i.graph pd.is_var

    untaken : (v : ℕ) → is_dense (kind g v) ≡ true → is_taken aggressive g p v ≡ false
    untaken v x =
        none_if (is_taken aggressive g p v) (λ k. let r = taken_known i.graph pd.is_var st v k in
        clash (is_dense (kind g v)) x (element_no_dense (kind g v) (i.graph.elements_live r.0 v r.1 r.2).0))

    unparented_eliminate : Unparented n t
    unparented_eliminate v l x =
        let y : is_dense (kind g v) ≡ true = sym (dense_after i.graph pd.is_var st v) ∙ x in
        let f = followed key_of n aggressive s p d i.graph pd.is_var in
        st.still_parent v l (dense_apart i.graph pd.is_var st f v y) (dense_outside i.graph pd.is_var st f v y) ∙ rw (untaken v y) (h v l y)

  unparented_step : (s : State) → Inv n s → Unparented n s.graph → Unparented n (step key_of n aggressive s (pivot s)).graph
  unfolding step
  unparented_step s i h = go (pivot s) refl
    where
      go : (f : Found) → pivot s ≡ f → Unparented n (step key_of n aggressive s f).graph
      go nobody e = h
      go (found p d) e = unparented_eliminate s i h p d (pivoted s i p d e)

  pub unparented_run : (k : ℕ) (s : State) → Inv n s → Unparented n s.graph → Unparented n (run key_of k n aggressive s).graph
  unfolding run
  unparented_run zero s i h = h
  unparented_run (suc k) s i h = go (ltb s.gone n) (unparented_run k (step key_of n aggressive s (pivot s)) (inv_step key_of aggressive s i) (unparented_step s i h))
    where
      go : (b : Bool) → Unparented n (run key_of k n aggressive (step key_of n aggressive s (pivot s))).graph
          → Unparented n (elim b as (λ x. State) [ true ↦ run key_of k n aggressive (step key_of n aggressive s (pivot s)) | false ↦ s ]).graph
      go true r = r
      go false r = h

-- ---- at the end

module _ (limit : ℕ) (nbrs : List (List ℕ)) (nb : Neighbourly nbrs) (key_of : ℕ → ℕ) (aggressive : Bool) where
  abbrev fin : Graph
  fin = (final_state key_of aggressive limit nbrs).graph

  told : Recorded (length nbrs) nbrs (final_state key_of aggressive limit nbrs) (history key_of aggressive limit nbrs)
  told = recorded_final limit nbrs nb key_of aggressive

  parent_start : (v : ℕ) → parent (started limit nbrs).graph v ≡ none
  unfolding started
  parent_start v = get_or_same (length nbrs) v none

  pub final_unparented : (v : ℕ) → v < length nbrs → kind fin v ≡ dense → parent fin v ≡ none
  unfolding final_state
  final_unparented v l e = unparented_run key_of aggressive (length nbrs) (started limit nbrs) (inv_start limit nbrs nb) (λ w a b. parent_start w) v l (ap is_dense e)

  -- an element belongs to itself
  pub final_own : (v : ℕ) → kind fin v ≡ element → rep fin v ≡ v
  final_own v e = told.belonging.own v (as_element (ap is_element e))

  -- W2 at the end: an element weighs something, any other row nothing
  pub final_heavy : (v : ℕ) → v < length nbrs → kind fin v ≡ element → 0 < weight fin v
  final_heavy v l e =
      omega (
        arith,
        told.belonging.weighs v l (ap is_dense e),
        one_below (λ u. same v (rep fin u)) v (up_to (length nbrs)) (member_up_to v (length nbrs) l),
        same_eq v (rep fin v) (sym (final_own v e)),
      )

  pub final_light : (v : ℕ) → is_variable (kind fin v) ≡ false → is_element (kind fin v) ≡ false → weight fin v ≡ 0
  final_light v a b = told.inv.graph.light v a b
