-- All that is told of a run, together, of its state and of the fronts told beside it: H0 to H5, what the statistics were told, and that a row of degree 0 stays alone.
-- A step keeps it.
-- Assumes nothing.
use Prim.Native.Nat.{ℕ, ◌<◌}
use mathlib.Core.Path.{◌≡◌, refl, sym, ap, ◌∙◌}
use mathlib.Core.Bool.{Bool, true, false}
use mathlib.Core.List.{List, [], ◌∷◌, ◌++◌, map}
use lib.ListN.{get_or, set}
use Rattle.plain.proofs.Folds.{all_append}
use Rattle.plain.proofs.Logic.{clash}
use Rattle.plain.proofs.Members.{member_here, member_there}
use Rattle.plain.specs.Lists.{member}
use Rattle.plain.specs.Members.{In, All}
use Rattle.definition.specs.State.{Graph, State, Front, kind, weight, degree, rep, is_element, is_dense}
use Rattle.definition.specs.Pivot.{Found, nobody, found, pivot}
use Rattle.definition.specs.Elimination.{eliminate, step}
use Rattle.facts.proofs.Belonging.{Belonging, row_cases, belonging_after}
use Rattle.facts.proofs.Cases.{element_apart, element_outside, dense_after}
use Rattle.facts.proofs.Followed.{Followed, followed}
use Rattle.facts.proofs.Fronted.{Fronted, fronted_after}
use Rattle.facts.proofs.Invariant.{var_not_element}
use Rattle.facts.proofs.Linked.{Linked, linked_after}
use Rattle.facts.proofs.Pivots.{Pivoted, pivoted}
use Rattle.facts.proofs.Raised.{Raised, raised_after, born_before, pivot_born}
use Rattle.facts.proofs.Step.{stepped, fronts_after}
use Rattle.facts.proofs.Stepped.{Stepped}
use Rattle.facts.proofs.Theorem.{inv_eliminate}
use Rattle.facts.proofs.Weighing.{weighing_after}
use Rattle.facts.specs.History.{front_at, history_step, born_of}
use Rattle.facts.specs.Invariant.{Var, Inv, Quotient}

-- what an element told the statistics at its birth is still so
abbrev pub Honest : Graph → Front → Type 0
Honest g f = (f.pivots ≡ weight g f.row) × (f.rest ≡ degree g f.row)

pub record Recorded (n : ℕ) (nbrs : List (List ℕ)) (s : State) (fs : List (List ℕ)) : Type 0 where
  pub inv : Inv n s
  pub belonging : Belonging n s.graph
  pub fronted : Fronted n s.graph fs
  pub raised : Raised s.graph fs (born_of s)
  pub told : All (Honest s.graph) s.fronts
  pub linked : (u v : ℕ) → u < n → v < n → member v (get_or nbrs u []) ≡ true → is_dense (kind s.graph u) ≡ false → is_dense (kind s.graph v) ≡ false
      → Linked s.graph fs u v (rep s.graph u) (rep s.graph v)
  -- what belongs to an element that was never born is a row of degree 0
  pub lone : (v : ℕ) → v < n → is_element (kind s.graph (rep s.graph v)) ≡ true → member (rep s.graph v) (born_of s) ≡ false → get_or nbrs v [] ≡ []

born_snoc : (fs : List Front) (x : Front) → map (λ (f : Front). f.row) (fs ++ (x ∷ [])) ≡ map (λ (f : Front). f.row) fs ++ (x.row ∷ [])
born_snoc [] x = refl
born_snoc (f ∷ fs) x = ap (λ (l : List ℕ). f.row ∷ l) (born_snoc fs x)

module _ {n : ℕ} {aggressive : Bool} {g t : Graph} {p : ℕ} (q : Quotient n g) (pv : Var g p) (st : Stepped n aggressive g t p) where
  still_honest : (fs : List Front) → ((e : ℕ) → In e (map (λ (f : Front). f.row) fs) → is_element (kind g e) ≡ true) → All (Honest g) fs → All (Honest t) fs
  still_honest [] h a = tt
  still_honest (x ∷ xs) h a =
      let k = h x.row (member_here x.row (map (λ (f : Front). f.row) xs)) in
      let ne = element_apart q pv st x.row k in
      let m = element_outside q pv st x.row k in (
        (a.0.0 ∙ sym (st.still_weight x.row ne m), a.0.1 ∙ sym (st.still_degree x.row ne m)),
        still_honest xs (λ e i. h e (member_there e x.row (map (λ (f : Front). f.row) xs) i)) a.1,
      )

module _ {n : ℕ} (key_of : ℕ → ℕ) (aggressive : Bool) (nbrs : List (List ℕ)) where
  module _ (s : State) (fs : List (List ℕ)) (r : Recorded n nbrs s fs) (p d : ℕ) (pd : Pivoted s p d) where
    abbrev g : Graph
    g = s.graph

    abbrev u : State
    u = eliminate key_of n aggressive s p d

    abbrev t : Graph
    t = u.graph

    q : Quotient n g
    q = r.inv.graph

    st : Stepped n aggressive g t p
    st = stepped key_of n aggressive s p d q pd.is_var

    f : Followed n aggressive g t p
    f = followed key_of n aggressive s p d q pd.is_var

    born_after : born_of u ≡ born_of s ++ (p ∷ [])
    unfolding born_of
    born_after = ap (map (λ (f : Front). f.row)) (fronts_after key_of n aggressive s p d q pd.is_var) ∙ born_snoc s.fronts (record { row = p; pivots = weight t p; rest = degree t p })

    made_before : (e : ℕ) → In e (map (λ (f : Front). f.row) s.fronts) → is_element (kind g e) ≡ true
    unfolding born_of
    made_before e m = r.raised.made e m

    told_after : All (Honest t) u.fronts
    told_after = rw (fronts_after key_of n aggressive s p d q pd.is_var)
        (all_append (Honest t) s.fronts (record { row = p; pivots = weight t p; rest = degree t p } ∷ []) (still_honest q pd.is_var st s.fronts made_before r.told) ((refl, refl), tt))

    belonging' : Belonging n t
    belonging' = belonging_after q pd.is_var st f (weighing_after key_of n aggressive s p d q pd.is_var r.belonging.weighs) r.belonging

    lone_after : (v : ℕ) → v < n → is_element (kind t (rep t v)) ≡ true → member (rep t v) (born_of s ++ (p ∷ [])) ≡ false → get_or nbrs v [] ≡ []
    lone_after v l h m =
        let w = f.follows v l in
        let b = pivot_born q pd.is_var st f fs r.fronted (born_of s) r.raised in
        row_cases q pd.is_var st f (get_or nbrs v [] ≡ []) (rep g v)
        (λ x. at_pivot_lem b (w ∙ ap f.goes x ∙ f.of_pivot))
        (λ c k. at_pivot_lem b (w ∙ f.of_mass (rep g v) c k))
        (λ c k. clash (is_element (kind t (rep t v))) h (ap (λ (z : ℕ). is_element (kind t z)) w ∙ var_not_element (kind t (f.goes (rep g v))) (f.of_kept (rep g v) c k).remains))
        (λ ne c. let z : rep t v ≡ rep g v = w ∙ f.of_other (rep g v) ne c in
        r.lone v l (ap is_element (sym (st.still_kind (rep g v) ne c)) ∙ ap (λ (y : ℕ). is_element (kind t y)) (sym z) ∙ h)
        (born_before q pd.is_var st f fs r.fronted (born_of s) r.raised (rep g v) (ap (λ (y : ℕ). member y (born_of s ++ (p ∷ []))) (sym z) ∙ m)))
      where
        at_pivot_lem : In p (born_of s ++ (p ∷ [])) → rep t v ≡ p → get_or nbrs v [] ≡ []
        at_pivot_lem b x = clash (member (rep t v) (born_of s ++ (p ∷ []))) (ap (λ (y : ℕ). member y (born_of s ++ (p ∷ []))) x ∙ b) m

    recorded_eliminate : Recorded n nbrs u (set fs p (front_at t p))
    recorded_eliminate = record {
      inv = inv_eliminate key_of aggressive s r.inv p d pd;
      belonging = belonging';
      fronted = fronted_after q pd.is_var st f fs r.fronted belonging';
      raised = rw born_after (raised_after q pd.is_var st f fs r.fronted (born_of s) r.raised);
      told = told_after;
      linked = λ x y lx ly m dx dy.
          linked_after q pd.is_var st f fs r.fronted x y lx ly
          (r.linked x y lx ly m (sym (dense_after q pd.is_var st x) ∙ dx) (sym (dense_after q pd.is_var st y) ∙ dy));
      lone = λ v l h m. lone_after v l h (ap (member (rep t v)) (sym born_after) ∙ m);
    }

  pub recorded_step : (s : State) (fs : List (List ℕ)) → Recorded n nbrs s fs
      → Recorded n nbrs (step key_of n aggressive s (pivot s)) (history_step s (pivot s) (step key_of n aggressive s (pivot s)) fs)
  unfolding step history_step
  recorded_step s fs r = go (pivot s) refl
    where
      go : (x : Found) → pivot s ≡ x → Recorded n nbrs (step key_of n aggressive s x) (history_step s x (step key_of n aggressive s x) fs)
      go nobody e = r
      go (found p d) e = recorded_eliminate s fs r p d (pivoted s r.inv p d e)
