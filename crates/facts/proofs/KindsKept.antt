-- Kinds through a run: the rows that are dense at the end are those of the start; and in the lists that are read, a row has a weight exactly where it is a
-- variable.
-- Assumes nothing.
use Prim.Native.Nat.{ℕ, zero, suc}
use mathlib.Core.Path.{◌≡◌, refl, sym, ap, ◌∙◌}
use mathlib.Core.Bool.{Bool, true, false}
use mathlib.Core.List.{List}
use lib.Dec.{ltb}
use lib.ListN.{length}
use Rattle.plain.proofs.Logic.{bool_ext}
use Rattle.plain.proofs.Members.{up_to_below}
use Rattle.plain.proofs.Folds.{keep_same, all_of, all_in}
use Rattle.plain.specs.Lists.{member, keep, up_to}
use Rattle.definition.specs.State.{Graph, State, kind, row_count, variables_of, has_weight, is_variable, is_element, is_dense, start_kind, started, dense_rows}
use Rattle.definition.specs.Threshold.{Rule}
use Rattle.definition.specs.Answers.{Problem}
use Rattle.definition.specs.Pivot.{Found, nobody, found, pivot}
use Rattle.definition.specs.Elimination.{step, run, final_state}
use Rattle.definition.specs.Ordering.{graph_of, limit_of, key_for, final_of}
use Rattle.facts.proofs.Invariant.{var_weighs, weighs_var}
use Rattle.facts.proofs.Cases.{dense_after}
use Rattle.facts.proofs.Step.{stepped}
use Rattle.facts.proofs.Pivots.{pivoted}
use Rattle.facts.proofs.Theorem.{inv_step, inv_run}
use Rattle.facts.proofs.Start.{Neighbourly, kind_in}
use Rattle.facts.proofs.Sizes.{sized_started}
use Rattle.facts.proofs.Enlisted.{inv_start}
use Rattle.facts.proofs.Accepted.{neighbourly_graph}
use Rattle.facts.specs.Invariant.{Var, Live, Quotient, Inv}
use Rattle.facts.specs.Accepted.{Accepted}

-- ---- weights tell the variables

module _ {n : ℕ} {g : Graph} (q : Quotient n g) where
  weighs : (v : ℕ) → is_element (kind g v) ≡ false → has_weight g v ≡ is_variable (kind g v)
  weighs v h = bool_ext (has_weight g v) (is_variable (kind g v)) (weighs_var q v h) (var_weighs q v)

  -- in a variable's list
  pub weighs_variable : (i j : ℕ) → Var g i → member j (variables_of g i) ≡ true → has_weight g j ≡ is_variable (kind g j)
  weighs_variable i j h m = weighs j (q.no_element i j h m)

  -- in the list of an element that is still there
  pub weighs_member : (e i : ℕ) → Live g e → member i (variables_of g e) ≡ true → has_weight g i ≡ is_variable (kind g i)
  weighs_member e i h m = weighs i (q.members_kind e i h m)

-- ---- dense rows stay, and no row becomes one

module _ {n : ℕ} (key_of : ℕ → ℕ) (aggressive : Bool) where
  dense_step : (s : State) → Inv n s → (v : ℕ) → is_dense (kind (step key_of n aggressive s (pivot s)).graph v) ≡ is_dense (kind s.graph v)
  unfolding step
  dense_step s i v = go (pivot s) refl
    where
      go : (f : Found) → pivot s ≡ f → is_dense (kind (step key_of n aggressive s f).graph v) ≡ is_dense (kind s.graph v)
      go nobody e = refl
      go (found p d) e =
          let pv = (pivoted s i p d e).is_var in
          dense_after i.graph pv (stepped key_of n aggressive s p d i.graph pv) v

  pub dense_run : (k : ℕ) (s : State) → Inv n s → (v : ℕ) → is_dense (kind (run key_of k n aggressive s).graph v) ≡ is_dense (kind s.graph v)
  unfolding run
  dense_run zero s i v = refl
  dense_run (suc k) s i v =
      go (ltb s.gone n) (dense_run k (step key_of n aggressive s (pivot s)) (inv_step key_of aggressive s i) v ∙ dense_step s i v)
    where
      go : (b : Bool) → is_dense (kind (run key_of k n aggressive (step key_of n aggressive s (pivot s))).graph v) ≡ is_dense (kind s.graph v)
          → is_dense (kind (elim b as (λ x. State) [ true ↦ run key_of k n aggressive (step key_of n aggressive s (pivot s)) | false ↦ s ]).graph v) ≡ is_dense (kind s.graph v)
      go true r = r
      go false r = refl

  pub dense_rows_run : (k : ℕ) (s : State) → Inv n s → dense_rows (run key_of k n aggressive s).graph ≡ dense_rows s.graph
  unfolding dense_rows
  dense_rows_run k s i =
      keep_same (λ v. is_dense (kind (run key_of k n aggressive s).graph v)) (λ v. is_dense (kind s.graph v)) (up_to (row_count (run key_of k n aggressive s).graph))
      (all_of _ (up_to (row_count (run key_of k n aggressive s).graph)) (dense_run k s i))
      ∙ ap (λ (r : ℕ). keep (λ v. is_dense (kind s.graph v)) (up_to r)) ((inv_run key_of aggressive k s i).graph.sized.weights ∙ sym i.graph.sized.weights)

-- ---- from the start to the end

-- the rows that leave unordered
pub dense_start : (limit : ℕ) (nbrs : List (List ℕ)) → dense_rows (started limit nbrs).graph ≡ keep (λ v. is_dense (start_kind limit nbrs v)) (up_to (length nbrs))
unfolding dense_rows
dense_start limit nbrs =
    ap (λ (r : ℕ). keep (λ v. is_dense (kind (started limit nbrs).graph v)) (up_to r)) (sized_started limit nbrs).graph.weights
    ∙ keep_same (λ v. is_dense (kind (started limit nbrs).graph v)) (λ v. is_dense (start_kind limit nbrs v)) (up_to (length nbrs))
    (all_in (λ v. is_dense (kind (started limit nbrs).graph v) ≡ is_dense (start_kind limit nbrs v)) (up_to (length nbrs))
    (λ v m. ap is_dense (kind_in limit nbrs v (up_to_below v (length nbrs) m))))

module _ (limit : ℕ) (nbrs : List (List ℕ)) (nb : Neighbourly nbrs) (key_of : ℕ → ℕ) (aggressive : Bool) where
  pub dense_final : dense_rows (final_state key_of aggressive limit nbrs).graph ≡ dense_rows (started limit nbrs).graph
  unfolding final_state
  dense_final = dense_rows_run key_of aggressive (length nbrs) (started limit nbrs) (inv_start limit nbrs nb)

-- of an accepted problem
pub dense_final_of : (p : Problem) → Accepted p → (rule : Rule) (aggressive : Bool)
    → dense_rows (final_of p.pattern rule aggressive).graph ≡ dense_rows (started (limit_of p.pattern rule) (graph_of p.pattern)).graph
unfolding final_of
dense_final_of p ok rule aggressive =
    dense_final (limit_of p.pattern rule) (graph_of p.pattern) (neighbourly_graph p ok) (key_for p.pattern) aggressive
