-- What is remembered of a run: no front has a row twice, and all are rows below n. Proved of every run.
-- Assumes nothing.
use Prim.Native.Nat.{ℕ, zero, suc, ◌<◌}
use native.Mathlib.Omega.{arith}
use mathlib.Core.Path.{◌≡◌}
use mathlib.Core.Bool.{Bool, true}
use mathlib.Core.List.{List, []}
use lib.Dec.{ltb}
use lib.ListN.{length, get_or, replicate}
use Rattle.plain.proofs.Members.{up_to_below, no_member, kept_both}
use Rattle.plain.proofs.Positions.{set_has}
use Rattle.plain.proofs.Repeats.{distinct_count_up, distinct_keep}
use Rattle.plain.specs.Lists.{up_to, member}
use Rattle.plain.specs.Members.{Distinct, In}
use Rattle.definition.specs.State.{Graph, State, row_count, rep, variables_of, started}
use Rattle.definition.specs.Pivot.{Found, nobody, found, pivot}
use Rattle.definition.specs.Elimination.{step, run}
use Rattle.facts.proofs.Sizes.{sized_run, sized_started}
use Rattle.facts.specs.History.{front_at, front_of, history_step, history_at, history}
use Rattle.facts.proofs.Beside.{beside_keeps}
use Rattle.facts.specs.Invariant.{SizedState}

-- a list without repeats of numbers below n
pub record RowList (n : ℕ) (xs : List ℕ) : Type 0 where
  pub once : Distinct xs
  pub inside : (v : ℕ) → In v xs → v < n

rows_none : (n : ℕ) → RowList n []
rows_none n = record { once = tt; inside = λ v h. no_member v h }

rows_front : (n : ℕ) (g : Graph) (e : ℕ) → row_count g ≡ n → RowList n (front_at g e)
unfolding front_at
rows_front n g e q = record {
  once = distinct_keep (λ v. member (rep g v) (variables_of g e)) (up_to (row_count g)) (distinct_count_up 0 (row_count g));
  inside = λ v h. omega (arith, up_to_below v (row_count g) (kept_both v (λ v. member (rep g v) (variables_of g e)) (up_to (row_count g)) h).1);
}

rows_start : (n k e : ℕ) → RowList n (get_or (replicate k []) e [])
rows_start n zero e = rows_none n
rows_start n (suc k) zero = rows_none n
rows_start n (suc k) (suc e) = rows_start n k e

one_step : {n : ℕ} (key_of : ℕ → ℕ) (m : ℕ) (aggressive : Bool) (s : State) → ltb s.gone m ≡ true → SizedState n s → SizedState n (step key_of m aggressive s (pivot s))
unfolding run
one_step key_of m aggressive s t z = rw (t, run) at (sized_run key_of 1 m aggressive s z)

abbrev Remembered : ℕ → State → List (List ℕ) → Type 0
Remembered n s h = SizedState n s × ((e : ℕ) → RowList n (get_or h e []))

told_step : (n : ℕ) (s t : State) (p : Found) (h : List (List ℕ)) → SizedState n t → ((e : ℕ) → RowList n (get_or h e [])) → (e : ℕ) → RowList n (get_or (history_step s p t h) e [])
unfolding history_step
told_step n s t nobody h z k e = k e
told_step n s t (found p d) h z k e = set_has (RowList n) h p (front_at t.graph p) e (k e) (λ q. rows_front n t.graph p z.graph.weights)

pub history_rows : (key_of : ℕ → ℕ) (aggressive : Bool) (limit : ℕ) (nbrs : List (List ℕ)) (e : ℕ) → RowList (length nbrs) (front_of (history key_of aggressive limit nbrs) e)
unfolding history history_at
history_rows key_of aggressive limit nbrs e =
    (beside_keeps (Remembered (length nbrs)) history_step key_of (length nbrs) aggressive
    (λ s h t k. let z = one_step key_of (length nbrs) aggressive s t k.0 in (z, told_step (length nbrs) s (step key_of (length nbrs) aggressive s (pivot s)) (pivot s) h z k.1))
    (length nbrs) (started limit nbrs) (replicate (length nbrs) []) (sized_started limit nbrs, rows_start (length nbrs) (length nbrs))).1 e
