-- The invariant of every run over columns that rise and stay in range, and so of every run over an accepted problem: from the start to the end, where
-- all rows are gone.
-- Assumes nothing.
use Prim.Native.Nat.{ℕ, ◌<◌}
use mathlib.Core.Path.{◌≡◌, ap, ◌∙◌}
use mathlib.Core.Bool.{Bool, true}
use mathlib.Core.List.{List, []}
use lib.ListN.{length, get_or}
use Rattle.plain.specs.Lists.{member, rises}
use Rattle.definition.specs.State.{started}
use Rattle.definition.specs.Threshold.{Rule}
use Rattle.definition.specs.Pattern.{column_count}
use Rattle.definition.specs.Answers.{Problem}
use Rattle.definition.specs.Neighbours.{neighbours}
use Rattle.definition.specs.Elimination.{run, final_state}
use Rattle.definition.specs.Ordering.{graph_of, limit_of, key_for, final_of}
use Rattle.facts.proofs.Theorem.{inv_run}
use Rattle.facts.proofs.Enlisted.{inv_start, inv_final, final_gone}
use Rattle.facts.proofs.Scanned.{neighbourly, length_neighbours}
use Rattle.facts.proofs.Accepted.{neighbourly_graph, length_graph}
use Rattle.facts.specs.Invariant.{Inv}
use Rattle.facts.specs.Accepted.{Accepted}

module _ (cols : List (List ℕ)) (r : (k : ℕ) → rises (get_or cols k []) ≡ true) (within : (k i : ℕ) → member i (get_or cols k []) ≡ true → i < length cols)
    (key_of : ℕ → ℕ) (aggressive : Bool) (limit : ℕ) where
  -- after any number of steps
  pub always : (k : ℕ) → Inv (length (neighbours cols)) (run key_of k (length (neighbours cols)) aggressive (started limit (neighbours cols)))
  always k = inv_run key_of aggressive k (started limit (neighbours cols)) (inv_start limit (neighbours cols) (neighbourly cols r within))

  pub all_gone : (final_state key_of aggressive limit (neighbours cols)).gone ≡ length cols
  all_gone = final_gone limit (neighbours cols) (neighbourly cols r within) key_of aggressive ∙ length_neighbours cols r within

-- ---- of an accepted problem, whatever the threshold and the key

module _ (p : Problem) (ok : Accepted p) where
  abbrev n : ℕ
  n = column_count p.pattern

  abbrev graph : List (List ℕ)
  graph = graph_of p.pattern

  pub accepted_start : (limit : ℕ) → Inv (column_count p.pattern) (started limit (graph_of p.pattern))
  accepted_start limit = rw (length_graph p ok) at (inv_start limit graph (neighbourly_graph p ok))

  -- after any number of steps
  pub accepted_always : (key_of : ℕ → ℕ) (aggressive : Bool) (limit k : ℕ)
      → Inv (column_count p.pattern) (run key_of k (column_count p.pattern) aggressive (started limit (graph_of p.pattern)))
  accepted_always key_of aggressive limit k = inv_run key_of aggressive k (started limit graph) (accepted_start limit)

  module _ (key_of : ℕ → ℕ) (aggressive : Bool) (limit : ℕ) where
    -- n steps are the run
    pub accepted_run : final_state key_of aggressive limit (graph_of p.pattern)
        ≡ run key_of (column_count p.pattern) (column_count p.pattern) aggressive (started limit (graph_of p.pattern))
    unfolding final_state
    accepted_run = ap (λ (k : ℕ). run key_of k k aggressive (started limit graph)) (length_graph p ok)

    pub accepted_final : Inv (column_count p.pattern) (final_state key_of aggressive limit (graph_of p.pattern))
    accepted_final = rw (length_graph p ok) at (inv_final limit graph (neighbourly_graph p ok) key_of aggressive)

    pub accepted_gone : (final_state key_of aggressive limit (graph_of p.pattern)).gone ≡ column_count p.pattern
    accepted_gone = final_gone limit graph (neighbourly_graph p ok) key_of aggressive ∙ length_graph p ok

  module _ (rule : Rule) (aggressive : Bool) where
    pub final_of_inv : Inv (column_count p.pattern) (final_of p.pattern rule aggressive)
    unfolding final_of
    final_of_inv = accepted_final (key_for p.pattern) aggressive (limit_of p.pattern rule)

    pub final_of_gone : (final_of p.pattern rule aggressive).gone ≡ column_count p.pattern
    unfolding final_of
    final_of_gone = accepted_gone (key_for p.pattern) aggressive (limit_of p.pattern rule)
