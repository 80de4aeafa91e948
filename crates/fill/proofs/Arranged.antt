-- How the permutation of every run from neighbourly lists is arranged: an element's rows stand together, its own row last; a child's rows stand before its parent's;
-- dense rows stand last. The block facts of the plan's part 6, with no hypothesis but that on the lists.
-- Assumes nothing.
use Prim.Native.Nat.{ℕ, ◌<◌}
use mathlib.Core.Path.{◌≡◌, sym, subst}
use mathlib.Core.Logic.{◌≢◌}
use mathlib.Core.Bool.{Bool}
use mathlib.Core.List.{List}
use mathlib.Core.Option.{some}
use lib.ListN.{length}
use Rattle.plain.specs.Lists.{position}
use Rattle.definition.specs.State.{State, row_count, parent, rep}
use Rattle.definition.specs.Elimination.{final_state}
use Rattle.definition.specs.Ordering.{permutation_of}
use Rattle.facts.proofs.Outcome.{final_rows}
use Rattle.facts.proofs.Start.{Neighbourly}
use Rattle.facts.specs.History.{history}
use Rattle.fill.proofs.Contiguous.{contiguous, element_last, child_rows_first}
use Rattle.fill.proofs.Discharged.{ended}
use Rattle.fill.proofs.Standing.{Dense, Ordered, dense_last}

module _ (limit : ℕ) (nbrs : List (List ℕ)) (nb : Neighbourly nbrs) (key_of : ℕ → ℕ) (aggressive : Bool) where
  abbrev s : State
  s = final_state key_of aggressive limit nbrs

  abbrev fs : List (List ℕ)
  fs = history key_of aggressive limit nbrs

  -- where a row stands
  abbrev spot : ℕ → ℕ
  spot v = position v (permutation_of s.graph)

  row : (v : ℕ) → v < length nbrs → v < row_count s.graph
  row v l = subst (λ (m : ℕ). v < m) (sym (final_rows limit nbrs nb key_of aggressive)) l

  -- what stands between two rows of an element belongs to it
  pub final_together : (u v w : ℕ) → u < length nbrs → v < length nbrs → w < length nbrs → Ordered s u → Ordered s w → rep s.graph u ≡ rep s.graph w
      → spot u < spot v → spot v < spot w → Ordered s v × (rep s.graph v ≡ rep s.graph u)
  final_together u v w lu lv lw = contiguous s fs nbrs (ended limit nbrs nb key_of aggressive) u v w (row u lu) (row v lv) (row w lw)

  -- the element's own row stands behind those merged with it
  pub final_own_last : (v : ℕ) → v < length nbrs → Ordered s v → v ≢ rep s.graph v → spot v < spot (rep s.graph v)
  final_own_last v l = element_last s fs nbrs (ended limit nbrs nb key_of aggressive) v (row v l)

  pub final_child_rows : (u w p : ℕ) → u < length nbrs → w < length nbrs → Ordered s u → Ordered s w → parent s.graph (rep s.graph u) ≡ some p → rep s.graph w ≡ p
      → spot u < spot w
  final_child_rows u w p lu lw = child_rows_first s fs nbrs (ended limit nbrs nb key_of aggressive) u w p (row u lu) (row w lw)

  pub final_dense_last : (u w : ℕ) → u < length nbrs → Ordered s u → Dense s w → spot u < spot w
  final_dense_last u w l = dense_last s fs nbrs (ended limit nbrs nb key_of aggressive) u w (row u l)
