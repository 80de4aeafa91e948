-- Document 01, "Elimination rules": the six steps in order, "until all are eliminated".
-- Assumes nothing.
use Rattle.std.specs.Prelude.{ℕ, zero, suc, ◌+◌, ◌-◌, Bool, true, false, List, [], ◌∷◌, ◌++◌, ltb, length}
use Rattle.plain.specs.Lists.{keep, total}
use Rattle.definition.specs.State.{Graph, State, weight, has_weight, started}
use Rattle.definition.specs.Pivot.{Found, nobody, found, pivot, collected, passed, delisted}
use Rattle.definition.specs.Trim.{trimmed}
use Rattle.definition.specs.Merge.{merged_alike}
use Rattle.definition.specs.Place.{placed, as_element}

-- Step 6 for the pivot p, found at degree d, with the variables new: "With the weights as they stand after steps 4 and 5", in the graph g, in which p has
-- all of its pivots. The remembered least degree "becomes that of the list where the pivot was found".
unfoldable pub finish : ℕ → State → ℕ → ℕ → List ℕ → Graph → State
finish n s p d new g =
    let survivors = keep (has_weight g) new in
    let gone = s.gone + weight g p in
    let size = total (weight g) survivors in
    let q = placed (n - gone) size survivors
    (record { graph = as_element p survivors size g; queues = delisted s.graph s.queues (p ∷ new); least = d }) in
    record {
      graph = q.graph;
      queues = q.queues;
      least = q.least;
      gone = gone;
      fronts = s.fronts ++ (record { row = p; pivots = weight g p; rest = size } ∷ []);
    }

-- Steps 2 to 6 for the pivot p, found at degree d.
unfoldable pub eliminate : (ℕ → ℕ) → ℕ → Bool → State → ℕ → ℕ → State
eliminate key_of n aggressive s p d =
    let new = collected s.graph p in
    finish n s p d new (merged_alike key_of new (trimmed aggressive (passed s.graph p) p new))

-- step 1 found a pivot, or nobody is left
unfoldable pub step : (ℕ → ℕ) → ℕ → Bool → State → Found → State
step key_of n aggressive s nobody = s
step key_of n aggressive s (found p d) = eliminate key_of n aggressive s p d

-- at most k pivots
unfoldable pub run : (ℕ → ℕ) → ℕ → ℕ → Bool → State → State
run key_of zero n aggressive s = s
run key_of (suc k) n aggressive s =
    elim (ltb s.gone n) [ true ↦ run key_of k n aggressive (step key_of n aggressive s (pivot s)) | false ↦ s ]

-- each pivot eliminates one variable at least, so n pivots are enough
unfoldable pub final_state : (ℕ → ℕ) → Bool → ℕ → List (List ℕ) → State
final_state key_of aggressive limit nbrs = run key_of (length nbrs) (length nbrs) aggressive (started limit nbrs)

-- What is told of a run beside it: `tell` has the state before a step, the pivot, and the state after it. The run itself knows nothing of it.
unfoldable pub beside : {A : Type 0} → (State → Found → State → A → A) → (ℕ → ℕ) → ℕ → ℕ → Bool → State → A → A
beside tell key_of zero n aggressive s a = a
beside tell key_of (suc k) n aggressive s a =
    elim (ltb s.gone n) [
      | true ↦
          let t = step key_of n aggressive s (pivot s) in
          beside tell key_of k n aggressive t (tell s (pivot s) t a)
      | false ↦ a
    ]
