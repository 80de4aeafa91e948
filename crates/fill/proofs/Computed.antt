-- The hypotheses `Ended`, `Counted` and `Tidy`, computed at the end of small runs: a test of what Discharged proves of every run. No proof rests on it.
-- Assumes nothing.
use Prim.Native.Nat.{ℕ}
use mathlib.Core.Path.{◌≡◌, refl}
use mathlib.Core.Bool.{Bool, true, false, not, ◌&&◌, ◌||◌}
use mathlib.Core.List.{List, [], ◌∷◌}
use mathlib.Core.Option.{Option, none, some}
use lib.Dec.{eqb, ltb, leb}
use lib.ListN.{length, get_or}
use Rattle.plain.specs.Lists.{keep, every, member, up_to, is_empty}
use Rattle.definition.specs.State.{State, kind, weight, degree, parent, rep, row_count, is_element, is_variable, is_dense, dense_rows}
use Rattle.definition.specs.Merge.{plain_key}
use Rattle.definition.specs.Elimination.{final_state}
use Rattle.definition.specs.Ordering.{permutation_of}
use Rattle.definition.specs.Statistics.{six_of}
use Rattle.definition.specs.Cholesky.{fill}
use Rattle.facts.specs.History.{rows_of, history, front_of, born_of, born_at}
use Rattle.fill.specs.Opened.{opened}

abbrev distinct : List ℕ → Bool
distinct xs = every (λ x. eqb (length (keep (eqb x) xs)) 1) xs

abbrev upwards : State → List (List ℕ) → ℕ → Option ℕ → Bool
upwards s h e none = is_empty (front_of h e)
upwards s h e (some p) =
    member p (born_of s) && ltb (born_at s e) (born_at s p)
    && every (λ v. eqb (rep s.graph v) p || member v (front_of h p)) (front_of h e)

abbrev of_row : State → List (List ℕ) → List (List ℕ) → ℕ → Bool
of_row s h nbrs v =
    let g = s.graph in
    let r = rep g v in
    not (is_variable (kind g v)) && distinct (get_or nbrs v []) && every (λ w. ltb w (row_count g)) (get_or nbrs v [])
    && (is_dense (kind g v) || (is_element (kind g r) && (member r (born_of s) || is_empty (get_or nbrs v []))))
    && (not (is_dense (kind g v)) || eqb r v)
    && (not (is_element (kind g v)) || (eqb r v && eqb (weight g v) (length (rows_of g v)) && upwards s h v (parent g v)
    && eqb (length (front_of h v)) (degree g v) && distinct (front_of h v) && every (λ w. ltb w (row_count g) && not (is_dense (kind g w))) (front_of h v) && (member v (born_of s) || eqb (weight g v) 1)))
    && (is_dense (kind g v) || every (λ w. is_dense (kind g w) || eqb r (rep g w) || member w (front_of h r) || member v (front_of h (rep g w))) (get_or nbrs v []))

abbrev of_end : State → List (List ℕ) → List (List ℕ) → Bool
of_end s h nbrs =
    eqb (length s.graph.kinds) (row_count s.graph) && distinct (born_of s)
    && every (λ e. ltb e (row_count s.graph) && is_element (kind s.graph e)) (born_of s)
    && every (λ f. eqb f.pivots (weight s.graph f.row) && eqb f.rest (degree s.graph f.row)) s.fronts
    && every (of_row s h nbrs) (up_to (length nbrs))
    && leb (fill (permutation_of s.graph) nbrs) (six_of (length (dense_rows s.graph)) s.fronts).lnz

abbrev case : ℕ → Bool → List (List ℕ) → Bool
case limit aggressive nbrs = of_end (final_state (plain_key (length nbrs)) aggressive limit nbrs) (history (plain_key (length nbrs)) aggressive limit nbrs) nbrs

abbrev cases : List Bool
cases =
    case 5 true ([])
    ∷ case 5 false (([]) ∷ [])
    ∷ case 5 true ((1 ∷ []) ∷ (0 ∷ []) ∷ [])
    ∷ case 9 true ((3 ∷ 1 ∷ []) ∷ (0 ∷ 2 ∷ 3 ∷ []) ∷ (3 ∷ 4 ∷ 1 ∷ []) ∷ (4 ∷ 0 ∷ 2 ∷ 1 ∷ []) ∷ (2 ∷ 3 ∷ []) ∷ [])
    ∷ case 9 true ((2 ∷ 1 ∷ 4 ∷ []) ∷ (0 ∷ []) ∷ (0 ∷ 5 ∷ 3 ∷ []) ∷ (2 ∷ 4 ∷ []) ∷ (0 ∷ 3 ∷ []) ∷ (2 ∷ []) ∷ [])
    ∷ case 3 false ((3 ∷ 2 ∷ []) ∷ (2 ∷ []) ∷ (0 ∷ 4 ∷ 1 ∷ []) ∷ (4 ∷ 5 ∷ 0 ∷ []) ∷ (2 ∷ 3 ∷ []) ∷ (3 ∷ []) ∷ [])
    ∷ case 3 true ((5 ∷ 1 ∷ 6 ∷ 2 ∷ []) ∷ (0 ∷ 4 ∷ 6 ∷ 2 ∷ []) ∷ (0 ∷ 1 ∷ []) ∷ (5 ∷ []) ∷ (5 ∷ 1 ∷ []) ∷ (4 ∷ 3 ∷ 0 ∷ []) ∷ (0 ∷ 1 ∷ []) ∷ [])
    ∷ case 9 false ((5 ∷ []) ∷ (4 ∷ 6 ∷ 5 ∷ 7 ∷ []) ∷ (5 ∷ 6 ∷ []) ∷ ([]) ∷ (1 ∷ []) ∷ (6 ∷ 2 ∷ 1 ∷ 0 ∷ []) ∷ (2 ∷ 5 ∷ 1 ∷ []) ∷ (1 ∷ []) ∷ [])
    ∷ case 4 true ((4 ∷ 7 ∷ 6 ∷ 1 ∷ 2 ∷ 3 ∷ 5 ∷ []) ∷ (7 ∷ 2 ∷ 4 ∷ 0 ∷ []) ∷ (4 ∷ 1 ∷ 0 ∷ 3 ∷ 6 ∷ []) ∷ (7 ∷ 2 ∷ 0 ∷ []) ∷ (2 ∷ 5 ∷ 0 ∷ 6 ∷ 1 ∷ 7 ∷ []) ∷ (4 ∷ 0 ∷ 7 ∷ []) ∷ (0 ∷ 7 ∷ 4 ∷ 2 ∷ []) ∷ (4 ∷ 6 ∷ 1 ∷ 5 ∷ 0 ∷ 3 ∷ []) ∷ [])
    ∷ case 9 true ((1 ∷ []) ∷ (0 ∷ 5 ∷ 3 ∷ 2 ∷ 4 ∷ []) ∷ (1 ∷ 6 ∷ []) ∷ (7 ∷ 1 ∷ []) ∷ (1 ∷ []) ∷ (1 ∷ []) ∷ (7 ∷ 2 ∷ 8 ∷ []) ∷ (6 ∷ 8 ∷ 3 ∷ []) ∷ (7 ∷ 6 ∷ []) ∷ [])
    ∷ case 3 false ((6 ∷ []) ∷ (6 ∷ 2 ∷ []) ∷ (1 ∷ []) ∷ (8 ∷ 6 ∷ []) ∷ (7 ∷ 5 ∷ []) ∷ (4 ∷ []) ∷ (3 ∷ 1 ∷ 0 ∷ []) ∷ (4 ∷ []) ∷ (3 ∷ []) ∷ [])
    ∷ case 5 true ((1 ∷ 4 ∷ 2 ∷ 6 ∷ []) ∷ (0 ∷ 3 ∷ 7 ∷ 2 ∷ []) ∷ (6 ∷ 1 ∷ 0 ∷ []) ∷ (9 ∷ 7 ∷ 1 ∷ []) ∷ (0 ∷ 9 ∷ []) ∷ (6 ∷ 9 ∷ []) ∷ (8 ∷ 5 ∷ 2 ∷ 0 ∷ []) ∷ (1 ∷ 3 ∷ 8 ∷ []) ∷ (7 ∷ 6 ∷ []) ∷ (4 ∷ 5 ∷ 3 ∷ []) ∷ [])
    ∷ []

pub computed : every (λ b. b) cases ≡ true
unfolding opened
computed = refl
