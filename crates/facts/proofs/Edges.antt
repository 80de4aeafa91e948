-- E2: where the columns rise and stay in range, the neighbours of a row are those with which an entry of the columns joins it, either way round, and not
-- the row itself. E3: so there are at most two for each entry. E1, for the counts: each pair is written twice, once at each end.
-- Assumes nothing.
use Prim.Native.Nat.{ℕ, ◌+◌, ◌*◌, ◌≤◌, ◌<◌}
use native.Mathlib.Omega.{arith}
use mathlib.Core.Path.{◌≡◌, refl, sym, ap, ◌∙◌}
use mathlib.Core.Bool.{Bool, true, false, cond, not, ◌&&◌, ◌||◌}
use mathlib.Core.List.{List, [], ◌∷◌}
use lib.Dec.{eqb}
use lib.ListN.{length, get_or}
use borrow.Author.Tests.{eqb-true, eqb-false}
use Rattle.plain.proofs.Logic.{either, bool_ext}
use Rattle.plain.proofs.Members.{up_to_below}
use Rattle.plain.proofs.Folds.{all_imply, all_of}
use Rattle.plain.proofs.Sums.{total_below, total_add, total_swap, total_same, total_ones, total_map}
use Rattle.plain.proofs.Counting.{total_places, members_below, members_all, same_comm, pick}
use Rattle.plain.specs.Lists.{member, up_to, rises, total, cons_if}
use Rattle.plain.specs.Members.{All, same}
use Rattle.definition.specs.Neighbours.{Pair, all_pairs, written, neighbours}
use Rattle.facts.proofs.Pairs.{touch, touch_straight, touch_there, touch_back}
use Rattle.facts.proofs.Scanned.{all_low, row_touch, touch_row, neighbourly, length_neighbours}
use Rattle.facts.proofs.Meeting.{joins, met_joins, joins_met}

-- ---- E1: how much the pairs write

-- a list has an entry for each end of a pair that is its row
pub length_written : (v : ℕ) (ps : List Pair) → length (written v ps) ≡ total (λ p. same v p.one + same v p.other) ps
unfolding written total
length_written v [] = refl
length_written v (p ∷ ps) = go (eqb v p.one) (eqb v p.other) (length_written v ps)
  where
    go : (a b : Bool) → length (written v ps) ≡ total (λ q. same v q.one + same v q.other) ps
        → length (cons_if a p.other (cons_if b p.one (written v ps))) ≡ cond a 1 0 + cond b 1 0 + total (λ q. same v q.one + same v q.other) ps
    go true true ih = omega arith
    go true false ih = omega arith
    go false true ih = omega arith
    go false false ih = omega arith

-- every row has its ends: two for each pair
pub total_written : (n : ℕ) (ps : List Pair) → All (λ p. (p.one < n) × (p.other < n)) ps → total (λ v. length (written v ps)) (up_to n) ≡ 2 * length ps
total_written n ps a =
    total_same (λ v. length (written v ps)) (λ v. total (λ p. same v p.one + same v p.other) ps) (up_to n) (all_of _ (up_to n) (λ v. length_written v ps))
    ∙ total_swap (λ v p. same v p.one + same v p.other) (up_to n) ps
    ∙ total_same (λ p. total (λ v. same v p.one + same v p.other) (up_to n)) (λ p. 1 + 1) ps
    (all_imply (λ p. (p.one < n) × (p.other < n)) (λ p. total (λ v. same v p.one + same v p.other) (up_to n) ≡ 1 + 1) ps two a)
    ∙ total_add (λ p. 1) (λ p. 1) ps ∙ omega (arith, total_ones ps)
  where
    once : (x : ℕ) → x < n → total (λ v. same v x) (up_to n) ≡ 1
    once x q = total_same (λ v. same v x) (same x) (up_to n) (all_of _ (up_to n) (λ v. same_comm v x)) ∙ pick (λ v. 1) 0 n x (omega arith) (omega arith)

    two : (p : Pair) → (p.one < n) × (p.other < n) → total (λ v. same v p.one + same v p.other) (up_to n) ≡ 1 + 1
    two p q = total_add (λ v. same v p.one) (λ v. same v p.other) (up_to n) ∙ omega (arith, once p.one q.0, once p.other q.1)

module _ (cols : List (List ℕ)) (r : (k : ℕ) → rises (get_or cols k []) ≡ true) (within : (k i : ℕ) → member i (get_or cols k []) ≡ true → i < length cols) where
  abbrev n : ℕ
  n = length cols

  abbrev col : ℕ → List ℕ
  col j = get_or cols j []

  abbrev rows : ℕ → List ℕ
  rows v = get_or (neighbours cols) v []

  -- E2
  pub edges : (v w : ℕ) → v < length cols → w < length cols
      → member w (get_or (neighbours cols) v []) ≡ not (eqb v w) && (member w (get_or cols v []) || member v (get_or cols w []))
  edges v w lv lw =
      either (member w (rows v) ≡ not (eqb v w) && joins cols v w) (eqb v w)
      (λ e. let q : v ≡ w = eqb-true v w e in rw e (ap (λ (z : ℕ). member z (rows v)) (sym q) ∙ (neighbourly cols r within).own v))
      (λ e. rw e (bool_ext (member w (rows v)) (joins cols v w)
      (λ h. met_joins cols v w (row_touch cols r within v w h))
      (λ h. touch_row cols r within v w (joins_met cols v w lv lw (eqb-false v w e) h))))

  -- ---- E3

  -- the neighbours of one row: the entries of its column, and those of its row
  degree_below : (v : ℕ) → v < n → length (rows v) ≤ length (col v) + total (λ w. cond (member v (col w)) 1 0) (up_to n)
  degree_below v lv =
      omega (
        arith,
        members_all n (rows v) ((neighbourly cols r within).distinct v) (λ x m. rw (← length_neighbours cols r within) ((neighbourly cols r within).inside v x m)),
        total_below (λ w. cond (member w (rows v)) 1 0) (λ w. cond (member w (col v)) 1 0 + cond (member v (col w)) 1 0) (up_to n) (λ w m. one w (up_to_below w n m)),
        total_add (λ w. cond (member w (col v)) 1 0) (λ w. cond (member v (col w)) 1 0) (up_to n),
        members_below n (col v),
      )
    where
      split : (a b c : Bool) → ◌≤◌ (cond (a && (b || c)) 1 0) (cond b 1 0 + cond c 1 0)
      split true true true = omega arith
      split true true false = omega arith
      split true false true = omega arith
      split true false false = omega arith
      split false b c = omega arith

      one : (w : ℕ) → w < n → cond (member w (rows v)) 1 0 ≤ cond (member w (col v)) 1 0 + cond (member v (col w)) 1 0
      one w lw = rw (edges v w lv lw) (split (not (eqb v w)) (member w (col v)) (member v (col w)))

  pub neighbours_below : total length (neighbours cols) ≤ 2 * total length cols
  neighbours_below =
      let e : total length (neighbours cols) ≡ total (λ v. length (rows v)) (up_to n) =
      total_places length [] (neighbours cols) ∙ ap (λ (k : ℕ). total (λ v. length (rows v)) (up_to k)) (length_neighbours cols r within) in
      omega (
        arith,
        total_below (λ v. length (rows v)) (λ v. length (col v) + total (λ w. cond (member v (col w)) 1 0) (up_to n)) (up_to n) (λ v m. degree_below v (up_to_below v n m)),
        total_add (λ v. length (col v)) (λ v. total (λ w. cond (member v (col w)) 1 0) (up_to n)) (up_to n),
        total_swap (λ v w. cond (member v (col w)) 1 0) (up_to n) (up_to n),
        total_below (λ w. total (λ v. cond (member v (col w)) 1 0) (up_to n)) (λ w. length (col w)) (up_to n) (λ w m. members_below n (col w)),
        total_places length [] cols,
      )

  -- E1, E3: the neighbours are twice the pairs
  ends_in : (ps : List Pair) → ((v w : ℕ) → touch v w ps ≡ true → v < n) → All (λ p. (p.one < n) × (p.other < n)) ps
  ends_in [] h = tt
  ends_in (p ∷ ps) h =
      let t = touch_straight p.one p.other p ps refl refl in
      ((h p.one p.other t, h p.other p.one (touch_back p.one p.other (p ∷ ps) t)), ends_in ps (λ v w k. h v w (touch_there v w p ps k)))

  pub neighbours_pairs : total length (neighbours cols) ≡ 2 * length (all_pairs cols)
  unfolding neighbours
  neighbours_pairs =
      total_map length (λ v. written v (all_pairs cols)) (up_to n) ∙ total_written n (all_pairs cols) (ends_in (all_pairs cols) (all_low cols r within))
