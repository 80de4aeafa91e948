-- Q: what the statistics come to is no more than that of a full matrix, at the end and at every time before.
-- Assumes nothing.
use Prim.Native.Nat.{ℕ, ◌+◌, ◌-◌, ◌*◌, ◌/◌, ◌≤◌, max}
use native.Mathlib.Omega.{arith}
use mathlib.Core.Path.{◌≡◌, refl, sym, ap, ◌∙◌}
use mathlib.Core.Bool.{Bool, true, ◌||◌}
use mathlib.Core.List.{List, [], ◌∷◌, ◌++◌, map, foldl}
use lib.Dec.{eqb}
use lib.ListN.{length}
use borrow.Author.Tests.{eqb-false}
use Rattle.plain.proofs.Falling.{square, triangle, square_mono, triangle_mono, fall_all, fall_under, up_to_mono, sum_below, triangles_below}
use Rattle.plain.proofs.Folds.{all_append, all_of, all_imply}
use Rattle.plain.proofs.Logic.{cond_has, or_right}
use Rattle.plain.proofs.Members.{not_kept, member_kept, kept_passes, kept_was}
use Rattle.plain.proofs.Repeats.{distinct_keep, distinct_count_up, length_within}
use Rattle.plain.proofs.Sums.{total_append, total_one, total_map, total_same}
use Rattle.plain.specs.Lists.{keep, total, itself, up_to, fall_to}
use Rattle.plain.specs.Members.{All}
use Rattle.definition.specs.State.{State, Front, weight, degree, has_weight, row_count, is_element, is_dense, start_kind, at_once, started, dense_rows}
use Rattle.definition.specs.Pivot.{collected, delisted}
use Rattle.definition.specs.Elimination.{eliminate, finish, run, final_state}
use Rattle.definition.specs.Ordering.{plain_from}
use Rattle.definition.specs.Statistics.{no_six, gain_q, gain_s, gain_ldl, Block, Six, blocks_of, sum_of, largest, six_of}
use Rattle.facts.proofs.Bounds.{element_left}
use Rattle.facts.proofs.Cases.{pivot_live}
use Rattle.facts.proofs.Collected.{pivot_outside}
use Rattle.facts.proofs.KindsKept.{dense_start, dense_final}
use Rattle.facts.proofs.Enlisted.{inv_start, final_gone}
use Rattle.facts.proofs.Gains.{fall_q, fall_s, fall_ldl}
use Rattle.facts.proofs.Invariant.{var_inside}
use Rattle.facts.proofs.Pivots.{Pivoted}
use Rattle.facts.proofs.Placing.{placed_other, element_degree}
use Rattle.facts.proofs.Sizes.{sized_final}
use Rattle.facts.proofs.Start.{Neighbourly}
use Rattle.facts.proofs.Step.{stepped, gone_after, survivors_of, rest_of, start_of, weight_t}
use Rattle.facts.proofs.Stepped.{after_merge, joined2}
use Rattle.facts.proofs.Theorem.{inv_eliminate, gone_most}
use Rattle.facts.proofs.Weighed.{weighed_start, run_keeps}
use Rattle.facts.specs.Invariant.{Inv}

-- ---- the front that a step adds

module _ {n : ℕ} (key_of : ℕ → ℕ) (aggressive : Bool) (s : State) (v : Inv n s) (p d : ℕ) (pd : Pivoted s p d) where
  rest_is : degree (eliminate key_of n aggressive s p d).graph p ≡ rest_of key_of aggressive s.graph p
  unfolding eliminate finish survivors_of rest_of
  rest_is =
      placed_other (n - (s.gone + weight (after_merge key_of aggressive s.graph p) p)) _ p (survivors_of key_of aggressive s.graph p)
      (start_of key_of aggressive s.graph p (delisted s.graph s.queues (p ∷ collected s.graph p)) d)
      (not_kept p (has_weight (after_merge key_of aggressive s.graph p)) (collected s.graph p) (pivot_outside s.graph p))
      ∙ element_degree p _ _ (after_merge key_of aggressive s.graph p) (joined2 aggressive s.graph p v.graph pd.is_var key_of).sized (var_inside v.graph p pd.is_var)

  pivots_is : weight (eliminate key_of n aggressive s p d).graph p ≡ weight (after_merge key_of aggressive s.graph p) p
  unfolding eliminate finish survivors_of rest_of
  pivots_is =
      weight_t key_of aggressive s.graph p v.graph pd.is_var (n - (s.gone + weight (after_merge key_of aggressive s.graph p) p))
      (delisted s.graph s.queues (p ∷ collected s.graph p)) d p

  fronts_are : (eliminate key_of n aggressive s p d).fronts
      ≡ s.fronts ++ (record { row = p; pivots = weight (after_merge key_of aggressive s.graph p) p; rest = rest_of key_of aggressive s.graph p } ∷ [])
  unfolding eliminate finish survivors_of rest_of
  fronts_are = refl

  -- its pivots are the new element's weight, and its rest the element's degree
  pub fronts_after : (eliminate key_of n aggressive s p d).fronts
      ≡ s.fronts ++ (record { row = p; pivots = weight (eliminate key_of n aggressive s p d).graph p; rest = degree (eliminate key_of n aggressive s p d).graph p } ∷ [])
  fronts_after = fronts_are ∙ ap (λ (x : ℕ). s.fronts ++ (record { row = p; pivots = x; rest = rest_of key_of aggressive s.graph p } ∷ [])) (sym pivots_is)
      ∙ ap (λ (x : ℕ). s.fronts ++ (record { row = p; pivots = weight (eliminate key_of n aggressive s p d).graph p; rest = x } ∷ [])) (sym rest_is)

-- ---- what each front adds, and what all have added so far

-- of a function of the columns' counts
abbrev pub gain_of : (ℕ → ℕ) → ℕ → Front → ℕ
gain_of h nd e = total h (fall_to (e.rest + nd) e.pivots)

pub record Tallied (nd n : ℕ) (s : State) : Type 0 where
  pub dense : nd ≤ s.gone
  pub fits : All (λ e. e.pivots + e.rest + nd ≤ n) s.fronts
  pub sums : (h : ℕ → ℕ) → ((x y : ℕ) → x ≤ y → h x ≤ h y) → total (gain_of h nd) s.fronts + total h (up_to (n - s.gone + nd)) ≤ total h (up_to n)

-- ---- Q, step by step

pub tallied_eliminate : {n : ℕ} (key_of : ℕ → ℕ) (aggressive : Bool) (nd : ℕ) (s : State) (v : Inv n s) (p d : ℕ) (pd : Pivoted s p d) → Tallied nd n s
    → Tallied nd n (eliminate key_of n aggressive s p d)
tallied_eliminate {n} key_of aggressive nd s v p d pd q = record {
  dense = omega (arith, q.dense, up);
  fits = rw (fronts_after key_of aggressive s v p d pd) (all_append _ s.fronts (added ∷ []) q.fits (omega (arith, q.dense, up, left), tt));
  sums = λ h mono. rw (fronts_after key_of aggressive s v p d pd) (sum h mono);
}
  where
    t : State
    t = eliminate key_of n aggressive s p d

    added : Front
    added = record { row = p; pivots = weight t.graph p; rest = degree t.graph p }

    up : t.gone ≡ s.gone + weight t.graph p
    up = gone_after key_of n aggressive s p d v.graph pd.is_var

    -- what is left has room for the new element
    left : t.gone + degree t.graph p ≤ n
    left = element_left t (inv_eliminate key_of aggressive s v p d pd) p (pivot_live v.graph pd.is_var (stepped key_of n aggressive s p d v.graph pd.is_var))

    sum : (h : ℕ → ℕ) → ((x y : ℕ) → x ≤ y → h x ≤ h y) → total (gain_of h nd) (s.fronts ++ (added ∷ [])) + total h (up_to (n - t.gone + nd)) ≤ total h (up_to n)
    sum h mono =
        let e : n - s.gone + nd ≡ n - t.gone + nd + weight t.graph p = omega (arith, up, left) in
        omega (
          arith,
          total_append (gain_of h nd) s.fronts (added ∷ []),
          total_one (gain_of h nd) added,
          fall_under h mono (degree t.graph p + nd) (n - t.gone + nd) (weight t.graph p) (omega (arith, left)),
          ap (λ (x : ℕ). total h (up_to x)) e,
          q.sums h mono,
        )

-- the dense rows are gone at once
gone_is : (limit : ℕ) (nbrs : List (List ℕ)) → (started limit nbrs).gone ≡ length (at_once limit nbrs)
unfolding started
gone_is limit nbrs = refl

pub dense_gone : (limit : ℕ) (nbrs : List (List ℕ)) → length (dense_rows (started limit nbrs).graph) ≤ (started limit nbrs).gone
unfolding at_once
dense_gone limit nbrs =
    rw (dense_start limit nbrs, gone_is limit nbrs)
    (length_within (keep (λ v. is_dense (start_kind limit nbrs v)) (up_to (length nbrs))) (at_once limit nbrs)
    (distinct_keep (λ v. is_dense (start_kind limit nbrs v)) (up_to (length nbrs)) (distinct_count_up 0 (length nbrs)))
    (λ x m. member_kept x (λ v. is_element (start_kind limit nbrs v) || is_dense (start_kind limit nbrs v)) (up_to (length nbrs))
    (or_right (is_element (start_kind limit nbrs x)) (is_dense (start_kind limit nbrs x)) (kept_passes x (λ v. is_dense (start_kind limit nbrs v)) (up_to (length nbrs)) m))
    (kept_was x (λ v. is_dense (start_kind limit nbrs v)) (up_to (length nbrs)) m)))

-- the dense count, from the start on
abbrev pub dense_count : ℕ → List (List ℕ) → ℕ
dense_count limit nbrs = length (dense_rows (started limit nbrs).graph)

module _ (nbrs : List (List ℕ)) (nb : Neighbourly nbrs) (limit : ℕ) where
  no_fronts : (started limit nbrs).fronts ≡ []
  unfolding started
  no_fronts = refl

  tallied_start : Tallied (dense_count limit nbrs) (length nbrs) (started limit nbrs)
  unfolding total
  tallied_start = record {
    dense = dense_gone limit nbrs;
    fits = rw no_fronts tt;
    sums = λ h mono. rw no_fronts
        (omega (
          arith,
          up_to_mono h mono (length nbrs - (started limit nbrs).gone + dense_count limit nbrs) (length nbrs)
              (omega (arith, dense_gone limit nbrs, gone_most {n = length nbrs} (λ x. x) true (started limit nbrs) (inv_start limit nbrs nb))),
        ));
  }

  module _ (key_of : ℕ → ℕ) (aggressive : Bool) where
    -- Q, after any number of pivots
    pub tallied_run : (k : ℕ) → Tallied (dense_count limit nbrs) (length nbrs) (run key_of k (length nbrs) aggressive (started limit nbrs))
    tallied_run k =
        (run_keeps key_of aggressive (Tallied (dense_count limit nbrs) (length nbrs)) (λ s v w l p d pd q. tallied_eliminate key_of aggressive (dense_count limit nbrs) s v p d pd q)
        k (started limit nbrs) (inv_start limit nbrs nb) (weighed_start limit nbrs) tallied_start).2

-- ---- what the statistics sum up

gains_blocks : (h : ℕ → ℕ) (gain : ℕ → ℕ → ℕ) → ((r m : ℕ) → total h (fall_to r m) ≡ gain m r) → (nd : ℕ) (fronts : List Front)
    → sum_of gain (blocks_of nd fronts) ≡ total (gain_of h nd) fronts + total h (up_to nd)
unfolding sum_of blocks_of
gains_blocks h gain same nd fronts =
    total_append (λ b. gain b.f b.r) (map (λ e. record { f = e.pivots; r = e.rest + nd }) fronts) (record { f = nd; r = 0 } ∷ [])
    ∙ omega (
      arith,
      total_one {A = Block} (λ b. gain b.f b.r) (record { f = nd; r = 0 }),
      same 0 nd,
      fall_all h nd,
      total_map {B = Block} (λ b. gain b.f b.r) (λ (e : Front). record { f = e.pivots; r = e.rest + nd }) fronts,
      total_same (gain_of h nd) (λ e. gain e.pivots (e.rest + nd)) fronts (all_of _ fronts (λ e. same (e.rest + nd) e.pivots)),
    )

-- Q of the statistics at any time
pub gains_so_far : (h : ℕ → ℕ) (gain : ℕ → ℕ → ℕ) → ((x y : ℕ) → x ≤ y → h x ≤ h y) → ((r m : ℕ) → total h (fall_to r m) ≡ gain m r) → (nd n : ℕ) (s : State) → Tallied nd n s
    → total (λ e. gain e.pivots (e.rest + nd)) s.fronts + total h (up_to (n - s.gone + nd)) ≤ total h (up_to n)
gains_so_far h gain mono same nd n s q =
    omega (arith, q.sums h mono, total_same (gain_of h nd) (λ e. gain e.pivots (e.rest + nd)) s.fronts (all_of _ s.fronts (λ e. same (e.rest + nd) e.pivots)))

largest_below : (m b : ℕ) (bs : List Block) → b ≤ m → All (λ x. x.f + x.r ≤ m) bs → foldl (λ y x. max y (x.f + x.r)) b bs ≤ m
largest_below m b [] l a = l
largest_below m b (x ∷ xs) l a = largest_below m (max b (x.f + x.r)) xs (omega (arith, a.0)) a.1

all_blocks : (nd n : ℕ) (fronts : List Front) → All (λ e. e.pivots + e.rest + nd ≤ n) fronts → nd ≤ n → All (λ b. b.f + b.r ≤ n) (blocks_of nd fronts)
unfolding blocks_of
all_blocks nd n [] a l = (omega arith, tt)
all_blocks nd n (e ∷ es) a l = (omega (arith, a.0), all_blocks nd n es a.1 l)

-- ---- Q at the end

-- what the six are at most, of n columns
pub record Bounded (n : ℕ) (x : Six) : Type 0 where
  pub lnz : x.lnz ≤ (n - 1) * n / 2
  pub div : x.n_div ≤ (n - 1) * n / 2
  pub lu : x.n_mult_subs_lu ≤ total square (up_to n)
  -- half of the sum of the two
  pub ldl : 2 * x.n_mult_subs_ldl ≤ total square (up_to n) + total itself (up_to n)
  pub dense : x.n_dense ≤ n
  pub widest : x.d_max ≤ max 1 n

-- a state in which all are gone
module _ (nd n : ℕ) (s : State) (q : Tallied nd n s) (gone : s.gone ≡ n) where
  gains_end : (h : ℕ → ℕ) (gain : ℕ → ℕ → ℕ) → ((x y : ℕ) → x ≤ y → h x ≤ h y) → ((r m : ℕ) → total h (fall_to r m) ≡ gain m r) → sum_of gain (blocks_of nd s.fronts) ≤ total h (up_to n)
  gains_end h gain mono same =
      let e : n - s.gone + nd ≡ nd = omega arith in
      omega (arith, gains_blocks h gain same nd s.fronts, q.sums h mono, ap (λ (x : ℕ). total h (up_to x)) e)

  pub six_bounded : Bounded n (six_of nd s.fronts)
  unfolding six_of largest
  six_bounded =
      let few : nd ≤ n = omega (arith, q.dense) in
      record {
        lnz = omega (arith, gains_end itself gain_q (λ x y l. l) fall_q, sum_below n);
        div = omega (arith, gains_end itself gain_q (λ x y l. l) fall_q, sum_below n);
        lu = gains_end square gain_s square_mono fall_s;
        ldl = omega (arith, gains_end triangle gain_ldl triangle_mono fall_ldl, triangles_below n);
        dense = few;
        widest = largest_below (max 1 n) 1 (blocks_of nd s.fronts) (omega arith)
            (all_imply _ _ (blocks_of nd s.fronts) (λ b h. omega arith) (all_blocks nd n s.fronts q.fits few));
      }

module _ (nbrs : List (List ℕ)) (nb : Neighbourly nbrs) (limit : ℕ) (key_of : ℕ → ℕ) (aggressive : Bool) where
  abbrev s : State
  s = final_state key_of aggressive limit nbrs

  -- each front, with the dense rows, is at most n wide; and the sums
  pub tallied_end : Tallied (length (dense_rows s.graph)) (length nbrs) s
  unfolding final_state
  tallied_end = rw (dense_final limit nbrs nb key_of aggressive) (tallied_run nbrs nb limit key_of aggressive (length nbrs))

  pub six_most : Bounded (length nbrs) (six_of (length (dense_rows s.graph)) s.fronts)
  six_most = six_bounded (length (dense_rows s.graph)) (length nbrs) s tallied_end (final_gone limit nbrs nb key_of aggressive)

  -- and so of what is told of the final state; no block is wider than n, where there is a column at all
  pub told_most : Bounded (length nbrs) (plain_from s).six
  unfolding plain_from
  told_most = cond_has (Bounded (length nbrs)) (eqb (row_count s.graph) 0) (λ e. none) (λ e. six_most)
    where
      none : Bounded (length nbrs) no_six
      none = record { lnz = omega arith; div = omega arith; lu = omega arith; ldl = omega arith; dense = omega arith; widest = omega arith }

  pub told_widest : (plain_from s).six.d_max ≤ length nbrs
  unfolding plain_from
  told_widest =
      cond_has (λ (x : Six). x.d_max ≤ length nbrs) (eqb (row_count s.graph) 0) (λ e. omega arith)
      (λ e. one (length nbrs) (λ z. eqb-false (row_count s.graph) 0 e ((sized_final key_of aggressive limit nbrs).graph.weights ∙ z)) six_most.widest)
    where
      one : (n : ℕ) {x : ℕ} → (n ≡ 0 → ⊥) → x ≤ max 1 n → x ≤ n
      one n k l = omega arith
