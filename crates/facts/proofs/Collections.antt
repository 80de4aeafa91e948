-- The collections of a pivot's step in closed form, and R5: with room for A + A' and n entries more there is at most one, so in all no more than there are pivots.
-- Assumes nothing.
use Prim.Native.Nat.{ℕ, suc, ◌+◌, ◌-◌, ◌≤◌, ◌<◌}
use native.Mathlib.Omega.{arith}
use mathlib.Core.Path.{◌≡◌, refl, sym, ap, ◌∙◌}
use mathlib.Core.Bool.{Bool, true, false, cond, not}
use mathlib.Core.List.{List, [], ◌∷◌, foldl, append-nil}
use lib.Dec.{ltb}
use lib.ListN.{length, get_or, length-append}
use borrow.Author.Tests.{ltb-true, ltb-false}
use Rattle.plain.proofs.Logic.{either}
use Rattle.plain.proofs.Repeats.{length_missing, length_keep}
use Rattle.plain.specs.Lists.{member, keep, total, up_to, is_empty}
use Rattle.definition.specs.State.{Graph, State, elements_of, variables_of, has_weight, started}
use Rattle.definition.specs.Pivot.{Found, nobody, found, pivot, collected}
use Rattle.definition.specs.Elimination.{eliminate, finish, run, beside}
use Rattle.definition.specs.Room.{Room, Storing, places, all_places, reads, stored, shrunk, room_step, collections_of}
use Rattle.facts.specs.Reading.{taken, taken_at}
use Rattle.facts.proofs.Collected.{distinct_collected, pivot_outside, collected_var}
use Rattle.facts.proofs.Enlisted.{inv_start}
use Rattle.facts.proofs.Invariant.{var_inside, var_weighs}
use Rattle.facts.proofs.Pivots.{Pivoted, pivoted}
use Rattle.facts.proofs.Places.{places_start, places_eliminate, places_others}
use Rattle.facts.proofs.Progress.{progress}
use Rattle.facts.proofs.Reading.{taken_entries, taken_within, length_taken}
use Rattle.facts.proofs.Start.{Neighbourly}
use Rattle.facts.proofs.Step.{stepped}
use Rattle.facts.proofs.Storing.{store_taken, store_taken_lem, stored_new, none_made, one_made, stored_behind, room_fits}
use Rattle.facts.proofs.Theorem.{gone_most}
use Rattle.facts.proofs.Weighed.{Weighed, weighed_start, told_keeps}
use Rattle.facts.specs.Invariant.{Var, Inv, Quotient}

-- ---- the store of a new element

module _ (size : ℕ) (g : Graph) (p : ℕ) (r : Room) where
  stored_is : stored size g p r ≡ foldl (store_taken size g) (record { room = r; new = [] }) (taken g p [] (reads g p))
  unfolding stored
  stored_is = store_taken_lem size g p (reads g p) (record { room = r; new = [] })

  -- what is stored is what is collected
  pub stored_collected : (stored size g p r).new ≡ collected g p
  stored_collected = ap (λ (q : Storing). q.new) stored_is ∙ stored_new size g (taken g p [] (reads g p)) (record { room = r; new = [] }) ∙ taken_entries g p

  -- no collection
  pub stored_none : r.free + length (collected g p) ≤ size
      → ((stored size g p r).room.free ≡ r.free + length (collected g p)) × ((stored size g p r).room.collections ≡ r.collections)
  stored_none l =
      let h = none_made size g (taken g p [] (reads g p)) (record { room = r; new = [] }) (omega (arith, length_taken g p)) in
      (ap (λ (q : Storing). q.room.free) stored_is ∙ omega (arith, h.0, length_taken g p), ap (λ (q : Storing). q.room.collections) stored_is ∙ h.1)

  -- one, and where
  pub stored_one : r.free ≤ size → size < r.free + length (collected g p)
      → all_places g - get_or (taken_at g p) (size - r.free) 0 + length (collected g p) ≤ size
      → ((stored size g p r).room.free ≡ all_places g - get_or (taken_at g p) (size - r.free) 0 + length (collected g p)) × ((stored size g p r).room.collections ≡ suc r.collections)
  unfolding taken_at
  stored_one l m k =
      let h = one_made size g (size - r.free) (taken g p [] (reads g p)) (record { room = r; new = [] }) (omega arith) (omega (arith, length_taken g p)) (omega (arith, length_taken g p)) in
      (ap (λ (q : Storing). q.room.free) stored_is ∙ omega (arith, h.0, length_taken g p), ap (λ (q : Storing). q.room.collections) stored_is ∙ h.1)

-- fewer than n are collected
pub short_collected : {n : ℕ} {g : Graph} (q : Quotient n g) (p : ℕ) (pv : Var g p) → length (collected g p) < n
short_collected {n} {g} q p pv =
    length_missing n (collected g p) p (distinct_collected g p) (λ x m. var_inside q x (collected_var q p pv x m)) (var_inside q p pv) (pivot_outside g p)

-- ---- a pivot's step

a_room : (f c x y : ℕ) → f ≡ x → c ≡ y → ◌≡◌ {A = Room} (record { free = f; collections = c }) (record { free = x; collections = y })
a_room f c x y a b = ap (λ (z : ℕ). record { free = z; collections = c }) a ∙ ap (λ (z : ℕ). record { free = x; collections = z }) b

module _ (size : ℕ) (s t : State) (p d : ℕ) (r : Room) where
  -- the pivot has no element: the new one stands in its old place
  pub room_same : is_empty (elements_of s.graph p) ≡ true → room_step size s (found p d) t r ≡ r
  unfolding room_step
  room_same e = ap (λ (b : Bool). cond b r (shrunk (stored size s.graph p r) (length (variables_of t.graph p)))) e

  module _ (has : is_empty (elements_of s.graph p) ≡ false) where
    room_is : room_step size s (found p d) t r ≡ shrunk (stored size s.graph p r) (length (variables_of t.graph p))
    unfolding room_step
    room_is = ap (λ (b : Bool). cond b r (shrunk (stored size s.graph p r) (length (variables_of t.graph p)))) has

    -- there is a place for each variable: no collection
    pub room_none : r.free + length (collected s.graph p) ≤ size
        → room_step size s (found p d) t r ≡ record { free = r.free + length (variables_of t.graph p); collections = r.collections }
    unfolding shrunk
    room_none l =
        let h = stored_none size s.graph p r l in
        room_is ∙ a_room _ _ _ _ (omega (arith, h.0, ap length (stored_collected size s.graph p r))) h.1

    -- there is not: one collection, where the variable number size - free, counted from 0, is to be stored
    pub room_one : r.free ≤ size → size < r.free + length (collected s.graph p)
        → all_places s.graph - get_or (taken_at s.graph p) (size - r.free) 0 + length (collected s.graph p) ≤ size
        → room_step size s (found p d) t r
        ≡ record { free = all_places s.graph - get_or (taken_at s.graph p) (size - r.free) 0 + length (variables_of t.graph p); collections = suc r.collections }
    unfolding shrunk
    room_one l m k =
        let h = stored_one size s.graph p r l m k in
        room_is ∙ a_room _ _ _ _ (omega (arith, h.0, ap length (stored_collected size s.graph p r))) h.1

-- ---- R5, and R4 between the pivots

module _ {n : ℕ} (s : State) (v : Inv n s) (p d : ℕ) (pv : Var s.graph p) (size : ℕ) (r : Room) (low : r.free ≤ size) where
  module _ (enough : all_places s.graph + n ≤ size) (t : State) where
    pub room_collected : is_empty (elements_of s.graph p) ≡ false → size < r.free + length (collected s.graph p)
        → room_step size s (found p d) t r
        ≡ record { free = all_places s.graph - get_or (taken_at s.graph p) (size - r.free) 0 + length (variables_of t.graph p); collections = suc r.collections }
    room_collected has m = room_one size s t p d r has low m (omega (arith, short_collected v.graph p pv))

    -- the new element ends before the room does
    pub new_fits : (k : ℕ) → all_places s.graph - k + length (collected s.graph p) < size
    new_fits k = omega (arith, short_collected v.graph p pv)

    -- R5
    pub one_collection : (room_step size s (found p d) t r).collections ≤ suc r.collections
    one_collection =
        either _ (is_empty (elements_of s.graph p))
        (λ e. omega (arith, ap (λ (x : Room). x.collections) (room_same size s t p d r e)))
        (λ e. either _ (ltb size (r.free + length (collected s.graph p)))
        (λ k. omega (arith, ap (λ (x : Room). x.collections) (room_collected e (ltb-true size (r.free + length (collected s.graph p)) k))))
        (λ k. omega (arith, ap (λ (x : Room). x.collections) (room_none size s t p d r e (ltb-false size (r.free + length (collected s.graph p)) k)))))

  -- R4
  pub room_low : Weighed s → all_places s.graph ≤ size → (t : State) → length (variables_of t.graph p) ≤ length (collected s.graph p)
      → (room_step size s (found p d) t r).free ≤ size
  unfolding shrunk stored
  room_low w enough t few =
      either _ (is_empty (elements_of s.graph p))
      (λ e. omega (arith, ap (λ (x : Room). x.free) (room_same size s t p d r e)))
      (λ e. omega (
        arith,
        ap (λ (x : Room). x.free) (room_is size s t p d r e),
        room_fits s v w p pv e size enough r low (reads s.graph p) [] (sym (append-nil (reads s.graph p))),
        stored_behind size s.graph p (reads s.graph p) (record { room = r; new = [] }) (omega arith),
        ap length (stored_collected size s.graph p r),
      ))

-- the lists that stay end before the place where the new element is put
pub others_before : {n : ℕ} (s : State) (v : Inv n s) → Weighed s → (p : ℕ) → Var s.graph p → (k : ℕ) → k < length (collected s.graph p)
    → total (places s.graph) (keep (λ x. not (member x (p ∷ elements_of s.graph p))) (up_to n)) ≤ all_places s.graph - get_or (taken_at s.graph p) k 0
others_before s v w p pv k l = omega (arith, places_others s v w p pv, taken_within s.graph p k l)

module _ {n : ℕ} (key_of : ℕ → ℕ) (aggressive : Bool) where
  -- the survivors are some of the collected
  pub few_survivors : (s : State) → Inv n s → (p d : ℕ) → Pivoted s p d → length (variables_of (eliminate key_of n aggressive s p d).graph p) ≤ length (collected s.graph p)
  few_survivors s v p d pd =
      let st = stepped key_of n aggressive s p d v.graph pd.is_var in
      omega (arith, ap length st.pivot_members, length_keep (has_weight (eliminate key_of n aggressive s p d).graph) (collected s.graph p))

pub fronts_rise : (key_of : ℕ → ℕ) (n : ℕ) (aggressive : Bool) (s : State) (p d : ℕ) → length (eliminate key_of n aggressive s p d).fronts ≡ suc (length s.fronts)
unfolding eliminate finish
fronts_rise key_of n aggressive s p d = length-append s.fronts _ ∙ omega arith

-- R5, of the step that step 1 found
pub collections_step : {n : ℕ} (s : State) → Inv n s → (size : ℕ) (r : Room) → r.free ≤ size → all_places s.graph + n ≤ size → (t : State)
    → (room_step size s (pivot s) t r).collections ≤ suc r.collections
unfolding room_step
collections_step s v size r low enough t = go (pivot s) refl
  where
    go : (f : Found) → pivot s ≡ f → (room_step size s f t r).collections ≤ suc r.collections
    go nobody e = omega arith
    go (found p d) e = one_collection s v p d (pivoted s v p d e).is_var size r low enough t

-- ---- the run

-- the state after k pivots at most, and the room beside it
abbrev pub state_after : (ℕ → ℕ) → Bool → ℕ → List (List ℕ) → ℕ → State
state_after key_of aggressive limit nbrs k = run key_of k (length nbrs) aggressive (started limit nbrs)

abbrev pub room_after : ℕ → (ℕ → ℕ) → Bool → ℕ → List (List ℕ) → ℕ → Room
room_after size key_of aggressive limit nbrs k =
    beside (room_step size) key_of k (length nbrs) aggressive (started limit nbrs) (record { free = total length nbrs; collections = 0 })

module _ (nbrs : List (List ℕ)) (nb : Neighbourly nbrs) (key_of : ℕ → ℕ) (aggressive : Bool) (limit size : ℕ) where
  abbrev after : ℕ → State
  after k = state_after key_of aggressive limit nbrs k

  abbrev room : ℕ → Room
  room k = room_after size key_of aggressive limit nbrs k

  -- what the steps keep, of a state and the room beside it
  record Kept (s : State) (r : Room) : Type 0 where
    held : all_places s.graph ≤ total length nbrs
    low : r.free ≤ size
    pivots : r.collections ≤ length s.fronts
    rows : length s.fronts ≤ s.gone

  -- R4, after any number of pivots
  pub room_always : total length nbrs ≤ size → (k : ℕ) → (room k).free ≤ size
  room_always enough k =
      (told_keeps key_of aggressive (λ (s : State) (r : Room). (all_places s.graph ≤ total length nbrs) × (r.free ≤ size)) (room_step size)
      (λ s r v w l p d pd h. (
        omega (arith, places_eliminate key_of aggressive s v w p d pd),
        room_low s v p d pd.is_var size r h.1 w (omega (arith, h.0)) (eliminate key_of (length nbrs) aggressive s p d) (few_survivors key_of aggressive s v p d pd),
      ))
      k (started limit nbrs) (record { free = total length nbrs; collections = 0 }) (inv_start limit nbrs nb) (weighed_start limit nbrs) (places_start limit nbrs, enough)).2.1

  -- R5, of the run: no more collections than pivots, and no more pivots than rows
  pub collections_run : total length nbrs + length nbrs ≤ size → (k : ℕ) → ((room k).collections ≤ length (after k).fronts) × (length (after k).fronts ≤ length nbrs)
  unfolding started
  collections_run enough k =
      let h = told_keeps key_of aggressive Kept (room_step size) keeps k (started limit nbrs) (record { free = total length nbrs; collections = 0 })
      (inv_start limit nbrs nb) (weighed_start limit nbrs) (record { held = places_start limit nbrs; low = omega arith; pivots = omega arith; rows = omega arith }) in
      (h.2.pivots, omega (arith, h.2.rows, gone_most key_of aggressive (after k) h.0))
    where
      keeps : (s : State) (r : Room) → Inv (length nbrs) s → Weighed s → s.gone < length nbrs → (p d : ℕ) → Pivoted s p d → Kept s r
          → Kept (eliminate key_of (length nbrs) aggressive s p d) (room_step size s (found p d) (eliminate key_of (length nbrs) aggressive s p d) r)
      keeps s r v w l p d pd h = record {
        held = omega (arith, places_eliminate key_of aggressive s v w p d pd, h.held);
        low = room_low s v p d pd.is_var size r h.low w (omega (arith, h.held)) (eliminate key_of (length nbrs) aggressive s p d) (few_survivors key_of aggressive s v p d pd);
        pivots = omega (
          arith,
          one_collection s v p d pd.is_var size r h.low (omega (arith, h.held)) (eliminate key_of (length nbrs) aggressive s p d),
          fronts_rise key_of (length nbrs) aggressive s p d,
          h.pivots,
        );
        rows = omega (arith, fronts_rise key_of (length nbrs) aggressive s p d, progress key_of (length nbrs) aggressive s p d (var_weighs v.graph p pd.is_var), h.rows);
      }

  pub collections_most : total length nbrs + length nbrs ≤ size → collections_of key_of aggressive limit nbrs size ≤ length nbrs
  unfolding collections_of
  collections_most enough = let h = collections_run enough (length nbrs) in omega (arith, h.0, h.1)
