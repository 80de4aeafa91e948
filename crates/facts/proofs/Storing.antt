-- The room while a new element is stored: R2, R3 and R4.
-- Assumes nothing.
use Prim.Native.Nat.{ℕ, zero, suc, ◌+◌, ◌-◌, ◌≤◌, ◌<◌}
use native.Mathlib.Omega.{arith}
use mathlib.Core.Path.{◌≡◌, refl, sym, ap, ◌∙◌}
use mathlib.Core.Bool.{Bool, true, false, cond}
use mathlib.Core.List.{List, [], ◌∷◌, ◌++◌, map, foldl, append-nil, append_assoc}
use lib.Dec.{eqb}
use lib.ListN.{length, get_or, length-append}
use borrow.Author.Tests.{eqb-false, eq-eqb, ne_eqb}
use Rattle.plain.proofs.Folds.{all_imply, all_left, all_right}
use Rattle.plain.proofs.Logic.{cond_has}
use Rattle.plain.specs.Lists.{cons_if, is_empty}
use Rattle.plain.specs.Members.{All}
use Rattle.definition.specs.State.{Graph, State, elements_of}
use Rattle.definition.specs.Pivot.{wanted, collect_one}
use Rattle.definition.specs.Room.{Read, Room, Storing, all_places, reads, collect, made_free, used, store_one}
use Rattle.facts.specs.Reading.{taken}
use Rattle.facts.proofs.Places.{places_read}
use Rattle.facts.proofs.Reading.{Late, late_left, late_right, reads_late, reads_within}
use Rattle.facts.proofs.Weighed.{Weighed}
use Rattle.facts.specs.Invariant.{Var, Inv}

-- ---- where room is made

module _ (size : ℕ) (g : Graph) (read kept : ℕ) (r : Room) where
  pub made_free_lem : r.free < size → made_free size g read kept r ≡ r
  unfolding made_free
  made_free_lem l = rw (ne_eqb r.free size (λ e. absurd (omega arith)))

  pub made_full : r.free ≡ size → made_free size g read kept r ≡ collect g read kept r
  unfolding made_free
  made_full e = rw (eq-eqb r.free size e)

  -- R3: after a collection two places at least are free, below what was held before the step
  pub collect_low : kept + 2 ≤ read → read ≤ all_places g → (collect g read kept r).free + 2 ≤ all_places g
  unfolding collect
  collect_low l m = omega arith

  -- so that the store is in range
  pub made_low : r.free ≤ size → all_places g ≤ size → kept + 2 ≤ read → read ≤ all_places g → (made_free size g read kept r).free < size
  unfolding made_free
  made_low f a l m =
      cond_has (λ (x : Room). x.free < size) (eqb r.free size)
      (λ e. omega (arith, collect_low l m))
      (λ e. let n = eqb-false r.free size e in strict r.free n f)
    where
      strict : (x : ℕ) → (x ≡ size → ⊥) → x ≤ size → x < size
      strict x n l = omega arith

  pub made_behind : kept ≤ r.free → kept ≤ (made_free size g read kept r).free
  unfolding made_free collect
  made_behind l = cond_has (λ (x : Room). kept ≤ x.free) (eqb r.free size) (λ e. omega arith) (λ e. l)

-- ---- only the entries at which a variable is collected count

module _ (size : ℕ) (g : Graph) where
  -- one of them is stored
  unfoldable pub store_taken : Storing → Read → Storing
  store_taken q a = record { room = used (made_free size g a.sofar (length q.new) q.room); new = q.new ++ (a.entry ∷ []) }

  pub store_taken_lem : (p : ℕ) (xs : List Read) (q : Storing) → foldl (store_one size g p) q xs ≡ foldl store_taken q (taken g p q.new xs)
  unfolding store_one store_taken taken collect_one
  store_taken_lem p [] q = refl
  store_taken_lem p (a ∷ xs) q = go (wanted g p q.new a.entry) (λ r. store_taken_lem p xs r)
    where
      go : (b : Bool) → ((r : Storing) → foldl (store_one size g p) r xs ≡ foldl store_taken r (taken g p r.new xs))
          → foldl (store_one size g p) (cond b (store_taken q a) q) xs ≡ foldl store_taken q (cons_if b a (taken g p (cond b (q.new ++ (a.entry ∷ [])) q.new) xs))
      go true ih = ih (store_taken q a)
      go false ih = ih q

  pub stored_new : (xs : List Read) (q : Storing) → (foldl store_taken q xs).new ≡ q.new ++ map (λ a. a.entry) xs
  unfolding store_taken
  stored_new [] q = sym (append-nil q.new)
  stored_new (a ∷ xs) q = stored_new xs (store_taken q a) ∙ append_assoc q.new (a.entry ∷ []) (map (λ a. a.entry) xs)

  -- no collection, where there is a place for each
  pub none_made : (xs : List Read) (q : Storing) → q.room.free + length xs ≤ size
      → ((foldl store_taken q xs).room.free ≡ q.room.free + length xs) × ((foldl store_taken q xs).room.collections ≡ q.room.collections)
  unfolding store_taken used
  none_made [] q l = (omega arith, refl)
  none_made (a ∷ xs) q l =
      let m : made_free size g a.sofar (length q.new) q.room ≡ q.room = made_free_lem size g a.sofar (length q.new) q.room (omega arith) in
      let f : (store_taken q a).room.free ≡ suc q.room.free = ap (λ (r : Room). suc r.free) m in
      let h = none_made xs (store_taken q a) (omega arith) in
      (omega (arith, h.0), h.1 ∙ ap (λ (r : Room). r.collections) m)

  -- exactly one, where there is not, and room enough afterwards: at the entry number k, counted from 0, where k places were free
  pub one_made : (k : ℕ) (xs : List Read) (q : Storing) → q.room.free + k ≡ size → k < length xs
      → all_places g - get_or (map (λ a. a.sofar) xs) k 0 + length q.new + length xs ≤ size
      → ((foldl store_taken q xs).room.free ≡ all_places g - get_or (map (λ a. a.sofar) xs) k 0 + length q.new + length xs)
      × ((foldl store_taken q xs).room.collections ≡ suc q.room.collections)
  unfolding store_taken used collect
  one_made k [] q e m l = absurd (omega arith)
  one_made zero (a ∷ xs) q e m l =
      let c : made_free size g a.sofar (length q.new) q.room ≡ collect g a.sofar (length q.new) q.room = made_full size g a.sofar (length q.new) q.room (omega arith) in
      let f : (store_taken q a).room.free ≡ suc (all_places g - a.sofar + length q.new) = ap (λ (r : Room). suc r.free) c in
      let h = none_made xs (store_taken q a) (omega arith) in
      (omega (arith, h.0), h.1 ∙ ap (λ (r : Room). r.collections) c)
  one_made (suc k) (a ∷ xs) q e m l =
      let c : made_free size g a.sofar (length q.new) q.room ≡ q.room = made_free_lem size g a.sofar (length q.new) q.room (omega arith) in
      let f : (store_taken q a).room.free ≡ suc q.room.free = ap (λ (r : Room). suc r.free) c in
      let n : length (store_taken q a).new ≡ suc (length q.new) = length-append q.new (a.entry ∷ []) ∙ omega arith in
      let h = one_made k xs (store_taken q a) (omega arith) (omega arith) (omega arith) in
      (omega (arith, h.0), h.1 ∙ ap (λ (r : Room). suc r.collections) c)

  -- ---- at all times

  module _ (p : ℕ) where
    few_one : (q : Storing) (a : Read) → length (store_one size g p q a).new ≤ suc (length q.new)
    unfolding store_one
    few_one q a = cond_has (λ (x : Storing). length x.new ≤ suc (length q.new)) (wanted g p q.new a.entry) (λ e. omega (arith, length-append q.new (a.entry ∷ []))) (λ e. omega arith)

    -- no more is stored than is read
    pub stored_few : (xs : List Read) (q : Storing) → length (foldl (store_one size g p) q xs).new ≤ length q.new + length xs
    stored_few [] q = omega arith
    stored_few (a ∷ xs) q = omega (arith, stored_few xs (store_one size g p q a), few_one q a)

    -- and all of it stands before the next free place
    behind_one : (q : Storing) (a : Read) → length q.new ≤ q.room.free → length (store_one size g p q a).new ≤ (store_one size g p q a).room.free
    unfolding store_one used
    behind_one q a l =
        cond_has (λ (x : Storing). length x.new ≤ x.room.free) (wanted g p q.new a.entry)
        (λ e. omega (arith, length-append q.new (a.entry ∷ []), made_behind size g a.sofar (length q.new) q.room l)) (λ e. l)

    pub stored_behind : (xs : List Read) (q : Storing) → length q.new ≤ q.room.free → length (foldl (store_one size g p) q xs).new ≤ (foldl (store_one size g p) q xs).room.free
    stored_behind [] q l = l
    stored_behind (a ∷ xs) q l = stored_behind xs (store_one size g p q a) (behind_one q a l)

    fits_one : (q : Storing) (a : Read) → length q.new + 2 ≤ a.sofar → a.sofar ≤ all_places g → all_places g ≤ size → q.room.free ≤ size
        → (store_one size g p q a).room.free ≤ size
    unfolding store_one used
    fits_one q a l m k f =
        cond_has (λ (x : Storing). x.room.free ≤ size) (wanted g p q.new a.entry) (λ e. made_low size g a.sofar (length q.new) q.room f k l m) (λ e. f)

    pub stored_fits : (xs : List Read) (q : Storing) (c : ℕ) → length q.new < c → Late c xs → All (λ a. a.sofar ≤ all_places g) xs → all_places g ≤ size
        → q.room.free ≤ size → (foldl (store_one size g p) q xs).room.free ≤ size
    stored_fits [] q c l h w k f = f
    stored_fits (a ∷ xs) q c l h w k f =
        stored_fits xs (store_one size g p q a) (suc c) (omega (arith, few_one q a)) h.1 w.1 k (fits_one q a (omega (arith, h.0)) w.0 k f)

-- ---- of a state

-- the room after a part of the reading
abbrev pub during : ℕ → Graph → ℕ → Room → List Read → Storing
during size g p r xs = foldl (store_one size g p) (record { room = r; new = [] }) xs

module _ {n : ℕ} (s : State) (v : Inv n s) (w : Weighed s) (p : ℕ) (pv : Var s.graph p) where
  abbrev g : Graph
  g = s.graph

  -- R2: what is read never exceeds what the lists hold
  pub reads_held : All (λ a. a.sofar ≤ all_places g) (reads g p)
  reads_held = all_imply _ _ (reads g p) (λ a h. omega (arith, places_read v.graph w.heavy p pv)) (reads_within g p)

  module _ (has : is_empty (elements_of g p) ≡ false) (size : ℕ) (enough : all_places g ≤ size) (r : Room) (low : r.free ≤ size) where
    abbrev so_far : List Read → Storing
    so_far xs = during size g p r xs

    -- R2: the entry at hand is read and not yet stored, and so is the number of the first element
    pub stored_before : (xs : List Read) (a : Read) (ys : List Read) → reads g p ≡ xs ++ (a ∷ ys) → (length (so_far xs).new + 2 ≤ a.sofar) × (a.sofar ≤ all_places g)
    stored_before xs a ys e =
        let h : Late (1 + length xs) (a ∷ ys) = late_right 1 xs (a ∷ ys) (rw e at (reads_late g p has)) in
        let k : All (λ b. b.sofar ≤ all_places g) (a ∷ ys) = all_right _ xs (a ∷ ys) (rw e at reads_held) in
        (omega (arith, h.0, stored_few size g p xs (record { room = r; new = [] })), k.0)

    -- R4: at all times
    pub room_fits : (xs ys : List Read) → reads g p ≡ xs ++ ys → (so_far xs).room.free ≤ size
    room_fits xs ys e =
        stored_fits size g p xs (record { room = r; new = [] }) 1 (omega arith) (late_left 1 xs ys (rw e at (reads_late g p has)))
        (all_left _ xs ys (rw e at reads_held)) enough low

    -- R3: a collection leaves two places, so that every store is in range
    pub collected_low : (xs : List Read) (a : Read) (ys : List Read) → reads g p ≡ xs ++ (a ∷ ys)
        → (collect g a.sofar (length (so_far xs).new) (so_far xs).room).free + 2 ≤ all_places g
    collected_low xs a ys e =
        let h = stored_before xs a ys e in
        collect_low size g a.sofar (length (so_far xs).new) (so_far xs).room h.0 h.1

    pub store_in_range : (xs : List Read) (a : Read) (ys : List Read) → reads g p ≡ xs ++ (a ∷ ys)
        → (made_free size g a.sofar (length (so_far xs).new) (so_far xs).room).free < size
    store_in_range xs a ys e =
        let h = stored_before xs a ys e in
        made_low size g a.sofar (length (so_far xs).new) (so_far xs).room (room_fits xs (a ∷ ys) e) enough h.0 h.1
