-- The gather against the definition: what is read, what is collected, and definition C: whether a collection happens, and where the free end is then.
-- Assumes nothing.
use Rattle.std.proofs.Common.{◌≡◌, ℕ, suc, ◌+◌, ◌-◌, ◌^◌, ◌<◌, ◌≤◌, Bool, true, false, cond, not, ◌&&◌, ◌||◌, eqb, ◌≢◌, List, [], ◌∷◌, ◌++◌, length, get_or, ℤ, sym, refl, ap, ◌∙◌, ⊎_elim, append_assoc, append-nil, arith}
use mathlib.Core.List.{flat_map, foldl, map-append}
use lib.ListN.{length-map}
use Rattle.plain.proofs.Members.{member_here, member_there}
use Rattle.plain.specs.Lists.{cons_if, member}
use Rattle.plain.specs.Members.{Distinct, In}
use Rattle.plain.specs.Turns.{firsts}
use Rattle.definition.specs.Pivot.{candidates, collect_one, collected, wanted}
use Rattle.definition.specs.Room.{Read, Room, all_places, read_elements, read_list, reads, shrunk, stored}
use Rattle.definition.specs.State.{Graph, elements_of, has_weight, variables_of}
use Rattle.facts.proofs.Collections.{stored_collected, stored_none, stored_one}
use Rattle.facts.proofs.Reading.{read_entries, taken_entries}
use Rattle.facts.specs.Reading.{taken, taken_at}
use Rattle.cells.proofs.Slices.{split}
use Rattle.cells.specs.Layout.{ELEN, ORD}
use Rattle.cells.specs.View.{rd}
use Rattle.packed.specs.Gather.{Outside, gathered_outside}
use Rattle.packed.specs.Places.{Space, sum_to}
use Rattle.packed.specs.Reading.{after_parts, entries_of, pick_one, picked, read_all, read_parts, sofar_of}
use Rattle.packed.proofs.Outside.{Gathered, few, gathered_rep}
use Rattle.packed.proofs.Picked.{picked_new}
use Rattle.packed.proofs.Taking.{wants}

module _ (g : Graph) (X : ℕ → List ℕ) where
  -- the reading of the definition
  parts_same : (c : ℕ) (es vs : List ℕ) → ((e : ℕ) → In e es → X e ≡ variables_of g e)
      → read_parts X c es ++ read_list (after_parts X c es) vs ≡ read_elements g c es vs
  unfolding read_parts after_parts read_elements
  parts_same c [] vs h = refl
  parts_same c (e ∷ es) vs h =
      let x : X e ≡ variables_of g e = h e (member_here e es) in
      append_assoc (read_list (suc c) (X e)) (read_parts X (suc c + length (X e)) es) (read_list (after_parts X (suc c + length (X e)) es) vs)
      ∙ ap (λ (l : List Read). read_list (suc c) (X e) ++ l) (parts_same (suc c + length (X e)) es vs (λ d m. h d (member_there d e es m)))
      ∙ ap (λ (y : List ℕ). read_list (suc c) y ++ read_elements g (suc c + length y) es vs) x

  pub reads_same : (p : ℕ) → ((e : ℕ) → In e (elements_of g p) → X e ≡ variables_of g e) → read_all X (elements_of g p) (variables_of g p) ≡ reads g p
  unfolding read_all reads
  reads_same p h = parts_same 0 (elements_of g p) (variables_of g p) h

module _ (g : Graph) (p : ℕ) (w : ℕ → Bool) where
  -- what the code wants is what the definition does
  wanted_as : (new : List ℕ) (v : ℕ) → w v ≡ has_weight g v && not (eqb v p) → w v && not (member v new) ≡ wanted g p new v
  unfolding member
  wanted_as new v h = rw h (go (has_weight g v) (eqb v p) (member v new))
    where
      go : (a b c : Bool) → (a && not b) && not c ≡ a && not (b || c)
      go true true c = refl
      go true false c = refl
      go false b c = refl

  pick_taken : (xs q : List Read) → ((v : ℕ) → In v (entries_of xs) → w v ≡ has_weight g v && not (eqb v p)) → foldl (pick_one w) q xs ≡ q ++ taken g p (entries_of q) xs
  unfolding pick_one taken collect_one
  pick_taken [] q h = sym (append-nil q)
  pick_taken (a ∷ xs) q h =
      rw (wanted_as (entries_of q) a.entry (h a.entry (member_here a.entry (entries_of xs))))
      (go (wanted g p (entries_of q) a.entry) (λ r. pick_taken xs r (λ v m. h v (member_there v a.entry (entries_of xs) m))))
    where
      go : (b : Bool) → ((r : List Read) → foldl (pick_one w) r xs ≡ r ++ taken g p (entries_of r) xs)
          → foldl (pick_one w) (cond b (q ++ (a ∷ [])) q) xs ≡ q ++ cons_if b a (taken g p (cond b (entries_of q ++ (a.entry ∷ [])) (entries_of q)) xs)
      go true ih =
          ih (q ++ (a ∷ [])) ∙ append_assoc q (a ∷ []) (taken g p (entries_of (q ++ (a ∷ []))) xs)
          ∙ ap (λ (l : List ℕ). q ++ (a ∷ taken g p l xs)) (map-append (λ (c : Read). c.entry) q (a ∷ []))
      go false ih = ih q

  pub picked_taken : (xs : List Read) → ((v : ℕ) → In v (entries_of xs) → w v ≡ has_weight g v && not (eqb v p)) → picked w xs ≡ taken g p [] xs
  unfolding picked
  picked_taken xs h = pick_taken xs [] h

-- the lists in the memory are those of the graph, as far as the step of p reads them, and it wants what the definition wants
pub record Shows (g : Graph) (p : ℕ) (X : ℕ → List ℕ) (w : ℕ → Bool) : Type 0 where
  pub own : X p ≡ elements_of g p ++ variables_of g p
  pub lists : (e : ℕ) → In e (elements_of g p) → X e ≡ variables_of g e
  pub wish : (v : ℕ) → In v (candidates g p) → w v ≡ has_weight g v && not (eqb v p)

module _ (g : Graph) (p : ℕ) (X : ℕ → List ℕ) (w : ℕ → Bool) (h : Shows g p X w) where
  abbrev q : List Read
  q = picked w (read_all X (elements_of g p) (variables_of g p))

  pub gather_taken : q ≡ taken g p [] (reads g p)
  gather_taken =
      ap (picked w) (reads_same g X p h.lists)
      ∙ picked_taken g p w (reads g p) (λ v m. h.wish v (rw (read_entries g p) at m))

  -- the new element of the definition
  pub gather_collected : entries_of q ≡ collected g p
  gather_collected = ap entries_of gather_taken ∙ taken_entries g p

  pub gather_at : sofar_of q ≡ taken_at g p
  unfolding taken_at
  gather_at = ap sofar_of gather_taken

  gather_length : length (collected g p) ≡ length q
  gather_length = sym (ap length gather_collected) ∙ length-map q (λ (a : Read). a.entry)

  -- Definition C: the free end and the count after the store
  module _ (n : ℕ) (l s : List ℤ) (made base lim : ℕ) (m : Outside) (o : Gathered n X l s made base lim p (elements_of g p) q m)
      (all : sum_to n (λ i. length (X i)) ≡ all_places g) (room : sum_to n (λ i. length (X i)) + n ≤ length l) (few : length q ≤ n) (inside : lim ≤ length l)
      (r : Room) (at_lim : r.free ≡ lim) where
    stays : length q ≤ length l - lim → ((stored (length l) g p r).room.free ≡ m.made.free) × ((stored (length l) g p r).room.collections ≡ r.collections + m.made.collected)
    stays b =
        let k = o.kept b in
        let z = stored_none (length l) g p r (omega (arith, gather_length)) in
        (omega (arith, z.0, o.free, k.0, gather_length), omega (arith, z.1, k.2))

    moves : length l - lim < length q → ((stored (length l) g p r).room.free ≡ m.made.free) × ((stored (length l) g p r).room.collections ≡ r.collections + m.made.collected)
    moves b =
        let k = o.moved b in
        let e : length l - r.free ≡ length l - lim = ap (λ (y : ℕ). length l - y) at_lim in
        let t : get_or (taken_at g p) (length l - r.free) 0 ≡ get_or (sofar_of q) (length l - lim) 0 = ap (λ (y : ℕ). get_or (taken_at g p) y 0) e ∙ ap (λ (y : List ℕ). get_or y (length l - lim) 0) (sym gather_at) in
        let z = stored_one (length l) g p r (omega arith) (omega (arith, gather_length)) (omega (arith, gather_length)) in
        (omega (arith, z.0, o.free, k.0, gather_length, t), omega (arith, z.1, k.1))

    pub gathered_stored : ((stored (length l) g p r).room.free ≡ m.made.free) × ((stored (length l) g p r).room.collections ≡ r.collections + m.made.collected)
    gathered_stored = ⊎_elim (λ b. moves b) (λ b. stays b) (split (length l - lim) (length q))

    -- and once only k survivors keep their places
    pub gathered_shrunk : (k : ℕ) → shrunk (stored (length l) g p r) k ≡ record { free = m.made.start + k; collections = r.collections + m.made.collected }
    unfolding shrunk
    gathered_shrunk k =
        let z = gathered_stored in
        let f : (stored (length l) g p r).room.free - length (stored (length l) g p r).new + k ≡ m.made.start + k =
        omega (arith, z.0, o.free, ap length (stored_collected (length l) g p r), gather_length) in
        rw (f, z.1)

-- the new element in its own place, of a pivot without elements
pub inside_collected : (g : Graph) (p : ℕ) (X : ℕ → List ℕ) (w : ℕ → Bool) → Shows g p X w → elements_of g p ≡ [] → firsts w (X p) ≡ collected g p
unfolding flat_map
inside_collected g p X w h empty =
    ap (firsts w) h.own ∙ ap (λ (es : List ℕ). firsts w (es ++ variables_of g p)) empty
    ∙ ap (λ (es : List ℕ). firsts w (flat_map X es ++ variables_of g p)) (sym empty)
    ∙ sym (picked_new w X (elements_of g p) (variables_of g p)) ∙ gather_collected g p X w h

-- what the code leaves, in the words of the definition
pub record Agrees (n : ℕ) (g : Graph) (p : ℕ) (X : ℕ → List ℕ) (l s : List ℤ) (made base lim : ℕ) (r : Room) : Type 0 where
  pub entries : List Read
  pub new : entries_of entries ≡ collected g p
  pub gathered : Gathered n X l s made base lim p (elements_of g p) entries (gathered_outside n p base lim made l s)
  pub after : ((stored (length l) g p r).room.free ≡ (gathered_outside n p base lim made l s).made.free)
      × ((stored (length l) g p r).room.collections ≡ r.collections + (gathered_outside n p base lim made l s).made.collected)
  pub shrinks : (k : ℕ) → shrunk (stored (length l) g p r) k
      ≡ record { free = (gathered_outside n p base lim made l s).made.start + k; collections = r.collections + (gathered_outside n p base lim made l s).made.collected }

-- THE gather, for the definition
pub gathered_definition : (n : ℕ) (g : Graph) (p : ℕ) (X : ℕ → List ℕ) (l s : List ℤ) (made base lim : ℕ) (r : Room) → Space n X l s made base lim → n < 2 ^ 63 → length l < 2 ^ 63
    → Shows g p X (wants n s) → p < n → rd n ELEN s p ≡ length (elements_of g p) → Distinct (elements_of g p) → member p (elements_of g p) ≡ false
    → ((e : ℕ) → In e (elements_of g p) → e < n) → made < n → ((t : ℕ) → t < made → rd n ORD s t ≢ p)
    → sum_to n (λ i. length (X i)) ≡ all_places g → all_places g + n ≤ length l → r.free ≡ lim → Agrees n g p X l s made base lim r
gathered_definition n g p X l s made base lim r space small narrow h hp elen once away low turns fresh all room at_lim =
    let o = gathered_rep n X l s made base lim space small narrow p hp (elements_of g p) (variables_of g p) h.own elen once away low turns fresh (omega (arith, all)) in
    let f = few n X l s made base lim space small narrow p hp (elements_of g p) (variables_of g p) h.own elen once away low in
    record {
      entries = picked (wants n s) (read_all X (elements_of g p) (variables_of g p));
      new = gather_collected g p X (wants n s) h;
      gathered = o;
      after = gathered_stored g p X (wants n s) h n l s made base lim (gathered_outside n p base lim made l s) o all (omega (arith, all)) f space.lists.fits r at_lim;
      shrinks = gathered_shrunk g p X (wants n s) h n l s made base lim (gathered_outside n p base lim made l s) o all (omega (arith, all)) f space.lists.fits r at_lim;
    }
