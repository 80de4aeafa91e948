-- The laws of `parent` and `hang`: a parent is found again, and stands in nobody's way but that of the place of its own object's list.
-- Assumes nothing.
use Prim.Native.Nat.{ℕ, zero, suc, ◌+◌, ◌-◌, ◌*◌, ◌<◌, ◌≤◌}
use native.Mathlib.Omega.{arith}
use native.Mathlib.Numerals.{add-one}
use mathlib.Core.Path.{◌≡◌, refl, sym, ap, ◌∙◌}
use mathlib.Core.Logic.{◌≢◌, ◌⊎◌, inl, inr}
use mathlib.Core.Bool.{Bool, true, false}
use mathlib.Core.List.{List}
use mathlib.Core.Option.{Option, none, some}
use borrow.Author.Tests.{lt-ltb, le-ltb}
use lib.IntN.{ℤ, pos, negsuc, neg_ℤ, ◌-ℤ◌}
use lib.ListN.{length, get_or, set, length-set, get_or-eq_default}
use lib.Signed.{lt_z}
use lib.Seq.{get_or-set_same, get_or-set_other, set_out, set_comm, set-set}
use Rattle.cells.specs.Layout.{PE}
use Rattle.cells.specs.View.{nat, at, wr, place, within, rd, up, negative, Room}
use Rattle.cells.specs.Links.{flipped, coded, decoded, named, linked, parent, hang}
use Rattle.cells.proofs.Slices.{split}
use Rattle.cells.proofs.Fields.{places_differ, inside, up_in, up_out, rd_in, rd_out, rd_null}

-- ---- the code

-- what the Rust writes: -x - 2
pub flipped_minus : (x : ℤ) → neg_ℤ x -ℤ pos 2 ≡ flipped x
flipped_minus (pos zero) = refl
flipped_minus (pos (suc k)) = ap (λ (m : ℕ). negsuc (suc m)) (add-one k)
flipped_minus (negsuc zero) = refl
flipped_minus (negsuc (suc k)) =
    let e : suc (suc k) - 2 ≡ k = omega arith in
    rw (le-ltb (suc (suc k)) 2 (omega arith)) (ap pos e)

pub flipped_twice : (x : ℤ) → flipped (flipped x) ≡ x
flipped_twice (pos k) = refl
flipped_twice (negsuc zero) = refl
flipped_twice (negsuc (suc k)) = refl

pub decoded_coded : (p : Option ℕ) → decoded (coded p) ≡ p
decoded_coded none = refl
decoded_coded (some p) = refl

no_number : (p : Option ℕ) → nat (coded p) ≡ 0
no_number none = refl
no_number (some p) = refl

pub linked_named : (n p : ℕ) → p ≤ n → linked n (named n p) ≡ p
linked_named n p h = go (split p n)
  where
    go : (p < n) ⊎ (n ≤ p) → linked n (named n p) ≡ p
    go (inl a) = rw (lt-ltb p n a)
    go (inr a) = rw (le-ltb p n a) (omega arith)

pub named_some : (n p : ℕ) → p < n → named n p ≡ some p
named_some n p h = rw (lt-ltb p n h)

pub named_none : (n p : ℕ) → n ≤ p → named n p ≡ none
named_none n p h = rw (le-ltb p n h)

-- ---- inside and outside

pe_in : (n i : ℕ) → i < n → within n PE i ≡ true
unfolding within
pe_in n i h = lt-ltb i n h

pub hang_in : (n : ℕ) (s : List ℤ) (i : ℕ) (p : Option ℕ) → i < n → hang n s i p ≡ set s (place n PE i) (coded p)
unfolding hang
hang_in n s i p h = rw (lt-ltb i n h)

pub hang_null : (n : ℕ) (s : List ℤ) (i : ℕ) (p : Option ℕ) → n ≤ i → hang n s i p ≡ s
unfolding hang
hang_null n s i p h = rw (le-ltb i n h)

pub parent_in : (n : ℕ) (s : List ℤ) (i : ℕ) → i < n → parent n s i ≡ decoded (get_or s (place n PE i) (pos 0))
unfolding parent
parent_in n s i h = rw (lt-ltb i n h)

pub parent_null : (n : ℕ) (s : List ℤ) (i : ℕ) → n ≤ i → parent n s i ≡ none
unfolding parent
parent_null n s i h = rw (le-ltb i n h)

-- ---- after a parent was stored

module _ (n : ℕ) (s : List ℤ) (i : ℕ) (p : Option ℕ) where
  length_by : (i < n) ⊎ (n ≤ i) → length (hang n s i p) ≡ length s
  length_by (inl a) = rw (hang_in n s i p a) (length-set s (place n PE i) (coded p))
  length_by (inr a) = rw (hang_null n s i p a)

  pub length_hang : length (hang n s i p) ≡ length s
  length_hang = length_by (split i n)

  calm_by : (f j : ℕ) → 0 < f → within n f j ≡ true → negative s (place n f j) ≡ false → (i < n) ⊎ (n ≤ i) → negative (hang n s i p) (place n f j) ≡ false
  unfolding negative
  calm_by f j a w k (inl b) =
      rw (hang_in n s i p b)
      (ap (λ (z : ℤ). lt_z z (pos 0)) (get_or-set_other s (place n PE i) (place n f j) (coded p) (pos 0) (places_differ n PE f i j (pe_in n i b) w (λ e _. omega arith))) ∙ k)
  calm_by f j a w k (inr b) = rw (hang_null n s i p b) k

  pub room_hang : Room n s → Room n (hang n s i p)
  room_hang h = record { room = omega (arith, h.room, length_hang); calm = λ f j a w. calm_by f j a w (h.calm f j a w) (split i n) }

  pub parent_hang_long : 16 * n + 16 ≤ length s → i < n → parent n (hang n s i p) i ≡ p
  parent_hang_long r h =
      rw (parent_in n (hang n s i p) i h, hang_in n s i p h)
      (ap decoded (get_or-set_same s (place n PE i) (coded p) (pos 0) (inside n PE i (length s) r (omega arith) (pe_in n i h))) ∙ decoded_coded p)

  pub parent_hang_same : Room n s → i < n → parent n (hang n s i p) i ≡ p
  parent_hang_same r h = parent_hang_long r.room h

  parent_by : (j : ℕ) → i ≢ j → (i < n) ⊎ (n ≤ i) → (j < n) ⊎ (n ≤ j) → parent n (hang n s i p) j ≡ parent n s j
  parent_by j d (inr a) b = rw (hang_null n s i p a)
  parent_by j d (inl a) (inr b) = parent_null n (hang n s i p) j b ∙ sym (parent_null n s j b)
  parent_by j d (inl a) (inl b) =
      rw (parent_in n (hang n s i p) j b, parent_in n s j b, hang_in n s i p a)
      (ap decoded (get_or-set_other s (place n PE i) (place n PE j) (coded p) (pos 0) (places_differ n PE PE i j (pe_in n i a) (pe_in n j b) (λ e f. d f))))

  pub parent_hang_other : (j : ℕ) → i ≢ j → parent n (hang n s i p) j ≡ parent n s j
  parent_hang_other j d = parent_by j d (split i n) (split j n)

  rd_by : (g j : ℕ) → (PE ≡ g → i ≡ j → ⊥) → (i < n) ⊎ (n ≤ i) → (b : Bool) → within n g j ≡ b → rd n g (hang n s i p) j ≡ rd n g s j
  unfolding at
  rd_by g j d (inr a) b h = rw (hang_null n s i p a)
  rd_by g j d (inl a) false h = rd_out n g (hang n s i p) j h ∙ sym (rd_out n g s j h)
  rd_by g j d (inl a) true h =
      rw (rd_in n g (hang n s i p) j h, rd_in n g s j h, hang_in n s i p a)
      (ap nat (get_or-set_other s (place n PE i) (place n g j) (coded p) (pos 0) (places_differ n PE g i j (pe_in n i a) h d)))

  pub rd_hang_other : (g j : ℕ) → (PE ≡ g → i ≡ j → ⊥) → rd n g (hang n s i p) j ≡ rd n g s j
  rd_hang_other g j d = rd_by g j d (split i n) (within n g j) refl

  gone_at : (i < n) → (place n PE i < length s) ⊎ (length s ≤ place n PE i) → rd n PE (hang n s i p) i ≡ 0
  unfolding at
  gone_at a (inl h) =
      rw (rd_in n PE (hang n s i p) i (pe_in n i a), hang_in n s i p a)
      (ap nat (get_or-set_same s (place n PE i) (coded p) (pos 0) h) ∙ no_number p)
  gone_at a (inr h) =
      rw (rd_in n PE (hang n s i p) i (pe_in n i a), hang_in n s i p a, set_out s (place n PE i) (coded p) h)
      (ap nat (get_or-eq_default s (pos 0) h))

  gone_by : (i < n) ⊎ (n ≤ i) → rd n PE (hang n s i p) i ≡ 0
  gone_by (inl a) = gone_at a (split (place n PE i) (length s))
  gone_by (inr a) = rd_null n PE (hang n s i p) i (omega arith) a

  -- the place of its list is no more
  pub rd_hang_gone : rd n PE (hang n s i p) i ≡ 0
  rd_hang_gone = gone_by (split i n)

pub hang_hang : (n : ℕ) (s : List ℤ) (i : ℕ) (p q : Option ℕ) → hang n (hang n s i p) i q ≡ hang n s i q
hang_hang n s i p q = go (split i n)
  where
    go : (i < n) ⊎ (n ≤ i) → hang n (hang n s i p) i q ≡ hang n s i q
    go (inl a) =
        rw (hang_in n (hang n s i p) i q a, hang_in n s i p a, hang_in n s i q a) (set-set s (place n PE i) (coded p) (coded q))
    go (inr a) = rw (hang_null n (hang n s i p) i q a, hang_null n s i p a, hang_null n s i q a)

-- ---- after a number was stored

module _ (n f : ℕ) (s : List ℤ) (i v : ℕ) where
  up_by : (j : ℕ) → (f ≡ PE → i ≡ j → ⊥) → (b : Bool) → within n f i ≡ b → (j < n) ⊎ (n ≤ j) → parent n (up n f s i v) j ≡ parent n s j
  unfolding wr
  up_by j d false h k = rw (up_out n f s i v h)
  up_by j d true h (inr k) = parent_null n (up n f s i v) j k ∙ sym (parent_null n s j k)
  up_by j d true h (inl k) =
      rw (parent_in n (up n f s i v) j k, parent_in n s j k, up_in n f s i v h)
      (ap decoded (get_or-set_other s (place n f i) (place n PE j) (pos v) (pos 0) (places_differ n f PE i j h (pe_in n j k) d)))

  pub parent_up_other : (j : ℕ) → (f ≡ PE → i ≡ j → ⊥) → parent n (up n f s i v) j ≡ parent n s j
  parent_up_other j d = up_by j d (within n f i) refl (split j n)

module _ (n : ℕ) (s : List ℤ) (i v : ℕ) where
  none_at : i < n → (place n PE i < length s) ⊎ (length s ≤ place n PE i) → parent n (up n PE s i v) i ≡ none
  unfolding wr
  none_at a (inl h) =
      rw (parent_in n (up n PE s i v) i a, up_in n PE s i v (pe_in n i a)) (ap decoded (get_or-set_same s (place n PE i) (pos v) (pos 0) h))
  none_at a (inr h) =
      rw (parent_in n (up n PE s i v) i a, up_in n PE s i v (pe_in n i a), set_out s (place n PE i) (pos v) h)
      (ap decoded (get_or-eq_default s (pos 0) h))

  none_by : (i < n) ⊎ (n ≤ i) → parent n (up n PE s i v) i ≡ none
  none_by (inl a) = none_at a (split (place n PE i) (length s))
  none_by (inr a) = parent_null n (up n PE s i v) i a

  -- an object with a list has no parent
  pub parent_up_gone : parent n (up n PE s i v) i ≡ none
  parent_up_gone = none_by (split i n)

-- a number and a parent, in either order
module _ (n f : ℕ) (s : List ℤ) (i v j : ℕ) (p : Option ℕ) (d : f ≡ PE → i ≡ j → ⊥) where
  comm_by : (b : Bool) → within n f i ≡ b → (j < n) ⊎ (n ≤ j) → hang n (up n f s i v) j p ≡ up n f (hang n s j p) i v
  unfolding wr
  comm_by false h k = rw (up_out n f s i v h, up_out n f (hang n s j p) i v h)
  comm_by true h (inr k) = rw (hang_null n s j p k, hang_null n (up n f s i v) j p k)
  comm_by true h (inl k) =
      rw (up_in n f (hang n s j p) i v h, hang_in n (up n f s i v) j p k, up_in n f s i v h, hang_in n s j p k)
      (set_comm s (place n f i) (place n PE j) (pos v) (coded p) (λ e. places_differ n f PE i j h (pe_in n j k) d (sym e)))

  pub hang_up_comm : hang n (up n f s i v) j p ≡ up n f (hang n s j p) i v
  hang_up_comm = comm_by (within n f i) refl (split j n)
