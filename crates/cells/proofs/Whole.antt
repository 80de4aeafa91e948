-- Slices whose cells are not negative: there a cell is its number, a part of it is its entries, and a slice that was written all over is what was written.
-- Assumes nothing.
use Prim.Native.Nat.{ℕ, zero, suc, ◌+◌, ◌<◌, ◌≤◌}
use native.Mathlib.Omega.{arith}
use native.Mathlib.Nat.{add-zero, add-suc, suc-add}
use mathlib.Core.Path.{◌≡◌, refl, sym, ap, ◌∙◌}
use mathlib.Core.Logic.{◌≢◌}
use mathlib.Core.Bool.{Bool, true, false, true≢false}
use mathlib.Core.List.{List, [], ◌∷◌, map}
use lib.IntN.{ℤ, pos, negsuc, nat_abs}
use lib.Signed.{lt_z}
use lib.ListN.{length, get_or}
use lib.Seq.{get_or-set_same, get_or-set_other, ext_get_or, slice, slice_empty, slice-cons}
use Rattle.plain.specs.Turns.{entries}
use Rattle.cells.specs.View.{nat, at, wr, negative, Holds}

not_negative : (z : ℤ) → lt_z z (pos 0) ≡ false → z ≡ pos (nat z)
not_negative (pos k) e = refl
not_negative (negsuc k) e = absurd (let z : ◌≡◌ {A = Bool} true false = e in true≢false z)

pub holds_of : (l : List ℤ) (i : ℕ) → negative l i ≡ false → Holds l i (at l i)
unfolding negative at
holds_of l i e = record { is = not_negative (get_or l i (pos 0)) e }

module _ (l : List ℤ) (i v : ℕ) where
  pub holds_at : Holds l i v → at l i ≡ v
  unfolding at
  holds_at h = ap nat h.is

  -- as the definition reads a cell
  pub holds_abs : Holds l i v → nat_abs (get_or l i (pos 0)) ≡ v
  holds_abs h = ap nat_abs h.is

  pub holds_wr_same : i < length l → Holds (wr l i v) i v
  unfolding wr
  holds_wr_same h = record { is = get_or-set_same l i (pos v) (pos 0) h }

  pub holds_wr_other : (j u : ℕ) → j ≢ i → Holds l j u → Holds (wr l i v) j u
  unfolding wr
  holds_wr_other j u d h = record { is = get_or-set_other l i j (pos v) (pos 0) d ∙ h.is }

-- ---- the whole slice

length_pos : (xs : List ℕ) → length (map pos xs) ≡ length xs
length_pos [] = refl
length_pos (x ∷ xs) = ap suc (length_pos xs)

get_or_pos : (xs : List ℕ) (i : ℕ) → get_or (map pos xs) i (pos 0) ≡ pos (get_or xs i 0)
get_or_pos [] i = refl
get_or_pos (x ∷ xs) zero = refl
get_or_pos (x ∷ xs) (suc i) = get_or_pos xs i

pub written : (l : List ℤ) (xs : List ℕ) → length l ≡ length xs → ((i : ℕ) → i < length l → Holds l i (get_or xs i 0)) → l ≡ map pos xs
written l xs e h = ext_get_or (pos 0) l (map pos xs) (e ∙ sym (length_pos xs)) (λ i b. (h i b).is ∙ sym (get_or_pos xs i))

-- ---- a part, as the definition takes it

pub sliced : (l : List ℤ) (p k q : ℕ) → q ≡ p + k → q ≤ length l → ((t : ℕ) → t < k → Holds l (p + t) (at l (p + t)))
    → map nat_abs (slice p q l) ≡ entries (at l) p k
unfolding entries
sliced l p zero q e b h =
    let d : q ≡ p = omega arith in
    rw d (ap (map nat_abs) (slice_empty p l))
sliced l p (suc k) q e b h =
    let z : p + 0 ≡ p = add-zero p in
    let first : Holds l p (at l p) = rw z at (h 0 (omega arith)) in
    let next : (t : ℕ) → t < k → Holds l (suc p + t) (at l (suc p + t)) = λ t u. simp suc-add (simp add-suc at (h (suc t) (omega arith))) in
    rw (slice-cons p q l (pos 0) (omega arith) b, holds_abs l p (at l p) first, sliced l (suc p) k q (omega arith) b next)
