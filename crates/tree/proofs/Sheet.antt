-- The two outputs while they are written: the first places have their rows, and those rows their places.
-- Assumes nothing.
use Prim.Native.Nat.{ℕ, suc, ◌<◌}
use native.Mathlib.Omega.{arith}
use native.Mathlib.Nat.{zero-add}
use mathlib.Core.Path.{◌≡◌, sym, ◌∙◌}
use mathlib.Core.Logic.{◌⊎◌, inl, inr}
use mathlib.Core.Bool.{false}
use mathlib.Core.List.{List, [], ◌∷◌, ◌++◌, map}
use lib.ListN.{length, get_or, length-append, get_or-append}
use lib.IntN.{ℤ, pos}
use lib.Seq.{get_or-append_seam}
use lib.Dec.{ltb}
use borrow.Author.Tests.{lt-ltb, ltb-true, ltb-false}
use Rattle.plain.proofs.Logic.{either}
use Rattle.plain.proofs.Members.{apart}
use Rattle.plain.proofs.Permutations.{at_position_of, position_below}
use Rattle.plain.proofs.Positions.{get_or_counted, length_counted, member_get_or}
use Rattle.plain.specs.Lists.{member, position, up_to}
use Rattle.plain.specs.Permutations.{Permutation}
use Rattle.definition.specs.Ordering.{inverse_of}
use Rattle.cells.proofs.Slices.{length_wr}
use Rattle.cells.proofs.Whole.{holds_wr_same, holds_wr_other, written}
use Rattle.cells.specs.View.{wr, Holds}
use Rattle.tree.specs.Model.{Sheets, placed}

pub record Sheet (n : ℕ) (out : List ℕ) (o : Sheets) : Type 0 where
  pub long : length o.permutation ≡ n
  pub wide : length o.inverse ≡ n
  pub row : (k : ℕ) → k < length out → Holds o.permutation k (get_or out k 0)
  pub place : (k : ℕ) → k < length out → Holds o.inverse (get_or out k 0) k

last_or : (k m : ℕ) → k < suc m → (k < m) ⊎ (k ≡ m)
last_or k m h = either ((k < m) ⊎ (k ≡ m)) (ltb k m) (λ t. inl (ltb-true k m t)) (λ t. let a = ltb-false k m t in inr (omega arith))

module _ (n v : ℕ) (out : List ℕ) (o : Sheets) (h : Sheet n out o) (room : length out < n) (lv : v < n) (new : member v out ≡ false) where
  abbrev P : List ℤ
  P = wr o.permutation (length out) v

  abbrev I : List ℤ
  I = wr o.inverse v (length out)

  early : (k : ℕ) → k < length out → get_or (out ++ (v ∷ [])) k 0 ≡ get_or out k 0
  early k l = get_or-append out (v ∷ []) 0 k l

  late : get_or (out ++ (v ∷ [])) (length out) 0 ≡ v
  late = get_or-append_seam out v [] 0

  rows : (k : ℕ) → (k < length out) ⊎ (k ≡ length out) → Holds P k (get_or (out ++ (v ∷ [])) k 0)
  rows k (inl l) = rw (early k l) (holds_wr_other o.permutation (length out) v k (get_or out k 0) (λ e. omega arith) (h.row k l))
  rows k (inr e) = rw (e, late) (holds_wr_same o.permutation (length out) v (omega (arith, h.long)))

  places : (k : ℕ) → (k < length out) ⊎ (k ≡ length out) → Holds I (get_or (out ++ (v ∷ [])) k 0) k
  places k (inl l) = rw (early k l) (holds_wr_other o.inverse v (length out) (get_or out k 0) k (λ e. apart v (get_or out k 0) out new (member_get_or out k l) (sym e)) (h.place k l))
  places k (inr e) = rw (e, late) (holds_wr_same o.inverse v (length out) (omega (arith, h.wide)))

  pub sheet_more : Sheet n (out ++ (v ∷ [])) (placed n (length out) v o)
  unfolding placed
  sheet_more =
      rw (lt-ltb (length out) n room, lt-ltb v n lv) (record {
        long = length_wr o.permutation (length out) v ∙ h.long;
        wide = length_wr o.inverse v (length out) ∙ h.wide;
        row = λ k l. rows k (last_or k (length out) (omega (arith, length-append out (v ∷ []))));
        place = λ k l. places k (last_or k (length out) (omega (arith, length-append out (v ∷ []))));
      })

-- all of a permutation written
pub sheet_rows : (n : ℕ) (out : List ℕ) (o : Sheets) → Sheet n out o → Permutation n out → o.permutation ≡ map pos out
sheet_rows n out o h p = written o.permutation out (h.long ∙ sym p.size) (λ i l. h.row i (omega (arith, h.long, p.size)))

pub sheet_places : (n : ℕ) (out : List ℕ) (o : Sheets) → Sheet n out o → Permutation n out → o.inverse ≡ map pos (inverse_of out)
unfolding inverse_of
sheet_places n out o h p =
    written o.inverse (map (λ v. position v out) (up_to (length out))) (h.wide ∙ sym p.size ∙ sym (length_counted (λ v. position v out) 0 (length out))) (λ i l. at i (omega (arith, h.wide)))
  where
    at : (i : ℕ) → i < n → Holds o.inverse i (get_or (map (λ v. position v out) (up_to (length out))) i 0)
    at i l =
        let k = position_below n out p i l in
        rw (get_or_counted (λ v. position v out) 0 0 (length out) i (omega (arith, p.size)), zero-add) (rw (at_position_of n out p i l) at (h.place (position i out) (omega (arith, p.size))))
