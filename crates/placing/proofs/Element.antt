-- The pivot's row as an element in the memory: what is stored, and what is as before.
-- Assumes nothing.
use Prim.Native.Nat.{ℕ, ◌≤◌, ◌<◌}
use native.Mathlib.Omega.{arith}
use mathlib.Core.Path.{◌≡◌, refl}
use mathlib.Core.Logic.{◌≢◌}
use mathlib.Core.Bool.{false}
use mathlib.Core.List.{List}
use mathlib.Core.Option.{none}
use borrow.Author.Tests.{lt-ltb, le-ltb, ltb-false}
use lib.Dec.{eqb, ltb}
use lib.IntN.{ℤ}
use Rattle.plain.proofs.Logic.{cond_has}
use Rattle.plain.specs.Lists.{member}
use Rattle.cells.proofs.Laws.{mem, room_yes}
use Rattle.cells.proofs.Parents.{named_none}
use Rattle.cells.specs.Layout.{LEN, ELEN, DEGREE, W, PE, NV}
use Rattle.cells.specs.Links.{named, parent}
use Rattle.cells.specs.View.{Room, rd, up, plus}
use Rattle.chain.proofs.Frame.{chained_up, chained_hang, chained_degree}
use Rattle.chain.specs.Chained.{Chained}
use Rattle.packed.proofs.Spaces.{space_field, space_hung}
use Rattle.packed.specs.Places.{Space}
use Rattle.placing.specs.Model.{sealed, marked, finished}

-- ---- the stores of the element

module _ (n : ℕ) (s : List ℤ) (p size count : ℕ) where
  -- every field but these five
  pub finished_field : (f j : ℕ) → eqb LEN f ≡ false → eqb DEGREE f ≡ false → eqb ELEN f ≡ false → eqb W f ≡ false → eqb PE f ≡ false
      → rd n f (finished n s p size count) j ≡ rd n f s j
  unfolding finished marked sealed
  finished_field f j a b c d e = cond_has (λ (m : List ℤ). rd n f m j ≡ rd n f s j) (ltb 0 count) (λ x. simp (mem, a, b, c, d)) (λ x. simp (mem, a, b, c, d, e))

  -- every row but p
  pub finished_other : (f j : ℕ) → j ≢ p → rd n f (finished n s p size count) j ≡ rd n f s j
  unfolding finished marked sealed
  finished_other f j ne = cond_has (λ (m : List ℤ). rd n f m j ≡ rd n f s j) (ltb 0 count) (λ x. simp mem) (λ x. simp mem)

  pub finished_parent_other : (j : ℕ) → j ≢ p → parent n (finished n s p size count) j ≡ parent n s j
  unfolding finished marked sealed
  finished_parent_other j ne = cond_has (λ (m : List ℤ). parent n m j ≡ parent n s j) (ltb 0 count) (λ x. simp mem) (λ x. simp mem)

  module _ (room : Room n s) (hp : p < n) where
    pub finished_length : rd n LEN (finished n s p size count) p ≡ count
    unfolding finished marked sealed
    finished_length =
        cond_has (λ (m : List ℤ). rd n LEN m p ≡ count) (ltb 0 count) (λ x. simp (mem, room_yes n s room, lt-ltb p n hp)) (λ x. simp (mem, room_yes n s room, lt-ltb p n hp))

    pub finished_degree : rd n DEGREE (finished n s p size count) p ≡ size
    unfolding finished marked sealed
    finished_degree =
        cond_has (λ (m : List ℤ). rd n DEGREE m p ≡ size) (ltb 0 count) (λ x. simp (mem, room_yes n s room, lt-ltb p n hp)) (λ x. simp (mem, room_yes n s room, lt-ltb p n hp))

    -- the element's size, its pivots and its remaining weight
    pub finished_size : rd n ELEN (finished n s p size count) p ≡ plus (rd n NV s p) size
    unfolding finished marked sealed
    finished_size =
        cond_has (λ (m : List ℤ). rd n ELEN m p ≡ plus (rd n NV s p) size) (ltb 0 count) (λ x. simp (mem, room_yes n s room, lt-ltb p n hp))
        (λ x. simp (mem, room_yes n s room, lt-ltb p n hp))

    pub finished_there : 0 < count → rd n W (finished n s p size count) p ≡ 1
    unfolding finished marked sealed
    finished_there h = rw (lt-ltb 0 count h) (simp (mem, room_yes n s room, lt-ltb p n hp))

    pub finished_gone : count ≤ 0 → rd n W (finished n s p size count) p ≡ 0
    unfolding finished marked sealed
    finished_gone h = rw (le-ltb 0 count h) (simp (mem, room_yes n s room, lt-ltb p n hp))

    -- its list stays where it is
    pub finished_place : 0 < count → rd n PE (finished n s p size count) p ≡ rd n PE s p
    unfolding finished marked sealed
    finished_place h = rw (lt-ltb 0 count h) (simp mem)

    pub finished_orphan : count ≤ 0 → parent n (finished n s p size count) p ≡ none
    unfolding finished marked sealed
    finished_orphan h = rw (le-ltb 0 count h, named_none n n (omega arith)) (simp (mem, room_yes n s room, lt-ltb p n hp))

  -- the degree lists, in none of which p stands
  pub finished_chained : (L : ℕ → List ℕ) → Chained n s L → ((e : ℕ) → e < n → member p (L e) ≡ false) → Chained n (finished n s p size count) L
  unfolding finished marked sealed
  finished_chained L h out =
      let a = chained_up n s L h LEN p count refl refl refl refl in
      let b = chained_degree n (up n LEN s p count) L a p size out in
      let c = chained_up n (up n DEGREE (up n LEN s p count) p size) L b ELEN p (plus (rd n NV s p) size) refl refl refl refl in
      let t = up n ELEN (up n DEGREE (up n LEN s p count) p size) p (plus (rd n NV s p) size) in
      cond_has (λ (m : List ℤ). Chained n m L) (ltb 0 count)
      (λ x. chained_up n t L c W p 1 refl refl refl refl)
      (λ x. chained_hang n (up n W t p 0) L (chained_up n t L c W p 0 refl refl refl refl) p (named n n))

  -- the lists of the space, where the element's is stored already
  pub finished_space : (X : ℕ → List ℕ) (l : List ℤ) (cnt base lim : ℕ) → Room n s → p < n → Space n X l (up n LEN s p count) cnt base lim
      → Space n X l (finished n s p size count) cnt base lim
  unfolding finished marked sealed
  finished_space X l cnt base lim room hp h =
      let b = space_field n X l (up n LEN s p count) cnt base lim h DEGREE p size refl refl refl in
      let c = space_field n X l (up n DEGREE (up n LEN s p count) p size) cnt base lim b ELEN p (plus (rd n NV s p) size) refl refl refl in
      let t = up n ELEN (up n DEGREE (up n LEN s p count) p size) p (plus (rd n NV s p) size) in
      cond_has (λ (m : List ℤ). Space n X l m cnt base lim) (ltb 0 count)
      (λ x. space_field n X l t cnt base lim c W p 1 refl refl refl)
      (λ x.
      let z : rd n LEN (up n W t p 0) p ≡ count = simp (mem, room_yes n s room, lt-ltb p n hp) in
      space_hung n X l (up n W t p 0) cnt base lim (space_field n X l t cnt base lim c W p 0 refl refl refl) p (omega (arith, z, ltb-false 0 count x)) (named n n))
