-- The plan's block facts: the rows of an element stand together, the element's own row last, and a child's rows before its parent's.
-- Assumes nothing.
use Prim.Native.Nat.{ℕ, ◌<◌}
use native.Mathlib.Omega.{arith}
use mathlib.Core.Path.{◌≡◌, refl, sym, ap, ◌∙◌, subst}
use mathlib.Core.Logic.{◌≢◌}
use mathlib.Core.Bool.{◌&&◌}
use mathlib.Core.List.{List, [], ◌∷◌, ◌++◌, flat_map}
use mathlib.Core.Option.{some}
use lib.Dec.{eqb, ltb}
use lib.ListN.{get_or}
use borrow.Author.Tests.{eqb-true, eqb-false, ltb-true, ltb-false}
use Rattle.plain.proofs.Logic.{or_elim, and_left, either}
use Rattle.plain.proofs.Members.{member_first, member_there, member_either, append_either, no_member, kept_both, member_joined}
use Rattle.plain.proofs.Positions.{position_left, position_right, position_is}
use Rattle.plain.specs.Lists.{position, up_to}
use Rattle.plain.specs.Members.{In}
use Rattle.definition.specs.State.{State, Kind, merged, element, row_count, kind, parent, rep, is_merged, dense_rows}
use Rattle.definition.specs.Tree.{postorder}
use Rattle.definition.specs.Ordering.{merged_with, block_of, permutation_of}
use Rattle.facts.specs.Past.{an_element}
use Rattle.facts.proofs.Family.{is_merged_lem, own_in}
use Rattle.fill.proofs.Ended.{Ended, owner}
use Rattle.fill.proofs.Standing.{Ordered, dense_or, place, blocks, in_block, owner_in, in_blocks, block_owner, dense_last, earlier}
use Rattle.fill.proofs.System.{parent_turn}

-- two entries of the list of e, which stand in no other
list_order : (f : ℕ → List ℕ) (u w e : ℕ) (xs : List ℕ) → ((x : ℕ) → In x xs → In u (f x) → x ≡ e) → ((x : ℕ) → In x xs → In w (f x) → x ≡ e)
    → In u (f e) → In w (f e) → In e xs → position u (f e) < position w (f e) → position u (flat_map f xs) < position w (flat_map f xs)
unfolding flat_map
list_order f u w e [] hu hw i j k l = no_member e k
list_order f u w e (x ∷ xs) hu hw i j k l =
    either (position u (f x ++ flat_map f xs) < position w (f x ++ flat_map f xs)) (eqb e x)
    (λ t. let q : e ≡ x = eqb-true e x t in
    let a = position_left u (f e) (flat_map f xs) i in
    let b = position_left w (f e) (flat_map f xs) j in
    subst (λ (z : ℕ). position u (f z ++ flat_map f xs) < position w (f z ++ flat_map f xs)) q (omega arith))
    (λ t. let q : e ≢ x = eqb-false e x t in
    omega (
      arith,
      position_right u (f x) (flat_map f xs) (λ m. q (sym (hu x (member_first x x xs refl) m))),
      position_right w (f x) (flat_map f xs) (λ m. q (sym (hw x (member_first x x xs refl) m))),
      list_order f u w e xs (λ y m. hu y (member_there y x xs m)) (λ y m. hw y (member_there y x xs m)) i j
          (or_elim (In e xs) (member_either e x xs k) (λ r. absurd (q r)) (λ r. r)) l,
    ))

clash : {k : Kind} → k ≡ element → k ≡ merged → ⊥
clash p q = let z : ◌≡◌ {A = ℕ} 0 1 = cc in omega arith

module _ (s : State) (fronts nbrs : List (List ℕ)) (end : Ended s fronts nbrs) where
  -- what stands between two rows of an element belongs to it
  pub contiguous : (u v w : ℕ) → u < row_count s.graph → v < row_count s.graph → w < row_count s.graph → Ordered s u → Ordered s w
      → rep s.graph u ≡ rep s.graph w → place s fronts nbrs end u < place s fronts nbrs end v → place s fronts nbrs end v < place s fronts nbrs end w
      → Ordered s v × (rep s.graph v ≡ rep s.graph u)
  contiguous u v w i j k o p e l m =
      or_elim _ (dense_or s v) (λ d. absurd (let a = dense_last s fronts nbrs end w v k p d in omega arith)) (λ q. (q, go q))
    where
      go : Ordered s v → rep s.graph v ≡ rep s.graph u
      go q =
          either (rep s.graph v ≡ rep s.graph u) (ltb (position (rep s.graph v) (postorder s.graph)) (position (rep s.graph u) (postorder s.graph)))
          (λ t. absurd (let a = earlier s fronts nbrs end v u j i q o (ltb-true _ _ t) in omega arith))
          (λ t. either (rep s.graph v ≡ rep s.graph u) (ltb (position (rep s.graph u) (postorder s.graph)) (position (rep s.graph v) (postorder s.graph)))
          (λ r. absurd (let a = earlier s fronts nbrs end w v k j p q (rw e at (ltb-true (position (rep s.graph u) (postorder s.graph)) (position (rep s.graph v) (postorder s.graph)) r)) in omega arith))
          (λ r. let x = (position_is (rep s.graph v) (postorder s.graph) (owner_in s fronts nbrs end v j q)).1 in
          let y = (position_is (rep s.graph u) (postorder s.graph) (owner_in s fronts nbrs end u i o)).1 in
          let z : position (rep s.graph v) (postorder s.graph) ≡ position (rep s.graph u) (postorder s.graph) =
          omega (
            arith,
            ltb-false (position (rep s.graph v) (postorder s.graph)) (position (rep s.graph u) (postorder s.graph)) t,
            ltb-false (position (rep s.graph u) (postorder s.graph)) (position (rep s.graph v) (postorder s.graph)) r,
          ) in
          sym x ∙ ap (λ (b : ℕ). get_or (postorder s.graph) b 0) z ∙ y))

  own_last : (e v : ℕ) → kind s.graph e ≡ element → v ≢ e → In v (block_of s.graph e) → position v (block_of s.graph e) < position e (block_of s.graph e)
  unfolding block_of merged_with
  own_last e v q d h =
      let m : In v (merged_with s.graph e) = or_elim _ (append_either v (merged_with s.graph e) (e ∷ []) h) (λ k. k) (λ k. or_elim _ (member_either v e [] k) (λ t. absurd (d t)) (λ t. no_member v t)) in
      omega (
        arith,
        position_left v (merged_with s.graph e) (e ∷ []) m,
        (position_is v (merged_with s.graph e) m).0,
        position_right e (merged_with s.graph e) (e ∷ [])
            (λ k. clash q (is_merged_lem (kind s.graph e) (and_left (is_merged (kind s.graph e)) (eqb e (rep s.graph e))
            (kept_both e (λ x. is_merged (kind s.graph x) && eqb e (rep s.graph x)) (up_to (row_count s.graph)) k).0))),
      )

  -- the element's own row stands behind the rows that were merged with it
  pub element_last : (v : ℕ) → v < row_count s.graph → Ordered s v → v ≢ rep s.graph v → place s fronts nbrs end v < place s fronts nbrs end (rep s.graph v)
  unfolding permutation_of
  element_last v l o d =
      let w = owner s fronts nbrs end v l o in
      let i = in_block s fronts nbrs end v l o in
      let a : rep s.graph (rep s.graph v) ≡ rep s.graph v = end.h0.own (rep s.graph v) w.0 (an_element w.1) in
      let r = list_order (block_of s.graph) v (rep s.graph v) (rep s.graph v) (postorder s.graph) (λ x. block_owner s fronts nbrs end x v)
      (λ x m k. block_owner s fronts nbrs end x (rep s.graph v) m k ∙ a) i (own_in s.graph (rep s.graph v)) (owner_in s fronts nbrs end v l o)
      (own_last (rep s.graph v) v w.1 d i) in
      omega (
        arith,
        r,
        position_left v (blocks s fronts nbrs end) (dense_rows s.graph) (in_blocks s fronts nbrs end v l o),
        position_left (rep s.graph v) (blocks s fronts nbrs end) (dense_rows s.graph)
            (member_joined (rep s.graph v) (rep s.graph v) (block_of s.graph) (postorder s.graph) (owner_in s fronts nbrs end v l o) (own_in s.graph (rep s.graph v))),
      )

  -- the rows of a child stand before those of its parent
  pub child_rows_first : (u w p : ℕ) → u < row_count s.graph → w < row_count s.graph → Ordered s u → Ordered s w
      → parent s.graph (rep s.graph u) ≡ some p → rep s.graph w ≡ p → place s fronts nbrs end u < place s fronts nbrs end w
  child_rows_first u w p i j o q e r =
      let a = owner s fronts nbrs end u i o in
      earlier s fronts nbrs end u w i j o q (rw r (parent_turn s fronts nbrs end (rep s.graph u) p a.0 a.1 e))
