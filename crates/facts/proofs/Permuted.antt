-- The plan's P1 and P5: the postorder has each element once and nothing else; the permutation has each row once; its inverse is the inverse both ways.
-- Assumes nothing.
use Prim.Native.Nat.{ℕ, zero, suc, ◌+◌, ◌≤◌, ◌<◌}
use native.Mathlib.Omega.{arith}
use mathlib.Core.Path.{◌≡◌, sym, ap, ◌∙◌}
use mathlib.Core.Logic.{inl, inr, ◌⊎◌}
use mathlib.Core.List.{List, [], ◌∷◌, ◌++◌, map, flat_map}
use lib.Dec.{ltb}
use lib.ListN.{length, get_or}
use borrow.Author.Tests.{ltb-true, ltb-false}
use Rattle.plain.proofs.Counting.{count_has, has_count, distinct_of_count}
use Rattle.plain.proofs.Logic.{or_elim, either}
use Rattle.plain.proofs.Members.{up_to_below, member_either, append_either, no_member, member_flat_map}
use Rattle.plain.proofs.Positions.{member_get_or, position_is, position_get_or}
use Rattle.plain.proofs.Repeats.{within_back, length_count_up, distinct_count_up}
use Rattle.plain.proofs.Sums.{total_append, total_one}
use Rattle.plain.specs.Lists.{count_up, up_to, position, total}
use Rattle.plain.specs.Members.{same, Distinct, count, In}
use Rattle.definition.specs.State.{Graph, Kind, merged, element, dense, row_count, kind, dense_rows}
use Rattle.definition.specs.Tree.{children_of, roots, big_last, post_tree, postorder, size_of}
use Rattle.definition.specs.Ordering.{merged_with, block_of, permutation_of, inverse_of}
use Rattle.facts.proofs.Permutation.{permutation_once, permutation_length}
use Rattle.facts.proofs.Family.{children_in, roots_in, in_big_last, dense_in, OfBlock, joined, its_row, block_in}
use Rattle.facts.proofs.Chains.{Grown, Placed, stands}

get_or_map_count_up : (f : ℕ → ℕ) (a k i : ℕ) → i < k → get_or (map f (count_up a k)) i 0 ≡ f (a + i)
unfolding count_up
get_or_map_count_up f a zero i h = absurd (omega arith)
get_or_map_count_up f a (suc k) zero h = let e : a ≡ a + 0 = omega arith in ap f e
get_or_map_count_up f a (suc k) (suc i) h = let e : suc a + i ≡ a + suc i = omega arith in get_or_map_count_up f (suc a) k i (omega arith) ∙ ap f e

clash_element_merged : {k : Kind} → k ≡ element → k ≡ merged → ⊥
clash_element_merged p q = let z : ◌≡◌ {A = ℕ} 0 1 = cc in omega arith

clash_element_dense : {k : Kind} → k ≡ element → k ≡ dense → ⊥
clash_element_dense p q = let z : ◌≡◌ {A = ℕ} 0 1 = cc in omega arith

module _ (g : Graph) where
  -- ---- what stands in the postorder is an element

  tree_made : (k r e : ℕ) → (r < row_count g) × (kind g r ≡ element) → In e (post_tree k g r) → (e < row_count g) × (kind g e ≡ element)
  unfolding post_tree
  tree_made zero r e m h = no_member e h
  tree_made (suc k) r e m h =
      or_elim _ (append_either e (flat_map (λ c. post_tree k g c) (big_last (size_of g) (children_of g r))) (r ∷ []) h)
      (λ q. let i = member_flat_map e (λ c. post_tree k g c) (big_last (size_of g) (children_of g r)) q in
      let c = children_in g r i.0 (in_big_last (size_of g) i.0 (children_of g r) i.1) in
      tree_made k i.0 e (c.inside, c.made) i.2)
      (λ q. or_elim _ (member_either e r [] q) (λ t. rw t m) (λ t. no_member e t))

  pub postorder_made : (e : ℕ) → In e (postorder g) → (e < row_count g) × (kind g e ≡ element)
  unfolding postorder
  postorder_made e h =
      let i = member_flat_map e (post_tree (row_count g) g) (roots g) h in
      tree_made (row_count g) i.0 e (roots_in g i.0 i.1) i.2

  count_blocks : (v : ℕ) (xs : List ℕ) → count v xs ≤ count v (flat_map (block_of g) xs)
  unfolding total flat_map block_of
  count_blocks v [] = omega arith
  count_blocks v (x ∷ xs) =
      omega (
        arith,
        count_blocks v xs,
        total_append (same v) (merged_with g x ++ (x ∷ [])) (flat_map (block_of g) xs),
        total_append (same v) (merged_with g x) (x ∷ []),
        total_one (same v) x,
      )

  count_whole : (v : ℕ) → count v (postorder g) ≤ count v (permutation_of g)
  unfolding permutation_of
  count_whole v = omega (arith, count_blocks v (postorder g), total_append (same v) (flat_map (block_of g) (postorder g)) (dense_rows g))

  -- a row of the permutation stands in the block of an element, or is dense
  pub split : (v : ℕ) → In v (permutation_of g) → (((e : ℕ) × In e (postorder g) × In v (block_of g e)) ⊎ (In v (dense_rows g)))
  unfolding permutation_of
  split v h =
      or_elim _ (append_either v (flat_map (block_of g) (postorder g)) (dense_rows g) h) (λ q. inl (member_flat_map v (block_of g) (postorder g) q)) (λ q. inr q)

  module _ (rank : ℕ → ℕ) (grown : Grown g rank) (placed : Placed g) where
    pub perm_once : (v : ℕ) → v < row_count g → count v (permutation_of g) ≡ 1
    perm_once = permutation_once g (stands g rank grown placed)

    pub perm_length : length (permutation_of g) ≡ row_count g
    perm_length = permutation_length g (stands g rank grown placed)

    pub perm_has : (v : ℕ) → v < row_count g → In v (permutation_of g)
    perm_has v l = count_has v (permutation_of g) (omega (arith, perm_once v l))

    pub perm_inside : (v : ℕ) → In v (permutation_of g) → v < row_count g
    perm_inside v h =
        up_to_below v (row_count g) (within_back (up_to (row_count g)) (permutation_of g) (distinct_count_up 0 (row_count g)) (length_count_up 0 (row_count g) ∙ sym perm_length)
        (λ x k. perm_has x (up_to_below x (row_count g) k)) v h)

    pub perm_distinct : Distinct (permutation_of g)
    perm_distinct =
        distinct_of_count (permutation_of g) (λ v. either (count v (permutation_of g) ≤ 1) (ltb v (row_count g))
        (λ t. omega (arith, perm_once v (ltb-true v (row_count g) t)))
        (λ t. either (count v (permutation_of g) ≤ 1) (ltb 0 (count v (permutation_of g)))
        (λ s. let a : v < row_count g = perm_inside v (count_has v (permutation_of g) (ltb-true 0 _ s)) in omega (arith, ltb-false v (row_count g) t))
        (λ s. omega (arith, ltb-false 0 (count v (permutation_of g)) s))))

    -- P1
    pub postorder_has : (e : ℕ) → e < row_count g → kind g e ≡ element → In e (postorder g)
    postorder_has e l q =
        or_elim _ (split e (perm_has e l)) (λ r. go r.0 r.1 (block_in g r.0 e r.2)) (λ r. absurd (clash_element_dense q (dense_in g e r).1))
      where
        go : (x : ℕ) → In x (postorder g) → OfBlock g x e → In e (postorder g)
        go x i (joined a b c) = absurd (clash_element_merged q b)
        go x i (its_row a) = rw a i

    pub postorder_once : (e : ℕ) → e < row_count g → kind g e ≡ element → count e (postorder g) ≡ 1
    postorder_once e l q = omega (arith, count_whole e, perm_once e l, has_count e (postorder g) (postorder_has e l q))

    pub postorder_distinct : Distinct (postorder g)
    postorder_distinct =
        distinct_of_count (postorder g) (λ v. either (count v (postorder g) ≤ 1) (ltb 0 (count v (postorder g)))
        (λ s. let m = postorder_made v (count_has v (postorder g) (ltb-true 0 _ s)) in omega (arith, postorder_once v m.0 m.1))
        (λ s. omega (arith, ltb-false 0 (count v (postorder g)) s)))

    -- P5
    pub row_at_lem : (k : ℕ) → k < row_count g → (get_or (permutation_of g) k 0 < row_count g) × (position (get_or (permutation_of g) k 0) (permutation_of g) ≡ k)
    row_at_lem k h =
        let i : k < length (permutation_of g) = omega (arith, perm_length) in
        (perm_inside (get_or (permutation_of g) k 0) (member_get_or (permutation_of g) k i), position_get_or (permutation_of g) k perm_distinct i)

    inverse_at : (v : ℕ) → v < row_count g → get_or (inverse_of (permutation_of g)) v 0 ≡ position v (permutation_of g)
    unfolding inverse_of
    inverse_at v l =
        let e : 0 + v ≡ v = omega arith in
        get_or_map_count_up (λ x. position x (permutation_of g)) 0 (length (permutation_of g)) v (omega (arith, perm_length)) ∙ ap (λ (z : ℕ). position z (permutation_of g)) e

    pub inverse_first : (k : ℕ) → k < row_count g → get_or (inverse_of (permutation_of g)) (get_or (permutation_of g) k 0) 0 ≡ k
    inverse_first k h = let r = row_at_lem k h in inverse_at (get_or (permutation_of g) k 0) r.0 ∙ r.1

    pub inverse_then : (v : ℕ) → v < row_count g → get_or (permutation_of g) (get_or (inverse_of (permutation_of g)) v 0) 0 ≡ v
    inverse_then v l = rw (inverse_at v l) (position_is v (permutation_of g) (perm_has v l)).1
