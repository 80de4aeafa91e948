-- The walk's whole order is the definition's permutation: each element's tree, with the block of each of its elements, then the dense rows.
-- Assumes nothing.
use Prim.Native.Nat.{ℕ, zero, suc, ◌<◌}
use native.Mathlib.Omega.{arith}
use mathlib.Core.Path.{◌≡◌, refl, sym, ap, ◌∙◌, subst}
use mathlib.Core.Bool.{false, ◌&&◌, cond}
use mathlib.Core.List.{List, [], ◌∷◌, ◌++◌, flat_map, append_assoc, append-nil}
use lib.Dec.{eqb}
use borrow.Author.Tests.{lt-ltb, le-ltb, eqb-true}
use Rattle.plain.proofs.Folds.{flat_map_append}
use Rattle.plain.proofs.Logic.{and_left, and_right}
use Rattle.plain.proofs.Members.{kept_both, member_here, up_to_below}
use Rattle.plain.specs.Lists.{up_to}
use Rattle.plain.specs.Members.{In}
use Rattle.plain.specs.Permutations.{Permutation}
use Rattle.definition.specs.State.{Graph, Kind, variable, merged, element, dense, row_count, kind, rep, is_element, is_merged, dense_rows}
use Rattle.definition.specs.Tree.{size_of, children_of, roots, big_last, post_tree, postorder}
use Rattle.definition.specs.Ordering.{merged_with, block_of, permutation_of}
use Rattle.facts.proofs.Chains.{Grown, Placed}
use Rattle.facts.proofs.Family.{Child, children_in, in_big_last, roots_in, dense_in, is_merged_lem}
use Rattle.facts.proofs.Permuted.{perm_length, perm_inside, perm_distinct}
use Rattle.tree.specs.Final.{Ended}
use Rattle.plain.proofs.Parts.{flat_map_same, flat_map_flat_map, flat_map_one}
use Rattle.tree.proofs.Prepared.{kin}

nobody : (xs : List ℕ) → ((x : ℕ) → In x xs → ⊥) → xs ≡ []
nobody [] h = refl
nobody (x ∷ xs) h = absurd (h x (member_here x xs))

other_merged : {k : Kind} → k ≡ merged → k ≡ element → ⊥
other_merged p q = let z : ◌≡◌ {A = ℕ} 0 1 = cc in omega arith

other_dense : {k : Kind} → k ≡ dense → k ≡ element → ⊥
other_dense p q = let z : ◌≡◌ {A = ℕ} 0 1 = cc in omega arith

module _ (n : ℕ) (g : Graph) (rank : ℕ → ℕ) (end : Ended n g rank) where
  abbrev kids : ℕ → List ℕ
  kids e = big_last (size_of g) (children_of g e)

  kid_of : (e c : ℕ) → In c (kids e) → Child g e c
  kid_of e c i = children_in g e c (in_big_last (size_of g) c (children_of g e) i)

  inside : (e c : ℕ) → Child g e c → c < n
  inside e c k = omega (arith, k.inside, end.rows)

  kid_rank : (e c : ℕ) → In c (kids e) → rank c < rank e
  kid_rank e c i = let k = kid_of e c i in (end.above c e (inside e c k) k.made k.below).2

  -- a tree is as high as its rank allows, and more height changes nothing
  more_height : (k e : ℕ) → rank e < k → post_tree (suc k) g e ≡ post_tree k g e
  unfolding post_tree
  more_height zero e h = absurd (omega arith)
  more_height (suc k) e h =
      ap (λ (l : List ℕ). l ++ (e ∷ [])) (flat_map_same (λ c. post_tree (suc k) g c) (λ c. post_tree k g c) (kids e) (λ c i. more_height k c (omega (arith, kid_rank e c i))))

  tree_is : (e : ℕ) → e < n → kind g e ≡ element → post_tree n g e ≡ flat_map (λ c. post_tree n g c) (kids e) ++ (e ∷ [])
  unfolding post_tree
  tree_is e l x = sym (more_height n e (end.bounded e l x))

  -- ---- the rows of a tree, with their blocks

  unfoldable pub full : ℕ → List ℕ
  full v = cond (is_element (kind g v)) (flat_map (block_of g) (post_tree n g v)) (v ∷ [])

  full_element : (v : ℕ) → kind g v ≡ element → full v ≡ flat_map (block_of g) (post_tree n g v)
  unfolding full
  full_element v x = rw x

  full_other : (v : ℕ) → is_element (kind g v) ≡ false → full v ≡ v ∷ []
  unfolding full
  full_other v x = rw x

  merged_in : (e v : ℕ) → In v (merged_with g e) → (v < n) × (kind g v ≡ merged) × (e ≡ rep g v)
  unfolding merged_with
  merged_in e v i =
      let k = kept_both v (λ x. is_merged (kind g x) && eqb e (rep g x)) (up_to (row_count g)) i in (
        subst (λ (m : ℕ). v < m) end.rows (up_to_below v (row_count g) k.1),
        is_merged_lem (kind g v) (and_left (is_merged (kind g v)) (eqb e (rep g v)) k.0),
        eqb-true e (rep g v) (and_right (is_merged (kind g v)) (eqb e (rep g v)) k.0),
      )

  full_merged : (e : ℕ) → flat_map full (merged_with g e) ≡ merged_with g e
  full_merged e = flat_map_same full (λ v. v ∷ []) (merged_with g e) (λ v i. full_other v (ap is_element (merged_in e v i).1)) ∙ flat_map_one (merged_with g e)

  full_dense : flat_map full (dense_rows g) ≡ dense_rows g
  full_dense = flat_map_same full (λ v. v ∷ []) (dense_rows g) (λ v i. full_other v (ap is_element (dense_in g v i).1)) ∙ flat_map_one (dense_rows g)

  kin_row : (v : ℕ) → v < n → kin n g v ≡ kids v ++ merged_with g v
  unfolding kin
  kin_row v l = rw (lt-ltb v n l)

  kin_none : kin n g n ≡ roots g ++ dense_rows g
  unfolding kin
  kin_none = rw (le-ltb n n (omega arith))

  block_is : (v : ℕ) → flat_map (block_of g) (v ∷ []) ≡ merged_with g v ++ (v ∷ [])
  unfolding flat_map block_of
  block_is v = append-nil (merged_with g v ++ (v ∷ []))

  -- an element: its children's trees, its merged rows, itself
  grown_element : (v : ℕ) → v < n → kind g v ≡ element → full v ≡ flat_map full (kin n g v) ++ (v ∷ [])
  grown_element v l x =
      full_element v x ∙ ap (flat_map (block_of g)) (tree_is v l x) ∙ flat_map_append (block_of g) (flat_map (λ c. post_tree n g c) (kids v)) (v ∷ [])
      ∙ ap (λ (z : List ℕ). z ++ flat_map (block_of g) (v ∷ [])) (flat_map_flat_map (block_of g) (λ c. post_tree n g c) (kids v) ∙ sym trees) ∙ ap (λ (z : List ℕ). flat_map full (kids v) ++ z) block_one
      ∙ sym (append_assoc (flat_map full (kids v)) (merged_with g v) (v ∷ [])) ∙ ap (λ (z : List ℕ). (flat_map full (kids v) ++ z) ++ (v ∷ [])) (sym (full_merged v))
      ∙ ap (λ (z : List ℕ). z ++ (v ∷ [])) (sym (flat_map_append full (kids v) (merged_with g v)) ∙ ap (flat_map full) (sym (kin_row v l)))
    where
      trees : flat_map full (kids v) ≡ flat_map (λ c. flat_map (block_of g) (post_tree n g c)) (kids v)
      trees = flat_map_same full (λ c. flat_map (block_of g) (post_tree n g c)) (kids v) (λ c i. full_element c (kid_of v c i).made)

      block_one : flat_map (block_of g) (v ∷ []) ≡ merged_with g v ++ (v ∷ [])
      block_one = block_is v

  -- any other row has nothing under it
  grown_other : (v : ℕ) → v < n → (kind g v ≡ element → ⊥) → is_element (kind g v) ≡ false → full v ≡ flat_map full (kin n g v) ++ (v ∷ [])
  unfolding flat_map
  grown_other v l no_element x = full_other v x ∙ ap (λ (z : List ℕ). z ++ (v ∷ [])) (sym bare)
    where
      kids_none : kids v ≡ []
      kids_none = nobody (kids v) (λ c i. no_element (let k = kid_of v c i in (end.above c v (inside v c k) k.made k.below).1))

      merged_none : merged_with g v ≡ []
      merged_none = nobody (merged_with g v) (λ c i. no_element (let m = merged_in v c i in subst (λ (z : ℕ). kind g z ≡ element) (sym m.2) (end.owner c m.0 m.1).1))

      bare : flat_map full (kin n g v) ≡ []
      bare = rw (kin_row v l, kids_none, merged_none)

  pub grown : (v : ℕ) → v < n → full v ≡ flat_map full (kin n g v) ++ (v ∷ [])
  grown v l = by_kind (kind g v) refl
    where
      by_kind : (k : Kind) → kind g v ≡ k → full v ≡ flat_map full (kin n g v) ++ (v ∷ [])
      by_kind variable x = absurd (end.idle v l x)
      by_kind merged x = grown_other v l (λ y. other_merged x y) (ap is_element x)
      by_kind element x = grown_element v l x
      by_kind dense x = grown_other v l (λ y. other_dense x y) (ap is_element x)

  -- ---- all trees, then the dense rows

  pub whole_is : flat_map full (kin n g n) ≡ permutation_of g
  unfolding permutation_of postorder
  whole_is =
      ap (flat_map full) kin_none ∙ flat_map_append full (roots g) (dense_rows g) ∙ ap (λ (z : List ℕ). flat_map full (roots g) ++ z) full_dense
      ∙ ap (λ (z : List ℕ). z ++ dense_rows g) (trees ∙ sym (flat_map_flat_map (block_of g) (post_tree n g) (roots g)) ∙ ap (λ (m : ℕ). flat_map (block_of g) (flat_map (post_tree m g) (roots g))) (sym end.rows))
    where
      trees : flat_map full (roots g) ≡ flat_map (λ c. flat_map (block_of g) (post_tree n g c)) (roots g)
      trees = flat_map_same full (λ c. flat_map (block_of g) (post_tree n g c)) (roots g) (λ c i. full_element c (roots_in g c i).1)

  -- ---- it is a permutation

  low : (v : ℕ) → v < row_count g → v < n
  low v l = subst (λ (m : ℕ). v < m) end.rows l

  high : (v : ℕ) → v < n → v < row_count g
  high v l = subst (λ (m : ℕ). v < m) (sym end.rows) l

  forest : Grown g rank
  forest = record {
    above = λ e p l x r. let a = end.above e p (low e l) x r in (high p a.0, a.1, a.2);
    bounded = λ e l x. high (rank e) (end.bounded e (low e l) x);
  }

  placed : Placed g
  placed = record { idle = λ v l x. end.idle v (low v l) x; owner = λ v l x. let o = end.owner v (low v l) x in (high (rep g v) o.0, o.1) }

  pub whole_permutation : Permutation n (permutation_of g)
  whole_permutation = record {
    size = perm_length g rank forest placed ∙ end.rows;
    below = λ x i. low x (perm_inside g rank forest placed x i);
    once = perm_distinct g rank forest placed;
  }
