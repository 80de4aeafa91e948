-- The permutation has each row once, where the parents lead each row to a root.
-- Assumes nothing.
use Prim.Native.Nat.{ℕ, zero, suc, ◌+◌, ◌<◌}
use native.Mathlib.Omega.{arith}
use mathlib.Core.Path.{◌≡◌, refl, sym, ap, ◌∙◌}
use mathlib.Core.Bool.{Bool, true, false, cond, not, ◌&&◌}
use mathlib.Core.List.{List, [], ◌∷◌, ◌++◌, flat_map}
use mathlib.Core.Option.{none, some}
use lib.Dec.{eqb, leb}
use lib.ListN.{length}
use Rattle.plain.proofs.Counting.{same_ne, same_comm, length_once, count_kept, all_once, all_up_to, delete_once}
use Rattle.plain.proofs.Folds.{all_append, all_keep, all_imply, all_of, all_flat_map, foldl_keeps, all_kept}
use Rattle.plain.proofs.Logic.{cond_has}
use Rattle.plain.proofs.Sums.{total_append, total_one, total_flat_map, total_add, total_same, total_none}
use Rattle.plain.specs.Lists.{up_to, keep, total, delete, is_none}
use Rattle.plain.specs.Members.{All, same, count}
use Rattle.definition.specs.Ordering.{merged_with, block_of, permutation_of}
use Rattle.definition.specs.State.{Graph, element, merged, dense, kind, parent, rep, is_element, is_merged, is_dense, dense_rows}
use Rattle.definition.specs.Tree.{is_child_of, children_of, roots, biggest, big_last, post_tree, postorder, size_of}

-- ---- the largest child last

has_biggest : (P : ℕ → Type 0) (size : ℕ → ℕ) (b : ℕ) (es : List ℕ) → P b → All P es → P (biggest size b es)
unfolding biggest
has_biggest P size b es h a = foldl_keeps P P (λ a e. cond (leb (size a) (size e)) e a) (λ x e q r. cond_has P (leb (size x) (size e)) (λ t. q) (λ t. r)) es b a h

total_big_last : (f : ℕ → ℕ) (size : ℕ → ℕ) (es : List ℕ) → All (λ x. count x es ≡ 1) es → total f (big_last size es) ≡ total f es
unfolding big_last
total_big_last f size [] a = refl
total_big_last f size (e ∷ es) a =
    let b = biggest size e es in
    let k : count b (e ∷ es) ≡ 1 = has_biggest (λ x. count x (e ∷ es) ≡ 1) size e es a.0 a.1 in
    total_append f (delete b (e ∷ es)) (b ∷ []) ∙ omega (arith, total_one f b, delete_once f b (e ∷ es) k)

all_big_last : (P : ℕ → Type 0) (size : ℕ → ℕ) (es : List ℕ) → All P es → All P (big_last size es)
unfolding big_last delete
all_big_last P size [] a = tt
all_big_last P size (e ∷ es) a =
    let b = biggest size e es in
    all_append P (delete b (e ∷ es)) (b ∷ []) (all_keep P (λ y. not (eqb b y)) (e ∷ es) a) (has_biggest P size e es a.0 a.1, tt)

-- ---- how often a row stands in a tree

module _ (g : Graph) where
  abbrev pub n : ℕ
  n = length g.weights

  in_tree : ℕ → ℕ → ℕ → ℕ
  in_tree v k e = count v (post_tree k g e)

  once_children : (e : ℕ) → All (λ x. count x (children_of g e) ≡ 1) (children_of g e)
  unfolding children_of
  once_children e = all_once (λ c. is_element (kind g c) && is_child_of e (parent g c)) (length g.weights)

  in_tree_step : (v k e : ℕ) → in_tree v (suc k) e ≡ total (in_tree v k) (children_of g e) + same v e
  unfolding in_tree post_tree
  in_tree_step v k e =
      total_append (same v) (flat_map (λ c. post_tree k g c) (big_last (size_of g) (children_of g e))) (e ∷ [])
      ∙ omega (
        arith,
        total_one (same v) e,
        total_flat_map (same v) (λ c. post_tree k g c) (big_last (size_of g) (children_of g e)),
        total_big_last (in_tree v k) (size_of g) (children_of g e) (once_children e),
      )

  in_tree_none : (v e : ℕ) → in_tree v zero e ≡ 0
  unfolding in_tree post_tree total
  in_tree_none v e = refl

  -- a row that is no child stands only where the tree is its own
  in_tree_root : (v : ℕ) → ((e : ℕ) → All (λ c. same v c ≡ 0) (children_of g e)) → (k e : ℕ) → in_tree v (suc k) e ≡ same v e
  in_tree_root v h zero e =
      in_tree_step v zero e ∙ omega (arith, total_none (in_tree v zero) (children_of g e) (all_imply (λ c. same v c ≡ 0) (λ c. in_tree v zero c ≡ 0) (children_of g e) (λ c q. in_tree_none v c) (h e)))
  in_tree_root v h (suc k) e =
      in_tree_step v (suc k) e
      ∙ omega (
        arith,
        total_none (in_tree v (suc k)) (children_of g e)
            (all_imply (λ c. same v c ≡ 0) (λ c. in_tree v (suc k) c ≡ 0) (children_of g e) (λ c q. in_tree_root v h k c ∙ q) (h e)),
      )

  -- a child stands where its parent does, one level further up
  count_child : (v u e : ℕ) → v < n → kind g v ≡ element → parent g v ≡ some u → count v (children_of g e) ≡ same e u
  unfolding children_of
  count_child v u e h p q = count_kept (λ c. is_element (kind g c) && is_child_of e (parent g c)) (length g.weights) v h ∙ rw (p, q)

  in_tree_child : (v u : ℕ) → v < n → kind g v ≡ element → parent g v ≡ some u → (k e : ℕ) → in_tree v (suc k) e ≡ same v e + in_tree u k e
  in_tree_child v u h p q zero e =
      in_tree_step v zero e
      ∙ omega (arith, in_tree_none u e, total_none (in_tree v zero) (children_of g e) (all_imply (λ x. count x (children_of g e) ≡ 1) (λ c. in_tree v zero c ≡ 0) (children_of g e) (λ c r. in_tree_none v c) (once_children e)))
  in_tree_child v u h p q (suc k) e =
      in_tree_step v (suc k) e
      ∙ omega (
        arith,
        total_same (in_tree v (suc k)) (λ c. same v c + in_tree u k c) (children_of g e)
            (all_imply (λ x. count x (children_of g e) ≡ 1) (λ c. in_tree v (suc k) c ≡ same v c + in_tree u k c) (children_of g e) (λ c r. in_tree_child v u h p q k c) (once_children e)),
        total_add (same v) (in_tree u k) (children_of g e),
        count_child v u e h p q,
        same_comm e u,
        in_tree_step u k e,
      )

  -- ---- how often a row stands in all the trees

  -- d levels up from v stands a root
  abbrev pub Reach : ℕ → ℕ → Type 0
  Reach zero v = (v < n) × (kind g v ≡ element) × (parent g v ≡ none)
  Reach (suc d) v = (v < n) × (kind g v ≡ element) × ((u : ℕ) × (parent g v ≡ some u) × Reach d u)

  in_trees : ℕ → ℕ → ℕ
  in_trees v k = total (in_tree v k) (roots g)

  count_roots : (v : ℕ) → v < n → count v (roots g) ≡ cond (is_element (kind g v) && is_none (parent g v)) 1 0
  unfolding roots
  count_roots v h = count_kept (λ e. is_element (kind g e) && is_none (parent g e)) (length g.weights) v h

  no_child : (v : ℕ) → ((e : ℕ) → is_element (kind g v) && is_child_of e (parent g v) ≡ false) → (e : ℕ) → All (λ c. same v c ≡ 0) (children_of g e)
  unfolding children_of
  no_child v h e =
      all_imply (λ c. ((is_element (kind g c) && is_child_of e (parent g c)) ≡ true) × (c < 0 + length g.weights)) (λ c. same v c ≡ 0) (children_of g e)
      (λ c q. same_ne v c (λ r. clash (sym (h e) ∙ ap (λ (x : ℕ). is_element (kind g x) && is_child_of e (parent g x)) r ∙ q.0)))
      (all_kept (λ c. c < 0 + length g.weights) (λ c. is_element (kind g c) && is_child_of e (parent g c)) (up_to (length g.weights)) (all_up_to 0 (length g.weights)))
    where
      clash : false ≡ true → ⊥
      clash e = let z : ◌≡◌ {A = ℕ} 0 1 = cc in omega arith

  in_trees_root : (v : ℕ) → ((e : ℕ) → is_element (kind g v) && is_child_of e (parent g v) ≡ false) → (k : ℕ) → in_trees v (suc k) ≡ count v (roots g)
  unfolding in_trees
  in_trees_root v h k = total_same (in_tree v (suc k)) (same v) (roots g) (all_of _ (roots g) (λ r. in_tree_root v (no_child v h) k r))

  not_root : (b : Bool) → b && false ≡ false
  not_root true = refl
  not_root false = refl

  in_trees_child : (v u : ℕ) → v < n → kind g v ≡ element → parent g v ≡ some u → (k : ℕ) → in_trees v (suc k) ≡ in_trees u k
  unfolding in_trees
  in_trees_child v u h p q k =
      total_same (in_tree v (suc k)) (λ e. same v e + in_tree u k e) (roots g) (all_of _ (roots g) (λ e. in_tree_child v u h p q k e))
      ∙ total_add (same v) (in_tree u k) (roots g)
      ∙ omega (arith, none_there)
    where
      none_there : count v (roots g) ≡ 0
      none_there = count_roots v h ∙ rw (p, q)

  in_trees_once : (d v : ℕ) → Reach d v → (k : ℕ) → d < k → in_trees v k ≡ 1
  in_trees_once d v r zero h = absurd (omega arith)
  in_trees_once zero v r (suc k) h =
      in_trees_root v (λ e. rw r.2 (not_root (is_element (kind g v)))) k ∙ count_roots v r.0 ∙ rw (r.1, r.2)
  in_trees_once (suc d) v r (suc k) h =
      in_trees_child v r.2.0 r.0 r.1 r.2.1 k ∙ in_trees_once d r.2.0 r.2.2 k (omega arith)

  in_trees_never : (v : ℕ) → v < n → is_element (kind g v) ≡ false → (k : ℕ) → in_trees v k ≡ 0
  unfolding in_trees
  in_trees_never v h p zero = total_none (in_tree v zero) (roots g) (all_of _ (roots g) (λ e. in_tree_none v e))
  in_trees_never v h p (suc k) = in_trees_root v (λ e. rw p) k ∙ count_roots v h ∙ rw p

  count_postorder : (v : ℕ) → count v (postorder g) ≡ in_trees v n
  unfolding postorder in_trees in_tree
  count_postorder v = total_flat_map (same v) (post_tree (length g.weights) g) (roots g)

  -- ---- how often a row stands in the permutation

  -- what is to be known of a row: it is in a tree, or it was merged and belongs to a row of a tree, or it is dense
  pub data Stands (v : ℕ) : Type 0 where
    in_atree : (d : ℕ) → d < n → Reach d v → Stands v
    with_one : (d : ℕ) → kind g v ≡ merged → d < n → Reach d (rep g v) → Stands v
    at_the_end : kind g v ≡ dense → Stands v

  count_block : (v : ℕ) → count v (permutation_of g) ≡ total (λ e. count v (merged_with g e)) (postorder g) + count v (postorder g) + count v (dense_rows g)
  unfolding permutation_of block_of
  count_block v =
      total_append (same v) (flat_map (block_of g) (postorder g)) (dense_rows g)
      ∙ omega (
        arith,
        total_flat_map (same v) (block_of g) (postorder g),
        total_same (λ e. count v (merged_with g e ++ (e ∷ []))) (λ e. count v (merged_with g e) + same v e) (postorder g)
            (all_of _ (postorder g) (λ e. total_append (same v) (merged_with g e) (e ∷ []) ∙ omega (arith, total_one (same v) e))),
        total_add (λ e. count v (merged_with g e)) (same v) (postorder g),
      )

  count_merged : (v e : ℕ) → v < n → count v (merged_with g e) ≡ cond (is_merged (kind g v) && eqb e (rep g v)) 1 0
  unfolding merged_with
  count_merged v e h = count_kept (λ x. is_merged (kind g x) && eqb e (rep g x)) (length g.weights) v h

  count_dense : (v : ℕ) → v < n → count v (dense_rows g) ≡ cond (is_dense (kind g v)) 1 0
  unfolding dense_rows
  count_dense v h = count_kept (λ x. is_dense (kind g x)) (length g.weights) v h

  reach_element : (d v : ℕ) → Reach d v → kind g v ≡ element
  reach_element zero v r = r.1
  reach_element (suc d) v r = r.1

  no_merged : (v : ℕ) → ((e : ℕ) → count v (merged_with g e) ≡ 0) → total (λ e. count v (merged_with g e)) (postorder g) ≡ 0
  no_merged v h = total_none (λ e. count v (merged_with g e)) (postorder g) (all_of _ (postorder g) h)

  once : (v : ℕ) → v < n → Stands v → count v (permutation_of g) ≡ 1
  once v h (in_atree d l r) =
      let p : kind g v ≡ element = reach_element d v r in
      let a : count v (dense_rows g) ≡ 0 = count_dense v h ∙ rw p in
      let b : total (λ e. count v (merged_with g e)) (postorder g) ≡ 0 = no_merged v (λ e. count_merged v e h ∙ rw p) in
      count_block v ∙ omega (arith, count_postorder v, in_trees_once d v r n l)
  once v h (with_one d p l r) =
      let a : count v (dense_rows g) ≡ 0 = count_dense v h ∙ rw p in
      let b : total (λ x. count v (merged_with g x)) (postorder g) ≡ count (rep g v) (postorder g) =
      total_same (λ x. count v (merged_with g x)) (same (rep g v)) (postorder g) (all_of _ (postorder g) (λ x. count_merged v x h ∙ rw p (same_comm x (rep g v)))) in
      count_block v ∙ omega (arith, count_postorder v, count_postorder (rep g v), in_trees_once d (rep g v) r n l, in_trees_never v h (rw p) n)
  once v h (at_the_end p) =
      let a : count v (dense_rows g) ≡ 1 = count_dense v h ∙ rw p in
      let b : total (λ e. count v (merged_with g e)) (postorder g) ≡ 0 = no_merged v (λ e. count_merged v e h ∙ rw p) in
      count_block v ∙ omega (arith, count_postorder v, in_trees_never v h (rw p) n)

  -- ---- its length

  inside_kept : (p : ℕ → Bool) → All (λ x. x < n) (keep p (up_to n))
  inside_kept p =
      all_imply (λ x. (p x ≡ true) × (x < 0 + n)) (λ x. x < n) (keep p (up_to n)) (λ x h. omega (arith, h.1))
      (all_kept (λ x. x < 0 + n) p (up_to n) (all_up_to 0 n))

  inside_tree : (k e : ℕ) → e < n → All (λ x. x < n) (post_tree k g e)
  unfolding post_tree children_of
  inside_tree zero e h = tt
  inside_tree (suc k) e h =
      all_append (λ x. x < n) (flat_map (λ c. post_tree k g c) (big_last (size_of g) (children_of g e))) (e ∷ [])
      (all_flat_map (λ x. x < n) (λ c. post_tree k g c) (big_last (size_of g) (children_of g e))
      (all_imply (λ c. c < n) (λ c. All (λ x. x < n) (post_tree k g c)) (big_last (size_of g) (children_of g e)) (λ c q. inside_tree k c q)
      (all_big_last (λ x. x < n) (size_of g) (children_of g e) (inside_kept (λ c. is_element (kind g c) && is_child_of e (parent g c))))))
      (h, tt)

  inside_postorder : All (λ x. x < n) (postorder g)
  unfolding postorder roots
  inside_postorder =
      all_flat_map (λ x. x < n) (post_tree n g) (roots g)
      (all_imply (λ e. e < n) (λ e. All (λ x. x < n) (post_tree n g e)) (roots g) (λ e q. inside_tree n e q) (inside_kept (λ e. is_element (kind g e) && is_none (parent g e))))

  inside_permutation : All (λ x. x < n) (permutation_of g)
  unfolding permutation_of block_of merged_with dense_rows
  inside_permutation =
      all_append (λ x. x < n) (flat_map (block_of g) (postorder g)) (dense_rows g)
      (all_flat_map (λ x. x < n) (block_of g) (postorder g)
      (all_imply (λ e. e < n) (λ e. All (λ x. x < n) (block_of g e)) (postorder g)
      (λ e q. all_append (λ x. x < n) (merged_with g e) (e ∷ []) (inside_kept (λ v. is_merged (kind g v) && eqb e (rep g v))) (q, tt)) inside_postorder))
      (inside_kept (λ v. is_dense (kind g v)))

  -- where each row stands somewhere, the permutation has each row once, and so has n rows
  pub permutation_once : ((v : ℕ) → v < n → Stands v) → (v : ℕ) → v < n → count v (permutation_of g) ≡ 1
  permutation_once h v l = once v l (h v l)

  pub permutation_length : ((v : ℕ) → v < n → Stands v) → length (permutation_of g) ≡ n
  permutation_length h = length_once n (permutation_of g) inside_permutation (λ v l. once v l (h v l))
