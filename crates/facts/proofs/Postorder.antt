-- The plan's P2 on the tree alone: where parents have a higher rank, each child stands before its parent in the postorder.
-- Assumes nothing.
use Prim.Native.Nat.{ℕ, zero, suc, ◌<◌}
use native.Mathlib.Omega.{arith}
use mathlib.Core.Path.{refl, sym, subst}
use mathlib.Core.Logic.{inl, inr, ◌⊎◌}
use mathlib.Core.Bool.{cond}
use mathlib.Core.List.{List, [], ◌∷◌, ◌++◌, flat_map, append_assoc, append-nil}
use lib.Dec.{eqb}
use borrow.Author.Tests.{eqb-true, eqb-false}
use Rattle.plain.proofs.Logic.{or_elim, either}
use Rattle.plain.proofs.Members.{member_first, member_there, member_either, member_right, append_either, no_member, member_joined}
use Rattle.plain.specs.Lists.{position}
use Rattle.plain.specs.Members.{In}
use Rattle.definition.specs.State.{Graph, row_count}
use Rattle.definition.specs.Tree.{children_of, roots, big_last, post_tree, postorder, size_of}
use Rattle.facts.proofs.Family.{Child, children_in, in_children, roots_in, in_big_last, big_last_in}
use Rattle.facts.proofs.Chains.{Grown}

module _ (g : Graph) where
  -- the children of each entry stand before it, or in the list `pre`
  abbrev ChildrenFirst : List ℕ → List ℕ → Type 0
  ChildrenFirst pre [] = Unit {0}
  ChildrenFirst pre (x ∷ xs) = ((c : ℕ) → Child g x c → In c pre) × ChildrenFirst (pre ++ (x ∷ [])) xs

  ordered_append : (pre xs ys : List ℕ) → ChildrenFirst pre xs → ChildrenFirst (pre ++ xs) ys → ChildrenFirst pre (xs ++ ys)
  ordered_append pre [] ys h k = rw append-nil at k
  ordered_append pre (x ∷ xs) ys h k =
      (h.0, ordered_append (pre ++ (x ∷ [])) xs ys h.1 (subst (λ (l : List ℕ). ChildrenFirst l ys) (sym (append_assoc pre (x ∷ []) xs)) k))

  ordered_flat_map : (f : ℕ → List ℕ) (cs : List ℕ) → ((c : ℕ) → In c cs → (pre : List ℕ) → ChildrenFirst pre (f c)) → (pre : List ℕ) → ChildrenFirst pre (flat_map f cs)
  unfolding flat_map
  ordered_flat_map f [] h pre = tt
  ordered_flat_map f (c ∷ cs) h pre =
      ordered_append pre (f c) (flat_map f cs) (h c (member_first c c cs refl) pre) (ordered_flat_map f cs (λ d k. h d (member_there d c cs k)) (pre ++ f c))

  -- a child stands before its parent, or in the list before
  before : (c p : ℕ) → Child g p c → (pre xs : List ℕ) → ChildrenFirst pre xs → In p xs → ((In c pre) ⊎ (position c xs < position p xs))
  unfolding position
  before c p h pre [] o k = no_member p k
  before c p h pre (x ∷ xs) o k =
      either (((In c pre) ⊎ (cond (eqb c x) 0 (suc (position c xs)) < cond (eqb p x) 0 (suc (position p xs))))) (eqb p x)
      (λ t. inl (o.0 c (subst (λ (z : ℕ). Child g z c) (eqb-true p x t) h)))
      (λ t. rw t (either (((In c pre) ⊎ (cond (eqb c x) 0 (suc (position c xs)) < suc (position p xs)))) (eqb c x)
      (λ s. rw s (inr (omega arith)))
      (λ s. rw s (or_elim (((In c pre) ⊎ (suc (position c xs) < suc (position p xs))))
      (before c p h (pre ++ (x ∷ [])) xs o.1 (or_elim (In p xs) (member_either p x xs k) (λ q. absurd (eqb-false p x t q)) (λ q. q)))
      (λ m. or_elim (((In c pre) ⊎ (suc (position c xs) < suc (position p xs)))) (append_either c pre (x ∷ []) m) (λ q. inl q)
      (λ q. or_elim _ (member_either c x [] q) (λ r. absurd (eqb-false c x s r)) (λ r. no_member c r)))
      (λ m. inr (omega arith))))))

  module _ (rank : ℕ → ℕ) (grown : Grown g rank) where
    tree_has : (k e : ℕ) → rank e < k → In e (post_tree k g e)
    unfolding post_tree
    tree_has zero e h = absurd (omega arith)
    tree_has (suc k) e h = member_right e (flat_map (λ c. post_tree k g c) (big_last (size_of g) (children_of g e))) (e ∷ []) (member_first e e [] refl)

    child_rank : (p c : ℕ) → Child g p c → rank c < rank p
    child_rank p c h = (grown.above c p h.inside h.made h.below).2

    ordered_tree : (k e : ℕ) → rank e < k → (pre : List ℕ) → ChildrenFirst pre (post_tree k g e)
    unfolding post_tree
    ordered_tree zero e h pre = absurd (omega arith)
    ordered_tree (suc k) e h pre =
        let kids = big_last (size_of g) (children_of g e) in
        ordered_append pre (flat_map (λ c. post_tree k g c) kids) (e ∷ [])
        (ordered_flat_map (λ c. post_tree k g c) kids
        (λ c m. ordered_tree k c (omega (arith, child_rank e c (children_in g e c (in_big_last (size_of g) c (children_of g e) m))))) pre) (
          λ c m. member_right c pre (flat_map (λ d. post_tree k g d) kids)
              (member_joined c c (λ d. post_tree k g d) kids (big_last_in (size_of g) c (children_of g e) (in_children g e c m)) (tree_has k c (omega (arith, child_rank e c m)))),
          tt,
        )

    ordered_postorder : ChildrenFirst [] (postorder g)
    unfolding postorder
    ordered_postorder =
        ordered_flat_map (post_tree (row_count g) g) (roots g)
        (λ r m. let q = roots_in g r m in ordered_tree (row_count g) r (grown.bounded r q.0 q.1)) []

    -- P2
    pub child_first : (c p : ℕ) → Child g p c → In p (postorder g) → position c (postorder g) < position p (postorder g)
    child_first c p h k = or_elim _ (before c p h [] (postorder g) ordered_postorder k) (λ m. no_member c m) (λ m. m)
