-- Lemma S of the plan, on the lists that the symbolic elimination keeps: a relation that has each later neighbour, and joins what it relates to one
-- position, has every later neighbour that is counted.
-- Assumes nothing.
use Prim.Native.Nat.{ℕ, zero, suc, ◌+◌, ◌≤◌, ◌<◌}
use native.Mathlib.Omega.{arith}
use mathlib.Core.Path.{◌≡◌, refl, sym, ◌∙◌, subst}
use mathlib.Core.Logic.{inl, inr, ◌⊎◌}
use mathlib.Core.List.{List, [], ◌∷◌, foldl}
use lib.Dec.{ltb}
use lib.ListN.{length, get_or, length-append}
use borrow.Author.Tests.{ltb-true}
use Rattle.plain.proofs.Folds.{foldl_keeps, all_in}
use Rattle.plain.proofs.Logic.{cond_has, or_elim, either}
use Rattle.plain.proofs.Members.{member_first, member_there, member_either, append_either, no_member, kept_both}
use Rattle.plain.proofs.Positions.{set_has}
use Rattle.plain.proofs.Repeats.{length_within, distinct_snoc, distinct_keep}
use Rattle.plain.specs.Lists.{member, delete, count_up}
use Rattle.plain.specs.Members.{Distinct, In}
use Rattle.definition.specs.Cholesky.{add_new, join_to, later_of, Fill, fill_one, counts, renumbered}
use Rattle.fill.proofs.Under.{Under, under_append}

-- ---- no entry twice

-- ---- what is joined to a list

distinct_added : (vs xs : List ℕ) → Distinct xs → Distinct (foldl add_new xs vs)
unfolding add_new
distinct_added vs xs d =
    foldl_keeps Distinct (λ v. Unit {0}) add_new
    (λ ys v q k. cond_has Distinct (member v ys) (λ e. k) (λ e. distinct_snoc v ys k e)) vs xs (all_in _ vs (λ v e. tt)) d

added_in : (b : ℕ) (vs xs : List ℕ) → In b (foldl add_new xs vs) → ((In b xs) ⊎ (In b vs))
unfolding add_new
added_in b [] xs h = inl h
added_in b (v ∷ vs) xs h =
    or_elim (((In b xs) ⊎ (In b (v ∷ vs)))) (added_in b vs (add_new xs v) h) (λ k. one k) (λ k. inr (member_there b v vs k))
  where
    one : In b (add_new xs v) → ((In b xs) ⊎ (In b (v ∷ vs)))
    one k =
        either (((In b xs) ⊎ (In b (v ∷ vs)))) (member v xs) (λ e. inl (rw e at k))
        (λ e. or_elim (((In b xs) ⊎ (In b (v ∷ vs)))) (append_either b xs (v ∷ []) (rw e at k)) (λ m. inl m)
        (λ m. or_elim (((In b xs) ⊎ (In b (v ∷ vs)))) (member_either b v [] m) (λ q. inr (member_first b v vs q)) (λ q. no_member b q)))

-- ---- the relation

module _ (S : ℕ → ℕ → Type 0) where
  -- no list has an entry twice, and the later ones are related
  pub record Kept (adj : List (List ℕ)) : Type 0 where
    pub once : (a : ℕ) → Distinct (get_or adj a [])
    pub inside : (a b : ℕ) → a < b → In b (get_or adj a []) → S a b

  Joins : List ℕ → ℕ → Type 0
  Joins vs v = (b : ℕ) → In b vs → v < b → S v b

  join_keeps : (vs : List ℕ) (adj : List (List ℕ)) (v : ℕ) → Joins vs v → Kept adj → Kept (join_to vs adj v)
  unfolding join_to Joins delete
  join_keeps vs adj v h k = record {
    once = λ a. set_has Distinct adj v (foldl add_new (get_or adj v []) (delete v vs)) a (k.once a) (λ e. distinct_added (delete v vs) (get_or adj v []) (k.once v));
    inside = λ a b l. set_has (λ xs. In b xs → S a b) adj v (foldl add_new (get_or adj v []) (delete v vs)) a (λ m. k.inside a b l m)
        (λ e m. subst (λ (z : ℕ). S z b) (sym e) (or_elim (S v b) (added_in b (delete v vs) (get_or adj v []) m)
        (λ q. k.inside v b (omega arith) q) (λ q. h b (kept_both b _ vs q).1 (omega arith))));
  }

  module _ (closed : (k j x : ℕ) → k < j → j < x → S k j → S k x → S j x) where
    later_in : (adj : List (List ℕ)) (k b : ℕ) → Kept adj → In b (later_of adj k) → (k < b) × S k b
    unfolding later_of
    later_in adj k b q h =
        let r = kept_both b (λ v. ltb k v) (get_or adj k []) h in
        let l : k < b = ltb-true k b r.0 in
        (l, q.inside k b l r.1)

    fill_keeps : (x : Fill) (k : ℕ) → Kept x.adj → Kept (fill_one x k).adj
    unfolding fill_one Joins
    fill_keeps x k q =
        foldl_keeps Kept (Joins (later_of x.adj k)) (join_to (later_of x.adj k)) (λ adj v h r. join_keeps (later_of x.adj k) adj v h r)
        (later_of x.adj k) x.adj
        (all_in (Joins (later_of x.adj k)) (later_of x.adj k)
        (λ v m b n l. let i = later_in x.adj k v q m in closed k v b i.0 l i.1 (later_in x.adj k b q n).1)) q

    -- a list of all that k is related to, no longer than a bound
    pub record Cover (bound k : ℕ) : Type 0 where
      pub list : List ℕ
      pub short : length list ≤ bound
      pub covers : (b : ℕ) → k < b → S k b → In b list

    module _ (bound : ℕ → ℕ) (cover : (k : ℕ) → Cover (bound k) k) where
      later_length : (adj : List (List ℕ)) (k : ℕ) → Kept adj → length (later_of adj k) ≤ bound k
      unfolding later_of
      later_length adj k q =
          omega (
            arith,
            (cover k).short,
            length_within (later_of adj k) (cover k).list (distinct_keep (λ v. ltb k v) (get_or adj k []) (q.once k))
                (λ b h. let i = later_in adj k b q h in (cover k).covers b i.0 i.1),
          )

      -- what is counted from position a on
      fills : (m a : ℕ) (x : Fill) → Kept x.adj → length x.counted ≡ a → Under bound 0 x.counted
          → (length (foldl fill_one x (count_up a m)).counted ≡ a + m) × Under bound 0 (foldl fill_one x (count_up a m)).counted
      unfolding count_up fill_one
      fills zero a x q l u = (omega arith, u)
      fills (suc m) a x q l u =
          let r = fills m (suc a) (fill_one x a) (fill_keeps x a q) (length-append x.counted (length (later_of x.adj a) ∷ []) ∙ omega arith)
          (under_append bound 0 x.counted (length (later_of x.adj a) ∷ []) u
          (let e : 0 + length x.counted ≡ a = omega arith in
          rw e (later_length x.adj a q, tt))) in
          (r.0 ∙ omega arith, r.1)

      pub lemma_s : (perm : List ℕ) (nbrs : List (List ℕ)) → Kept (renumbered perm nbrs)
          → (length (counts perm nbrs) ≡ length perm) × Under bound 0 (counts perm nbrs)
      unfolding counts
      lemma_s perm nbrs q =
          let r = fills (length perm) 0 (record { adj = renumbered perm nbrs; counted = [] }) q refl tt in
          (r.0 ∙ omega arith, r.1)
