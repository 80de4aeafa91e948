-- Rows that leave their lists one after the other: `delisted_rep`, against the definition's `delisted`.
-- Assumes nothing.
use Prim.Native.Nat.{ℕ, ◌<◌}
use native.Mathlib.Omega.{arith}
use mathlib.Core.Path.{◌≡◌, refl, sym, ap, ◌∙◌, subst}
use mathlib.Core.Logic.{◌≢◌, ◌⊎◌, inl, inr}
use mathlib.Core.Bool.{false}
use mathlib.Core.List.{List, [], ◌∷◌, foldl}
use lib.IntN.{ℤ}
use lib.ListN.{length}
use lib.Seq.{get_or-set_same, get_or-set_other}
use Rattle.plain.specs.Lists.{member, delete}
use Rattle.plain.specs.Members.{In, Distinct}
use Rattle.plain.proofs.Logic.{clash}
use Rattle.plain.proofs.Members.{member_here, member_there, member_delete, delete_fresh, apart, not_in, not_cons, member_nil}
use Rattle.definition.specs.State.{Graph, State, degree, queue_of}
use Rattle.definition.specs.Pivot.{delist, delisted}
use Rattle.facts.specs.Invariant.{Var, Queued}
use Rattle.facts.proofs.Sizes.{length_delisted}
use Rattle.facts.proofs.Queues.{delisted_was, delisted_gone, delisted_stays}
use Rattle.cells.specs.Layout.{DEGREE}
use Rattle.cells.specs.View.{rd, Room}
use Rattle.cells.proofs.Slices.{same?}
use Rattle.chain.specs.Model.{removed}
use Rattle.chain.specs.Chained.{Chained}
use Rattle.chain.proofs.Frame.{chained_lists, only_degree}
use Rattle.chain.proofs.Unlink.{removed_rep, removed_degree, removed_room}

pub size_delist : (g : Graph) (qs : List (List ℕ)) (v : ℕ) → length (delist g qs v) ≡ length qs
unfolding delisted
size_delist g qs v = length_delisted g (v ∷ []) qs

-- row v stands in the list of its degree, and the memory has that degree
pub record Stands (n : ℕ) (s : List ℤ) (g : Graph) (qs : List (List ℕ)) (v : ℕ) : Type 0 where
  pub same : rd n DEGREE s v ≡ degree g v
  pub low : degree g v < n
  pub there : In v (queue_of qs (degree g v))

-- ---- one row

module _ (n : ℕ) (g : Graph) (s : List ℤ) (qs : List (List ℕ)) (size : length qs ≡ n) (h : Chained n s (queue_of qs)) (v : ℕ) (q : Stands n s g qs v) where
  lists_by : (e : ℕ) → e < n → (e ≡ degree g v) ⊎ (e ≢ degree g v) → queue_of (delist g qs v) e ≡ delete v (queue_of qs e)
  unfolding delist
  lists_by e he (inl a) = rw a (get_or-set_same qs (degree g v) (delete v (queue_of qs (degree g v))) [] (omega (arith, size, q.low)))
  lists_by e he (inr a) =
      get_or-set_other qs (degree g v) e (delete v (queue_of qs (degree g v))) [] a
      ∙ sym (delete_fresh v (queue_of qs e) (only_degree h e v he (λ b. a (sym b ∙ q.same))))

  -- v leaves all lists where it leaves that of its degree
  pub delist_lists : (e : ℕ) → e < n → queue_of (delist g qs v) e ≡ delete v (queue_of qs e)
  delist_lists e he = lists_by e he (same? e (degree g v))

  pub delist_rep : Room n s → Chained n (removed n s v) (queue_of (delist g qs v))
  delist_rep room =
      chained_lists
      (removed_rep n s v (queue_of qs) room h (omega (arith, q.same, q.low)) (ap (λ (d : ℕ). member v (queue_of qs d)) q.same ∙ q.there))
      (queue_of (delist g qs v)) delist_lists

  -- another row stays where it is
  pub still_stands : (w : ℕ) → v ≢ w → Stands n s g qs w → Stands n (removed n s v) g (delist g qs v) w
  still_stands w d k =
      record {
        same = removed_degree n s v w ∙ k.same;
        low = k.low;
        there = ap (member w) (delist_lists (degree g w) k.low) ∙ member_delete v w (queue_of qs (degree g w)) d k.there;
      }

-- ---- all of them

pub delisted_rep : (n : ℕ) (g : Graph) (vs : List ℕ) (s : List ℤ) (qs : List (List ℕ)) → Room n s → length qs ≡ n → Chained n s (queue_of qs) → Distinct vs
    → ((v : ℕ) → In v vs → Stands n s g qs v) → Chained n (foldl (λ m v. removed n m v) s vs) (queue_of (delisted g qs vs))
unfolding delisted
delisted_rep n g [] s qs room size h d q = h
delisted_rep n g (v ∷ vs) s qs room size h d q =
    let here = q v (member_here v vs) in
    delisted_rep n g vs (removed n s v) (delist g qs v) (removed_room n s v room) (size_delist g qs v ∙ size) (delist_rep n g s qs size h v here room) d.1
    (λ w m. still_stands n g s qs size h v here w (apart v w vs d.0 m) (q w (member_there w v vs m)))

-- a row that left stands in no list any more
pub delisted_fresh : (n : ℕ) (g : Graph) (vs : List ℕ) (s : List ℤ) (qs : List (List ℕ)) → Chained n s (queue_of qs) → (v : ℕ) → In v vs → rd n DEGREE s v ≡ degree g v
    → (e : ℕ) → e < n → member v (queue_of (delisted g qs vs) e) ≡ false
delisted_fresh n g vs s qs h v m same e he =
    not_in v (queue_of (delisted g qs vs) e)
    (λ x. by (delisted_was g vs qs e v x) (λ (y : degree g v ≡ e). delisted_gone g vs qs v m (ap (λ (d : ℕ). member v (queue_of (delisted g qs vs) d)) y ∙ x)) (same? (degree g v) e))
  where
    by : In v (queue_of qs e) → (degree g v ≡ e → ⊥) → (degree g v ≡ e) ⊎ (degree g v ≢ e) → ⊥
    by w k (inl y) = k y
    by w k (inr y) = clash (member v (queue_of qs e)) w (only_degree h e v he (λ z. y (sym same ∙ z)))

-- ---- a pivot's step: the pivot leaves, and after other stores the collected rows do

pub delisted_cons : (g : Graph) (qs : List (List ℕ)) (p : ℕ) (vs : List ℕ) → delisted g (delist g qs p) vs ≡ delisted g qs (p ∷ vs)
unfolding delisted
delisted_cons g qs p vs = refl

module _ (n : ℕ) (t : State) (w : Queued n t) (p : ℕ) (pv : Var t.graph p) where
  abbrev g : Graph
  g = t.graph

  pub pivot_left : (s : List ℤ) → Room n s → Chained n s (queue_of t.queues) → rd n DEGREE s p ≡ degree t.graph p
      → Chained n (removed n s p) (queue_of (delist t.graph t.queues p))
  pivot_left s room h e =
      delist_rep n g s t.queues w.size h p (record { same = e; low = (w.bounded p pv).1; there = w.all p pv }) room

  there_still : (v : ℕ) → Var t.graph v → p ≢ v → In v (queue_of (delist t.graph t.queues p) (degree t.graph v))
  unfolding delisted
  there_still v var ne =
      delisted_stays g (p ∷ []) t.queues (degree g v) v (not_cons v p [] (λ e. ne (sym e)) (member_nil v))
      (omega (arith, w.size, (w.bounded v var).1)) (w.all v var)

  module _ (vs : List ℕ) (s : List ℤ) (room : Room n s) (h : Chained n s (queue_of (delist t.graph t.queues p))) (d : Distinct (p ∷ vs))
      (q : (v : ℕ) → In v vs → Var t.graph v × (rd n DEGREE s v ≡ degree t.graph v)) where
    pub collected_left : Chained n (foldl (λ m v. removed n m v) s vs) (queue_of (delisted t.graph t.queues (p ∷ vs)))
    collected_left =
        subst (λ (qs : List (List ℕ)). Chained n (foldl (λ m v. removed n m v) s vs) (queue_of qs)) (delisted_cons g t.queues p vs)
        (delisted_rep n g vs s (delist g t.queues p) room (size_delist g t.queues p ∙ w.size) h d.1
        (λ v m. record { same = (q v m).1; low = (w.bounded v (q v m).0).1; there = there_still v (q v m).0 (apart p v vs d.0 m) }))
