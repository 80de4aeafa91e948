-- The plan's T1, T2, D1, D2: the relation of blocks, fronts and dense rows has the two conditions of Lemma S.
-- Assumes nothing.
use Prim.Native.Nat.{ℕ, zero, suc, ◌+◌, ◌≤◌, ◌<◌}
use native.Mathlib.Omega.{arith}
use mathlib.Core.Path.{◌≡◌, refl, sym, ◌∙◌}
use mathlib.Core.List.{List, []}
use mathlib.Core.Option.{Option, none, some}
use lib.ListN.{get_or}
use Rattle.plain.proofs.Logic.{or_elim, either}
use Rattle.plain.proofs.Members.{no_member}
use Rattle.plain.specs.Lists.{position, member}
use Rattle.plain.specs.Members.{In}
use Rattle.definition.specs.State.{State, element, row_count, kind, parent, rep}
use Rattle.definition.specs.Tree.{postorder}
use Rattle.definition.specs.Ordering.{permutation_of}
use Rattle.facts.specs.Past.{H5, Above, its_pivot, its_front, Joined, together, neighbours, in_element, behind, before}
use Rattle.facts.specs.History.{born_of, born_at, front_of}
use Rattle.facts.proofs.Permuted.{postorder_has, perm_length, row_at_lem, perm_has}
use Rattle.facts.proofs.Postorder.{child_first}
use Rattle.fill.proofs.Renumbered.{Rows, Original, Closed}
use Rattle.fill.proofs.Ended.{Ended, owner, nobody, placed, grown}
use Rattle.fill.proofs.Standing.{Dense, Ordered, dense_or, place, dense_last, earlier}

module _ (s : State) (fronts nbrs : List (List ℕ)) where
  -- what the row v is related to: by its element, row by row
  pub data Sees (v u : ℕ) : Type 0 where
    both_dense : Dense s v → Dense s u → Sees v u
    in_block : Ordered s v → Ordered s u → rep s.graph u ≡ rep s.graph v → Sees v u
    in_front : Ordered s v → Ordered s u → In (rep s.graph v) (born_of s) → In u (front_of fronts (rep s.graph v)) → Sees v u
    to_dense : Ordered s v → In (rep s.graph v) (born_of s) → Dense s u → Sees v u

  abbrev pub row_at : ℕ → ℕ
  row_at k = get_or (permutation_of s.graph) k 0

  -- of positions
  abbrev pub Related : ℕ → ℕ → Type 0
  Related k b = (b < row_count s.graph) × Sees (row_at k) (row_at b)

  -- how two rows of one front stand to one another
  data Nested (u w : ℕ) : Type 0 where
    one_block : rep s.graph u ≡ rep s.graph w → Nested u w
    first_in : In u (front_of fronts (rep s.graph w)) → Nested u w
    last_in : In w (front_of fronts (rep s.graph u)) → Nested u w

  module _ (end : Ended s fronts nbrs) where
    abbrev turn : ℕ → ℕ
    turn e = position e (postorder s.graph)

    no_root : (e w : ℕ) → e < row_count s.graph → w < row_count s.graph → kind s.graph e ≡ element → parent s.graph e ≡ none → In w (front_of fronts e) → ⊥
    no_root e w l m q r h = nobody s fronts nbrs end (rep s.graph w) (end.h1.inside e w l m (q, r) h).0

    pub parent_turn : (e p : ℕ) → e < row_count s.graph → kind s.graph e ≡ element → parent s.graph e ≡ some p → turn e < turn p
    parent_turn e p l q r =
        let a = (grown s fronts nbrs end).above e p l q r in
        child_first s.graph (born_at s) (grown s fronts nbrs end) e p (record { inside = l; made = q; below = r })
        (postorder_has s.graph (born_at s) (grown s fronts nbrs end) (placed s fronts nbrs end) p a.0 a.1)

    -- T1: what stands in the front of e belongs to an element that comes later
    upward : (m e w : ℕ) → e < row_count s.graph → kind s.graph e ≡ element → w < row_count s.graph → In w (front_of fronts e)
        → row_count s.graph ≤ born_at s e + m → turn e < turn (rep s.graph w)
    upward zero e w l q k h f = absurd (omega (arith, (grown s fronts nbrs end).bounded e l q))
    upward (suc m) e w l q k h f = go (λ (p : ℕ) (a : p < row_count s.graph) (b : kind s.graph p ≡ element) (c : In w (front_of fronts p)) (d : row_count s.graph ≤ born_at s p + m). upward m p w a b k c d) (parent s.graph e) refl
      where
        go : ((p : ℕ) → p < row_count s.graph → kind s.graph p ≡ element → In w (front_of fronts p) → row_count s.graph ≤ born_at s p + m → turn p < turn (rep s.graph w))
            → (o : Option ℕ) → parent s.graph e ≡ o → turn e < turn (rep s.graph w)
        go ih none r = absurd (no_root e w l k q r h)
        go ih (some p) r = up (end.h2.passes e p w l k q r h)
          where
            up : Above s fronts p w → turn e < turn (rep s.graph w)
            up (its_pivot i) = rw i (parent_turn e p l q r)
            up (its_front i) =
                let a = (grown s fronts nbrs end).above e p l q r in
                omega (arith, parent_turn e p l q r, ih p a.0 a.1 i (omega (arith, a.2)))

    -- T2: of two rows in the front of e, one stands in the front of the other's element, or they belong to one
    nested : (m e u w : ℕ) → e < row_count s.graph → kind s.graph e ≡ element → u < row_count s.graph → w < row_count s.graph
        → In u (front_of fronts e) → In w (front_of fronts e) → row_count s.graph ≤ born_at s e + m → Nested u w
    nested zero e u w l q j k h i f = absurd (omega (arith, (grown s fronts nbrs end).bounded e l q))
    nested (suc m) e u w l q j k h i f = go (λ (p : ℕ) (a : p < row_count s.graph) (b : kind s.graph p ≡ element) (c : In u (front_of fronts p)) (d : In w (front_of fronts p)) (x : row_count s.graph ≤ born_at s p + m). nested m p u w a b j k c d x) (parent s.graph e) refl
      where
        go : ((p : ℕ) → p < row_count s.graph → kind s.graph p ≡ element → In u (front_of fronts p) → In w (front_of fronts p) → row_count s.graph ≤ born_at s p + m → Nested u w)
            → (o : Option ℕ) → parent s.graph e ≡ o → Nested u w
        go ih none r = absurd (no_root e u l j q r h)
        go ih (some p) r = both (end.h2.passes e p u l j q r h) (end.h2.passes e p w l k q r i)
          where
            both : Above s fronts p u → Above s fronts p w → Nested u w
            both (its_pivot a) (its_pivot b) = one_block (a ∙ sym b)
            both (its_pivot a) (its_front b) = last_in (rw a b)
            both (its_front a) (its_pivot b) = first_in (rw b a)
            both (its_front a) (its_front b) =
                let c = (grown s fronts nbrs end).above e p l q r in
                ih p c.0 c.1 a b (omega (arith, c.2))

    pub front_turn : (e w : ℕ) → e < row_count s.graph → kind s.graph e ≡ element → w < row_count s.graph → In w (front_of fronts e)
        → position e (postorder s.graph) < position (rep s.graph w) (postorder s.graph)
    front_turn e w l q k h = upward (row_count s.graph) e w l q k h (omega arith)

    -- so that a row of a front stands behind the rows of its element
    front_behind : (u w : ℕ) → u < row_count s.graph → w < row_count s.graph → Ordered s u → Ordered s w → In w (front_of fronts (rep s.graph u))
        → place s fronts nbrs end u < place s fronts nbrs end w
    front_behind u w j k o q h =
        let i = owner s fronts nbrs end u j o in
        earlier s fronts nbrs end u w j k o q (upward (row_count s.graph) (rep s.graph u) w i.0 i.1 k h (omega arith))

    -- the element of a row in a front was born
    front_born : (m e w : ℕ) → e < row_count s.graph → kind s.graph e ≡ element → w < row_count s.graph → In w (front_of fronts e)
        → row_count s.graph ≤ born_at s e + m → In (rep s.graph w) (born_of s)
    front_born zero e w l q k h f = absurd (omega (arith, (grown s fronts nbrs end).bounded e l q))
    front_born (suc m) e w l q k h f = go (λ (p : ℕ) (a : p < row_count s.graph) (b : kind s.graph p ≡ element) (c : In w (front_of fronts p)) (d : row_count s.graph ≤ born_at s p + m). front_born m p w a b k c d) (parent s.graph e) refl
      where
        go : ((p : ℕ) → p < row_count s.graph → kind s.graph p ≡ element → In w (front_of fronts p) → row_count s.graph ≤ born_at s p + m → In (rep s.graph w) (born_of s))
            → (o : Option ℕ) → parent s.graph e ≡ o → In (rep s.graph w) (born_of s)
        go ih none r = absurd (no_root e w l k q r h)
        go ih (some p) r = up (end.h2.passes e p w l k q r h)
          where
            up : Above s fronts p w → In (rep s.graph w) (born_of s)
            up (its_pivot i) = rw i (end.born_parent e p l q r)
            up (its_front i) = let a = (grown s fronts nbrs end).above e p l q r in ih p a.0 a.1 i (omega (arith, a.2))

    -- ---- positions

    abbrev n : ℕ
    n = row_count s.graph

    row_in : (k : ℕ) → k < n → row_at k < n
    row_in k h = (row_at_lem s.graph (born_at s) (grown s fronts nbrs end) (placed s fronts nbrs end) k h).0

    row_place : (k : ℕ) → k < n → place s fronts nbrs end (row_at k) ≡ k
    row_place k h = (row_at_lem s.graph (born_at s) (grown s fronts nbrs end) (placed s fronts nbrs end) k h).1

    -- a later position is not an earlier one
    not_before : (j x : ℕ) → j < x → x < n → place s fronts nbrs end (row_at x) < place s fronts nbrs end (row_at j) → ⊥
    not_before j x l h q = let a : j < n = omega arith in omega (arith, row_place j a, row_place x h)

    pub rows : Rows (permutation_of s.graph) nbrs
    rows = record {
      once = end.rows_once;
      within = λ v w h. perm_has s.graph (born_at s) (grown s fronts nbrs end) (placed s fronts nbrs end) w (end.rows_within v w h);
    }

    -- D1
    born_edge : (v u : ℕ) → v < n → Ordered s v → In u (get_or nbrs v []) → In (rep s.graph v) (born_of s)
    born_edge v u l o h =
        either (In (rep s.graph v) (born_of s)) (member (rep s.graph v) (born_of s)) (λ t. t)
        (λ t. let e : get_or nbrs v [] ≡ [] = end.lone v l o t in no_member u (rw e at h))

    edge : (v u : ℕ) → v < n → u < n → In u (get_or nbrs v []) → (place s fronts nbrs end u < place s fronts nbrs end v → ⊥) → Sees v u
    unfolding H5
    edge v u l k h late = or_elim (Sees v u) (dense_or s v) from_dense (λ o. or_elim (Sees v u) (dense_or s u) (λ d. to_dense o (born_edge v u l o h) d) (λ q. inner o q (end.h5 v u l k h o q)))
      where
        from_dense : Dense s v → Sees v u
        from_dense d = or_elim (Sees v u) (dense_or s u) (λ q. both_dense d q) (λ q. absurd (late (dense_last s fronts nbrs end u v k q d)))

        inner : Ordered s v → Ordered s u → Joined s fronts v u → Sees v u
        inner o q (together e) = in_block o q (sym e)
        inner o q (neighbours a b c d) = absurd (nobody s fronts nbrs end (rep s.graph v) a)
        inner o q (in_element e a b c d) = absurd (nobody s fronts nbrs end (rep s.graph v) a)
        inner o q (behind a b) = in_front o q (born_edge v u l o h) b
        inner o q (before a b) = absurd (late (front_behind u v k l q o b))

    pub original : Original (permutation_of s.graph) nbrs rows Related
    original k b l m h =
        let i : b < n = omega (arith, perm_length s.graph (born_at s) (grown s fronts nbrs end) (placed s fronts nbrs end)) in
        (i, edge (row_at k) (row_at b) (row_in k (omega arith)) (row_in b i) h (not_before k b l i))

    -- D2
    chain : (v w u : ℕ) → v < n → w < n → u < n → (place s fronts nbrs end u < place s fronts nbrs end w → ⊥) → Sees v w → Sees v u → Sees w u
    chain v w u l j k late (both_dense a b) (both_dense c d) = both_dense b d
    chain v w u l j k late (both_dense a b) (in_block c d e) = absurd (c a)
    chain v w u l j k late (both_dense a b) (in_front c d e f) = absurd (c a)
    chain v w u l j k late (both_dense a b) (to_dense c d e) = absurd (c a)
    chain v w u l j k late (in_block a b x) (both_dense c d) = absurd (a c)
    chain v w u l j k late (in_block a b x) (in_block c d e) = in_block b d (e ∙ sym x)
    chain v w u l j k late (in_block a b x) (in_front c d e f) = in_front b d (rw x e) (rw x f)
    chain v w u l j k late (in_block a b x) (to_dense c d e) = to_dense b (rw x d) e
    chain v w u l j k late (in_front a b x y) (both_dense c d) = absurd (a c)
    chain v w u l j k late (in_front a b x y) (in_block c d e) = absurd (late (front_behind u w k j d b (rw e y)))
    chain v w u l j k late (in_front a b x y) (in_front c d e f) =
        let o = owner s fronts nbrs end v l a in
        let bw = front_born n (rep s.graph v) w o.0 o.1 j y (omega arith) in
        go bw (nested n (rep s.graph v) u w o.0 o.1 k j f y (omega arith))
      where
        go : In (rep s.graph w) (born_of s) → Nested u w → Sees w u
        go i (one_block q) = in_block b d q
        go i (first_in q) = in_front b d i q
        go i (last_in q) = absurd (late (front_behind u w k j d b q))
    chain v w u l j k late (in_front a b x y) (to_dense c d e) =
        let o = owner s fronts nbrs end v l a in
        to_dense b (front_born n (rep s.graph v) w o.0 o.1 j y (omega arith)) e
    chain v w u l j k late (to_dense a x b) (both_dense c d) = absurd (a c)
    chain v w u l j k late (to_dense a x b) (in_block c d e) = absurd (late (dense_last s fronts nbrs end u w k d b))
    chain v w u l j k late (to_dense a x b) (in_front c d e f) = absurd (late (dense_last s fronts nbrs end u w k d b))
    chain v w u l j k late (to_dense a x b) (to_dense c d e) = both_dense b e

    pub closed : Closed (permutation_of s.graph) nbrs rows Related
    closed k j x l m p q =
        (q.0, chain (row_at k) (row_at j) (row_at x) (row_in k (omega (arith, p.0))) (row_in j p.0) (row_in x q.0) (not_before j x m q.0) p.1 q.1)
