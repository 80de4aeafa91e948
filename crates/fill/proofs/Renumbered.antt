-- Lemma S of the plan, of a graph and a permutation: its two conditions said of the graph.
-- Assumes nothing.
use Prim.Native.Nat.{ℕ, zero, suc, ◌+◌, ◌≤◌, ◌<◌}
use native.Mathlib.Omega.{arith}
use mathlib.Core.Path.{◌≡◌, refl, sym, ap, ◌∙◌, subst}
use mathlib.Core.Bool.{false≢true}
use mathlib.Core.List.{List, [], ◌∷◌, map}
use lib.ListN.{length, get_or}
use Rattle.plain.proofs.Members.{map_was, not_in, member_first, member_there, no_member}
use Rattle.plain.proofs.Positions.{position_is}
use Rattle.plain.specs.Lists.{member, position, total, up_to}
use Rattle.plain.specs.Members.{Distinct, In}
use Rattle.definition.specs.Cholesky.{renumbered, counts}
use Rattle.fill.proofs.Under.{Under, under_at, under_total}
use Rattle.fill.proofs.Sparse.{Kept, Cover, lemma_s}

map_has : (P : List ℕ → Type 0) (f : ℕ → List ℕ) (l : List ℕ) (k : ℕ) → P [] → (k < length l → P (f (get_or l k 0))) → P (get_or (map f l) k [])
map_has P f [] k p q = p
map_has P f (x ∷ l) zero p q = q (omega arith)
map_has P f (x ∷ l) (suc k) p q = map_has P f l k p (λ h. q (omega arith))

distinct_positions : (perm ws : List ℕ) → Distinct ws → ((w : ℕ) → In w ws → In w perm) → Distinct (map (λ w. position w perm) ws)
distinct_positions perm [] d h = tt
distinct_positions perm (x ∷ xs) d h = (
  not_in (position x perm) (map (λ w. position w perm) xs) (λ e. twice (map_was (λ w. position w perm) (position x perm) xs e)),
  distinct_positions perm xs d.1 (λ w k. h w (member_there w x xs k)),
)
  where
    twice : ((y : ℕ) × In y xs × (position x perm ≡ position y perm)) → ⊥
    twice r =
        let a : get_or perm (position x perm) 0 ≡ x = (position_is x perm (h x (member_first x x xs refl))).1 in
        let b : get_or perm (position r.0 perm) 0 ≡ r.0 = (position_is r.0 perm (h r.0 (member_there r.0 x xs r.1))).1 in
        let q : x ≡ r.0 = sym a ∙ ap (λ (i : ℕ). get_or perm i 0) r.2 ∙ b in
        false≢true (sym d.0 ∙ ap (λ (z : ℕ). member z xs) q ∙ r.1)

-- a graph on the rows of the permutation: no neighbour twice
pub record Rows (perm : List ℕ) (nbrs : List (List ℕ)) : Type 0 where
  pub once : (v : ℕ) → Distinct (get_or nbrs v [])
  pub within : (v w : ℕ) → In w (get_or nbrs v []) → In w perm

module _ (perm : List ℕ) (nbrs : List (List ℕ)) (rows : Rows perm nbrs) (S : ℕ → ℕ → Type 0) where
  -- (1): positions k < b whose rows are neighbours are related
  abbrev pub Original : Type 0
  Original = (k b : ℕ) → k < b → b < length perm → In (get_or perm b 0) (get_or nbrs (get_or perm k 0) []) → S k b

  -- (2): two positions that one before them is related to are related
  abbrev pub Closed : Type 0
  Closed = (k j x : ℕ) → k < j → j < x → S k j → S k x → S j x

  kept : Original → Kept S (renumbered perm nbrs)
  unfolding renumbered
  kept orig = record {
    once = λ a. map_has Distinct (λ v. map (λ w. position w perm) (get_or nbrs v [])) perm a tt
        (λ l. distinct_positions perm (get_or nbrs (get_or perm a 0) []) (rows.once (get_or perm a 0)) (λ w. rows.within (get_or perm a 0) w));
    inside = λ a b l. map_has (λ xs. In b xs → S a b) (λ v. map (λ w. position w perm) (get_or nbrs v [])) perm a (λ h. absurd (nothing b h))
        (λ m h. related a b l (map_was (λ w. position w perm) b (get_or nbrs (get_or perm a 0) []) h));
  }
    where
      nothing : (b : ℕ) → In b [] → ⊥
      nothing b h = no_member b h

      related : (a b : ℕ) → a < b → ((w : ℕ) × In w (get_or nbrs (get_or perm a 0) []) × (b ≡ position w perm)) → S a b
      related a b l r =
          let i = position_is r.0 perm (rows.within (get_or perm a 0) r.0 r.1) in
          let q : get_or perm b 0 ≡ r.0 = ap (λ (z : ℕ). get_or perm z 0) r.2 ∙ i.1 in
          orig a b l (omega (arith, i.0, r.2)) (rw q r.1)

  module _ (orig : Original) (closed : Closed) where
    module _ (bound : ℕ → ℕ) (cover : (k : ℕ) → Cover S closed (bound k) k) where
      pub counts_length : length (counts perm nbrs) ≡ length perm
      counts_length = (lemma_s S closed bound cover perm nbrs (kept orig)).0

      pub counts_under : Under bound 0 (counts perm nbrs)
      counts_under = (lemma_s S closed bound cover perm nbrs (kept orig)).1

      pub count_at : (k : ℕ) → k < length perm → get_or (counts perm nbrs) k 0 ≤ bound k
      count_at k h =
          let i : k < length (counts perm nbrs) = omega (arith, counts_length) in
          let e : 0 + k ≡ k = omega arith in
          subst (λ (z : ℕ). get_or (counts perm nbrs) k 0 ≤ bound z) e (under_at bound 0 (counts perm nbrs) k counts_under i)

      pub total_under : (w : ℕ → ℕ) → ((x y : ℕ) → x ≤ y → w x ≤ w y) → total w (counts perm nbrs) ≤ total (λ k. w (bound k)) (up_to (length perm))
      total_under w mono = let e : length (counts perm nbrs) ≡ length perm = counts_length in rw e at (under_total bound w mono 0 (counts perm nbrs) counts_under)

    -- the k-th count is at most the length of any list that has all that k is related to
    pub count_listed : (L : ℕ → List ℕ) → ((k b : ℕ) → k < b → S k b → In b (L k)) → (k : ℕ) → k < length perm → get_or (counts perm nbrs) k 0 ≤ length (L k)
    count_listed L covers k h = count_at (λ z. length (L z)) (λ z. record { list = L z; short = omega arith; covers = covers z }) k h
