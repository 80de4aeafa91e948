-- Where rows stand in the permutation at the end: those of an earlier element before those of a later one, dense rows last.
-- Assumes nothing.
use Prim.Native.Nat.{ℕ, ◌<◌}
use native.Mathlib.Omega.{arith}
use mathlib.Core.Path.{◌≡◌, refl, sym, ap, ◌∙◌}
use mathlib.Core.Logic.{inl, inr, ◌⊎◌}
use mathlib.Core.Bool.{◌&&◌}
use mathlib.Core.List.{List, [], ◌∷◌, flat_map}
use lib.Dec.{eqb}
use borrow.Author.Tests.{eq-eqb}
use Rattle.plain.proofs.Members.{member_up_to, member_left, member_kept, member_joined, member_flat_map}
use Rattle.plain.proofs.Positions.{position_left, position_right, position_is}
use Rattle.plain.specs.Lists.{up_to, position}
use Rattle.plain.specs.Members.{In}
use Rattle.definition.specs.State.{State, Kind, variable, merged, element, dense, row_count, kind, rep, is_merged, dense_rows}
use Rattle.definition.specs.Tree.{postorder}
use Rattle.definition.specs.Ordering.{merged_with, block_of, permutation_of}
use Rattle.facts.specs.Past.{an_element}
use Rattle.facts.specs.History.{born_at}
use Rattle.facts.proofs.Family.{OfBlock, joined, its_row, block_in, own_in}
use Rattle.facts.proofs.Permuted.{postorder_made, postorder_has}
use Rattle.facts.proofs.Blocks.{lists_order}
use Rattle.fill.proofs.Ended.{Ended, owner, nobody, placed, grown}

abbrev pub Dense : State → ℕ → Type 0
Dense s v = kind s.graph v ≡ dense

abbrev pub Ordered : State → ℕ → Type 0
Ordered s v = kind s.graph v ≡ dense → ⊥

pub dense_or : (s : State) (v : ℕ) → ((Dense s v) ⊎ (Ordered s v))
dense_or s v = go (kind s.graph v) refl
  where
    clash : {k : Kind} → k ≡ variable → k ≡ dense → ⊥
    clash p q = let z : ◌≡◌ {A = ℕ} 0 1 = cc in omega arith

    clash_m : {k : Kind} → k ≡ merged → k ≡ dense → ⊥
    clash_m p q = let z : ◌≡◌ {A = ℕ} 0 1 = cc in omega arith

    clash_e : {k : Kind} → k ≡ element → k ≡ dense → ⊥
    clash_e p q = let z : ◌≡◌ {A = ℕ} 0 1 = cc in omega arith

    go : (k : Kind) → kind s.graph v ≡ k → ((Dense s v) ⊎ (Ordered s v))
    go variable e = inr (clash e)
    go merged e = inr (clash_m e)
    go element e = inr (clash_e e)
    go dense e = inl e

module _ (s : State) (fronts nbrs : List (List ℕ)) (end : Ended s fronts nbrs) where
  -- the elements' blocks, one after the other
  abbrev pub blocks : List ℕ
  blocks = flat_map (block_of s.graph) (postorder s.graph)

  pub in_block : (v : ℕ) → v < row_count s.graph → Ordered s v → In v (block_of s.graph (rep s.graph v))
  unfolding block_of merged_with
  in_block v l o = go (kind s.graph v) refl
    where
      go : (k : Kind) → kind s.graph v ≡ k → In v (block_of s.graph (rep s.graph v))
      go variable e = absurd (nobody s fronts nbrs end v e)
      go merged e =
          member_left v (merged_with s.graph (rep s.graph v)) (rep s.graph v ∷ [])
          (member_kept v (λ x. is_merged (kind s.graph x) && eqb (rep s.graph v) (rep s.graph x)) (up_to (row_count s.graph)) (rw e (eq-eqb (rep s.graph v) (rep s.graph v) refl)) (member_up_to v (row_count s.graph) l))
      go element e = let q : rep s.graph v ≡ v = end.h0.own v l (an_element e) in rw q (own_in s.graph v)
      go dense e = absurd (o e)

  pub owner_in : (v : ℕ) → v < row_count s.graph → Ordered s v → In (rep s.graph v) (postorder s.graph)
  owner_in v l o =
      let w = owner s fronts nbrs end v l o in
      postorder_has s.graph (born_at s) (grown s fronts nbrs end) (placed s fronts nbrs end) (rep s.graph v) w.0 w.1

  pub block_owner : (e v : ℕ) → In e (postorder s.graph) → In v (block_of s.graph e) → e ≡ rep s.graph v
  block_owner e v i h = go (block_in s.graph e v h)
    where
      go : OfBlock s.graph e v → e ≡ rep s.graph v
      go (joined a b c) = c
      go (its_row a) =
          let m = postorder_made s.graph e i in
          sym (ap (λ (z : ℕ). rep s.graph z) a ∙ end.h0.own e m.0 (an_element m.1))

  pub block_ordered : (e v : ℕ) → In e (postorder s.graph) → In v (block_of s.graph e) → Ordered s v
  block_ordered e v i h = go (block_in s.graph e v h)
    where
      clash_m : {k : Kind} → k ≡ merged → k ≡ dense → ⊥
      clash_m p q = let z : ◌≡◌ {A = ℕ} 0 1 = cc in omega arith

      clash_e : {k : Kind} → k ≡ element → k ≡ dense → ⊥
      clash_e p q = let z : ◌≡◌ {A = ℕ} 0 1 = cc in omega arith

      go : OfBlock s.graph e v → Ordered s v
      go (joined a b c) = clash_m b
      go (its_row a) = clash_e (ap (λ (z : ℕ). kind s.graph z) a ∙ (postorder_made s.graph e i).1)

  pub in_blocks : (v : ℕ) → v < row_count s.graph → Ordered s v → In v blocks
  in_blocks v l o = member_joined v (rep s.graph v) (block_of s.graph) (postorder s.graph) (owner_in v l o) (in_block v l o)

  pub blocks_ordered : (v : ℕ) → In v blocks → Ordered s v
  blocks_ordered v h = let i = member_flat_map v (block_of s.graph) (postorder s.graph) h in block_ordered i.0 v i.1 i.2

  -- ---- positions

  abbrev pub place : ℕ → ℕ
  place v = position v (permutation_of s.graph)

  pub dense_last : (u w : ℕ) → u < row_count s.graph → Ordered s u → Dense s w → place u < place w
  unfolding permutation_of
  dense_last u w l o d =
      let i = in_blocks u l o in
      omega (
        arith,
        position_left u blocks (dense_rows s.graph) i,
        (position_is u blocks i).0,
        position_right w blocks (dense_rows s.graph) (λ m. blocks_ordered w m d),
      )

  pub earlier : (u w : ℕ) → u < row_count s.graph → w < row_count s.graph → Ordered s u → Ordered s w
      → position (rep s.graph u) (postorder s.graph) < position (rep s.graph w) (postorder s.graph) → place u < place w
  unfolding permutation_of
  earlier u w k l o q h =
      omega (
        arith,
        position_left u blocks (dense_rows s.graph) (in_blocks u k o),
        position_left w blocks (dense_rows s.graph) (in_blocks w l q),
        lists_order (block_of s.graph) u w (rep s.graph u) (rep s.graph w) (postorder s.graph) (λ x. block_owner x u) (λ x. block_owner x w) (in_block u k o) h,
      )
