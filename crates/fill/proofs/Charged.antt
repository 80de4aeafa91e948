-- The plan's D4, and the bound: what position k is related to has at most `charges` at k entries, so that the k-th count is at most the k-th charge.
-- Assumes nothing.
use Prim.Native.Nat.{ℕ, suc, ◌+◌, ◌-◌, ◌≤◌, ◌<◌}
use native.Mathlib.Omega.{arith}
use mathlib.Core.Path.{◌≡◌, sym, ap, ◌∙◌, subst}
use mathlib.Core.Logic.{inl, inr, ◌⊎◌}
use mathlib.Core.Bool.{true, false, false≢true}
use mathlib.Core.List.{List, [], ◌++◌, map, flat_map}
use lib.Dec.{ltb}
use lib.ListN.{length, get_or, drop, length-append, length-drop, length-map, get_or-append}
use borrow.Author.Tests.{ltb-true, ltb-false}
use Rattle.plain.proofs.Falling.{length_fall_to, get_or_fall_to}
use Rattle.plain.proofs.Logic.{either}
use Rattle.plain.proofs.Members.{member_left, member_right, member_map}
use Rattle.plain.proofs.Positions.{get_or_behind, member_drop, member_get_or}
use Rattle.plain.specs.Lists.{fall_to, member, total, itself, up_to}
use Rattle.plain.specs.Members.{In}
use Rattle.definition.specs.State.{State, row_count, rep, degree, dense_rows}
use Rattle.definition.specs.Tree.{postorder}
use Rattle.definition.specs.Ordering.{block_of, permutation_of}
use Rattle.definition.specs.Cholesky.{counts, fill}
use Rattle.facts.specs.Past.{H4}
use Rattle.facts.specs.History.{born_of, born_at, front_of}
use Rattle.facts.proofs.Family.{dense_in, in_dense}
use Rattle.facts.proofs.Permuted.{perm_length, row_at_lem, postorder_made, postorder_distinct}
use Rattle.fill.proofs.Under.{total_places}
use Rattle.fill.proofs.Sparse.{Cover}
use Rattle.fill.proofs.Renumbered.{count_at, total_under}
use Rattle.fill.proofs.Ended.{Ended, placed, grown}
use Rattle.fill.proofs.Standing.{Ordered, place, block_owner, block_ordered}
use Rattle.fill.proofs.Spots.{Spot, spot, falls, length_falls}
use Rattle.fill.proofs.System.{Sees, both_dense, in_block, in_front, to_dense, row_at, Related, rows, original, closed}
use Rattle.fill.specs.Charges.{charged_rest, charges}

module _ (s : State) (fronts nbrs : List (List ℕ)) (end : Ended s fronts nbrs) where
  abbrev n : ℕ
  n = row_count s.graph

  abbrev F : List ℕ
  F = flat_map (block_of s.graph) (postorder s.graph)

  abbrev D : List ℕ
  D = dense_rows s.graph

  abbrev C : List ℕ
  C = falls (block_of s.graph) (charged_rest s) (postorder s.graph)

  abbrev pub At : ℕ → Type 0
  At k = Spot (block_of s.graph) (charged_rest s) (rep s.graph) (postorder s.graph) k

  pub whole : length F + length D ≡ n
  unfolding permutation_of
  whole = sym (length-append F D) ∙ perm_length s.graph (born_at s) (grown s fronts nbrs end) (placed s fronts nbrs end)

  -- ---- the two parts of the permutation, and of the charges

  pub row_first : (k : ℕ) → k < length F → row_at s fronts nbrs k ≡ get_or F k 0
  unfolding permutation_of
  row_first k h = get_or-append F D 0 k h

  row_last : (k : ℕ) → length F ≤ k → row_at s fronts nbrs k ≡ get_or D (k - length F) 0
  unfolding permutation_of
  row_last k h = get_or_behind F D 0 k h

  pub charge_first : (k : ℕ) → k < length F → get_or (charges s) k 0 ≡ get_or C k 0
  unfolding charges
  charge_first k h =
      let m : k < length C = omega (arith, length_falls (block_of s.graph) (charged_rest s) (postorder s.graph)) in
      get_or-append C (fall_to 0 (length D)) 0 k m

  pub charge_last : (k : ℕ) → length F ≤ k → k < n → get_or (charges s) k 0 ≡ length D - suc (k - length F)
  unfolding charges
  charge_last k h l =
      let e : length C ≡ length F = length_falls (block_of s.graph) (charged_rest s) (postorder s.graph) in
      let a : length C ≤ k = omega arith in
      get_or_behind C (fall_to 0 (length D)) 0 k a ∙ ap (λ (z : ℕ). get_or (fall_to 0 (length D)) (k - z) 0) e
      ∙ get_or_fall_to 0 (length D) (k - length F) (omega (arith, whole)) ∙ omega arith

  pub charges_length : length (charges s) ≡ n
  unfolding charges
  charges_length =
      length-append C (fall_to 0 (length D))
      ∙ omega (arith, whole, length_falls (block_of s.graph) (charged_rest s) (postorder s.graph), length_fall_to 0 (length D))

  pub spot_at : (k : ℕ) → k < length F → At k
  spot_at k h =
      spot (block_of s.graph) (charged_rest s) (rep s.graph) (postorder s.graph) (λ e v i j. block_owner s fronts nbrs end e v i j)
      (postorder_distinct s.graph (born_at s) (grown s fronts nbrs end) (placed s fronts nbrs end)) k h

  -- ---- rows that have all that the row at k is related to

  record Rest (k : ℕ) : Type 0 where
    list : List ℕ
    short : length list ≤ get_or (charges s) k 0
    covers : (b : ℕ) → k < b → b < n → Sees s fronts nbrs (row_at s fronts nbrs k) (row_at s fronts nbrs b) → In (row_at s fronts nbrs b) list

  row_inside : (b : ℕ) → b < n → row_at s fronts nbrs b < n
  row_inside b h = (row_at_lem s.graph (born_at s) (grown s fronts nbrs end) (placed s fronts nbrs end) b h).0

  last_dense : (b : ℕ) → length F ≤ b → b < n → In (row_at s fronts nbrs b) D
  last_dense b l h = rw (row_last b l) (member_get_or D (b - length F) (omega (arith, whole)))

  module _ (k : ℕ) (h : k < length F) (i : At k) where
    pub at_owner : i.whose ≡ rep s.graph (row_at s fronts nbrs k)
    at_owner = rw (row_first k h) (block_owner s fronts nbrs end i.whose (get_or F k 0) i.among i.stands)

    pub at_ordered : Ordered s (row_at s fronts nbrs k)
    at_ordered = rw (row_first k h) (block_ordered s fronts nbrs end i.whose (get_or F k 0) i.among i.stands)

    -- a row of the same element is one of the rest of the block
    of_block : (b : ℕ) → k < b → b < n → Ordered s (row_at s fronts nbrs b) → rep s.graph (row_at s fronts nbrs b) ≡ rep s.graph (row_at s fronts nbrs k) → In (row_at s fronts nbrs b) i.rest
    of_block b l m o q =
        either (In (row_at s fronts nbrs b) i.rest) (ltb b (length F))
        (λ t. let a : b < length F = ltb-true b (length F) t in
        let e : row_at s fronts nbrs b ≡ get_or F b 0 = row_first b a in
        rw e (i.covers b l a (ap (λ (z : ℕ). rep s.graph z) (sym e) ∙ q ∙ sym at_owner)))
        (λ t. absurd (o (dense_in s.graph (row_at s fronts nbrs b) (last_dense b (ltb-false b (length F) t) m)).1))

    rest_born : member i.whose (born_of s) ≡ true → Rest k
    unfolding charged_rest H4
    rest_born t = record {
      list = i.rest ++ (front_of fronts i.whose ++ D);
      short =
          let made = postorder_made s.graph i.whose i.among in
          let c : get_or C k 0 ≡ degree s.graph i.whose + length D + length i.rest = rw t at i.charged in
          omega (
            arith,
            c,
            charge_first k h,
            end.h4 i.whose made.0 made.1,
            length-append i.rest (front_of fronts i.whose ++ D),
            length-append (front_of fronts i.whose) D,
          );
      covers = λ b l m q. go b l m q;
    }
      where
        go : (b : ℕ) → k < b → b < n → Sees s fronts nbrs (row_at s fronts nbrs k) (row_at s fronts nbrs b) → In (row_at s fronts nbrs b) (i.rest ++ (front_of fronts i.whose ++ D))
        go b l m (both_dense x y) = absurd (at_ordered x)
        go b l m (in_block x y z) = member_left (row_at s fronts nbrs b) i.rest (front_of fronts i.whose ++ D) (of_block b l m y z)
        go b l m (in_front x y z w) =
            member_right (row_at s fronts nbrs b) i.rest (front_of fronts i.whose ++ D) (member_left (row_at s fronts nbrs b) (front_of fronts i.whose) D (rw at_owner w))
        go b l m (to_dense x y z) =
            member_right (row_at s fronts nbrs b) i.rest (front_of fronts i.whose ++ D)
            (member_right (row_at s fronts nbrs b) (front_of fronts i.whose) D (in_dense s.graph (row_at s fronts nbrs b) (row_inside b m) z))

    rest_lone : member i.whose (born_of s) ≡ false → Rest k
    unfolding charged_rest
    rest_lone t = record {
      list = i.rest;
      short = let c : get_or C k 0 ≡ 0 + length i.rest = rw t at i.charged in omega (arith, c, charge_first k h);
      covers = λ b l m q. go b l m q;
    }
      where
        none : In (rep s.graph (row_at s fronts nbrs k)) (born_of s) → ⊥
        none e = false≢true (sym t ∙ ap (λ (z : ℕ). member z (born_of s)) at_owner ∙ e)

        go : (b : ℕ) → k < b → b < n → Sees s fronts nbrs (row_at s fronts nbrs k) (row_at s fronts nbrs b) → In (row_at s fronts nbrs b) i.rest
        go b l m (both_dense x y) = absurd (at_ordered x)
        go b l m (in_block x y z) = of_block b l m y z
        go b l m (in_front x y z w) = absurd (none z)
        go b l m (to_dense x y z) = absurd (none y)

  rest_dense : (k : ℕ) → length F ≤ k → k < n → Rest k
  rest_dense k h l = record {
    list = drop (suc (k - length F)) D;
    short = omega (arith, charge_last k h l, length-drop (suc (k - length F)) D);
    covers = λ b m p q.
        let a : length F ≤ b = omega arith in
        rw (row_last b a) (member_drop D (suc (k - length F)) (b - length F) (omega arith) (omega (arith, whole)));
  }

  rest_at : (k : ℕ) → k < n → Rest k
  rest_at k l =
      either (Rest k) (ltb k (length F))
      (λ t. let h : k < length F = ltb-true k (length F) t in
      let i = spot_at k h in
      either (Rest k) (member i.whose (born_of s)) (λ q. rest_born k h i q) (λ q. rest_lone k h i q))
      (λ t. rest_dense k (ltb-false k (length F) t) l)

  -- D4
  cover : (k : ℕ) → Cover (Related s fronts nbrs) (closed s fronts nbrs end) (get_or (charges s) k 0) k
  cover k =
      either (Cover (Related s fronts nbrs) (closed s fronts nbrs end) (get_or (charges s) k 0) k) (ltb k n)
      (λ t. from (rest_at k (ltb-true k n t)))
      (λ t. record { list = []; short = omega arith; covers = λ b l q. absurd (omega (arith, ltb-false k n t, q.0)) })
    where
      from : Rest k → Cover (Related s fronts nbrs) (closed s fronts nbrs end) (get_or (charges s) k 0) k
      from r = record {
        list = map (λ v. place s fronts nbrs end v) r.list;
        short = omega (arith, length-map r.list (λ v. place s fronts nbrs end v), r.short);
        covers = λ b l q.
            let e : place s fronts nbrs end (row_at s fronts nbrs b) ≡ b = (row_at_lem s.graph (born_at s) (grown s fronts nbrs end) (placed s fronts nbrs end) b q.0).1 in
            subst (λ (z : ℕ). In z (map (λ v. place s fronts nbrs end v) r.list)) e
            (member_map (λ v. place s fronts nbrs end v) (row_at s fronts nbrs b) r.list (r.covers b l q.0 q.1));
      }

  -- a charge is below its element's pivots and what remains, or below the dense rows
  pub charge_bound : (k : ℕ) → k < row_count s.graph
      → (((e : ℕ) × In e (postorder s.graph) × (suc (get_or (charges s) k 0) ≤ charged_rest s e + length (block_of s.graph e))) ⊎ (suc (get_or (charges s) k 0) ≤ length (dense_rows s.graph)))
  charge_bound k l =
      either ((((e : ℕ) × In e (postorder s.graph) × (suc (get_or (charges s) k 0) ≤ charged_rest s e + length (block_of s.graph e))) ⊎ (suc (get_or (charges s) k 0) ≤ length (dense_rows s.graph)))) (ltb k (length F))
      (λ t. let h : k < length F = ltb-true k (length F) t in
      let i = spot_at k h in
      inl (i.whose, i.among, omega (arith, charge_first k h, i.charged, i.fits)))
      (λ t. let h : length F ≤ k = ltb-false k (length F) t in inr (omega (arith, charge_last k h l, whole)))

  -- the k-th count is at most the k-th charge
  pub count_charge : (k : ℕ) → k < n → get_or (counts (permutation_of s.graph) nbrs) k 0 ≤ get_or (charges s) k 0
  count_charge k l =
      count_at (permutation_of s.graph) nbrs (rows s fronts nbrs end) (Related s fronts nbrs) (original s fronts nbrs end) (closed s fronts nbrs end) (λ z. get_or (charges s) z 0) cover k
      (omega (arith, perm_length s.graph (born_at s) (grown s fronts nbrs end) (placed s fronts nbrs end)))

  -- so of every sum of what grows with the count
  pub counts_charges : (w : ℕ → ℕ) → ((x y : ℕ) → x ≤ y → w x ≤ w y) → total w (counts (permutation_of s.graph) nbrs) ≤ total w (charges s)
  counts_charges w mono =
      let e : length (permutation_of s.graph) ≡ length (charges s) = perm_length s.graph (born_at s) (grown s fronts nbrs end) (placed s fronts nbrs end) ∙ sym charges_length in
      let a = total_under (permutation_of s.graph) nbrs (rows s fronts nbrs end) (Related s fronts nbrs) (original s fronts nbrs end) (closed s fronts nbrs end) (λ z. get_or (charges s) z 0) cover w mono in
      omega (
        arith,
        a,
        ap (λ (z : ℕ). total (λ k. w (get_or (charges s) k 0)) (up_to z)) e,
        total_places w (λ k. get_or (charges s) k 0) (charges s) 0 (λ i h. let q : 0 + i ≡ i = omega arith in ap (λ (z : ℕ). get_or (charges s) z 0) q),
      )

  pub fill_charges : fill (permutation_of s.graph) nbrs ≤ total itself (charges s)
  unfolding fill
  fill_charges = counts_charges itself (λ x y h. h)
