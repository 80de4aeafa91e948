-- The plan's D6: the charge of position k is at most the number of positions behind it. Besides `Ended` and `Counted` this takes that a front has no row twice, and
-- only rows that are not dense.
-- Assumes nothing.
use Prim.Native.Nat.{ℕ, suc, ◌+◌, ◌-◌, ◌≤◌, ◌<◌}
use native.Mathlib.Omega.{arith}
use mathlib.Core.Path.{◌≡◌, sym, ap, ◌∙◌, subst}
use mathlib.Core.List.{List, ◌++◌, flat_map}
use lib.Dec.{ltb}
use lib.ListN.{length, get_or, drop, length-append, length-drop}
use borrow.Author.Tests.{ltb-true, ltb-false}
use Rattle.plain.proofs.Logic.{or_elim, either}
use Rattle.plain.proofs.Members.{append_either, not_in}
use Rattle.plain.proofs.Positions.{member_drop, position_is}
use Rattle.plain.proofs.Repeats.{distinct_count_up, length_within, distinct_keep, distinct_append}
use Rattle.plain.specs.Lists.{member, position, up_to}
use Rattle.plain.specs.Members.{Distinct, In}
use Rattle.definition.specs.State.{State, element, row_count, kind, rep, degree, dense_rows, is_dense}
use Rattle.definition.specs.Tree.{postorder}
use Rattle.definition.specs.Ordering.{block_of, permutation_of}
use Rattle.facts.specs.Past.{H4}
use Rattle.facts.specs.History.{born_of, born_at, front_of}
use Rattle.facts.proofs.Family.{dense_in}
use Rattle.facts.proofs.Permuted.{perm_length, perm_has, row_at_lem, postorder_made}
use Rattle.fill.proofs.Ended.{Ended, placed, grown}
use Rattle.fill.proofs.Standing.{Ordered, place, block_owner, block_ordered, dense_last, earlier}
use Rattle.fill.proofs.System.{row_at, front_turn}
use Rattle.fill.proofs.Charged.{At, whole, row_first, charge_first, charge_last, spot_at, at_owner, at_ordered}
use Rattle.fill.proofs.Told.{Counted, distinct_block}
use Rattle.fill.specs.Charges.{charged_rest, charges}

pub record Tidy (s : State) (fronts : List (List ℕ)) : Type 0 where
  pub once : (e : ℕ) → e < row_count s.graph → kind s.graph e ≡ element → Distinct (front_of fronts e)
  pub rows : (e v : ℕ) → e < row_count s.graph → kind s.graph e ≡ element → In v (front_of fronts e) → (v < row_count s.graph) × Ordered s v

module _ (s : State) (fronts nbrs : List (List ℕ)) (end : Ended s fronts nbrs) (counted : Counted s) (tidy : Tidy s fronts) where
  abbrev n : ℕ
  n = row_count s.graph

  abbrev F : List ℕ
  F = flat_map (block_of s.graph) (postorder s.graph)

  abbrev D : List ℕ
  D = dense_rows s.graph

  -- rows without repeats that all stand behind k are no more than the positions behind k
  behind_room : (k : ℕ) → k < n → (xs : List ℕ) → Distinct xs → ((v : ℕ) → In v xs → (v < n) × (k < place s fronts nbrs end v)) → length xs ≤ n - suc k
  behind_room k l xs d h =
      omega (
        arith,
        length_within xs (drop (suc k) (permutation_of s.graph)) d
            (λ v i. let q = h v i in
            let p = position_is v (permutation_of s.graph) (perm_has s.graph (born_at s) (grown s fronts nbrs end) (placed s fronts nbrs end) v q.0) in
            subst (λ (z : ℕ). In z (drop (suc k) (permutation_of s.graph))) p.1 (member_drop (permutation_of s.graph) (suc k) (place s fronts nbrs end v) (omega (arith, q.1)) p.0)),
        length-drop (suc k) (permutation_of s.graph),
        perm_length s.graph (born_at s) (grown s fronts nbrs end) (placed s fronts nbrs end),
      )

  row_place : (k : ℕ) → k < n → place s fronts nbrs end (row_at s fronts nbrs k) ≡ k
  row_place k h = (row_at_lem s.graph (born_at s) (grown s fronts nbrs end) (placed s fronts nbrs end) k h).1

  row_inside : (k : ℕ) → k < n → row_at s fronts nbrs k < n
  row_inside k h = (row_at_lem s.graph (born_at s) (grown s fronts nbrs end) (placed s fronts nbrs end) k h).0

  distinct_dense : Distinct D
  unfolding dense_rows
  distinct_dense = distinct_keep (λ v. is_dense (kind s.graph v)) (up_to n) (distinct_count_up 0 n)

  module _ (k : ℕ) (l : k < n) (h : k < length F) (i : At s fronts nbrs end k) where
    made : (i.whose < n) × (kind s.graph i.whose ≡ element)
    made = postorder_made s.graph i.whose i.among

    rest_once : Distinct i.rest
    rest_once = i.once (distinct_block s fronts nbrs end counted i.whose made.1)

    rest_behind : (v : ℕ) → In v i.rest → (v < n) × (k < place s fronts nbrs end v)
    rest_behind v q =
        let b = i.later v q in
        let c : b.0 < n = omega (arith, b.2, whole s fronts nbrs end) in
        let e : row_at s fronts nbrs b.0 ≡ v = row_first s fronts nbrs end b.0 b.2 ∙ b.3 in
        let p : place s fronts nbrs end v ≡ b.0 = ap (λ (z : ℕ). place s fronts nbrs end z) (sym e) ∙ row_place b.0 c in
        (subst (λ (z : ℕ). z < n) e (row_inside b.0 c), omega (arith, b.1))

    front_behind : (v : ℕ) → In v (front_of fronts i.whose) → (v < n) × (k < place s fronts nbrs end v)
    front_behind v q =
        let t = tidy.rows i.whose v made.0 made.1 q in
        let o : i.whose ≡ rep s.graph (row_at s fronts nbrs k) = at_owner s fronts nbrs end k h i in
        let u = front_turn s fronts nbrs end i.whose v made.0 made.1 t.0 q in
        let p = earlier s fronts nbrs end (row_at s fronts nbrs k) v (row_inside k l) t.0 (at_ordered s fronts nbrs end k h i) t.1 (rw o at u) in
        (t.0, omega (arith, p, row_place k l))

    dense_behind : (v : ℕ) → In v D → (v < n) × (k < place s fronts nbrs end v)
    dense_behind v q =
        let d = dense_in s.graph v q in
        (d.0, omega (arith, dense_last s fronts nbrs end (row_at s fronts nbrs k) v (row_inside k l) (at_ordered s fronts nbrs end k h i) d.1, row_place k l))

    all_behind : (v : ℕ) → In v (i.rest ++ (front_of fronts i.whose ++ D)) → (v < n) × (k < place s fronts nbrs end v)
    all_behind v q =
        or_elim _ (append_either v i.rest (front_of fronts i.whose ++ D) q) (λ r. rest_behind v r)
        (λ r. or_elim _ (append_either v (front_of fronts i.whose) D r) (λ t. front_behind v t) (λ t. dense_behind v t))

    all_once : Distinct (i.rest ++ (front_of fronts i.whose ++ D))
    all_once =
        distinct_append i.rest (front_of fronts i.whose ++ D) rest_once
        (distinct_append (front_of fronts i.whose) D (tidy.once i.whose made.0 made.1) distinct_dense
        (λ v a. not_in v D (λ b. (tidy.rows i.whose v made.0 made.1 a).1 (dense_in s.graph v b).1)))
        (λ v a. not_in v (front_of fronts i.whose ++ D) (λ b. or_elim ⊥ (append_either v (front_of fronts i.whose) D b) (λ c. in_front_lem v a c)
        (λ c. block_ordered s fronts nbrs end i.whose v i.among (i.within v a) (dense_in s.graph v c).1)))
      where
        in_front_lem : (v : ℕ) → In v i.rest → In v (front_of fronts i.whose) → ⊥
        in_front_lem v a c =
            let o : i.whose ≡ rep s.graph v = block_owner s fronts nbrs end i.whose v i.among (i.within v a) in
            let t = front_turn s fronts nbrs end i.whose v made.0 made.1 (rest_behind v a).0 c in
            omega (arith, t, ap (λ (z : ℕ). position z (postorder s.graph)) o)

    element_room : get_or (charges s) k 0 ≤ n - suc k
    unfolding charged_rest H4
    element_room =
        either (get_or (charges s) k 0 ≤ n - suc k) (member i.whose (born_of s))
        (λ t. let c : get_or (charges s) k 0 ≡ degree s.graph i.whose + length D + length i.rest = charge_first s fronts nbrs end k h ∙ (rw t at i.charged) in
        omega (
          arith,
          c,
          end.h4 i.whose made.0 made.1,
          behind_room k l (i.rest ++ (front_of fronts i.whose ++ D)) all_once all_behind,
          length-append i.rest (front_of fronts i.whose ++ D),
          length-append (front_of fronts i.whose) D,
        ))
        (λ t. let c : get_or (charges s) k 0 ≡ 0 + length i.rest = charge_first s fronts nbrs end k h ∙ (rw t at i.charged) in
        omega (arith, c, behind_room k l i.rest rest_once rest_behind))

  -- D6
  pub charge_room : (k : ℕ) → k < n → get_or (charges s) k 0 ≤ n - suc k
  charge_room k l =
      either (get_or (charges s) k 0 ≤ n - suc k) (ltb k (length F))
      (λ t. let h : k < length F = ltb-true k (length F) t in element_room k l h (spot_at s fronts nbrs end k h))
      (λ t. let h : length F ≤ k = ltb-false k (length F) t in omega (arith, charge_last s fronts nbrs end k h l, whole s fronts nbrs end))
