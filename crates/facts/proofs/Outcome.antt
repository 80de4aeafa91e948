-- The end of every run from neighbourly lists: nothing is a variable, each row that is not dense belongs to an element, the elements are a forest, and so P1, P2 and P5:
-- the postorder has each element once, children first, and the permutation is one, with its inverse.
-- Assumes nothing.
use Prim.Native.Nat.{ℕ, ◌<◌}
use native.Mathlib.Omega.{arith}
use mathlib.Core.Path.{◌≡◌, ap, ◌∙◌}
use mathlib.Core.Bool.{Bool, false}
use mathlib.Core.List.{List, [], map}
use mathlib.Core.Option.{some}
use lib.ListN.{length, get_or}
use Rattle.plain.proofs.Logic.{clash}
use Rattle.plain.proofs.Permutations.{inverse_of_lem, of_inverse, positions_permutation}
use Rattle.plain.proofs.Positions.{position_below_bound}
use Rattle.plain.specs.Lists.{member, position, up_to}
use Rattle.plain.specs.Members.{In, Distinct, count}
use Rattle.plain.specs.Permutations.{Permutation}
use Rattle.definition.specs.State.{Graph, State, Kind, variable, merged, element, dense, row_count, kind, parent, rep, is_variable, is_merged, is_element, is_dense}
use Rattle.definition.specs.Elimination.{final_state}
use Rattle.definition.specs.Ordering.{permutation_of, inverse_of}
use Rattle.definition.specs.Tree.{postorder}
use Rattle.facts.proofs.Belonging.{Holds, as_variable, as_element, Shares}
use Rattle.facts.proofs.Chains.{Grown, Placed}
use Rattle.facts.proofs.Ended.{no_variable}
use Rattle.facts.proofs.Enlisted.{final_gone}
use Rattle.facts.proofs.Family.{is_element_lem}
use Rattle.facts.proofs.Invariant.{element_inside}
use Rattle.facts.proofs.Past.{not_dense}
use Rattle.facts.proofs.Permuted.{perm_length, perm_inside, perm_distinct, postorder_made, postorder_has, postorder_once, postorder_distinct}
use Rattle.facts.proofs.Postorder.{child_first}
use Rattle.facts.proofs.Recorded.{Recorded}
use Rattle.facts.proofs.Remembered.{recorded_final}
use Rattle.facts.proofs.Start.{Neighbourly}
use Rattle.facts.specs.History.{history, born_of, born_at}

module _ (limit : ℕ) (nbrs : List (List ℕ)) (nb : Neighbourly nbrs) (key_of : ℕ → ℕ) (aggressive : Bool) where
  abbrev s : State
  s = final_state key_of aggressive limit nbrs

  abbrev g : Graph
  g = (final_state key_of aggressive limit nbrs).graph

  abbrev fs : List (List ℕ)
  fs = history key_of aggressive limit nbrs

  told : Recorded (length nbrs) nbrs s fs
  told = recorded_final limit nbrs nb key_of aggressive

  pub final_rows : row_count g ≡ length nbrs
  final_rows = told.inv.graph.sized.weights

  -- A2
  pub final_idle : (v : ℕ) → kind g v ≡ variable → ⊥
  final_idle v e = clash (is_variable (kind g v)) (ap is_variable e) (no_variable s told.inv (final_gone limit nbrs nb key_of aggressive) v)

  pub final_owner : (v : ℕ) → v < row_count g → (kind g v ≡ dense → ⊥) → (rep g v < row_count g) × (kind g (rep g v) ≡ element)
  final_owner v l d = go (told.belonging.owned v (omega (arith, final_rows)) (not_dense s fs told v d))
    where
      go : Holds g (rep g v) → (rep g v < row_count g) × (kind g (rep g v) ≡ element)
      go (as_variable h) = clash (is_variable (kind g (rep g v))) h (no_variable s told.inv (final_gone limit nbrs nb key_of aggressive) (rep g v))
      go (as_element h) = (omega (arith, final_rows, element_inside told.inv.graph (rep g v) h), is_element_lem (kind g (rep g v)) h)

  -- a merged row has a parent, which belongs to the same element: so parents lead to it (P6)
  pub final_shares : (v : ℕ) → v < row_count g → kind g v ≡ merged → Shares (length nbrs) g v
  final_shares v l e = told.belonging.shares v (omega (arith, final_rows)) (ap is_merged e)

  -- a dense row belongs to itself
  pub final_alone : (v : ℕ) → v < row_count g → kind g v ≡ dense → rep g v ≡ v
  final_alone v l d = told.belonging.alone v (omega (arith, final_rows)) (ap is_dense d)

  -- ---- how elements are born

  pub final_born_once : Distinct (born_of s)
  final_born_once = told.raised.once

  pub final_born_made : (e : ℕ) → In e (born_of s) → (e < row_count g) × (kind g e ≡ element)
  final_born_made e m =
      let h = told.raised.made e m in
      (omega (arith, final_rows, element_inside told.inv.graph e h), is_element_lem (kind g e) h)

  pub final_born_parent : (e p : ℕ) → e < row_count g → kind g e ≡ element → parent g e ≡ some p → In p (born_of s)
  final_born_parent e p l h r = told.raised.above e p (ap is_element h) r

  -- what belongs to an element that was never born is a row of degree 0
  pub final_lone : (v : ℕ) → v < row_count g → (kind g v ≡ dense → ⊥) → member (rep g v) (born_of s) ≡ false → get_or nbrs v [] ≡ []
  final_lone v l d m = told.lone v (omega (arith, final_rows)) (ap is_element (final_owner v l d).1) m

  -- ---- the forest

  pub final_grown : Grown g (born_at s)
  unfolding born_at
  final_grown = record {
    above = λ e p l h r. let m = final_born_made p (final_born_parent e p l h r) in (m.0, m.1, told.raised.later e p (ap is_element h) r);
    bounded = λ e l h. position_below_bound (row_count g) (born_of s) final_born_once (λ x m. (final_born_made x m).0) e l;
  }

  pub final_placed : Placed g
  final_placed = record { idle = λ v l e. final_idle v e; owner = λ v l e. final_owner v l (λ d. merged_dense e d) }
    where
      merged_dense : {k : Kind} → k ≡ merged → k ≡ dense → ⊥
      merged_dense a b = let z : ◌≡◌ {A = ℕ} 0 1 = cc in omega arith

  -- P1: the postorder has each element once, and nothing else
  pub final_postorder : (e : ℕ) → e < row_count g → kind g e ≡ element → count e (postorder g) ≡ 1
  final_postorder = postorder_once g (born_at s) final_grown final_placed

  pub final_postorder_made : (e : ℕ) → In e (postorder g) → (e < row_count g) × (kind g e ≡ element)
  final_postorder_made = postorder_made g

  pub final_postorder_distinct : Distinct (postorder g)
  final_postorder_distinct = postorder_distinct g (born_at s) final_grown final_placed

  -- P2: children before parents
  pub final_children_first : (c p : ℕ) → c < row_count g → kind g c ≡ element → parent g c ≡ some p → position c (postorder g) < position p (postorder g)
  final_children_first c p l h r =
      let a = final_grown.above c p l h r in
      child_first g (born_at s) final_grown c p (record { inside = l; made = h; below = r }) (postorder_has g (born_at s) final_grown final_placed p a.0 a.1)

  -- P5
  pub final_permutation : Permutation (length nbrs) (permutation_of g)
  final_permutation = record {
    size = perm_length g (born_at s) final_grown final_placed ∙ final_rows;
    below = λ x m. omega (arith, final_rows, perm_inside g (born_at s) final_grown final_placed x m);
    once = perm_distinct g (born_at s) final_grown final_placed;
  }

  inverse_is : inverse_of (permutation_of g) ≡ map (λ v. position v (permutation_of g)) (up_to (length nbrs))
  unfolding inverse_of
  inverse_is = ap (λ (k : ℕ). map (λ v. position v (permutation_of g)) (up_to k)) final_permutation.size

  pub final_inverse : Permutation (length nbrs) (inverse_of (permutation_of g))
  final_inverse = rw inverse_is (positions_permutation (length nbrs) (permutation_of g) final_permutation)

  pub final_inverse_first : (k : ℕ) → k < length nbrs → get_or (inverse_of (permutation_of g)) (get_or (permutation_of g) k 0) 0 ≡ k
  final_inverse_first k l = ap (λ (m : List ℕ). get_or m (get_or (permutation_of g) k 0) 0) inverse_is ∙ inverse_of_lem (length nbrs) (permutation_of g) final_permutation k l

  pub final_inverse_then : (v : ℕ) → v < length nbrs → get_or (permutation_of g) (get_or (inverse_of (permutation_of g)) v 0) 0 ≡ v
  final_inverse_then v l = ap (λ (m : List ℕ). get_or (permutation_of g) (get_or m v 0) 0) inverse_is ∙ of_inverse (length nbrs) (permutation_of g) final_permutation v l
