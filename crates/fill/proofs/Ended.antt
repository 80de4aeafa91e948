-- What the fill bound takes of the end of a run. H0, H1, H2, H4, H5 are those of Past; the others are W1, A2, and how elements are born.
-- Discharged proves it of every run from neighbourly lists. H3 is not needed: at the end nothing is active, so that H1 says it.
-- Assumes nothing.
use Prim.Native.Nat.{ℕ, ◌<◌}
use native.Mathlib.Omega.{arith}
use mathlib.Core.Path.{◌≡◌}
use mathlib.Core.Bool.{false}
use mathlib.Core.List.{List, []}
use mathlib.Core.Option.{some}
use lib.Dec.{ltb}
use lib.ListN.{length, get_or, get_or-eq_default}
use borrow.Author.Tests.{ltb-true, ltb-false}
use Rattle.plain.proofs.Logic.{either}
use Rattle.plain.proofs.Positions.{position_below_bound}
use Rattle.plain.specs.Lists.{member}
use Rattle.plain.specs.Members.{Distinct, In}
use Rattle.definition.specs.State.{State, Kind, variable, merged, element, dense, row_count, kind, parent, rep}
use Rattle.facts.specs.Past.{H0, H1, H2, H4, H5, Owner, an_active, an_element}
use Rattle.facts.specs.History.{born_of, born_at}
use Rattle.facts.proofs.Chains.{Grown, Placed}

pub record Ended (s : State) (fronts nbrs : List (List ℕ)) : Type 0 where
  pub h0 : H0 s fronts
  pub h1 : H1 s fronts
  pub h2 : H2 s fronts
  pub h4 : H4 s fronts
  pub h5 : H5 s fronts nbrs
  -- W1
  pub kinds : length s.graph.kinds ≡ row_count s.graph
  -- A2
  pub idle : (v : ℕ) → v < row_count s.graph → kind s.graph v ≡ variable → ⊥
  -- an element is born once; who takes one up was born
  pub born_once : Distinct (born_of s)
  pub born_made : (e : ℕ) → In e (born_of s) → (e < row_count s.graph) × (kind s.graph e ≡ element)
  pub born_parent : (e p : ℕ) → e < row_count s.graph → kind s.graph e ≡ element → parent s.graph e ≡ some p → In p (born_of s)
  -- what belongs to an element that was never born is a row of degree 0
  pub lone : (v : ℕ) → v < row_count s.graph → (kind s.graph v ≡ dense → ⊥) → member (rep s.graph v) (born_of s) ≡ false → get_or nbrs v [] ≡ []
  -- the neighbours of A + A' are rows, none twice
  pub rows_once : (v : ℕ) → Distinct (get_or nbrs v [])
  pub rows_within : (v w : ℕ) → In w (get_or nbrs v []) → w < row_count s.graph

pub inside_kind : (l : List Kind) (v : ℕ) → get_or l v merged ≡ element → v < length l
inside_kind l v e = either (v < length l) (ltb v (length l)) (λ t. ltb-true v (length l) t) (λ t. absurd (clash (get_or-eq_default l merged (ltb-false v (length l) t))))
  where
    clash : get_or l v merged ≡ merged → ⊥
    clash q = let z : ◌≡◌ {A = ℕ} 0 1 = cc in omega arith

inside_variable : (l : List Kind) (v : ℕ) → get_or l v merged ≡ variable → v < length l
inside_variable l v e = either (v < length l) (ltb v (length l)) (λ t. ltb-true v (length l) t) (λ t. absurd (clash (get_or-eq_default l merged (ltb-false v (length l) t))))
  where
    clash : get_or l v merged ≡ merged → ⊥
    clash q = let z : ◌≡◌ {A = ℕ} 0 1 = cc in omega arith

module _ (s : State) (fronts nbrs : List (List ℕ)) (end : Ended s fronts nbrs) where
  pub nobody : (v : ℕ) → kind s.graph v ≡ variable → ⊥
  nobody v e = end.idle v (omega (arith, inside_variable s.graph.kinds v e, end.kinds)) e

  -- a row that is not dense belongs to an element
  pub owner : (v : ℕ) → v < row_count s.graph → (kind s.graph v ≡ dense → ⊥) → (rep s.graph v < row_count s.graph) × (kind s.graph (rep s.graph v) ≡ element)
  owner v l n = go (end.h0.owned v l n)
    where
      go : Owner s fronts (rep s.graph v) → (rep s.graph v < row_count s.graph) × (kind s.graph (rep s.graph v) ≡ element)
      go (an_active a) = absurd (nobody (rep s.graph v) a)
      go (an_element a) = (omega (arith, inside_kind s.graph.kinds (rep s.graph v) a, end.kinds), a)

  pub placed : Placed s.graph
  placed = record { idle = end.idle; owner = λ v l e. owner v l (λ q. clash e q) }
    where
      clash : {k : Kind} → k ≡ merged → k ≡ dense → ⊥
      clash p q = let z : ◌≡◌ {A = ℕ} 0 1 = cc in omega arith

  pub grown : Grown s.graph (born_at s)
  unfolding born_at
  grown = record {
    above = λ e p l q r. let m = end.born_made p (end.born_parent e p l q r) in (m.0, m.1, end.h2.later e p l q r);
    bounded = λ e l q. position_below_bound (row_count s.graph) (born_of s) end.born_once (λ x m. (end.born_made x m).0) e l;
  }
