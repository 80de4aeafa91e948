-- What the elimination leaves: the memory that belongs to a graph, and what is true of such a graph.
-- Assumes nothing.
use Rattle.std.specs.Prelude.{ℕ, ◌<◌, ◌≡◌, List, map, ℤ, pos, length, get_or}
use Rattle.std.proofs.Math.Option.{none, some}
use Rattle.plain.specs.Lists.{position}
use Rattle.plain.specs.Members.{In, Distinct}
use Rattle.plain.specs.Turns.{entries}
use Rattle.definition.specs.State.{Graph, variable, merged, element, dense, row_count, kind, weight, rep}
use Rattle.definition.specs.State as state
use Rattle.definition.specs.Tree.{size_of}
use Rattle.definition.specs.Ordering.{permutation_of, inverse_of}
use Rattle.cells.specs.Layout.{ELEN, MERGES, NV}
use Rattle.cells.specs.Links.{parent}
use Rattle.cells.specs.View.{rd, Room}

-- the memory has the graph's weights, parents and sizes, and the log of the merges: each merged row once, and what it was merged into was merged later, if at all
pub record Final (n : ℕ) (s : List ℤ) (g : Graph) (ms : List ℕ) : Type 0 where
  pub room : Room n s
  pub weights : (v : ℕ) → v < n → rd n NV s v ≡ weight g v
  pub parents : (v : ℕ) → v < n → parent n s v ≡ state.parent g v
  pub sizes : (e : ℕ) → e < n → kind g e ≡ element → rd n ELEN s e ≡ size_of g e
  pub log : entries (rd n MERGES s) 0 (length ms) ≡ ms
  pub once : Distinct ms
  pub only : (v : ℕ) → In v ms → (v < n) × (kind g v ≡ merged)
  pub has : (v : ℕ) → v < n → kind g v ≡ merged → In v ms
  pub later : (t p : ℕ) → t < length ms → state.parent g (get_or ms t 0) ≡ some p → kind g p ≡ merged → t < position p ms

-- a graph at the end: no row is a variable, parents of elements are elements of a higher rank, and a merged row's parent belongs to the same element
pub record Ended (n : ℕ) (g : Graph) (rank : ℕ → ℕ) : Type 0 where
  pub rows : row_count g ≡ n
  pub idle : (v : ℕ) → v < n → kind g v ≡ variable → ⊥
  pub above : (e p : ℕ) → e < n → kind g e ≡ element → state.parent g e ≡ some p → (p < n) × (kind g p ≡ element) × (rank e < rank p)
  pub bounded : (e : ℕ) → e < n → kind g e ≡ element → rank e < n
  pub owner : (v : ℕ) → v < n → kind g v ≡ merged → (rep g v < n) × (kind g (rep g v) ≡ element)
  pub shares : (v : ℕ) → v < n → kind g v ≡ merged → (i : ℕ) × (i < n) × (state.parent g v ≡ some i) × (rep g v ≡ rep g i)
  pub own : (v : ℕ) → v < n → kind g v ≡ element → rep g v ≡ v
  pub alone : (v : ℕ) → v < n → kind g v ≡ dense → rep g v ≡ v
  pub heavy : (v : ℕ) → v < n → kind g v ≡ element → 0 < weight g v
  pub light_merged : (v : ℕ) → v < n → kind g v ≡ merged → weight g v ≡ 0
  pub light_dense : (v : ℕ) → v < n → kind g v ≡ dense → weight g v ≡ 0
  pub free : (v : ℕ) → v < n → kind g v ≡ dense → state.parent g v ≡ none

-- what the outputs p and i become, of a memory s whose log has k merges: the permutation of every graph that the memory belongs to, and its inverse
pub record Outputs (n k : ℕ) (s p i p' i' : List ℤ) : Type 0 where
  pub given : (g : Graph) (rank : ℕ → ℕ) (ms : List ℕ) → length ms ≡ k → Final n s g ms → Ended n g rank → length p ≡ n → length i ≡ n
      → (p' ≡ map pos (permutation_of g)) × (i' ≡ map pos (inverse_of (permutation_of g)))
