-- What each function does to the memory, step by step: the code's own steps, as functions. The laws of `proofs/` say what these mean for the graph.
-- Assumes nothing.
use Rattle.std.specs.Prelude.{ℕ, ◌+◌, ◌-◌, min, cond, List, ltb, ℤ, length}
use Rattle.plain.specs.Turns.{times}
use Rattle.cells.specs.Layout.{LEN, WANT, ELEN, DEGREE, W, NV}
use Rattle.cells.specs.Rows.{clipped}
use Rattle.cells.specs.View.{at, rd, up, plus}
use Rattle.cells.specs.Links.{named, hang}
use Rattle.chain.specs.Model.{pushed}

-- the smaller of what the new element and what all that is left allow, the row itself not counted
unfoldable pub degree_of : ℕ → ℕ → ℕ → ℕ → ℕ
degree_of old size left own = min (old + size - own) (left - own)

-- ---- the survivors

-- the scratch, and the least degree
pub record Spot : Type 0 where
  pub mem : List ℤ
  pub least : ℕ

abbrev pub spot : List ℤ → ℕ → Spot
spot s d = record { mem = s; least = d }

-- row i, of weight own, is wanted again, and goes to the front of list d
unfoldable pub enlisted_at : ℕ → ℕ → ℕ → ℕ → Spot → Spot
enlisted_at n i own d m = spot (pushed n (up n WANT m.mem i own) d i) (min m.least d)

-- list d is that of its new degree
unfoldable pub placed_row : ℕ → ℕ → ℕ → ℕ → ℕ → Spot → Spot
placed_row n size left i own m = enlisted_at n i own (degree_of (rd n DEGREE m.mem i) size left own) m

-- if it has a weight
unfoldable pub placed_one : ℕ → ℕ → ℕ → ℕ → Spot → Spot
placed_one n size left i m = cond (ltb 0 (rd n NV m.mem i)) (placed_row n size left i (rd n NV m.mem i) m) m

-- the rows in the k cells of the list space from p on, those that are there
unfoldable pub placed_all : ℕ → ℕ → ℕ → List ℤ → ℕ → ℕ → Spot → Spot
placed_all n size left l p k m = times (clipped (length l) p k) (λ t x. placed_one n size left (at l (p + t)) x) m

-- ---- the element

unfoldable pub sealed : ℕ → List ℤ → ℕ → ℕ → ℕ → List ℤ
sealed n s p size count = up n ELEN (up n DEGREE (up n LEN s p count) p size) p (plus (rd n NV s p) size)

unfoldable pub marked : ℕ → List ℤ → ℕ → ℕ → List ℤ
marked n s p count = cond (ltb 0 count) (up n W s p 1) (hang n (up n W s p 0) p (named n n))

unfoldable pub finished : ℕ → List ℤ → ℕ → ℕ → ℕ → List ℤ
finished n s p size count = marked n (sealed n s p size count) p count
