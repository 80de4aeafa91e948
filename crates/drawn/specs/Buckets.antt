-- The buckets of step 5 in memory: the rows of one key, newest first, along the links.
-- Assumes nothing.
use Rattle.std.specs.Prelude.{ℕ, ◌<◌, List, [], ◌∷◌, ◌≡◌, ℤ}
use Rattle.plain.specs.Members.{In}
use Rattle.cells.specs.Layout.{HHEAD, HKEY, HNEXT}
use Rattle.cells.specs.View.{rd}
use Rattle.definition.specs.Merge.{key}
use Rattle.definition.specs.State.{Graph}
use Rattle.facts.specs.Classes.{bucket_of, newest_first}

-- from x on, by the links nx, the rows are l; n is the end
abbrev pub Chain : ℕ → (ℕ → ℕ) → ℕ → List ℕ → Type 0
Chain n nx x [] = x ≡ n
Chain n nx x (i ∷ l) = (x ≡ i) × (i < n) × Chain n nx (nx i) l

-- step 4 leaves each kept row in the bucket of its key
pub record Bucketed (n : ℕ) (s : List ℤ) (key_of : ℕ → ℕ) (g : Graph) (new : List ℕ) : Type 0 where
  pub bucket : (k : ℕ) → k < n → Chain n (rd n HNEXT s) (rd n HHEAD s k) (bucket_of (key key_of g) (newest_first g new) k)
  pub keys : (v : ℕ) → In v (newest_first g new) → rd n HKEY s v ≡ key key_of g v
  pub below : (v : ℕ) → In v (newest_first g new) → key key_of g v < n
