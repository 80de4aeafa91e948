-- Step 5 in closed form: the first of each class of equal lists, newest first, has the others merged into it. Also the key that request 2 speaks of.
-- Assumes nothing.
use Rattle.std.specs.Prelude.{ℕ, ◌<◌, ◌%◌, ◌≡◌, ◌≢◌, true, false, cond, eqb}
use mathlib.Core.List.{List, foldl, reverse}
use Rattle.std.proofs.Math.Option.{some}
use Rattle.plain.specs.Lists.{member, keep, total}
use Rattle.plain.specs.Classes.{first_like}
use Rattle.definition.specs.State.{Graph, merged, kind, weight, parent, rep, has_weight}
use Rattle.definition.specs.Merge.{same_lists, merge_all}
use Rattle.facts.specs.Invariant.{Sized}

-- "the sum reduced modulo 4,294,967,296, then the remainder by n"
unfoldable pub wrapped_key : ℕ → ℕ → ℕ
wrapped_key n sum = sum % 4294967296 % n

-- the rows that step 5 compares, newest first
unfoldable pub newest_first : Graph → List ℕ → List ℕ
newest_first g new = reverse (keep (has_weight g) new)

-- top of the plan: of the rows vs the first whose lists are j's, and j itself where there is none
unfoldable pub top_of : Graph → List ℕ → ℕ → ℕ
top_of g vs j = first_like (same_lists g) vs j

-- the same for every row: one that is not of vs stays its own
unfoldable pub owner_of : Graph → List ℕ → ℕ → ℕ
owner_of g vs v = cond (member v vs) (top_of g vs v) v

-- h is g with each row v of vs merged into `owner v`, where that is another
pub record Grouped (n : ℕ) (vs : List ℕ) (owner : ℕ → ℕ) (g h : Graph) : Type 0 where
  pub sized : Sized n h
  pub elements : h.elements ≡ g.elements
  pub variables : h.variables ≡ g.variables
  pub degrees : h.degrees ≡ g.degrees
  pub kinds : (v : ℕ) → kind h v ≡ cond (eqb (owner v) v) (kind g v) merged
  pub parents : (v : ℕ) → parent h v ≡ cond (eqb (owner v) v) (parent g v) (some (owner v))
  pub reps : (v : ℕ) → v < n → rep h v ≡ owner (rep g v)
  pub outside : (v : ℕ) → member v vs ≡ false → weight h v ≡ weight g v
  pub weights : (v : ℕ) → member v vs ≡ true → weight h v ≡ cond (eqb (owner v) v) (total (weight g) (keep (λ j. eqb (owner j) v) vs)) 0

-- the same, row by row, where the first of each class of vs is the owner
pub record Topped (n : ℕ) (vs : List ℕ) (g h : Graph) : Type 0 where
  pub sized : Sized n h
  pub elements : h.elements ≡ g.elements
  pub variables : h.variables ≡ g.variables
  pub degrees : h.degrees ≡ g.degrees
  -- a row that is not the first of its class
  pub joins_kind : (j : ℕ) → member j vs ≡ true → top_of g vs j ≢ j → kind h j ≡ merged
  pub joins_weight : (j : ℕ) → member j vs ≡ true → top_of g vs j ≢ j → weight h j ≡ 0
  pub joins_parent : (j : ℕ) → member j vs ≡ true → top_of g vs j ≢ j → parent h j ≡ some (top_of g vs j)
  -- the first of a class
  pub stays_kind : (i : ℕ) → member i vs ≡ true → top_of g vs i ≡ i → kind h i ≡ kind g i
  pub stays_weight : (i : ℕ) → member i vs ≡ true → top_of g vs i ≡ i → weight h i ≡ total (weight g) (keep (λ j. eqb (top_of g vs j) i) vs)
  pub stays_parent : (i : ℕ) → member i vs ≡ true → top_of g vs i ≡ i → parent h i ≡ parent g i
  -- a row that is not compared
  pub other_kind : (v : ℕ) → member v vs ≡ false → kind h v ≡ kind g v
  pub other_weight : (v : ℕ) → member v vs ≡ false → weight h v ≡ weight g v
  pub other_parent : (v : ℕ) → member v vs ≡ false → parent h v ≡ parent g v
  -- what belonged to a row belongs to the first of its class
  pub rep_compared : (v : ℕ) → v < n → member (rep g v) vs ≡ true → rep h v ≡ top_of g vs (rep g v)
  pub rep_other : (v : ℕ) → v < n → member (rep g v) vs ≡ false → rep h v ≡ rep g v
  -- the rows that are left are the first of each class
  pub has_weight_lem : (v : ℕ) → member v vs ≡ true → has_weight h v ≡ eqb (top_of g vs v) v

-- ---- as a program does it

-- the rows of vs at place k, in the order of vs
unfoldable pub bucket_of : (ℕ → ℕ) → List ℕ → ℕ → List ℕ
bucket_of place vs k = keep (λ v. eqb (place v) k) vs

-- only rows of one place are compared, and the places are gone through in the order ks
unfoldable pub merge_buckets : (ℕ → ℕ) → (ℕ → ℕ) → List ℕ → List ℕ → Graph → Graph
merge_buckets key_of place vs ks g = foldl (λ h k. merge_all key_of (bucket_of place vs k) h) g ks
