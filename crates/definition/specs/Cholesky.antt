-- Document 01, "Symbolic Cholesky": "Take the graph of A+A' in the new order. Eliminate 0 to n-1; at each, count the later neighbours, then join these to
-- one another. The sum of counts is the fill measured against lnz." For any permutation of the rows, not only ours.
-- Assumes nothing.
use Rattle.std.specs.Prelude.{ℕ, cond, ltb, length, get_or, set}
use mathlib.Core.List.{List, [], ◌∷◌, ◌++◌, map, foldl}
use Rattle.plain.specs.Lists.{up_to, keep, member, delete, position, total, itself}

-- the neighbours of each position, as positions
unfoldable pub renumbered : List ℕ → List (List ℕ) → List (List ℕ)
renumbered perm nbrs = map (λ v. map (λ w. position w perm) (get_or nbrs v [])) perm

-- v at the end, where it is not there yet
unfoldable pub add_new : List ℕ → ℕ → List ℕ
add_new xs v = cond (member v xs) xs (xs ++ (v ∷ []))

-- the position v gets those of vs as neighbours, without itself
unfoldable pub join_to : List ℕ → List (List ℕ) → ℕ → List (List ℕ)
join_to vs adj v = set adj v (foldl add_new (get_or adj v []) (delete v vs))

-- "at each, count the later neighbours": those behind k
unfoldable pub later_of : List (List ℕ) → ℕ → List ℕ
later_of adj k = keep (λ v. ltb k v) (get_or adj k [])

-- the neighbours as joined so far, and the counts so far
pub record Fill : Type 0 where
  pub adj : List (List ℕ)
  pub counted : List ℕ

-- position k goes: its later neighbours are counted, "then join these to one another"
unfoldable pub fill_one : Fill → ℕ → Fill
fill_one x k =
    let later = later_of x.adj k in
    record { adj = foldl (join_to later) x.adj later; counted = x.counted ++ (length later ∷ []) }

-- for each position its later neighbours, counted
unfoldable pub counts : List ℕ → List (List ℕ) → List ℕ
counts perm nbrs =
    let x = foldl fill_one (record { adj = renumbered perm nbrs; counted = [] }) (up_to (length perm)) in
    x.counted

-- "The sum of counts is the fill measured against lnz."
unfoldable pub fill : List ℕ → List (List ℕ) → ℕ
fill perm nbrs = total itself (counts perm nbrs)
