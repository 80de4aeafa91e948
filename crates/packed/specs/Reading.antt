-- What a gather reads and collects, on plain lists: document 01's rule of step 2, with the number of places read beside each entry.
-- Assumes nothing.
use Rattle.std.specs.Prelude.{ℕ, suc, ◌+◌, Bool, cond, not, ◌&&◌, List, [], ◌∷◌, ◌++◌, map, length}
use mathlib.Core.List.{foldl}
use Rattle.plain.specs.Lists.{member}
use Rattle.definition.specs.Room.{Read, read_list}

-- the elements' numbers, each with the element's own list behind it, where c places have been read before
unfoldable pub read_parts : (ℕ → List ℕ) → ℕ → List ℕ → List Read
read_parts X c [] = []
read_parts X c (e ∷ es) = read_list (suc c) (X e) ++ read_parts X (suc c + length (X e)) es

-- how many places have been read with them
unfoldable pub after_parts : (ℕ → List ℕ) → ℕ → List ℕ → ℕ
after_parts X c [] = c
after_parts X c (e ∷ es) = after_parts X (suc c + length (X e)) es

-- all that is read for an element's new list: the lists of es, and then vs
unfoldable pub read_all : (ℕ → List ℕ) → List ℕ → List ℕ → List Read
read_all X es vs = read_parts X 0 es ++ read_list (after_parts X 0 es) vs

-- the numbers that were read
abbrev pub entries_of : List Read → List ℕ
entries_of q = map (λ a. a.entry) q

-- how many places had been read with each
abbrev pub sofar_of : List Read → List ℕ
sofar_of q = map (λ a. a.sofar) q

-- an entry is collected if its number passes and is not there yet
unfoldable pub pick_one : (ℕ → Bool) → List Read → Read → List Read
pick_one p q a = cond (p a.entry && not (member a.entry (entries_of q))) (q ++ (a ∷ [])) q

-- of what is read, the entries that are collected
unfoldable pub picked : (ℕ → Bool) → List Read → List Read
picked p xs = foldl (pick_one p) [] xs
