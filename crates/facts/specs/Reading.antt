-- Of what a pivot's step reads, the entries at which a variable is collected.
-- Assumes nothing.
use Rattle.std.specs.Prelude.{ℕ, List, [], ◌∷◌, map}
use Rattle.plain.specs.Lists.{cons_if}
use Rattle.definition.specs.State.{Graph}
use Rattle.definition.specs.Pivot.{wanted, collect_one}
use Rattle.definition.specs.Room.{Read, reads}

-- those of the given entries, where new is collected before them
unfoldable pub taken : Graph → ℕ → List ℕ → List Read → List Read
taken g p new [] = []
taken g p new (a ∷ xs) = cons_if (wanted g p new a.entry) a (taken g p (collect_one g p new a.entry) xs)

-- how many places have been read with each of them
unfoldable pub taken_at : Graph → ℕ → List ℕ
taken_at g p = map (λ a. a.sofar) (taken g p [] (reads g p))
