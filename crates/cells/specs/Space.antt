-- What contracts see of a `Memory`: the number of columns that it is for, the list space and the scratch, and which slices these were lent as; and what is true
-- of every one.
-- Assumes nothing.
use Rattle.std.specs.Prelude.{ℕ, List, ℤ, ◌≡◌, length}
use Rattle.cells.specs.declared.workspaces.Memory.{Memory}
use Rattle.cells.specs.View.{Room}
use Rattle.cells.specs.Rows.{Rows}

pub record Space : Type 0 where
  pub n : ℕ
  pub lists : List ℤ
  pub scratch : List ℤ
  pub names : ℕ × ℕ

-- the names are those of the two references, list space first: by them who lent the slices knows what they hold behind a call
unfoldable pub space : Memory → Space
space m = record { n = m.columns; lists = m.rows.now; scratch = m.fields.now; names = (m.rows.ghost_name, m.fields.ghost_name) }

-- the scratch has its fields, and every cell of the list space holds a row
pub record Fits (m : Space) : Type 0 where
  pub room : Room m.n m.scratch
  pub rows : Rows m.n m.lists

-- for as many columns, over the same slices, with the list space as it was
abbrev pub SameLists : Space → Space → Type 0
SameLists old new = (new.n ≡ old.n) × (new.lists ≡ old.lists) × (new.names ≡ old.names)

-- for as many columns, over the same slices, with a list space of as many cells
abbrev pub SameSize : Space → Space → Type 0
SameSize old new = (new.n ≡ old.n) × (length new.lists ≡ length old.lists) × (new.names ≡ old.names)
