-- The numbers of document 01 that bound a problem, as request 4 of document 02 raised them: the only place of the definition that has them. A size is a number of cells.
-- Assumes nothing.
use Rattle.std.specs.Prelude.{ℕ, ◌+◌, ◌*◌, Bool, ◌||◌, cond, ℤ, pos, nat_abs}
use Rattle.std.specs.Int.Signed.{lt_z}

-- the most columns and the most entries that a pattern may have
pub record Limits : Type 0 where
  pub most_columns : ℕ
  pub most_entries : ℕ

-- "n below 0 or above 2,000,000", "nnz above 20,000,000"
unfoldable pub base_limits : Limits
base_limits = record { most_columns = 2000000; most_entries = 20000000 }

-- below 0, or above the most
unfoldable pub outside : ℕ → ℤ → Bool
outside most x = lt_z x (pos 0) || lt_z (pos most) x

-- ---- the room of a pattern of n columns and nnz entries

-- "lists shorter than 2·nnz + n"
unfoldable pub lists_room : ℕ → ℕ → ℕ
lists_room n nnz = 2 * nnz + n

-- "scratch shorter than nnz + 16·n + 16"
unfoldable pub scratch_room : ℕ → ℕ → ℕ
scratch_room n nnz = nnz + 16 * n + 16

-- a room as a function of any two numbers: 0 where one of them is outside the limits
unfoldable pub room_within : Limits → (ℕ → ℕ → ℕ) → ℤ → ℤ → ℕ
room_within limits room n nnz =
    cond (outside limits.most_columns n || outside limits.most_entries nnz) 0 (room (nat_abs n) (nat_abs nnz))
