-- The signed coding of parent links, document 01 and the Rust's internal.rs: EMPTY is -1, and flip(x) = -x - 2 is a negation about it. It stands in the
-- field PE of an object that has no list any more, where `rd` sees 0, and nobody but `parent` and `hang` looks at it.
-- Assumes nothing.
use Rattle.std.specs.Prelude.{ℕ, zero, suc, cond, List, ltb, ℤ, pos, negsuc, get_or, set}
use Rattle.std.proofs.Math.Option.{Option, none, some}
use Rattle.cells.specs.Layout.{PE}
use Rattle.cells.specs.View.{place}

-- -x - 2
abbrev pub flipped : ℤ → ℤ
flipped (pos k) = negsuc (suc k)
flipped (negsuc zero) = negsuc zero
flipped (negsuc (suc k)) = pos k

-- a parent as a cell has it
abbrev pub coded : Option ℕ → ℤ
coded none = negsuc zero
coded (some p) = flipped (pos p)

-- back; the place of a list is no parent
abbrev pub decoded : ℤ → Option ℕ
decoded (pos k) = none
decoded (negsuc zero) = none
decoded (negsuc (suc k)) = some k

-- ---- a link of the code is a number; n and above is none

abbrev pub named : ℕ → ℕ → Option ℕ
named n p = cond (ltb p n) (some p) none

abbrev pub linked : ℕ → Option ℕ → ℕ
linked n none = n
linked n (some p) = p

-- ---- the parent of object i; none for an i that is not below n

unfoldable pub parent : ℕ → List ℤ → ℕ → Option ℕ
parent n s i = cond (ltb i n) (decoded (get_or s (place n PE i) (pos 0))) none

-- object i gets a parent; nothing for an i that is not below n
unfoldable pub hang : ℕ → List ℤ → ℕ → Option ℕ → List ℤ
hang n s i p = cond (ltb i n) (set s (place n PE i) (coded p)) s
