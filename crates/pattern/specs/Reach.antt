-- Where the scan of a column stops: numbers are read one by one, from a place on, as long as they are below k.
-- Assumes nothing.
use Rattle.std.specs.Prelude.{ℕ, ◌+◌, ◌-◌, cond, ltb, eqb, length}
use Rattle.plain.specs.Lists.{leading}
use Rattle.plain.specs.Turns.{entries}

-- the first place from p on, before to, whose number is not below k; else to, or p where it is behind it
unfoldable pub reach : (ℕ → ℕ) → ℕ → ℕ → ℕ → ℕ
reach F k p to = p + length (leading (λ i. ltb i k) (entries F p (to - p)))

-- one place behind p, if i is k
unfoldable pub behind : ℕ → ℕ → ℕ → ℕ
behind i k p = cond (eqb i k) (p + 1) p

-- one place further where k stands at p
unfoldable pub past : (ℕ → ℕ) → ℕ → ℕ → ℕ → ℕ
past F k p to = cond (ltb p to) (behind (F p) k p) p
