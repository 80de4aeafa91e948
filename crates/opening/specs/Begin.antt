-- A pivot's beginning as the code does it: it leaves its list, and gathers its new element, whose rows leave their lists and which takes up the pivot's elements.
-- Assumes nothing.
use Rattle.std.specs.Prelude.{ℕ, cond, List, ltb, ℤ}
use Rattle.cells.specs.Layout.{PE, WANT, ELEN}
use Rattle.cells.specs.View.{rd, up}
use Rattle.chain.specs.Model.{removed}
use Rattle.packed.specs.Gather.{Outside, outside, gathered_outside, gathered_inside}

-- the new element of a pivot without elements
unfoldable pub gathered_alone : ℕ → ℕ → ℕ → ℕ → ℕ → List ℤ → List ℤ → Outside
gathered_alone n me base lim made l s =
    let o = gathered_inside n me l s in
    outside o.lists (up n PE o.mem me (rd n PE s me)) (record { start = rd n PE s me; count = o.count; free = lim; base = base; made = made; collected = 0 })

-- of either
unfoldable pub gathered : ℕ → ℕ → ℕ → ℕ → ℕ → List ℤ → List ℤ → Outside
gathered n me base lim made l s =
    cond (ltb 0 (rd n ELEN s me)) (gathered_outside n me base lim made l s) (gathered_alone n me base lim made l s)

-- the whole
unfoldable pub pivoted : ℕ → ℕ → ℕ → ℕ → ℕ → List ℤ → List ℤ → Outside
pivoted n me base lim made l s = gathered n me base lim made l (up n WANT (removed n s me) me 0)
