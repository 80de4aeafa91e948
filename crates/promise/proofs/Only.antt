-- Two results that both meet the promise are equal, every slice included.
-- Assumes nothing.
use mathlib.Core.Path.{◌≡◌, sym, ◌∙◌}
use Rattle.definition.specs.Promise.{Lent, After, after}
use Rattle.promise.specs.Demand.{Meets}

pub only : (l : Lent) (a b : After) → a ≡ after l → b ≡ after l → a ≡ b
only l a b p q = p ∙ sym q

-- so of functions: one that meets the promise everywhere is any other that does, at every point
pub only_function : (f g : Lent → After) → Meets f → Meets g → (l : Lent) → f l ≡ g l
only_function f g p q l = only l (f l) (g l) (p l) (q l)
