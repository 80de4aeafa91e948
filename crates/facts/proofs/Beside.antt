-- What each step keeps, of the state and of what is told beside it, holds at the end.
-- Assumes nothing.
use Prim.Native.Nat.{ℕ, zero, suc}
use mathlib.Core.Path.{◌≡◌, refl}
use mathlib.Core.Bool.{Bool, true, false}
use lib.Dec.{ltb}
use Rattle.definition.specs.Elimination.{step, run, beside}
use Rattle.definition.specs.Pivot.{Found, pivot}
use Rattle.definition.specs.State.{State}

turn : {A : Type 0} (P : State → A → Type 0) (b : Bool) (s t : State) (x y : A) → (b ≡ true → P t y) → P s x
    → P (elim b [ true ↦ t | false ↦ s ]) (elim b [ true ↦ y | false ↦ x ])
turn P true s t x y h k = h refl
turn P false s t x y h k = k

pub beside_keeps : {A : Type 0} (P : State → A → Type 0) (tell : State → Found → State → A → A) (key_of : ℕ → ℕ) (n : ℕ) (aggressive : Bool)
    → ((s : State) (x : A) → ltb s.gone n ≡ true → P s x
    → P (step key_of n aggressive s (pivot s)) (tell s (pivot s) (step key_of n aggressive s (pivot s)) x))
    → (k : ℕ) (s : State) (x : A) → P s x → P (run key_of k n aggressive s) (beside tell key_of k n aggressive s x)
unfolding run beside
beside_keeps P tell key_of n aggressive h zero s x p = p
beside_keeps P tell key_of n aggressive h (suc k) s x p =
    turn P (ltb s.gone n) s (run key_of k n aggressive (step key_of n aggressive s (pivot s))) x
    (beside tell key_of k n aggressive (step key_of n aggressive s (pivot s)) (tell s (pivot s) (step key_of n aggressive s (pivot s)) x))
    (λ e. beside_keeps P tell key_of n aggressive h k (step key_of n aggressive s (pivot s)) (tell s (pivot s) (step key_of n aggressive s (pivot s)) x) (h s x e p)) p
