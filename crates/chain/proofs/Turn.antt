-- The turns of the search for a pivot.
-- Assumes nothing.
use Prim.Native.Nat.{ℕ, ◌+◌, ◌<◌, ◌≤◌, max}
use native.Mathlib.Omega.{arith}
use mathlib.Core.Path.{◌≡◌, refl, sym, subst}
use mathlib.Core.Logic.{⊎_elim}
use mathlib.Core.List.{List}
use lib.IntN.{ℤ}
use Rattle.cells.specs.Layout.{HEAD}
use Rattle.cells.specs.View.{rd}
use Rattle.cells.proofs.Slices.{same?}
use Rattle.chain.specs.First.{First}

-- the lists from m up to d have no front
pub record Passed (n : ℕ) (s : List ℤ) (m d : ℕ) : Type 0 where
  pub low : m ≤ d
  pub none : (e : ℕ) → m ≤ e → e < d → n ≤ rd n HEAD s e

module _ (n : ℕ) (s : List ℤ) (m : ℕ) where
  pub start : Passed n s m m
  start = record { low = omega arith; none = λ e a b. absurd (omega arith) }

  module _ (d : ℕ) (h : Passed n s m d) where
    pub more : (i : ℕ) → i ≡ rd n HEAD s d → n ≤ i → Passed n s m (d + 1)
    more i hi hn =
        record {
          low = omega (arith, h.low);
          none = λ e a b.
              ⊎_elim (λ q. subst (λ (x : ℕ). n ≤ rd n HEAD s x) (sym q) (omega arith)) (λ q. h.none e a (omega arith)) (same? e d);
        }

    pub nothing : n ≤ d → d ≤ max m n → First n s m n (max m n)
    nothing q b =
        let e : max m n ≡ d = omega (arith, h.low) in
        rw e (record { from = h.low; none = h.none; here = λ z. absurd (omega arith); nowhere = λ z. (refl, q) })

    pub found : (i : ℕ) → i ≡ rd n HEAD s d → i < n → d < n → First n s m i d
    found i hi hn hd = record { from = h.low; none = h.none; here = λ z. (hd, hi); nowhere = λ z. absurd (omega arith) }
