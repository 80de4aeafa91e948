-- Where parents have a higher rank, and ranks are below n, the parents lead each row to a root: what Permutation asks for.
-- Assumes nothing.
use Prim.Native.Nat.{ℕ, zero, suc, ◌+◌, ◌≤◌, ◌<◌}
use native.Mathlib.Omega.{arith}
use mathlib.Core.Path.{◌≡◌, refl}
use mathlib.Core.Option.{Option, none, some}
use Rattle.definition.specs.State.{Graph, Kind, variable, merged, element, dense, row_count, kind, parent, rep}
use Rattle.facts.proofs.Permutation.{Reach, Stands, in_atree, with_one, at_the_end}

-- on the tree alone: the parent of an element is an element of a higher rank, and ranks are below n
pub record Grown (g : Graph) (rank : ℕ → ℕ) : Type 0 where
  pub above : (e p : ℕ) → e < row_count g → kind g e ≡ element → parent g e ≡ some p → (p < row_count g) × (kind g p ≡ element) × (rank e < rank p)
  pub bounded : (e : ℕ) → e < row_count g → kind g e ≡ element → rank e < row_count g

-- of the other rows: none is active, and a merged one belongs to an element
pub record Placed (g : Graph) : Type 0 where
  pub idle : (v : ℕ) → v < row_count g → kind g v ≡ variable → ⊥
  pub owner : (v : ℕ) → v < row_count g → kind g v ≡ merged → (rep g v < row_count g) × (kind g (rep g v) ≡ element)

module _ (g : Graph) (rank : ℕ → ℕ) (grown : Grown g rank) where
  abbrev n : ℕ
  n = row_count g

  Led : ℕ → ℕ → Type 0
  Led m e = (d : ℕ) × (d < m) × Reach g d e

  led : (m e : ℕ) → e < n → kind g e ≡ element → n ≤ rank e + m → Led m e
  unfolding Led
  led zero e l q h = absurd (omega (arith, grown.bounded e l q))
  led (suc m) e l q h = go (λ (p : ℕ) (a : p < n) (b : kind g p ≡ element) (c : n ≤ rank p + m). led m p a b c) (parent g e) refl
    where
      go : ((p : ℕ) → p < n → kind g p ≡ element → n ≤ rank p + m → Led m p) → (o : Option ℕ) → parent g e ≡ o → Led (suc m) e
      go ih none r = (0, omega arith, (l, q, r))
      go ih (some p) r =
          let a = grown.above e p l q r in
          let i = ih p a.0 a.1 (omega (arith, a.2)) in
          (suc i.0, omega (arith, i.1), (l, q, (p, r, i.2)))

  pub stands : Placed g → (v : ℕ) → v < n → Stands g v
  unfolding Led
  stands placed v l = go (kind g v) refl
    where
      go : (k : Kind) → kind g v ≡ k → Stands g v
      go variable e = absurd (placed.idle v l e)
      go merged e =
          let o = placed.owner v l e in
          let i = led n (rep g v) o.0 o.1 (omega arith) in
          with_one i.0 e i.1 i.2
      go element e = let i = led n v l e (omega arith) in in_atree i.0 i.1 i.2
      go dense e = at_the_end e
