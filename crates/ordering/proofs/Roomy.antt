-- In a room that is large no collection happens: the free place rises by less than n a pivot, and there are no more than n pivots.
-- Assumes nothing.
use Prim.Native.Nat.{ℕ, ◌+◌, ◌*◌, ◌≤◌, ◌<◌}
use native.Mathlib.Nat.{mul-le-mul_right, add-mul, one-mul}
use native.Mathlib.Omega.{arith}
use mathlib.Core.Path.{◌≡◌, refl, ap, ◌∙◌}
use mathlib.Core.Bool.{Bool}
use mathlib.Core.List.{List}
use lib.ListN.{length}
use Rattle.plain.proofs.Logic.{either}
use Rattle.plain.specs.Lists.{total, is_empty}
use Rattle.definition.specs.Elimination.{eliminate}
use Rattle.definition.specs.Pivot.{found}
use Rattle.definition.specs.Room.{Room, room_step, collections_of}
use Rattle.definition.specs.State.{State, elements_of, started}
use Rattle.facts.proofs.Collections.{short_collected, few_survivors, room_same, room_none}
use Rattle.facts.proofs.Enlisted.{inv_start}
use Rattle.facts.proofs.Invariant.{var_weighs}
use Rattle.facts.proofs.Pivots.{Pivoted}
use Rattle.facts.proofs.Progress.{progress}
use Rattle.facts.proofs.Start.{Neighbourly}
use Rattle.facts.proofs.Weighed.{Weighed, weighed_start, told_keeps}
use Rattle.facts.specs.Invariant.{Inv}

-- one more times n
step_up : (k m n : ℕ) → k < m → k * n + n ≤ m * n
step_up k m n l =
    let a : (k + 1) * n ≤ m * n = mul-le-mul_right n (omega arith) in
    omega (arith, add-mul k 1 n, one-mul n)

module _ (nbrs : List (List ℕ)) (nb : Neighbourly nbrs) (key_of : ℕ → ℕ) (aggressive : Bool) (limit size : ℕ) where
  abbrev n : ℕ
  n = length nbrs

  -- what the steps keep, of a state and the room beside it
  record Spared (s : State) (r : Room) : Type 0 where
    none : r.collections ≡ 0
    behind : r.free ≤ total length nbrs + s.gone * n

  pub no_collections : total length nbrs + length nbrs * length nbrs ≤ size → collections_of key_of aggressive limit nbrs size ≡ 0
  unfolding collections_of
  no_collections large =
      (told_keeps {n = n} key_of aggressive Spared (room_step size) keeps n (started limit nbrs) (record { free = total length nbrs; collections = 0 })
      (inv_start limit nbrs nb) (weighed_start limit nbrs) (record { none = refl; behind = omega arith })).2.none
    where
      keeps : (s : State) (r : Room) → Inv n s → Weighed s → s.gone < n → (p d : ℕ) → Pivoted s p d → Spared s r
          → Spared (eliminate key_of n aggressive s p d) (room_step size s (found p d) (eliminate key_of n aggressive s p d) r)
      keeps s r v w l p d pd h =
          let t = eliminate key_of n aggressive s p d in
          let up = step_up s.gone t.gone n (progress key_of n aggressive s p d (var_weighs v.graph p pd.is_var)) in
          let most = step_up s.gone n n l in
          let short = short_collected v.graph p pd.is_var in
          either _ (is_empty (elements_of s.graph p))
          (λ e.
          let same = room_same size s t p d r e in
          record { none = ap (λ (x : Room). x.collections) same ∙ h.none; behind = omega (arith, ap (λ (x : Room). x.free) same, up, h.behind) })
          (λ e.
          let same = room_none size s t p d r e (omega (arith, h.behind, most, short)) in
          record {
            none = ap (λ (x : Room). x.collections) same ∙ h.none;
            behind = omega (arith, ap (λ (x : Room). x.free) same, up, h.behind, short, few_survivors key_of aggressive s v p d pd);
          })
