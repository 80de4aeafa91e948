-- Where the scan of a column stops, step by step for its loops; and what it has passed: the rows above k, and those from it on.
-- Assumes nothing.
use Prim.Native.Nat.{ℕ, zero, suc, ◌+◌, ◌-◌, ◌≤◌, ◌<◌}
use native.Mathlib.Omega.{arith}
use mathlib.Core.Path.{◌≡◌, refl, sym, ap, ◌∙◌}
use mathlib.Core.Logic.{◌⊎◌, inl, inr}
use mathlib.Core.Bool.{Bool, true, false}
use mathlib.Core.List.{List, ◌∷◌}
use lib.Dec.{ltb, eqb}
use lib.ListN.{length}
use borrow.Author.Tests.{lt-ltb, le-ltb}
use Rattle.plain.specs.Lists.{leading, trailing}
use Rattle.plain.specs.Turns.{entries, times}
use Rattle.plain.proofs.Turns.{times_keeps}
use Rattle.definition.specs.Neighbours.{skip, above, below}
use Rattle.cells.specs.View.{rd}
use Rattle.cells.proofs.Slices.{split}
use Rattle.pattern.specs.Reach.{reach, behind, past}
use Rattle.pattern.specs.Model.{Heap}

module _ (F : ℕ → ℕ) (k p to : ℕ) where
  pub reach_is_end : to ≤ p → reach F k p to ≡ p
  unfolding reach entries leading
  reach_is_end h = let e : to - p ≡ 0 = omega arith in rw e (omega arith)

  stop_by : (c : ℕ) → k ≤ F p → p + length (leading (λ i. ltb i k) (entries F p c)) ≡ p
  unfolding entries leading
  stop_by zero h = omega arith
  stop_by (suc c) h = rw (le-ltb (F p) k h) (omega arith)

  pub reach_is_stop : k ≤ F p → reach F k p to ≡ p
  unfolding reach
  reach_is_stop h = stop_by (to - p) h

  pub reach_is_more : p < to → F p < k → reach F k (suc p) to ≡ reach F k p to
  unfolding reach entries leading
  reach_is_more h l =
      let e : to - p ≡ suc (to - suc p) = omega arith in
      rw (e, lt-ltb (F p) k l) (omega arith)

-- ---- for the loops that do something at each place before they stop

-- from h₀, the places from `from` on, before p, are done, and the scan stops at p or behind it
pub record Until (n k from to : ℕ) (f : ℕ → Heap → Heap) (h₀ h : Heap) (p : ℕ) : Type 0 where
  pub begun : from ≤ p
  pub same : h ≡ times (p - from) (λ t. f (from + t)) h₀
  pub rest : reach (rd n 16 h₀.mem) k p to ≡ reach (rd n 16 h₀.mem) k from to

module _ (n k from to : ℕ) (f : ℕ → Heap → Heap) (keeps : (p : ℕ) (h : Heap) (q : ℕ) → rd n 16 (f p h).mem q ≡ rd n 16 h.mem q) (h₀ : Heap) where
  pub until_none : Until n k from to f h₀ h₀ from
  unfolding times
  until_none = let e : from - from ≡ 0 = omega arith in record { begun = omega arith; same = rw e; rest = refl }

  module _ (h : Heap) (p : ℕ) (u : Until n k from to f h₀ h p) where
    row_same : (q : ℕ) → rd n 16 h.mem q ≡ rd n 16 h₀.mem q
    row_same q =
        ap (λ (x : Heap). rd n 16 x.mem q) u.same
        ∙ times_keeps (λ t (x : Heap). rd n 16 x.mem q ≡ rd n 16 h₀.mem q) (λ t. f (from + t)) (p - from) (λ t x b e. keeps (from + t) x q ∙ e) (p - from) h₀ (omega arith) refl

    pub until_more : (i : ℕ) (x : Heap) → p < to → i ≡ rd n 16 h.mem p → i < k → x ≡ f p h → Until n k from to f h₀ x (p + 1)
    unfolding times
    until_more i x l e b g =
        let c : p + 1 - from ≡ suc (p - from) = omega (arith, u.begun) in
        let d : from + (p - from) ≡ p = omega (arith, u.begun) in
        let r : p + 1 ≡ suc p = omega arith in
        record {
          begun = omega (arith, u.begun);
          same = rw (c, d) (g ∙ ap (f p) u.same);
          rest = rw r (reach_is_more (rd n 16 h₀.mem) k p to l (omega (arith, e, row_same p)) ∙ u.rest);
        }

    module _ (i : ℕ) (l : p < to) (e : i ≡ rd n 16 h.mem p) (b : k ≤ i) where
      stop_here : p ≡ reach (rd n 16 h₀.mem) k from to
      stop_here = sym (reach_is_stop (rd n 16 h₀.mem) k p to (omega (arith, e, row_same p))) ∙ u.rest

      pub until_stop : (r : ℕ) → r ≡ behind i k p
          → (h ≡ times (reach (rd n 16 h₀.mem) k from to - from) (λ t. f (from + t)) h₀) × (r ≡ past (rd n 16 h₀.mem) k (reach (rd n 16 h₀.mem) k from to) to)
      unfolding past
      until_stop r g = rw (← stop_here, lt-ltb p to l) (u.same, g ∙ ap (λ (y : ℕ). behind y k p) (e ∙ row_same p))

    pub until_end : to ≤ p
        → (h ≡ times (reach (rd n 16 h₀.mem) k from to - from) (λ t. f (from + t)) h₀) × (p ≡ past (rd n 16 h₀.mem) k (reach (rd n 16 h₀.mem) k from to) to)
    unfolding past
    until_end l =
        let z : p ≡ reach (rd n 16 h₀.mem) k from to = sym (reach_is_end (rd n 16 h₀.mem) k p to l) ∙ u.rest in
        rw (← z, le-ltb p to l) (u.same, refl)

-- ---- what is passed: the rows above k, and what is left

pub reach_from : (F : ℕ → ℕ) (k p to : ℕ) → p ≤ reach F k p to
unfolding reach
reach_from F k p to = omega arith

-- the rows that are passed are those above k, and from the next place on stand those below
pub record Parted (F : ℕ → ℕ) (k p to r : ℕ) (xs : List ℕ) : Type 0 where
  pub up : entries F p (r - p) ≡ above k xs
  pub down : entries F (past F k r to) (to - past F k r to) ≡ below k xs

parted_none : (F : ℕ → ℕ) (k p to : ℕ) → to - p ≡ 0 → Parted F k p to p (entries F p 0)
unfolding past behind above below leading trailing skip entries
parted_none F k p to e =
    let a : p - p ≡ 0 = omega arith in
    record { up = rw a; down = rw (le-ltb p to (omega arith), e) }

parted_stop : (F : ℕ → ℕ) (k p to c : ℕ) → to - p ≡ suc c → k ≤ F p → (b : Bool) → eqb (F p) k ≡ b → Parted F k p to p (entries F p (suc c))
unfolding past behind above below leading trailing skip entries
parted_stop F k p to c e l true q =
    let a : p - p ≡ 0 = omega arith in
    let d : p + 1 ≡ suc p = omega arith in
    let g : to - suc p ≡ c = omega arith in
    record { up = rw (a, le-ltb (F p) k l); down = rw (lt-ltb p to (omega arith), le-ltb (F p) k l, q, d, g) }
parted_stop F k p to c e l false q =
    let a : p - p ≡ 0 = omega arith in
    record { up = rw (a, le-ltb (F p) k l); down = rw (lt-ltb p to (omega arith), le-ltb (F p) k l, q, e) }

parted_more : (F : ℕ → ℕ) (k p to c r : ℕ) → F p < k → suc p ≤ r → Parted F k (suc p) to r (entries F (suc p) c) → Parted F k p to r (entries F p (suc c))
unfolding above below leading trailing skip entries
parted_more F k p to c r l q h =
    let a : r - p ≡ suc (r - suc p) = omega arith in
    record {
      up = rw (a, lt-ltb (F p) k l) (ap (λ (z : List ℕ). F p ∷ z) h.up);
      down = rw (lt-ltb (F p) k l) h.down;
    }

parted_by : (F : ℕ → ℕ) (k p to c : ℕ) → to - p ≡ c → Parted F k p to (reach F k p to) (entries F p c)
parted_by F k p to zero e = rw (reach_is_end F k p to (omega arith)) (parted_none F k p to e)
parted_by F k p to (suc c) e = go (split (F p) k) (parted_by F k (suc p) to c (omega arith))
  where
    go : (F p < k) ⊎ (k ≤ F p) → Parted F k (suc p) to (reach F k (suc p) to) (entries F (suc p) c) → Parted F k p to (reach F k p to) (entries F p (suc c))
    go (inl l) h =
        rw (← reach_is_more F k p to (omega arith) l) (parted_more F k p to c (reach F k (suc p) to) l (reach_from F k (suc p) to) h)
    go (inr l) h = rw (reach_is_stop F k p to l) (parted_stop F k p to c e l (eqb (F p) k) refl)

pub parted : (F : ℕ → ℕ) (k p to : ℕ) (xs : List ℕ) → entries F p (to - p) ≡ xs → Parted F k p to (reach F k p to) xs
parted F k p to xs e = rw (← e) (parted_by F k p to (to - p) refl)
