-- The two scans that stop, as the code runs them: what is done before place p, and what the result is where they stop or end.
-- Assumes nothing.
use Prim.Native.Nat.{ℕ, suc, ◌+◌, ◌-◌, ◌≤◌, ◌<◌, max}
use native.Mathlib.Omega.{arith}
use mathlib.Core.Path.{◌≡◌, refl, sym, ap, ◌∙◌}
use borrow.Author.Tests.{lt-ltb, le-ltb}
use Rattle.plain.specs.Turns.{times}
use Rattle.cells.specs.View.{rd}
use Rattle.pattern.specs.Reach.{reach, behind, past}
use Rattle.pattern.specs.Model.{Heap}
use Rattle.plain.proofs.Turns.{times_after}
use Rattle.pattern.proofs.Reaching.{reach_is_more, reach_is_stop, reach_is_end}

-- from h₀, the places from `from` on, before p, are done, the rows are as they were, and the scan stops at p or behind it
pub record Scanned (n k from to : ℕ) (f : ℕ → Heap → Heap) (h₀ h : Heap) (p : ℕ) : Type 0 where
  pub begun : from ≤ p
  pub within : p - from ≤ to - from
  pub same : h ≡ times (p - from) (λ t. f (from + t)) h₀
  pub rows : (q : ℕ) → rd n 16 h.mem q ≡ rd n 16 h₀.mem q
  pub rest : reach (rd n 16 h₀.mem) k p to ≡ reach (rd n 16 h₀.mem) k from to

module _ (n k from to : ℕ) (f : ℕ → Heap → Heap) (h₀ : Heap) where
  pub scan_none : Scanned n k from to f h₀ h₀ from
  unfolding times
  scan_none =
      let e : from - from ≡ 0 = omega arith in
      record { begun = omega arith; within = omega arith; same = rw e; rows = λ q. refl; rest = refl }

  module _ (h : Heap) (p : ℕ) (u : Scanned n k from to f h₀ h p) (i : ℕ) (e : i ≡ rd n 16 h.mem p) where
    row_is : i ≡ rd n 16 h₀.mem p
    row_is = e ∙ u.rows p

    pub scan_more : (x : Heap) → x ≡ f p h → p < to → i < k → ((q : ℕ) → rd n 16 (f p h).mem q ≡ rd n 16 h.mem q) → Scanned n k from to f h₀ x (p + 1)
    scan_more x g l b keeps =
        let r : p + 1 ≡ suc p = omega arith in
        record {
          begun = omega (arith, u.begun);
          within = omega (arith, u.begun, l);
          same = g ∙ ap (f p) u.same ∙ sym (times_after f h₀ from p u.begun);
          rows = λ q. ap (λ (y : Heap). rd n 16 y.mem q) g ∙ keeps q ∙ u.rows q;
          rest = rw r (reach_is_more (rd n 16 h₀.mem) k p to l (omega (arith, row_is, b)) ∙ u.rest);
        }

    stop_here : k ≤ i → p ≡ reach (rd n 16 h₀.mem) k from to
    stop_here b = sym (reach_is_stop (rd n 16 h₀.mem) k p to (omega (arith, row_is, b))) ∙ u.rest

    pub scan_stop : k ≤ i → h ≡ times (reach (rd n 16 h₀.mem) k from to - from) (λ t. f (from + t)) h₀
    scan_stop b = rw (← stop_here b) u.same

    pub scan_next : (r : ℕ) → r ≡ behind i k p → p < to → k ≤ i → r ≡ past (rd n 16 h₀.mem) k (reach (rd n 16 h₀.mem) k from to) to
    unfolding past
    scan_next r g l b = rw (← stop_here b, lt-ltb p to l) (g ∙ ap (λ (y : ℕ). behind y k p) row_is)

  module _ (h : Heap) (p : ℕ) (u : Scanned n k from to f h₀ h p) (l : to ≤ p) where
    end_here : p ≡ reach (rd n 16 h₀.mem) k from to
    end_here = sym (reach_is_end (rd n 16 h₀.mem) k p to l) ∙ u.rest

    pub scan_end : h ≡ times (reach (rd n 16 h₀.mem) k from to - from) (λ t. f (from + t)) h₀
    scan_end = rw (← end_here) u.same

    pub scan_last : (r : ℕ) → r ≡ max from to → r ≡ past (rd n 16 h₀.mem) k (reach (rd n 16 h₀.mem) k from to) to
    unfolding past
    scan_last r e = rw (← end_here, le-ltb p to l) (omega (arith, u.begun, u.within))
