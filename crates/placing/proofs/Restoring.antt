-- The loop over the rows of the new element, which places the survivors and keeps them in one: it is the two models side by side, each over the memory before
-- the loop. The one may read the lists as they were, since a survivor goes to a cell whose row has had its turn; the other the weights, since placing writes
-- none.
-- Assumes nothing.
use Prim.Native.Nat.{ℕ, ◌+◌, ◌-◌, ◌<◌, ◌≤◌}
use native.Mathlib.Omega.{arith}
use mathlib.Core.Path.{◌≡◌, refl, ap, ◌∙◌, subst}
use mathlib.Core.List.{List}
use lib.Dec.{ltb}
use lib.IntN.{ℤ}
use lib.ListN.{length}
use borrow.Author.Tests.{lt-ltb, le-ltb}
use Rattle.plain.proofs.Logic.{cond_has}
use Rattle.plain.proofs.Turns.{begin, turn}
use Rattle.plain.specs.Turns.{Turned}
use Rattle.cells.proofs.Laws.{rd_up_field}
use Rattle.cells.proofs.Rows.{clipped_finish}
use Rattle.cells.proofs.Slices.{at_wr_other}
use Rattle.cells.specs.Layout.{WANT, NV}
use Rattle.cells.specs.Rows.{clipped}
use Rattle.cells.specs.View.{at, rd, up, wr}
use Rattle.chain.proofs.Push.{pushed_other}
use Rattle.packed.proofs.Keeping.{keep_yes, keep_no}
use Rattle.packed.specs.Gather.{cut, kept_one, kept_part}
use Rattle.placing.specs.declared.Restored.{Restored}
use Rattle.placing.specs.Model.{Spot, spot, enlisted_at, placed_row, placed_one, placed_all}

-- the rows in the cells from p up to q have had their turn: of the lists l and the scratch s they made l' and s'
pub record Restoring (n size left p : ℕ) (l s : List ℤ) (start q : ℕ) (l' s' : List ℤ) (r : Restored) : Type 0 where
  pub placed : Turned (λ t m. placed_one n size left (at l (p + t)) m) (spot s start) (q - p) (spot s' r.least)
  pub kept : Turned (λ t m. kept_one n NV s (p + t) (p + m.count) m) (cut l 0) (q - p) (cut l' r.count)
  pub weights : (v : ℕ) → rd n NV s' v ≡ rd n NV s v
  pub rest : (c : ℕ) → q ≤ c → at l' c ≡ at l c
  pub few : p + r.count ≤ q

-- placing a row writes no weight
one_weights : (n size left i : ℕ) (m : Spot) (v : ℕ) → rd n NV (placed_one n size left i m).mem v ≡ rd n NV m.mem v
unfolding placed_one placed_row enlisted_at
one_weights n size left i m v =
    cond_has (λ (x : Spot). rd n NV x.mem v ≡ rd n NV m.mem v) (ltb 0 (rd n NV m.mem i))
    (λ _. pushed_other n (up n WANT m.mem i (rd n NV m.mem i)) _ i NV v refl refl refl refl ∙ rd_up_field n WANT NV m.mem i (rd n NV m.mem i) v refl) (λ _. refl)

-- a turn at the row in cell q, by its weight
module _ (n size left : ℕ) (l s : List ℤ) (q least i own : ℕ) (hi : i ≡ at l q) (ho : own ≡ rd n NV s i) where
  one_yes : (x : Spot) → x ≡ placed_row n size left i own (spot s least) → 0 < own → x ≡ placed_one n size left (at l q) (spot s least)
  unfolding placed_one
  one_yes x hx h = rw (← hi, ← ho, lt-ltb 0 own h) hx

  one_no : own ≤ 0 → spot s least ≡ placed_one n size left (at l q) (spot s least)
  unfolding placed_one
  one_no h = rw (← hi, ← ho, le-ltb 0 own h)

module _ (n size left p : ℕ) (l s : List ℤ) (start : ℕ) where
  pub restoring_begins : Restoring n size left p l s start p l s (record { count = 0; least = start })
  restoring_begins =
      record {
        placed = none (λ t m. placed_one n size left (at l (p + t)) m) (spot s start);
        kept = none (λ t m. kept_one n NV s (p + t) (p + m.count) m) (cut l 0);
        weights = λ v. refl;
        rest = λ c b. refl;
        few = omega arith;
      }
    where
      none : {A : Type 0} (f : ℕ → A → A) (m : A) → Turned f m (p - p) m
      none f m = let z : 0 ≡ p - p = omega arith in subst (λ (k : ℕ). Turned f m k m) z (begin f m)

module _ {n size left p : ℕ} {l s : List ℤ} {start q : ℕ} {l' s' : List ℤ} {r : Restored} (h : Restoring n size left p l s start q l' s' r) where
  turn_q : q ≡ p + (q - p)
  turn_q = omega (arith, h.few)

  here : at l' q ≡ at l (p + (q - p))
  here = h.rest q (omega arith) ∙ ap (at l) turn_q

  more : {A : Type 0} (f : ℕ → A → A) (m y z : A) → Turned f m (q - p) y → z ≡ f (q - p) y → Turned f m (q + 1 - p) z
  more f m y z w e = let c : q - p + 1 ≡ q + 1 - p = omega (arith, turn_q) in subst (λ (k : ℕ). Turned f m k z) c (turn f m (q - p) y w z e)

  module _ (i own : ℕ) (hi : i ≡ at l' q) (ho : own ≡ rd n NV s' i) where
    placed_next : (m : Spot) → m ≡ placed_one n size left (at l' q) (spot s' r.least)
        → Turned (λ t m. placed_one n size left (at l (p + t)) m) (spot s start) (q + 1 - p) m
    placed_next m a = more _ (spot s start) (spot s' r.least) m h.placed (a ∙ ap (λ (i : ℕ). placed_one n size left i (spot s' r.least)) here)

    weight : own ≡ rd n NV s i
    weight = ho ∙ h.weights i

    cell : i ≡ at l' (p + (q - p))
    cell = hi ∙ ap (at l') turn_q

    -- a row with a weight is placed, and kept behind the survivors
    pub restoring_keeps : {l'' s'' : List ℤ} {x : Restored} → spot s'' x.least ≡ placed_row n size left i own (spot s' r.least)
        → l'' ≡ wr l' (p + r.count) i → x.count ≡ r.count + 1 → 0 < own → Restoring n size left p l s start (q + 1) l'' s'' x
    restoring_keeps {l'' = l''} {s'' = s''} {x = x} hx hl hc b =
        let a = one_yes n size left l' s' q r.least i own hi ho (spot s'' x.least) hx b in
        record {
          placed = placed_next (spot s'' x.least) a;
          kept = more _ (cut l 0) (cut l' r.count) (cut l'' x.count) h.kept
              (keep_yes n NV s (p + (q - p)) (p + r.count) l' r.count i own cell weight l'' x.count hl hc b);
          weights = λ v. ap (λ (m : Spot). rd n NV m.mem v) a ∙ one_weights n size left (at l' q) (spot s' r.least) v ∙ h.weights v;
          rest = λ c b. ap (λ (y : List ℤ). at y c) hl ∙ at_wr_other l' (p + r.count) i c (λ e. omega (arith, h.few)) ∙ h.rest c (omega arith);
          few = omega (arith, h.few);
        }

    -- a merged one has its turn, and nothing is done
    pub restoring_passes : own ≤ 0 → Restoring n size left p l s start (q + 1) l' s' r
    restoring_passes b =
        record {
          placed = placed_next (spot s' r.least) (one_no n size left l' s' q r.least i own hi ho b);
          kept = more _ (cut l 0) (cut l' r.count) (cut l' r.count) h.kept (keep_no n NV s (p + (q - p)) (p + r.count) l' r.count i own cell weight b);
          weights = h.weights;
          rest = λ c b. h.rest c (omega arith);
          few = omega (arith, h.few);
        }

  module _ (k there : ℕ) (e : there ≡ clipped (length l) p k) (a : q ≤ p + there) (b : p + there ≤ q) where
    pub restoring_placed : spot s' r.least ≡ placed_all n size left l p k (spot s start)
    unfolding placed_all
    restoring_placed =
        clipped_finish (λ t m. placed_one n size left (at l (p + t)) m) (spot s start) (q - p) (spot s' r.least) h.placed (length l) p k there e
        (omega arith) (omega arith)

    pub restoring_kept : cut l' r.count ≡ kept_part n NV s p k l
    unfolding kept_part
    restoring_kept =
        clipped_finish (λ t m. kept_one n NV s (p + t) (p + m.count) m) (cut l 0) (q - p) (cut l' r.count) h.kept (length l) p k there e
        (omega arith) (omega arith)
