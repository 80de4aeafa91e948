-- What meeting a pair leaves as it was, and that the rows of the pattern are read, and not written.
-- Assumes nothing.
use Prim.Native.Nat.{ℕ, ◌+◌, ◌-◌}
use native.Mathlib.Omega.{arith}
use mathlib.Core.Path.{◌≡◌, refl, ◌∙◌}
use mathlib.Core.Logic.{◌⊎◌, inl, inr}
use lib.Dec.{ltb}
use Rattle.plain.specs.Turns.{times}
use Rattle.plain.proofs.Logic.{cond_has}
use Rattle.plain.proofs.Turns.{times_keeps}
use Rattle.cells.specs.View.{rd, Room}
use Rattle.cells.proofs.Fields.{room_up}
use Rattle.cells.proofs.Laws.{mem, rd_up_field}
use Rattle.pattern.specs.Model.{Heap, added, paired, paired_at, paired_part, stop_of, next_of, marked, passed, met, met_at}

-- ---- what a pair leaves as it was

module _ (n i j : ℕ) (h : Heap) where
  pub paired_field : (f : ℕ) → (f ≡ 13) ⊎ ((f ≡ 15) ⊎ (f ≡ 16)) → (q : ℕ) → rd n f (paired n i j h).mem q ≡ rd n f h.mem q
  unfolding paired added
  paired_field f (inl e) q = rw e (simp mem)
  paired_field f (inr (inl e)) q = rw e (simp mem)
  paired_field f (inr (inr e)) q = rw e (simp mem)

  pub paired_room : Room n h.mem → Room n (paired n i j h).mem
  unfolding paired added
  paired_room r = room_up n 12 _ _ _ (room_up n 12 _ _ _ r)

-- ---- the rows of the pattern are read, and not written

pub paired_rows : (n i j : ℕ) (h : Heap) (q : ℕ) → rd n 16 (paired n i j h).mem q ≡ rd n 16 h.mem q
paired_rows n i j h q = paired_field n i j h 16 (inr (inr refl)) q

pub paired_at_rows : (n j p : ℕ) (h : Heap) (q : ℕ) → rd n 16 (paired_at n j p h).mem q ≡ rd n 16 h.mem q
unfolding paired_at
paired_at_rows n j p h q =
    cond_has (λ (x : Heap). rd n 16 x.mem q ≡ rd n 16 h.mem q) (ltb (rd n 16 h.mem p) n) (λ e. paired_rows n (rd n 16 h.mem p) j h q) (λ e. refl)

passed_rows : (n j k : ℕ) (h : Heap) (q : ℕ) → rd n 16 (passed n j k h).mem q ≡ rd n 16 h.mem q
unfolding passed marked paired_part
passed_rows n j k h q =
    let p = rd n 13 h.mem j in
    let c = stop_of n h.mem j k p - p in
    rd_up_field n 13 16 (times c (λ t. paired_at n j (p + t)) h).mem j (next_of n h.mem j k p) q refl
    ∙ times_keeps (λ t (x : Heap). rd n 16 x.mem q ≡ rd n 16 h.mem q) (λ t. paired_at n j (p + t)) c (λ t x b e. paired_at_rows n j (p + t) x q ∙ e) c h (omega arith) refl

met_rows : (n k j : ℕ) (h : Heap) (q : ℕ) → rd n 16 (met n k j h).mem q ≡ rd n 16 h.mem q
unfolding met
met_rows n k j h q = passed_rows n j k (paired n j k h) q ∙ paired_rows n j k h q

pub met_at_rows : (n k p : ℕ) (h : Heap) (q : ℕ) → rd n 16 (met_at n k p h).mem q ≡ rd n 16 h.mem q
unfolding met_at
met_at_rows n k p h q = met_rows n k (rd n 16 h.mem p) h q
