-- Which of the pointers' faults decides, in the order of document 01's sentence.
-- Assumes nothing.
use Prim.Native.Nat.{zero, suc, ◌+◌, ◌≤◌, ◌<◌, ◌^◌}
use native.Mathlib.Omega.{arith}
use native.Mathlib.Numerals.{add-one}
use mathlib.Core.Path.{◌≡◌, refl, sym, ap, ◌∙◌}
use mathlib.Core.Bool.{Bool, true, false, not, ◌&&◌}
use lib.Dec.{leb, ltb}
use lib.IntN.{ℤ, pos, negsuc}
use lib.Signed.{mag, le_z}
use lib.ListN.{length}
use mir.Syntax.{w32}
use mir.Val.{hbits, to_z, of_z}
use borrow.Author.Tests.{eq-eqb, ne_eqb, lt-leb, lt-ltb, le-ltb}
use Rattle.plain.proofs.Logic.{or_left, or_right}
use Rattle.definition.specs.Limits.{base_limits}
use Rattle.definition.specs.Pattern.{Pattern, column_count, nnz, climbs, bad_length, bad_first, bad_order, bad_total, bad_pointers}
use Rattle.checks.proofs.Orders.{read}
use Rattle.checks.proofs.Slices.{at}

-- the first pointer, by the code's test on its bits
pub zero_read : (z : ℤ) → mag z < 2 ^ hbits w32 → of_z w32 z ≡ 0 → z ≡ pos 0
zero_read z h e = sym (read w32 z h) ∙ ap (to_z w32) e

both : (t : Bool) {b : Bool} → b ≡ false → (t && b) ≡ false
both true e = e
both false e = refl

not_zero : (y : ℤ) → (of_z w32 y ≡ 0 → ⊥) → not (le_z (pos 0) y && le_z y (pos 0)) ≡ true
not_zero (pos zero) e = absurd (e refl)
not_zero (pos (suc n)) e = ap not (both (leb 0 (suc n)) (lt-leb (suc n) 0 (omega arith)))
not_zero (negsuc n) e = refl

module _ (a : Pattern) where
  pub fault_length : (length a.pointers ≡ column_count a + 1 → ⊥) → true ≡ bad_pointers base_limits a
  unfolding bad_pointers bad_length
  fault_length h = sym (or_left (bad_length a) _ (ap not (ne_eqb (length a.pointers) (suc (column_count a)) (λ e. h (e ∙ sym (add-one (column_count a)))))))

  pub fault_first : (of_z w32 (at a.pointers 0) ≡ 0 → ⊥) → true ≡ bad_pointers base_limits a
  unfolding bad_pointers bad_first
  fault_first h = sym (or_right (bad_length a) _ (or_left (bad_first a) _ (not_zero (at a.pointers 0) h)))

  pub fault_order : climbs a.pointers ≡ false → true ≡ bad_pointers base_limits a
  unfolding bad_pointers bad_order
  fault_order e = sym (or_right (bad_length a) _ (or_right (bad_first a) _ (or_left (bad_order a) _ (ap not e))))

  pub fault_most : base_limits.most_entries < nnz a → true ≡ bad_pointers base_limits a
  unfolding bad_pointers bad_total
  fault_most h =
      sym (or_right (bad_length a) _ (or_right (bad_first a) _ (or_right (bad_order a) (bad_total base_limits a) (or_left (ltb base_limits.most_entries (nnz a)) _ (lt-ltb base_limits.most_entries (nnz a) h)))))

  pub fault_rows : length a.rows < nnz a → true ≡ bad_pointers base_limits a
  unfolding bad_pointers bad_total
  fault_rows h =
      sym (or_right (bad_length a) _ (or_right (bad_first a) _ (or_right (bad_order a) (bad_total base_limits a) (or_right (ltb base_limits.most_entries (nnz a)) _ (lt-ltb (length a.rows) (nnz a) h)))))

  pub no_fault : length a.pointers ≡ column_count a + 1 → at a.pointers 0 ≡ pos 0 → climbs a.pointers ≡ true → nnz a ≤ base_limits.most_entries → nnz a ≤ length a.rows
      → bad_pointers base_limits a ≡ false
  unfolding bad_pointers bad_length bad_first bad_order bad_total
  no_fault size first up most rows =
      rw (eq-eqb (length a.pointers) (suc (column_count a)) (size ∙ add-one (column_count a)), first, up, le-ltb base_limits.most_entries (nnz a) most)
      (le-ltb (length a.rows) (nnz a) rows)
