-- What the loops over a pattern need of pointers and rows that are not refused: each that is read is a number, and each column ends within the first nnz rows.
-- The pattern's laws are those of `facts`; here they are at n as a number, whatever the limit of n is.
-- Assumes nothing.
use Prim.Native.Nat.{ℕ, ◌+◌, ◌≤◌, ◌<◌}
use native.Mathlib.Nat.{le_refl}
use native.Mathlib.Numerals.{add-one}
use native.Mathlib.Omega.{arith}
use mathlib.Core.Path.{◌≡◌, sym, ap, ◌∙◌}
use mathlib.Core.Bool.{Bool, true, false}
use mathlib.Core.List.{List, map}
use lib.IntN.{ℤ, pos, nat_abs}
use lib.Signed.{non_neg}
use lib.ListN.{length}
use lib.Seq.{slice}
use Rattle.plain.specs.Lists.{rises}
use borrow.Author.Tests.{le-ltb}
use Rattle.definition.specs.Limits.{Limits, base_limits, outside}
use Rattle.definition.specs.Pattern.{Pattern, pointer, column, climbs, bad_count, bad_total, bad_pointers, bad_rows}
use Rattle.facts.proofs.Columns.{step_is, pointer_count, entries_most, rows_enough, pointer_is, pointer_step, pointer_most, row_is}
use Rattle.checks.specs.Given.{pattern_given}
use Rattle.checks.proofs.Slices.{at}

-- pointers that climb from 0 are numbers, also where the last is too large
pub sign_at : (ps : List ℤ) → at ps 0 ≡ pos 0 → climbs ps ≡ true → (k : ℕ) → non_neg (at ps k) ≡ true
sign_at ps first up k = ap non_neg (step_is ps first up k)

module _ (n : ℕ) (ps rs : List ℤ) where
  abbrev a : Pattern
  a = pattern_given (pos n) ps rs

  -- limits that n keeps
  limits : Limits
  limits = record { most_columns = n; most_entries = base_limits.most_entries }

  counted : bad_count limits a ≡ false
  unfolding bad_count outside limits
  counted = rw (le-ltb n 0 (omega arith), le-ltb n n (le_refl n))

  -- what accepted pointers are
  pub record Pointers : Type 0 where
    pub size : length ps ≡ n + 1
    pub sign : (k : ℕ) → non_neg (at ps k) ≡ true
    pub step : (k : ℕ) → k < n → nat_abs (at ps k) ≤ nat_abs (at ps (k + 1))
    pub ends : (k : ℕ) → k ≤ n → nat_abs (at ps k) ≤ nat_abs (at ps n)
    pub most : nat_abs (at ps n) ≤ base_limits.most_entries
    pub within : nat_abs (at ps n) ≤ length rs

  module _ (pointed : bad_pointers base_limits a ≡ false) where
    pub accepted_pointers : Pointers
    accepted_pointers = record {
      size = pointer_count base_limits a pointed ∙ sym (add-one n);
      sign = λ k. ap non_neg (pointer_is base_limits a pointed k);
      step = λ k l. rw (add-one k) (pointer_step base_limits a pointed k l);
      ends = pointer_most base_limits a pointed;
      most = entries_most base_limits a pointed;
      within = rows_enough base_limits a pointed;
    }

    pub row_sign : bad_rows a ≡ false → (k : ℕ) → k < nat_abs (at ps n) → non_neg (at rs k) ≡ true
    unfolding bad_pointers bad_total limits
    row_sign ranged k l = ap non_neg (row_is limits a pointed counted ranged k l).0

-- a column, from the two pointers that were read
pub column_is : (a : Pattern) (k from to : ℕ) (r : Bool) → from ≡ pointer a k → to ≡ pointer a (k + 1) → r ≡ rises (map nat_abs (slice from to a.rows)) → r ≡ rises (column a k)
unfolding column
column_is a k from to r e f g = rw (← add-one k, ← e, ← f) g
