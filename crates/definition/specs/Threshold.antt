-- Document 01, "The dense threshold". A multiplier is read as a number of quarters; no float is computed with.
-- Assumes nothing.
use Rattle.std.specs.Prelude.{ℕ, zero, suc, ◌+◌, ◌-◌, ◌*◌, ◌/◌, ◌%◌, min, max, Bool, ◌&&◌, cond, leb, ltb, eqb, Float}
use Rattle.std.proofs.Math.Option.{Option, none, some}
use Rattle.std.specs.Float.{nan, inf, fin}
use Rattle.std.specs.Float.Ieee.{up, down}

-- "The dense rule read from them is either full rows only, or a multiplier with its value." The value stays as it came, a minus zero a minus zero.
pub data Rule : Type 0 where
  full_rows : Rule
  multiplier : Float → Rule

-- Four times the value, which is m * up e / down e. "Minus zero counts as zero": its m is 0.
unfoldable pub quarters_of : Float → ℕ
quarters_of nan = 0
quarters_of (inf s) = 0
quarters_of (fin s m e) = m * up e * 4 / down e

-- not "above 1,000, or not below zero and not a whole multiple of 0.25": 1,000 is 4,000 quarters, and the division leaves nothing
unfoldable pub in_quarters : ℕ → ℕ → Bool
in_quarters num den = eqb (num * 4 % den) 0 && leb (num * 4 / den) 4000

-- the rule of a multiplier; none where it is refused: "multiplier is not a number, or infinite, or" the above
unfoldable pub rule_of : Float → Option Rule
rule_of nan = none
rule_of (inf s) = none
rule_of (fin s m e) = cond (s && ltb 0 m) (some full_rows) (cond (in_quarters (m * up e) (down e)) (some (multiplier (fin s m e))) none)

-- twice the root of a quarter of x, or one more: k binary digits
unfoldable pub root : ℕ → ℕ → ℕ
root zero x = 0
root (suc k) x = let r = 2 * root k (x / 4) in cond (leb ((r + 1) * (r + 1)) x) (r + 1) r

-- "the largest whole t with t² at most" x, for an x below 4 ^ 32 (proofs/Root, `square_root_is`: nothing else is used of it)
unfoldable pub square_root : ℕ → ℕ
square_root x = root 32 x

-- "Multiplier below zero: start from n-2, or 0 where n is below 2. Otherwise start from the largest whole t with t² at most multiplier²·n."
-- t * t is at most (q / 4) * (q / 4) * n exactly where it is at most the whole part of that.
unfoldable pub start : Rule → ℕ → ℕ
start full_rows n = n - 2
start (multiplier x) n = square_root (quarters_of x * quarters_of x * n / 16)

-- "Then take at least 16, then at most n."
unfoldable pub threshold : Rule → ℕ → ℕ
threshold rule n = min n (max 16 (start rule n))
