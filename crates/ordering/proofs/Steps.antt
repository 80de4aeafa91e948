-- Code to model: the threshold, the scratch, and the course of an ordering.
-- Assumes nothing.
use Prim.Native.Nat.{ℕ}
use mathlib.Core.Path.{◌≡◌, refl}
use mathlib.Core.Bool.{Bool}
use mathlib.Core.List.{List}
use lib.IntN.{ℤ}
use lib.ListN.{length}
use Rattle.definition.specs.Answers.{or_full_rows}
use Rattle.definition.specs.Threshold.{rule_of, threshold}
use Rattle.numbers.specs.declared.Settings.{Settings}
use Rattle.pattern.specs.Model.{heap, tidied, built, built_free}
use Rattle.elimination.specs.declared.Eliminated.{Eliminated}
use Rattle.elimination.specs.Runs.{Whole}
use Rattle.tree.specs.Final.{Outputs}
use Rattle.ordering.specs.Course.{Course}

-- ---- the course

pub course : (n : ℕ) (a b : List ℤ) (x : Settings) (jumbled : Bool) (l s p i p' i' l₀ l₁ s₁ l' s' : List ℤ) (free limit : ℕ) (e : Eliminated)
    → Outputs n e.merges s' p i p' i'
    → Whole n limit free x.aggressive l₁ s₁ l' s' e
    → limit ≡ threshold (or_full_rows (rule_of x.multiplier)) n
    → length l₀ ≡ length l
    → heap l₁ s₁ ≡ built n l₀ (tidied n a b jumbled s)
    → free ≡ built_free n l₀ (tidied n a b jumbled s)
    → Course n a b x jumbled l s p i p' i' e.statistics
course n a b x jumbled l s p i p' i' l₀ l₁ s₁ l' s' free limit e outputs whole hl long ht hf = record {
  l₀ = l₀;
  long = long;
  l' = l';
  s' = s';
  e = e;
  whole = rw (← hl, ← hf, ← ht) whole;
  outputs = outputs;
  counts = refl;
}
