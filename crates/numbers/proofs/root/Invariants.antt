-- `numbers::root` meets its contract. The invariant: the number lies from `low` on and below `high`. The measure is how many are left.
use Prim.Native.Nat.{◌+◌, ◌-◌, ◌≤◌, ◌<◌, min}
use Rattle.definition.specs.Threshold.{multiplier, start}
use Rattle.numbers.proofs.root.Given as goal

abbrev pub invariant-loop-low : goal.invariant-loop-low
invariant-loop-low l = (l.low ≤ min l.n (start (multiplier l.x) l.n)) × (min l.n (start (multiplier l.x) l.n) < l.high) × (l.high ≤ l.n + 1)

abbrev pub decreases-loop-low : goal.decreases-loop-low
decreases-loop-low l = l.high - l.low
