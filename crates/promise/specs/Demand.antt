-- The third demand: what two workspaces share, and what is true of an ordering by itself.
-- Assumes nothing.
use Rattle.std.specs.Prelude.{ℕ, suc, ◌≤◌, ◌<◌, ◌≡◌, not, ◌&&◌, ◌||◌, List, [], map, eqb, ℤ, pos, nat_abs, length, get_or, replicate}
use Rattle.plain.specs.Lists.{member}
use Rattle.plain.specs.Permutations.{Permutation}
use Rattle.definition.specs.Pattern.{Pattern, column_count, column}
use Rattle.definition.specs.Ordering.{graph_of}
use Rattle.definition.specs.Promise.{Lent, After, after}
use Rattle.definition.specs.Cholesky.{counts, fill}

-- a function that does what is promised, at every input
abbrev pub Meets : (Lent → After) → Type 0
Meets f = (l : Lent) → f l ≡ after l

-- the pattern that is lent
abbrev pub pattern_of : Lent → Pattern
pattern_of l = record { n = l.n; pointers = l.pointers; rows = l.rows }

abbrev pub size : Lent → ℕ
size l = column_count (pattern_of l)

-- the same pattern and the same settings; outputs and workspaces differ as they like, in length and in what they hold
pub record Alike (l l' : Lent) : Type 0 where
  pub n : l.n ≡ l'.n
  pub pointers : l.pointers ≡ l'.pointers
  pub rows : l.rows ≡ l'.rows
  pub multiplier : l.multiplier ≡ l'.multiplier
  pub aggressive : l.aggressive ≡ l'.aggressive

-- all that two workspaces share: n_cmp_a is not there
pub record Agreed (a b : After) : Type 0 where
  pub answer : a.answer ≡ b.answer
  pub permutation : a.permutation ≡ b.permutation
  pub inverse : a.inverse ≡ b.inverse
  pub lnz : a.statistics.lnz ≡ b.statistics.lnz
  pub n_div : a.statistics.n_div ≡ b.statistics.n_div
  pub n_mult_subs_ldl : a.statistics.n_mult_subs_ldl ≡ b.statistics.n_mult_subs_ldl
  pub n_mult_subs_lu : a.statistics.n_mult_subs_lu ≡ b.statistics.n_mult_subs_lu
  pub n_dense : a.statistics.n_dense ≡ b.statistics.n_dense
  pub d_max : a.statistics.d_max ≡ b.statistics.d_max

-- an output slice as natural numbers; `Sound` says besides that none of it is negative
abbrev pub numbers : List ℤ → List ℕ
numbers xs = map nat_abs xs

-- what is true of one ordering
pub record Sound (l : Lent) (a : After) : Type 0 where
  -- both outputs hold each of 0, 1, .., n - 1 once
  pub permutation : Permutation (size l) (numbers a.permutation)
  pub permutation_plain : a.permutation ≡ map pos (numbers a.permutation)
  pub inverse : Permutation (size l) (numbers a.inverse)
  pub inverse_plain : a.inverse ≡ map pos (numbers a.inverse)
  -- and each undoes the other
  pub inverse_first : (k : ℕ) → k < size l → get_or (numbers a.inverse) (get_or (numbers a.permutation) k 0) 0 ≡ k
  pub inverse_then : (v : ℕ) → v < size l → get_or (numbers a.permutation) (get_or (numbers a.inverse) v 0) 0 ≡ v
  -- "both workspaces wholly zero"
  pub lists : a.lists ≡ replicate (length l.lists) (pos 0)
  pub scratch : a.scratch ≡ replicate (length l.scratch) (pos 0)
  -- the graph below is A+A': two rows are neighbours where one stands in the other's column
  pub edges : (v w : ℕ) → v < size l → w < size l
      → member w (get_or (graph_of (pattern_of l)) v []) ≡ not (eqb v w) && (member w (column (pattern_of l) v) || member v (column (pattern_of l) w))
  -- "The sum of counts is the fill measured against lnz"
  pub lnz : fill (numbers a.permutation) (graph_of (pattern_of l)) ≤ a.statistics.lnz
  -- the diagonal counts for d_max
  pub d_max : (k : ℕ) → k < size l → suc (get_or (counts (numbers a.permutation) (graph_of (pattern_of l))) k 0) ≤ a.statistics.d_max

-- the demand, of two inputs and of what is left of each
pub record Demand (l l' : Lent) (a a' : After) : Type 0 where
  pub agreed : Agreed a a'
  pub sound : Sound l a
  pub sound' : Sound l' a'
