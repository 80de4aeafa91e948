-- Document 01, "Statistics of an element", without the collections.
-- Assumes nothing.
use Rattle.std.specs.Prelude.{ℕ, ◌+◌, ◌-◌, ◌*◌, ◌/◌, max}
use mathlib.Core.List.{List, [], ◌∷◌, ◌++◌, map, foldl}
use Rattle.plain.specs.Lists.{total}
use Rattle.definition.specs.State.{Front}

-- "q = f·r + (f-1)·f/2". Differences stop at 0: "for a dense count of zero the factor f-1 is negative and the gain is zero".
unfoldable pub gain_q : ℕ → ℕ → ℕ
gain_q f r = f * r + (f - 1) * f / 2

-- "s = f·r² + r·(f-1)·f + (f-1)·f·(2f-1)/6"
unfoldable pub gain_s : ℕ → ℕ → ℕ
gain_s f r = f * r * r + r * (f - 1) * f + (f - 1) * f * (2 * f - 1) / 6

-- "n_mult_subs_ldl gains (s+q)/2"
unfoldable pub gain_ldl : ℕ → ℕ → ℕ
gain_ldl f r = (gain_s f r + gain_q f r) / 2

-- "an element with f pivots (..) and r = remaining weight plus dense count"
pub record Block : Type 0 where
  pub f : ℕ
  pub r : ℕ

-- "The dense block counts as one last element with f = dense count, r = 0"; nd is the dense count
unfoldable pub blocks_of : ℕ → List Front → List Block
blocks_of nd fronts = map (λ e. record { f = e.pivots; r = e.rest + nd }) fronts ++ (record { f = nd; r = 0 } ∷ [])

-- what all blocks gain together
unfoldable pub sum_of : (ℕ → ℕ → ℕ) → List Block → ℕ
sum_of gain blocks = total (λ b. gain b.f b.r) blocks

-- "d_max is the largest f+r, at least 1"
unfoldable pub largest : List Block → ℕ
largest blocks = foldl (λ m b. max m (b.f + b.r)) 1 blocks

-- the first six, in document 01's order
pub record Six : Type 0 where
  pub lnz : ℕ
  pub n_div : ℕ
  pub n_mult_subs_ldl : ℕ
  pub n_mult_subs_lu : ℕ
  pub n_dense : ℕ
  pub d_max : ℕ

-- "all statistics zero"
abbrev pub no_six : Six
no_six = record { lnz = 0; n_div = 0; n_mult_subs_ldl = 0; n_mult_subs_lu = 0; n_dense = 0; d_max = 0 }

-- of the elements made, and the dense count
unfoldable pub six_of : ℕ → List Front → Six
six_of nd fronts = record {
  lnz = sum_of gain_q (blocks_of nd fronts);
  n_div = sum_of gain_q (blocks_of nd fronts);
  n_mult_subs_ldl = sum_of gain_ldl (blocks_of nd fronts);
  n_mult_subs_lu = sum_of gain_s (blocks_of nd fronts);
  n_dense = nd;
  d_max = largest (blocks_of nd fronts);
}
