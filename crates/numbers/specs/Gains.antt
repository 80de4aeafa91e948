-- The statistics as they grow, element by element; proofs/Growth shows that they end as the definition's.
-- Assumes nothing.
use Rattle.std.specs.Prelude.{ℕ, ◌+◌, ◌*◌, ◌≤◌, ◌^◌, max, Bool, cond, ◌&&◌, leb}
use mathlib.Core.List.{List, foldl}
use Rattle.definition.specs.Limits.{base_limits}
use Rattle.definition.specs.State.{Front}
use Rattle.definition.specs.Statistics.{gain_q, gain_s, gain_ldl}
use Rattle.definition.specs.Outcome as Outcomes
use Rattle.numbers.specs.declared.Statistics.{Statistics}

-- before the first element, with nd dense rows: "d_max is the largest f+r, at least 1"
unfoldable pub begun : ℕ → Outcomes.Statistics
begun nd = record { lnz = 0; n_div = 0; n_mult_subs_ldl = 0; n_mult_subs_lu = 0; n_dense = nd; d_max = 1; n_cmp_a = 0 }

-- after one more element with f pivots and r rows below them
unfoldable pub gained : ℕ → ℕ → Outcomes.Statistics → Outcomes.Statistics
gained f r x = record {
  lnz = x.lnz + gain_q f r;
  n_div = x.n_div + gain_q f r;
  n_mult_subs_ldl = x.n_mult_subs_ldl + gain_ldl f r;
  n_mult_subs_lu = x.n_mult_subs_lu + gain_s f r;
  n_dense = x.n_dense;
  d_max = max x.d_max (f + r);
  n_cmp_a = x.n_cmp_a;
}

-- after the elements made so far, with nd dense rows: "r = remaining weight plus dense count"
unfoldable pub after_elements : ℕ → List Front → Outcomes.Statistics
after_elements nd fronts = foldl (λ x e. gained e.pivots (e.rest + nd) x) (begun nd) fronts

-- after `count` collections in all
unfoldable pub counted : ℕ → Outcomes.Statistics → Outcomes.Statistics
counted count x = record {
  lnz = x.lnz;
  n_div = x.n_div;
  n_mult_subs_ldl = x.n_mult_subs_ldl;
  n_mult_subs_lu = x.n_mult_subs_lu;
  n_dense = x.n_dense;
  d_max = x.d_max;
  n_cmp_a = count;
}

-- whether the totals have room for one more element
unfoldable pub roomy : Outcomes.Statistics → Bool
roomy x = leb x.lnz (2 ^ 63) && leb x.n_div (2 ^ 63) && leb x.n_mult_subs_ldl (2 ^ 63) && leb x.n_mult_subs_lu (2 ^ 63)

-- after an element, if it is one that an accepted pattern can have
unfoldable pub added_element : ℕ → ℕ → Outcomes.Statistics → Outcomes.Statistics
added_element f r x = cond (leb (f + r) base_limits.most_columns && roomy x) (gained f r x) x

-- the same as a fact: a gain is at most 2 ^ 62, so that no total passes 2 ^ 64
pub record Small (s : Statistics) : Type 0 where
  pub small_lnz : s.lnz ≤ 2 ^ 63
  pub small_div : s.n_div ≤ 2 ^ 63
  pub small_ldl : s.n_mult_subs_ldl ≤ 2 ^ 63
  pub small_lu : s.n_mult_subs_lu ≤ 2 ^ 63

-- the totals while g variables are gone, where no element has more than N rows
pub record Within (N g : ℕ) (x : Outcomes.Statistics) : Type 0 where
  pub below_lnz : x.lnz ≤ g * (N * N)
  pub below_div : x.n_div ≤ g * (N * N)
  pub below_ldl : x.n_mult_subs_ldl ≤ g * (N * N)
  pub below_lu : x.n_mult_subs_lu ≤ g * (N * N)
