-- Document 01, "Symbolic Cholesky": the fill of the order that is found, against lnz.
-- Assumes nothing.
use Prim.Native.Nat.{ℕ}
use mathlib.Core.Path.{◌≡◌, refl}
use mathlib.Core.List.{List, [], ◌∷◌, map}
use Rattle.definition.specs.Answers.{Problem}
use Rattle.definition.specs.Ordering.{graph_of}
use Rattle.definition.specs.Outcome.{outcome}
use Rattle.definition.specs.Cholesky.{counts, fill}
use Rattle.definition.specs.Opened.{opened}
use Rattle.definition.proofs.Problems.{ten, asked, six_of}
use Rattle.definition.proofs.Settled.{table}

abbrev fill_of : Problem → ℕ
fill_of p = fill (outcome p).permutation (graph_of p.pattern)

abbrev counts_of : Problem → List ℕ
counts_of p = counts (outcome p).permutation (graph_of p.pattern)

-- the cases A to H, D twice: each fill is the lnz of the table
pub fills : map (λ r. fill_of r.problem) table ≡ (0 ∷ 0 ∷ 1 ∷ 2 ∷ 2 ∷ 3 ∷ 5 ∷ 16 ∷ 17 ∷ [])
unfolding opened
fills = refl

-- permutation, inverse, six statistics, and the count of each column
abbrev shown : Problem → List (List ℕ)
shown p = (outcome p).permutation ∷ (outcome p).inverse ∷ six_of (outcome p).statistics ∷ counts_of p ∷ []

-- The AMD User Guide, section 4.2: its text prints 0, 3, 1, 4, 2; its program, in C, and the Rust both give 0, 3, 2, 4, 1, which is settled here.
abbrev guide_sample : Problem
guide_sample = asked 5 (0 ∷ 2 ∷ 6 ∷ 10 ∷ 12 ∷ 14 ∷ []) (0 ∷ 1 ∷ 0 ∷ 1 ∷ 2 ∷ 4 ∷ 1 ∷ 2 ∷ 3 ∷ 4 ∷ 2 ∷ 3 ∷ 1 ∷ 4 ∷ []) ten

pub guide : shown guide_sample ≡ ((0 ∷ 3 ∷ 2 ∷ 4 ∷ 1 ∷ []) ∷ (0 ∷ 4 ∷ 2 ∷ 1 ∷ 3 ∷ []) ∷ (5 ∷ 5 ∷ 6 ∷ 7 ∷ 0 ∷ 3 ∷ []) ∷ (1 ∷ 1 ∷ 2 ∷ 1 ∷ 0 ∷ []) ∷ [])
unfolding opened
guide = refl

-- The smallest pattern whose lnz, 8, is above its fill, 7: the last four columns of the new order are one element, and the first of them is charged
-- three later neighbours, of which it has two.
abbrev loose : Problem
loose = asked 5 (0 ∷ 0 ∷ 1 ∷ 2 ∷ 4 ∷ 6 ∷ []) (0 ∷ 0 ∷ 1 ∷ 2 ∷ 1 ∷ 2 ∷ []) ten

pub loose_bound : shown loose ≡ ((4 ∷ 0 ∷ 1 ∷ 3 ∷ 2 ∷ []) ∷ (1 ∷ 2 ∷ 4 ∷ 3 ∷ 0 ∷ []) ∷ (8 ∷ 8 ∷ 13 ∷ 18 ∷ 0 ∷ 4 ∷ []) ∷ (2 ∷ 2 ∷ 2 ∷ 1 ∷ 0 ∷ []) ∷ [])
unfolding opened
loose_bound = refl
