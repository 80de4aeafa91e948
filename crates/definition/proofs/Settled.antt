-- Document 01, "Settled cases": one table, under one statement.
-- Assumes nothing.
use Prim.Native.Nat.{ℕ}
use mathlib.Core.Path.{◌≡◌, refl}
use mathlib.Core.List.{List, [], ◌∷◌, map}
use lib.ListN.{get_or}
use Rattle.definition.specs.Answers.{Problem}
use Rattle.definition.specs.Outcome.{Outcome, outcome}
use Rattle.definition.specs.Opened.{opened}
use Rattle.definition.proofs.Problems.{ten, asked, star, six_of}

-- ---- what a row of the table shows of an outcome: "n_div equals lnz and n_cmp_a is not compared"

abbrev numbers : Outcome → List (List ℕ)
numbers o = six_of o.statistics ∷ []

abbrev order : Outcome → List (List ℕ)
order o = o.permutation ∷ numbers o

abbrev both : Outcome → List (List ℕ)
both o = o.permutation ∷ o.inverse ∷ numbers o

abbrev last_one : Outcome → List (List ℕ)
last_one o = (get_or o.permutation 17 0 ∷ []) ∷ numbers o

pub record Row : Type 0 where
  pub problem : Problem
  pub shows : Outcome → List (List ℕ)
  pub says : List (List ℕ)

abbrev row : Problem → (Outcome → List (List ℕ)) → List (List ℕ) → Row
row p f l = record { problem = p; shows = f; says = l }

-- A, B, C, D with each edge twice, "D may be given as pointers [0,0,1,2], rows [0,1]", E, F, G, H
abbrev pub table : List Row
table =
    row (asked 0 (0 ∷ []) [] ten) both ([] ∷ [] ∷ (0 ∷ 0 ∷ 0 ∷ 0 ∷ 0 ∷ 0 ∷ []) ∷ [])
    ∷ row (asked 1 (0 ∷ 0 ∷ []) [] ten) order ((0 ∷ []) ∷ (0 ∷ 0 ∷ 0 ∷ 0 ∷ 0 ∷ 1 ∷ []) ∷ [])
    ∷ row (asked 2 (0 ∷ 0 ∷ 1 ∷ []) (0 ∷ []) ten) order ((0 ∷ 1 ∷ []) ∷ (1 ∷ 1 ∷ 1 ∷ 1 ∷ 0 ∷ 2 ∷ []) ∷ [])
    ∷ row (asked 3 (0 ∷ 1 ∷ 3 ∷ 4 ∷ []) (1 ∷ 0 ∷ 2 ∷ 1 ∷ []) ten) both ((2 ∷ 0 ∷ 1 ∷ []) ∷ (1 ∷ 2 ∷ 0 ∷ []) ∷ (2 ∷ 2 ∷ 2 ∷ 2 ∷ 0 ∷ 2 ∷ []) ∷ [])
    ∷ row (asked 3 (0 ∷ 0 ∷ 1 ∷ 2 ∷ []) (0 ∷ 1 ∷ []) ten) both ((2 ∷ 0 ∷ 1 ∷ []) ∷ (1 ∷ 2 ∷ 0 ∷ []) ∷ (2 ∷ 2 ∷ 2 ∷ 2 ∷ 0 ∷ 2 ∷ []) ∷ [])
    ∷ row (asked 3 (0 ∷ 0 ∷ 1 ∷ 3 ∷ []) (0 ∷ 0 ∷ 1 ∷ []) ten) order ((0 ∷ 1 ∷ 2 ∷ []) ∷ (3 ∷ 3 ∷ 4 ∷ 5 ∷ 0 ∷ 3 ∷ []) ∷ [])
    ∷ row (asked 4 (0 ∷ 0 ∷ 1 ∷ 2 ∷ 4 ∷ []) (0 ∷ 1 ∷ 0 ∷ 2 ∷ []) ten) numbers ((5 ∷ 5 ∷ 7 ∷ 9 ∷ 0 ∷ 3 ∷ []) ∷ [])
    ∷ row (star 17) numbers ((16 ∷ 16 ∷ 16 ∷ 16 ∷ 0 ∷ 2 ∷ []) ∷ [])
    ∷ row (star 18) last_one ((0 ∷ []) ∷ (17 ∷ 17 ∷ 17 ∷ 17 ∷ 1 ∷ 2 ∷ []) ∷ [])
    ∷ []

pub settled : map (λ r. r.shows (outcome r.problem)) table ≡ map (λ r. r.says) table
unfolding opened
settled = refl
