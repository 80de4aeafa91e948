-- The fill bound of the ordering of a pattern, of its end as `Ended` and `Counted` say: every count is at most its charge, the fill at most lnz, and so on.
-- Assumes nothing.
use Prim.Native.Nat.{ℕ, suc, ◌≤◌, ◌<◌}
use native.Mathlib.Omega.{arith}
use mathlib.Core.Path.{◌≡◌, refl, sym, ◌∙◌}
use mathlib.Core.Bool.{Bool, true, false, cond}
use mathlib.Core.List.{List, [], ◌∷◌}
use lib.Dec.{eqb}
use lib.ListN.{length, get_or}
use borrow.Author.Tests.{eqb-true, ne_eqb}
use Rattle.plain.proofs.Falling.{square, triangle, square_mono, triangle_mono}
use Rattle.plain.specs.Lists.{total, itself}
use Rattle.definition.specs.Threshold.{Rule}
use Rattle.definition.specs.Pattern.{Pattern}
use Rattle.definition.specs.State.{State, row_count, dense_rows}
use Rattle.definition.specs.Elimination.{final_state}
use Rattle.definition.specs.Statistics.{six_of, no_six}
use Rattle.definition.specs.Ordering.{graph_of, limit_of, key_for, final_of, permutation_of, plain_from, plain}
use Rattle.definition.specs.Cholesky.{counts, fill}
use Rattle.facts.proofs.Sizes.{sized_final}
use Rattle.facts.specs.History.{history}
use Rattle.fill.proofs.Ended.{Ended}
use Rattle.fill.proofs.Charged.{count_charge, counts_charges, charges_length}
use Rattle.fill.proofs.Told.{Counted, fill_lnz, counts_lu, counts_ldl, count_d_max}
use Rattle.fill.specs.Charges.{charges}

-- W1, a field of `Ended`, is proved of each final state
pub kinds_final : (key_of : ℕ → ℕ) (aggressive : Bool) (limit : ℕ) (nbrs : List (List ℕ))
    → length (final_state key_of aggressive limit nbrs).graph.kinds ≡ row_count (final_state key_of aggressive limit nbrs).graph
kinds_final key_of aggressive limit nbrs = let w = sized_final key_of aggressive limit nbrs in w.graph.kinds ∙ sym w.graph.weights

nothing_total : (w : ℕ → ℕ) (xs : List ℕ) → length xs ≡ 0 → total w xs ≡ 0
unfolding total
nothing_total w [] h = refl
nothing_total w (x ∷ xs) h = absurd (omega arith)

module _ (a : Pattern) (rule : Rule) (aggressive : Bool)
    (end : Ended (final_of a rule aggressive) (history (key_for a) aggressive (limit_of a rule) (graph_of a)) (graph_of a))
    (counted : Counted (final_of a rule aggressive)) where
  abbrev s : State
  s = final_of a rule aggressive

  abbrev past : List (List ℕ)
  past = history (key_for a) aggressive (limit_of a rule) (graph_of a)

  abbrev counted_at : List ℕ
  counted_at = counts (permutation_of (final_of a rule aggressive).graph) (graph_of a)

  none_there : (w : ℕ → ℕ) → ((x y : ℕ) → x ≤ y → w x ≤ w y) → eqb (row_count s.graph) 0 ≡ true → total w counted_at ≡ 0
  none_there w mono t =
      omega (
        arith,
        counts_charges s past (graph_of a) end w mono,
        nothing_total w (charges s) (charges_length s past (graph_of a) end ∙ eqb-true (row_count s.graph) 0 t),
      )

  pub each_charge : (k : ℕ) → k < row_count s.graph → get_or (counts (plain a rule aggressive).permutation (graph_of a)) k 0 ≤ get_or (charges (final_of a rule aggressive)) k 0
  unfolding plain plain_from
  each_charge k l = count_charge s past (graph_of a) end k l

  pub lnz_bound : fill (plain a rule aggressive).permutation (graph_of a) ≤ (plain a rule aggressive).six.lnz
  unfolding plain plain_from fill
  lnz_bound =
      pick (eqb (row_count s.graph) 0) (none_there itself (λ x y h. h))
    where
      pick : (b : Bool) → (b ≡ true → total itself counted_at ≡ 0) → total itself counted_at ≤ (cond b no_six (six_of (length (dense_rows s.graph)) s.fronts)).lnz
      pick true h = omega (arith, h refl)
      pick false h = fill_lnz s past (graph_of a) end counted

  pub lu_bound : total square (counts (plain a rule aggressive).permutation (graph_of a)) ≤ (plain a rule aggressive).six.n_mult_subs_lu
  unfolding plain plain_from
  lu_bound =
      pick (eqb (row_count s.graph) 0) (none_there square square_mono)
    where
      pick : (b : Bool) → (b ≡ true → total square counted_at ≡ 0) → total square counted_at ≤ (cond b no_six (six_of (length (dense_rows s.graph)) s.fronts)).n_mult_subs_lu
      pick true h = omega (arith, h refl)
      pick false h = counts_lu s past (graph_of a) end counted

  pub ldl_bound : total triangle (counts (plain a rule aggressive).permutation (graph_of a)) ≤ (plain a rule aggressive).six.n_mult_subs_ldl
  unfolding plain plain_from
  ldl_bound =
      pick (eqb (row_count s.graph) 0) (none_there triangle triangle_mono)
    where
      pick : (b : Bool) → (b ≡ true → total triangle counted_at ≡ 0) → total triangle counted_at ≤ (cond b no_six (six_of (length (dense_rows s.graph)) s.fronts)).n_mult_subs_ldl
      pick true h = omega (arith, h refl)
      pick false h = counts_ldl s past (graph_of a) end counted

  pub d_max_bound : (k : ℕ) → k < row_count s.graph → suc (get_or (counts (plain a rule aggressive).permutation (graph_of a)) k 0) ≤ (plain a rule aggressive).six.d_max
  unfolding plain plain_from
  d_max_bound k l = let z : eqb (row_count s.graph) 0 ≡ false = ne_eqb (row_count s.graph) 0 (λ e. omega arith) in rw z (count_d_max s past (graph_of a) end counted k l)
