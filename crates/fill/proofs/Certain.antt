-- The fill bound of every accepted problem, with no hypothesis left: every count is at most its charge and every charge at most the positions behind it (D4, D6);
-- the fill is at most lnz, and so for the other sums and d_max (D5).
-- Assumes nothing.
use Prim.Native.Nat.{ℕ, suc, ◌-◌, ◌≤◌, ◌<◌}
use mathlib.Core.Path.{◌≡◌, sym, ◌∙◌, subst}
use mathlib.Core.Bool.{Bool}
use mathlib.Core.List.{List}
use lib.ListN.{get_or}
use Rattle.plain.proofs.Falling.{square, triangle}
use Rattle.plain.specs.Lists.{total}
use Rattle.definition.specs.Threshold.{Rule}
use Rattle.definition.specs.Pattern.{column_count}
use Rattle.definition.specs.Answers.{Problem}
use Rattle.definition.specs.State.{row_count}
use Rattle.definition.specs.Ordering.{graph_of, limit_of, key_for, final_of, plain}
use Rattle.definition.specs.Cholesky.{counts, fill}
use Rattle.facts.proofs.Accepted.{neighbourly_graph, length_graph}
use Rattle.facts.proofs.Outcome.{final_rows}
use Rattle.facts.specs.Accepted.{Accepted}
use Rattle.facts.specs.History.{history}
use Rattle.fill.proofs.Bound as bound
use Rattle.fill.proofs.Discharged.{ended, counted, tidy}
use Rattle.fill.proofs.Ended.{Ended}
use Rattle.fill.proofs.Slots.{Tidy, charge_room}
use Rattle.fill.proofs.Told.{Counted}
use Rattle.fill.specs.Charges.{charges}

module _ (p : Problem) (ok : Accepted p) (rule : Rule) (aggressive : Bool) where
  abbrev past : List (List ℕ)
  past = history (key_for p.pattern) aggressive (limit_of p.pattern rule) (graph_of p.pattern)

  pub accepted_ended : Ended (final_of p.pattern rule aggressive) (history (key_for p.pattern) aggressive (limit_of p.pattern rule) (graph_of p.pattern)) (graph_of p.pattern)
  unfolding final_of
  accepted_ended = ended (limit_of p.pattern rule) (graph_of p.pattern) (neighbourly_graph p ok) (key_for p.pattern) aggressive

  pub accepted_counted : Counted (final_of p.pattern rule aggressive)
  unfolding final_of
  accepted_counted = counted (limit_of p.pattern rule) (graph_of p.pattern) (neighbourly_graph p ok) (key_for p.pattern) aggressive

  pub accepted_tidy : Tidy (final_of p.pattern rule aggressive) (history (key_for p.pattern) aggressive (limit_of p.pattern rule) (graph_of p.pattern))
  unfolding final_of
  accepted_tidy = tidy (limit_of p.pattern rule) (graph_of p.pattern) (neighbourly_graph p ok) (key_for p.pattern) aggressive

  rows : row_count (final_of p.pattern rule aggressive).graph ≡ column_count p.pattern
  unfolding final_of
  rows = final_rows (limit_of p.pattern rule) (graph_of p.pattern) (neighbourly_graph p ok) (key_for p.pattern) aggressive ∙ length_graph p ok

  row : (k : ℕ) → k < column_count p.pattern → k < row_count (final_of p.pattern rule aggressive).graph
  row k l = subst (λ (m : ℕ). k < m) (sym rows) l

  -- D4
  pub each_charge : (k : ℕ) → k < column_count p.pattern → get_or (counts (plain p.pattern rule aggressive).permutation (graph_of p.pattern)) k 0 ≤ get_or (charges (final_of p.pattern rule aggressive)) k 0
  each_charge k l = bound.each_charge p.pattern rule aggressive accepted_ended accepted_counted k (row k l)

  -- D6
  pub each_room : (k : ℕ) → k < column_count p.pattern → get_or (charges (final_of p.pattern rule aggressive)) k 0 ≤ column_count p.pattern - suc k
  each_room k l = subst (λ (m : ℕ). get_or (charges (final_of p.pattern rule aggressive)) k 0 ≤ m - suc k) rows
      (charge_room (final_of p.pattern rule aggressive) past (graph_of p.pattern) accepted_ended accepted_counted accepted_tidy k (row k l))

  -- D5
  pub lnz_bound : fill (plain p.pattern rule aggressive).permutation (graph_of p.pattern) ≤ (plain p.pattern rule aggressive).six.lnz
  lnz_bound = bound.lnz_bound p.pattern rule aggressive accepted_ended accepted_counted

  pub lu_bound : total square (counts (plain p.pattern rule aggressive).permutation (graph_of p.pattern)) ≤ (plain p.pattern rule aggressive).six.n_mult_subs_lu
  lu_bound = bound.lu_bound p.pattern rule aggressive accepted_ended accepted_counted

  pub ldl_bound : total triangle (counts (plain p.pattern rule aggressive).permutation (graph_of p.pattern)) ≤ (plain p.pattern rule aggressive).six.n_mult_subs_ldl
  ldl_bound = bound.ldl_bound p.pattern rule aggressive accepted_ended accepted_counted

  pub d_max_bound : (k : ℕ) → k < column_count p.pattern → suc (get_or (counts (plain p.pattern rule aggressive).permutation (graph_of p.pattern)) k 0) ≤ (plain p.pattern rule aggressive).six.d_max
  d_max_bound k l = bound.d_max_bound p.pattern rule aggressive accepted_ended accepted_counted k (row k l)
