use Rattle.std.proofs.Common.{rules}
use Rattle.pattern.specs.Model.{met_part, met_at}
use Rattle.pattern.proofs.Scans.{scan_none, scan_more, scan_stop, scan_next, scan_end, scan_last}
use Rattle.pattern.proofs.Unwritten.{met_at_rows}
use Rattle.pattern.proofs.meet_above.Goals as goal

pub loop-p-init : goal.loop-p-init
loop-p-init c = search (rules, scan_none)

pub loop-p-preserved : goal.loop-p-preserved
unfolding met_at
loop-p-preserved c =
    let n = c.loop-p.invariant.size.0 in
    let e = rw n at c.entry-j.ensures.0 in
    let h = rw n at c.meet.ensures.memory in
    record {
      done = scan_more _ _ _ _ _ _ _ _ c.loop-p.invariant.done _ e _ (rw (← e) h) (search rules) (search rules) (met_at_rows _ _ _ _);
      size = search rules;
    }

pub returns-then-k-j-clause-memory : goal.returns-then-k-j-clause-memory
unfolding met_part
returns-then-k-j-clause-memory c =
    scan_stop _ _ _ _ _ _ _ _ c.loop-p.invariant.done _ (rw c.loop-p.invariant.size.0 at c.entry-j.ensures.0) (search rules)

pub returns-then-k-j-clause-next : goal.returns-then-k-j-clause-next
returns-then-k-j-clause-next c =
    scan_next _ _ _ _ _ _ _ _ c.loop-p.invariant.done _ (rw c.loop-p.invariant.size.0 at c.entry-j.ensures.0) _ c.pass_row.ensures.0 (search rules) (search rules)

pub returns-clause-memory : goal.returns-clause-memory
unfolding met_part
returns-clause-memory c = scan_end _ _ _ _ _ _ _ _ c.loop-p.invariant.done (search rules)

pub returns-clause-next : goal.returns-clause-next
returns-clause-next c = scan_last _ _ _ _ _ _ _ _ c.loop-p.invariant.done (search rules) _ c.max.ensures
