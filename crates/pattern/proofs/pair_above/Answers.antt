use Rattle.std.proofs.Common.{rules}
use borrow.Author.Tests.{lt-ltb}
use Rattle.pattern.specs.Model.{paired_part, paired_at}
use Rattle.pattern.proofs.Scans.{scan_none, scan_more, scan_stop, scan_next, scan_end, scan_last}
use Rattle.pattern.proofs.Unwritten.{paired_at_rows}
use Rattle.cells.specs.Space.{space}
use Rattle.pattern.proofs.pair_above.Goals as goal

pub loop-p-init : goal.loop-p-init
loop-p-init c = search (rules, scan_none)

pub loop-p-preserved : goal.loop-p-preserved
unfolding paired_at
loop-p-preserved c =
    let n = c.loop-p.invariant.size.0 in
    let e = rw n at c.entry-i.ensures.0 in
    let h = rw n at c.add_pair.ensures.memory in
    record {
      done = scan_more _ _ _ _ _ _ _ _ c.loop-p.invariant.done _ e _
          (rw (← e, lt-ltb c.entry-i.result (space c.args.m.now).n (search rules)) h) (search rules) (search rules) (paired_at_rows _ _ _ _);
      size = search rules;
    }

pub returns-then-k-i-clause-memory : goal.returns-then-k-i-clause-memory
unfolding paired_part
returns-then-k-i-clause-memory c =
    scan_stop _ _ _ _ _ _ _ _ c.loop-p.invariant.done _ (rw c.loop-p.invariant.size.0 at c.entry-i.ensures.0) (search rules)

pub returns-then-k-i-clause-next : goal.returns-then-k-i-clause-next
returns-then-k-i-clause-next c =
    scan_next _ _ _ _ _ _ _ _ c.loop-p.invariant.done _ (rw c.loop-p.invariant.size.0 at c.entry-i.ensures.0) _ c.pass_row.ensures.0 (search rules) (search rules)

pub returns-clause-memory : goal.returns-clause-memory
unfolding paired_part
returns-clause-memory c = scan_end _ _ _ _ _ _ _ _ c.loop-p.invariant.done (search rules)

pub returns-clause-next : goal.returns-clause-next
returns-clause-next c = scan_last _ _ _ _ _ _ _ _ c.loop-p.invariant.done (search rules) _ c.max.ensures
