use Rattle.std.proofs.Common.{◌-◌, length, subst, sym, arith, rules}
use Rattle.std.specs.Io.KnownBytes.{Consumes}
use Rattle.text.proofs.Inputs.{consumes_both, filled_on}
use Rattle.text.proofs.read_full.Goals as goal

pub loop-count-preserved : goal.loop-count-preserved
loop-count-preserved g c =
    let k = c.loop-count.count in
    let bytes = c.loop-count.bytes in
    let buf = c.read.new.buf in
    let m = c.in_ok-more.more in
    record {
      within = search rules;
      read = subst (Consumes (g.R.Read.remaining c.args.input.now) (g.R.Read.remaining c.read.new.self)) (sym (filled_on k (length bytes - k) m bytes buf (omega arith) c.in_ok-more.ensures.bound.0))
          (consumes_both _ _ _ _ _ c.loop-count.invariant.read c.in_ok-more.ensures.bytes.0);
    }
