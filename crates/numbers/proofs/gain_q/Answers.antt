-- `numbers::gain_q` meets its contract: each operation in turn.
use Rattle.numbers.proofs.Bounds.{Bounded}
use Rattle.numbers.proofs.Signed as signed
use Rattle.numbers.proofs.gain_q.Goals as goal

bounds : (c : goal.Start) → Bounded c.args.f c.args.r
bounds c = record { sum = c.requires }

pub overflow_cast-f : goal.overflow_cast-f
overflow_cast-f c = signed.f_fits (bounds c)

pub overflow_cast-r : goal.overflow_cast-r
overflow_cast-r c = signed.r_fits (bounds c)

pub overflow_mul-result : goal.overflow_mul-result
overflow_mul-result c = (signed.fr (bounds c)).fits

pub overflow_sub-result : goal.overflow_sub-result
overflow_sub-result c = (signed.less (bounds c)).fits

pub overflow_mul-result-2 : goal.overflow_mul-result-2
overflow_mul-result-2 c = (signed.pairs (bounds c)).fits

pub overflow_add-result : goal.overflow_add-result
overflow_add-result c = (signed.q (bounds c)).fits

pub overflow_cast-result : goal.overflow_cast-result
overflow_cast-result c = (signed.q_plain (bounds c)).casts

pub returns : goal.returns
returns c = (signed.q_plain (bounds c)).gives
