-- `numbers::gain_s` meets its contract: each operation in turn.
use Rattle.numbers.proofs.Bounds.{Bounded}
use Rattle.numbers.proofs.Signed as signed
use Rattle.numbers.proofs.gain_s.Goals as goal

bounds : (c : goal.Start) → Bounded c.args.f c.args.r
bounds c = record { sum = c.requires }

pub overflow_cast-f : goal.overflow_cast-f
overflow_cast-f c = signed.f_fits (bounds c)

pub overflow_cast-r : goal.overflow_cast-r
overflow_cast-r c = signed.r_fits (bounds c)

pub overflow_mul-result : goal.overflow_mul-result
overflow_mul-result c = (signed.fr (bounds c)).fits

pub overflow_mul-result-2 : goal.overflow_mul-result-2
overflow_mul-result-2 c = (signed.frr (bounds c)).fits

pub overflow_sub-result : goal.overflow_sub-result
overflow_sub-result c = (signed.less (bounds c)).fits

pub overflow_mul-result-3 : goal.overflow_mul-result-3
overflow_mul-result-3 c = (signed.rg (bounds c)).fits

pub overflow_mul-result-4 : goal.overflow_mul-result-4
overflow_mul-result-4 c = (signed.rgf (bounds c)).fits

pub overflow_add-result : goal.overflow_add-result
overflow_add-result c = (signed.first (bounds c)).fits

pub overflow_sub-result-2 : goal.overflow_sub-result-2
overflow_sub-result-2 c = (signed.less (bounds c)).fits

pub overflow_mul-result-5 : goal.overflow_mul-result-5
overflow_mul-result-5 c = (signed.pairs (bounds c)).fits

pub overflow_mul-result-6 : goal.overflow_mul-result-6
overflow_mul-result-6 c = (signed.twice (bounds c)).fits

pub overflow_sub-result-3 : goal.overflow_sub-result-3
overflow_sub-result-3 c = (signed.odd (bounds c)).fits

pub overflow_mul-result-7 : goal.overflow_mul-result-7
overflow_mul-result-7 c = (signed.triples (bounds c)).fits

pub overflow_add-result-2 : goal.overflow_add-result-2
overflow_add-result-2 c = (signed.s (bounds c)).fits

pub overflow_cast-result : goal.overflow_cast-result
overflow_cast-result c = (signed.s_plain (bounds c)).casts

pub returns : goal.returns
returns c = (signed.s_plain (bounds c)).gives
