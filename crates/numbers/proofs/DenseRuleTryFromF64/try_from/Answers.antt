-- `DenseRule::try_from` meets its contract, test by test.
use denote.Floats.{passes}
use mathlib.Core.Path.{sym, ◌∙◌, ◌≡◌}
use mathlib.Core.Bool.{false}
use lib.IntN.{pos}
use lib.Ieee.{binary64, fits, fin, mul, ne, of_bits}
use Rattle.plain.specs.Lists.{is_none}
use Rattle.definition.specs.Threshold.{rule_of}
use Rattle.numbers.proofs.Multipliers.{not_finite, above, full, quarters_finite, no_rule, times}
use Rattle.numbers.proofs.DenseRuleTryFromF64.try_from.Goals as goal
use Rattle.numbers.proofs.DenseRuleTryFromF64.try_from.Goals.{then-not-is_finite-via-then-not-is_finite, then-not-is_finite-via-else-not-is_finite+then-x}

pub returns-then-not-is_finite : goal.returns-then-not-is_finite
unfolding of_bits
returns-then-not-is_finite c = elim c.then-not-is_finite.branch [
  | then-not-is_finite-via-then-not-is_finite w ↦ not_finite c.args.x (sym c.is_finite.ensures.value ∙ w.if-not-is_finite.true)
  | then-not-is_finite-via-else-not-is_finite+then-x w ↦ above c.args.x w.if-x.true
]

pub returns-then-x-2 : goal.returns-then-x-2
unfolding of_bits
returns-then-x-2 c = (full c.args.x (sym c.is_finite.ensures.value ∙ c.if-not-is_finite.false) c.if-x-2.true, tt)

pub returns-then-trunc-quarters : goal.returns-then-trunc-quarters
unfolding of_bits
returns-then-trunc-quarters c =
    let finite = sym c.is_finite.ensures.value ∙ c.if-not-is_finite.false in
    let told : ne c.trunc.result (mul binary64 c.args.x (fin false 1 (pos 2))) ≡ is_none (rule_of c.args.x) =
    rw c.trunc.ensures (quarters_finite c.args.x (passes (fits binary64 c.args.x) c.well_formed.0.1) finite c.if-x.false c.if-x-2.false) in
    no_rule (rule_of c.args.x) (sym told ∙ c.if-trunc-quarters.true)

pub returns : goal.returns
unfolding of_bits
returns c =
    let finite = sym c.is_finite.ensures.value ∙ c.if-not-is_finite.false in
    let told : ne c.trunc.result (mul binary64 c.args.x (fin false 1 (pos 2))) ≡ is_none (rule_of c.args.x) =
    rw c.trunc.ensures (quarters_finite c.args.x (passes (fits binary64 c.args.x) c.well_formed.0.1) finite c.if-x.false c.if-x-2.false) in
    let rule = times c.args.x (sym told ∙ c.if-trunc-quarters.false) c.if-x-2.false in
    (rule, rule)
