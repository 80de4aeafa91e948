-- `ordering::order_pattern` meets its contract.
use Rattle.std.proofs.Common.{rules}
use Rattle.definition.specs.Limits.{base_limits}
use Rattle.ordering.proofs.Steps.{course}
use Rattle.ordering.proofs.order_pattern.Goals as goal

pub order_tree-requires : goal.order_tree-requires
unfolding base_limits
order_tree-requires c = search rules

pub returns : goal.returns
returns c = search (rules, course)
