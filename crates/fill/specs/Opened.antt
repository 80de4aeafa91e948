-- Every definition of this crate on one line: a declaration that says `unfolding opened` computes with all of them.
-- Only theorems by computation say so; a proof names the few that it looks into. Written by tools/opened.sh. Assumes nothing.
use mathlib.Core.List.{flat_map}
use Rattle.facts.specs.Opened as facts
use Rattle.fill.specs.Charges

unfoldable pub opened : Unit {0}
unfolding flat_map facts.opened Charges.charged_rest Charges.charges
opened = tt
