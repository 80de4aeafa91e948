-- Every definition of this crate on one line: a declaration that says `unfolding opened` computes with all of them.
-- Only theorems by computation say so; a proof names the few that it looks into. Written by tools/opened.sh. Assumes nothing.
use mathlib.Core.List.{flat_map}
use Rattle.fill.specs.Opened as fill
use Rattle.promise.specs.Shams

unfoldable pub opened : Unit {0}
unfolding flat_map fill.opened Shams.refusing Shams.identical Shams.untouching Shams.by_degree Shams.one_pass Shams.uncounting
opened = tt
