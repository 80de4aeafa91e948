-- Every definition of this crate on one line: a declaration that says `unfolding opened` computes with all of them.
-- Only theorems by computation say so; a proof names the few that it looks into. Written by tools/opened.sh. Assumes nothing.
use mathlib.Core.List.{flat_map}
use Rattle.plain.specs.Lists
use Rattle.plain.specs.Turns
use Rattle.plain.specs.Classes

unfoldable pub opened : Unit {0}
unfolding flat_map Lists.count_up Lists.keep Lists.leading Lists.trailing Lists.every Lists.total Lists.rotate Lists.is_empty Lists.member Lists.same_members Lists.delete Lists.position Lists.rises_from Lists.rises Lists.fall_to Turns.entries Turns.times Turns.upd Turns.firsts Classes.first_like Classes.take_one Classes.take_all
opened = tt
