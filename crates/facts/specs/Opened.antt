-- Every definition of this crate on one line: a declaration that says `unfolding opened` computes with all of them.
-- Only theorems by computation say so; a proof names the few that it looks into. Written by tools/opened.sh. Assumes nothing.
use mathlib.Core.List.{flat_map}
use Rattle.definition.specs.Opened as definition
use Rattle.facts.specs.History
use Rattle.facts.specs.Past
use Rattle.facts.specs.Classes
use Rattle.facts.specs.Reading

unfoldable pub opened : Unit {0}
unfolding flat_map definition.opened History.rows_of History.front_at History.history_step History.history_at History.history History.born_of History.born_at Past.H3 Past.H4 Past.H5 Classes.wrapped_key Classes.newest_first Classes.top_of Classes.owner_of Classes.bucket_of Classes.merge_buckets Reading.taken Reading.taken_at
opened = tt
