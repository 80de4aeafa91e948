-- Every definition of this crate on one line: a declaration that says `unfolding opened` computes with all of them.
-- Only theorems by computation say so; a proof names the few that it looks into. Written by tools/opened.sh. Assumes nothing.
use mathlib.Core.List.{flat_map}
use Rattle.plain.specs.Opened as plain
use Rattle.definition.specs.Limits
use Rattle.definition.specs.Threshold
use Rattle.definition.specs.Pattern
use Rattle.definition.specs.Answers
use Rattle.definition.specs.Cleaned
use Rattle.definition.specs.Neighbours
use Rattle.definition.specs.State
use Rattle.definition.specs.Pivot
use Rattle.definition.specs.Trim
use Rattle.definition.specs.Merge
use Rattle.definition.specs.Place
use Rattle.definition.specs.Elimination
use Rattle.definition.specs.Statistics
use Rattle.definition.specs.Tree
use Rattle.definition.specs.Ordering
use Rattle.definition.specs.Room
use Rattle.definition.specs.Outcome
use Rattle.definition.specs.Promise
use Rattle.definition.specs.Cholesky

unfoldable pub opened : Unit {0}
unfolding flat_map plain.opened Limits.base_limits Limits.outside Limits.lists_room Limits.scratch_room Limits.room_within Threshold.quarters_of Threshold.in_quarters Threshold.rule_of Threshold.root Threshold.square_root Threshold.start Threshold.threshold Pattern.column Pattern.columns Pattern.jumbled Pattern.bad_count Pattern.bad_length Pattern.bad_first Pattern.climbs_from Pattern.climbs Pattern.bad_order Pattern.bad_total Pattern.bad_pointers Pattern.bad_rows Answers.number_of Answers.bad_multiplier Answers.bad_outputs Answers.bad_room Answers.checks Answers.first_of Answers.answer_within Answers.answer_of Answers.or_full_rows Answers.rule_for Cleaned.columns_with Cleaned.transposed Cleaned.cleaned Neighbours.skip Neighbours.above Neighbours.below Neighbours.meet Neighbours.meet_column Neighbours.scanned Neighbours.left_over Neighbours.all_pairs Neighbours.written Neighbours.neighbours State.put_kind State.put_weight State.put_elements State.put_variables State.put_parent State.put_degree State.put_reps State.merge_into State.push_front State.start_kind State.start_weight State.enlist State.at_once State.started State.dense_rows Pivot.first_from Pivot.pivot Pivot.candidates Pivot.collect_one Pivot.collected Pivot.pass_one Pivot.passed Pivot.delist Pivot.delisted Trim.external Trim.kept_elements Trim.dropped_elements Trim.kept_variables Trim.drop_element Trim.relist Trim.trim_to Trim.trim_one Trim.trimmed Merge.plain_key Merge.key Merge.same_lists Merge.alike Merge.merge_one Merge.merge_all Merge.merged_alike Place.new_degree Place.place_one Place.placed Place.as_element Elimination.finish Elimination.eliminate Elimination.step Elimination.run Elimination.final_state Elimination.beside Statistics.gain_q Statistics.gain_s Statistics.gain_ldl Statistics.blocks_of Statistics.sum_of Statistics.largest Statistics.six_of Tree.size_of Tree.children_of Tree.roots Tree.biggest Tree.big_last Tree.post_tree Tree.postorder Ordering.merged_with Ordering.block_of Ordering.permutation_of Ordering.inverse_of Ordering.final_of Ordering.plain_from Ordering.plain Room.places Room.all_places Room.read_list Room.read_elements Room.reads Room.collect Room.made_free Room.used Room.store_one Room.stored Room.shrunk Room.room_step Room.collections_of Outcome.seven Outcome.collection_count Outcome.with_count Outcome.refused Outcome.outcome Promise.problem_of Promise.zeroed Promise.filled Promise.untouched Promise.after Cholesky.renumbered Cholesky.add_new Cholesky.join_to Cholesky.later_of Cholesky.fill_one Cholesky.counts Cholesky.fill
opened = tt
