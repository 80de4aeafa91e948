-- A jumbled pattern of three columns, from its slices to the lists, by computation: what the scratch and the list space held before is no matter.
-- Assumes nothing.
use mathlib.Core.Path.{◌≡◌, refl}
use mathlib.Core.Bool.{true}
use mathlib.Core.List.{List, [], ◌∷◌, map}
use lib.IntN.{ℤ, pos}
use lib.ListN.{replicate}
use Rattle.plain.specs.Lists.{leading}
use Rattle.plain.specs.Turns.{entries, times}
use Rattle.cells.specs.View.{at, wr, place, within, rd, up, plus}
use Rattle.pattern.specs.Reach.{reach, behind, past}
use Rattle.pattern.specs.Model

-- column 0 has rows 2, 1, 1; column 1 has row 0; column 2 has rows 2, 0
ptr : List ℤ
ptr = map pos (0 ∷ 3 ∷ 4 ∷ 6 ∷ [])

rows : List ℤ
rows = map pos (2 ∷ 1 ∷ 1 ∷ 0 ∷ 2 ∷ 0 ∷ [])

scratch : List ℤ
scratch = replicate 70 (pos 9)

lists : List ℤ
lists = replicate 6 (pos 8)

unfoldable opened : Unit {0}
unfolding ptr rows scratch lists entries times leading reach behind past at wr place within rd up plus Model.tidied Model.transposed Model.visited_all Model.visited_next Model.visited_column Model.visited Model.rowed Model.closed_rows Model.placed_rows Model.placed_row Model.cleared_all Model.cleared Model.built Model.built_free Model.counted Model.placed Model.placed_lists Model.placed_list Model.scanned Model.met_rests Model.met_rest Model.met_columns Model.met_column Model.met_part Model.met_at Model.met Model.passed Model.marked Model.stop_of Model.next_of Model.paired_part Model.paired_at Model.paired Model.added Model.emptied_all Model.emptied
opened = tt

-- the columns of the transpose: 1 2, 0, 0 2
columns_are : entries (rd 3 16 (Model.tidied 3 ptr rows true scratch)) 0 5 ≡ 1 ∷ 2 ∷ 0 ∷ 0 ∷ 2 ∷ []
unfolding opened
columns_are = refl

-- the neighbours: 1 2, 0, 0
lists_are : (Model.built 3 lists (Model.tidied 3 ptr rows true scratch)).lists ≡ map pos (1 ∷ 2 ∷ 0 ∷ 0 ∷ 8 ∷ 8 ∷ [])
unfolding opened
lists_are = refl

-- four places are taken
free_is : Model.built_free 3 lists (Model.tidied 3 ptr rows true scratch) ≡ 4
unfolding opened
free_is = refl
