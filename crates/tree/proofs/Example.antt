-- One small case by computation: row 0 was merged into the root 3, whose children are 1, of size 3, and 2, of size 2; row 4 is dense.
-- So 2 comes before 1, the largest, then the merged row and its element, and the dense row last.
-- Assumes nothing.
use mathlib.Core.Path.{◌≡◌, refl}
use mathlib.Core.List.{List, [], ◌∷◌}
use mathlib.Core.Option.{none, some}
use lib.IntN.{ℤ, pos}
use lib.ListN.{replicate}
use Rattle.plain.specs.Turns.{times}
use Rattle.cells.specs.Layout.{ELEN, MERGES, NV}
use Rattle.cells.specs.Links.{parent, hang}
use Rattle.cells.specs.View.{at, wr, place, within, rd, up, plus}
use Rattle.tree.specs.Model.{above, owned, owned_all, blank_one, blanked, as_large, measured_under, measured_one, measured, largest_of, class_of, listed, threaded_one, threaded, prepared, sheets, placed, deeper, top, higher, entered, left_behind, stepped, walked, ordered}

unfoldable pub empty : List ℤ
empty = replicate 96 (pos 0)

unfoldable pub weighed : List ℤ
weighed = up 5 NV (up 5 NV (up 5 NV empty 1 1) 2 1) 3 2

unfoldable pub measured_by : List ℤ
measured_by = up 5 ELEN (up 5 ELEN (up 5 ELEN weighed 1 3) 2 2) 3 2

unfoldable pub left : List ℤ
left = up 5 MERGES (hang 5 (hang 5 (hang 5 (hang 5 (hang 5 measured_by 0 (some 3)) 1 (some 3)) 2 (some 3)) 3 none) 4 none) 0 0

pub example : ordered 5 1 left (sheets (replicate 5 (pos 0)) (replicate 5 (pos 0)))
    ≡ sheets (pos 2 ∷ pos 1 ∷ pos 0 ∷ pos 3 ∷ pos 4 ∷ []) (pos 2 ∷ pos 1 ∷ pos 0 ∷ pos 3 ∷ pos 4 ∷ [])
unfolding times parent hang at wr place within rd up plus above owned owned_all blank_one blanked as_large measured_under measured_one measured largest_of class_of listed threaded_one threaded prepared placed deeper top higher entered left_behind stepped walked ordered empty weighed measured_by left
example = refl
