-- A gather by computation: the pivot 0 has the element 1 and the variable 2, the room has 12 cells, 11 of them used, and the second of two collected entries
-- finds no place. With it 4 of 5 places are read, so that the new list begins at 4, behind the two lists that are left and one cell that was not yet read.
-- Assumes nothing.
use Rattle.std.proofs.Common.{◌≡◌, List, [], ◌∷◌, ◌++◌, map, replicate, ℤ, pos, refl}
use Rattle.plain.specs.Turns.{times}
use Rattle.cells.specs.Links.{hang}
use Rattle.cells.specs.Rows.{clipped}
use Rattle.cells.specs.View.{at, place, plus, rd, up, within, wr, wrapped}
use Rattle.chain.specs.Model.{relinked, removed}
use Rattle.packed.specs.Gather.{collected_rest, gathered_outside, made_room, settled, summed}
use Rattle.packed.specs.Model.{copied, entered, laid, moved_down, moved_low, moved_new, moved_next, moved_one, packed_all, packed_low}
use Rattle.packed.specs.Places.{due}
use Rattle.packed.specs.Tray.{absorbed, counted, own_part, passed_by, took, took_all, took_element, took_elements, took_own, took_part, took_row}

-- of each object its place, its length, whether it is wanted, and how many elements its list begins with
scratch : List ℤ
scratch =
    map pos (2 ∷ 2 ∷ 0 ∷ 1 ∷ 0 ∷ 0 ∷ 0 ∷ 0 ∷ 4 ∷ 3 ∷ 0 ∷ 0 ∷ 0 ∷ 0 ∷ 0 ∷ 0 ∷ 7 ∷ 2 ∷ 1 ∷ 1 ∷ 0 ∷ 0 ∷ 0 ∷ 0 ∷ 10 ∷ 1 ∷ 1 ∷ 0 ∷ [])
    ++ replicate 52 (pos 0)

space : List ℤ
space = map pos (3 ∷ 3 ∷ 1 ∷ 2 ∷ 0 ∷ 3 ∷ 2 ∷ 1 ∷ 0 ∷ 3 ∷ 1 ∷ 3 ∷ [])

numbers : (gathered_outside 4 0 11 11 0 space scratch).made ≡ record { start = 4; count = 2; free = 6; base = 3; made = 1; collected = 1 }
unfolding gathered_outside settled made_room collected_rest absorbed hang summed took_all took_own own_part took_elements took_element took_part took took_row removed relinked counted passed_by wrapped packed_all packed_low moved_low moved_new moved_next moved_one moved_down copied laid entered times clipped plus due at wr rd up place within scratch space
numbers = refl

lists : (gathered_outside 4 0 11 11 0 space scratch).lists ≡ map pos (1 ∷ 0 ∷ 1 ∷ 2 ∷ 3 ∷ 2 ∷ 2 ∷ 1 ∷ 0 ∷ 3 ∷ 1 ∷ 3 ∷ [])
unfolding gathered_outside settled made_room collected_rest absorbed hang summed took_all took_own own_part took_elements took_element took_part took took_row removed relinked counted passed_by wrapped packed_all packed_low moved_low moved_new moved_next moved_one moved_down copied laid entered times clipped plus due at wr rd up place within scratch space
lists = refl
