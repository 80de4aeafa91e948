-- Step 3 by computation: the rows 0 and 1, of weights 2 and 3, are the new element. Both have the element 2, of weight 7; row 0 has 4 too, which is no more;
-- row 1 has 3, of weight 4, and a variable behind its elements. The flag is 10: the marks of 2 and 3 become 10 + 2 and 10 + 1, the others stay.
-- Assumes nothing.
use Rattle.std.proofs.Common.{◌≡◌, List, [], ◌∷◌, ◌++◌, map, replicate, ℤ, pos, refl}
use Rattle.plain.specs.Turns.{entries, times}
use Rattle.cells.specs.Layout.{W}
use Rattle.cells.specs.Rows.{clipped}
use Rattle.cells.specs.View.{at, place, rd, up, within, wr}
use Rattle.sizing.specs.Model.{sized_all, sized_at, sized_element, sized_first, sized_list, sized_of, sized_part, sized_row}

-- of each row its place, its length, what is wanted of it, how many elements its list begins with, its degree and its mark; far behind them the weights
scratch : List ℤ
scratch =
    map pos
    (2 ∷ 2 ∷ 0 ∷ 2 ∷ 0 ∷ 1 ∷ 0 ∷ 0 ∷ 4 ∷ 3 ∷ 0 ∷ 2 ∷ 0 ∷ 1 ∷ 0 ∷ 0 ∷ 0 ∷ 0 ∷ 0 ∷ 0 ∷ 7 ∷ 1 ∷ 0 ∷ 0 ∷ 0 ∷ 0 ∷ 0 ∷ 0 ∷ 4 ∷ 5 ∷ 0 ∷ 0 ∷ 0 ∷ 0 ∷ 0 ∷ 0 ∷ 3 ∷ 0 ∷ 0 ∷ 0 ∷ [])
    ++ replicate 30 (pos 0)
    ++ map pos (2 ∷ 3 ∷ [])
    ++ replicate 24 (pos 0)

space : List ℤ
space = map pos (0 ∷ 1 ∷ 2 ∷ 4 ∷ 3 ∷ 2 ∷ 0 ∷ [])

marks : entries (rd 5 W (sized_all 5 space 10 0 2 scratch)) 0 5 ≡ 1 ∷ 1 ∷ 12 ∷ 11 ∷ 0 ∷ []
unfolding sized_all sized_row sized_of sized_list sized_part sized_at sized_element sized_first times entries clipped at wr rd up place within scratch space
marks = refl
