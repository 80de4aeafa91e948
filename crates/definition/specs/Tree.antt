-- "The tree is postordered as `postorder.rs` and `post_tree.rs` do it".
-- Assumes nothing.
use Rattle.std.specs.Prelude.{ℕ, zero, suc, ◌+◌, Bool, false, ◌&&◌, cond, leb, eqb}
use mathlib.Core.List.{List, [], ◌∷◌, ◌++◌, flat_map, foldl}
use Rattle.std.proofs.Math.Option.{Option, none, some}
use Rattle.plain.specs.Lists.{up_to, keep, delete, is_none}
use Rattle.definition.specs.State.{Graph, row_count, kind, weight, degree, parent, is_element}

-- p is that parent
abbrev pub is_child_of : ℕ → Option ℕ → Bool
is_child_of p none = false
is_child_of p (some q) = eqb p q

-- "an element's size there is f plus its remaining weight, without the dense rows"; of a row of degree 0 it is 1 + 0
unfoldable pub size_of : Graph → ℕ → ℕ
size_of g e = weight g e + degree g e

-- ascending
unfoldable pub children_of : Graph → ℕ → List ℕ
children_of g p = keep (λ e. is_element (kind g e) && is_child_of p (parent g e)) (up_to (row_count g))

-- the elements that no other took up, ascending
unfoldable pub roots : Graph → List ℕ
roots g = keep (λ e. is_element (kind g e) && is_none (parent g e)) (up_to (row_count g))

-- the last of the largest, among b and a list
unfoldable pub biggest : (ℕ → ℕ) → ℕ → List ℕ → ℕ
biggest size b es = foldl (λ a e. cond (leb (size a) (size e)) e a) b es

-- the largest child last, the others in their order
unfoldable pub big_last : (ℕ → ℕ) → List ℕ → List ℕ
big_last size [] = []
big_last size (e ∷ es) = let b = biggest size e es in delete b (e ∷ es) ++ (b ∷ [])

-- the elements of the tree below e, e last; the tree is at most k high
unfoldable pub post_tree : ℕ → Graph → ℕ → List ℕ
post_tree zero g e = []
post_tree (suc k) g e = flat_map (λ c. post_tree k g c) (big_last (size_of g) (children_of g e)) ++ (e ∷ [])

-- tree after tree, the roots ascending
unfoldable pub postorder : Graph → List ℕ
postorder g = flat_map (post_tree (row_count g) g) (roots g)
