-- Rows of an earlier block stand before rows of a later one.
-- Assumes nothing.
use Prim.Native.Nat.{ℕ, ◌≤◌, ◌<◌}
use native.Mathlib.Omega.{arith}
use mathlib.Core.Path.{◌≡◌, refl, sym, subst}
use mathlib.Core.Logic.{◌≢◌}
use mathlib.Core.List.{List, [], ◌∷◌, ◌++◌, flat_map}
use lib.Dec.{eqb}
use borrow.Author.Tests.{eqb-true, eqb-false}
use Rattle.plain.proofs.Logic.{either}
use Rattle.plain.proofs.Members.{member_first, member_there}
use Rattle.plain.proofs.Positions.{position_is, position_le, position_left, position_right, position_there, position_here}
use Rattle.plain.specs.Lists.{position}
use Rattle.plain.specs.Members.{In}

-- u stands in the list of d only, w in that of e only, and d stands before e
pub lists_order : (f : ℕ → List ℕ) (u w d e : ℕ) (xs : List ℕ) → ((x : ℕ) → In x xs → In u (f x) → x ≡ d) → ((x : ℕ) → In x xs → In w (f x) → x ≡ e)
    → In u (f d) → position d xs < position e xs → position u (flat_map f xs) < position w (flat_map f xs)
unfolding flat_map
lists_order f u w d e [] hu hw i l = absurd (nothing l)
  where
    nothing : position d [] < position e [] → ⊥
    nothing l = let a : position e [] ≤ 0 = position_le e [] in omega arith
lists_order f u w d e (x ∷ xs) hu hw i l =
    either (position u (f x ++ flat_map f xs) < position w (f x ++ flat_map f xs)) (eqb d x)
    (λ t. let q : d ≡ x = eqb-true d x t in
    let j : In u (f x) = subst (λ (z : ℕ). In u (f z)) q i in
    omega (arith, position_left u (f x) (flat_map f xs) j, (position_is u (f x) j).0, position_right w (f x) (flat_map f xs) (λ m. late (hw x (member_first x x xs refl) m))))
    (λ t. let q : d ≢ x = eqb-false d x t in
    omega (
      arith,
      position_right u (f x) (flat_map f xs) (λ m. q (sym (hu x (member_first x x xs refl) m))),
      position_right w (f x) (flat_map f xs) (λ m. late (hw x (member_first x x xs refl) m)),
      lists_order f u w d e xs (λ y m. hu y (member_there y x xs m)) (λ y m. hw y (member_there y x xs m)) i
          (omega (arith, position_there d x xs q, position_there e x xs (λ r. late (sym r)))),
    ))
  where
    late : x ≡ e → ⊥
    late r = let a : position e (x ∷ xs) ≡ 0 = position_here e x xs (sym r) in omega arith
