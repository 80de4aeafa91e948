-- Permutations of 0, 1, .., n - 1: each number stands somewhere, and the positions are the inverse, both ways.
-- Assumes nothing.
use Prim.Native.Nat.{ℕ, ◌<◌}
use native.Mathlib.Omega.{arith}
use mathlib.Core.Path.{◌≡◌, sym, ap, ◌∙◌}
use mathlib.Core.List.{List, map}
use lib.ListN.{get_or}
use Rattle.plain.specs.Lists.{up_to, position}
use Rattle.plain.specs.Members.{In, Distinct}
use Rattle.plain.specs.Permutations.{Permutation}
use Rattle.plain.proofs.Members.{member_up_to, up_to_below, map_was}
use Rattle.plain.proofs.Repeats.{distinct_count_up, distinct_map, length_count_up, within_back}
use Rattle.plain.proofs.Positions.{member_get_or, position_is, position_get_or, get_or_counted, length_counted}

module _ (n : ℕ) (xs : List ℕ) (p : Permutation n xs) where
  pub permutation_has : (v : ℕ) → v < n → In v xs
  permutation_has v h = go v (member_up_to v n h)
    where
      go : (v : ℕ) → In v (up_to n) → In v xs
      go = within_back xs (up_to n) p.once (p.size ∙ sym (length_count_up 0 n)) (λ x m. member_up_to x n (p.below x m))

  pub permutation_at : (k : ℕ) → k < n → get_or xs k 0 < n
  permutation_at k h = p.below (get_or xs k 0) (member_get_or xs k (omega (arith, p.size)))

  -- the position of what stands at k is k
  pub position_of_at : (k : ℕ) → k < n → position (get_or xs k 0) xs ≡ k
  position_of_at k h = position_get_or xs k p.once (omega (arith, p.size))

  -- at the position of v stands v
  pub at_position_of : (v : ℕ) → v < n → get_or xs (position v xs) 0 ≡ v
  at_position_of v h = (position_is v xs (permutation_has v h)).1

  pub position_below : (v : ℕ) → v < n → position v xs < n
  position_below v h = omega (arith, (position_is v xs (permutation_has v h)).0, p.size)

  -- ---- the positions are a permutation too, the inverse one

  abbrev positions : List ℕ
  positions = map (λ v. position v xs) (up_to n)

  pub positions_at : (v : ℕ) → v < n → get_or positions v 0 ≡ position v xs
  positions_at v h = get_or_counted (λ x. position x xs) 0 0 n v h ∙ ap (λ (x : ℕ). position x xs) (omega arith)

  pub inverse_of_lem : (k : ℕ) → k < n → get_or positions (get_or xs k 0) 0 ≡ k
  inverse_of_lem k h = positions_at (get_or xs k 0) (permutation_at k h) ∙ position_of_at k h

  pub of_inverse : (v : ℕ) → v < n → get_or xs (get_or positions v 0) 0 ≡ v
  of_inverse v h = ap (λ (k : ℕ). get_or xs k 0) (positions_at v h) ∙ at_position_of v h

  pub positions_permutation : Permutation n positions
  positions_permutation = record {
    size = length_counted (λ v. position v xs) 0 n;
    below = λ k m. let r = map_was (λ v. position v xs) k (up_to n) m in rw r.2 (position_below r.0 (up_to_below r.0 n r.1));
    once = distinct_map (λ v. position v xs) (up_to n) (distinct_count_up 0 n)
        (λ x y mx my e. sym (at_position_of x (up_to_below x n mx)) ∙ ap (λ (k : ℕ). get_or xs k 0) e ∙ at_position_of y (up_to_below y n my));
  }

-- ---- a list with each of 0, 1, .., n - 1 once

pub permutation_of_lem : (n : ℕ) (xs : List ℕ) → Distinct xs → ((x : ℕ) → In x xs → x < n) → ((v : ℕ) → v < n → In v xs) → Permutation n xs
permutation_of_lem n xs d below has = record {
  size = Rattle.plain.proofs.Repeats.length_same xs (up_to n) d (distinct_count_up 0 n) (λ x m. member_up_to x n (below x m)) (λ x m. has x (up_to_below x n m)) ∙ length_count_up 0 n;
  below = below;
  once = d;
}
