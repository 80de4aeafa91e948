-- The weight of the new element's rows, as the code sums it.
-- Assumes nothing.
use Rattle.std.proofs.Common.{◌≡◌, ℕ, ◌+◌, ◌^◌, ◌<◌, ◌≤◌, List, [], ◌∷◌, length, ℤ, ap, ◌∙◌, arith, lt-ltb}
use mathlib.Core.List.{foldl}
use Rattle.plain.proofs.Sums.{total_members}
use Rattle.plain.proofs.Turns.{times_fold}
use Rattle.plain.specs.Lists.{total}
use Rattle.plain.specs.Members.{In}
use Rattle.plain.specs.Turns.{entries, times}
use Rattle.cells.proofs.Rows.{clipped_part}
use Rattle.cells.proofs.Slices.{wrapped_sum}
use Rattle.cells.specs.Layout.{NV}
use Rattle.cells.specs.View.{at, rd, wrapped}
use Rattle.sizing.specs.Model.{fitted, weighed_row, weighed_rows}

summed : (F : ℕ → ℕ) (xs : List ℕ) (a : ℕ) → a + total F xs < 2 ^ 63 → foldl (λ b x. wrapped b (F x)) a xs ≡ a + total F xs
unfolding total
summed F [] a h = omega arith
summed F (x ∷ xs) a h =
    let e : wrapped a (F x) ≡ a + F x = wrapped_sum a (F x) (omega arith) in
    ap (λ (b : ℕ). foldl (λ c y. wrapped c (F y)) b xs) e ∙ summed F xs (a + F x) (omega arith) ∙ omega arith

pub weighed_total : (n : ℕ) (l s : List ℤ) (from k : ℕ) (new : List ℕ) (F : ℕ → ℕ) → (0 < k → from + k ≤ length l) → entries (at l) from k ≡ new → ((v : ℕ) → In v new → rd n NV s v ≡ F v) → total F new < 2 ^ 63
    → weighed_rows n l s from k ≡ total F new
unfolding weighed_rows weighed_row fitted
weighed_total n l s from k new F fits e h b =
    let z : total (rd n NV s) new ≡ total F new = total_members (rd n NV s) F new h in
    let w : times k (λ t m. wrapped m (rd n NV s (at l (from + t)))) 0 ≡ total F new =
    times_fold (λ x m. wrapped m (rd n NV s x)) (at l) from k 0 ∙ ap (foldl (λ c y. wrapped c (rd n NV s y)) 0) e ∙ summed (rd n NV s) new 0 (omega (arith, z)) ∙ omega (arith, z) in
    rw (clipped_part (length l) from k fits, w, lt-ltb (total F new) (2 ^ 63) b)
