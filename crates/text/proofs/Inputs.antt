-- The bytes that a reader gives, one read after another.
-- Assumes nothing.
use Rattle.std.proofs.Common.{◌≡◌, ℕ, ◌+◌, ◌≤◌, List, ◌++◌, length, take, None, Some, ap, sym, ◌∙◌}
use Rattle.std.specs.declared.option.Option.{Option}
use Rattle.std.specs.Io.KnownBytes.{Consumes}
use Rattle.std.proofs.lemmas.List.{append_assoc, take-append-le, length-take-le}
use Rattle.std.proofs.Math.Seq.{take-append-add}
use borrow.Rule.Slice.PartMut.{put_mid, post_of}

-- two reads are one
pub consumes_both : (a b c : Option (List ℕ)) (xs ys : List ℕ) → Consumes a b xs → Consumes b c ys → Consumes a c (xs ++ ys)
consumes_both None b c xs ys p q = tt
consumes_both (Some a) None c xs ys p q = absurd p
consumes_both (Some a) (Some b) None xs ys p q = absurd q
consumes_both (Some a) (Some b) (Some c) xs ys p q = p ∙ ap (λ (z : List ℕ). xs ++ z) q ∙ sym (append_assoc xs ys c)

-- what stands before the place where the next read goes, after m bytes of it
pub filled_on : (k r m : ℕ) (xs ys : List ℕ) → k ≤ length xs → m ≤ length ys → take (k + m) (put_mid k r xs ys) ≡ take k xs ++ take m ys
filled_on k r m xs ys h l =
    let all : length (take k xs) ≡ k = length-take-le k xs h in
    ap (λ (j : ℕ). take (j + m) (put_mid k r xs ys)) (sym all)
    ∙ take-append-add (take k xs) (ys ++ post_of k r xs) m
    ∙ ap (λ (z : List ℕ). take k xs ++ z) (take-append-le m ys (post_of k r xs) l)
