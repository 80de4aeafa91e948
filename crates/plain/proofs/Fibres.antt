-- Sums over the fibres of a function: LL7 of the proof plan, and what becomes of them when one number moves.
-- Assumes nothing.
use Prim.Native.Nat.{ℕ, ◌+◌}
use native.Mathlib.Omega.{arith}
use native.Mathlib.Nat.{zero-add}
use mathlib.Core.Path.{◌≡◌, refl, sym, ap, ◌∙◌}
use mathlib.Core.Logic.{◌≢◌}
use mathlib.Core.Bool.{Bool, false, cond}
use mathlib.Core.List.{List, [], ◌∷◌}
use lib.Dec.{eqb}
use borrow.Author.Tests.{eqb-true, eqb-false, eq-eqb, ne_eqb}
use Rattle.plain.specs.Lists.{member, keep, total}
use Rattle.plain.specs.Members.{In, Distinct}
use Rattle.plain.specs.Turns.{upd}
use Rattle.plain.specs.Classes.{Alone}
use Rattle.plain.proofs.Logic.{either}
use Rattle.plain.proofs.Members.{not_here, not_there}
use Rattle.plain.proofs.Entries.{upd_same, upd_other}
use Rattle.plain.proofs.Folds.{all_of}
use Rattle.plain.proofs.Sums.{total_same, total_swap, total_keep, total_add}

-- of the entries of a list the one that is v, counted c times
none_picked : (v c : ℕ) (xs : List ℕ) → member v xs ≡ false → total (λ x. cond (eqb v x) c 0) xs ≡ 0
unfolding total
none_picked v c [] h = refl
none_picked v c (x ∷ xs) h = rw (ne_eqb v x (not_here v x xs h)) (omega (arith, none_picked v c xs (not_there v x xs h)))

pub one_picked : (v c : ℕ) (xs : List ℕ) → Distinct xs → total (λ x. cond (eqb v x) c 0) xs ≡ cond (member v xs) c 0
unfolding total member
one_picked v c [] d = refl
one_picked v c (x ∷ xs) d =
    either _ (eqb v x)
    (λ e. rw e (omega (arith, none_picked v c xs (ap (λ (z : ℕ). member z xs) (eqb-true v x e) ∙ d.0))))
    (λ e. rw (e, zero-add) (one_picked v c xs d.1))

-- LL7
pub total_fibres : (g t : ℕ → ℕ) (is js : List ℕ) → Distinct is
    → total (λ i. total g (keep (λ j. eqb (t j) i) js)) is ≡ total g (keep (λ j. member (t j) is) js)
total_fibres g t is js d =
    total_same (λ i. total g (keep (λ j. eqb (t j) i) js)) (λ i. total (λ j. cond (eqb (t j) i) (g j) 0) js) is (all_of _ is (λ i. total_keep g (λ j. eqb (t j) i) js))
    ∙ total_swap (λ i j. cond (eqb (t j) i) (g j) 0) is js
    ∙ total_same (λ j. total (λ i. cond (eqb (t j) i) (g j) 0) is) (λ j. cond (member (t j) is) (g j) 0) js (all_of _ js (λ j. one_picked (t j) (g j) is d))
    ∙ sym (total_keep g (λ j. member (t j) is) js)

-- the fibre of a number that only it has
pub total_alone_lem : (g t : ℕ → ℕ) (j : ℕ) (vs : List ℕ) → Distinct vs → In j vs → t j ≡ j → Alone t j → total g (keep (λ x. eqb (t x) j) vs) ≡ g j
total_alone_lem g t j vs d m own a =
    total_keep g (λ x. eqb (t x) j) vs
    ∙ total_same (λ x. cond (eqb (t x) j) (g x) 0) (λ x. cond (eqb j x) (g j) 0) vs (all_of _ vs point)
    ∙ one_picked j (g j) vs d ∙ ap (λ (b : Bool). cond b (g j) 0) m
  where
    point : (x : ℕ) → cond (eqb (t x) j) (g x) 0 ≡ cond (eqb j x) (g j) 0
    point x = either (cond (eqb (t x) j) (g x) 0 ≡ cond (eqb j x) (g j) 0) (eqb j x)
        (λ e. let q : j ≡ x = eqb-true j x e in rw (e, eq-eqb (t x) j (ap t (sym q) ∙ own)) (ap g (sym q)))
        (λ e. rw (e, ne_eqb (t x) j (λ q. eqb-false j x e (sym (a x q)))))

-- j moves to i
pub total_joined : (g t : ℕ → ℕ) (i j : ℕ) (vs : List ℕ) → Distinct vs → In j vs → t j ≡ j → i ≢ j
    → total g (keep (λ x. eqb (upd t j i x) i) vs) ≡ total g (keep (λ x. eqb (t x) i) vs) + g j
total_joined g t i j vs d m own n =
    let a = total_keep g (λ x. eqb (upd t j i x) i) vs in
    let b = total_same (λ x. cond (eqb (upd t j i x) i) (g x) 0) (λ x. cond (eqb (t x) i) (g x) 0 + cond (eqb j x) (g j) 0) vs (all_of _ vs point) in
    let c = total_add (λ x. cond (eqb (t x) i) (g x) 0) (λ x. cond (eqb j x) (g j) 0) vs in
    let e = total_keep g (λ x. eqb (t x) i) vs in
    let f : total (λ x. cond (eqb j x) (g j) 0) vs ≡ g j = one_picked j (g j) vs d ∙ ap (λ (b : Bool). cond b (g j) 0) m in
    omega (arith, a, b, c, e, f)
  where
    point : (x : ℕ) → cond (eqb (upd t j i x) i) (g x) 0 ≡ cond (eqb (t x) i) (g x) 0 + cond (eqb j x) (g j) 0
    point x = either (cond (eqb (upd t j i x) i) (g x) 0 ≡ cond (eqb (t x) i) (g x) 0 + cond (eqb j x) (g j) 0) (eqb j x)
        (λ e. let q : j ≡ x = eqb-true j x e in
        rw (e, ← q, upd_same t j i, eq-eqb i i refl, own, ne_eqb j i (λ r. n (sym r))) (omega arith))
        (λ e. rw (e, upd_other t j i x (λ q. eqb-false j x e (sym q))) (omega arith))
