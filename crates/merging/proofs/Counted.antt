-- How many rows have a key of a list.
-- Assumes nothing.
use Prim.Native.Nat.{◌+◌, ◌≤◌, ℕ}
use native.Mathlib.Omega.{arith}
use mathlib.Core.Bool.{Bool, true, false, cond, ◌||◌}
use mathlib.Core.List.{List, [], ◌∷◌, ◌++◌}
use mathlib.Core.Logic.{◌≢◌, ◌⊎◌, inl, inr}
use mathlib.Core.Path.{◌∙◌, ◌≡◌, refl, sym}
use borrow.Author.Tests.{eq-eqb, ne_eqb}
use lib.Dec.{eqb}
use lib.ListN.{length}
use Rattle.plain.proofs.Logic.{cond_has}
use Rattle.plain.proofs.Members.{member_append, member_here}
use Rattle.plain.proofs.Sums.{total_add, total_below, total_keep, total_ones}
use Rattle.plain.specs.Lists.{keep, member, total}
use Rattle.cells.proofs.Slices.{same?}
use Rattle.facts.specs.Classes.{bucket_of}

abbrev pub counted : (ℕ → ℕ) → List ℕ → ℕ → ℕ
counted place ks v = cond (member (place v) ks) 1 0

pub member_end : (x κ : ℕ) (ks : List ℕ) → x ≢ κ → member x (ks ++ (κ ∷ [])) ≡ member x ks
unfolding member
member_end x κ ks d = member_append x ks (κ ∷ []) ∙ rw (ne_eqb x κ d) (go (member x ks))
  where
    go : (b : Bool) → b || false ≡ b
    go true = refl
    go false = refl

pub member_last : (κ : ℕ) (ks : List ℕ) → member κ (ks ++ (κ ∷ [])) ≡ true
member_last κ ks = member_append κ ks (κ ∷ []) ∙ rw (member_here κ []) (go (member κ ks))
  where
    go : (b : Bool) → b || true ≡ true
    go true = refl
    go false = refl

length_counted : (q : ℕ → Bool) (xs : List ℕ) → length (keep q xs) ≡ total (λ v. cond (q v) 1 0) xs
length_counted q xs = sym (total_ones (keep q xs)) ∙ total_keep (λ v. 1) q xs

pub counted_more : (place : ℕ → ℕ) (vs ks : List ℕ) (κ : ℕ) → member κ ks ≡ false
    → total (counted place ks) vs + length (bucket_of place vs κ) ≤ total (counted place (ks ++ (κ ∷ []))) vs
unfolding bucket_of
counted_more place vs ks κ e =
    let a = length_counted (λ v. eqb (place v) κ) vs in
    let b = total_add (counted place ks) (λ v. cond (eqb (place v) κ) 1 0) vs in
    let c = total_below (λ v. counted place ks v + cond (eqb (place v) κ) 1 0) (counted place (ks ++ (κ ∷ []))) vs (λ v m. one v (same? (place v) κ)) in
    omega arith
  where
    one : (v : ℕ) → (place v ≡ κ) ⊎ (place v ≢ κ) → counted place ks v + cond (eqb (place v) κ) 1 0 ≤ counted place (ks ++ (κ ∷ [])) v
    one v (inl q) = rw (q, e, eq-eqb κ κ refl, member_last κ ks) (omega arith)
    one v (inr q) = rw (ne_eqb (place v) κ q, member_end (place v) κ ks q) (omega arith)

pub counted_all : (place : ℕ → ℕ) (vs ks : List ℕ) → total (counted place ks) vs ≤ length vs
counted_all place vs ks =
    let a = total_ones vs in
    let b = total_below (counted place ks) (λ v. 1) vs (λ v m. cond_has (λ (x : ℕ). x ≤ 1) (member (place v) ks) (λ _. omega arith) (λ _. omega arith)) in
    omega arith
