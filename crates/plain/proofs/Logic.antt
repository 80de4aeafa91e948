-- Tests as facts: what a Bool says, and a choice by it.
-- Assumes nothing.
use Prim.Native.Nat.{ℕ}
use mathlib.Core.Path.{◌≡◌, refl, sym, ◌∙◌}
use mathlib.Core.Logic.{◌⊎◌, inl, inr}
use mathlib.Core.Bool.{Bool, true, false, false≢true, ◌&&◌, not, ◌||◌, cond}
use lib.Dec.{eqb}
use borrow.Author.Tests.{eq-eqb, eqb-true, ne_eqb, eqb-false}

pub either : (P : Type 0) (b : Bool) → (b ≡ true → P) → (b ≡ false → P) → P
either P true f g = f refl
either P false f g = g refl

pub clash : {P : Type 0} (b : Bool) → b ≡ true → b ≡ false → P
clash b h k = absurd (false≢true (sym k ∙ h))

pub and_both : (a b : Bool) → a ≡ true → b ≡ true → a && b ≡ true
and_both true b h k = k
and_both false b h k = h

pub and_left : (a b : Bool) → a && b ≡ true → a ≡ true
and_left true b h = refl
and_left false b h = h

pub and_right : (a b : Bool) → a && b ≡ true → b ≡ true
and_right true b h = h
and_right false b h = absurd (mathlib.Core.Bool.false≢true h)

pub not_false : (a : Bool) → a ≡ false → not a ≡ true
not_false true h = sym h
not_false false h = refl

pub not_back : (a : Bool) → not a ≡ true → a ≡ false
not_back true h = sym h
not_back false h = refl

pub or_left : (a b : Bool) → a ≡ true → a || b ≡ true
or_left true b h = refl
or_left false b h = absurd (false≢true h)

pub or_right : (a b : Bool) → b ≡ true → a || b ≡ true
or_right true b h = refl
or_right false b h = h

pub or_cases : (P : Type 0) (a b : Bool) → a || b ≡ true → (a ≡ true → P) → (b ≡ true → P) → P
or_cases P true b h f g = f refl
or_cases P false b h f g = g h

pub or_false_left : (a b : Bool) → a || b ≡ false → a ≡ false
or_false_left true b h = h
or_false_left false b h = refl

pub or_false_right : (a b : Bool) → a || b ≡ false → b ≡ false
or_false_right true b h = absurd (false≢true (sym h))
or_false_right false b h = h

-- a chain of tests is its first test where that decides, and else the rest
pub or_first : (a b : Bool) → a ≡ true → a ≡ a || b
or_first true b h = refl
or_first false b h = absurd (false≢true h)

pub or_rest : (a b : Bool) → a ≡ false → b ≡ a || b
or_rest true b h = absurd (false≢true (sym h))
or_rest false b h = refl

pub and_no : (a : Bool) → a && false ≡ false
and_no true = refl
and_no false = refl

pub and_first : (a b : Bool) → a ≡ false → a ≡ a && b
and_first true b h = absurd (false≢true (sym h))
and_first false b h = refl

pub and_rest : (a b : Bool) → a ≡ true → b ≡ a && b
and_rest true b h = refl
and_rest false b h = absurd (false≢true h)

pub none_if : (b : Bool) → (b ≡ true → ⊥) → b ≡ false
none_if true h = absurd (h refl)
none_if false h = refl

pub bool_ext : (a b : Bool) → (a ≡ true → b ≡ true) → (b ≡ true → a ≡ true) → a ≡ b
bool_ext true b f g = sym (f refl)
bool_ext false true f g = g refl
bool_ext false false f g = refl

-- a choice between two facts, where the goal has to be said
pub or_elim : {A B : Type 0} (P : Type 0) → A ⊎ B → (A → P) → (B → P) → P
or_elim P (inl a) f g = f a
or_elim P (inr b) f g = g b

-- a choice has what both of its branches have
pub cond_has {ℓ} : {A : Type ℓ} (P : A → Type 0) (b : Bool) {x y : A} → (b ≡ true → P x) → (b ≡ false → P y) → P (cond b x y)
cond_has P true f g = f refl
cond_has P false f g = g refl

pub eqb_comm : (a b : ℕ) → eqb a b ≡ eqb b a
eqb_comm a b = go (eqb a b) refl
  where
    go : (t : Bool) → eqb a b ≡ t → eqb a b ≡ eqb b a
    go true e = e ∙ sym (eq-eqb b a (sym (eqb-true a b e)))
    go false e = e ∙ sym (ne_eqb b a (λ q. eqb-false a b e (sym q)))
