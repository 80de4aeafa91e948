-- What step 4 asks of each row of the new element, on plain data, the list that it leaves it, and who stays by marks of which some are cleared.
-- Assumes nothing.
use Rattle.std.proofs.Common.{◌≡◌, ℕ, ◌+◌, ◌^◌, ◌<◌, Bool, true, false, cond, not, ◌&&◌, ltb, List, [], ◌∷◌, ◌++◌, length, ℤ, sym, refl}
use mathlib.Core.Bool.{false≢true}
use Rattle.plain.proofs.Logic.{and_right}
use Rattle.plain.specs.Lists.{rotate}
use Rattle.cells.specs.Layout.{ELEN}
use Rattle.cells.specs.View.{rd}
use Rattle.trimming.specs.Model.{swallows}
use Rattle.trimming.proofs.Dropping.{goes, stays}
use Rattle.trimming.proofs.Sifting.{kept_e, kept_v, numbers}

-- a mark that was cleared was one of an element that goes, so who stays is known from the marks before
pub stays_cleared : (aggressive : Bool) (flag w : ℕ) (b : Bool) → (b ≡ true → goes aggressive flag w ≡ true) → stays aggressive flag (cond b 0 w) ≡ stays aggressive flag w
stays_cleared aggressive flag w false h = refl
stays_cleared aggressive flag w true h = sym (go (ltb 0 w) (swallows aggressive flag w) (and_right (ltb 0 w) (swallows aggressive flag w) (h refl)))
  where
    go : (u v : Bool) → v ≡ true → u && not v ≡ false
    go true v e = rw e
    go false v e = refl

-- no element does both
pub one_way : (aggressive : Bool) (flag w : ℕ) → stays aggressive flag w ≡ true → goes aggressive flag w ≡ true → ⊥
one_way aggressive flag w a b =
    go (swallows aggressive flag w) (and_right (ltb 0 w) (not (swallows aggressive flag w)) a) (and_right (ltb 0 w) (swallows aggressive flag w) b)
  where
    go : (v : Bool) → not v ≡ true → v ≡ true → ⊥
    go true c d = false≢true c
    go false c d = false≢true d

-- the list of a row that keeps es and vs
abbrev pub new_list : ℕ → List ℕ → List ℕ → List ℕ
new_list me es vs = cond (ltb 0 (length es + length vs)) (me ∷ (rotate es ++ rotate vs)) []

-- what a row of the new element is asked
pub record Fine (n me flag : ℕ) (aggressive : Bool) (X : ℕ → List ℕ) (s : List ℤ) (i : ℕ) (E U : List ℕ) : Type 0 where
  pub inside : i < n
  pub list : X i ≡ E ++ U
  pub elen : rd n ELEN s i ≡ length E
  pub own : length (kept_e n flag aggressive s E) + length (kept_v n s U) < length E + length U
  pub light : numbers (kept_e n flag aggressive s E) (kept_v n s U) < 2 ^ 63
