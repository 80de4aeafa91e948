-- What follows from the invariant at once.
-- Assumes nothing.
use Prim.Native.Nat.{ℕ, ◌<◌}
use native.Mathlib.Omega.{arith}
use native.Mathlib.Decide.{dec_lt}
use mathlib.Core.Path.{◌≡◌, refl, sym, ap, ◌∙◌}
use mathlib.Core.Bool.{true, false, false≢true}
use mathlib.Core.List.{List}
use lib.ListN.{length, get_or, get_or-eq_default}
use borrow.Author.Tests.{ltb-true, lt-ltb}
use Rattle.plain.proofs.Logic.{clash, either}
use Rattle.plain.specs.Lists.{member}
use Rattle.definition.specs.State.{Graph, Kind, variable, merged, element, dense, kind, weight, elements_of, has_weight, is_variable, is_element, is_dense, is_merged}
use Rattle.facts.specs.Invariant.{Var, Quotient}

-- ---- at once from it

kind_inside : (n : ℕ) (ks : List Kind) (v : ℕ) → length ks ≡ n → is_merged (get_or ks v merged) ≡ false → Dec (v < n) → v < n
kind_inside n ks v l h (yes k) = k
kind_inside n ks v l h (no k) = absurd (false≢true (sym h ∙ ap is_merged (get_or-eq_default ks merged (omega arith))))

pub var_not_merged : (k : Kind) → is_variable k ≡ true → is_merged k ≡ false
var_not_merged variable h = refl
var_not_merged merged h = absurd (false≢true h)
var_not_merged element h = refl
var_not_merged dense h = refl

pub var_not_element : (k : Kind) → is_variable k ≡ true → is_element k ≡ false
var_not_element variable h = refl
var_not_element merged h = refl
var_not_element element h = absurd (false≢true h)
var_not_element dense h = refl

pub var_not_dense : (k : Kind) → is_variable k ≡ true → is_dense k ≡ false
var_not_dense variable h = refl
var_not_dense merged h = refl
var_not_dense element h = refl
var_not_dense dense h = absurd (false≢true h)

pub element_not_merged : (k : Kind) → is_element k ≡ true → is_merged k ≡ false
element_not_merged variable h = refl
element_not_merged merged h = absurd (false≢true h)
element_not_merged element h = refl
element_not_merged dense h = refl

module _ {n : ℕ} {g : Graph} (q : Quotient n g) where
  pub var_inside : (v : ℕ) → Var g v → v < n
  var_inside v h = kind_inside n g.kinds v q.sized.kinds (var_not_merged (kind g v) h) (dec_lt v n)

  pub element_inside : (v : ℕ) → is_element (kind g v) ≡ true → v < n
  element_inside v h = kind_inside n g.kinds v q.sized.kinds (element_not_merged (kind g v) h) (dec_lt v n)

  -- a variable has a weight, and what has one and is no element is a variable
  pub var_weighs : (v : ℕ) → Var g v → has_weight g v ≡ true
  var_weighs v h = lt-ltb 0 (weight g v) (omega (arith, q.heavy v h))

  pub weighs_var : (v : ℕ) → is_element (kind g v) ≡ false → has_weight g v ≡ true → Var g v
  weighs_var v h k =
      either (Var g v) (is_variable (kind g v)) (λ e. e)
      (λ e. let z : weight g v ≡ 0 = q.light v e h in absurd (omega (arith, ltb-true 0 (weight g v) k)))

  -- a variable is in no list of elements
  pub var_elsewhere : (i v : ℕ) → Var g i → Var g v → member v (elements_of g i) ≡ false
  var_elsewhere i v h k =
      either (member v (elements_of g i) ≡ false) (member v (elements_of g i))
      (λ e. clash (is_element (kind g v)) (q.elements_live i v h e).0 (var_not_element (kind g v) k)) (λ e. e)
