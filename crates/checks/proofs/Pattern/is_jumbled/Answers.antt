-- `Pattern::is_jumbled` meets its contract.
use Prim.Native.Nat.{ℕ}
use native.Mathlib.Omega.{arith}
use mathlib.Core.Path.{◌≡◌, refl, ap, ◌∙◌}
use mathlib.Core.Bool.{Bool, not, true, false}
use borrow.Author.Rules.{rules}
use Rattle.std.specs.List.{range_with_len, list_all}
use Rattle.std.proofs.lemmas.Iterator.{cases_from_any, YieldsList-from_range}
use Rattle.plain.specs.Lists.{rises}
use Rattle.definition.specs.Pattern.{column}
use Rattle.checks.proofs.Slices.{any_told, jumbled_is}
use Rattle.checks.proofs.Pattern.is_jumbled.Goals as goal

pub returns : goal.returns
returns c =
    let p : ℕ → Bool = λ k. rises (column c.args.self.now k) in
    let n = c.columns.result in
    any_told p (range_with_len 0 n) c.any.result
    (cases_from_any _ _ _ (λ k. p k ≡ false) (λ k. p k ≡ true) c.any.ensures.ran (YieldsList-from_range 0 n n refl (omega arith)) (λ x q k. search rules) (λ x q k. search rules))
    ∙ ap (λ m. not (list_all p (range_with_len 0 m))) c.columns.ensures
    ∙ jumbled_is c.args.self.now
