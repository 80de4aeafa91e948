-- Lists that rise: what is kept of a, a + 1, .. does.
-- Assumes nothing.
use Prim.Native.Nat.{ℕ, zero, suc, ◌<◌}
use native.Mathlib.Omega.{arith}
use mathlib.Core.Path.{◌≡◌, refl}
use mathlib.Core.Bool.{Bool, true, false}
use mathlib.Core.List.{[]}
use lib.Dec.{ltb}
use borrow.Author.Tests.{lt-ltb}
use Rattle.plain.specs.Lists.{count_up, keep, cons_if, rises, rises_from}
use Rattle.plain.proofs.Logic.{and_both}

pub rises_from_kept : (p : ℕ → Bool) (b a k : ℕ) → b < a → rises_from b (keep p (count_up a k)) ≡ true
unfolding rises_from keep count_up
rises_from_kept p b a zero h = refl
rises_from_kept p b a (suc k) h = go (p a) (rises_from_kept p a (suc a) k (omega arith)) (rises_from_kept p b (suc a) k (omega arith))
  where
    go : (t : Bool) → rises_from a (keep p (count_up (suc a) k)) ≡ true → rises_from b (keep p (count_up (suc a) k)) ≡ true
        → rises_from b (cons_if t a (keep p (count_up (suc a) k))) ≡ true
    go true x y = and_both (ltb b a) (rises_from a (keep p (count_up (suc a) k))) (lt-ltb b a h) x
    go false x y = y

pub rises_kept : (p : ℕ → Bool) (a k : ℕ) → rises (keep p (count_up a k)) ≡ true
unfolding rises keep count_up
rises_kept p a zero = refl
rises_kept p a (suc k) = go (p a) (rises_from_kept p a (suc a) k (omega arith)) (rises_kept p (suc a) k)
  where
    go : (t : Bool) → rises_from a (keep p (count_up (suc a) k)) ≡ true → rises (keep p (count_up (suc a) k)) ≡ true
        → rises (cons_if t a (keep p (count_up (suc a) k))) ≡ true
    go true x y = x
    go false x y = y

pub rises_none : rises [] ≡ true
unfolding rises
rises_none = refl
