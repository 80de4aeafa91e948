-- The code's steps are the model's: one law for each way out of a function, its premises in the words of what was called.
-- Assumes nothing.
use Prim.Native.Nat.{ℕ, ◌<◌, ◌≤◌}
use mathlib.Core.Path.{◌≡◌, sym, ap, ◌∙◌}
use mathlib.Core.List.{List}
use borrow.Author.Tests.{lt-ltb, le-ltb, le-leb, lt-leb}
use lib.IntN.{ℤ}
use Rattle.plain.specs.Turns.{times, Turned}
use Rattle.plain.proofs.Turns.{finish}
use Rattle.cells.specs.Layout.{LEN, DEGREE, NEXT, LAST, HEAD}
use Rattle.cells.specs.View.{rd, up}
use Rattle.chain.specs.Model.{relinked, removed, headed, pushed, emptied, enlisted_one, enlisted_all}

module _ (n : ℕ) (s : List ℤ) (i b a : ℕ) where
  pub relinked_mid : b < n → relinked n s i b a ≡ up n NEXT s b a
  unfolding relinked
  relinked_mid h = rw (lt-ltb b n h)

  pub relinked_front : n ≤ b → relinked n s i b a ≡ up n HEAD s (rd n DEGREE s i) a
  unfolding relinked
  relinked_front h = rw (le-ltb b n h)

  pub relink_mid : (r : List ℤ) → r ≡ up n NEXT s b a → b < n → r ≡ relinked n s i b a
  relink_mid r e h = e ∙ sym (relinked_mid h)

  pub relink_front : (r : List ℤ) (d : ℕ) → d ≡ rd n DEGREE s i → r ≡ up n HEAD s d a → n ≤ b → r ≡ relinked n s i b a
  relink_front r d hd e h = rw (relinked_front h, ← hd) e

pub remove_step : (n : ℕ) (s : List ℤ) (i b a : ℕ) (t r : List ℤ) → b ≡ rd n LAST s i → a ≡ rd n NEXT s i → t ≡ up n LAST s a b
    → r ≡ relinked n t i b a → r ≡ removed n s i
unfolding removed
remove_step n s i b a t r hb ha ht hr = rw (← hb, ← ha, ← ht) hr

pub head_step : (n : ℕ) (s : List ℤ) (d h i : ℕ) (t u w r : List ℤ) → t ≡ up n NEXT s i h → u ≡ up n LAST t i n → w ≡ up n DEGREE u i d → r ≡ up n HEAD w d i → r ≡ headed n s d h i
unfolding headed
head_step n s d h i t u w r ht hu hw hr = rw (← ht, ← hu, ← hw) hr

pub push_step : (n : ℕ) (s : List ℤ) (d i h : ℕ) (t r : List ℤ) → h ≡ rd n HEAD s d → t ≡ headed n s d h i → r ≡ up n LAST t h i → r ≡ pushed n s d i
unfolding pushed
push_step n s d i h t r hh ht hr = rw (← hh, ← ht) hr

-- ---- the start

module _ (n limit i : ℕ) (s : List ℤ) (d : ℕ) (hd : d ≡ rd n LEN s i) where
  pub enlist_yes : (r : List ℤ) → r ≡ pushed n s d i → 0 < d → d ≤ limit → d < n → r ≡ enlisted_one n limit i s
  unfolding enlisted_one
  enlist_yes r e a b c = rw (← hd, lt-ltb 0 d a, le-leb d limit b, lt-ltb d n c) e

  pub enlist_past : n ≤ d → d ≤ limit → 0 < d → s ≡ enlisted_one n limit i s
  unfolding enlisted_one
  enlist_past c b a = rw (← hd, lt-ltb 0 d a, le-leb d limit b, le-ltb d n c)

  pub enlist_long : limit < d → 0 < d → s ≡ enlisted_one n limit i s
  unfolding enlisted_one
  enlist_long b a = rw (← hd, lt-ltb 0 d a, lt-leb d limit b)

  pub enlist_none : d ≤ 0 → s ≡ enlisted_one n limit i s
  unfolding enlisted_one
  enlist_none a = rw (← hd, le-ltb 0 d a)

-- the loop over the rows begins with empty lists
pub rows_finish : (n limit : ℕ) (s t : List ℤ) → t ≡ emptied n s → (k : ℕ) (x : List ℤ) → Turned (enlisted_one n limit) t k x → k ≤ n → n ≤ k
    → x ≡ enlisted_all n limit s
unfolding enlisted_all
rows_finish n limit s t e k x h a b = finish (enlisted_one n limit) t k x h n a b ∙ ap (times n (enlisted_one n limit)) e
