-- The search for a pivot finds the definition's: `found_rep`.
-- Assumes nothing.
use Prim.Native.Nat.{ℕ, zero, suc, ◌+◌, ◌-◌, ◌<◌, ◌≤◌}
use native.Mathlib.Omega.{arith}
use mathlib.Core.Path.{◌≡◌, refl, sym, ap, ◌∙◌}
use mathlib.Core.Logic.{◌⊎◌, inl, inr}
use mathlib.Core.Bool.{cond}
use mathlib.Core.List.{List, [], ◌∷◌}
use borrow.Author.Tests.{lt-ltb, le-ltb}
use lib.Dec.{ltb}
use lib.IntN.{ℤ}
use lib.ListN.{length, drop, drop_of_length-le, get_or-eq_default}
use lib.Seq.{drop-cons}
use Rattle.definition.specs.State.{State, queue_of}
use Rattle.definition.specs.Pivot.{nobody, found, first_from, pivot}
use Rattle.cells.specs.Layout.{HEAD}
use Rattle.cells.specs.View.{rd}
use Rattle.cells.proofs.Slices.{split}
use Rattle.chain.specs.Chained.{Links, links, Seg, Chained}
use Rattle.chain.specs.First.{First}

-- ---- the definition's search, one list at a time

first_none : (d : ℕ) → first_from d [] ≡ nobody
unfolding first_from
first_none d = refl

first_empty : (d : ℕ) (qs : List (List ℕ)) → first_from d ([] ∷ qs) ≡ first_from (suc d) qs
unfolding first_from
first_empty d qs = refl

first_front : (d p : ℕ) (ps : List ℕ) (qs : List (List ℕ)) → first_from d ((p ∷ ps) ∷ qs) ≡ found p d
unfolding first_from
first_front d p ps qs = refl

module _ (qs : List (List ℕ)) where
  behind : (m : ℕ) → length qs ≤ m → first_from m (drop m qs) ≡ nobody
  behind m h = rw (drop_of_length-le qs h) (first_none m)

  next_list : (m : ℕ) → queue_of qs m ≡ [] → (m < length qs) ⊎ (length qs ≤ m) → first_from m (drop m qs) ≡ first_from (suc m) (drop (suc m) qs)
  next_list m e (inl h) = rw (drop-cons qs m [] h, e) (first_empty m (drop (suc m) qs))
  next_list m e (inr h) = behind m h ∙ sym (behind (suc m) (omega arith))

  -- empty lists are passed over
  pub past_empty : (k m : ℕ) → ((e : ℕ) → m ≤ e → e < m + k → queue_of qs e ≡ []) → first_from m (drop m qs) ≡ first_from (m + k) (drop (m + k) qs)
  past_empty zero m h = ap (λ (x : ℕ). first_from x (drop x qs)) (omega arith)
  past_empty (suc k) m h =
      next_list m (h m (omega arith) (omega arith)) (split m (length qs))
      ∙ past_empty k (suc m) (λ e a b. h e (omega arith) (omega arith))
      ∙ ap (λ (x : ℕ). first_from x (drop x qs)) (omega arith)

-- ---- what the heads tell

seg_empty : (n : ℕ) (f : Links) (d b x : ℕ) (l : List ℕ) → Seg n f d b x l → n ≤ x → l ≡ []
seg_empty n f d b x [] q h = refl
seg_empty n f d b x (k ∷ l) q h = absurd (omega (arith, q.0.here, q.0.small))

module _ (n : ℕ) (s : List ℤ) (qs : List (List ℕ)) (size : length qs ≡ n) (h : Chained n s (queue_of qs)) where
  empty_at : (e : ℕ) → n ≤ rd n HEAD s e → (e < n) ⊎ (n ≤ e) → queue_of qs e ≡ []
  empty_at e z (inl a) = seg_empty n (links n s) e n (rd n HEAD s e) (queue_of qs e) (h.chain e a) z
  empty_at e z (inr a) = get_or-eq_default qs [] {n = e} (omega (arith, size))

  module _ (m i d : ℕ) (r : First n s m i d) where
    reach : first_from m (drop m qs) ≡ first_from d (drop d qs)
    reach =
        let e : m + (d - m) ≡ d = omega (arith, r.from) in
        past_empty qs (d - m) m (λ e a b. empty_at e (r.none e a (omega arith)) (split e n))
        ∙ ap (λ (x : ℕ). first_from x (drop x qs)) e

    front_is : (l : List ℕ) → queue_of qs d ≡ l → Seg n (links n s) d n (rd n HEAD s d) l → i < n → first_from d (drop d qs) ≡ found i d
    front_is [] e q a = absurd (omega (arith, q, (r.here a).1))
    front_is (k ∷ l) e q a =
        rw (drop-cons qs d [] (omega (arith, size, (r.here a).0)), e)
        (first_front d k l (drop (suc d) qs) ∙ ap (λ (x : ℕ). found x d) (sym q.0.here ∙ sym (r.here a).1))

    at_end : (i < n) ⊎ (n ≤ i) → first_from d (drop d qs) ≡ cond (ltb i n) (found i d) nobody
    at_end (inl a) = rw (lt-ltb i n a) (front_is (queue_of qs d) refl (h.chain d (r.here a).0) a)
    at_end (inr a) = rw (le-ltb i n a) (behind qs d (omega (arith, size, (r.nowhere a).1)))

    -- the pivot is the row found and its degree, and nobody where n is found
    pub found_rep : first_from m (drop m qs) ≡ cond (ltb i n) (found i d) nobody
    found_rep = reach ∙ at_end (split i n)

-- the same of a state of the definition
pub pivot_rep : (n : ℕ) (s : List ℤ) (t : State) → length t.queues ≡ n → Chained n s (queue_of t.queues) → (i d : ℕ)
    → First n s t.least i d → pivot t ≡ cond (ltb i n) (found i d) nobody
unfolding pivot
pivot_rep n s t size h i d r = found_rep n s t.queues size h t.least i d r
