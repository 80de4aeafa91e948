-- One pass over the rows, the last first: each row of the class becomes the first in its list, so the rows of the class come ascending before what was there.
-- Assumes nothing.
use Prim.Native.Nat.{ℕ, suc, ◌-◌, ◌≤◌, ◌<◌}
use native.Mathlib.Omega.{arith}
use mathlib.Core.Path.{◌≡◌, refl, sym, ap, ◌∙◌, subst}
use mathlib.Core.Logic.{◌≢◌}
use mathlib.Core.Bool.{Bool, true, false, ◌&&◌}
use mathlib.Core.List.{List, [], ◌∷◌, ◌++◌}
use lib.Dec.{eqb}
use lib.IntN.{ℤ}
use borrow.Author.Tests.{lt-ltb, le-leb, eq-eqb, ne_eqb, eqb-true, eqb-false}
use Rattle.plain.proofs.Logic.{cond_has, or_elim}
use Rattle.plain.proofs.Members.{append_either, kept_was, member_above, not_in, not_here, not_there}
use Rattle.plain.proofs.Turns.{times_keeps}
use Rattle.plain.specs.Lists.{member, keep, cons_if, count_up}
use Rattle.plain.specs.Members.{In}
use Rattle.cells.proofs.Fields.{room_up}
use Rattle.cells.proofs.Laws.{mem, room_yes, rd_up_field, column_hit, parent_up_field, roomy_up}
use Rattle.cells.specs.Layout.{NV, SIBLING, FIRST, LARGEST}
use Rattle.cells.specs.Links.{parent}
use Rattle.cells.specs.View.{rd, up, Room}
use Rattle.tree.specs.Hanging.{Chain, Hanging}
use Rattle.tree.specs.Model.{above, largest_of, class_of, listed, threaded_one, threaded}

-- all but the lists is as before
pub record Same (n : ℕ) (s m : List ℤ) : Type 0 where
  pub room : Room n m
  pub kept : (f i : ℕ) → eqb SIBLING f ≡ false → eqb FIRST f ≡ false → rd n f m i ≡ rd n f s i
  pub links : (i : ℕ) → parent n m i ≡ parent n s i

module _ (n : ℕ) (s m : List ℤ) (h : Same n s m) (j : ℕ) where
  pub above_same : above n m j ≡ above n s j
  unfolding above
  above_same = rw (h.links j)

  pub class_same : class_of n m j ≡ class_of n s j
  unfolding class_of largest_of
  class_same = rw (h.kept NV j refl refl, above_same, h.kept LARGEST (above n s j) refl refl)

pub same_same : (n : ℕ) (a b c : List ℤ) → Same n a b → Same n b c → Same n a c
same_same n a b c h k = record { room = k.room; kept = λ f i x y. k.kept f i x y ∙ h.kept f i x y; links = λ i. k.links i ∙ h.links i }

-- the rows of class c that hang under p, ascending
unfoldable pub chosen : ℕ → List ℤ → ℕ → ℕ → ℕ → Bool
chosen n s c p j = eqb (class_of n s j) c && eqb (above n s j) p

chain_same : (n : ℕ) (sib sib' : ℕ → ℕ) (j x : ℕ) (l : List ℕ) → member j l ≡ false → ((i : ℕ) → j ≢ i → sib' i ≡ sib i) → Chain n sib x l → Chain n sib' x l
chain_same n sib sib' j x [] o h c = c
chain_same n sib sib' j x (i ∷ l) o h c = (c.0, c.1, chain_same n sib sib' j (sib' i) l (not_there j i l o) h (subst (λ (y : ℕ). Chain n sib y l) (sym (h i (not_here j i l o))) c.2))

count_down : (n k : ℕ) → k < n → count_up (n - suc k) (suc k) ≡ (n - 1 - k) ∷ count_up (n - k) k
unfolding count_up
count_down n k h = let a : n - suc k ≡ n - 1 - k = omega arith in let b : suc (n - suc k) ≡ n - k = omega arith in rw (b, a)

module _ (n c : ℕ) (s : List ℤ) (L : ℕ → List ℕ) (fresh : (p x : ℕ) → In x (L p) → class_of n s x ≡ c → ⊥) (bounded : (j : ℕ) → j < n → above n s j ≤ n) where
  abbrev so_far : ℕ → ℕ → List ℕ
  so_far k p = keep (chosen n s c p) (count_up (n - k) k) ++ L p

  pub record Threading (k : ℕ) (m : List ℤ) : Type 0 where
    pub same : Same n s m
    pub lists : Hanging n m (so_far k)

  module _ (k : ℕ) (m : List ℤ) (h : Threading k m) (less : k < n) where
    abbrev j : ℕ
    j = n - 1 - k

    abbrev q : ℕ
    q = above n s j

    module _ (is : class_of n s j ≡ c) where
      abbrev t : List ℤ
      t = up n SIBLING m j (rd n FIRST m q)

      abbrev m' : List ℤ
      m' = up n FIRST t q j

      inside : j < n
      inside = omega arith

      behind_j : rd n SIBLING m' j ≡ rd n FIRST m q
      behind_j = simp (mem, room_yes n m h.same.room, lt-ltb j n inside)

      other_behind : (i : ℕ) → j ≢ i → rd n SIBLING m' i ≡ rd n SIBLING m i
      other_behind i ne = simp mem

      first_q : rd n FIRST m' q ≡ j
      first_q = column_hit n t q j (roomy_up n SIBLING m j (rd n FIRST m q) ∙ room_yes n m h.same.room) (le-leb q n (bounded j inside))

      other_first : (p : ℕ) → q ≢ p → rd n FIRST m' p ≡ rd n FIRST m p
      other_first p ne = simp mem

      outside : (p : ℕ) → member j (so_far k p) ≡ false
      outside p =
          not_in j (so_far k p) (λ i. or_elim ⊥ (append_either j (keep (chosen n s c p) (count_up (n - k) k)) (L p) i)
          (λ a. let z = member_above j (n - k) k (kept_was j (chosen n s c p) (count_up (n - k) k) a) in omega arith)
          (λ a. fresh p j a is))

      grows : (p : ℕ) → so_far (suc k) p ≡ cons_if (eqb q p) j (so_far k p)
      unfolding keep chosen
      grows p = rw (count_down n k less) (by_test (eqb q p) refl)
        where
          by_test : (b : Bool) → eqb q p ≡ b → cons_if (eqb (class_of n s j) c && eqb q p) j (keep (chosen n s c p) (count_up (n - k) k)) ++ L p ≡ cons_if b j (so_far k p)
          by_test true e = rw (eq-eqb (class_of n s j) c is, e)
          by_test false e = rw (eq-eqb (class_of n s j) c is, e)

      kept_chain : (p : ℕ) → p ≤ n → (b : Bool) → eqb q p ≡ b → Chain n (rd n SIBLING m') (rd n FIRST m' p) (cons_if b j (so_far k p))
      kept_chain p l true e =
          let x : q ≡ p = eqb-true q p e in
          let a : Chain n (rd n SIBLING m) (rd n FIRST m q) (so_far k p) = subst (λ (y : ℕ). Chain n (rd n SIBLING m) (rd n FIRST m y) (so_far k p)) (sym x) (h.lists.under p l) in
          (ap (λ (y : ℕ). rd n FIRST m' y) (sym x) ∙ first_q, inside, subst (λ (y : ℕ). Chain n (rd n SIBLING m') y (so_far k p)) (sym behind_j) (chain_same n (rd n SIBLING m) (rd n SIBLING m') j (rd n FIRST m q) (so_far k p) (outside p) other_behind a))
      kept_chain p l false e =
          subst (λ (y : ℕ). Chain n (rd n SIBLING m') y (so_far k p)) (sym (other_first p (eqb-false q p e)))
          (chain_same n (rd n SIBLING m) (rd n SIBLING m') j (rd n FIRST m p) (so_far k p) (outside p) other_behind (h.lists.under p l))

      one_more : Threading (suc k) m'
      one_more = record {
        same = record {
          room = room_up n FIRST t q j (room_up n SIBLING m j (rd n FIRST m q) h.same.room);
          kept = λ f i x y. rd_up_field n FIRST f t q j i y ∙ rd_up_field n SIBLING f m j (rd n FIRST m q) i x ∙ h.same.kept f i x y;
          links = λ i. parent_up_field n FIRST t q j i refl ∙ parent_up_field n SIBLING m j (rd n FIRST m q) i refl ∙ h.same.links i;
        };
        lists = record { under = λ p l. subst (λ (x : List ℕ). Chain n (rd n SIBLING m') (rd n FIRST m' p) x) (sym (grows p)) (kept_chain p l (eqb q p) refl) };
      }

      one_more_at : Threading (suc k) (listed n (above n m j) j m)
      unfolding listed
      one_more_at = rw (above_same n s m h.same j) one_more

    stays : (class_of n s j ≡ c → ⊥) → (p : ℕ) → so_far (suc k) p ≡ so_far k p
    unfolding keep chosen
    stays other p = rw (count_down n k less, ne_eqb (class_of n s j) c other)

    passed_by_lem : (class_of n s j ≡ c → ⊥) → Threading (suc k) m
    passed_by_lem other = record { same = h.same; lists = record { under = λ p l. subst (λ (x : List ℕ). Chain n (rd n SIBLING m) (rd n FIRST m p) x) (sym (stays other p)) (h.lists.under p l) } }

    turn : Threading (suc k) (threaded_one n c j m)
    unfolding threaded_one
    turn =
        cond_has (Threading (suc k)) (eqb (class_of n m j) c) (λ e. one_more_at (sym (class_same n s m h.same j) ∙ eqb-true (class_of n m j) c e))
        (λ e. passed_by_lem (λ x. eqb-false (class_of n m j) c e (class_same n s m h.same j ∙ x)))

  module _ (room : Room n s) (lists : Hanging n s L) where
    start : Threading 0 s
    unfolding keep count_up
    start = record { same = record { room = room; kept = λ f i x y. refl; links = λ i. refl }; lists = record { under = lists.under } }

    pub threaded_all : Threading n (threaded n c s)
    unfolding threaded
    threaded_all = times_keeps Threading (λ k. threaded_one n c (n - 1 - k)) n (λ k m l h. turn k m h l) n s (omega arith) start
