-- After the three passes: under an element hang its children, the largest last, and behind them its merged rows; under n the roots, and behind them the dense rows.
-- Assumes nothing.
use Prim.Native.Nat.{ℕ, ◌-◌, ◌≤◌}
use native.Mathlib.Omega.{arith}
use mathlib.Core.Path.{◌≡◌, refl, sym, ap, ◌∙◌, subst}
use mathlib.Core.Bool.{Bool, true, false, cond}
use mathlib.Core.List.{List, [], ◌++◌, append-nil}
use lib.Dec.{eqb, ltb}
use lib.IntN.{ℤ}
use borrow.Author.Tests.{eqb-true, ltb-true, ltb-false}
use Rattle.plain.proofs.Logic.{and_left, or_elim}
use Rattle.plain.proofs.Members.{keep_same, append_either, kept_passes, no_member}
use Rattle.plain.specs.Lists.{keep, up_to, count_up}
use Rattle.plain.specs.Members.{In}
use Rattle.definition.specs.State.{Graph, row_count, kind, dense_rows}
use Rattle.definition.specs.Tree.{size_of, children_of, roots, big_last}
use Rattle.definition.specs.Ordering.{merged_with}
use Rattle.cells.specs.Layout.{SIBLING, FIRST}
use Rattle.cells.specs.View.{rd, Room}
use Rattle.tree.specs.Final.{Ended}
use Rattle.tree.specs.Hanging.{Chain, Hanging}
use Rattle.tree.specs.Model.{above, class_of, blanked, measured, threaded, prepared}
use Rattle.tree.proofs.Kin.{above_low, under_row, under_none}
use Rattle.tree.proofs.Owners.{Owned}
use Rattle.tree.proofs.Ready.{Ready, ready}
use Rattle.tree.proofs.Threads.{Same, same_same, above_same, class_same, chosen, Threading, threaded_all}

-- what hangs under p, in the definition's words
unfoldable pub kin : ℕ → Graph → ℕ → List ℕ
kin n g p = cond (ltb p n) (big_last (size_of g) (children_of g p) ++ merged_with g p) (roots g ++ dense_rows g)

chosen_class : (n : ℕ) (s : List ℤ) (c p x : ℕ) → chosen n s c p x ≡ true → class_of n s x ≡ c
unfolding chosen
chosen_class n s c p x e = eqb-true (class_of n s x) c (and_left (eqb (class_of n s x) c) (eqb (above n s x) p) e)

chosen_same : (n : ℕ) (s m : List ℤ) → Same n s m → (c p j : ℕ) → chosen n m c p j ≡ chosen n s c p j
unfolding chosen
chosen_same n s m h c p j = rw (class_same n s m h j, above_same n s m h j)

module _ (n : ℕ) (g : Graph) (s : List ℤ) (h : Ready n g s) (rows : row_count g ≡ n) where
  record Passed (m : List ℤ) (L : ℕ → List ℕ) : Type 0 where
    same : Same n s m
    lists : Hanging n m L

  abbrev of_class : ℕ → ℕ → List ℕ
  of_class c p = keep (chosen n s c p) (up_to n)

  pass : (c : ℕ) (m : List ℤ) (L : ℕ → List ℕ) → Passed m L → ((p x : ℕ) → In x (L p) → class_of n s x ≡ c → ⊥) → Passed (threaded n c m) (λ p. of_class c p ++ L p)
  pass c m L k fresh = record {
    same = same_same n s m (threaded n c m) k.same t.same;
    lists = record { under = λ p l. subst (λ (x : List ℕ). Chain n (rd n SIBLING (threaded n c m)) (rd n FIRST (threaded n c m) p) (x ++ L p)) (again p) (t.lists.under p l) };
  }
    where
      t : Threading n c m L (λ p x i e. fresh p x i (sym (class_same n s m k.same x) ∙ e)) (λ j l. rw (above_same n s m k.same j) (above_low n g s h rows j l (kind g j) refl)) n (threaded n c m)
      t = threaded_all n c m L (λ p x i e. fresh p x i (sym (class_same n s m k.same x) ∙ e)) (λ j l. rw (above_same n s m k.same j) (above_low n g s h rows j l (kind g j) refl)) k.same.room k.lists

      again : (p : ℕ) → keep (chosen n m c p) (count_up (n - n) n) ≡ of_class c p
      again p = let z : n - n ≡ 0 = omega arith in ap (λ (a : ℕ). keep (chosen n m c p) (count_up a n)) z ∙ keep_same (chosen n m c p) (chosen n s c p) (up_to n) (λ j i. chosen_same n s m k.same c p j)

  of_class_lem : (c p x : ℕ) → In x (of_class c p) → class_of n s x ≡ c
  of_class_lem c p x i = chosen_class n s c p x (kept_passes x (chosen n s c p) (up_to n) i)

  first : Passed (threaded n 0 s) (λ p. of_class 0 p ++ [])
  first = pass 0 s (λ p. []) (record { same = record { room = h.room; kept = λ f i x y. refl; links = λ i. refl }; lists = h.nothing }) (λ p x i e. no_member x i)

  second : Passed (threaded n 1 (threaded n 0 s)) (λ p. of_class 1 p ++ (of_class 0 p ++ []))
  second = pass 1 (threaded n 0 s) (λ p. of_class 0 p ++ []) first (λ p x i e. or_elim ⊥ (append_either x (of_class 0 p) [] i) (λ a. let z = of_class_lem 0 p x a in omega arith) (λ a. no_member x a))

  third : Passed (threaded n 2 (threaded n 1 (threaded n 0 s))) (λ p. of_class 2 p ++ (of_class 1 p ++ (of_class 0 p ++ [])))
  third =
      pass 2 (threaded n 1 (threaded n 0 s)) (λ p. of_class 1 p ++ (of_class 0 p ++ [])) second (λ p x i e. or_elim ⊥ (append_either x (of_class 1 p) (of_class 0 p ++ []) i)
      (λ a. let z = of_class_lem 1 p x a in omega arith)
      (λ b. or_elim ⊥ (append_either x (of_class 0 p) [] b) (λ a. let z = of_class_lem 0 p x a in omega arith) (λ a. no_member x a)))

  kin_is : (p : ℕ) → p ≤ n → of_class 2 p ++ (of_class 1 p ++ (of_class 0 p ++ [])) ≡ kin n g p
  unfolding kin
  kin_is p l = ap (λ (x : List ℕ). of_class 2 p ++ (of_class 1 p ++ x)) (append-nil (of_class 0 p)) ∙ by_test (ltb p n) refl
    where
      by_test : (b : Bool) → ltb p n ≡ b → of_class 2 p ++ (of_class 1 p ++ of_class 0 p) ≡ cond b (big_last (size_of g) (children_of g p) ++ merged_with g p) (roots g ++ dense_rows g)
      by_test true t = under_row n g s h rows p (ltb-true p n t)
      by_test false t = let e : p ≡ n = omega (arith, ltb-false p n t) in rw e (under_none n g s h rows)

  lists_all : Hanging n (threaded n 2 (threaded n 1 (threaded n 0 s))) (kin n g)
  lists_all = record { under = λ p l. subst (λ (x : List ℕ). Chain n (rd n SIBLING (threaded n 2 (threaded n 1 (threaded n 0 s)))) (rd n FIRST (threaded n 2 (threaded n 1 (threaded n 0 s))) p) x) (kin_is p l) (third.lists.under p l) }

  room_all : Room n (threaded n 2 (threaded n 1 (threaded n 0 s)))
  room_all = third.same.room

module _ (n : ℕ) (g : Graph) (rank : ℕ → ℕ) (s : List ℤ) (start : Owned n g s) (end : Ended n g rank) where
  pub prepared_lists : Hanging n (prepared n s) (kin n g)
  unfolding prepared
  prepared_lists = lists_all n g (measured n (blanked n s)) (ready n g rank s start end) end.rows

  pub prepared_room : Room n (prepared n s)
  unfolding prepared
  prepared_room = room_all n g (measured n (blanked n s)) (ready n g rank s start end) end.rows
