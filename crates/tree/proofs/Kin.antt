-- The rows of each class under each row, as the definition's lists: the other children and the largest, merged rows; under n the roots and the dense rows.
-- Assumes nothing.
use Prim.Native.Nat.{ℕ, ◌≤◌, ◌<◌}
use native.Mathlib.Omega.{arith}
use mathlib.Core.Path.{◌≡◌, refl, sym, ap, ◌∙◌}
use mathlib.Core.Bool.{Bool, true, false, ◌&&◌, not, cond}
use mathlib.Core.List.{List, [], ◌∷◌, ◌++◌, append_assoc}
use mathlib.Core.Option.{Option, none, some}
use lib.Dec.{eqb}
use lib.IntN.{ℤ}
use borrow.Author.Tests.{lt-ltb, le-ltb, eq-eqb, ne_eqb, eqb-true}
use Rattle.plain.proofs.Logic.{eqb_comm}
use Rattle.plain.proofs.Members.{keep_same, up_to_below, member_here, member_right, no_member}
use Rattle.plain.proofs.Repeats.{distinct_keep, distinct_count_up}
use Rattle.plain.specs.Lists.{keep, up_to, delete, is_none}
use Rattle.plain.specs.Members.{Distinct}
use Rattle.definition.specs.State.{Graph, Kind, variable, merged, element, dense, row_count, kind, rep, is_element, is_merged, is_dense, dense_rows}
use Rattle.definition.specs.State as state
use Rattle.definition.specs.Tree.{is_child_of, size_of, children_of, roots, biggest, big_last}
use Rattle.definition.specs.Ordering.{merged_with}
use Rattle.facts.proofs.Family.{in_big_last}
use Rattle.tree.specs.Model.{above, largest_of, class_of}
use Rattle.tree.proofs.Largest.{last_big}
use Rattle.plain.proofs.Parts.{keep_keep, keep_one, keep_none}
use Rattle.tree.proofs.Ready.{Ready}
use Rattle.tree.proofs.Threads.{chosen}

and_false : (x : Bool) → x && false ≡ false
and_false true = refl
and_false false = refl

pick_two : (x y : Bool) → eqb (cond x 1 2) 2 && y ≡ not x && y
pick_two true y = refl
pick_two false y = refl

pick_one_lem : (x y : Bool) → eqb (cond x 1 2) 1 && y ≡ x && y
pick_one_lem true y = refl
pick_one_lem false y = refl

pick_none : (x y : Bool) → eqb (cond x 1 2) 0 && y ≡ false
pick_none true y = refl
pick_none false y = refl

swap : (f : ℕ → Bool) (p e : ℕ) → f p && eqb p e ≡ f e && eqb e p
swap f p e = by_test (eqb p e) refl
  where
    by_test : (b : Bool) → eqb p e ≡ b → f p && eqb p e ≡ f e && eqb e p
    by_test true x = let q : p ≡ e = eqb-true p e x in rw q
    by_test false x = rw (x, eqb_comm e p, x, and_false (f p), and_false (f e))

element_is : {a : Kind} → a ≡ merged → a ≡ element → ⊥
element_is p q = let z : ◌≡◌ {A = ℕ} 0 1 = cc in omega arith

element_is_dense : {a : Kind} → a ≡ dense → a ≡ element → ⊥
element_is_dense p q = let z : ◌≡◌ {A = ℕ} 0 1 = cc in omega arith

-- the largest last, as two parts of the list
parts : (n : ℕ) (size : ℕ → ℕ) (xs : List ℕ) → Distinct xs → delete (last_big n size xs) xs ++ keep (eqb (last_big n size xs)) xs ≡ big_last size xs
unfolding big_last last_big delete
parts n size [] d = rw (keep_none (λ y. not (eqb n y)) [] (λ x i. no_member x i), keep_none (eqb n) [] (λ x i. no_member x i))
parts n size (x ∷ xs) d =
    let b = biggest size x xs in
    ap (λ (l : List ℕ). keep (λ y. not (eqb b y)) (x ∷ xs) ++ l)
    (keep_one b (x ∷ xs) d (in_big_last size b (x ∷ xs) (member_right b (keep (λ y. not (eqb b y)) (x ∷ xs)) (b ∷ []) (member_here b []))))

module _ (n : ℕ) (g : Graph) (s : List ℤ) (h : Ready n g s) (rows : row_count g ≡ n) where
  abbrev large : ℕ → ℕ
  large e = last_big n (size_of g) (children_of g e)

  module _ (j : ℕ) (l : j < n) where
    class_light : (kind g j ≡ element → ⊥) → class_of n s j ≡ 0
    unfolding class_of
    class_light x = rw (h.placing.light j l x)

    class_child : (p : ℕ) → kind g j ≡ element → state.parent g j ≡ some p → class_of n s j ≡ cond (eqb (large p) j) 1 2
    unfolding class_of largest_of
    class_child p x r =
        let c = h.placing.child j p l x r in
        rw (h.placing.heavy j l x, c.1, lt-ltb p n c.0, h.largest p c.0)

    class_root : kind g j ≡ element → state.parent g j ≡ none → class_of n s j ≡ 2
    unfolding class_of largest_of
    class_root x r = rw (h.placing.heavy j l x, h.placing.root j l x r, le-ltb n n (omega arith))

    -- ---- under an element, or any row

    module _ (e : ℕ) (le : e < n) where
      away : eqb n e ≡ false
      away = ne_eqb n e (λ q. omega arith)

      two_child : kind g j ≡ element → (o : Option ℕ) → state.parent g j ≡ o → chosen n s 2 e j ≡ not (eqb (large e) j) && is_child_of e o
      unfolding chosen
      two_child x none r = rw (class_root x r, h.placing.root j l x r, away, and_false (not (eqb (large e) j)))
      two_child x (some p) r = rw (class_child p x r, (h.placing.child j p l x r).1) (pick_two (eqb (large p) j) (eqb p e) ∙ swap (λ z. not (eqb (large z) j)) p e)

      one_child : kind g j ≡ element → (o : Option ℕ) → state.parent g j ≡ o → chosen n s 1 e j ≡ eqb (large e) j && is_child_of e o
      unfolding chosen
      one_child x none r = rw (class_root x r, and_false (eqb (large e) j))
      one_child x (some p) r = rw (class_child p x r, (h.placing.child j p l x r).1) (pick_one_lem (eqb (large p) j) (eqb p e) ∙ swap (λ z. eqb (large z) j) p e)

      no_child : kind g j ≡ element → (o : Option ℕ) → state.parent g j ≡ o → chosen n s 0 e j ≡ false
      unfolding chosen
      no_child x none r = rw (class_root x r)
      no_child x (some p) r = rw (class_child p x r) (pick_none (eqb (large p) j) (eqb (above n s j) e))

      two : (k : Kind) → kind g j ≡ k → chosen n s 2 e j ≡ not (eqb (large e) j) && (is_element (kind g j) && is_child_of e (state.parent g j))
      unfolding chosen
      two variable x = absurd (h.placing.idle j l x)
      two merged x = rw (class_light (λ y. element_is x y), x, and_false (not (eqb (large e) j)))
      two element x = rw x (two_child x (state.parent g j) refl)
      two dense x = rw (class_light (λ y. element_is_dense x y), x, and_false (not (eqb (large e) j)))

      one : (k : Kind) → kind g j ≡ k → chosen n s 1 e j ≡ eqb (large e) j && (is_element (kind g j) && is_child_of e (state.parent g j))
      unfolding chosen
      one variable x = absurd (h.placing.idle j l x)
      one merged x = rw (class_light (λ y. element_is x y), x, and_false (eqb (large e) j))
      one element x = rw x (one_child x (state.parent g j) refl)
      one dense x = rw (class_light (λ y. element_is_dense x y), x, and_false (eqb (large e) j))

      zero_of : (k : Kind) → kind g j ≡ k → chosen n s 0 e j ≡ is_merged (kind g j) && eqb e (rep g j)
      unfolding chosen
      zero_of variable x = absurd (h.placing.idle j l x)
      zero_of merged x = rw (class_light (λ y. element_is x y), x, (h.placing.joined j l x).1) (eqb_comm (rep g j) e)
      zero_of element x = rw x (no_child x (state.parent g j) refl)
      zero_of dense x = rw (class_light (λ y. element_is_dense x y), x, h.placing.free j l x) away

    -- ---- under n

    off : (p : ℕ) → p < n → eqb p n ≡ false
    off p q = ne_eqb p n (λ z. omega arith)

    two_root : kind g j ≡ element → (o : Option ℕ) → state.parent g j ≡ o → chosen n s 2 n j ≡ is_none o
    unfolding chosen
    two_root x none r = rw (class_root x r, h.placing.root j l x r) (eq-eqb n n refl)
    two_root x (some p) r = let c = h.placing.child j p l x r in rw (c.1, off p c.0) (and_false (eqb (class_of n s j) 2))

    one_root : kind g j ≡ element → (o : Option ℕ) → state.parent g j ≡ o → chosen n s 1 n j ≡ false
    unfolding chosen
    one_root x none r = rw (class_root x r)
    one_root x (some p) r = let c = h.placing.child j p l x r in rw (c.1, off p c.0) (and_false (eqb (class_of n s j) 1))

    no_root : kind g j ≡ element → (o : Option ℕ) → state.parent g j ≡ o → chosen n s 0 n j ≡ false
    unfolding chosen
    no_root x none r = rw (class_root x r)
    no_root x (some p) r = let c = h.placing.child j p l x r in rw (c.1, off p c.0) (and_false (eqb (class_of n s j) 0))

    two_n : (k : Kind) → kind g j ≡ k → chosen n s 2 n j ≡ is_element (kind g j) && is_none (state.parent g j)
    unfolding chosen
    two_n variable x = absurd (h.placing.idle j l x)
    two_n merged x = rw (class_light (λ y. element_is x y), x)
    two_n element x = rw x (two_root x (state.parent g j) refl)
    two_n dense x = rw (class_light (λ y. element_is_dense x y), x)

    one_n : (k : Kind) → kind g j ≡ k → chosen n s 1 n j ≡ false
    unfolding chosen
    one_n variable x = absurd (h.placing.idle j l x)
    one_n merged x = rw (class_light (λ y. element_is x y))
    one_n element x = one_root x (state.parent g j) refl
    one_n dense x = rw (class_light (λ y. element_is_dense x y))

    zero_n : (k : Kind) → kind g j ≡ k → chosen n s 0 n j ≡ is_dense (kind g j)
    unfolding chosen
    zero_n variable x = absurd (h.placing.idle j l x)
    zero_n merged x = let c = h.placing.joined j l x in rw (class_light (λ y. element_is x y), x, c.1) (off (rep g j) c.0)
    zero_n element x = rw x (no_root x (state.parent g j) refl)
    zero_n dense x = rw (class_light (λ y. element_is_dense x y), x, h.placing.free j l x) (eq-eqb n n refl)

    pub above_low : (k : Kind) → kind g j ≡ k → above n s j ≤ n
    above_low variable x = absurd (h.placing.idle j l x)
    above_low merged x = let c = h.placing.joined j l x in omega arith
    above_low element x = by_parent (state.parent g j) refl
      where
        by_parent : (o : Option ℕ) → state.parent g j ≡ o → above n s j ≤ n
        by_parent none r = omega (arith, h.placing.root j l x r)
        by_parent (some p) r = let c = h.placing.child j p l x r in omega arith
    above_low dense x = omega (arith, h.placing.free j l x)

  -- ---- as lists

  module _ (e : ℕ) (le : e < n) where
    children_are : children_of g e ≡ keep (λ j. is_element (kind g j) && is_child_of e (state.parent g j)) (up_to n)
    unfolding children_of
    children_are = rw rows

    once : Distinct (children_of g e)
    unfolding children_of
    once = distinct_keep (λ j. is_element (kind g j) && is_child_of e (state.parent g j)) (up_to (row_count g)) (distinct_count_up 0 (row_count g))

    others : keep (chosen n s 2 e) (up_to n) ≡ delete (large e) (children_of g e)
    unfolding delete
    others =
        keep_same (chosen n s 2 e) (λ j. not (eqb (large e) j) && (is_element (kind g j) && is_child_of e (state.parent g j))) (up_to n) (λ j i. two j (up_to_below j n i) e le (kind g j) refl)
        ∙ sym (keep_keep (λ j. not (eqb (large e) j)) (λ j. is_element (kind g j) && is_child_of e (state.parent g j)) (up_to n))
        ∙ ap (keep (λ j. not (eqb (large e) j))) (sym children_are)

    largest : keep (chosen n s 1 e) (up_to n) ≡ keep (eqb (large e)) (children_of g e)
    largest =
        keep_same (chosen n s 1 e) (λ j. eqb (large e) j && (is_element (kind g j) && is_child_of e (state.parent g j))) (up_to n) (λ j i. one j (up_to_below j n i) e le (kind g j) refl)
        ∙ sym (keep_keep (eqb (large e)) (λ j. is_element (kind g j) && is_child_of e (state.parent g j)) (up_to n))
        ∙ ap (keep (eqb (large e))) (sym children_are)

    joined : keep (chosen n s 0 e) (up_to n) ≡ merged_with g e
    unfolding merged_with
    joined = keep_same (chosen n s 0 e) (λ j. is_merged (kind g j) && eqb e (rep g j)) (up_to n) (λ j i. zero_of j (up_to_below j n i) e le (kind g j) refl) ∙ rw rows

    pub under_row : keep (chosen n s 2 e) (up_to n) ++ (keep (chosen n s 1 e) (up_to n) ++ keep (chosen n s 0 e) (up_to n)) ≡ big_last (size_of g) (children_of g e) ++ merged_with g e
    under_row =
        sym (append_assoc (keep (chosen n s 2 e) (up_to n)) (keep (chosen n s 1 e) (up_to n)) (keep (chosen n s 0 e) (up_to n)))
        ∙ rw (others, largest, joined, parts n (size_of g) (children_of g e) once)

  roots_are : keep (chosen n s 2 n) (up_to n) ≡ roots g
  unfolding roots
  roots_are = keep_same (chosen n s 2 n) (λ j. is_element (kind g j) && is_none (state.parent g j)) (up_to n) (λ j i. two_n j (up_to_below j n i) (kind g j) refl) ∙ rw rows

  dense_are : keep (chosen n s 0 n) (up_to n) ≡ dense_rows g
  unfolding dense_rows
  dense_are = keep_same (chosen n s 0 n) (λ j. is_dense (kind g j)) (up_to n) (λ j i. zero_n j (up_to_below j n i) (kind g j) refl) ∙ rw rows

  pub under_none : keep (chosen n s 2 n) (up_to n) ++ (keep (chosen n s 1 n) (up_to n) ++ keep (chosen n s 0 n) (up_to n)) ≡ roots g ++ dense_rows g
  under_none = rw (roots_are, keep_none (chosen n s 1 n) (up_to n) (λ j i. one_n j (up_to_below j n i) (kind g j) refl), dense_are)
