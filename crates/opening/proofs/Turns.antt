-- The table of made elements: the pivot is not in it, there is a place for the pivot, and the pivot's turn is the next.
-- Assumes nothing.
use Prim.Native.Nat.{ℕ, suc, ◌<◌, ◌≤◌}
use native.Mathlib.Omega.{arith}
use mathlib.Core.Path.{◌≡◌, sym, ap, ◌∙◌}
use mathlib.Core.Logic.{◌≢◌, ◌⊎◌, inl, inr}
use mathlib.Core.Bool.{true, false, false≢true}
use mathlib.Core.List.{List, map}
use lib.IntN.{ℤ}
use lib.ListN.{length}
use Rattle.plain.proofs.Entries.{entries_counted, entries_length}
use Rattle.plain.proofs.Logic.{either}
use Rattle.plain.proofs.Members.{map_was, member_below}
use Rattle.plain.proofs.Repeats.{distinct_count_up, distinct_map, length_missing}
use Rattle.plain.specs.Lists.{member, up_to}
use Rattle.plain.specs.Members.{Distinct, In}
use Rattle.definition.specs.State.{Graph, is_element, kind}
use Rattle.facts.proofs.Invariant.{element_inside, var_inside, var_not_element}
use Rattle.facts.specs.Invariant.{Quotient, Var}
use Rattle.cells.proofs.Slices.{same?, split}
use Rattle.cells.specs.Layout.{ORD}
use Rattle.cells.specs.View.{rd}
use Rattle.opening.specs.Order.{Ordered}

pub order_start : (n : ℕ) (s : List ℤ) (g : Graph) → Ordered n s g 0
order_start n s g = record { old = λ i h. absurd (omega arith); once = λ i j h k. absurd (omega arith) }

module _ (n : ℕ) (s : List ℤ) (g : Graph) (made : ℕ) (h : Ordered n s g made) where
  -- a variable is not there
  pub order_fresh : (p : ℕ) → Var g p → (i : ℕ) → i < made → rd n ORD s i ≢ p
  order_fresh p pv i b e = false≢true (sym (var_not_element (kind g p) pv) ∙ ap (λ (x : ℕ). is_element (kind g x)) (sym e) ∙ h.old i b)

  alike : (i j : ℕ) → i < made → j < made → rd n ORD s i ≡ rd n ORD s j → (i < j) ⊎ (j ≤ i) → (j < i) ⊎ (i ≤ j) → i ≡ j
  alike i j a b e (inl c) d = absurd (h.once i j c b e)
  alike i j a b e (inr c) (inl d) = absurd (h.once j i d a (sym e))
  alike i j a b e (inr c) (inr d) = omega arith

  -- and there is a place for it
  pub order_room : Quotient n g → (p : ℕ) → Var g p → made < n
  order_room q p pv =
      let e = entries_counted (rd n ORD s) 0 made in
      let low : (i : ℕ) → In i (up_to made) → i < made = λ i m. omega (arith, member_below i 0 made m) in
      let d : Distinct (map (rd n ORD s) (up_to made)) = distinct_map (rd n ORD s) (up_to made) (distinct_count_up 0 made) (λ i j a b y. alike i j (low i a) (low j b) y (split i j) (split j i)) in
      let z = length_missing n (map (rd n ORD s) (up_to made)) p d
      (λ x m. let r = map_was (rd n ORD s) x (up_to made) m in element_inside q x (ap (λ (y : ℕ). is_element (kind g y)) r.2 ∙ h.old r.0 (low r.0 r.1)))
      (var_inside q p pv)
      (either (member p (map (rd n ORD s) (up_to made)) ≡ false) (member p (map (rd n ORD s) (up_to made)))
      (λ m. let r = map_was (rd n ORD s) p (up_to made) m in absurd (order_fresh p pv r.0 (low r.0 r.1) (sym r.2))) (λ m. m)) in
      omega (arith, z, ap length e, entries_length (rd n ORD s) 0 made)

  -- elements stay elements, and the table is not changed
  pub order_kept : (s' : List ℤ) (g' : Graph) → ((i : ℕ) → rd n ORD s' i ≡ rd n ORD s i) → ((e : ℕ) → is_element (kind g e) ≡ true → is_element (kind g' e) ≡ true) → Ordered n s' g' made
  order_kept s' g' t k =
      record {
        old = λ i b. rw (t i) (k (rd n ORD s i) (h.old i b));
        once = λ i j b c e. h.once i j b c (sym (t i) ∙ e ∙ t j);
      }

  -- the pivot is the next
  module _ (s' : List ℤ) (g' : Graph) (p : ℕ) (pv : Var g p) (t : (i : ℕ) → i ≢ made → rd n ORD s' i ≡ rd n ORD s i) (last : rd n ORD s' made ≡ p)
      (k : (e : ℕ) → is_element (kind g e) ≡ true → is_element (kind g' e) ≡ true) (now : is_element (kind g' p) ≡ true) where
    old_by : (i : ℕ) → i < suc made → (i ≡ made) ⊎ (i ≢ made) → is_element (kind g' (rd n ORD s' i)) ≡ true
    old_by i b (inl e) = rw (e, last) now
    old_by i b (inr d) = rw (t i d) (k (rd n ORD s i) (h.old i (omega (arith, d))))

    once_by : (i j : ℕ) → i < j → j < suc made → (j ≡ made) ⊎ (j ≢ made) → rd n ORD s' i ≢ rd n ORD s' j
    once_by i j b c (inl e) y = order_fresh p pv i (omega arith) (sym (t i (λ z. omega arith)) ∙ y ∙ ap (rd n ORD s') e ∙ last)
    once_by i j b c (inr d) y = h.once i j b (omega (arith, d)) (sym (t i (λ z. omega (arith, d))) ∙ y ∙ t j d)

    pub order_next : Ordered n s' g' (suc made)
    order_next = record { old = λ i b. old_by i b (same? i made); once = λ i j b c. once_by i j b c (same? j made) }
