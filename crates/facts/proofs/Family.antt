-- Children and roots of the tree, as facts; the order in which children are taken has the same children.
-- Assumes nothing.
use Prim.Native.Nat.{ℕ, ◌<◌}
use mathlib.Core.Path.{◌≡◌, refl, sym, ap}
use mathlib.Core.Bool.{true, cond, not, ◌&&◌, false≢true}
use mathlib.Core.List.{List, [], ◌∷◌, ◌++◌}
use mathlib.Core.Option.{Option, none, some}
use lib.Dec.{eqb, leb}
use borrow.Author.Tests.{eqb-true, eq-eqb}
use Rattle.plain.proofs.Folds.{foldl_keeps, all_in}
use Rattle.plain.proofs.Logic.{or_elim, cond_has, either, and_left, and_right}
use Rattle.plain.proofs.Members.{member_first, member_there, member_either, member_left, member_right, append_either, kept_both, no_member, member_kept, up_to_below, member_up_to}
use Rattle.plain.specs.Lists.{up_to, delete, is_none}
use Rattle.plain.specs.Members.{In}
use Rattle.definition.specs.State.{Graph, Kind, variable, merged, element, dense, row_count, kind, parent, rep, is_variable, is_element, is_merged, is_dense, dense_rows}
use Rattle.definition.specs.Tree.{is_child_of, children_of, roots, biggest, big_last}
use Rattle.definition.specs.Ordering.{merged_with, block_of}

pub is_variable_lem : (k : Kind) → is_variable k ≡ true → k ≡ variable
is_variable_lem variable e = refl
is_variable_lem merged e = absurd (false≢true e)
is_variable_lem element e = absurd (false≢true e)
is_variable_lem dense e = absurd (false≢true e)

pub is_element_lem : (k : Kind) → is_element k ≡ true → k ≡ element
is_element_lem variable e = absurd (false≢true e)
is_element_lem merged e = absurd (false≢true e)
is_element_lem element e = refl
is_element_lem dense e = absurd (false≢true e)

pub is_merged_lem : (k : Kind) → is_merged k ≡ true → k ≡ merged
is_merged_lem variable e = absurd (false≢true e)
is_merged_lem merged e = refl
is_merged_lem element e = absurd (false≢true e)
is_merged_lem dense e = absurd (false≢true e)

pub is_dense_lem : (k : Kind) → is_dense k ≡ true → k ≡ dense
is_dense_lem variable e = absurd (false≢true e)
is_dense_lem merged e = absurd (false≢true e)
is_dense_lem element e = absurd (false≢true e)
is_dense_lem dense e = refl

is_child : (p : ℕ) (o : Option ℕ) → is_child_of p o ≡ true → o ≡ some p
is_child p none e = absurd (false≢true e)
is_child p (some q) e = ap some (sym (eqb-true p q e))

is_none_lem : (o : Option ℕ) → is_none o ≡ true → o ≡ none
is_none_lem none e = refl
is_none_lem (some q) e = absurd (false≢true e)

-- ---- the largest child last

biggest_in : (size : ℕ → ℕ) (b : ℕ) (es : List ℕ) → In (biggest size b es) (b ∷ es)
unfolding biggest
biggest_in size b es =
    foldl_keeps (λ x. In x (b ∷ es)) (λ x. In x (b ∷ es)) (λ a e. cond (leb (size a) (size e)) e a)
    (λ x e q r. cond_has (λ z. In z (b ∷ es)) (leb (size x) (size e)) (λ t. q) (λ t. r)) es b
    (all_in (λ x. In x (b ∷ es)) es (λ x h. member_there x b es h)) (member_first b b es refl)

pub in_big_last : (size : ℕ → ℕ) (c : ℕ) (es : List ℕ) → In c (big_last size es) → In c es
unfolding big_last delete
in_big_last size c [] h = h
in_big_last size c (e ∷ es) h =
    or_elim (In c (e ∷ es)) (append_either c (delete (biggest size e es) (e ∷ es)) (biggest size e es ∷ []) h)
    (λ k. (kept_both c _ (e ∷ es) k).1)
    (λ k. or_elim (In c (e ∷ es)) (member_either c (biggest size e es) [] k) (λ q. rw q (biggest_in size e es)) (λ q. no_member c q))

pub big_last_in : (size : ℕ → ℕ) (c : ℕ) (es : List ℕ) → In c es → In c (big_last size es)
unfolding big_last delete
big_last_in size c [] h = h
big_last_in size c (e ∷ es) h =
    either (In c (delete (biggest size e es) (e ∷ es) ++ (biggest size e es ∷ []))) (eqb (biggest size e es) c)
    (λ t. member_right c (delete (biggest size e es) (e ∷ es)) (biggest size e es ∷ []) (member_first c (biggest size e es) [] (sym (eqb-true (biggest size e es) c t))))
    (λ t. member_left c (delete (biggest size e es) (e ∷ es)) (biggest size e es ∷ []) (member_kept c (λ y. not (eqb (biggest size e es) y)) (e ∷ es) (rw t) h))

-- ---- of a graph

module _ (g : Graph) where
  pub record Child (p c : ℕ) : Type 0 where
    pub inside : c < row_count g
    pub made : kind g c ≡ element
    pub below : parent g c ≡ some p

  pub children_in : (p c : ℕ) → In c (children_of g p) → Child p c
  unfolding children_of
  children_in p c h =
      let r = kept_both c (λ e. is_element (kind g e) && is_child_of p (parent g e)) (up_to (row_count g)) h in
      record {
        inside = up_to_below c (row_count g) r.1;
        made = is_element_lem (kind g c) (and_left (is_element (kind g c)) (is_child_of p (parent g c)) r.0);
        below = is_child p (parent g c) (and_right (is_element (kind g c)) (is_child_of p (parent g c)) r.0);
      }

  pub in_children : (p c : ℕ) → Child p c → In c (children_of g p)
  unfolding children_of
  in_children p c h =
      member_kept c (λ e. is_element (kind g e) && is_child_of p (parent g e)) (up_to (row_count g)) (rw (h.made, h.below) (eq-eqb p p refl)) (member_up_to c (row_count g) h.inside)

  pub roots_in : (r : ℕ) → In r (roots g) → (r < row_count g) × (kind g r ≡ element)
  unfolding roots
  roots_in r h =
      let k = kept_both r (λ e. is_element (kind g e) && is_none (parent g e)) (up_to (row_count g)) h in
      (up_to_below r (row_count g) k.1, is_element_lem (kind g r) (and_left (is_element (kind g r)) (is_none (parent g r)) k.0))

  -- ---- blocks and dense rows

  pub dense_in : (v : ℕ) → In v (dense_rows g) → (v < row_count g) × (kind g v ≡ dense)
  unfolding dense_rows
  dense_in v h = let k = kept_both v (λ x. is_dense (kind g x)) (up_to (row_count g)) h in (up_to_below v (row_count g) k.1, is_dense_lem (kind g v) k.0)

  pub in_dense : (v : ℕ) → v < row_count g → kind g v ≡ dense → In v (dense_rows g)
  unfolding dense_rows
  in_dense v l q = member_kept v (λ x. is_dense (kind g x)) (up_to (row_count g)) (rw q) (member_up_to v (row_count g) l)

  pub data OfBlock (e v : ℕ) : Type 0 where
    joined : v < row_count g → kind g v ≡ merged → e ≡ rep g v → OfBlock e v
    its_row : v ≡ e → OfBlock e v

  pub block_in : (e v : ℕ) → In v (block_of g e) → OfBlock e v
  unfolding block_of merged_with
  block_in e v h =
      or_elim (OfBlock e v) (append_either v (merged_with g e) (e ∷ []) h)
      (λ k. let r = kept_both v (λ x. is_merged (kind g x) && eqb e (rep g x)) (up_to (row_count g)) k in
      joined (up_to_below v (row_count g) r.1) (is_merged_lem (kind g v) (and_left (is_merged (kind g v)) (eqb e (rep g v)) r.0))
      (eqb-true e (rep g v) (and_right (is_merged (kind g v)) (eqb e (rep g v)) r.0)))
      (λ k. or_elim (OfBlock e v) (member_either v e [] k) (λ q. its_row q) (λ q. no_member v q))

  pub own_in : (e : ℕ) → In e (block_of g e)
  unfolding block_of
  own_in e = member_right e (merged_with g e) (e ∷ []) (member_first e e [] refl)
