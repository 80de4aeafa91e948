-- What the model does to the marks, and that it does nothing else: each mark goes its own way, row by row.
-- Assumes nothing.
use Rattle.std.proofs.Common.{◌≡◌, ℕ, ◌+◌, ◌-◌, ◌^◌, ◌<◌, ◌≤◌, false, cond, ◌||◌, eqb, ltb, leb, ◌≢◌, ◌⊎◌, List, [], ◌∷◌, length, ℤ, refl, ap, ◌∙◌, inl, inr, arith, eq-eqb, ne_eqb, le-leb}
use mathlib.Core.List.{foldl}
use Rattle.plain.proofs.Logic.{cond_has, either}
use Rattle.plain.proofs.Members.{member_here, member_there}
use Rattle.plain.proofs.Turns.{times_fold, times_keeps}
use Rattle.plain.specs.Lists.{member}
use Rattle.plain.specs.Members.{Distinct, In}
use Rattle.plain.specs.Turns.{entries, times}
use Rattle.cells.proofs.Fields.{length_up, rd_null, rd_up_same, room_up}
use Rattle.cells.proofs.Laws.{parent_up_field, rd_up_cell', rd_up_field}
use Rattle.cells.proofs.Rows.{clipped_part}
use Rattle.cells.proofs.Slices.{same?, split}
use Rattle.cells.specs.Layout.{DEGREE, ELEN, NV, PE, W}
use Rattle.cells.specs.Rows.{clipped}
use Rattle.cells.specs.View.{Room, at, rd, up}
use Rattle.sizing.specs.Counters.{begun, counted, lessened, passing}
use Rattle.sizing.specs.Sizes.{Kept, Listed}
use Rattle.sizing.specs.Model.{sized_all, sized_at, sized_element, sized_first, sized_list, sized_of, sized_part, sized_row}

-- ---- what a mark leaves as it is stays, whatever is marked

module _ (n : ℕ) (P : List ℤ → Type 0) (put : (s : List ℤ) (e v : ℕ) → P s → P (up n W s e v)) where
  module _ (weight flag : ℕ) where
    marked_first : (x : ℕ) (s : List ℤ) → P s → P (sized_first n weight flag x s)
    unfolding sized_first
    marked_first x s h = cond_has P (ltb (rd n DEGREE s x + (flag - weight)) (2 ^ 63)) (λ a. put s x (rd n DEGREE s x + (flag - weight)) h) (λ a. h)

    marked_element : (x : ℕ) (s : List ℤ) → P s → P (sized_element n weight flag x s)
    unfolding sized_element
    marked_element x s h =
        cond_has P (leb flag (rd n W s x)) (λ a. put s x (rd n W s x - weight) h) (λ a. cond_has P (ltb 0 (rd n W s x)) (λ b. marked_first x s h) (λ b. h))

  module _ (l : List ℤ) (flag : ℕ) where
    marked_part : (weight p k : ℕ) (s : List ℤ) → P s → P (sized_part n l weight flag p k s)
    unfolding sized_part sized_at
    marked_part weight p k s h =
        times_keeps (λ _ t. P t) (λ t. sized_at n l weight flag (p + t)) k (λ j t _ g. marked_element weight flag (at l (p + j)) t g) k s (omega arith) h

    marked_of : (i : ℕ) (s : List ℤ) → P s → P (sized_of n l flag i s)
    unfolding sized_of sized_list
    marked_of i s h =
        let weight = rd n NV s i in
        let p = rd n PE s i in
        let k = rd n ELEN s i in
        cond_has P (leb (p + k) (length l)) (λ a. cond_has P (leb weight flag) (λ b. marked_part weight p k s h) (λ b. h)) (λ a. h)

    marked_turns : (from k : ℕ) (s : List ℤ) → P s → P (times k (λ t. sized_row n l flag (from + t)) s)
    unfolding sized_row
    marked_turns from k s h = times_keeps (λ _ t. P t) (λ t. sized_row n l flag (from + t)) k (λ j t _ g. marked_of (at l (from + j)) t g) k s (omega arith) h

-- so does a weight: the one that a turn adds is that of the memory before the loop
pub weight_stays : (n : ℕ) (l s t : List ℤ) (flag from k i : ℕ) → t ≡ times k (λ j. sized_row n l flag (from + j)) s → rd n NV t i ≡ rd n NV s i
weight_stays n l s t flag from k i e =
    rw e (marked_turns n (λ t. rd n NV t i ≡ rd n NV s i) (λ t e v h. rd_up_field n W NV t e v i refl ∙ h) l flag from k s refl)

module _ (n : ℕ) where
  pub kept_none : (s : List ℤ) → Room n s → Kept n s s
  kept_none s r = record { fields = λ c i e. refl; parents = λ i. refl; length = refl; room = r }

  pub kept_more : (s t u : List ℤ) → Kept n s t → Kept n t u → Kept n s u
  kept_more s t u a b =
      record {
        fields = λ c i e. b.fields c i e ∙ a.fields c i e;
        parents = λ i. b.parents i ∙ a.parents i;
        length = b.length ∙ a.length;
        room = b.room;
      }

  kept_up : (s : List ℤ) (e v : ℕ) → Room n s → Kept n s (up n W s e v)
  kept_up s e v r =
      record {
        fields = λ c i h. rd_up_field n W c s e v i h;
        parents = λ i. parent_up_field n W s e v i refl;
        length = length_up n W s e v;
        room = room_up n W s e v r;
      }

  kept_put : (s t : List ℤ) (e v : ℕ) → Kept n s t → Kept n s (up n W t e v)
  kept_put s t e v k = kept_more s t (up n W t e v) k (kept_up t e v k.room)

  -- ---- one element

  module _ (weight flag : ℕ) where
    pub kept_element_lem : (x : ℕ) (s : List ℤ) → Room n s → Kept n s (sized_element n weight flag x s)
    kept_element_lem x s r = marked_element n (Kept n s) (kept_put s) weight flag x s (kept_none s r)

    -- another mark
    apart_first : (x e : ℕ) (s : List ℤ) → e ≢ x → rd n W (sized_first n weight flag x s) e ≡ rd n W s e
    unfolding sized_first
    apart_first x e s d =
        cond_has (λ (t : List ℤ). rd n W t e ≡ rd n W s e) (ltb (rd n DEGREE s x + (flag - weight)) (2 ^ 63))
        (λ a. rd_up_cell' n W W s x (rd n DEGREE s x + (flag - weight)) e d) (λ a. refl)

    apart_element : (x e : ℕ) (s : List ℤ) → e ≢ x → rd n W (sized_element n weight flag x s) e ≡ rd n W s e
    unfolding sized_element
    apart_element x e s d =
        cond_has (λ (t : List ℤ). rd n W t e ≡ rd n W s e) (leb flag (rd n W s x))
        (λ a. rd_up_cell' n W W s x (rd n W s x - weight) e d)
        (λ a. cond_has (λ (t : List ℤ). rd n W t e ≡ rd n W s e) (ltb 0 (rd n W s x)) (λ b. apart_first x e s d) (λ b. refl))

    -- its own
    own_first : (x : ℕ) (s : List ℤ) → Room n s → x < n → rd n W (sized_first n weight flag x s) x ≡ begun flag weight (rd n DEGREE s x) (rd n W s x)
    unfolding sized_first begun
    own_first x s r h =
        either
        (rd n W (cond (ltb (rd n DEGREE s x + (flag - weight)) (2 ^ 63)) (up n W s x (rd n DEGREE s x + (flag - weight))) s) x
        ≡ cond (ltb (rd n DEGREE s x + (flag - weight)) (2 ^ 63)) (rd n DEGREE s x + (flag - weight)) (rd n W s x))
        (ltb (rd n DEGREE s x + (flag - weight)) (2 ^ 63))
        (λ a. rw a (rd_up_same n W s x (rd n DEGREE s x + (flag - weight)) (omega arith) r h))
        (λ a. rw a)

    own_element : (x : ℕ) (s : List ℤ) → Room n s → x < n → rd n W (sized_element n weight flag x s) x ≡ lessened flag weight (rd n DEGREE s x) (rd n W s x)
    unfolding sized_element lessened
    own_element x s r h =
        either
        (rd n W (cond (leb flag (rd n W s x)) (up n W s x (rd n W s x - weight)) (cond (ltb 0 (rd n W s x)) (sized_first n weight flag x s) s)) x
        ≡ cond (leb flag (rd n W s x)) (rd n W s x - weight) (cond (ltb 0 (rd n W s x)) (begun flag weight (rd n DEGREE s x) (rd n W s x)) (rd n W s x)))
        (leb flag (rd n W s x))
        (λ a. rw a (rd_up_same n W s x (rd n W s x - weight) (omega arith) r h))
        (λ a. rw a
        (either
        (rd n W (cond (ltb 0 (rd n W s x)) (sized_first n weight flag x s) s) x ≡ cond (ltb 0 (rd n W s x)) (begun flag weight (rd n DEGREE s x) (rd n W s x)) (rd n W s x))
        (ltb 0 (rd n W s x))
        (λ b. rw b (own_first x s r h))
        (λ b. rw b)))

    -- where there is no such row
    outside_element : (x : ℕ) (s : List ℤ) → n ≤ x → rd n W (sized_element n weight flag x s) x ≡ lessened flag weight (rd n DEGREE s x) (rd n W s x)
    unfolding lessened
    outside_element x s h =
        rw (rd_null n W (sized_element n weight flag x s) x (omega arith) h, rd_null n W s x (omega arith) h)
        (cond_has (λ (y : ℕ). 0 ≡ y) (leb flag 0) (λ a. omega arith) (λ a. refl))

    own : (x : ℕ) (s : List ℤ) → Room n s → rd n W (sized_element n weight flag x s) x ≡ lessened flag weight (rd n DEGREE s x) (rd n W s x)
    own x s r = by_size (split x n)
      where
        by_size : (x < n) ⊎ (n ≤ x) → rd n W (sized_element n weight flag x s) x ≡ lessened flag weight (rd n DEGREE s x) (rd n W s x)
        by_size (inl h) = own_element x s r h
        by_size (inr h) = outside_element x s h

    -- ---- the elements of a list

    abbrev part_fold : List ℤ → List ℕ → List ℤ
    part_fold s es = foldl (λ a x. sized_element n weight flag x a) s es

    -- one more at the front
    part_more : (e x : ℕ) (es : List ℕ) (s : List ℤ) (m : ℕ) → Room n s → member x es ≡ false → (e ≡ x) ⊎ (e ≢ x)
        → m ≡ cond (member e es) (lessened flag weight (rd n DEGREE (sized_element n weight flag x s) e) (rd n W (sized_element n weight flag x s) e)) (rd n W (sized_element n weight flag x s) e)
        → m ≡ cond (eqb e x || member e es) (lessened flag weight (rd n DEGREE s e) (rd n W s e)) (rd n W s e)
    part_more e x es s m r d (inl q) later =
        let z : member e es ≡ false = ap (λ (y : ℕ). member y es) q ∙ d in
        let o : rd n W (sized_element n weight flag x s) e ≡ lessened flag weight (rd n DEGREE s e) (rd n W s e) = rw q (own x s r) in
        rw (eq-eqb e x q) (later ∙ rw z o)
    part_more e x es s m r d (inr q) later = rw (ne_eqb e x q) (later ∙ rw (apart_element x e s q, (kept_element_lem x s r).fields DEGREE e refl))

    mark_part : (e : ℕ) (es : List ℕ) (s : List ℤ) → Room n s → Distinct es
        → rd n W (part_fold s es) e ≡ cond (member e es) (lessened flag weight (rd n DEGREE s e) (rd n W s e)) (rd n W s e)
    unfolding member
    mark_part e [] s r d = refl
    mark_part e (x ∷ es) s r d =
        part_more e x es s (rd n W (part_fold (sized_element n weight flag x s) es) e) r d.0 (same? e x)
        (mark_part e es (sized_element n weight flag x s) (kept_element_lem x s r).room d.1)

-- ---- the elements of the rows

module _ (n : ℕ) (l : List ℤ) (flag : ℕ) where
  part_fold_lem : (weight p k : ℕ) (s : List ℤ) → sized_part n l weight flag p k s ≡ part_fold n weight flag s (entries (at l) p k)
  unfolding sized_part sized_at
  part_fold_lem weight p k s = times_fold (λ e a. sized_element n weight flag e a) (at l) p k s

  -- of an empty list nothing is asked
  list_fold : (weight p k : ℕ) (s : List ℤ) → weight ≤ flag → (0 < k → p + k ≤ length l) → sized_list n l weight flag p k s ≡ part_fold n weight flag s (entries (at l) p k)
  unfolding sized_list entries
  list_fold weight p k s w b = by_size (split 0 k)
    where
      none : k ≡ 0 → s ≡ part_fold n weight flag s (entries (at l) p k)
      none z = rw z

      by_size : (0 < k) ⊎ (k ≤ 0) → cond (leb (p + k) (length l)) (cond (leb weight flag) (sized_part n l weight flag p k s) s) s ≡ part_fold n weight flag s (entries (at l) p k)
      by_size (inl h) = rw (le-leb (p + k) (length l) (b h), le-leb weight flag w) (part_fold_lem weight p k s)
      by_size (inr h) =
          rw (le-leb weight flag w)
          (cond_has (λ (t : List ℤ). t ≡ part_fold n weight flag s (entries (at l) p k)) (leb (p + k) (length l)) (λ a. part_fold_lem weight p k s) (λ a. none (omega arith)))

  of_fold : (i : ℕ) (s : List ℤ) (es : List ℕ) → rd n NV s i ≤ flag → (0 < rd n ELEN s i → rd n PE s i + rd n ELEN s i ≤ length l)
      → entries (at l) (rd n PE s i) (rd n ELEN s i) ≡ es → sized_of n l flag i s ≡ part_fold n (rd n NV s i) flag s es
  unfolding sized_of
  of_fold i s es w b h = list_fold (rd n NV s i) (rd n PE s i) (rd n ELEN s i) s w b ∙ ap (part_fold n (rd n NV s i) flag s) h

  turns_fold : (from k : ℕ) (s : List ℤ) → times k (λ t. sized_row n l flag (from + t)) s ≡ foldl (λ a i. sized_of n l flag i a) s (entries (at l) from k)
  unfolding sized_row
  turns_fold from k s = times_fold (λ i a. sized_of n l flag i a) (at l) from k s

  pub all_fold : (from k : ℕ) (s : List ℤ) (new : List ℕ) → (0 < k → from + k ≤ length l) → entries (at l) from k ≡ new → sized_all n l flag from k s ≡ foldl (λ a i. sized_of n l flag i a) s new
  unfolding sized_all
  all_fold from k s new b h =
      turns_fold from (clipped (length l) from k) s
      ∙ ap (λ (j : ℕ). foldl (λ a i. sized_of n l flag i a) s (entries (at l) from j)) (clipped_part (length l) from k b)
      ∙ ap (foldl (λ a i. sized_of n l flag i a) s) h

  kept_of : (i : ℕ) (s : List ℤ) → Room n s → Kept n s (sized_of n l flag i s)
  kept_of i s r = marked_of n (Kept n s) (kept_put n s) l flag i s (kept_none n s r)

  pub kept_all_lem : (from k : ℕ) (s : List ℤ) → Room n s → Kept n s (sized_all n l flag from k s)
  unfolding sized_all
  kept_all_lem from k s r = marked_turns n (Kept n s) (kept_put n s) l flag from (clipped (length l) from k) s (kept_none n s r)

  module _ (s : List ℤ) (E : ℕ → List ℕ) (e : ℕ) where
    mark_of : (t : List ℤ) → Kept n s t → (i : ℕ) → rd n NV s i ≤ flag → (0 < rd n ELEN s i → rd n PE s i + rd n ELEN s i ≤ length l) → entries (at l) (rd n PE s i) (rd n ELEN s i) ≡ E i → Distinct (E i)
        → rd n W (sized_of n l flag i t) e ≡ passing flag E (rd n NV s) (rd n DEGREE s e) e (rd n W t e) i
    mark_of t k i w b h d =
        let w' : rd n NV t i ≤ flag = rw (k.fields NV i refl) w in
        let b' : 0 < rd n ELEN t i → rd n PE t i + rd n ELEN t i ≤ length l = rw (k.fields PE i refl, k.fields ELEN i refl) b in
        let h' : entries (at l) (rd n PE t i) (rd n ELEN t i) ≡ E i = rw (k.fields PE i refl, k.fields ELEN i refl) h in
        rw (of_fold i t (E i) w' b' h', ← k.fields NV i refl, ← k.fields DEGREE e refl) (mark_part n (rd n NV t i) flag e (E i) t k.room d)

    mark_rows : (new : List ℕ) (t : List ℤ) → Kept n s t → Listed n l s E new → ((i : ℕ) → In i new → rd n NV s i ≤ flag)
        → rd n W (foldl (λ a i. sized_of n l flag i a) t new) e ≡ foldl (passing flag E (rd n NV s) (rd n DEGREE s e) e) (rd n W t e) new
    mark_rows [] t k h w = refl
    mark_rows (i ∷ new) t k h w =
        let a = h i (member_here i new) in
        mark_rows new (sized_of n l flag i t) (kept_more n s t (sized_of n l flag i t) k (kept_of i t k.room)) (λ j m. h j (member_there j i new m)) (λ j m. w j (member_there j i new m))
        ∙ ap (λ (y : ℕ). foldl (passing flag E (rd n NV s) (rd n DEGREE s e) e) y new) (mark_of t k i (w i (member_here i new)) a.2 a.0 a.1)

    -- each mark goes its own way
    pub mark_all_lem : (from k : ℕ) (new : List ℕ) → (0 < k → from + k ≤ length l) → entries (at l) from k ≡ new → Room n s → Listed n l s E new
        → ((i : ℕ) → In i new → rd n NV s i ≤ flag) → rd n W (sized_all n l flag from k s) e ≡ counted flag E (rd n NV s) (rd n DEGREE s e) e new (rd n W s e)
    unfolding counted
    mark_all_lem from k new b m r h w = rw (all_fold from k s new b m) (mark_rows new s (kept_none n s r) h w)
