-- Step 6 in the memory, against the definition's `placed` and `as_element`: `placed_rest`, `placed_chained`, `placed_least`, `placed_trimmed`, `placed_flagged`.
-- Assumes nothing.
use Prim.Native.Nat.{ℕ, ◌+◌, ◌≤◌, ◌<◌, ◌^◌}
use native.Mathlib.Omega.{arith}
use mathlib.Core.Path.{◌≡◌, refl, sym, ap, ◌∙◌, subst, subst⁻¹}
use mathlib.Core.Logic.{◌≢◌, ◌⊎◌, inl, inr, ⊎_elim}
use mathlib.Core.Bool.{Bool, true, false, cond, not, ◌&&◌}
use mathlib.Core.List.{List, [], ◌∷◌, foldl}
use mathlib.Core.Option.{Option, none, some}
use lib.Dec.{eqb, ltb}
use lib.IntN.{ℤ}
use lib.ListN.{length, get_or}
use Rattle.plain.proofs.Entries.{upd_same, upd_other}
use Rattle.plain.proofs.Logic.{and_no, clash}
use Rattle.plain.proofs.Members.{member_here, member_there, member_nil, not_cons, apart, not_kept, keep_same}
use Rattle.plain.proofs.Repeats.{length_keep}
use Rattle.plain.proofs.Turns.{times_fold}
use Rattle.plain.specs.Lists.{member, keep, is_none}
use Rattle.plain.specs.Members.{In, Distinct}
use Rattle.plain.specs.Turns.{entries, upd}
use Rattle.definition.specs.State.{Graph, Kind, kind, weight, degree, has_weight, live, is_variable, is_merged, queue_of}
use Rattle.definition.specs.State as state
use Rattle.definition.specs.Place.{Placed, placed, as_element}
use Rattle.facts.proofs.Placing.{element_weights, element_degree_other}
use Rattle.facts.proofs.Sizes.{sized_as_element}
use Rattle.facts.specs.Invariant.{Sized}
use Rattle.cells.proofs.Rows.{clipped_part}
use Rattle.cells.proofs.Slices.{plus_sum, same?, split}
use Rattle.cells.specs.Layout.{LEN, WANT, ELEN, DEGREE, W, PE, NEXT, LAST, HEAD, NV, ORD, MERGES}
use Rattle.cells.specs.Links.{parent}
use Rattle.cells.specs.View.{at, rd, plus}
use Rattle.chain.specs.Chained.{Chained}
use Rattle.packed.proofs.Frame.{ends, inside_space, len_of}
use Rattle.packed.proofs.Keeping.{kept_by, kept_part_lem, space_kept}
use Rattle.packed.proofs.Spaces.{space_lowered, space_same, space_renamed}
use Rattle.packed.specs.Gather.{Cut, kept_part}
use Rattle.packed.specs.Places.{Owns, Space, places}
use Rattle.drawn.specs.Drawn.{list_of, Rest, Within}
use Rattle.drawn.specs.Flags.{Flagged}
use Rattle.drawn.specs.Log.{Logged}
use Rattle.placing.specs.Model.{Spot, spot, placed_one, placed_all, finished}
use Rattle.placing.proofs.Becoming.{Became, became, no_variable, var_apart, flagged_by, logged_by}
use Rattle.placing.proofs.Element.{finished_field, finished_other, finished_parent_other, finished_length, finished_degree, finished_size, finished_there, finished_gone, finished_place, finished_orphan, finished_chained, finished_space}
use Rattle.placing.proofs.Survivors.{Halfway, survivors_placed}

-- what step 6 begins with: the graph g, in which the pivot p has all of its pivots, the new element's rows, and the degree lists qs without them
pub record Ready (n : ℕ) (g : Graph) (p : ℕ) (new : List ℕ) (qs : List (List ℕ)) : Type 0 where
  pub sized : Sized n g
  pub inside : p < n
  pub heavy : has_weight g p ≡ true
  pub orphan : live g p ≡ true
  pub once : Distinct new
  pub outside : member p new ≡ false
  pub below : (v : ℕ) → In v new → v < n
  pub variables : (v : ℕ) → In v new → has_weight g v ≡ true → is_variable (kind g v) ≡ true
  pub queues : length qs ≡ n
  pub fresh : (v e : ℕ) → In v (p ∷ new) → e < n → member v (queue_of qs e) ≡ false

no_parent : (o : Option ℕ) → is_none o ≡ true → o ≡ none
no_parent none e = refl
no_parent (some x) e = clash false e refl

module _ (n : ℕ) (l s : List ℤ) (g : Graph) (p : ℕ) (new : List ℕ) (cnt base lim : ℕ) (h : Within n l s g p new cnt base lim)
    (qs : List (List ℕ)) (ready : Ready n g p new qs) (chained : Chained n s (queue_of qs)) (left size : ℕ) (few : left ≤ n) (d : ℕ) where
  abbrev X : ℕ → List ℕ
  X = upd (list_of g) p new

  abbrev survivors : List ℕ
  survivors = keep (has_weight g) new

  abbrev start : Placed
  start = record { graph = as_element p survivors size g; queues = qs; least = d }

  -- the definition's
  abbrev q : Placed
  q = placed left size survivors start

  -- the code's: after the survivors are placed, after they are kept, after the element is finished
  abbrev m1 : Spot
  m1 = placed_all n size left l (rd n PE s p) (rd n LEN s p) (spot s d)

  abbrev s1 : List ℤ
  s1 = m1.mem

  abbrev kept : Cut
  kept = kept_part n NV s (rd n PE s p) (rd n LEN s p) l

  abbrev s2 : List ℤ
  s2 = finished n s1 p size kept.count

  apart_p : (v : ℕ) → In v new → v ≢ p
  apart_p v i e = apart p v new ready.outside i (sym e)

  -- ---- the loop

  begun : Halfway n p g s (spot s d) start new
  begun =
      record {
        room = h.space.room;
        chained = chained;
        size = ready.queues;
        wide = (sized_as_element p survivors size g ready.sized).degrees;
        least = refl;
        weights = λ v. ap (λ (w : List ℕ). get_or w v 0) (element_weights p survivors size g);
        degrees = λ v hv ne. h.degrees v hv ∙ sym (element_degree_other p survivors size g v ne);
        wants = h.wants;
        fresh = λ v e i he. ready.fresh v e (member_there v p new i) he;
        out = λ e he. ready.fresh p e (member_here p new) he;
        fields = λ f v a b c x y. refl;
        parents = λ v. refl;
      }

  rows : entries (at l) (rd n PE s p) (rd n LEN s p) ≡ new
  rows = h.space.lists.lists p ∙ upd_same (list_of g) p new

  loop : m1 ≡ foldl (λ x v. placed_one n size left v x) (spot s d) new
  unfolding placed_all
  loop =
      rw (clipped_part (length l) (rd n PE s p) (rd n LEN s p) (inside_space l (places n s) lim X h.space.lists p))
      (times_fold (placed_one n size left) (at l) (rd n PE s p) (rd n LEN s p) (spot s d) ∙ ap (foldl (λ x v. placed_one n size left v x) (spot s d)) rows)

  half : Halfway n p g s m1 q []
  half =
      subst⁻¹ (λ (x : Spot). Halfway n p g s x q []) loop
      (survivors_placed n p g s left size few h.weights new ready.once ready.below apart_p ready.variables (spot s d) start begun)

  -- the remembered least degree
  pub placed_least : m1.least ≡ q.least
  placed_least = half.least

  -- the degree lists
  pub placed_chained : Chained n s2 (queue_of q.queues)
  placed_chained = finished_chained n s1 p size kept.count (queue_of q.queues) half.chained half.out

  -- ---- the graph after it

  abbrev t : Graph
  t = q.graph

  row : Became g t p survivors size
  row = became n g p survivors left size d qs ready.sized ready.inside (not_kept p (has_weight g) new ready.outside)

  -- ---- the fields

  want_one : (v : ℕ) → v < n → v ≢ p → rd n WANT s1 v ≡ cond (is_variable (kind g v)) (weight g v) 0
  want_one v hv ne =
      half.wants v hv ∙ ap (λ (b : Bool). cond (is_variable (kind g v) && not b) (weight g v) 0) (not_cons v p [] ne (member_nil v))
      ∙ go (is_variable (kind g v))
    where
      go : (b : Bool) → cond (b && true) (weight g v) 0 ≡ cond b (weight g v) 0
      go true = refl
      go false = refl

  want_p : rd n WANT s1 p ≡ 0
  want_p =
      half.wants p ready.inside ∙ ap (λ (b : Bool). cond (is_variable (kind g p) && not b) (weight g p) 0) (member_here p [])
      ∙ ap (λ (b : Bool). cond b (weight g p) 0) (and_no (is_variable (kind g p)))

  want_at : (v : ℕ) → v < n → (v ≡ p) ⊎ (v ≢ p) → rd n WANT s1 v ≡ cond (is_variable (kind t v) && true) (weight t v) 0
  want_at v hv (inl e) =
      subst⁻¹ (λ (x : ℕ). rd n WANT s1 x ≡ cond (is_variable (kind t x) && true) (weight t x) 0) e
      (want_p ∙ sym (ap (λ (b : Bool). cond (b && true) (weight t p) 0) (no_variable row)))
  want_at v hv (inr ne) =
      want_one v hv ne ∙ go (is_variable (kind g v)) ∙ sym (ap (λ (k : Kind). cond (is_variable k && true) (weight g v) 0) (row.kinds v ne))
      ∙ sym (ap (λ (w : ℕ). cond (is_variable (kind t v) && true) w 0) (row.weights v))
    where
      go : (b : Bool) → cond b (weight g v) 0 ≡ cond (b && true) (weight g v) 0
      go true = refl
      go false = refl

  -- who survives
  survives : (v : ℕ) → In v new → ltb 0 (rd n NV s1 v) ≡ has_weight g v
  survives v i = ap (ltb 0) (half.fields NV v refl refl refl refl refl ∙ h.weights v (ready.below v i))

  -- ---- the lists

  space1 : Space n X l s1 cnt base lim
  space1 =
      space_same n X l s cnt base lim h.space s1 half.room (λ i. half.fields PE i refl refl refl refl refl) (λ i. half.fields LEN i refl refl refl refl refl)
      (λ i. half.fields ORD i refl refl refl refl refl)

  kept_same : kept_part n NV s1 (rd n PE s1 p) (rd n LEN s1 p) l ≡ kept
  kept_same =
      rw (half.fields PE p refl refl refl refl refl, half.fields LEN p refl refl refl refl refl)
      (kept_by n NV s s1 l (rd n PE s p) (rd n LEN s p) (λ v. half.fields NV v refl refl refl refl refl))

  space2 : Space n (upd X p (keep (λ v. ltb 0 (rd n NV s1 v)) (X p))) kept.lists s2 cnt base lim
  space2 =
      finished_space n s1 p size kept.count _ kept.lists cnt base lim half.room ready.inside
      (subst (λ (c : Cut). Space n (upd X p (keep (λ v. ltb 0 (rd n NV s1 v)) (X p))) c.lists (Rattle.cells.specs.View.up n LEN s1 p c.count) cnt base lim) kept_same
      (space_kept n X l s1 cnt base lim space1 NV p ready.inside))

  list_p : list_of t p ≡ survivors
  unfolding list_of
  list_p = rw (row.weights p, row.parents p, ready.heavy, ready.orphan, row.own_elements) row.own_variables

  list_t : (v : ℕ) → v ≢ p → list_of g v ≡ list_of t v
  unfolding list_of
  list_t v ne = rw (row.weights v, row.parents v, row.elements v ne, row.variables v ne)

  list_at : (v : ℕ) → (v ≡ p) ⊎ (v ≢ p) → upd X p (keep (λ v. ltb 0 (rd n NV s1 v)) (X p)) v ≡ list_of t v
  list_at v (inl e) =
      subst⁻¹ (λ (x : ℕ). upd X p (keep (λ v. ltb 0 (rd n NV s1 v)) (X p)) x ≡ list_of t x) e
      (upd_same X p (keep (λ v. ltb 0 (rd n NV s1 v)) (X p)) ∙ ap (keep (λ v. ltb 0 (rd n NV s1 v))) (upd_same (list_of g) p new)
      ∙ keep_same (λ v. ltb 0 (rd n NV s1 v)) (has_weight g) new survives ∙ sym list_p)
  list_at v (inr ne) = upd_other X p _ v ne ∙ upd_other (list_of g) p new v ne ∙ list_t v ne

  space3 : Space n (list_of t) kept.lists s2 cnt base lim
  space3 = space_renamed n _ kept.lists s2 cnt base lim space2 (list_of t) (λ v. list_at v (same? v p))

  -- how many survive
  pub placed_count : kept.count ≡ length survivors
  placed_count =
      sym (finished_length n s1 p size kept.count half.room ready.inside) ∙ len_of kept.lists (places n s2) lim (list_of t) space3.lists p ∙ ap length list_p

  degree_at : (v : ℕ) → v < n → (v ≡ p) ⊎ (v ≢ p) → rd n DEGREE s2 v ≡ degree t v
  degree_at v hv (inl e) =
      subst⁻¹ (λ (x : ℕ). rd n DEGREE s2 x ≡ degree t x) e (finished_degree n s1 p size kept.count half.room ready.inside ∙ sym row.own_degree)
  degree_at v hv (inr ne) = finished_other n s1 p size kept.count DEGREE v ne ∙ half.degrees v hv ne

  parent_at : (v : ℕ) → v < n → rd n LEN s2 v ≡ 0 → (v ≡ p) ⊎ (v ≢ p) → parent n s2 v ≡ state.parent t v
  parent_at v hv z (inl e) =
      let c : kept.count ≤ 0 = omega (arith, finished_length n s1 p size kept.count half.room ready.inside, ap (rd n LEN s2) e) in
      subst⁻¹ (λ (x : ℕ). parent n s2 x ≡ state.parent t x) e
      (finished_orphan n s1 p size kept.count half.room ready.inside c ∙ sym (no_parent (state.parent g p) ready.orphan) ∙ sym (row.parents p))
  parent_at v hv z (inr ne) =
      finished_parent_other n s1 p size kept.count v ne ∙ half.parents v
      ∙ h.parents v hv (sym (half.fields LEN v refl refl refl refl refl) ∙ sym (finished_other n s1 p size kept.count LEN v ne) ∙ z)
      ∙ sym (row.parents v)

  -- THE refinement: the memory holds the definition's graph after step 6
  pub placed_rest : Rest n kept.lists s2 t cnt base lim
  placed_rest =
      record {
        space = space3;
        weights = λ v hv. finished_field n s1 p size kept.count NV v refl refl refl refl refl ∙ half.fields NV v refl refl refl refl refl ∙ h.weights v hv ∙ sym (row.weights v);
        wants = λ v hv. finished_field n s1 p size kept.count WANT v refl refl refl refl refl ∙ want_at v hv (same? v p);
        elens = λ v a.
            let ne = var_apart row v a in
            finished_other n s1 p size kept.count ELEN v ne ∙ half.fields ELEN v refl refl refl refl refl ∙ h.elens v (sym (ap is_variable (row.kinds v ne)) ∙ a)
            ∙ ap length (sym (row.elements v ne));
        degrees = λ v hv. degree_at v hv (same? v p);
        parents = λ v hv z. parent_at v hv z (same? v p);
      }

  -- ---- the limit, of an element that was made behind all others

  short : kept.count ≤ rd n LEN s p
  short = omega (arith, placed_count, length_keep (has_weight g) new, len_of l (places n s) lim X h.space.lists p, ap length (upd_same (list_of g) p new))

  pub placed_trimmed : base ≤ rd n PE s p → rd n PE s p ≤ lim → ((i c : ℕ) → i ≢ p → Owns (places n s) i c → c < rd n PE s p)
      → Rest n kept.lists s2 t cnt base (rd n PE s p + kept.count)
  placed_trimmed a b o =
      let r = placed_rest in
      record {
        space = space_lowered n (list_of t) kept.lists s2 cnt base lim space3 (rd n PE s p + kept.count) (omega arith) (omega (arith, below, space3.lists.fits))
            (λ i c w. under i c w (same? i p));
        weights = r.weights;
        wants = r.wants;
        elens = r.elens;
        degrees = r.degrees;
        parents = r.parents;
      }
    where
      below : rd n PE s p + kept.count ≤ lim
      below =
          ⊎_elim (λ z. omega (arith, ends l (places n s) lim X h.space.lists p z, short)) (λ z. omega (arith, short)) (split 0 (rd n LEN s p))

      under : (i c : ℕ) → Owns (places n s2) i c → (i ≡ p) ⊎ (i ≢ p) → c < rd n PE s p + kept.count
      under i c w (inl e) =
          let z : rd n LEN s2 i ≡ kept.count = ap (rd n LEN s2) e ∙ finished_length n s1 p size kept.count half.room ready.inside in
          let y : rd n PE s2 i ≡ rd n PE s p =
          ap (rd n PE s2) e ∙ finished_place n s1 p size kept.count half.room ready.inside (omega (arith, w.from, w.to)) ∙ half.fields PE p refl refl refl refl refl in
          omega (arith, w.to)
      under i c w (inr ne) =
          let z : rd n LEN s2 i ≡ rd n LEN s i = finished_other n s1 p size kept.count LEN i ne ∙ half.fields LEN i refl refl refl refl refl in
          let y : rd n PE s2 i ≡ rd n PE s i = finished_other n s1 p size kept.count PE i ne ∙ half.fields PE i refl refl refl refl refl in
          omega (arith, o i c ne (record { from = omega (arith, w.from); to = omega (arith, w.to) }))

  -- ---- the marks

  mark_other : (x : ℕ) → x ≢ p → rd n W s2 x ≡ rd n W s x
  mark_other x ne = finished_other n s1 p size kept.count W x ne ∙ half.fields W x refl refl refl refl refl

  mark_p : (rd n W s2 p ≤ 1) × (0 < length survivors → rd n W s2 p ≡ 1)
  mark_p = (
    ⊎_elim (λ c. omega (arith, finished_there n s1 p size kept.count half.room ready.inside c))
        (λ c. omega (arith, finished_gone n s1 p size kept.count half.room ready.inside c)) (split 0 kept.count),
    λ c. finished_there n s1 p size kept.count half.room ready.inside (omega (arith, placed_count)),
  )

  pub placed_flagged : (flag : ℕ) → 1 < flag → Flagged n s g flag → Flagged n s2 t flag
  placed_flagged flag two f = flagged_by row n s s2 flag two ready.orphan mark_other mark_p.0 mark_p.1 f

  -- ---- what else the memory keeps

  -- every field that step 6 does not write
  pub placed_fields : (f v : ℕ) → eqb HEAD f ≡ false → eqb NEXT f ≡ false → eqb LAST f ≡ false → eqb DEGREE f ≡ false → eqb WANT f ≡ false → eqb LEN f ≡ false
      → eqb ELEN f ≡ false → eqb W f ≡ false → eqb PE f ≡ false → rd n f s2 v ≡ rd n f s v
  placed_fields f v a b c x y u w i j = finished_field n s1 p size kept.count f v u x w i j ∙ half.fields f v a b c x y

  -- and those of the other rows that it writes at the pivot alone
  pub placed_others : (f v : ℕ) → v ≢ p → eqb HEAD f ≡ false → eqb NEXT f ≡ false → eqb LAST f ≡ false → eqb DEGREE f ≡ false → eqb WANT f ≡ false → rd n f s2 v ≡ rd n f s v
  placed_others f v ne a b c x y = finished_other n s1 p size kept.count f v ne ∙ half.fields f v a b c x y

  -- the element's size: its pivots and its remaining weight
  pub placed_size : weight g p + size < 2 ^ 63 → rd n ELEN s2 p ≡ weight t p + degree t p
  placed_size small =
      finished_size n s1 p size kept.count half.room ready.inside
      ∙ ap (λ (x : ℕ). plus x size) (half.fields NV p refl refl refl refl refl ∙ h.weights p ready.inside)
      ∙ plus_sum (weight g p) size small ∙ omega (arith, row.weights p, row.own_degree)

  -- the list space is as long as it was
  pub placed_long : length kept.lists ≡ length l
  placed_long =
      (kept_part_lem n NV s l (rd n PE s p) (rd n LEN s p)
      (λ z. omega (arith, ends l (places n s) lim X h.space.lists p z, h.space.lists.fits))
      ).long

  -- ---- the log of merges, where the pivot was not merged

  pub placed_logged : is_merged (kind g p) ≡ false → (ms : List ℕ) → Logged n s g ms → Logged n s2 t ms
  placed_logged a ms k = logged_by row n s s2 a (λ i. placed_fields MERGES i refl refl refl refl refl refl refl refl refl) ms k
