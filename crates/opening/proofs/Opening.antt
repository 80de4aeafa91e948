-- The start: from lists packed by rising number to what the elimination's first pivot finds, the graph and the degree lists of `started`.
-- Assumes nothing.
use Prim.Native.Nat.{ℕ, ◌+◌, ◌<◌, ◌^◌, ◌≤◌}
use native.Mathlib.Omega.{arith}
use mathlib.Core.Path.{◌≡◌, refl, sym, ap, ◌∙◌}
use mathlib.Core.Logic.{◌≢◌, ◌⊎◌, inl, inr}
use mathlib.Core.Bool.{Bool, true, false, cond, not, ◌&&◌, ◌||◌, false≢true}
use mathlib.Core.List.{List, [], ◌∷◌}
use mathlib.Core.Option.{none}
use borrow.Author.Tests.{eq-eqb, ne_eqb}
use lib.Dec.{eqb, ltb}
use lib.IntN.{ℤ}
use lib.ListN.{length, get_or, get_or-eq_default}
use Rattle.plain.proofs.Counting.{total_places}
use Rattle.plain.proofs.Entries.{entries_none}
use Rattle.plain.proofs.Members.{member_below, no_member}
use Rattle.plain.proofs.Positions.{get_or_same}
use Rattle.plain.proofs.Sums.{total_add, total_keep, total_members, total_ones}
use Rattle.plain.specs.Lists.{keep, total, up_to}
use Rattle.plain.specs.Turns.{entries}
use Rattle.definition.specs.State.{Graph, Kind, variable, merged, element, dense, at_once, dense_rows, is_dense, is_element, is_variable, kind, parent, queue_of, start_degree, start_kind, start_weight, started}
use Rattle.facts.proofs.Invariant.{var_not_merged}
use Rattle.facts.proofs.Sizes.{sized_started}
use Rattle.facts.proofs.Start.{Neighbourly, degree_is, element_empty, elements_is, kind_in, kind_inside, kind_out, live_is, start_not_merged, variables_is, weight_is}
use Rattle.cells.proofs.Fields.{rd_null}
use Rattle.cells.proofs.Slices.{same?, split}
use Rattle.cells.specs.Layout.{PE, LEN, WANT, ELEN, DEGREE, W, NEXT, LAST, HEAD, HHEAD, ORD, MERGES, NV}
use Rattle.cells.specs.View.{Room, at, rd}
use Rattle.chain.proofs.Frame.{chained_same}
use Rattle.chain.proofs.Opening.{enlisted_degrees, enlisted_other, enlisted_room, opened_start}
use Rattle.chain.specs.Chained.{Chained}
use Rattle.chain.specs.Model.{enlisted_all}
use Rattle.packed.proofs.Beginning.{space_packed}
use Rattle.packed.proofs.Packing.{live_below}
use Rattle.packed.proofs.Spaces.{space_left, space_same}
use Rattle.packed.specs.Places.{Space, sum_to}
use Rattle.drawn.specs.Drawn.{Rest, list_of}
use Rattle.drawn.specs.Flags.{Flagged}
use Rattle.drawn.specs.Log.{Logged}
use Rattle.opening.specs.Start.{begun_all, opened}
use Rattle.opening.proofs.Rows.{Begun, Placed, SetTo, begun_all_lem, set_all_lem, sort}

-- what a kind tells of the degree
sort_is : (limit d : ℕ) → ((d ≡ 0) × (sort limit d ≡ element)) ⊎ ((sort limit d ≡ dense) ⊎ ((0 < d) × (sort limit d ≡ variable)))
sort_is limit d = go (same? d 0) (ltb limit d) refl
  where
    open_sort : (b c : Bool) → eqb d 0 ≡ b → ltb limit d ≡ c → sort limit d ≡ cond b element (cond c dense variable)
    open_sort b c h k = rw (h, k)

    go : (d ≡ 0) ⊎ (d ≢ 0) → (c : Bool) → ltb limit d ≡ c → ((d ≡ 0) × (sort limit d ≡ element)) ⊎ ((sort limit d ≡ dense) ⊎ ((0 < d) × (sort limit d ≡ variable)))
    go (inl z) c k = inl (z, open_sort true c (eq-eqb d 0 z) k)
    go (inr z) true k = inr (inl (open_sort false true (ne_eqb d 0 z) k))
    go (inr z) false k = inr (inr (omega (arith, z), open_sort false false (ne_eqb d 0 z) k))

module _ (limit : ℕ) (nbrs : List (List ℕ)) (nb : Neighbourly nbrs) (l s : List ℤ) (room : Room (length nbrs) s) (small : length nbrs < 2 ^ 63)
    (len : (v : ℕ) → v < length nbrs → rd (length nbrs) LEN s v ≡ length (get_or nbrs v []))
    (place : (v : ℕ) → v < length nbrs → rd (length nbrs) PE s v ≡ sum_to v (λ j. length (get_or nbrs j [])))
    (there : (v : ℕ) → v < length nbrs → entries (at l) (sum_to v (λ j. length (get_or nbrs j []))) (length (get_or nbrs v [])) ≡ get_or nbrs v [])
    (fits : total length nbrs ≤ length l) where
  abbrev n : ℕ
  n = length nbrs

  abbrev g : Graph
  g = (started limit nbrs).graph

  abbrev X : ℕ → List ℕ
  X v = get_or nbrs v []

  abbrev s₁ : List ℤ
  s₁ = begun_all n s

  abbrev s₂ : List ℤ
  s₂ = enlisted_all n limit s₁

  abbrev s₃ : List ℤ
  s₃ = (opened n limit s).mem

  whole : sum_to n (λ j. length (get_or nbrs j [])) ≡ total length nbrs
  whole = sym (total_places length [] nbrs)

  b : Begun n s n s₁
  b = begun_all_lem n s room

  len₁ : (v : ℕ) → rd n LEN s₁ v ≡ rd n LEN s v
  len₁ v = b.keeps LEN v refl refl refl refl refl refl

  degree₁ : (v : ℕ) → (v < n) ⊎ (n ≤ v) → rd n DEGREE s₁ v ≡ rd n LEN s₁ v
  degree₁ v (inl a) = (b.rows v a).degree ∙ sym (len₁ v)
  degree₁ v (inr a) = rd_null n DEGREE s₁ v (omega arith) a ∙ sym (rd_null n LEN s₁ v (omega arith) a)

  -- the fields that the lists do not have
  same₂ : (f v : ℕ) → eqb HEAD f ≡ false → eqb NEXT f ≡ false → eqb LAST f ≡ false → eqb DEGREE f ≡ false → rd n f s₂ v ≡ rd n f s₁ v
  same₂ f v p q r t = enlisted_other n limit s₁ f v p q r t

  len₂ : (v : ℕ) → rd n LEN s₂ v ≡ rd n LEN s v
  len₂ v = same₂ LEN v refl refl refl refl ∙ len₁ v

  room₂ : Room n s₂
  room₂ = enlisted_room n limit s₁ b.room

  a : SetTo n limit s₂ small (λ v h. same₂ NV v refl refl refl refl ∙ (b.rows v h).nv) (λ v h. same₂ WANT v refl refl refl refl ∙ (b.rows v h).want)
      (λ v h. same₂ ELEN v refl refl refl refl ∙ (b.rows v h).elen) (λ v h. same₂ W v refl refl refl refl ∙ (b.rows v h).w) n (opened n limit s)
  unfolding opened
  a = set_all_lem n limit s₂ small (λ v h. same₂ NV v refl refl refl refl ∙ (b.rows v h).nv) (λ v h. same₂ WANT v refl refl refl refl ∙ (b.rows v h).want)
      (λ v h. same₂ ELEN v refl refl refl refl ∙ (b.rows v h).elen) (λ v h. same₂ W v refl refl refl refl ∙ (b.rows v h).w) room₂

  -- the kind of a row
  sort_kind : (v : ℕ) → v < n → sort limit (rd n LEN s₂ v) ≡ kind g v
  unfolding start_kind
  sort_kind v h = ap (sort limit) (len₂ v ∙ len v h) ∙ sym (kind_in limit nbrs v h)

  row : (v : ℕ) → v < n → Placed n s₂ s₃ v (kind g v)
  row v h = rw (← sort_kind v h) (a.done v h)

  kind_is : (v : ℕ) → v < n → ((length (X v) ≡ 0) × (kind g v ≡ element)) ⊎ ((kind g v ≡ dense) ⊎ ((0 < length (X v)) × (kind g v ≡ variable)))
  unfolding start_kind
  kind_is v h = rw (kind_in limit nbrs v h) (sort_is limit (start_degree nbrs v))

  -- ---- the degree lists

  pub opened_queues : Chained n s₃ (queue_of (started limit nbrs).queues)
  opened_queues =
      chained_same (opened_start limit nbrs nb s₁ b.room (λ v h. len₁ v ∙ len v h)) s₃
      (λ i. a.keeps HEAD i refl refl refl refl refl refl) (λ i. a.keeps NEXT i refl refl refl refl refl refl)
      (λ i. a.keeps LAST i refl refl refl refl refl refl) (λ i. a.keeps DEGREE i refl refl refl refl refl refl)

  -- ---- the lists

  none_past : (v : ℕ) → n ≤ v → X v ≡ []
  none_past v h = get_or-eq_default nbrs [] {n = v} h

  empty_is : (xs : List ℕ) → length xs ≡ 0 → xs ≡ []
  empty_is [] z = refl
  empty_is (x ∷ xs) z = absurd (omega arith)

  space₂ : Space n X l s₂ 0 (total length nbrs) (total length nbrs)
  space₂ =
      rw whole at
      (space_same n X l s 0 (sum_to n (λ j. length (get_or nbrs j []))) (sum_to n (λ j. length (get_or nbrs j [])))
      (space_packed n X l s room none_past len place there (omega (arith, whole))) s₂ room₂
      (λ i. same₂ PE i refl refl refl refl ∙ b.keeps PE i refl refl refl refl refl refl) len₂
      (λ i. same₂ ORD i refl refl refl refl ∙ b.keeps ORD i refl refl refl refl refl refl))

  list_variable : (v : ℕ) → kind g v ≡ variable → list_of g v ≡ X v
  unfolding list_of start_weight
  list_variable v e = rw (weight_is limit nbrs v, e, live_is limit nbrs v, elements_is limit nbrs v, variables_is limit nbrs v)

  list_element : (v : ℕ) → kind g v ≡ element → X v ≡ [] → list_of g v ≡ []
  unfolding list_of start_weight
  list_element v e z = rw (weight_is limit nbrs v, e, live_is limit nbrs v, elements_is limit nbrs v, variables_is limit nbrs v, z)

  list_dense : (v : ℕ) → kind g v ≡ dense → list_of g v ≡ []
  unfolding list_of start_weight
  list_dense v e = rw (weight_is limit nbrs v, e)

  list_merged : (v : ℕ) → kind g v ≡ merged → list_of g v ≡ []
  unfolding list_of start_weight
  list_merged v e = rw (weight_is limit nbrs v, e)

  -- a row that has a list is a variable
  len_element : (v : ℕ) → v < n → is_variable (kind g v) ≡ false → rd n LEN s₃ v ≡ 0
  len_element v h e = (row v h).len ∙ ap (λ (c : Bool). cond c (rd n LEN s₂ v) 0) e

  len_variable : (v : ℕ) → v < n → kind g v ≡ variable → rd n LEN s₃ v ≡ rd n LEN s₂ v
  len_variable v h e = (row v h).len ∙ ap (λ (c : Kind). cond (is_variable c) (rd n LEN s₂ v) 0) e

  var_by : (v : ℕ) → v < n → 0 < rd n LEN s₃ v → ((length (X v) ≡ 0) × (kind g v ≡ element)) ⊎ ((kind g v ≡ dense) ⊎ ((0 < length (X v)) × (kind g v ≡ variable))) → kind g v ≡ variable
  var_by v h p (inl q) = absurd (omega (arith, len_element v h (ap is_variable q.1)))
  var_by v h p (inr (inl q)) = absurd (omega (arith, len_element v h (ap is_variable q)))
  var_by v h p (inr (inr q)) = q.1

  is_variable_lem : (v : ℕ) → 0 < rd n LEN s₃ v → (v < n) × (kind g v ≡ variable)
  is_variable_lem v p = let h = live_below n s₃ v p in (h, var_by v h p (kind_is v h))

  dead_list : (v : ℕ) → rd n LEN s₃ v ≡ 0 → (v < n) ⊎ (n ≤ v) → list_of g v ≡ []
  dead_list v z (inr h) = list_merged v (kind_out limit nbrs v h)
  dead_list v z (inl h) = by (kind_is v h)
    where
      by : ((length (X v) ≡ 0) × (kind g v ≡ element)) ⊎ ((kind g v ≡ dense) ⊎ ((0 < length (X v)) × (kind g v ≡ variable))) → list_of g v ≡ []
      by (inl q) = list_element v q.1 (empty_is (X v) q.0)
      by (inr (inl q)) = list_dense v q
      by (inr (inr q)) = absurd (omega (arith, q.0, len_variable v h q.1, len₂ v, len v h))

  space₃ : Space n (list_of g) l s₃ 0 (total length nbrs) (total length nbrs)
  space₃ =
      space_left n X (list_of g) l s₂ s₃ 0 (total length nbrs) (total length nbrs) space₂ a.room
      (λ i p. let q = is_variable_lem i p in ((row i q.0).place (ap is_variable q.1), len_variable i q.0 q.1))
      (λ t. a.keeps ORD t refl refl refl refl refl refl)
      (λ i p. list_variable i (is_variable_lem i p).1)
      (λ i z. dead_list i z (split i n))

  -- ---- the numbers of each row

  want_by : (k : Kind) → cond (is_variable k) 1 0 ≡ cond (is_variable k && not false) (start_weight k) 0
  unfolding start_weight
  want_by variable = refl
  want_by merged = refl
  want_by element = refl
  want_by dense = refl

  inside : (v : ℕ) → is_variable (kind g v) ≡ true → v < n
  inside v h = kind_inside limit nbrs v (var_not_merged (kind g v) h)

  dead_kind : (v : ℕ) → v < n → rd n LEN s₃ v ≡ 0 → ((length (X v) ≡ 0) × (kind g v ≡ element)) ⊎ ((kind g v ≡ dense) ⊎ ((0 < length (X v)) × (kind g v ≡ variable))) → is_variable (kind g v) ≡ false
  dead_kind v h z (inl q) = ap is_variable q.1
  dead_kind v h z (inr (inl q)) = ap is_variable q
  dead_kind v h z (inr (inr q)) = absurd (omega (arith, q.0, len_variable v h q.1, len₂ v, len v h))

  parent_is : (v : ℕ) → parent g v ≡ none
  unfolding started
  parent_is v = get_or_same n v none

  -- THE start
  pub opened_drawn : Rest n l s₃ g 0 (total length nbrs) (total length nbrs)
  opened_drawn =
      record {
        space = space₃;
        weights = λ v h. (row v h).nv ∙ sym (weight_is limit nbrs v);
        wants = λ v h. (row v h).want ∙ want_by (kind g v) ∙ ap (λ (w : ℕ). cond (is_variable (kind g v) && not false) w 0) (sym (weight_is limit nbrs v));
        elens = λ v e. (row v (inside v e)).elen e ∙ sym (ap length (elements_is limit nbrs v));
        degrees = λ v h. a.keeps DEGREE v refl refl refl refl refl refl ∙ enlisted_degrees n s₁ limit b.room (λ u. degree₁ u (split u n)) v ∙ len₁ v ∙ len v h ∙ sym (degree_is limit nbrs v);
        parents = λ v h z. (row v h).orphan (dead_kind v h z (kind_is v h)) ∙ sym (parent_is v);
      }

  -- ---- the marks, the log, the keys

  w_low : (k : Kind) → cond (is_element k) 0 1 < 2
  w_low variable = omega arith
  w_low merged = omega arith
  w_low element = omega arith
  w_low dense = omega arith

  w_variable : (k : Kind) → is_variable k ≡ true → 1 ≤ cond (is_element k) 0 1
  w_variable variable h = omega arith
  w_variable merged h = absurd (false≢true h)
  w_variable element h = absurd (false≢true h)
  w_variable dense h = absurd (false≢true h)

  pub opened_flags : Flagged n s₃ g 2
  opened_flags =
      record {
        below = λ v h. rw (row v h).w (w_low (kind g v));
        variable = λ v h e. rw (row v h).w (w_variable (kind g v) e);
        element = λ v h e q p. absurd (omega (arith, element_empty limit nbrs v e, ap length (variables_is limit nbrs v)));
        absorbed = λ v h e q. absurd (false≢true (sym q ∙ live_is limit nbrs v));
      }

  pub opened_log : Logged n s₃ g []
  opened_log =
      record {
        log = entries_none (rd n MERGES s₃) 0;
        once = tt;
        inside = λ v m. absurd (no_member v m);
        all = λ v h e. absurd (false≢true (sym (start_not_merged limit nbrs v h) ∙ e));
        later = λ t p h e. absurd (omega arith);
      }

  pub opened_keys : (v : ℕ) → v < n → rd n HHEAD s₃ v ≡ n
  opened_keys v h = a.keeps HHEAD v refl refl refl refl refl refl ∙ same₂ HHEAD v refl refl refl refl ∙ (b.rows v h).hhead

  -- the elements' sizes
  pub opened_sizes : (v : ℕ) → v < n → is_element (kind g v) ≡ true → rd n ELEN s₃ v ≡ 1
  opened_sizes v h e = (row v h).size e

  -- ---- the counts

  counted : (p : Kind → Bool) → sum_to n (λ v. cond (p (sort limit (rd n LEN s₂ v))) 1 0) ≡ total (λ v. cond (p (kind g v)) 1 0) (up_to n)
  counted p = total_members _ _ (up_to n) (λ v m. ap (λ (k : Kind). cond (p k) 1 0) (sort_kind v (omega (arith, member_below v 0 n m))))

  kept : (p : ℕ → Bool) → length (keep p (up_to n)) ≡ total (λ v. cond (p v) 1 0) (up_to n)
  kept p = sym (total_ones (keep p (up_to n))) ∙ total_keep (λ v. 1) p (up_to n)

  pub opened_dense : (opened n limit s).aside.dense ≡ length (dense_rows g)
  unfolding dense_rows
  opened_dense =
      a.dense ∙ counted is_dense ∙ sym (kept (λ v. is_dense (kind g v)))
      ∙ ap (λ (c : ℕ). length (keep (λ v. is_dense (kind g v)) (up_to c))) (sym (sized_started limit nbrs).graph.weights)

  both : (k : Kind) → cond (is_element k) 1 0 + cond (is_dense k) 1 0 ≡ cond (is_element k || is_dense k) 1 0
  both variable = omega arith
  both merged = omega arith
  both element = omega arith
  both dense = omega arith

  pub opened_gone : (opened n limit s).aside.roots + (opened n limit s).aside.dense ≡ (started limit nbrs).gone
  unfolding started at_once
  opened_gone =
      let c = total_add (λ v. cond (is_element (kind g v)) 1 0) (λ v. cond (is_dense (kind g v)) 1 0) (up_to n) in
      let d = total_members (λ v. cond (is_element (kind g v)) 1 0 + cond (is_dense (kind g v)) 1 0)
      (λ v. cond (is_element (start_kind limit nbrs v) || is_dense (start_kind limit nbrs v)) 1 0) (up_to n)
      (λ v m. both (kind g v) ∙ ap (λ (k : Kind). cond (is_element k || is_dense k) 1 0) (kind_in limit nbrs v (omega (arith, member_below v 0 n m)))) in
      omega (arith, a.roots, a.dense, counted is_element, counted is_dense, c, d, kept (λ v. is_element (start_kind limit nbrs v) || is_dense (start_kind limit nbrs v)))
