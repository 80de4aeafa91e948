-- A pivot's beginning: from what the memory holds between two pivots to what it holds within a pivot's step, once its element is gathered.
-- Assumes nothing.
use Prim.Native.Nat.{ℕ, ◌+◌, ◌<◌, ◌^◌, ◌≤◌}
use native.Mathlib.Omega.{arith}
use mathlib.Core.Path.{◌≡◌, refl, sym, ap, ◌∙◌}
use mathlib.Core.Logic.{◌≢◌, ◌⊎◌, inl, inr}
use mathlib.Core.Bool.{Bool, true, false, cond, not, ◌&&◌, ◌||◌, false≢true}
use mathlib.Core.List.{List, [], ◌∷◌}
use mathlib.Core.Option.{Option, none, some}
use borrow.Author.Tests.{eq-eqb, lt-ltb, ne_eqb}
use lib.Dec.{eqb}
use lib.IntN.{ℤ}
use lib.ListN.{length, get_or}
use Rattle.plain.proofs.Entries.{entries_same, upd_same, upd_other}
use Rattle.plain.proofs.Logic.{either}
use Rattle.plain.proofs.Positions.{member_get_or}
use Rattle.plain.specs.Lists.{is_none, member}
use Rattle.plain.specs.Members.{In}
use Rattle.plain.specs.Turns.{entries, upd}
use Rattle.definition.specs.Pivot.{collected, delist, delisted, found, passed, pivot}
use Rattle.definition.specs.Room as definition
use Rattle.definition.specs.State.{Graph, Kind, State, elements_of, is_element, is_merged, is_variable, kind, live, queue_of, weight}
use Rattle.definition.specs.State as state
use Rattle.facts.proofs.Collected.{collected_var, distinct_collected, pivot_outside}
use Rattle.facts.proofs.Invariant.{var_elsewhere, var_inside}
use Rattle.facts.proofs.Pivots.{pivoted}
use Rattle.facts.proofs.Weighed.{Weighed}
use Rattle.facts.specs.Invariant.{Inv, Var}
use Rattle.cells.proofs.Fields.{room_up}
use Rattle.cells.proofs.Laws.{mem, room_yes}
use Rattle.cells.proofs.Slices.{same?}
use Rattle.cells.specs.Layout.{PE, LEN, WANT, ELEN, DEGREE, W, NEXT, LAST, HEAD, HHEAD, TMP, ORD, MERGES, NV}
use Rattle.cells.specs.Links.{parent}
use Rattle.cells.specs.View.{Room, at, rd, up}
use Rattle.chain.proofs.Alike.{chained_alike}
use Rattle.chain.proofs.Frame.{chained_up}
use Rattle.chain.proofs.Leave.{collected_left, pivot_left}
use Rattle.chain.proofs.Unlink.{removed_other, removed_parent, removed_room}
use Rattle.chain.specs.Chained.{Chained}
use Rattle.chain.specs.Model.{removed}
use Rattle.packed.proofs.Frame.{len_of}
use Rattle.packed.proofs.Spaces.{space_same}
use Rattle.packed.specs.Gather.{Outside}
use Rattle.packed.specs.Places.{Space, places}
use Rattle.drawn.specs.Drawn.{Rest, Within, list_of}
use Rattle.drawn.specs.Flags.{Flagged}
use Rattle.drawn.specs.Log.{Logged}
use Rattle.opening.specs.Begin as begin
use Rattle.opening.proofs.Gathering.{Collects, Last, Same, collects, lasts, same_still}
use Rattle.opening.proofs.Shown.{degree_passed, elements_passed, kind_passed, parent_now, variables_passed, weight_passed}

module _ (n : ℕ) (l s : List ℤ) (t : State) (inv : Inv n t) (wd : Weighed t) (p d : ℕ) (which : pivot t ≡ found p d) (made base lim : ℕ) (small : n < 2 ^ 63)
    (narrow : length l < 2 ^ 63) (dr : Rest n l s t.graph made base lim) (turns : made < n) (fresh : (i : ℕ) → i < made → rd n ORD s i ≢ p)
    (room : definition.all_places t.graph + n ≤ length l) (rm : definition.Room) (at_lim : rm.free ≡ lim) where
  abbrev g : Graph
  g = t.graph

  abbrev es : List ℕ
  es = elements_of g p

  abbrev new : List ℕ
  new = collected g p

  pv : Var g p
  pv = (pivoted t inv p d which).is_var

  hp : p < n
  hp = var_inside inv.graph p pv

  room₀ : Room n s
  room₀ = dr.space.room

  -- ---- the pivot leaves its list, and is wanted no more

  abbrev s₂ : List ℤ
  s₂ = up n WANT (removed n s p) p 0

  room₂ : Room n s₂
  room₂ = room_up n WANT (removed n s p) p 0 (removed_room n s p room₀)

  same₂ : (f i : ℕ) → eqb HEAD f ≡ false → eqb NEXT f ≡ false → eqb LAST f ≡ false → eqb WANT f ≡ false → rd n f s₂ i ≡ rd n f s i
  same₂ f i a b c e = let z : rd n f s₂ i ≡ rd n f (removed n s p) i = simp (mem, e) in z ∙ removed_other n s p f i a b c

  parent₂ : (i : ℕ) → parent n s₂ i ≡ parent n s i
  parent₂ i = let z : parent n s₂ i ≡ parent n (removed n s p) i = simp mem in z ∙ removed_parent n s p i

  want_by : (v : ℕ) → v < n → (v ≡ p) ⊎ (v ≢ p) → rd n WANT s₂ v ≡ cond (is_variable (kind g v) && not (eqb v p)) (weight g v) 0
  want_by v h (inl e) =
      let z : rd n WANT s₂ p ≡ 0 = simp (mem, room_yes n (removed n s p) (removed_room n s p room₀), lt-ltb p n hp) in
      rw (e, eq-eqb p p refl, pv) z
  want_by v h (inr e) =
      let z : rd n WANT s₂ v ≡ rd n WANT (removed n s p) v = simp mem in
      rw (ne_eqb v p e) (z ∙ removed_other n s p WANT v refl refl refl ∙ dr.wants v h)

  want₂ : (v : ℕ) → v < n → rd n WANT s₂ v ≡ cond (is_variable (kind g v) && not (eqb v p)) (weight g v) 0
  want₂ v h = want_by v h (same? v p)

  space₂ : Space n (list_of g) l s₂ made base lim
  space₂ =
      space_same n (list_of g) l s made base lim dr.space s₂ room₂ (λ i. same₂ PE i refl refl refl refl) (λ i. same₂ LEN i refl refl refl refl) (λ i. same₂ ORD i refl refl refl refl)

  abbrev x : Outside
  x = begin.gathered n p base lim made l s₂

  c : Collects n g p l s₂ x
  c =
      collects n l s₂ t inv wd p pv made base lim small narrow space₂ want₂ (same₂ ELEN p refl refl refl refl ∙ dr.elens p pv) turns
      (λ i h e. fresh i h (sym (same₂ ORD i refl refl refl refl) ∙ e)) room rm at_lim

  -- the fields that neither a list nor a gather changes
  same₃ : (f i : ℕ) → eqb HEAD f ≡ false → eqb NEXT f ≡ false → eqb LAST f ≡ false → eqb WANT f ≡ false → eqb PE f ≡ false → eqb LEN f ≡ false → eqb TMP f ≡ false
      → eqb ORD f ≡ false → eqb W f ≡ false → rd n f x.mem i ≡ rd n f s i
  same₃ f i a b e w q u v o z = c.fields f i q u w v o z a b e ∙ same₂ f i a b e w

  new_there : entries (at x.lists) x.made.start x.made.count ≡ new
  new_there =
      let e = len_of x.lists (places n x.mem) x.made.free (upd (list_of (passed g p)) p new) c.space.lists p ∙ ap length (upd_same (list_of (passed g p)) p new) in
      rw (← c.place, c.count, ← e) (c.space.lists.lists p ∙ upd_same (list_of (passed g p)) p new)

  below : (v : ℕ) → In v new → v < n
  below v m = var_inside inv.graph v (collected_var inv.graph p pv v m)

  pub begun_queues : Chained n s (queue_of t.queues) → Chained n (begin.pivoted n p base lim made l s).mem (queue_of (delisted t.graph t.queues (p ∷ collected t.graph p)))
  unfolding begin.pivoted
  begun_queues ch =
      let a = pivot_left n t inv.queued p pv s room₀ ch (dr.degrees p hp) in
      let b = chained_up n (removed n s p) (queue_of (delist g t.queues p)) a WANT p 0 refl refl refl refl in
      chained_alike
      (collected_left n t inv.queued p pv new s₂ room₂ b (pivot_outside g p, distinct_collected g p)
      (λ v m. (collected_var inv.graph p pv v m, same₂ DEGREE v refl refl refl refl ∙ dr.degrees v (below v m))))
      c.queues

  -- ---- the graph within the step

  want_now : (a e m : Bool) (w : ℕ) → cond m 0 (cond (a && not e) w 0) ≡ cond (a && not (e || m)) w 0
  want_now true true true w = refl
  want_now true true false w = refl
  want_now true false true w = refl
  want_now true false false w = refl
  want_now false e true w = refl
  want_now false e false w = refl

  wants₃ : (v : ℕ) → v < n → rd n WANT x.mem v ≡ cond (is_variable (kind (passed g p) v) && not (member v (p ∷ new))) (weight (passed g p) v) 0
  unfolding member
  wants₃ v h =
      c.want v ∙ ap (λ (y : ℕ). cond (member v new) 0 y) (want₂ v h)
      ∙ want_now (is_variable (kind g v)) (eqb v p) (member v new) (weight g v)
      ∙ rw (kind_passed n t inv p pv v, weight_passed n t inv p pv v)

  none_of : (o : Option ℕ) → is_none o ≡ true → o ≡ none
  none_of none e = refl
  none_of (some y) e = absurd (false≢true e)

  -- a row that the step does not touch has the list that it had
  len_was : (v : ℕ) → v < n → v ≢ p → member v es ≡ false → rd n LEN x.mem v ≡ 0 → rd n LEN s v ≡ 0
  unfolding list_of
  len_was v h d m z =
      let a = len_of x.lists (places n x.mem) x.made.free (upd (list_of (passed g p)) p new) c.space.lists v ∙ ap length (upd_other (list_of (passed g p)) p new v d) in
      let b = len_of l (places n s) lim (list_of g) dr.space.lists v in
      let q : state.parent (passed g p) v ≡ state.parent g v = parent_now n t inv p pv v h ∙ ap (λ (y : Bool). cond y (some p) (state.parent g v)) m in
      let e : list_of (passed g p) v ≡ list_of g v = rw (weight_passed n t inv p pv v, elements_passed n t inv p pv v, variables_passed n t inv p pv v, q) in
      b ∙ ap length (sym e) ∙ sym a ∙ z

  parent_by : (v : ℕ) → v < n → rd n LEN x.mem v ≡ 0 → (v ≡ p) ⊎ (v ≢ p) → (b : Bool) → member v es ≡ b → parent n x.mem v ≡ state.parent (passed g p) v
  parent_by v h z (inl e) b m =
      rw e (c.own ∙ sym (parent_now n t inv p pv p hp ∙ ap (λ (y : Bool). cond y (some p) (state.parent g p)) (var_elsewhere inv.graph p p pv pv) ∙ none_of (state.parent g p) (inv.graph.orphan p pv)))
  parent_by v h z (inr e) true m = c.taken v m ∙ sym (parent_now n t inv p pv v h ∙ ap (λ (y : Bool). cond y (some p) (state.parent g v)) m)
  parent_by v h z (inr e) false m =
      c.others v e m z ∙ parent₂ v ∙ dr.parents v h (len_was v h e m z) ∙ sym (parent_now n t inv p pv v h ∙ ap (λ (y : Bool). cond y (some p) (state.parent g v)) m)

  -- THE pivot's beginning
  pub begun_drawn : Within n (begin.pivoted n p base lim made l s).lists (begin.pivoted n p base lim made l s).mem (passed t.graph p) p (collected t.graph p)
      (begin.pivoted n p base lim made l s).made.made (begin.pivoted n p base lim made l s).made.base (begin.pivoted n p base lim made l s).made.free
  unfolding begin.pivoted
  begun_drawn =
      record {
        space = c.space;
        weights = λ v h. same₃ NV v refl refl refl refl refl refl refl refl refl ∙ dr.weights v h ∙ sym (weight_passed n t inv p pv v);
        wants = wants₃;
        elens = λ v h. same₃ ELEN v refl refl refl refl refl refl refl refl refl ∙ dr.elens v (sym (ap is_variable (kind_passed n t inv p pv v)) ∙ h)
            ∙ sym (ap length (elements_passed n t inv p pv v));
        degrees = λ v h. same₃ DEGREE v refl refl refl refl refl refl refl refl refl ∙ dr.degrees v h ∙ sym (degree_passed n t inv p pv v);
        parents = λ v h z. parent_by v h z (same? v p) (member v es) refl;
      }

  -- ---- the marks

  w₃ : (v : ℕ) → rd n W x.mem v ≡ cond (member v es) 0 (rd n W s v)
  w₃ v = c.w v ∙ ap (λ (y : ℕ). cond (member v es) 0 y) (same₂ W v refl refl refl refl)

  live_by : (v : ℕ) → v < n → live (passed g p) v ≡ true → (member v es ≡ false) × (live g v ≡ true)
  live_by v h e = by (member v es) refl
    where
      by : (b : Bool) → member v es ≡ b → (member v es ≡ false) × (live g v ≡ true)
      by true m = absurd (false≢true (sym (ap is_none (parent_now n t inv p pv v h ∙ ap (λ (y : Bool). cond y (some p) (state.parent g v)) m)) ∙ e))
      by false m = (m, sym (ap is_none (parent_now n t inv p pv v h ∙ ap (λ (y : Bool). cond y (some p) (state.parent g v)) m)) ∙ e)

  pub begun_flags : (flag : ℕ) → Flagged n s t.graph flag → Flagged n (begin.pivoted n p base lim made l s).mem (passed t.graph p) flag
  unfolding begin.pivoted
  begun_flags flag f =
      record {
        below = λ v h. let z = f.below v h in rw (w₃ v) (low (member v es) (rd n W s v) z);
        variable = λ v h e.
            let a : Var g v = sym (ap is_variable (kind_passed n t inv p pv v)) ∙ e in
            rw (w₃ v, var_elsewhere inv.graph p v pv a) (f.variable v h a);
        element = λ v h e q r.
            let b = live_by v h q in
            rw (w₃ v, b.0) (f.element v h (sym (ap is_element (kind_passed n t inv p pv v)) ∙ e) b.1 (omega (arith, ap length (variables_passed n t inv p pv v))));
        absorbed = λ v h e q. w₃ v ∙ gone v h (sym (ap is_element (kind_passed n t inv p pv v)) ∙ e) q (member v es) refl;
      }
    where
      low : (b : Bool) (w : ℕ) → w < flag → cond b 0 w < flag
      low true w h = omega arith
      low false w h = h

      gone : (v : ℕ) → v < n → is_element (kind g v) ≡ true → live (passed g p) v ≡ false → (b : Bool) → member v es ≡ b → cond (member v es) 0 (rd n W s v) ≡ 0
      gone v h e q true m = rw m
      gone v h e q false m =
          rw m (f.absorbed v h e (sym (ap is_none (parent_now n t inv p pv v h ∙ ap (λ (y : Bool). cond y (some p) (state.parent g v)) m)) ∙ q))

  -- ---- the log

  merged_not : (k : Kind) → is_element k ≡ true → is_merged k ≡ true → ⊥
  merged_not state.variable a b = false≢true a
  merged_not state.merged a b = false≢true a
  merged_not state.element a b = false≢true b
  merged_not state.dense a b = false≢true a

  parent_merged : (v : ℕ) → v < n → is_merged (kind g v) ≡ true → state.parent (passed g p) v ≡ state.parent g v
  parent_merged v h m =
      parent_now n t inv p pv v h
      ∙ ap (λ (y : Bool). cond y (some p) (state.parent g v))
      (either (member v es ≡ false) (member v es) (λ e. absurd (merged_not (kind g v) (inv.graph.elements_live p v pv e).0 m)) (λ e. e))

  pub begun_log : (ms : List ℕ) → Logged n s t.graph ms → Logged n (begin.pivoted n p base lim made l s).mem (passed t.graph p) ms
  unfolding begin.pivoted
  begun_log ms f =
      record {
        log = entries_same (rd n MERGES s) (rd n MERGES x.mem) 0 0 (length ms) (λ i h. same₃ MERGES (0 + i) refl refl refl refl refl refl refl refl refl) ∙ f.log;
        once = f.once;
        inside = λ v m. let a = f.inside v m in (a.0, ap is_merged (kind_passed n t inv p pv v) ∙ a.1);
        all = λ v h e. f.all v h (sym (ap is_merged (kind_passed n t inv p pv v)) ∙ e);
        later = λ i o h e.
            let a = f.inside (get_or ms i 0) (member_get_or ms i h) in
            rw (kind_passed n t inv p pv o) (f.later i o h (sym (parent_merged (get_or ms i 0) a.0 a.1) ∙ e));
      }

  -- ---- what else stays

  pub begun_keys : (v : ℕ) → rd n HHEAD (begin.pivoted n p base lim made l s).mem v ≡ rd n HHEAD s v
  unfolding begin.pivoted
  begun_keys v = same₃ HHEAD v refl refl refl refl refl refl refl refl refl

  -- every field that neither a list nor a gather changes
  pub begun_fields : (f i : ℕ) → eqb HEAD f ≡ false → eqb NEXT f ≡ false → eqb LAST f ≡ false → eqb WANT f ≡ false → eqb PE f ≡ false → eqb LEN f ≡ false → eqb TMP f ≡ false
      → eqb ORD f ≡ false → eqb W f ≡ false → rd n f (begin.pivoted n p base lim made l s).mem i ≡ rd n f s i
  unfolding begin.pivoted
  begun_fields = same₃

  -- the new element's cells
  pub begun_place : rd n PE (begin.pivoted n p base lim made l s).mem p ≡ (begin.pivoted n p base lim made l s).made.start
  unfolding begin.pivoted
  begun_place = c.place

  pub begun_count : rd n LEN (begin.pivoted n p base lim made l s).mem p ≡ (begin.pivoted n p base lim made l s).made.count
  unfolding begin.pivoted
  begun_count =
      len_of x.lists (places n x.mem) x.made.free (upd (list_of (passed g p)) p new) c.space.lists p
      ∙ ap length (upd_same (list_of (passed g p)) p new) ∙ sym c.count

  pub begun_list : entries (at (begin.pivoted n p base lim made l s).lists) (begin.pivoted n p base lim made l s).made.start (begin.pivoted n p base lim made l s).made.count
      ≡ collected t.graph p
  unfolding begin.pivoted
  begun_list = new_there

  pub begun_long : length (begin.pivoted n p base lim made l s).lists ≡ length l
  unfolding begin.pivoted
  begun_long = c.long

  -- ---- the room and the order

  -- of a pivot with elements
  pub begun_last : 0 < length (elements_of t.graph p) → Last n t.graph p l s made rm (begin.pivoted n p base lim made l s)
  unfolding begin.pivoted
  begun_last h =
      let a = lasts n l s₂ t inv wd p pv made base lim small narrow space₂ want₂ (same₂ ELEN p refl refl refl refl ∙ dr.elens p pv) turns
      (λ i k e. fresh i k (sym (same₂ ORD i refl refl refl refl) ∙ e)) room rm at_lim h in
      record {
        turns = a.turns;
        behind = a.behind;
        wide = a.wide;
        free = a.free;
        order = λ i e. a.order i e ∙ same₂ ORD i refl refl refl refl;
        last = a.last;
        stored = a.stored;
        shrinks = a.shrinks;
      }

  -- of one without
  pub begun_same : elements_of t.graph p ≡ [] → Same n p s made base lim (begin.pivoted n p base lim made l s)
  unfolding begin.pivoted
  begun_same h =
      let a = same_still n l s₂ t inv wd p pv made base lim small narrow space₂ want₂ (same₂ ELEN p refl refl refl refl ∙ dr.elens p pv) turns
      (λ i k e. fresh i k (sym (same₂ ORD i refl refl refl refl) ∙ e)) room rm at_lim h in
      record {
        start = a.start ∙ same₂ PE p refl refl refl refl;
        turns = a.turns;
        low = a.low;
        free = a.free;
        order = λ i. a.order i ∙ same₂ ORD i refl refl refl refl;
        collected = a.collected;
      }
