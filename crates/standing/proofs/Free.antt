-- The free end after a turn, the order of the elements made there, and the room: as the definition has them, whether the pivot had elements or not.
-- Assumes nothing.
use Prim.Native.Nat.{ℕ, ◌+◌, ◌-◌, ◌<◌, ◌≤◌}
use native.Mathlib.Omega.{arith}
use mathlib.Core.Bool.{Bool, cond, false}
use mathlib.Core.List.{List, [], ◌∷◌}
use mathlib.Core.Logic.{◌≢◌, ⊎_elim}
use mathlib.Core.Path.{◌≡◌, ◌∙◌, ap, refl, sym, subst}
use borrow.Author.Tests.{le-ltb, lt-ltb}
use lib.Dec.{ltb}
use lib.IntN.{ℤ}
use lib.ListN.{length}
use Rattle.plain.proofs.Members.{keep_same}
use Rattle.plain.proofs.Repeats.{length_keep}
use Rattle.plain.specs.Lists.{is_empty}
use Rattle.definition.specs.Elimination.{eliminate, finish}
use Rattle.definition.specs.Merge.{plain_key}
use Rattle.definition.specs.Outcome as Outcomes
use Rattle.definition.specs.Pivot.{collected, delisted, found}
use Rattle.definition.specs.Room as room
use Rattle.definition.specs.State.{Graph, State, elements_of, has_weight, variables_of, weight}
use Rattle.facts.proofs.Collections.{one_collection, room_same}
use Rattle.facts.proofs.Step.{rest_of, survivors_of, weight_t}
use Rattle.facts.proofs.Stepped.{after_merge}
use Rattle.cells.proofs.Slices.{plus_sum, split}
use Rattle.cells.specs.Layout.{LEN, ORD, PE}
use Rattle.cells.specs.View.{plus, rd}
use Rattle.packed.specs.Places.{Owns, Waits, places}
use Rattle.drawn.specs.Drawn as drawn
use Rattle.opening.proofs.Gathering.{Last}
use Rattle.opening.proofs.Turns.{order_kept, order_next}
use Rattle.opening.specs.Order.{Ordered}
use Rattle.elimination.specs.declared.Turn.{Turn}
use Rattle.elimination.specs.Model.{free_end}
use Rattle.standing.proofs.Begun.{Before, begun, counted₁, lasts₁, outside₂, pivot_var, sames₁}
use Rattle.standing.proofs.Merges.{extent₄, fields₄, merges, place₄}
use Rattle.standing.proofs.Places.{done₅, kept₅, left_few, next}
use Rattle.standing.proofs.Trims.{trimmed₃}
use Rattle.standing.proofs.After.{drawn₄, narrow, now, rest₅, survivors₅, trimmed₅, unwritten₅}
use Rattle.standing.proofs.Elements.{element_stays, pivot_now}

module _ {N n nd size : ℕ} {l s : List ℤ} {t : Turn} {x : Outcomes.Statistics} {st : State} {rm : room.Room} {p d : ℕ} (b : Before N n nd size l s t x st rm p d) (aggressive : Bool) where
  abbrev g : Graph
  g = st.graph

  abbrev g₃ : Graph
  g₃ = after_merge (plain_key n) aggressive st.graph p

  abbrev new : List ℕ
  new = collected st.graph p

  abbrev S₄ : List ℤ
  S₄ = (merges b aggressive (left_few b aggressive)).mem

  abbrev cnt : ℕ
  cnt = (begun b).made.made

  abbrev base : ℕ
  base = (begun b).made.base

  abbrev lim : ℕ
  lim = (begun b).made.free

  -- ---- the order of the elements made at the free end

  order_same : (i : ℕ) → rd n ORD (done₅ b aggressive) i ≡ rd n ORD (begun b).mem i
  order_same i =
      unwritten₅ b aggressive ORD i refl refl refl refl refl refl refl refl refl
      ∙ fields₄ b aggressive (left_few b aggressive) ORD i refl refl refl refl refl refl refl
      ∙ (trimmed₃ b aggressive).fields ORD i refl refl refl refl refl refl refl refl refl refl ∙ (outside₂ b).kept.fields ORD i refl

  -- what depends on whether the pivot had elements
  pub record Made : Type 0 where
    pub drawn : drawn.Rest n (kept₅ b aggressive).lists (done₅ b aggressive) (next b aggressive).graph (begun b).made.made (begun b).made.base (free_end (begun b).made t.made (kept₅ b aggressive).count)
    pub ordered : Ordered n (done₅ b aggressive) (next b aggressive).graph (begun b).made.made
    pub free : (room.room_step size st (found p d) (next b aggressive) rm).free ≡ free_end (begun b).made t.made (kept₅ b aggressive).count
    pub collections : (room.room_step size st (found p d) (next b aggressive) rm).collections ≡ rm.collections + (begun b).made.collected
    pub one : (begun b).made.collected ≤ 1

  -- ---- a pivot without elements

  made_alone : elements_of g p ≡ [] → Made
  unfolding free_end is_empty
  made_alone e =
      let a = sames₁ b e in
      let same : room.room_step size st (found p d) (next b aggressive) rm ≡ rm = room_same size st (next b aggressive) p d rm (ap is_empty e) in
      let end : cond (ltb t.made cnt) (plus (begun b).made.start (kept₅ b aggressive).count) lim ≡ lim = rw (le-ltb t.made cnt (omega (arith, a.turns))) in
      record {
        drawn = subst (drawn.Rest n (kept₅ b aggressive).lists (done₅ b aggressive) (next b aggressive).graph cnt base) (sym end)
            (rest₅ b aggressive);
        ordered = subst (Ordered n (done₅ b aggressive) (next b aggressive).graph) (sym a.turns)
            (order_kept n s g t.made b.stands.ordered (done₅ b aggressive) (next b aggressive).graph (λ i. order_same i ∙ a.order i) (element_stays b aggressive));
        free = ap (λ (r : room.Room). r.free) same ∙ b.stands.free ∙ sym a.free ∙ sym end;
        collections = ap (λ (r : room.Room). r.collections) same ∙ omega (arith, a.collected);
        one = omega (arith, a.collected);
      }

  -- ---- a pivot with elements: the new element's cells lie behind all others

  module _ (has : 0 < length (elements_of g p)) where
    a : Last n g p l s t.made rm (begun b)
    a = lasts₁ b has

    last_order : rd n ORD S₄ t.made ≡ p
    last_order =
        fields₄ b aggressive (left_few b aggressive) ORD t.made refl refl refl refl refl refl refl
        ∙ (trimmed₃ b aggressive).fields ORD t.made refl refl refl refl refl refl refl refl refl refl ∙ (outside₂ b).kept.fields ORD t.made refl ∙ a.last

    start_is : rd n PE S₄ p ≡ (begun b).made.start
    start_is = place₄ b aggressive (left_few b aggressive)

    extent_is : rd n LEN S₄ p ≡ (begun b).made.count
    extent_is = extent₄ b aggressive (left_few b aggressive)

    -- a list that waits before the pivot's ends before it
    waits : (i : ℕ) → i ≢ p → 0 < rd n LEN S₄ i → 0 < rd n LEN S₄ p → Waits (rd n ORD S₄) cnt 0 i → rd n PE S₄ i + rd n LEN S₄ i ≤ rd n PE S₄ p
    waits i ne y z w =
        let other : w.turn ≢ t.made = λ e. ne (sym w.is ∙ ap (rd n ORD S₄) e ∙ last_order) in
        let k = (drawn₄ b aggressive).space.sorted.high w.turn t.made (omega (arith, w.soon, a.turns, other)) (omega (arith, a.turns)) (rw w.is y) (rw last_order z) in
        omega (
          arith,
          k,
          ap (rd n PE S₄) w.is,
          ap (rd n LEN S₄) w.is,
          ap (rd n PE S₄) last_order,
        )

    behind : (i c : ℕ) → i ≢ p → Owns (places n S₄) i c → c < rd n PE S₄ p
    behind i c ne o =
        ⊎_elim
        (λ z.
        let y : 0 < rd n LEN S₄ i = omega (arith, o.from, o.to) in
        ⊎_elim (λ low. omega (arith, o.to, (drawn₄ b aggressive).space.sorted.edge i y low, a.wide, start_is)) (λ w. omega (arith, o.to, waits i ne y z w)) ((drawn₄ b aggressive).space.sorted.all i y))
        (λ z. omega (arith, (drawn₄ b aggressive).space.lists.under i c o, a.free, start_is, extent_is))
        (split 0 (rd n LEN S₄ p))

    fewer : (kept₅ b aggressive).count ≤ (begun b).made.count
    fewer = omega (arith, survivors₅ b aggressive, length_keep (has_weight g₃) new, counted₁ b)

    weight_same : (v : ℕ) → weight (next b aggressive).graph v ≡ weight g₃ v
    unfolding eliminate finish survivors_of rest_of
    weight_same = weight_t (plain_key n) aggressive g p b.inv.graph (pivot_var b) (n - (st.gone + weight g₃ p)) (delisted g st.queues (p ∷ new)) d

    members : length (variables_of (next b aggressive).graph p) ≡ (kept₅ b aggressive).count
    members =
        ap length ((now b aggressive).pivot_members ∙ keep_same (has_weight (next b aggressive).graph) (has_weight g₃) new (λ v m. ap (ltb 0) (weight_same v))) ∙ sym (survivors₅ b aggressive)

    some : (es : List ℕ) → 0 < length es → is_empty es ≡ false
    unfolding is_empty
    some [] h = absurd (omega arith)
    some (e ∷ es) h = refl

    room_is : room.room_step size st (found p d) (next b aggressive) rm
        ≡ record { free = (begun b).made.start + (kept₅ b aggressive).count; collections = rm.collections + (begun b).made.collected }
    unfolding room.room_step
    room_is =
        rw (some (elements_of g p) has)
        (subst (λ (z : ℕ). room.shrunk (room.stored z g p rm) (length (variables_of (next b aggressive).graph p))
        ≡ record { free = (begun b).made.start + length (variables_of (next b aggressive).graph p); collections = rm.collections + (begun b).made.collected })
        b.stands.long (a.shrinks (length (variables_of (next b aggressive).graph p)))
        ∙ ap (λ (k : ℕ). record { free = (begun b).made.start + k; collections = rm.collections + (begun b).made.collected }) members)

    made_last : Made
    unfolding free_end
    made_last =
        let k = (kept₅ b aggressive).count in
        let sum : plus (begun b).made.start k ≡ (begun b).made.start + k =
        plus_sum (begun b).made.start k (omega (arith, fewer, a.free, (drawn₄ b aggressive).space.lists.fits, narrow b aggressive)) in
        let end : cond (ltb t.made cnt) (plus (begun b).made.start k) lim ≡ (begun b).made.start + k = rw (lt-ltb t.made cnt (omega (arith, a.turns))) sum in
        record {
          drawn = subst (drawn.Rest n (kept₅ b aggressive).lists (done₅ b aggressive) (next b aggressive).graph cnt base) (ap (λ (y : ℕ). y + k) start_is ∙ sym end)
              (trimmed₅ b aggressive
              (omega (arith, a.wide, start_is)) (omega (arith, start_is, a.free)) behind);
          ordered = subst (Ordered n (done₅ b aggressive) (next b aggressive).graph) (sym a.turns)
              (order_next n s g t.made b.stands.ordered (done₅ b aggressive) (next b aggressive).graph p (pivot_var b) (λ i ne. order_same i ∙ a.order i ne) (order_same t.made ∙ a.last)
              (element_stays b aggressive) (pivot_now b aggressive));
          free = ap (λ (r : room.Room). r.free) room_is ∙ sym end;
          collections = ap (λ (r : room.Room). r.collections) room_is;
          one = omega (
            arith,
            ap (λ (r : room.Room). r.collections) room_is,
            one_collection st b.inv p d (pivot_var b) size rm (omega (arith, b.stands.free, b.stands.drawn.space.lists.fits, b.stands.long)) b.wide (next b aggressive),
          );
        }

  pub made₅ : Made
  made₅ = by (elements_of g p) refl
    where
      by : (es : List ℕ) → elements_of g p ≡ es → Made
      by [] e = made_alone e
      by (y ∷ ys) e = made_last (omega (arith, ap length e))
