-- The gather of a pivot's new element, with its elements taken up: the lists of the passed graph, and the pivot's the new element's.
-- Assumes nothing.
use Prim.Native.Nat.{ℕ, suc, ◌+◌, ◌<◌, ◌^◌, ◌≤◌}
use native.Mathlib.Omega.{arith}
use mathlib.Core.Path.{◌≡◌, refl, sym, ap, subst, ◌∙◌}
use mathlib.Core.Logic.{◌≢◌, ◌⊎◌, inl, inr}
use mathlib.Core.Bool.{Bool, false, cond, not, ◌&&◌, false≢true}
use mathlib.Core.List.{List, [], ◌∷◌, foldl}
use mathlib.Core.Option.{none, some}
use borrow.Author.Tests.{le-ltb, lt-ltb}
use lib.Dec.{eqb}
use lib.IntN.{ℤ}
use lib.ListN.{length, length-map}
use Rattle.plain.proofs.Entries.{upd_other, upd_same}
use Rattle.plain.proofs.Members.{member_nil}
use Rattle.plain.specs.Lists.{member}
use Rattle.plain.specs.Members.{In}
use Rattle.plain.specs.Turns.{upd}
use Rattle.definition.specs.Pivot.{collected, passed}
use Rattle.definition.specs.Room as definition
use Rattle.definition.specs.State.{Graph, State, elements_of, is_variable, kind, weight}
use Rattle.facts.proofs.Weighed.{Weighed}
use Rattle.facts.specs.Invariant.{Inv, Var}
use Rattle.cells.proofs.Fields.{room_up}
use Rattle.cells.proofs.Laws.{mem, room_yes}
use Rattle.cells.proofs.Slices.{same?, split}
use Rattle.cells.specs.Layout.{PE, LEN, WANT, ELEN, W, NEXT, LAST, HEAD, TMP, ORD}
use Rattle.cells.specs.Links.{parent}
use Rattle.cells.specs.View.{rd, up}
use Rattle.chain.proofs.Alike.{Alike, alike_then}
use Rattle.chain.specs.Model.{removed}
use Rattle.packed.proofs.Agreement.{Agrees, Shows, gathered_definition, inside_collected}
use Rattle.packed.proofs.Dropping.{except}
use Rattle.packed.proofs.Inside.{Replaced, gathered_inside_lem}
use Rattle.packed.proofs.Outside.{Gathered}
use Rattle.packed.proofs.Spaces.{space_renamed, space_same}
use Rattle.packed.proofs.Taking.{wants}
use Rattle.packed.specs.Gather.{Inside, Outside, gathered_inside, gathered_outside}
use Rattle.packed.specs.Places.{Owns, Space, places}
use Rattle.packed.specs.Reading.{entries_of}
use Rattle.drawn.specs.Drawn.{list_of}
use Rattle.opening.specs.Begin.{gathered, gathered_alone}
use Rattle.opening.proofs.Shown.{elements_low, held_places, inside, not_among, passed_lists, shows}

-- from s to x the new element of p is gathered, and its elements are taken up
pub record Collects (n : ℕ) (g : Graph) (p : ℕ) (l s : List ℤ) (x : Outside) : Type 0 where
  pub space : Space n (upd (list_of (passed g p)) p (collected g p)) x.lists x.mem x.made.made x.made.base x.made.free
  pub place : rd n PE x.mem p ≡ x.made.start
  pub count : x.made.count ≡ length (collected g p)
  pub long : length x.lists ≡ length l
  pub want : (i : ℕ) → rd n WANT x.mem i ≡ except (rd n WANT s) (collected g p) 0 i
  pub w : (i : ℕ) → rd n W x.mem i ≡ except (rd n W s) (elements_of g p) 0 i
  -- the collected rows left their degree lists
  pub queues : Alike n (foldl (λ a v. removed n a v) s (collected g p)) x.mem
  pub fields : (f i : ℕ) → eqb PE f ≡ false → eqb LEN f ≡ false → eqb WANT f ≡ false → eqb TMP f ≡ false → eqb ORD f ≡ false → eqb W f ≡ false
      → eqb HEAD f ≡ false → eqb NEXT f ≡ false → eqb LAST f ≡ false → rd n f x.mem i ≡ rd n f s i
  pub own : parent n x.mem p ≡ none
  pub taken : (i : ℕ) → In i (elements_of g p) → parent n x.mem i ≡ some p
  pub others : (i : ℕ) → i ≢ p → member i (elements_of g p) ≡ false → rd n LEN x.mem i ≡ 0 → parent n x.mem i ≡ parent n s i

-- the new element of a pivot with elements is the last of the order and the last of the space, and the room is the definition's
pub record Last (n : ℕ) (g : Graph) (p : ℕ) (l s : List ℤ) (made : ℕ) (rm : definition.Room) (x : Outside) : Type 0 where
  pub turns : x.made.made ≡ suc made
  pub behind : (i c : ℕ) → i ≢ p → Owns (places n x.mem) i c → c < x.made.start
  pub wide : x.made.base ≤ x.made.start
  pub free : x.made.free ≡ x.made.start + x.made.count
  pub order : (i : ℕ) → i ≢ made → rd n ORD x.mem i ≡ rd n ORD s i
  pub last : rd n ORD x.mem made ≡ p
  pub stored : ((definition.stored (length l) g p rm).room.free ≡ x.made.free) × ((definition.stored (length l) g p rm).room.collections ≡ rm.collections + x.made.collected)
  pub shrinks : (k : ℕ) → definition.shrunk (definition.stored (length l) g p rm) k ≡ record { free = x.made.start + k; collections = rm.collections + x.made.collected }

-- that of a pivot without is in the pivot's place, and the order and the room are as before
pub record Same (n p : ℕ) (s : List ℤ) (made base lim : ℕ) (x : Outside) : Type 0 where
  pub start : x.made.start ≡ rd n PE s p
  pub turns : x.made.made ≡ made
  pub low : x.made.base ≡ base
  pub free : x.made.free ≡ lim
  pub order : (i : ℕ) → rd n ORD x.mem i ≡ rd n ORD s i
  pub collected : x.made.collected ≡ 0

module _ (n : ℕ) (l s : List ℤ) (t : State) (inv : Inv n t) (wd : Weighed t) (p : ℕ) (pv : Var t.graph p) (made base lim : ℕ) (small : n < 2 ^ 63) (narrow : length l < 2 ^ 63)
    (space : Space n (list_of t.graph) l s made base lim)
    (want : (v : ℕ) → v < n → rd n WANT s v ≡ cond (is_variable (kind t.graph v) && not (eqb v p)) (weight t.graph v) 0)
    (elen : rd n ELEN s p ≡ length (elements_of t.graph p)) where
  abbrev g : Graph
  g = t.graph

  abbrev es : List ℕ
  es = elements_of g p

  abbrev X : ℕ → List ℕ
  X = list_of g

  abbrev new : List ℕ
  new = collected g p

  hp : p < n
  hp = inside n t inv p pv

  -- ---- a pivot without elements

  module _ (bare : es ≡ []) where
    abbrev o : Inside
    o = gathered_inside n p l s

    shown : Shows g p X (wants n s)
    shown = shows n t inv p pv wd s want

    r : Replaced n X l s made base lim p new o
    r = subst (λ (x : List ℕ). Replaced n X l s made base lim p x o) (inside_collected g p X (wants n s) shown bare) (gathered_inside_lem n X l s made base lim space narrow p hp)

    none_of : (i : ℕ) → member i es ≡ false
    none_of i = ap (member i) bare ∙ member_nil i

    place_by : (i : ℕ) → (i ≡ p) ⊎ (i ≢ p) → rd n PE (up n PE o.mem p (rd n PE s p)) i ≡ rd n PE o.mem i
    place_by i (inl e) = rw e (let z : rd n PE (up n PE o.mem p (rd n PE s p)) p ≡ rd n PE s p = simp (mem, room_yes n o.mem r.space.room, lt-ltb p n hp) in z ∙ sym (r.fields PE p refl refl refl refl refl refl))
    place_by i (inr d) = simp mem

    pub alone_collects : Collects n t.graph p l s (gathered_alone n p base lim made l s)
    unfolding gathered_alone
    alone_collects =
        let m : List ℤ = up n PE o.mem p (rd n PE s p) in
        let a : Space n (upd X p new) o.lists m made base lim =
        space_same n (upd X p new) o.lists o.mem made base lim r.space m (room_up n PE o.mem p (rd n PE s p) r.space.room)
        (λ i. place_by i (same? i p)) (λ i. simp mem) (λ i. simp mem) in
        record {
          space = space_renamed n (upd X p new) o.lists m made base lim a (upd (list_of (passed g p)) p new)
              (λ i. same_lists_lem i (same? i p) ∙ passed_lists n t inv p pv new i);
          place = simp (mem, room_yes n o.mem r.space.room, lt-ltb p n hp);
          count = r.count;
          long = r.long;
          want = λ i. let z : rd n WANT m i ≡ rd n WANT o.mem i = simp mem in z ∙ r.want i;
          w = λ i. let z : rd n W m i ≡ rd n W o.mem i = simp mem in z ∙ r.fields W i refl refl refl refl refl refl ∙ sym (ap (λ (b : Bool). cond b 0 (rd n W s i)) (none_of i));
          queues = alike_then r.queues record { head = λ i. simp mem; next = λ i. simp mem; last = λ i. simp mem; degree = λ i. simp mem };
          fields = λ f i a b c d e h u v w. let z : rd n f m i ≡ rd n f o.mem i = simp (mem, a) in z ∙ r.fields f i b c d u v w;
          own = simp mem;
          taken = λ i h. absurd (false≢true (sym (none_of i) ∙ h));
          others = λ i d h z. let y : parent n m i ≡ parent n o.mem i = simp mem in y ∙ r.parents i;
        }
      where
        same_lists_lem : (i : ℕ) → (i ≡ p) ⊎ (i ≢ p) → upd X p new i ≡ upd (except X es []) p new i
        same_lists_lem i (inl e) = rw e (upd_same X p new ∙ sym (upd_same (except X es []) p new))
        same_lists_lem i (inr d) = upd_other X p new i d ∙ sym (ap (λ (b : Bool). cond b [] (X i)) (none_of i)) ∙ sym (upd_other (except X es []) p new i d)

    pub alone_same : Same n p s made base lim (gathered_alone n p base lim made l s)
    unfolding gathered_alone
    alone_same =
        record {
          start = refl;
          turns = refl;
          low = refl;
          free = refl;
          order = λ i. let z : rd n ORD (up n PE o.mem p (rd n PE s p)) i ≡ rd n ORD o.mem i = simp mem in z ∙ r.fields ORD i refl refl refl refl refl refl;
          collected = refl;
        }

  -- ---- a pivot with elements

  module _ (turns : made < n) (fresh : (i : ℕ) → i < made → rd n ORD s i ≢ p) (room : definition.all_places t.graph + n ≤ length l)
      (rm : definition.Room) (at_lim : rm.free ≡ lim) where
    abbrev x : Outside
    x = gathered_outside n p base lim made l s

    -- packed's theorem
    agrees : Agrees n g p X l s made base lim rm
    agrees =
        gathered_definition n g p X l s made base lim rm space small narrow (shows n t inv p pv wd s want) hp elen (inv.graph.distinct_elements p pv) (not_among n t inv p pv)
        (elements_low n t inv p pv) turns fresh (held_places g inv.graph) room at_lim

    gd : Gathered n X l s made base lim p es agrees.entries x
    gd = agrees.gathered

    with_collects : Collects n g p l s x
    with_collects =
        let e : entries_of agrees.entries ≡ new = agrees.new in
        let U : ℕ → List ℕ = upd (except X es []) p (entries_of agrees.entries) in
        record {
          space = rw gd.turns (space_renamed n U x.lists x.mem (suc made) x.made.base x.made.free gd.space (upd (list_of (passed g p)) p new)
              (λ i. ap (λ (y : List ℕ). upd (except X es []) p y i) e ∙ passed_lists n t inv p pv new i));
          place = gd.place;
          count = gd.count ∙ sym (length-map agrees.entries (λ (a : definition.Read). a.entry)) ∙ ap length e;
          long = gd.long;
          want = λ i. gd.want i ∙ ap (λ (y : List ℕ). cond (member i y) 0 (rd n WANT s i)) e;
          w = gd.w;
          queues = rw (← e) gd.queues;
          fields = gd.fields;
          own = gd.own;
          taken = gd.taken;
          others = gd.parents;
        }

    with_last : Last n g p l s made rm x
    with_last =
        record {
          turns = gd.turns;
          behind = gd.others;
          wide = gd.wide;
          free = omega (arith, gd.free, gd.count);
          order = gd.order;
          last = gd.last;
          stored = agrees.after;
          shrinks = agrees.shrinks;
        }

    empty_list : (xs : List ℕ) → length xs ≤ 0 → xs ≡ []
    empty_list [] z = refl
    empty_list (y ∷ ys) z = absurd (omega arith)

    -- either way
    gather_by : (0 < rd n ELEN s p) ⊎ (rd n ELEN s p ≤ 0) → Collects n g p l s (gathered n p base lim made l s)
    unfolding gathered
    gather_by (inl h) = rw (lt-ltb 0 (rd n ELEN s p) h) with_collects
    gather_by (inr h) = rw (le-ltb 0 (rd n ELEN s p) h) (alone_collects (empty_list es (omega (arith, elen))))

    pub collects : Collects n t.graph p l s (gathered n p base lim made l s)
    collects = gather_by (split 0 (rd n ELEN s p))

    pub lasts : 0 < length (elements_of t.graph p) → Last n t.graph p l s made rm (gathered n p base lim made l s)
    unfolding gathered
    lasts h = rw (lt-ltb 0 (rd n ELEN s p) (omega (arith, elen))) with_last

    pub same_still : elements_of t.graph p ≡ [] → Same n p s made base lim (gathered n p base lim made l s)
    unfolding gathered
    same_still e = rw (le-ltb 0 (rd n ELEN s p) (omega (arith, elen, ap length e))) (alone_same e)
