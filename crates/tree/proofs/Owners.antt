-- P6: going through the merges backwards once, each merged row's parent becomes the element that it belongs to.
-- Assumes nothing.
use Prim.Native.Nat.{ℕ, suc, ◌+◌, ◌-◌, ◌≤◌, ◌<◌}
use native.Mathlib.Omega.{arith}
use native.Mathlib.Nat.{zero-add}
use mathlib.Core.Path.{◌≡◌, refl, sym, ap, ◌∙◌, subst}
use mathlib.Core.Logic.{◌≢◌}
use mathlib.Core.Bool.{false, cond}
use mathlib.Core.List.{List}
use mathlib.Core.Option.{none, some}
use lib.Dec.{eqb}
use lib.IntN.{ℤ}
use lib.ListN.{length, get_or}
use borrow.Author.Tests.{eq-eqb, ne_eqb, eqb-true, eqb-false}
use Rattle.plain.proofs.Entries.{entries_at}
use Rattle.plain.proofs.Logic.{either}
use Rattle.plain.proofs.Positions.{member_get_or, position_is, position_get_or}
use Rattle.plain.proofs.Turns.{times_keeps}
use Rattle.plain.specs.Lists.{position}
use Rattle.definition.specs.State.{Graph, Kind, variable, merged, element, dense, kind, weight, rep}
use Rattle.definition.specs.State as state
use Rattle.definition.specs.Tree.{size_of}
use Rattle.cells.proofs.Laws.{rd_hang_field}
use Rattle.cells.proofs.Parents.{named_some, room_hang, parent_hang_same, parent_hang_other}
use Rattle.cells.specs.Layout.{ELEN, MERGES, NV}
use Rattle.cells.specs.Links.{named, parent, hang}
use Rattle.cells.specs.View.{rd, Room}
use Rattle.tree.specs.Final.{Final, Ended}
use Rattle.tree.specs.Model.{above, owned, owned_all}

pub above_some : (n : ℕ) (s : List ℤ) (i p : ℕ) → parent n s i ≡ some p → above n s i ≡ p
unfolding above
above_some n s i p e = rw e

pub above_none : (n : ℕ) (s : List ℤ) (i : ℕ) → parent n s i ≡ none → above n s i ≡ n
unfolding above
above_none n s i e = rw e

clash_kinds : {k : Kind} → k ≡ element → k ≡ dense → ⊥
clash_kinds p q = let z : ◌≡◌ {A = ℕ} 0 1 = cc in omega arith

module _ (n : ℕ) (s : List ℤ) (g : Graph) (rank : ℕ → ℕ) (ms : List ℕ) (start : Final n s g ms) (end : Ended n g rank) where
  abbrev at : ℕ → ℕ
  at u = get_or ms u 0

  abbrev size : ℕ
  size = length ms

  -- after k turns the last k rows of the log have their elements
  pub record Owning (k : ℕ) (m : List ℤ) : Type 0 where
    pub room : Room n m
    pub kept : (f i : ℕ) → eqb 0 f ≡ false → rd n f m i ≡ rd n f s i
    pub found : (u : ℕ) → size ≤ u + k → u < size → parent n m (at u) ≡ some (rep g (at u))
    pub rest : (v : ℕ) → ((u : ℕ) → size ≤ u + k → u < size → at u ≢ v) → parent n m v ≡ parent n s v

  -- two places of the log have different rows
  apart_at : (t u : ℕ) → t < size → u < size → t ≢ u → at t ≢ at u
  apart_at t u a b ne e = ne (sym (position_get_or ms t start.once a) ∙ ap (λ (x : ℕ). position x ms) e ∙ position_get_or ms u start.once b)

  module _ (k : ℕ) (m : List ℤ) (h : Owning k m) (less : k < size) where
    abbrev t : ℕ
    t = size - 1 - k

    abbrev v : ℕ
    v = at t

    lt : t < size
    lt = omega arith

    row : rd n MERGES m t ≡ v
    row = h.kept MERGES t refl ∙ ap (rd n MERGES s) (sym (zero-add t)) ∙ sym (entries_at (rd n MERGES s) 0 size t 0 lt) ∙ ap (λ (l : List ℕ). get_or l t 0) start.log

    is : (v < n) × (kind g v ≡ merged)
    is = start.only v (member_get_or ms t lt)

    parent_v : parent n m v ≡ state.parent g v
    parent_v = h.rest v (λ u a b. apart_at u t b lt (λ e. omega arith)) ∙ start.parents v is.0

    -- what it makes no difference how it comes about
    owns : (m' : List ℤ) → Room n m' → ((f i : ℕ) → eqb 0 f ≡ false → rd n f m' i ≡ rd n f m i) → parent n m' v ≡ some (rep g v) → ((i : ℕ) → v ≢ i → parent n m' i ≡ parent n m i)
        → Owning (suc k) m'
    owns m' r same here other = record {
      room = r;
      kept = λ f i e. same f i e ∙ h.kept f i e;
      found = λ u a b. either (parent n m' (at u) ≡ some (rep g (at u))) (eqb t u)
          (λ e. subst (λ (x : ℕ). parent n m' (at x) ≡ some (rep g (at x))) (eqb-true t u e) here)
          (λ e. let ne : t ≢ u = eqb-false t u e in other (at u) (apart_at t u lt b ne) ∙ h.found u (omega arith) b);
      rest = λ w x. other w (x t (omega arith) lt) ∙ h.rest w (λ u a b. x u (omega arith) b);
    }

    module _ (p : ℕ) (lp : p < n) (into : state.parent g v ≡ some p) (alike : rep g v ≡ rep g p) where
      above_v : above n m v ≡ p
      unfolding above
      above_v = rw (parent_v, into)

      weight_p : rd n NV m p ≡ weight g p
      weight_p = h.kept NV p refl ∙ start.weights p lp

      model : owned n v m ≡ cond (eqb (weight g p) 0) (hang n m v (named n (above n m p))) m
      unfolding owned
      model = rw (above_v, weight_p)

      by_kind : (x : Kind) → kind g p ≡ x → Owning (suc k) (owned n v m)
      by_kind variable e = absurd (end.idle p lp e)
      by_kind dense e =
          absurd (clash_kinds (subst (λ (x : ℕ). kind g x ≡ element) (alike ∙ end.alone p lp e) (end.owner v is.0 is.1).1) e)
      by_kind element e =
          let w = end.heavy p lp e in
          let z : weight g p ≢ 0 = λ x. omega arith in
          rw (model, ne_eqb (weight g p) 0 z) (owns m h.room (λ f i x. refl) (parent_v ∙ into ∙ ap some (sym (end.own p lp e) ∙ sym alike)) (λ i x. refl))
      by_kind merged e = rw (model, eq-eqb (weight g p) 0 (end.light_merged p lp e), above_p, named_some n (rep g p) (end.owner p lp e).0)
          (owns (hang n m v (some (rep g p))) (room_hang n m v (some (rep g p)) h.room) (λ f i x. rd_hang_field n f m v (some (rep g p)) i x)
          (parent_hang_same n m v (some (rep g p)) h.room is.0 ∙ ap some (sym alike)) (λ i ne. parent_hang_other n m v (some (rep g p)) i ne))
        where
          u_of : (position p ms < size) × (at (position p ms) ≡ p)
          u_of = position_is p ms (start.has p lp e)

          parent_p : parent n m p ≡ some (rep g p)
          parent_p = subst (λ (x : ℕ). parent n m x ≡ some (rep g x)) u_of.1 (h.found (position p ms) (omega (arith, start.later t p lt into e)) u_of.0)

          above_p : above n m p ≡ rep g p
          above_p = above_some n m p (rep g p) parent_p

    turn : Owning (suc k) (owned n (rd n MERGES m t) m)
    turn = rw row (let q = end.shares v is.0 is.1 in by_kind q.0 q.1 q.2 q.3 (kind g q.0) refl)

  begun : Owning 0 s
  begun = record { room = start.room; kept = λ f i e. refl; found = λ u a b. absurd (omega arith); rest = λ v x. refl }

  owning_all : Owning size (owned_all n size s)
  unfolding owned_all
  owning_all = times_keeps Owning (λ t m. owned n (rd n MERGES m (size - 1 - t)) m) size (λ k m l h. turn k m h l) size s (omega arith) begun

-- the memory in which each merged row's parent is its element
pub record Owned (n : ℕ) (g : Graph) (s : List ℤ) : Type 0 where
  pub room : Room n s
  pub weights : (v : ℕ) → v < n → rd n NV s v ≡ weight g v
  pub sizes : (e : ℕ) → e < n → kind g e ≡ element → rd n ELEN s e ≡ size_of g e
  pub of_merged : (v : ℕ) → v < n → kind g v ≡ merged → parent n s v ≡ some (rep g v)
  pub of_other : (v : ℕ) → v < n → (kind g v ≡ merged → ⊥) → parent n s v ≡ state.parent g v

-- P6
pub owned_all_lem : (n : ℕ) (s : List ℤ) (g : Graph) (rank : ℕ → ℕ) (ms : List ℕ) → Final n s g ms → Ended n g rank → Owned n g (owned_all n (length ms) s)
owned_all_lem n s g rank ms start end =
    let h = owning_all n s g rank ms start end in
    record {
      room = h.room;
      weights = λ v l. h.kept NV v refl ∙ start.weights v l;
      sizes = λ e l x. h.kept ELEN e refl ∙ start.sizes e l x;
      of_merged = λ v l x. let q = position_is v ms (start.has v l x) in
          subst (λ (y : ℕ). parent n (owned_all n (length ms) s) y ≡ some (rep g y)) q.1 (h.found (position v ms) (omega arith) q.0);
      of_other = λ v l x. h.rest v (λ u a b e. x (subst (λ (y : ℕ). kind g y ≡ merged) e (start.only (get_or ms u 0) (member_get_or ms u b)).1)) ∙ start.parents v l;
    }
