-- One merge in memory: what `joined` changes, and that the memory then holds the graph of `merge_into`.
-- Assumes nothing.
use Prim.Native.Nat.{◌+◌, ◌<◌, ◌≤◌, ◌^◌, ℕ}
use native.Mathlib.Omega.{arith}
use mathlib.Core.Bool.{Bool, true, false, cond, not, ◌&&◌}
use mathlib.Core.List.{List, [], ◌∷◌}
use mathlib.Core.Logic.{◌≢◌, ◌⊎◌, inl, inr}
use mathlib.Core.Option.{some}
use mathlib.Core.Path.{◌∙◌, ◌≡◌, ap, refl, sym}
use borrow.Author.Tests.{lt-ltb, ltb-true}
use lib.Dec.{eqb, ltb}
use lib.IntN.{ℤ}
use lib.ListN.{get_or, length}
use Rattle.plain.proofs.Entries.{entries_none, upd_other, upd_same}
use Rattle.plain.proofs.Logic.{clash}
use Rattle.plain.proofs.Members.{member_there}
use Rattle.plain.specs.Lists.{member}
use Rattle.plain.specs.Members.{In}
use Rattle.plain.specs.Turns.{upd}
use Rattle.cells.proofs.Fields.{room_up}
use Rattle.cells.proofs.Laws.{mem, rd_hang_field, rd_up_field, room_yes}
use Rattle.cells.proofs.Parents.{room_hang}
use Rattle.cells.proofs.Slices.{plus_sum, same?}
use Rattle.cells.specs.Layout.{DEGREE, ELEN, LEN, MERGES, NV, ORD, PE, WANT}
use Rattle.cells.specs.Links.{named, parent}
use Rattle.cells.specs.View.{Room, at, plus, rd}
use Rattle.definition.specs.State.{Graph, elements_of, has_weight, is_variable, kind, merge_into, weight}
use Rattle.definition.specs.State as state
use Rattle.drawn.specs.Drawn.{Within, list_of}
use Rattle.facts.proofs.Classes.{parent_gone}
use Rattle.facts.proofs.Merging.{degrees_kept, elements_kept, kind_gone, kind_kept, parent_kept, variables_kept, weight_gone, weight_into, weight_kept}
use Rattle.facts.specs.Invariant.{Sized}
use Rattle.packed.proofs.Frame.{changed}
use Rattle.packed.proofs.Orders.{sorted_by, sorted_fewer}
use Rattle.packed.proofs.Spaces.{space_renamed}
use Rattle.packed.specs.Places.{Owns, Space, places}
use Rattle.merging.specs.Model.{joined, left, weighed}

-- ---- a list less

-- from s to s' the list of j is gone, and no other is touched
pub record Gone (n : ℕ) (s s' : List ℤ) (j : ℕ) : Type 0 where
  pub room : Room n s'
  pub pe : (v : ℕ) → v ≢ j → rd n PE s' v ≡ rd n PE s v
  pub len : (v : ℕ) → v ≢ j → rd n LEN s' v ≡ rd n LEN s v
  pub dead : rd n LEN s' j ≡ 0
  pub order : (t : ℕ) → rd n ORD s' t ≡ rd n ORD s t

module _ (n : ℕ) (X : ℕ → List ℕ) (l s : List ℤ) (cnt base lim : ℕ) (h : Space n X l s cnt base lim) (s' : List ℤ) (j : ℕ) (k : Gone n s s' j) where
  none : (q : ℕ) → Owns (places n s') j q → ⊥
  none q o = let z = k.dead in omega (arith, o.from, o.to)

  fewer : (i : ℕ) → 0 < rd n LEN s' i → (i ≡ j) ⊎ (i ≢ j) → (rd n PE s' i ≡ rd n PE s i) × (rd n LEN s' i ≤ rd n LEN s i)
  fewer i a (inl e) = absurd (let z = k.dead in omega (arith, ap (rd n LEN s') e))
  fewer i a (inr d) = (k.pe i d, omega (arith, k.len i d))

  pub space_gone : Space n (upd X j []) l s' cnt base lim
  space_gone =
      record {
        lists =
            changed l (places n s) lim X h.lists j l (places n s') lim []
            record {
              stays = λ i d. record { pe = k.pe i d; len = k.len i d };
              kept = λ i q d o. refl;
              new = rw k.dead (entries_none (at l) (rd n PE s' j));
              clear = λ i q d o w. none q w;
              below = λ q w. absurd (none q w);
              others = λ i q d o. h.lists.under i q o;
              fits = h.lists.fits;
            };
        room = k.room;
        sorted = sorted_by (places n s') (rd n ORD s) (rd n ORD s') k.order cnt base lim
            (sorted_fewer (places n s) (places n s') (λ i x. fewer i x (same? i j)) (rd n ORD s) cnt base lim lim (omega arith) h.sorted);
      }

-- ---- what a merge changes

module _ (n : ℕ) (s : List ℤ) (i j log : ℕ) (r : Room n s) (hi : i < n) (hj : j < n) (d : i ≢ j) where
  pub join_field : (c v : ℕ) → eqb NV c ≡ false → eqb LEN c ≡ false → eqb PE c ≡ false → eqb MERGES c ≡ false → rd n c (joined n s i j log) v ≡ rd n c s v
  unfolding joined left weighed
  join_field c v a b e f =
      rd_up_field n MERGES c _ log j v f ∙ rd_hang_field n c _ j (named n i) v e ∙ rd_up_field n LEN c _ j 0 v b ∙ rd_up_field n NV c _ j 0 v a
      ∙ rd_up_field n NV c s i (plus (rd n NV s i) (rd n NV s j)) v a

  -- another row
  pub join_other : (c v : ℕ) → v ≢ i → v ≢ j → eqb MERGES c ≡ false → rd n c (joined n s i j log) v ≡ rd n c s v
  unfolding joined left weighed
  join_other c v e f a = rd_up_field n MERGES c _ log j v a ∙ simp mem

  pub join_room : Room n (joined n s i j log)
  unfolding joined left weighed
  join_room = room_up n MERGES _ log j (room_hang n _ j (named n i) (room_up n LEN _ j 0 (room_up n NV _ j 0 (room_up n NV s i _ r))))

  pub join_gone : Gone n s (joined n s i j log) j
  unfolding joined left weighed
  join_gone =
      record {
        room = join_room;
        pe = λ v e. simp mem;
        len = λ v e. simp mem;
        dead = simp (mem, room_yes n s r, lt-ltb j n hj);
        order = λ t. join_field ORD t refl refl refl refl;
      }

  pub join_parent : parent n (joined n s i j log) j ≡ some i
  unfolding joined left weighed
  join_parent = simp (mem, room_yes n s r, lt-ltb j n hj, lt-ltb i n hi)

  pub join_parents : (v : ℕ) → v ≢ j → parent n (joined n s i j log) v ≡ parent n s v
  unfolding joined left weighed
  join_parents v e = simp mem

  pub join_weight : rd n NV s i + rd n NV s j < 2 ^ 63 → rd n NV (joined n s i j log) i ≡ rd n NV s i + rd n NV s j
  unfolding joined left weighed
  join_weight b = simp (mem, room_yes n s r, lt-ltb i n hi, plus_sum (rd n NV s i) (rd n NV s j) b)

  pub join_light : rd n NV (joined n s i j log) j ≡ 0
  unfolding joined left weighed
  join_light = simp (mem, room_yes n s r, lt-ltb j n hj)

  pub join_weights : (v : ℕ) → v ≢ i → v ≢ j → rd n NV (joined n s i j log) v ≡ rd n NV s v
  unfolding joined left weighed
  join_weights v e f = simp mem

  pub join_logged : log < n → rd n MERGES (joined n s i j log) log ≡ j
  unfolding joined left weighed
  join_logged b = simp (mem, room_yes n s r, lt-ltb log n b)

  pub join_log : (t : ℕ) → t ≢ log → rd n MERGES (joined n s i j log) t ≡ rd n MERGES s t
  unfolding joined left weighed
  join_log t e = simp mem

-- ---- the graph that the memory then holds

module _ {n : ℕ} (l s : List ℤ) (g : Graph) (p : ℕ) (new : List ℕ) (cnt base lim : ℕ) (h : Within n l s g p new cnt base lim) (sized : Sized n g)
    (i j log : ℕ) (hi : i < n) (hj : j < n) (d : i ≢ j) (jp : j ≢ p) (mi : In i new) (mj : In j new) (heavy : has_weight g i ≡ true)
    (small : weight g i + weight g j < 2 ^ 63) where
  abbrev t : Graph
  t = merge_into i j g

  abbrev s' : List ℤ
  s' = joined n s i j log

  r : Room n s
  r = h.space.room

  weights : (v : ℕ) → v < n → (v ≡ i) ⊎ (v ≢ i) → (v ≡ j) ⊎ (v ≢ j) → rd n NV s' v ≡ weight t v
  weights v b (inl e) f =
      let a = h.weights i hi in
      let c = h.weights j hj in
      rw e (join_weight n s i j log r hi hj d (omega arith) ∙ rw (a, c) (sym (weight_into i j g sized hi d)))
  weights v b (inr e) (inl f) = rw f (join_light n s i j log r hi hj d ∙ sym (weight_gone i j g sized hj))
  weights v b (inr e) (inr f) = join_weights n s i j log r hi hj d v e f ∙ h.weights v b ∙ sym (weight_kept i j v g e f)

  -- nobody of the new element is wanted
  unwanted : (v : ℕ) → In v new → (k : Graph) → cond (is_variable (kind k v) && not (member v (p ∷ new))) (weight k v) 0 ≡ 0
  unwanted v m k = rw (member_there v p new m) (go (is_variable (kind k v)))
    where
      go : (b : Bool) → cond (b && false) (weight k v) 0 ≡ 0
      go true = refl
      go false = refl

  wants : (v : ℕ) → v < n → (v ≡ i) ⊎ (v ≢ i) → (v ≡ j) ⊎ (v ≢ j)
      → rd n WANT s v ≡ cond (is_variable (kind t v) && not (member v (p ∷ new))) (weight t v) 0
  wants v b (inl e) f = rw e (h.wants i hi ∙ unwanted i mi g ∙ sym (unwanted i mi t))
  wants v b (inr e) (inl f) = rw f (h.wants j hj ∙ unwanted j mj g ∙ sym (unwanted j mj t))
  wants v b (inr e) (inr f) = rw (kind_kept i j v g f, weight_kept i j v g e f) (h.wants v b)

  parents : (v : ℕ) → v < n → rd n LEN s' v ≡ 0 → (v ≡ j) ⊎ (v ≢ j) → parent n s' v ≡ state.parent t v
  parents v b z (inl e) = rw e (join_parent n s i j log r hi hj d ∙ sym (parent_gone i j g sized hj))
  parents v b z (inr e) =
      join_parents n s i j log r hi hj d v e
      ∙ h.parents v b (sym ((join_gone n s i j log r hi hj d).len v e) ∙ z)
      ∙ sym (parent_kept i j v g e)

  still : (v : ℕ) → v ≢ j → (v ≡ i) ⊎ (v ≢ i) → has_weight t v ≡ has_weight g v
  still v f (inl e) =
      rw e (lt-ltb 0 (weight t i) (omega (arith, ltb-true 0 (weight g i) heavy, weight_into i j g sized hi d)) ∙ sym heavy)
  still v f (inr e) = ap (ltb 0) (weight_kept i j v g e f)

  lists : (v : ℕ) → (v ≡ p) ⊎ (v ≢ p) → (v ≡ j) ⊎ (v ≢ j) → upd (upd (list_of g) p new) j [] v ≡ upd (list_of t) p new v
  unfolding list_of
  lists v (inl e) (inl f) = absurd (jp (sym f ∙ e))
  lists v (inl e) (inr f) = rw (upd_other (upd (list_of g) p new) j [] v f, e, upd_same (list_of g) p new, upd_same (list_of t) p new)
  lists v (inr e) (inl f) = rw (upd_other (list_of t) p new v e, f, upd_same (upd (list_of g) p new) j [], weight_gone i j g sized hj)
  lists v (inr e) (inr f) =
      rw (upd_other (upd (list_of g) p new) j [] v f, upd_other (list_of g) p new v e, upd_other (list_of t) p new v e, still v f (same? v i), parent_kept i j v g f, elements_kept i j g, variables_kept i j g)

  elens : (v : ℕ) → is_variable (kind t v) ≡ true → (v ≡ j) ⊎ (v ≢ j) → rd n ELEN s v ≡ length (elements_of t v)
  elens v a (inl e) = clash (is_variable (kind t v)) a (rw (e, kind_gone i j g sized hj))
  elens v a (inr e) = rw (elements_kept i j g) (h.elens v (ap is_variable (sym (kind_kept i j v g e)) ∙ a))

  -- the memory after a merge holds the graph after it
  pub join_drawn : Within n l s' t p new cnt base lim
  join_drawn =
      record {
        space =
            space_renamed n (upd (upd (list_of g) p new) j []) l s' cnt base lim
            (space_gone n (upd (list_of g) p new) l s cnt base lim h.space s' j (join_gone n s i j log r hi hj d))
            (upd (list_of t) p new) (λ v. lists v (same? v p) (same? v j));
        weights = λ v b. weights v b (same? v i) (same? v j);
        wants = λ v b. join_field n s i j log r hi hj d WANT v refl refl refl refl ∙ wants v b (same? v i) (same? v j);
        elens = λ v a. join_field n s i j log r hi hj d ELEN v refl refl refl refl ∙ elens v a (same? v j);
        degrees = λ v b. join_field n s i j log r hi hj d DEGREE v refl refl refl refl ∙ h.degrees v b ∙ ap (λ (x : List ℕ). get_or x v 0) (sym (degrees_kept i j g));
        parents = λ v b z. parents v b z (same? v j);
      }
