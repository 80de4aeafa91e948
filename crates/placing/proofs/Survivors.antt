-- The loop over the rows of the new element, against the definition's `placed`: `survivors_placed`.
-- Assumes nothing.
use Prim.Native.Nat.{ℕ, ◌≤◌, ◌<◌, min}
use native.Mathlib.Omega.{arith}
use mathlib.Core.Path.{◌≡◌, refl, sym, ap, ◌∙◌, subst⁻¹}
use mathlib.Core.Logic.{◌≢◌, ◌⊎◌, inl, inr}
use mathlib.Core.Bool.{Bool, true, false, cond, not, ◌&&◌, ◌||◌}
use mathlib.Core.List.{List, [], ◌∷◌, foldl}
use borrow.Author.Tests.{lt-ltb, ltb-true, ltb-false, ne_eqb}
use lib.Dec.{eqb}
use lib.IntN.{ℤ}
use lib.ListN.{length, length-set}
use lib.Seq.{get_or-set_same, get_or-set_other}
use Rattle.plain.proofs.Members.{member_here, member_there, not_cons, apart}
use Rattle.plain.specs.Lists.{member, keep, cons_if}
use Rattle.plain.specs.Members.{In, Distinct}
use Rattle.definition.specs.State.{Graph, kind, weight, degree, has_weight, is_variable, queue_of, put_degree}
use Rattle.definition.specs.Place.{Placed, new_degree, place_one, placed}
use Rattle.facts.proofs.Queues.{new_low}
use Rattle.cells.proofs.Fields.{room_up}
use Rattle.cells.proofs.Laws.{mem, parent_up_field, rd_up_field, room_yes}
use Rattle.cells.proofs.Slices.{same?}
use Rattle.cells.specs.Layout.{WANT, DEGREE, NEXT, LAST, HEAD, NV}
use Rattle.cells.specs.Links.{parent}
use Rattle.cells.specs.View.{Room, rd, up}
use Rattle.chain.proofs.Frame.{chained_up}
use Rattle.chain.proofs.Fronts.{front_rep, push_fresh, size_push}
use Rattle.chain.proofs.Push.{pushed_degree, pushed_degree_other, pushed_other, pushed_parent, pushed_room}
use Rattle.chain.specs.Chained.{Chained}
use Rattle.chain.specs.Model.{pushed}
use Rattle.placing.specs.Model.{degree_of, Spot, enlisted_at, placed_row, placed_one}

-- From the scratch s, of the pivot p and the graph g before step 6: m is what the code has, q what the definition has, and the rows of `rest` are to be placed.
pub record Halfway (n p : ℕ) (g : Graph) (s : List ℤ) (m : Spot) (q : Placed) (rest : List ℕ) : Type 0 where
  pub room : Room n m.mem
  pub chained : Chained n m.mem (queue_of q.queues)
  pub size : length q.queues ≡ n
  pub wide : length q.graph.degrees ≡ n
  pub least : m.least ≡ q.least
  pub weights : (v : ℕ) → weight q.graph v ≡ weight g v
  pub degrees : (v : ℕ) → v < n → v ≢ p → rd n DEGREE m.mem v ≡ degree q.graph v
  pub wants : (v : ℕ) → v < n → rd n WANT m.mem v ≡ cond (is_variable (kind g v) && not (member v (p ∷ rest))) (weight g v) 0
  pub fresh : (v e : ℕ) → In v rest → e < n → member v (queue_of q.queues e) ≡ false
  pub out : (e : ℕ) → e < n → member p (queue_of q.queues e) ≡ false
  pub fields : (f v : ℕ) → eqb HEAD f ≡ false → eqb NEXT f ≡ false → eqb LAST f ≡ false → eqb DEGREE f ≡ false → eqb WANT f ≡ false → rd n f m.mem v ≡ rd n f s v
  pub parents : (v : ℕ) → parent n m.mem v ≡ parent n s v

-- a row behind the first that is not the second
skip : (u p v : ℕ) (rest : List ℕ) → u ≢ v → member u (p ∷ v ∷ rest) ≡ member u (p ∷ rest)
unfolding member
skip u p v rest ne = ap (λ (b : Bool). eqb u p || (b || member u rest)) (ne_eqb u v ne)

-- a weight of 0 is 0 either way
no_weight : (b c : Bool) (x : ℕ) → x ≡ 0 → cond b x 0 ≡ cond c x 0
no_weight true true x e = refl
no_weight true false x e = e
no_weight false true x e = sym e
no_weight false false x e = refl

module _ (n p : ℕ) (g : Graph) (s : List ℤ) (left size : ℕ) (small : left ≤ n) (nv : (v : ℕ) → v < n → rd n NV s v ≡ weight g v) where
  module _ (m : Spot) (q : Placed) (v : ℕ) (rest : List ℕ) (hv : v < n) (ne : v ≢ p) (once : member v rest ≡ false) (h : Halfway n p g s m q (v ∷ rest)) where
    own : rd n NV m.mem v ≡ weight g v
    own = h.fields NV v refl refl refl refl refl ∙ nv v hv

    wants_other : (u : ℕ) → u < n → u ≢ v → rd n WANT m.mem u ≡ cond (is_variable (kind g u) && not (member u (p ∷ rest))) (weight g u) 0
    wants_other u hu d = h.wants u hu ∙ ap (λ (b : Bool). cond (is_variable (kind g u) && not b) (weight g u) 0) (skip u p v rest d)

    module _ (heavy : has_weight g v ≡ true) (var : is_variable (kind g v) ≡ true) where
      abbrev d : ℕ
      d = new_degree left size q.graph v

      abbrev a : List ℤ
      a = up n WANT m.mem v (weight g v)

      one_is : placed_one n size left v m ≡ enlisted_at n v (weight g v) d m
      unfolding placed_one placed_row degree_of new_degree
      one_is = rw (own, heavy, h.degrees v hv ne, h.weights v)

      low : d < n
      low = new_low n left size q.graph v small (omega arith) (omega (arith, h.weights v, ltb-true 0 (weight g v) heavy))

      room_a : Room n a
      room_a = room_up n WANT m.mem v (weight g v) h.room

      degree_at : (u : ℕ) → u < n → u ≢ p → (u ≡ v) ⊎ (u ≢ v) → rd n DEGREE (pushed n a d v) u ≡ degree (place_one left size q v).graph u
      unfolding place_one put_degree
      degree_at u hu up (inl e) =
          rw e (pushed_degree n a d v room_a hv ∙ sym (get_or-set_same q.graph.degrees v d 0 (omega (arith, h.wide))))
      degree_at u hu up (inr e) =
          pushed_degree_other n a d v u (λ x. e (sym x)) ∙ rd_up_field n WANT DEGREE m.mem v (weight g v) u refl ∙ h.degrees u hu up
          ∙ sym (get_or-set_other q.graph.degrees v u d 0 e)

      want_own : rd n WANT a v ≡ weight g v
      want_own = simp (mem, room_yes n m.mem h.room, lt-ltb v n hv)

      want_goal : weight g v ≡ cond (is_variable (kind g v) && not (member v (p ∷ rest))) (weight g v) 0
      want_goal = rw (var, not_cons v p rest ne once)

      want_at : (u : ℕ) → u < n → (u ≡ v) ⊎ (u ≢ v) → rd n WANT a u ≡ cond (is_variable (kind g u) && not (member u (p ∷ rest))) (weight g u) 0
      want_at u hu (inl e) =
          subst⁻¹ (λ (x : ℕ). rd n WANT a x ≡ cond (is_variable (kind g x) && not (member x (p ∷ rest))) (weight g x) 0) e (want_own ∙ want_goal)
      want_at u hu (inr e) =
          let f : v ≢ u = λ x. e (sym x) in
          let same : rd n WANT a u ≡ rd n WANT m.mem u = simp mem in
          same ∙ wants_other u hu e

      enlisted : Halfway n p g s (enlisted_at n v (weight g v) d m) (place_one left size q v) rest
      unfolding enlisted_at place_one put_degree
      enlisted =
          record {
            room = pushed_room n a d v room_a;
            chained = front_rep n a d v q.queues h.size low hv room_a (chained_up n m.mem (queue_of q.queues) h.chained WANT v (weight g v) refl refl refl refl)
                (λ e he. h.fresh v e (member_here v rest) he);
            size = size_push q.queues d v ∙ h.size;
            wide = length-set q.graph.degrees v d ∙ h.wide;
            least = ap (λ (x : ℕ). min x d) h.least;
            weights = h.weights;
            degrees = λ u hu up. degree_at u hu up (same? u v);
            wants = λ u hu. pushed_other n a d v WANT u refl refl refl refl ∙ want_at u hu (same? u v);
            fresh = λ u e i he. push_fresh q.queues d v (omega (arith, h.size, low)) u e (λ x. apart v u rest once i (sym x)) (h.fresh u e (member_there u v rest i) he);
            out = λ e he. push_fresh q.queues d v (omega (arith, h.size, low)) p e (λ x. ne (sym x)) (h.out e he);
            fields = λ f u b c x y z. pushed_other n a d v f u b c x y ∙ rd_up_field n WANT f m.mem v (weight g v) u z ∙ h.fields f u b c x y z;
            parents = λ u. pushed_parent n a d v u ∙ parent_up_field n WANT m.mem v (weight g v) u refl ∙ h.parents u;
          }

      pub step_yes : Halfway n p g s (placed_one n size left v m) (place_one left size q v) rest
      step_yes = subst⁻¹ (λ (x : Spot). Halfway n p g s x (place_one left size q v) rest) one_is enlisted

    module _ (light : has_weight g v ≡ false) where
      zero_weight : weight g v ≡ 0
      zero_weight = omega (arith, ltb-false 0 (weight g v) light)

      none_is : placed_one n size left v m ≡ m
      unfolding placed_one
      none_is = rw (own, light)

      want_none : (u : ℕ) → u < n → (u ≡ v) ⊎ (u ≢ v) → rd n WANT m.mem u ≡ cond (is_variable (kind g u) && not (member u (p ∷ rest))) (weight g u) 0
      want_none u hu (inl e) =
          h.wants u hu
          ∙ no_weight (is_variable (kind g u) && not (member u (p ∷ v ∷ rest))) (is_variable (kind g u) && not (member u (p ∷ rest))) (weight g u) (ap (weight g) e ∙ zero_weight)
      want_none u hu (inr e) = wants_other u hu e

      pub step_no : Halfway n p g s (placed_one n size left v m) q rest
      step_no =
          subst⁻¹ (λ (x : Spot). Halfway n p g s x q rest) none_is
          record {
            room = h.room;
            chained = h.chained;
            size = h.size;
            wide = h.wide;
            least = h.least;
            weights = h.weights;
            degrees = h.degrees;
            wants = λ u hu. want_none u hu (same? u v);
            fresh = λ u e i he. h.fresh u e (member_there u v rest i) he;
            out = h.out;
            fields = h.fields;
            parents = h.parents;
          }

  -- all rows, in order: those with a weight are placed
  pub survivors_placed : (vs : List ℕ) → Distinct vs → ((v : ℕ) → In v vs → v < n) → ((v : ℕ) → In v vs → v ≢ p)
      → ((v : ℕ) → In v vs → has_weight g v ≡ true → is_variable (kind g v) ≡ true) → (m : Spot) (q : Placed) → Halfway n p g s m q vs
      → Halfway n p g s (foldl (λ x v. placed_one n size left v x) m vs) (placed left size (keep (has_weight g) vs) q) []
  unfolding placed keep
  survivors_placed [] once below other var m q h = h
  survivors_placed (v ∷ vs) once below other var m q h =
      go (has_weight g v) refl
      (λ q' k. survivors_placed vs once.1 (λ u i. below u (member_there u v vs i)) (λ u i. other u (member_there u v vs i)) (λ u i. var u (member_there u v vs i))
      (placed_one n size left v m) q' k)
    where
      go : (b : Bool) → has_weight g v ≡ b
          → ((q' : Placed) → Halfway n p g s (placed_one n size left v m) q' vs
          → Halfway n p g s (foldl (λ x w. placed_one n size left w x) (placed_one n size left v m) vs) (placed left size (keep (has_weight g) vs) q') [])
          → Halfway n p g s (foldl (λ x w. placed_one n size left w x) m (v ∷ vs)) (foldl (place_one left size) q (cons_if (has_weight g v) v (keep (has_weight g) vs))) []
      go true e next =
          subst⁻¹ (λ (b : Bool). Halfway n p g s (foldl (λ x w. placed_one n size left w x) m (v ∷ vs)) (foldl (place_one left size) q (cons_if b v (keep (has_weight g) vs))) []) e
          (next (place_one left size q v) (step_yes m q v vs (below v (member_here v vs)) (other v (member_here v vs)) once.0 h e (var v (member_here v vs) e)))
      go false e next =
          subst⁻¹ (λ (b : Bool). Halfway n p g s (foldl (λ x w. placed_one n size left w x) m (v ∷ vs)) (foldl (place_one left size) q (cons_if b v (keep (has_weight g) vs))) []) e
          (next q (step_no m q v vs (below v (member_here v vs)) (other v (member_here v vs)) once.0 h e))
