-- What a gather finds in a memory that shows a graph: the lists of the pivot and of its elements, and who is wanted.
-- Assumes nothing.
use Prim.Native.Nat.{ℕ, ◌<◌, ◌≤◌}
use native.Mathlib.Omega.{arith}
use mathlib.Core.Path.{◌≡◌, refl, sym, ap, ◌∙◌}
use mathlib.Core.Logic.{◌≢◌, ◌⊎◌, inl, inr}
use mathlib.Core.Bool.{Bool, true, false, cond, not, ◌&&◌}
use mathlib.Core.List.{List, [], ◌++◌, flat_map}
use mathlib.Core.Option.{some}
use borrow.Author.Tests.{lt-ltb}
use lib.Dec.{eqb, ltb}
use lib.IntN.{ℤ}
use lib.ListN.{length, length-append, get_or, get_or-eq_default}
use Rattle.plain.proofs.Entries.{upd_other, upd_same}
use Rattle.plain.proofs.Logic.{or_cases}
use Rattle.plain.proofs.Members.{member_append, member_flat_map}
use Rattle.plain.specs.Lists.{member}
use Rattle.plain.specs.Members.{In}
use Rattle.plain.specs.Turns.{upd}
use Rattle.definition.specs.Pivot.{candidates, passed}
use Rattle.definition.specs.Room.{all_places, places}
use Rattle.definition.specs.State.{Graph, Kind, State, merged, degree, elements_of, has_weight, is_element, is_variable, kind, live, parent, variables_of, weight}
use Rattle.facts.proofs.Invariant.{element_inside, var_elsewhere, var_inside, var_weighs}
use Rattle.facts.proofs.Rows.{parent_passed, same_passed}
use Rattle.facts.proofs.Weighed.{Weighed}
use Rattle.facts.specs.Invariant.{Inv, Quotient, Var}
use Rattle.cells.proofs.Slices.{same?, split}
use Rattle.cells.specs.Layout.{WANT}
use Rattle.cells.specs.View.{rd}
use Rattle.packed.proofs.Agreement.{Shows}
use Rattle.packed.proofs.Dropping.{except}
use Rattle.packed.proofs.Sums.{sum_same}
use Rattle.packed.proofs.Taking.{wants}
use Rattle.packed.specs.Places.{sum_to}
use Rattle.drawn.specs.Drawn.{list_of}

and_false : (b : Bool) → b && false ≡ false
and_false true = refl
and_false false = refl

and_true : (b : Bool) → b && true ≡ b
and_true true = refl
and_true false = refl

-- ---- the lists hold the definition's places

length_cond : (b : Bool) (x : List ℕ) → length (cond b x []) ≡ cond b (length x) 0
length_cond true x = refl
length_cond false x = refl

one_place : (g : Graph) (i : ℕ) → length (list_of g i) ≡ places g i
unfolding list_of places
one_place g i =
    length_cond (has_weight g i && live g i) (elements_of g i ++ variables_of g i)
    ∙ ap (λ (k : ℕ). cond (has_weight g i && live g i) k 0) (length-append (elements_of g i) (variables_of g i))

pub held_places : {n : ℕ} (g : Graph) → Quotient n g → sum_to n (λ i. length (list_of g i)) ≡ all_places g
unfolding all_places
held_places {n} g q = rw q.sized.weights (sum_same n (places g) (λ i. length (list_of g i)) (λ i b. one_place g i))

-- a row with no weight has no list
list_light : (g : Graph) (i : ℕ) → weight g i ≡ 0 → list_of g i ≡ []
unfolding list_of
list_light g i z = rw z

list_full : (g : Graph) (i : ℕ) → has_weight g i ≡ true → live g i ≡ true → list_of g i ≡ elements_of g i ++ variables_of g i
unfolding list_of
list_full g i a b = rw (a, b)

module _ (n : ℕ) (t : State) (inv : Inv n t) (p : ℕ) (pv : Var t.graph p) where
  abbrev g : Graph
  g = t.graph

  abbrev es : List ℕ
  es = elements_of g p

  abbrev g₁ : Graph
  g₁ = passed g p

  abbrev q : Quotient n g
  q = inv.graph

  -- ---- what passing changes

  pub kind_passed : (v : ℕ) → kind (passed t.graph p) v ≡ kind t.graph v
  kind_passed v = ap (λ (ks : List Kind). get_or ks v merged) (same_passed g p).kinds

  pub weight_passed : (v : ℕ) → weight (passed t.graph p) v ≡ weight t.graph v
  weight_passed v = ap (λ (ws : List ℕ). get_or ws v 0) (same_passed g p).weights

  pub elements_passed : (v : ℕ) → elements_of (passed t.graph p) v ≡ elements_of t.graph v
  elements_passed v = ap (λ (ls : List (List ℕ)). get_or ls v []) (same_passed g p).elements

  pub variables_passed : (v : ℕ) → variables_of (passed t.graph p) v ≡ variables_of t.graph v
  variables_passed v = ap (λ (ls : List (List ℕ)). get_or ls v []) (same_passed g p).variables

  pub degree_passed : (v : ℕ) → degree (passed t.graph p) v ≡ degree t.graph v
  degree_passed v = ap (λ (ds : List ℕ). get_or ds v 0) (same_passed g p).degrees

  pub parent_now : (v : ℕ) → v < n → parent (passed t.graph p) v ≡ cond (member v (elements_of t.graph p)) (some p) (parent t.graph v)
  parent_now v h = parent_passed g p v q.sized h

  pub inside : p < n
  inside = var_inside q p pv

  pub elements_low : (e : ℕ) → In e (elements_of t.graph p) → e < n
  elements_low e m = element_inside q e (q.elements_live p e pv m).0

  pub not_among : member p (elements_of t.graph p) ≡ false
  not_among = var_elsewhere q p p pv pv

  -- ---- the lists of the passed graph

  list_by : (i : ℕ) → parent g₁ i ≡ cond (member i es) (some p) (parent g i) → (b : Bool) → member i es ≡ b → except (list_of g) es [] i ≡ list_of g₁ i
  unfolding list_of
  list_by i h true e = rw (weight_passed i, elements_passed i, variables_passed i, h, e, and_false (has_weight g i))
  list_by i h false e = rw (weight_passed i, elements_passed i, variables_passed i, h, e)

  same_cond : (b : Bool) (x : List ℕ) → x ≡ [] → cond b [] x ≡ []
  same_cond true x e = refl
  same_cond false x e = e

  passed_list : (i : ℕ) → (i < n) ⊎ (n ≤ i) → except (list_of g) es [] i ≡ list_of g₁ i
  passed_list i (inl h) = list_by i (parent_now i h) (member i es) refl
  passed_list i (inr h) =
      let z : weight g i ≡ 0 = get_or-eq_default g.weights 0 {n = i} (omega (arith, q.sized.weights)) in
      same_cond (member i es) (list_of g i) (list_light g i z) ∙ sym (list_light g₁ i (weight_passed i ∙ z))

  pub passed_lists : (new : List ℕ) (i : ℕ) → upd (except (list_of t.graph) (elements_of t.graph p) []) p new i ≡ upd (list_of (passed t.graph p)) p new i
  passed_lists new i = by (same? i p)
    where
      by : (i ≡ p) ⊎ (i ≢ p) → upd (except (list_of g) es []) p new i ≡ upd (list_of g₁) p new i
      by (inl e) = rw e (upd_same (except (list_of g) es []) p new ∙ sym (upd_same (list_of g₁) p new))
      by (inr d) = upd_other (except (list_of g) es []) p new i d ∙ passed_list i (split i n) ∙ sym (upd_other (list_of g₁) p new i d)

  -- ---- what the gather reads and wants

  wish_by : (a e : Bool) (w : ℕ) → (a ≡ false → w ≡ 0) → ltb 0 (cond (a && not e) w 0) ≡ ltb 0 w && not e
  wish_by true true w h = sym (and_false (ltb 0 w))
  wish_by true false w h = sym (and_true (ltb 0 w))
  wish_by false e w h = rw (h refl)

  -- a candidate is no element
  candidate : (v : ℕ) → In v (candidates g p) → (v < n) × (is_element (kind g v) ≡ false)
  unfolding candidates
  candidate v m =
      or_cases ((v < n) × (is_element (kind g v) ≡ false)) (member v (flat_map (variables_of g) es)) (member v (variables_of g p))
      (sym (member_append v (flat_map (variables_of g) es) (variables_of g p)) ∙ m)
      (λ k. let r = member_flat_map v (variables_of g) es k in
      let a = q.elements_live p r.0 pv r.1 in (q.inside_members r.0 v a r.2, q.members_kind r.0 v a r.2))
      (λ k. (q.inside_variables p v pv k, q.no_element p v pv k))

  pub shows : Weighed t → (m : List ℤ) → ((v : ℕ) → v < n → rd n WANT m v ≡ cond (is_variable (kind t.graph v) && not (eqb v p)) (weight t.graph v) 0)
      → Shows t.graph p (list_of t.graph) (wants n m)
  shows wd m w =
      record {
        own = list_full g p (var_weighs q p pv) (q.orphan p pv);
        lists = λ e h.
            let a = q.elements_live p e pv h in
            list_full g e (lt-ltb 0 (weight g e) (omega (arith, wd.heavy e a.0))) a.1 ∙ ap (λ (x : List ℕ). x ++ variables_of g e) (wd.bare e a.0);
        wish = λ v h.
            let c = candidate v h in
            ap (ltb 0) (w v c.0) ∙ wish_by (is_variable (kind g v)) (eqb v p) (weight g v) (λ z. q.light v z c.1);
      }
