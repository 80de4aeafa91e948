-- H0: whom a row belongs to is a variable or an element, or the row itself where it is dense; true at the start, and kept by a step.
-- Assumes nothing.
use Prim.Native.Nat.{ℕ, ◌+◌, ◌<◌}
use native.Mathlib.Omega.{arith}
use mathlib.Core.Path.{◌≡◌, refl, sym, ap, ◌∙◌}
use mathlib.Core.Logic.{◌≢◌}
use mathlib.Core.Bool.{Bool, true, false, cond, false≢true}
use mathlib.Core.List.{List}
use mathlib.Core.Option.{some}
use lib.Dec.{eqb}
use lib.ListN.{length}
use borrow.Author.Tests.{eqb-true, eqb-false}
use Rattle.plain.proofs.Counting.{pick}
use Rattle.plain.proofs.Logic.{either, clash, none_if}
use Rattle.plain.proofs.Members.{up_to_below, member_cases}
use Rattle.plain.proofs.Positions.{get_or_count_up}
use Rattle.plain.proofs.Sums.{total_members}
use Rattle.plain.specs.Lists.{member, up_to}
use Rattle.plain.specs.Members.{same}
use Rattle.definition.specs.State.{Graph, Kind, variable, merged, element, dense, kind, parent, rep, is_variable, is_element, is_dense, is_merged, start_weight, started}
use Rattle.definition.specs.Pivot.{collected}
use Rattle.facts.proofs.Cases.{collected_no_element, dense_after, taken_known}
use Rattle.facts.proofs.Collected.{collected_var}
use Rattle.facts.proofs.Followed.{Followed}
use Rattle.facts.proofs.Invariant.{var_inside, element_inside, var_not_dense, var_not_merged, element_not_merged}
use Rattle.facts.proofs.Start.{kind_inside, weight_is, start_not_merged}
use Rattle.facts.proofs.Stepped.{is_mass, is_taken, Stepped}
use Rattle.facts.proofs.Weighing.{Weighing}
use Rattle.facts.specs.Invariant.{Var, Quotient}

-- what rows may belong to
pub data Holds (g : Graph) (v : ℕ) : Type 0 where
  as_variable : Var g v → Holds g v
  as_element : is_element (kind g v) ≡ true → Holds g v

-- a merged row has a parent, and belongs to what its parent belongs to: so parents lead from it to what it belongs to (the plan's P6)
pub record Shares (n : ℕ) (g : Graph) (v : ℕ) : Type 0 where
  pub into : ℕ
  pub below : into < n
  pub parented : parent g v ≡ some into
  pub alike : rep g v ≡ rep g into

pub record Belonging (n : ℕ) (g : Graph) : Type 0 where
  pub owned : (v : ℕ) → v < n → is_dense (kind g v) ≡ false → Holds g (rep g v)
  pub own : (v : ℕ) → Holds g v → rep g v ≡ v
  pub alone : (v : ℕ) → v < n → is_dense (kind g v) ≡ true → rep g v ≡ v
  pub weighs : Weighing n g
  pub shares : (v : ℕ) → v < n → is_merged (kind g v) ≡ true → Shares n g v

pub holds_inside : {n : ℕ} {g : Graph} → Quotient n g → (v : ℕ) → Holds g v → v < n
holds_inside q v (as_variable h) = var_inside q v h
holds_inside q v (as_element h) = element_inside q v h

-- the row that a row belongs to is a row
pub rep_inside : {n : ℕ} {g : Graph} → Quotient n g → Belonging n g → (v : ℕ) → v < n → rep g v < n
rep_inside {n} {g} q b v l =
    either (rep g v < n) (is_dense (kind g v)) (λ d. rw (b.alone v l d) l) (λ d. holds_inside q (rep g v) (b.owned v l d))

-- ---- a step

module _ {n : ℕ} {aggressive : Bool} {g t : Graph} {p : ℕ} (q : Quotient n g) (pv : Var g p) (st : Stepped n aggressive g t p) (f : Followed n aggressive g t p) where
  -- a row is the pivot, mass eliminated, another collected one, or none of these
  pub row_cases : (P : Type 0) (r : ℕ) → (r ≡ p → P) → (member r (collected g p) ≡ true → is_mass aggressive g p r ≡ true → P)
      → (member r (collected g p) ≡ true → is_mass aggressive g p r ≡ false → P) → (r ≢ p → member r (collected g p) ≡ false → P) → P
  row_cases P r a b c d =
      either P (eqb r p) (λ e. a (eqb-true r p e))
      (λ e. either P (member r (collected g p)) (λ m. either P (is_mass aggressive g p r) (b m) (c m)) (λ m. d (eqb-false r p e) m))

  pub dense_apart : (v : ℕ) → is_dense (kind g v) ≡ true → v ≢ p
  dense_apart v d e = clash (is_dense (kind g v)) d (ap (λ (z : ℕ). is_dense (kind g z)) e ∙ var_not_dense (kind g p) pv)

  pub dense_outside : (v : ℕ) → is_dense (kind g v) ≡ true → member v (collected g p) ≡ false
  dense_outside v d = either (member v (collected g p) ≡ false) (member v (collected g p)) (λ m. clash (is_dense (kind g v)) d (var_not_dense (kind g v) (collected_var q p pv v m))) (λ m. m)

  goes_holds : (r : ℕ) → Holds g r → Holds t (f.goes r)
  goes_holds r h =
      row_cases (Holds t (f.goes r)) r
      (λ e. rw (e, f.of_pivot) new_one)
      (λ m e. rw (f.of_mass r m e) new_one)
      (λ m e. as_variable (f.of_kept r m e).remains)
      (λ ne m. rw (f.of_other r ne m) (stays ne m h))
    where
      new_one : Holds t p
      new_one = as_element (ap is_element st.pivot_kind)

      stays : r ≢ p → member r (collected g p) ≡ false → Holds g r → Holds t r
      stays ne m (as_variable x) = as_variable (ap is_variable (st.still_kind r ne m) ∙ x)
      stays ne m (as_element x) = as_element (ap is_element (st.still_kind r ne m) ∙ x)

  own_after : Belonging n g → (v : ℕ) → Holds t v → rep t v ≡ v
  own_after b v h =
      either (rep t v ≡ v) (eqb v p)
      (λ e. let x : v ≡ p = eqb-true v p e in
      rw x (f.follows p (var_inside q p pv) ∙ ap f.goes (b.own p (as_variable pv)) ∙ f.of_pivot))
      (λ e. let ne = eqb-false v p e in
      either (rep t v ≡ v) (member v (collected g p))
      (λ m. let vv = collected_var q p pv v m in
      f.follows v (var_inside q v vv) ∙ ap f.goes (b.own v (as_variable vv)) ∙ f.of_survivor v m (still_var m h))
      (λ m. let k = was ne m h in f.follows v (holds_inside q v k) ∙ ap f.goes (b.own v k) ∙ f.of_other v ne m))
    where
      still_var : member v (collected g p) ≡ true → Holds t v → Var t v
      still_var m (as_variable x) = x
      still_var m (as_element x) = clash (is_element (kind t v)) x (collected_no_element q pv st v m)

      was : v ≢ p → member v (collected g p) ≡ false → Holds t v → Holds g v
      was ne m (as_variable x) = as_variable (ap is_variable (sym (st.still_kind v ne m)) ∙ x)
      was ne m (as_element x) = as_element (ap is_element (sym (st.still_kind v ne m)) ∙ x)

  -- a row that is merged was, or was collected
  shares_after : Belonging n g → (v : ℕ) → v < n → is_merged (kind t v) ≡ true → Shares n t v
  shares_after b v l h =
      either (Shares n t v) (eqb v p)
      (λ e. clash (is_merged (kind t v)) h (ap (λ (z : ℕ). is_merged (kind t z)) (eqb-true v p e) ∙ ap is_merged st.pivot_kind))
      (λ e. let ne = eqb-false v p e in
      either (Shares n t v) (member v (collected g p))
      (λ m.
      let z = f.lost v m (merged_no_var (kind t v) h) in
      let i = z.0 in
      let vi : Var g i = member_cases (Var g i) i p (collected g p) z.1 (λ x. rw x pv) (λ x k. collected_var q p pv i k) in
      let li = var_inside q i vi in
      record {
        into = i;
        below = li;
        parented = z.2;
        alike = f.follows v l ∙ ap f.goes (b.own v (as_variable (collected_var q p pv v m))) ∙ z.3 ∙ sym (f.follows i li ∙ ap f.goes (b.own i (as_variable vi)));
      })
      (λ m.
      let k = ap is_merged (sym (st.still_kind v ne m)) ∙ h in
      let s = b.shares v l k in
      record {
        into = s.into;
        below = s.below;
        parented = st.still_parent v l ne m ∙ ap (λ (x : Bool). cond x (some p) (parent g v)) (merged_untaken v k) ∙ s.parented;
        alike = f.follows v l ∙ ap f.goes s.alike ∙ sym (f.follows s.into s.below);
      }))
    where
      merged_no_var : (k : Kind) → is_merged k ≡ true → is_variable k ≡ false
      merged_no_var variable x = absurd (false≢true x)
      merged_no_var merged x = refl
      merged_no_var element x = refl
      merged_no_var dense x = refl

      merged_untaken : (v : ℕ) → is_merged (kind g v) ≡ true → is_taken aggressive g p v ≡ false
      merged_untaken v k = none_if (is_taken aggressive g p v)
          (λ x. let y = taken_known q pv st v x in
          clash (is_merged (kind g v)) k (element_not_merged (kind g v) (q.elements_live y.0 v y.1 y.2).0))

  pub belonging_after : Weighing n t → Belonging n g → Belonging n t
  belonging_after w b = record {
    owned = λ v l d. rw (f.follows v l) (goes_holds (rep g v) (b.owned v l (sym (dense_after q pv st v) ∙ d)));
    own = own_after b;
    alone = λ v l d. let k = sym (dense_after q pv st v) ∙ d in
        f.follows v l ∙ ap f.goes (b.alone v l k) ∙ f.of_other v (dense_apart v k) (dense_outside v k);
    weighs = w;
    shares = shares_after b;
  }

-- ---- the start

module _ (limit : ℕ) (nbrs : List (List ℕ)) where
  abbrev n : ℕ
  n = length nbrs

  abbrev g : Graph
  g = (started limit nbrs).graph

  pub rep_is : (v : ℕ) → v < n → rep g v ≡ v
  unfolding started
  rep_is v l = let e : 0 + v ≡ v = omega arith in get_or_count_up 0 n v 0 l ∙ e

  holds_kind : (k : Kind) → is_merged k ≡ false → is_dense k ≡ false → (v : ℕ) → kind g v ≡ k → Holds g v
  holds_kind variable a b v e = as_variable (ap is_variable e)
  holds_kind merged a b v e = absurd (false≢true (sym a))
  holds_kind element a b v e = as_element (ap is_element e)
  holds_kind dense a b v e = absurd (false≢true (sym b))

  one_kind : (k : Kind) → is_merged k ≡ false → is_dense k ≡ false → start_weight k ≡ 1
  unfolding start_weight
  one_kind variable a b = refl
  one_kind merged a b = absurd (false≢true (sym a))
  one_kind element a b = refl
  one_kind dense a b = absurd (false≢true (sym b))

  below : (v : ℕ) → Holds g v → v < n
  below v (as_variable h) = kind_inside limit nbrs v (var_not_merged (kind g v) h)
  below v (as_element h) = kind_inside limit nbrs v (element_not_merged (kind g v) h)

  pub belonging_start : Belonging n g
  belonging_start = record {
    owned = λ v l d. rw (rep_is v l) (holds_kind (kind g v) (start_not_merged limit nbrs v l) d v refl);
    own = λ v h. rep_is v (below v h);
    alone = λ v l d. rep_is v l;
    weighs = λ i l d. weight_is limit nbrs i ∙ one_kind (kind g i) (start_not_merged limit nbrs i l) d
        ∙ sym (total_members (λ v. same i (rep g v)) (same i) (up_to n) (λ v m. ap (same i) (rep_is v (up_to_below v n m))) ∙ pick (λ x. 1) 0 n i (omega arith) (omega arith));
    shares = λ v l h. clash (is_merged (kind g v)) h (start_not_merged limit nbrs v l);
  }
