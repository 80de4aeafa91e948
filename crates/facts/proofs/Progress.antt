-- One elimination step eliminates one variable at least: the pivot's own weight, which no later part of the step takes away.
-- Assumes nothing.
use Prim.Native.Nat.{ℕ, ◌+◌, ◌≤◌, ◌<◌}
use native.Mathlib.Omega.{arith}
use native.Mathlib.Decide.{dec_lt}
use mathlib.Core.Path.{◌≡◌, sym}
use mathlib.Core.Logic.{◌≢◌}
use mathlib.Core.Bool.{Bool, true, not, ◌&&◌}
use mathlib.Core.List.{List, [], ◌∷◌, foldl, reverse}
use lib.Dec.{eqb}
use lib.ListN.{length, get_or, set, length-set, get_or-eq_default}
use lib.Seq.{get_or-set_same, get_or-set_other}
use borrow.Author.Tests.{not-true, eqb-false, ltb-true}
use Rattle.plain.proofs.Folds.{everything, all_append, all_keep, all_reverse, foldl_keeps}
use Rattle.plain.proofs.Logic.{cond_has, and_right, or_false_left}
use Rattle.plain.specs.Lists.{member, keep, is_empty}
use Rattle.plain.specs.Members.{All}
use Rattle.definition.specs.Elimination.{eliminate, finish}
use Rattle.definition.specs.Merge.{merged_alike, merge_all, merge_one, alike}
use Rattle.definition.specs.Pivot.{wanted, collect_one, collected, candidates, pass_one, passed}
use Rattle.definition.specs.State.{Graph, State, weight, elements_of, has_weight, merge_into, put_kind, put_reps, put_weight, put_parent, put_degree, put_elements, put_variables}
use Rattle.definition.specs.Trim.{trim_one, trim_to, trimmed, relist, drop_element, kept_elements, kept_variables, dropped_elements}

-- ---- the pivot is not collected

apart_wanted : (g : Graph) (p : ℕ) (new : List ℕ) (v : ℕ) → wanted g p new v ≡ true → v ≢ p
unfolding member
apart_wanted g p new v h =
    eqb-false v p (or_false_left (eqb v p) (member v new) (not-true (member v (p ∷ new)) (and_right (has_weight g v) (not (member v (p ∷ new))) h)))

apart_collected : (g : Graph) (p : ℕ) → All (λ v. v ≢ p) (collected g p)
unfolding collected collect_one
apart_collected g p =
    foldl_keeps (All (λ v. v ≢ p)) (λ v. Unit {0}) (collect_one g p)
    (λ new v q h. cond_has (All (λ w. w ≢ p)) (wanted g p new v) (λ e. all_append (λ w. w ≢ p) new (v ∷ []) h (apart_wanted g p new v e, tt)) (λ e. h))
    (candidates g p) [] (everything (candidates g p)) tt

-- ---- p keeps a weight of w at least

record Has (p w : ℕ) (g : Graph) : Type 0 where
  inside : p < length g.weights
  at_least : w ≤ weight g p

-- v joins the pivot
has_mass : {p w : ℕ} (v : ℕ) (g : Graph) → v ≢ p → Has p w g → Has p w (merge_into p v g)
unfolding merge_into put_kind put_reps put_weight put_parent
has_mass {p} {w} v g n h = record {
  inside = simp length-set h.inside;
  at_least =
      rw (
        get_or-set_other (set g.weights p (weight g p + weight g v)) v p 0 0 (λ e. n (sym e)),
        get_or-set_same g.weights p (weight g p + weight g v) 0 h.inside,
      )
      (omega (arith, h.at_least));
}

-- v joins another
has_merge : {p w : ℕ} (i v : ℕ) (g : Graph) → i ≢ p → v ≢ p → Has p w g → Has p w (merge_into i v g)
unfolding merge_into put_kind put_reps put_weight put_parent
has_merge {p} {w} i v g n m h = record {
  inside = simp length-set h.inside;
  at_least =
      rw (
        get_or-set_other (set g.weights i (weight g i + weight g v)) v p 0 0 (λ e. m (sym e)),
        get_or-set_other g.weights i p (weight g i + weight g v) 0 (λ e. n (sym e)),
      )
      h.at_least;
}

-- ---- through the steps

-- an element that is passed or dropped changes no weight
has_parent : {p w : ℕ} (e q : ℕ) (g : Graph) → Has p w g → Has p w (put_parent e q g)
unfolding put_parent
has_parent e q g h = record { inside = h.inside; at_least = h.at_least }

has_passed : {p w : ℕ} (g : Graph) (q : ℕ) (es : List ℕ) → Has p w g → Has p w (foldl (pass_one q) g es)
unfolding pass_one
has_passed {p} {w} g q es h = foldl_keeps (Has p w) (λ e. Unit {0}) (pass_one q) (λ b e u k. has_parent e q b k) es g (everything es) h

has_dropped : {p w : ℕ} (g : Graph) (q : ℕ) (es : List ℕ) → Has p w g → Has p w (foldl (drop_element q) g es)
unfolding drop_element
has_dropped {p} {w} g q es h = foldl_keeps (Has p w) (λ e. Unit {0}) (drop_element q) (λ b e u k. has_parent e q b k) es g (everything es) h

has_relist : {p w : ℕ} (g : Graph) (q : ℕ) (new es vs : List ℕ) (v : ℕ) (h : Graph) → Has p w h → Has p w (relist g q new es vs v h)
unfolding relist put_elements put_variables put_degree
has_relist g q new es vs v h k = record { inside = k.inside; at_least = k.at_least }

has_trim_one : {p w : ℕ} (aggressive : Bool) (g : Graph) (new : List ℕ) (h : Graph) (v : ℕ) → v ≢ p → Has p w h → Has p w (trim_one aggressive g p new h v)
unfolding trim_one trim_to
has_trim_one {p} {w} aggressive g new h v n k =
    cond_has (Has p w) (is_empty (kept_elements aggressive g new v) && is_empty (kept_variables g p new v))
    (λ e. has_mass v _ n (has_dropped h p (dropped_elements aggressive g new v) k))
    (λ e. has_relist g p new (kept_elements aggressive g new v) (kept_variables g p new v) v _ (has_dropped h p (dropped_elements aggressive g new v) k))

has_trimmed : {p w : ℕ} (aggressive : Bool) (g : Graph) (new : List ℕ) → All (λ v. v ≢ p) new → Has p w g → Has p w (trimmed aggressive g p new)
unfolding trimmed
has_trimmed {p} {w} aggressive g new a h =
    foldl_keeps (Has p w) (λ v. v ≢ p) (trim_one aggressive g p new) (λ b v n k. has_trim_one aggressive g new b v n k) new g a h

has_merge_all : {p w : ℕ} (key_of : ℕ → ℕ) (vs : List ℕ) (g : Graph) → All (λ v. v ≢ p) vs → Has p w g → Has p w (merge_all key_of vs g)
unfolding merge_all merge_one
has_merge_all key_of [] g a h = h
has_merge_all {p} {w} key_of (i ∷ js) g a h =
    has_merge_all key_of js _ a.1
    (foldl_keeps (Has p w) (λ v. v ≢ p) (merge_one key_of i)
    (λ b j q k. cond_has (Has p w) (alike key_of b i j) (λ e. has_merge i j b a.0 q k) (λ e. k)) js g a.1 h)

has_merged : {p w : ℕ} (key_of : ℕ → ℕ) (new : List ℕ) (g : Graph) → All (λ v. v ≢ p) new → Has p w g → Has p w (merged_alike key_of new g)
unfolding merged_alike
has_merged {p} key_of new g a h = has_merge_all key_of (reverse (keep (has_weight g) new)) g (all_reverse (λ v. v ≢ p) (keep (has_weight g) new) (all_keep (λ v. v ≢ p) (has_weight g) new a)) h

-- ---- the step

inside_if : (ws : List ℕ) (p : ℕ) → 1 ≤ get_or ws p 0 → Dec (p < length ws) → p < length ws
inside_if ws p h (yes k) = k
inside_if ws p h (no k) = let z : get_or ws p 0 ≡ 0 = get_or-eq_default ws 0 (omega arith) in omega arith

has_itself : (g : Graph) (p : ℕ) → has_weight g p ≡ true → Has p 1 g
has_itself g p h = record {
  inside = inside_if g.weights p (ltb-true 0 (weight g p) h) (dec_lt p (length g.weights));
  at_least = ltb-true 0 (weight g p) h;
}

pub progress : (key_of : ℕ → ℕ) (n : ℕ) (aggressive : Bool) (s : State) (p d : ℕ) → has_weight s.graph p ≡ true
    → s.gone < (eliminate key_of n aggressive s p d).gone
unfolding eliminate finish passed
progress key_of n aggressive s p d h =
    let new = collected s.graph p in
    let a = apart_collected s.graph p in
    let k = has_merged key_of new (trimmed aggressive (passed s.graph p) p new) a
    (has_trimmed aggressive (passed s.graph p) new a (has_passed s.graph p (elements_of s.graph p) (has_itself s.graph p h))) in
    omega (arith, k.at_least)
