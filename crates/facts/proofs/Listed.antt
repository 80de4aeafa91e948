-- Theorem A1, W8: the degree lists hold the variables after a step, each at its degree.
-- Assumes nothing.
use Prim.Native.Nat.{ℕ, ◌+◌, ◌-◌, ◌≤◌, ◌<◌}
use native.Mathlib.Omega.{arith}
use mathlib.Core.Path.{◌≡◌, ap, ◌∙◌}
use mathlib.Core.Logic.{◌≢◌}
use mathlib.Core.Bool.{Bool, true, false, not, ◌&&◌, ◌||◌}
use mathlib.Core.List.{List, ◌∷◌}
use lib.ListN.{get_or}
use borrow.Author.Tests.{ltb-true, lt-ltb}
use Rattle.plain.proofs.Logic.{and_left, either, and_right, clash, and_both, not_false, not_back, bool_ext, or_left, or_right, or_cases}
use Rattle.plain.proofs.Members.{not_here, not_there, not_cons, member_there, kept_was, kept_passes, member_kept}
use Rattle.plain.proofs.Repeats.{distinct_keep}
use Rattle.plain.specs.Lists.{member}
use Rattle.plain.specs.Members.{Distinct}
use Rattle.definition.specs.State.{Graph, State, kind, weight, degree, has_weight, is_variable, queue_of}
use Rattle.definition.specs.Pivot.{collected, passed, delisted}
use Rattle.definition.specs.Place.{Placed, placed}
use Rattle.definition.specs.Elimination.{eliminate, finish}
use Rattle.facts.proofs.Collected.{distinct_collected, collected_var}
use Rattle.facts.proofs.Rows.{same_passed, still_degree}
use Rattle.facts.proofs.Placing.{element_weights, element_degree_other}
use Rattle.facts.proofs.Stepped.{After, away, remains, Stepped, after_merge, inside, joined2}
use Rattle.facts.proofs.Step.{survivors_of, rest_of, start_of, weight_t, stepped_t}
use Rattle.facts.proofs.Cases.{var_cases}
use Rattle.facts.proofs.Queues.{Standing, standing_all, standing_same, delisted_was, delisted_gone, delisted_stays, delisted_once}
use Rattle.facts.proofs.Pivots.{Pivoted}
use Rattle.facts.proofs.Sizes.{sized_as_element, length_delisted}
use Rattle.facts.specs.Invariant.{Var, Quotient, Queued, Inv}

-- a variable that is neither the pivot nor collected
abbrev apart_from : Graph → ℕ → ℕ → Bool
apart_from g p i = is_variable (kind g i) && not (member i (p ∷ collected g p))

module _ {n : ℕ} (key_of : ℕ → ℕ) (aggressive : Bool) (s : State) (v : Inv n s) (p d : ℕ) (pd : Pivoted s p d) where
  abbrev g : Graph
  g = s.graph

  abbrev q : Quotient n s.graph
  q = v.graph

  abbrev pv : Var s.graph p
  pv = pd.is_var

  abbrev new : List ℕ
  new = collected s.graph p

  abbrev g3 : Graph
  g3 = after_merge key_of aggressive s.graph p

  abbrev queues : List (List ℕ)
  queues = delisted s.graph s.queues (p ∷ collected s.graph p)

  abbrev start : Placed
  start = start_of key_of aggressive s.graph p queues d

  start_degree_lem : (i : ℕ) → i ≢ p → member i new ≡ false → degree start.graph i ≡ degree g i
  start_degree_lem i ne m =
      element_degree_other p (survivors_of key_of aggressive g p) (rest_of key_of aggressive g p) g3 i ne
      ∙ ap (λ (l : List ℕ). get_or l i 0) (joined2 aggressive g p q pv key_of).degrees
      ∙ still_degree aggressive (passed g p) p new i m
      ∙ ap (λ (l : List ℕ). get_or l i 0) (same_passed g p).degrees

  out : (i : ℕ) → apart_from g p i ≡ true → member i (p ∷ new) ≡ false
  out i h = not_back (member i (p ∷ new)) (and_right (is_variable (kind g i)) (not (member i (p ∷ new))) h)

  is_var : (i : ℕ) → apart_from g p i ≡ true → Var g i
  is_var i h = and_left (is_variable (kind g i)) (not (member i (p ∷ new))) h

  apart_degree : (i : ℕ) → apart_from g p i ≡ true → degree start.graph i ≡ degree g i
  apart_degree i h = start_degree_lem i (not_here i p new (out i h)) (not_there i p new (out i h))

  standing0 : Standing n start (apart_from g p)
  standing0 = record {
    size = length_delisted g (p ∷ new) s.queues ∙ v.queued.size;
    wide = (sized_as_element p (survivors_of key_of aggressive g p) (rest_of key_of aggressive g p) g3 (joined2 aggressive g p q pv key_of).sized).degrees;
    only = λ e i m.
        let k = v.queued.only e i (delisted_was g (p ∷ new) s.queues e i m) in
        let no_more : member i (p ∷ new) ≡ false = either (member i (p ∷ new) ≡ false) (member i (p ∷ new))
        (λ x. absurd (delisted_gone g (p ∷ new) s.queues i x (ap (λ (z : ℕ). member i (queue_of queues z)) k.1 ∙ m))) (λ x. x) in
        let h : apart_from g p i ≡ true = and_both (is_variable (kind g i)) (not (member i (p ∷ new))) k.0 (not_false (member i (p ∷ new)) no_more) in
        (h, apart_degree i h ∙ k.1);
    all = λ i h.
        ap (λ (z : ℕ). member i (queue_of queues z)) (apart_degree i h)
        ∙ delisted_stays g (p ∷ new) s.queues (degree g i) i (out i h) (omega (arith, v.queued.size, (v.queued.bounded i (is_var i h)).1)) (v.queued.all i (is_var i h));
    once = delisted_once g (p ∷ new) s.queues v.queued.once;
    low = λ i h. rw (apart_degree i h) (pd.lowest i (is_var i h));
    high = λ i h. rw (apart_degree i h) (v.queued.bounded i (is_var i h)).1;
  }

  survivor_new : (i : ℕ) → member i (survivors_of key_of aggressive g p) ≡ true → member i new ≡ true
  unfolding survivors_of
  survivor_new i m = kept_was i (has_weight g3) new m

  survivor_weighs : (i : ℕ) → member i (survivors_of key_of aggressive g p) ≡ true → 0 < weight g3 i
  unfolding survivors_of
  survivor_weighs i m = ltb-true 0 (weight g3 i) (kept_passes i (has_weight g3) new m)

  is_survivor : (i : ℕ) → member i new ≡ true → 0 < weight g3 i → member i (survivors_of key_of aggressive g p) ≡ true
  unfolding survivors_of
  is_survivor i m h = member_kept i (has_weight g3) new (lt-ltb 0 (weight g3 i) h) m

  distinct_survivors : Distinct (survivors_of key_of aggressive g p)
  unfolding survivors_of
  distinct_survivors = distinct_keep (has_weight g3) new (distinct_collected g p)

  module _ (left : ℕ) (small : left ≤ n) where
    abbrev r : Placed
    r = placed left (rest_of key_of aggressive g p) (survivors_of key_of aggressive g p) start

    st : Stepped n aggressive g r.graph p
    st = stepped_t key_of aggressive g p q pv left queues d

    weighs : (i : ℕ) → weight r.graph i ≡ weight g3 i
    weighs i = weight_t key_of aggressive g p q pv left queues d i

    placed_weight : (i : ℕ) → member i (survivors_of key_of aggressive g p) ≡ true → 1 ≤ weight start.graph i
    placed_weight i m =
        rw (ap (λ (l : List ℕ). get_or l i 0) (element_weights p (survivors_of key_of aggressive g p) (rest_of key_of aggressive g p) g3)) (survivor_weighs i m)

    standing1 : Standing n r (λ i. member i (survivors_of key_of aggressive g p) || apart_from g p i)
    standing1 = standing_all left (rest_of key_of aggressive g p) (survivors_of key_of aggressive g p) start (apart_from g p) small distinct_survivors
        (λ i m. inside aggressive g p q pv i (survivor_new i m))
        (λ i m. either (apart_from g p i ≡ false) (apart_from g p i)
        (λ h. clash (member i (p ∷ new)) (member_there i p new (survivor_new i m)) (out i h)) (λ h. h))
        placed_weight standing0

    survivor_var : (i : ℕ) → member i (survivors_of key_of aggressive g p) ≡ true → Var r.graph i
    survivor_var i m = go (st.after i (survivor_new i m))
      where
        go : After aggressive g r.graph p i → Var r.graph i
        go (away a b) = absurd (omega (arith, survivor_weighs i m, weighs i))
        go (remains a b c e) = ap is_variable b ∙ collected_var q p pv i (survivor_new i m)

    apart_var : (i : ℕ) → apart_from g p i ≡ true → Var r.graph i
    apart_var i h = ap is_variable (st.still_kind i (not_here i p new (out i h)) (not_there i p new (out i h))) ∙ is_var i h

    var_stands : (i : ℕ) → Var r.graph i → member i (survivors_of key_of aggressive g p) || apart_from g p i ≡ true
    var_stands i h =
        var_cases q pv st (member i (survivors_of key_of aggressive g p) || apart_from g p i ≡ true) i h
        (λ ne m x. or_right (member i (survivors_of key_of aggressive g p)) (apart_from g p i)
        (and_both (is_variable (kind g i)) (not (member i (p ∷ new))) x (not_false (member i (p ∷ new)) (not_cons i p new ne m))))
        (λ m a b c. or_left (member i (survivors_of key_of aggressive g p)) (apart_from g p i)
        (is_survivor i m (omega (arith, q.heavy i (collected_var q p pv i m), weighs i))))

    pub standing : Standing n r (λ i. is_variable (kind r.graph i))
    standing = standing_same standing1
        (λ i. bool_ext (member i (survivors_of key_of aggressive g p) || apart_from g p i) (is_variable (kind r.graph i))
        (λ h. or_cases (Var r.graph i) (member i (survivors_of key_of aggressive g p)) (apart_from g p i) h (survivor_var i) (apart_var i))
        (var_stands i))

pub queued_after : {n : ℕ} (key_of : ℕ → ℕ) (aggressive : Bool) (s : State) → Inv n s → (p d : ℕ) → Pivoted s p d → Queued n (eliminate key_of n aggressive s p d)
unfolding eliminate finish survivors_of rest_of
queued_after {n} key_of aggressive s v p d pd =
    let k = standing key_of aggressive s v p d pd (n - (s.gone + weight (after_merge key_of aggressive s.graph p) p)) (omega arith) in
    record { size = k.size; only = k.only; all = k.all; once = k.once; bounded = λ i h. (k.low i h, k.high i h) }
