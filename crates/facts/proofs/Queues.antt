-- Theorem A1, W8: the degree lists after a step.
-- Assumes nothing.
use Prim.Native.Nat.{ℕ, ◌+◌, ◌-◌, ◌≤◌, ◌<◌}
use native.Mathlib.Omega.{arith}
use native.Mathlib.Nat.{min-le_left, min-le_right}
use native.Mathlib.Decide.{dec_lt}
use mathlib.Core.Path.{◌≡◌, refl, sym, ap, ◌∙◌}
use mathlib.Core.Logic.{◌≢◌}
use mathlib.Core.Bool.{Bool, true, false, ◌||◌}
use mathlib.Core.List.{List, [], ◌∷◌}
use lib.Dec.{eqb}
use lib.ListN.{length, set, length-set, get_or-eq_default}
use lib.Seq.{get_or-set_same, get_or-set_other}
use borrow.Author.Tests.{eqb-true, eqb-false, ne_eqb, eq-eqb}
use Rattle.plain.proofs.Logic.{either, clash, or_left, or_right, or_cases}
use Rattle.plain.proofs.Members.{member_delete, delete_was, delete_apart, member_nil, member_here, member_there, member_cases, not_here, not_there, no_member}
use Rattle.plain.proofs.Repeats.{distinct_delete}
use Rattle.plain.specs.Lists.{member, delete}
use Rattle.plain.specs.Members.{Distinct}
use Rattle.definition.specs.State.{Graph, weight, degree, queue_of, push_front, put_degree}
use Rattle.definition.specs.Pivot.{delist, delisted}
use Rattle.definition.specs.Place.{Placed, new_degree, place_one, placed}

-- ---- one list put in another's place

-- a list put at d is there, or d is out of range and nothing is
pub put_cases : (P : List ℕ → Type 0) (qs : List (List ℕ)) (d : ℕ) (l : List ℕ) → P l → P [] → P (queue_of (set qs d l) d)
put_cases P qs d l a b = go (dec_lt d (length qs))
  where
    go : Dec (d < length qs) → P (queue_of (set qs d l) d)
    go (yes h) = rw (get_or-set_same qs d l [] h) a
    go (no h) = rw (get_or-eq_default (set qs d l) [] {n = d} (rw (length-set qs d l) (omega arith))) b

-- ---- leaving

delist_was : (g : Graph) (qs : List (List ℕ)) (v d i : ℕ) → member i (queue_of (delist g qs v) d) ≡ true → member i (queue_of qs d) ≡ true
unfolding delist
delist_was g qs v d i m =
    either (member i (queue_of qs d) ≡ true) (eqb d (degree g v))
    (λ e.
    let k : d ≡ degree g v = eqb-true d (degree g v) e in
    rw k (put_cases (λ (l : List ℕ). member i l ≡ true → member i (queue_of qs (degree g v)) ≡ true) qs (degree g v) (delete v (queue_of qs (degree g v)))
    (λ h. delete_was v i (queue_of qs (degree g v)) h) (λ h. no_member i h) (rw k at m)))
    (λ e. ap (member i) (sym (get_or-set_other qs (degree g v) d (delete v (queue_of qs (degree g v))) [] (eqb-false d (degree g v) e))) ∙ m)

pub delisted_was : (g : Graph) (vs : List ℕ) (qs : List (List ℕ)) (d i : ℕ) → member i (queue_of (delisted g qs vs) d) ≡ true → member i (queue_of qs d) ≡ true
unfolding delisted
delisted_was g [] qs d i m = m
delisted_was g (v ∷ vs) qs d i m = delist_was g qs v d i (delisted_was g vs (delist g qs v) d i m)

delist_gone : (g : Graph) (qs : List (List ℕ)) (v : ℕ) → member v (queue_of (delist g qs v) (degree g v)) ≡ true → ⊥
unfolding delist
delist_gone g qs v =
    put_cases (λ (l : List ℕ). member v l ≡ true → ⊥) qs (degree g v) (delete v (queue_of qs (degree g v)))
    (λ h. delete_apart v v (queue_of qs (degree g v)) h refl) (λ h. no_member v h)

pub delisted_gone : (g : Graph) (vs : List ℕ) (qs : List (List ℕ)) (i : ℕ) → member i vs ≡ true → member i (queue_of (delisted g qs vs) (degree g i)) ≡ true → ⊥
unfolding delisted
delisted_gone g [] qs i h m = no_member i h
delisted_gone g (v ∷ vs) qs i h m =
    member_cases ⊥ i v vs h
    (λ e. delist_gone g qs i (rw (← e) at (delisted_was g vs (delist g qs v) (degree g i) i m)))
    (λ ne k. delisted_gone g vs (delist g qs v) i k m)

delist_stays : (g : Graph) (qs : List (List ℕ)) (v d i : ℕ) → v ≢ i → d < length qs → member i (queue_of qs d) ≡ true → member i (queue_of (delist g qs v) d) ≡ true
unfolding delist
delist_stays g qs v d i ne l m =
    either (member i (queue_of (set qs (degree g v) (delete v (queue_of qs (degree g v)))) d) ≡ true) (eqb d (degree g v))
    (λ e.
    let k : d ≡ degree g v = eqb-true d (degree g v) e in
    rw (← k, get_or-set_same qs d (delete v (queue_of qs d)) [] l) (member_delete v i (queue_of qs d) ne m))
    (λ e. ap (member i) (get_or-set_other qs (degree g v) d (delete v (queue_of qs (degree g v))) [] (eqb-false d (degree g v) e)) ∙ m)

length_delist : (g : Graph) (qs : List (List ℕ)) (v : ℕ) → length (delist g qs v) ≡ length qs
unfolding delist
length_delist g qs v = length-set qs (degree g v) (delete v (queue_of qs (degree g v)))

pub delisted_stays : (g : Graph) (vs : List ℕ) (qs : List (List ℕ)) (d i : ℕ) → member i vs ≡ false → d < length qs → member i (queue_of qs d) ≡ true
    → member i (queue_of (delisted g qs vs) d) ≡ true
unfolding delisted
delisted_stays g [] qs d i h l m = m
delisted_stays g (v ∷ vs) qs d i h l m =
    delisted_stays g vs (delist g qs v) d i (not_there i v vs h) (rw (length_delist g qs v) l)
    (delist_stays g qs v d i (λ e. not_here i v vs h (sym e)) l m)

delist_once : (g : Graph) (qs : List (List ℕ)) (v : ℕ) → ((d : ℕ) → Distinct (queue_of qs d)) → (d : ℕ) → Distinct (queue_of (delist g qs v) d)
unfolding delist
delist_once g qs v h d =
    either (Distinct (queue_of (set qs (degree g v) (delete v (queue_of qs (degree g v)))) d)) (eqb d (degree g v))
    (λ e. rw (eqb-true d (degree g v) e) (put_cases Distinct qs (degree g v) (delete v (queue_of qs (degree g v))) (distinct_delete v (queue_of qs (degree g v)) (h (degree g v))) tt))
    (λ e. rw (get_or-set_other qs (degree g v) d (delete v (queue_of qs (degree g v))) [] (eqb-false d (degree g v) e)) (h d))

pub delisted_once : (g : Graph) (vs : List ℕ) (qs : List (List ℕ)) → ((d : ℕ) → Distinct (queue_of qs d)) → (d : ℕ) → Distinct (queue_of (delisted g qs vs) d)
unfolding delisted
delisted_once g [] qs h d = h d
delisted_once g (v ∷ vs) qs h d = delisted_once g vs (delist g qs v) (delist_once g qs v h) d

-- ---- coming in: the rows that the test has stand in the lists, each at its degree

pub record Standing (n : ℕ) (r : Placed) (has : ℕ → Bool) : Type 0 where
  pub size : length r.queues ≡ n
  pub wide : length r.graph.degrees ≡ n
  pub only : (d i : ℕ) → member i (queue_of r.queues d) ≡ true → (has i ≡ true) × (degree r.graph i ≡ d)
  pub all : (i : ℕ) → has i ≡ true → member i (queue_of r.queues (degree r.graph i)) ≡ true
  pub once : (d : ℕ) → Distinct (queue_of r.queues d)
  pub low : (i : ℕ) → has i ≡ true → r.least ≤ degree r.graph i
  pub high : (i : ℕ) → has i ≡ true → degree r.graph i < n

place_least : (left size : ℕ) (r : Placed) (v : ℕ) → ((place_one left size r v).least ≤ r.least) × ((place_one left size r v).least ≤ new_degree left size r.graph v)
unfolding place_one
place_least left size r v = (min-le_left r.least (new_degree left size r.graph v), min-le_right r.least (new_degree left size r.graph v))

module _ {n : ℕ} (left size : ℕ) (r : Placed) (v : ℕ) (lv : v < n) (has : ℕ → Bool) (absent : has v ≡ false) (s : Standing n r has)
    (low_degree : new_degree left size r.graph v < n) where
  abbrev d' : ℕ
  d' = new_degree left size r.graph v

  abbrev r' : Placed
  r' = place_one left size r v

  own : degree r'.graph v ≡ d'
  unfolding place_one put_degree
  own = get_or-set_same r.graph.degrees v d' 0 (omega (arith, s.wide))

  other : (i : ℕ) → i ≢ v → degree r'.graph i ≡ degree r.graph i
  unfolding place_one put_degree
  other i ne = get_or-set_other r.graph.degrees v i d' 0 ne

  queue_own : queue_of r'.queues d' ≡ v ∷ queue_of r.queues d'
  unfolding place_one push_front
  queue_own = get_or-set_same r.queues d' (v ∷ queue_of r.queues d') [] (omega (arith, s.size))

  queue_other : (d : ℕ) → d ≢ d' → queue_of r'.queues d ≡ queue_of r.queues d
  unfolding place_one push_front
  queue_other d ne = get_or-set_other r.queues d' d (v ∷ queue_of r.queues d') [] ne

  has_apart : (i : ℕ) → has i ≡ true → i ≢ v
  has_apart i h e = clash (has i) h (ap has e ∙ absent)

  was_there : (d i : ℕ) → member i (queue_of r.queues d) ≡ true → (eqb i v || has i ≡ true) × (degree r'.graph i ≡ d)
  was_there d i m =
      let k = s.only d i m in
      (or_right (eqb i v) (has i) k.0, other i (has_apart i k.0) ∙ k.1)

  stands_only : (d i : ℕ) → member i (queue_of r'.queues d) ≡ true → (eqb i v || has i ≡ true) × (degree r'.graph i ≡ d)
  stands_only d i m =
      either ((eqb i v || has i ≡ true) × (degree r'.graph i ≡ d)) (eqb d d')
      (λ e.
      let k : d ≡ d' = eqb-true d d' e in
      member_cases ((eqb i v || has i ≡ true) × (degree r'.graph i ≡ d)) i v (queue_of r.queues d')
      (ap (member i) (sym (ap (queue_of r'.queues) k ∙ queue_own)) ∙ m)
      (λ x. (or_left (eqb i v) (has i) (eq-eqb i v x), ap (degree r'.graph) x ∙ own ∙ sym k))
      (λ ne x. was_there d i (ap (λ (z : ℕ). member i (queue_of r.queues z)) k ∙ x)))
      (λ e. was_there d i (ap (member i) (sym (queue_other d (eqb-false d d' e))) ∙ m))

  stands_all : (i : ℕ) → eqb i v || has i ≡ true → member i (queue_of r'.queues (degree r'.graph i)) ≡ true
  stands_all i h =
      or_cases (member i (queue_of r'.queues (degree r'.graph i)) ≡ true) (eqb i v) (has i) h
      (λ e. rw (eqb-true i v e, own, queue_own) (member_here v (queue_of r.queues d')))
      (λ e.
      let ne = has_apart i e in
      let m = s.all i e in
      rw (other i ne)
      (either (member i (queue_of r'.queues (degree r.graph i)) ≡ true) (eqb (degree r.graph i) d')
      (λ x.
      let k : degree r.graph i ≡ d' = eqb-true (degree r.graph i) d' x in
      ap (λ (z : ℕ). member i (queue_of r'.queues z)) k ∙ ap (member i) queue_own
      ∙ member_there i v (queue_of r.queues d') (ap (λ (z : ℕ). member i (queue_of r.queues z)) (sym k) ∙ m))
      (λ x. ap (member i) (queue_other (degree r.graph i) (eqb-false (degree r.graph i) d' x)) ∙ m)))

  stands_once : (d : ℕ) → Distinct (queue_of r'.queues d)
  stands_once d =
      either (Distinct (queue_of r'.queues d)) (eqb d d')
      (λ e. rw (eqb-true d d' e, queue_own) (either (member v (queue_of r.queues d') ≡ false) (member v (queue_of r.queues d')) (λ m. clash (has v) (s.only d' v m).0 absent) (λ m. m), s.once d'))
      (λ e. rw (queue_other d (eqb-false d d' e)) (s.once d))

  stands_low : (i : ℕ) → eqb i v || has i ≡ true → r'.least ≤ degree r'.graph i
  stands_low i h =
      or_cases (r'.least ≤ degree r'.graph i) (eqb i v) (has i) h
      (λ e. rw (eqb-true i v e, own) least_own)
      (λ e. rw (other i (has_apart i e)) (omega (arith, least_was, s.low i e)))
    where
      least_own : r'.least ≤ d'
      least_own = (place_least left size r v).1

      least_was : r'.least ≤ r.least
      least_was = (place_least left size r v).0

  stands_high : (i : ℕ) → eqb i v || has i ≡ true → degree r'.graph i < n
  stands_high i h =
      or_cases (degree r'.graph i < n) (eqb i v) (has i) h
      (λ e. rw (eqb-true i v e, own) low_degree) (λ e. rw (other i (has_apart i e)) (s.high i e))

  pub standing_one : Standing n r' (λ i. eqb i v || has i)
  unfolding place_one put_degree push_front
  standing_one = record {
    size = length-set r.queues d' (v ∷ queue_of r.queues d') ∙ s.size;
    wide = length-set r.graph.degrees v d' ∙ s.wide;
    only = stands_only;
    all = stands_all;
    once = stands_once;
    low = stands_low;
    high = stands_high;
  }

-- the new degree is below n
pub new_low : (n left size : ℕ) (g : Graph) (v : ℕ) → left ≤ n → 0 < n → 1 ≤ weight g v → new_degree left size g v < n
unfolding new_degree
new_low n left size g v a b c = omega (arith, min-le_right (degree g v + size - weight g v) (left - weight g v))

pub standing_same : {n : ℕ} {r : Placed} {has had : ℕ → Bool} → Standing n r has → ((i : ℕ) → has i ≡ had i) → Standing n r had
standing_same s e = record {
  size = s.size;
  wide = s.wide;
  only = λ d i m. (sym (e i) ∙ (s.only d i m).0, (s.only d i m).1);
  all = λ i h. s.all i (e i ∙ h);
  once = s.once;
  low = λ i h. s.low i (e i ∙ h);
  high = λ i h. s.high i (e i ∙ h);
}

place_weight : (left size : ℕ) (r : Placed) (v x : ℕ) → weight (place_one left size r v).graph x ≡ weight r.graph x
unfolding place_one put_degree
place_weight left size r v x = refl

shuffle : (i v : ℕ) (vs : List ℕ) (b : Bool) → member i vs || (eqb i v || b) ≡ member i (v ∷ vs) || b
unfolding member
shuffle i v vs b = go (eqb i v) (member i vs)
  where
    go : (x y : Bool) → y || (x || b) ≡ (x || y) || b
    go true true = refl
    go true false = refl
    go false true = refl
    go false false = refl

pub standing_all : {n : ℕ} (left size : ℕ) (vs : List ℕ) (r : Placed) (has : ℕ → Bool) → left ≤ n → Distinct vs → ((v : ℕ) → member v vs ≡ true → v < n)
    → ((v : ℕ) → member v vs ≡ true → has v ≡ false) → ((v : ℕ) → member v vs ≡ true → 1 ≤ weight r.graph v) → Standing n r has
    → Standing n (placed left size vs r) (λ i. member i vs || has i)
unfolding placed
standing_all left size [] r has ln d l a w s = standing_same s (λ i. ap (λ (b : Bool). b || has i) (sym (member_nil i)))
standing_all {n} left size (v ∷ vs) r has ln d l a w s =
    let lv = l v (member_here v vs) in
    let one = standing_one left size r v lv has (a v (member_here v vs)) s (new_low n left size r.graph v ln (omega arith) (w v (member_here v vs))) in
    standing_same
    (standing_all left size vs (place_one left size r v) (λ i. eqb i v || has i) ln d.1 (λ x m. l x (member_there x v vs m))
    (λ x m. rw (ne_eqb x v (λ e. clash (member x vs) m (ap (λ (z : ℕ). member z vs) e ∙ d.0))) (a x (member_there x v vs m)))
    (λ x m. rw (place_weight left size r v x) (w x (member_there x v vs m)))
    one)
    (λ i. shuffle i v vs (has i))
