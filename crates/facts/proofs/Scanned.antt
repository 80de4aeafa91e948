-- E2: where the columns rise and stay in range, the scan meets no pair twice; so the neighbour lists are as the invariant's start needs them.
-- Assumes nothing.
use Prim.Native.Nat.{ℕ, zero, suc, ◌+◌, ◌≤◌, ◌<◌}
use native.Mathlib.Omega.{arith}
use native.Mathlib.Decide.{dec_lt}
use mathlib.Core.Path.{◌≡◌, refl, sym, ap, ◌∙◌}
use mathlib.Core.Logic.{◌≢◌}
use mathlib.Core.Bool.{Bool, true, false, cond, not, false≢true}
use mathlib.Core.List.{List, [], ◌∷◌, ◌++◌, map, foldl, flat_map}
use lib.Dec.{eqb, ltb}
use lib.ListN.{length, get_or, set, replicate, get_or-eq_default}
use lib.Seq.{get_or-set_other}
use borrow.Author.Tests.{eqb-true, eqb-false, ltb-true, ltb-false}
use Rattle.plain.proofs.Logic.{and_left, none_if, either, and_right, clash}
use Rattle.plain.proofs.Members.{no_member, member_here, member_below, member_there, member_cases}
use Rattle.plain.proofs.Positions.{get_or_counted, length_counted, get_or_same}
use Rattle.plain.proofs.Repeats.{distinct_count_up}
use Rattle.plain.specs.Lists.{member, up_to, count_up, leading, trailing, cons_if, rises, rises_from}
use Rattle.plain.specs.Members.{Distinct}
use Rattle.definition.specs.Neighbours.{Pair, Scan, pair, skip, above, below, meet, meet_column, scanned, left_over, all_pairs, written, neighbours}
use Rattle.facts.proofs.Queues.{put_cases}
use Rattle.facts.proofs.Start.{Neighbourly}
use Rattle.facts.proofs.Pairs.{touch, touch_cases, touch_back, touch_append, touch_map, Once, once_append, once_map, member_written, distinct_written}

-- ---- rising lists

abbrev Asc : List ℕ → Type 0
Asc [] = Unit {0}
Asc (x ∷ xs) = ((y : ℕ) → member y xs ≡ true → x < y) × Asc xs

asc_from : (b : ℕ) (xs : List ℕ) → rises_from b xs ≡ true → ((y : ℕ) → member y xs ≡ true → b < y) × Asc xs
unfolding rises_from
asc_from b [] h = ((λ y m. no_member y m), tt)
asc_from b (x ∷ xs) h =
    let l : b < x = ltb-true b x (and_left (ltb b x) (rises_from x xs) h) in
    let r = asc_from x xs (and_right (ltb b x) (rises_from x xs) h) in
    ((λ y m. member_cases (b < y) y x xs m (λ e. omega arith) (λ ne k. omega (arith, r.0 y k))), r)

asc_rises : (xs : List ℕ) → rises xs ≡ true → Asc xs
unfolding rises
asc_rises [] h = tt
asc_rises (x ∷ xs) h = asc_from x xs h

asc_distinct : (xs : List ℕ) → Asc xs → Distinct xs
asc_distinct [] a = tt
asc_distinct (x ∷ xs) a = (none_if (member x xs) (λ m. absurd (omega (arith, a.0 x m))), asc_distinct xs a.1)

pub above_was : (k : ℕ) (xs : List ℕ) (i : ℕ) → member i (above k xs) ≡ true → (member i xs ≡ true) × (i < k)
unfolding above leading
above_was k [] i m = no_member i m
above_was k (x ∷ xs) i m = go (above_was k xs i) (ltb x k) refl m
  where
    go : (member i (above k xs) ≡ true → (member i xs ≡ true) × (i < k)) → (b : Bool) → ltb x k ≡ b → member i (cond b (x ∷ above k xs) []) ≡ true → (member i (x ∷ xs) ≡ true) × (i < k)
    go ih true e h =
        let l : x < k = ltb-true x k e in
        member_cases ((member i (x ∷ xs) ≡ true) × (i < k)) i x (above k xs) h
        (λ q. (ap (λ (z : ℕ). member z (x ∷ xs)) q ∙ member_here x xs, omega arith))
        (λ ne r. (member_there i x xs (ih r).0, (ih r).1))
    go ih false e h = no_member i h

above_distinct : (k : ℕ) (xs : List ℕ) → Asc xs → Distinct (above k xs)
unfolding above leading
above_distinct k [] a = tt
above_distinct k (x ∷ xs) a = go (above_distinct k xs a.1) (ltb x k)
  where
    go : Distinct (above k xs) → (b : Bool) → Distinct (cond b (x ∷ above k xs) [])
    go d true = (none_if (member x (above k xs)) (λ m. absurd (omega (arith, a.0 x (above_was k xs x m).0))), d)
    go d false = tt

-- what is below the diagonal k
record Beneath (k : ℕ) (xs ys : List ℕ) : Type 0 where
  asc : Asc ys
  was : (i : ℕ) → member i ys ≡ true → member i xs ≡ true
  past : (i : ℕ) → member i ys ≡ true → k < i

beneath : (k : ℕ) (xs : List ℕ) → Asc xs → Beneath k xs (below k xs)
unfolding below trailing skip
beneath k [] a = record { asc = tt; was = λ i m. m; past = λ i m. no_member i m }
beneath k (x ∷ xs) a = go (beneath k xs a.1) (ltb x k) refl
  where
    go2 : k ≤ x → (b : Bool) → eqb x k ≡ b → Beneath k (x ∷ xs) (cons_if (not b) x xs)
    go2 l true e =
        let q : x ≡ k = eqb-true x k e in
        record { asc = a.1; was = λ i m. member_there i x xs m; past = λ i m. omega (arith, a.0 i m) }
    go2 l false e =
        let q : x ≢ k = eqb-false x k e in
        record { asc = a; was = λ i m. m; past = λ i m. member_cases (k < i) i x xs m (λ r. omega arith) (λ ne r. omega (arith, a.0 i r)) }

    go : Beneath k xs (below k xs) → (b : Bool) → ltb x k ≡ b → Beneath k (x ∷ xs) (skip k (cond b (trailing (λ i. ltb i k) xs) (x ∷ xs)))
    go r true e = record { asc = r.asc; was = λ i m. member_there i x xs (r.was i m); past = r.past }
    go r false e = go2 (ltb-false x k e) (eqb x k) refl

-- ---- the scan

record Good (n top : ℕ) (m : Scan) : Type 0 where
  once : Once m.met
  low : (v w : ℕ) → touch v w m.met ≡ true → v < top
  apart : (x : ℕ) → touch x x m.met ≡ true → ⊥
  asc : (j : ℕ) → Asc (get_or m.waiting j [])
  later : (j i : ℕ) → member i (get_or m.waiting j []) ≡ true → j < i
  fresh : (j i : ℕ) → member i (get_or m.waiting j []) ≡ true → touch i j m.met ≡ true → ⊥
  inside : (j i : ℕ) → member i (get_or m.waiting j []) ≡ true → i < n

-- a place after one is set: the new list, or none, at it, and the old ones elsewhere
pub set_cases : (P : ℕ → List ℕ → Type 0) (ws : List (List ℕ)) (j : ℕ) (l : List ℕ) → P j l → P j [] → ((x : ℕ) → x ≢ j → P x (get_or ws x [])) → (x : ℕ) → P x (get_or (set ws j l) x [])
set_cases P ws j l a b c x =
    either (P x (get_or (set ws j l) x [])) (eqb x j)
    (λ e. rw (eqb-true x j e) (put_cases (P j) ws j l a b))
    (λ e. rw (get_or-set_other ws j x l [] (eqb-false x j e)) (c x (eqb-false x j e)))

module _ (n k j : ℕ) (m : Scan) (good : Good n (suc k) m) (jk : j < k) (kn : k < n) (unmet : touch j k m.met ≡ true → ⊥) where
  abbrev W : List ℕ
  W = get_or m.waiting j []

  abbrev ys : List Pair
  ys = pair j k ∷ map (λ i. pair i j) (above k W)

  -- what the turn meets
  turn : (P : Type 0) (v w : ℕ) → touch v w ys ≡ true → (v ≡ j → w ≡ k → P) → (v ≡ k → w ≡ j → P)
      → ((i : ℕ) → member i W ≡ true → i < k → v ≡ i → w ≡ j → P) → ((i : ℕ) → member i W ≡ true → i < k → v ≡ j → w ≡ i → P) → P
  turn P v w h a b c d =
      touch_cases P v w (pair j k) (map (λ i. pair i j) (above k W)) h a b
      (λ r. touch_map P v w j (above k W) r (λ i x. c i (above_was k W i x).0 (above_was k W i x).1) (λ i x. d i (above_was k W i x).0 (above_was k W i x).1))

  new_once : Once ys
  new_once = (
    none_if (touch j k (map (λ i. pair i j) (above k W)))
        (λ h. touch_map ⊥ j k j (above k W) h (λ i x a b. absurd (omega arith)) (λ i x a b. absurd (omega (arith, (above_was k W i x).1)))),
    once_map j (above k W) (above_distinct k W (good.asc j)) (λ i x. good.later j i (above_was k W i x).0),
  )

  met_now : (P : Type 0) (v w : ℕ) → touch v w (m.met ++ ys) ≡ true → (touch v w m.met ≡ true → P) → (touch v w ys ≡ true → P) → P
  met_now P v w h a b = touch_append P v w m.met ys h a b

  still_fresh : (x i : ℕ) → x ≢ j → member i (get_or m.waiting x []) ≡ true → touch i x (m.met ++ ys) ≡ true → ⊥
  still_fresh x i ne mi h =
      let l = good.later x i mi in
      met_now ⊥ i x h (λ r. good.fresh x i mi r)
      (λ r. turn ⊥ i x r (λ a b. absurd (omega arith)) (λ a b. ne b) (λ y my ly a b. ne b) (λ y my ly a b. absurd (omega (arith, good.later j y my))))

  new_low : (v w : ℕ) → touch v w (m.met ++ ys) ≡ true → v < suc k
  new_low v w h =
      met_now (v < suc k) v w h (λ r. good.low v w r)
      (λ r. turn (v < suc k) v w r (λ a b. omega arith) (λ a b. omega arith) (λ y my ly a b. omega arith) (λ y my ly a b. omega arith))

  good_meet : Good n (suc k) (meet k m j)
  unfolding meet
  good_meet =
      let be = beneath k W (good.asc j) in
      record {
        once = once_append m.met ys good.once new_once
            (λ v w h r. turn ⊥ v w r
            (λ a b. unmet (rw (a, b) at h))
            (λ a b. unmet (touch_back k j m.met (rw (a, b) at h)))
            (λ i mi li a b. good.fresh j i mi (rw (a, b) at h))
            (λ i mi li a b. good.fresh j i mi (touch_back j i m.met (rw (a, b) at h))));
        low = new_low;
        apart = λ x h. met_now ⊥ x x h (good.apart x)
            (λ r. turn ⊥ x x r (λ a b. absurd (omega arith)) (λ a b. absurd (omega arith)) (λ i mi li a b. absurd (omega (arith, good.later j i mi))) (λ i mi li a b. absurd (omega (arith, good.later j i mi))));
        asc = set_cases (λ x l. Asc l) m.waiting j (below k W) be.asc tt (λ x ne. good.asc x);
        later = set_cases (λ x l. (i : ℕ) → member i l ≡ true → x < i) m.waiting j (below k W) (λ i mi. omega (arith, be.past i mi)) (λ i mi. no_member i mi) (λ x ne. good.later x);
        fresh = set_cases (λ x l. (i : ℕ) → member i l ≡ true → touch i x (m.met ++ ys) ≡ true → ⊥) m.waiting j (below k W)
            (λ i mi h. absurd (omega (arith, be.past i mi, new_low i j h))) (λ i mi. no_member i mi) (λ x ne i mi h. still_fresh x i ne mi h);
        inside = set_cases (λ x l. (i : ℕ) → member i l ≡ true → i < n) m.waiting j (below k W) (λ i mi. good.inside j i (be.was i mi)) (λ i mi. no_member i mi) (λ x ne. good.inside x);
      }

  -- another row of the column is not met yet
  pending : (x : ℕ) → x ≢ j → x < k → (touch x k m.met ≡ true → ⊥) → touch x k (meet k m j).met ≡ true → ⊥
  unfolding meet
  pending x ne xk u h =
      met_now ⊥ x k h u (λ r. turn ⊥ x k r (λ a b. ne a) (λ a b. absurd (omega arith)) (λ i mi li a b. absurd (omega arith)) (λ i mi li a b. absurd (omega arith)))

meets : (n k : ℕ) → k < n → (js : List ℕ) → Distinct js → ((j : ℕ) → member j js ≡ true → j < k) → (m : Scan) → Good n (suc k) m
    → ((j : ℕ) → member j js ≡ true → touch j k m.met ≡ true → ⊥) → Good n (suc k) (foldl (meet k) m js)
meets n k kn [] d l m g u = g
meets n k kn (j ∷ js) d l m g u =
    let jk = l j (member_here j js) in
    let uj = u j (member_here j js) in
    meets n k kn js d.1 (λ x mx. l x (member_there x j js mx)) (meet k m j) (good_meet n k j m g jk kn uj)
    (λ x mx. pending n k j m g jk kn uj x (λ e. clash (member x js) mx (ap (λ (z : ℕ). member z js) e ∙ d.0)) (l x (member_there x j js mx)) (u x (member_there x j js mx)))

good_more : {n a : ℕ} {m : Scan} → Good n a m → Good n (suc a) m
good_more g = record { once = g.once; low = λ v w h. omega (arith, g.low v w h); apart = g.apart; asc = g.asc; later = g.later; fresh = g.fresh; inside = g.inside }

module _ (cols : List (List ℕ)) (r : (k : ℕ) → rises (get_or cols k []) ≡ true) (within : (k i : ℕ) → member i (get_or cols k []) ≡ true → i < length cols) where
  abbrev n : ℕ
  n = length cols

  column : (m : Scan) (k : ℕ) → k < n → Good n k m → Good n (suc k) (meet_column cols m k)
  unfolding meet_column
  column m k kn g =
      let up = above k (get_or cols k []) in
      let a = asc_rises (get_or cols k []) (r k) in
      let f = meets n k kn up (above_distinct k (get_or cols k []) a) (λ j x. (above_was k (get_or cols k []) j x).1) m (good_more g)
      (λ j x h. absurd (omega (arith, g.low k j (touch_back j k m.met h)))) in
      let be = beneath k (get_or cols k []) a in
      let w = (foldl (meet k) m up).waiting in
      record {
        once = f.once;
        low = f.low;
        apart = f.apart;
        asc = set_cases (λ x l. Asc l) w k (below k (get_or cols k [])) be.asc tt (λ x ne. f.asc x);
        later = set_cases (λ x l. (i : ℕ) → member i l ≡ true → x < i) w k (below k (get_or cols k [])) (λ i mi. be.past i mi) (λ i mi. no_member i mi) (λ x ne. f.later x);
        fresh = set_cases (λ x l. (i : ℕ) → member i l ≡ true → touch i x (foldl (meet k) m up).met ≡ true → ⊥) w k (below k (get_or cols k []))
            (λ i mi h. absurd (omega (arith, be.past i mi, f.low i k h))) (λ i mi. no_member i mi) (λ x ne. f.fresh x);
        inside = set_cases (λ x l. (i : ℕ) → member i l ≡ true → i < n) w k (below k (get_or cols k [])) (λ i mi. within k i (be.was i mi)) (λ i mi. no_member i mi) (λ x ne. f.inside x);
      }

  columns : (a c : ℕ) (m : Scan) → a + c ≡ n → Good n a m → Good n n (foldl (meet_column cols) m (count_up a c))
  unfolding count_up
  columns a zero m e g = let q : a ≡ n = omega arith in rw q at g
  columns a (suc c) m e g = columns (suc a) c (meet_column cols m a) (omega arith) (column m a (omega arith) g)

  good_start : Good n 0 (record { met = []; waiting = replicate n [] })
  unfolding touch
  good_start =
      let z : (j i : ℕ) → member i (get_or (replicate n []) j []) ≡ true → ⊥ = λ j i x. no_member i (ap (member i) (sym (get_or_same {A = List ℕ} n j [])) ∙ x) in
      record {
        once = tt;
        low = λ v w h. absurd (false≢true h);
        apart = λ x h. absurd (false≢true h);
        asc = λ j. rw (get_or_same {A = List ℕ} n j []) tt;
        later = λ j i x. absurd (z j i x);
        fresh = λ j i x h. z j i x;
        inside = λ j i x. absurd (z j i x);
      }

  good : Good n n (scanned cols)
  unfolding scanned
  good = columns 0 n (record { met = []; waiting = replicate n [] }) (omega arith) good_start

  -- ---- what is left over

  left_touch : (P : Type 0) (v w : ℕ) (js : List ℕ) → touch v w (flat_map (left_over (scanned cols)) js) ≡ true
      → ((j i : ℕ) → member j js ≡ true → member i (get_or (scanned cols).waiting j []) ≡ true → v ≡ i → w ≡ j → P)
      → ((j i : ℕ) → member j js ≡ true → member i (get_or (scanned cols).waiting j []) ≡ true → v ≡ j → w ≡ i → P) → P
  unfolding flat_map left_over touch
  left_touch P v w [] h a b = absurd (false≢true h)
  left_touch P v w (j ∷ js) h a b =
      touch_append P v w (map (λ i. pair i j) (get_or (scanned cols).waiting j [])) (flat_map (left_over (scanned cols)) js) h
      (λ k. touch_map P v w j (get_or (scanned cols).waiting j []) k (λ i m x y. a j i (member_here j js) m x y) (λ i m x y. b j i (member_here j js) m x y))
      (λ k. left_touch P v w js k (λ x i mx. a x i (member_there x j js mx)) (λ x i mx. b x i (member_there x j js mx)))

  left_once : (js : List ℕ) → Distinct js → Once (flat_map (left_over (scanned cols)) js)
  unfolding flat_map left_over
  left_once [] d = tt
  left_once (j ∷ js) d =
      once_append (map (λ i. pair i j) (get_or (scanned cols).waiting j [])) (flat_map (left_over (scanned cols)) js)
      (once_map j (get_or (scanned cols).waiting j []) (asc_distinct (get_or (scanned cols).waiting j []) (good.asc j)) (good.later j)) (left_once js d.1)
      (λ v w h k. touch_map ⊥ v w j (get_or (scanned cols).waiting j []) h
      (λ i m x y. left_touch ⊥ v w js k
      (λ o e mo me p q. clash (member j js) (ap (λ (z : ℕ). member z js) (sym y ∙ q) ∙ mo) d.0)
      (λ o e mo me p q. absurd (omega (arith, good.later j i m, good.later o e me))))
      (λ i m x y. left_touch ⊥ v w js k
      (λ o e mo me p q. absurd (omega (arith, good.later j i m, good.later o e me)))
      (λ o e mo me p q. clash (member j js) (ap (λ (z : ℕ). member z js) (sym x ∙ p) ∙ mo) d.0)))

  all_once : Once (all_pairs cols)
  unfolding all_pairs
  all_once =
      once_append (scanned cols).met (flat_map (left_over (scanned cols)) (up_to n)) good.once (left_once (up_to n) (distinct_count_up 0 n))
      (λ v w h k. left_touch ⊥ v w (up_to n) k
      (λ j i mj mi x y. good.fresh j i mi (rw (x, y) at h))
      (λ j i mj mi x y. good.fresh j i mi (touch_back j i (scanned cols).met (rw (x, y) at h))))

  all_apart : (x : ℕ) → touch x x (all_pairs cols) ≡ false
  unfolding all_pairs
  all_apart x = none_if (touch x x ((scanned cols).met ++ flat_map (left_over (scanned cols)) (up_to n)))
      (λ h. touch_append ⊥ x x (scanned cols).met (flat_map (left_over (scanned cols)) (up_to n)) h (good.apart x)
      (λ k. left_touch ⊥ x x (up_to n) k (λ j i mj mi a b. absurd (omega (arith, good.later j i mi))) (λ j i mj mi a b. absurd (omega (arith, good.later j i mi)))))

  pub all_low : (v w : ℕ) → touch v w (all_pairs cols) ≡ true → v < n
  unfolding all_pairs
  all_low v w h = touch_append (v < n) v w (scanned cols).met (flat_map (left_over (scanned cols)) (up_to n)) h (good.low v w)
      (λ k. left_touch (v < n) v w (up_to n) k
      (λ j i mj mi a b. omega (arith, good.inside j i mi)) (λ j i mj mi a b. omega (arith, member_below j 0 n mj)))

  -- ---- the lists

  pub row_in : (v : ℕ) → v < n → get_or (neighbours cols) v [] ≡ written v (all_pairs cols)
  unfolding neighbours
  row_in v l = get_or_counted (λ u. written u (all_pairs cols)) [] 0 n v l ∙ ap (λ (u : ℕ). written u (all_pairs cols)) (omega arith)

  row_out : (v : ℕ) → n ≤ v → get_or (neighbours cols) v [] ≡ []
  unfolding neighbours
  row_out v l = get_or-eq_default (map (λ u. written u (all_pairs cols)) (up_to n)) [] {n = v} (rw (length_counted (λ u. written u (all_pairs cols)) 0 n) l)

  pub length_neighbours : length (neighbours cols) ≡ length cols
  unfolding neighbours
  length_neighbours = length_counted (λ u. written u (all_pairs cols)) 0 n

  -- w is in v's list exactly where a pair joins them
  pub row_touch : (v w : ℕ) → member w (get_or (neighbours cols) v []) ≡ true → touch v w (all_pairs cols) ≡ true
  row_touch v w h = go (dec_lt v n)
    where
      go : Dec (v < n) → touch v w (all_pairs cols) ≡ true
      go (yes l) = sym (member_written v w (all_pairs cols)) ∙ ap (member w) (sym (row_in v l)) ∙ h
      go (no l) = no_member w (ap (member w) (sym (row_out v (omega arith))) ∙ h)

  pub touch_row : (v w : ℕ) → touch v w (all_pairs cols) ≡ true → member w (get_or (neighbours cols) v []) ≡ true
  touch_row v w h = ap (member w) (row_in v (all_low v w h)) ∙ member_written v w (all_pairs cols) ∙ h

  pub neighbourly : Neighbourly (neighbours cols)
  neighbourly = record {
    distinct = λ v. go v (dec_lt v n);
    own = λ v. none_if (member v (get_or (neighbours cols) v [])) (λ h. clash (touch v v (all_pairs cols)) (row_touch v v h) (all_apart v));
    inside = λ v w h. rw length_neighbours (all_low w v (touch_back v w (all_pairs cols) (row_touch v w h)));
    mutual_rows = λ v w h. touch_row w v (touch_back v w (all_pairs cols) (row_touch v w h));
  }
    where
      go : (v : ℕ) → Dec (v < n) → Distinct (get_or (neighbours cols) v [])
      go v (yes l) = rw (row_in v l) (distinct_written v (all_pairs cols) all_once all_apart)
      go v (no l) = rw (row_out v (omega arith)) tt
