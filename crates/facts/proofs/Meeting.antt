-- E2, first half: the scan of any columns meets what an entry off the diagonal joins, and nothing that no entry joins. Nothing is lost on the way:
-- an entry of a column that was passed is met, or it waits.
-- Assumes nothing.
use Prim.Native.Nat.{ℕ, zero, suc, ◌+◌, ◌<◌}
use native.Mathlib.Omega.{arith}
use mathlib.Core.Path.{◌≡◌, refl, sym, ap, ◌∙◌}
use mathlib.Core.Logic.{◌≢◌}
use mathlib.Core.Bool.{Bool, true, false, not, ◌||◌}
use mathlib.Core.List.{List, [], ◌∷◌, ◌++◌, map, foldl, flat_map}
use lib.Dec.{eqb, ltb}
use lib.ListN.{length, get_or, set, replicate, length-set, length-replicate}
use lib.Seq.{get_or-set_same, get_or-set_other}
use borrow.Author.Tests.{eqb-true, eqb-false}
use Rattle.plain.proofs.Logic.{either, or_left, or_right, or_cases}
use Rattle.plain.proofs.Members.{no_member, member_here, member_there, member_cases, member_append, member_up_to}
use Rattle.plain.proofs.Folds.{leading_trailing}
use Rattle.plain.proofs.Positions.{get_or_same}
use Rattle.plain.specs.Lists.{member, up_to, count_up, leading, trailing, cons_if}
use Rattle.definition.specs.Neighbours.{Pair, Scan, pair, skip, above, below, meet, meet_column, scanned, left_over, all_pairs}
use Rattle.facts.proofs.Pairs.{touch, touch_cases, touch_straight, touch_crossed, touch_there, touch_back, touch_append, touch_left, touch_right, touch_map, touch_mapped, no_touch}
use Rattle.facts.proofs.Scanned.{set_cases, above_was}

-- an entry joins v and w, either way round: A+A'
abbrev pub joins : List (List ℕ) → ℕ → ℕ → Bool
joins cols v w = member w (get_or cols v []) || member v (get_or cols w [])

-- ---- a column in two, at the diagonal

skip_was : (k : ℕ) (xs : List ℕ) (i : ℕ) → member i (skip k xs) ≡ true → member i xs ≡ true
unfolding skip
skip_was k [] i m = m
skip_was k (x ∷ xs) i m = go (not (eqb x k)) m
  where
    go : (b : Bool) → member i (cons_if b x xs) ≡ true → member i (x ∷ xs) ≡ true
    go true h = h
    go false h = member_there i x xs h

skip_has : (k : ℕ) (xs : List ℕ) (i : ℕ) → i ≢ k → member i xs ≡ true → member i (skip k xs) ≡ true
unfolding skip
skip_has k [] i ne m = m
skip_has k (x ∷ xs) i ne m = go (eqb x k) refl
  where
    go : (b : Bool) → eqb x k ≡ b → member i (cons_if (not b) x xs) ≡ true
    go true e = member_cases (member i xs ≡ true) i x xs m (λ q. absurd (ne (q ∙ eqb-true x k e))) (λ nq r. r)
    go false e = m

pub below_was : (k : ℕ) (xs : List ℕ) (i : ℕ) → member i (below k xs) ≡ true → member i xs ≡ true
unfolding below
below_was k xs i m =
    ap (member i) (sym (leading_trailing (λ x. ltb x k) xs)) ∙ member_append i (leading (λ x. ltb x k) xs) (trailing (λ x. ltb x k) xs)
    ∙ or_right (member i (leading (λ x. ltb x k) xs)) (member i (trailing (λ x. ltb x k) xs)) (skip_was k (trailing (λ x. ltb x k) xs) i m)

-- an entry is above the diagonal, on it, or below
halves : (P : Type 0) (k : ℕ) (xs : List ℕ) (i : ℕ) → member i xs ≡ true → (member i (above k xs) ≡ true → P) → (i ≡ k → P) → (member i (below k xs) ≡ true → P) → P
unfolding above below
halves P k xs i m f g h =
    or_cases P (member i (leading (λ x. ltb x k) xs)) (member i (trailing (λ x. ltb x k) xs))
    (sym (member_append i (leading (λ x. ltb x k) xs) (trailing (λ x. ltb x k) xs)) ∙ ap (member i) (leading_trailing (λ x. ltb x k) xs) ∙ m) f
    (λ r. either P (eqb i k) (λ e. g (eqb-true i k e)) (λ e. h (skip_has k (trailing (λ x. ltb x k) xs) i (eqb-false i k e) r)))

-- ---- what the scan has met, and what waits, when it has passed the columns before top

module _ (cols : List (List ℕ)) where
  abbrev n : ℕ
  n = length cols

  abbrev col : ℕ → List ℕ
  col j = get_or cols j []

  abbrev waits : Scan → ℕ → List ℕ
  waits m j = get_or m.waiting j []

  record Seen (top : ℕ) (m : Scan) : Type 0 where
    size : length m.waiting ≡ n
    met_was : (v w : ℕ) → touch v w m.met ≡ true → joins cols v w ≡ true
    waits_was : (j i : ℕ) → member i (waits m j) ≡ true → member i (col j) ≡ true
    all : (k i : ℕ) → k < top → member i (col k) ≡ true → i ≢ k → touch i k m.met || member i (waits m k) ≡ true

  module _ (k j : ℕ) (m : Scan) (kn : k < n) (jk : member j (col k) ≡ true) (seen : Seen k m) where
    abbrev W : List ℕ
    W = waits m j

    abbrev ys : List Pair
    ys = pair j k ∷ map (λ i. pair i j) (above k W)

    abbrev later : List (List ℕ)
    later = set m.waiting j (below k W)

    new_was : (v w : ℕ) → touch v w ys ≡ true → joins cols v w ≡ true
    new_was v w h =
        touch_cases (joins cols v w ≡ true) v w (pair j k) (map (λ i. pair i j) (above k W)) h
        (λ a b. rw (a, b) (or_right (member k (col j)) (member j (col k)) jk))
        (λ a b. rw (a, b) (or_left (member j (col k)) (member k (col j)) jk))
        (λ r. touch_map (joins cols v w ≡ true) v w j (above k W) r
        (λ i x a b. rw (a, b) (or_right (member j (col i)) (member i (col j)) (seen.waits_was j i (above_was k W i x).0)))
        (λ i x a b. rw (a, b) (or_left (member i (col j)) (member j (col i)) (seen.waits_was j i (above_was k W i x).0))))

    -- an entry of column j that waited
    own : (i : ℕ) → j < k → member i W ≡ true → touch i j (m.met ++ ys) || member i (get_or later j []) ≡ true
    own i l w =
        halves (touch i j (m.met ++ ys) || member i (get_or later j []) ≡ true) k W i w
        (λ a. or_left (touch i j (m.met ++ ys)) (member i (get_or later j []))
        (touch_right i j m.met ys (touch_there i j (pair j k) (map (λ x. pair x j) (above k W)) (touch_mapped i j (above k W) a))))
        (λ e. or_left (touch i j (m.met ++ ys)) (member i (get_or later j []))
        (touch_right i j m.met ys (touch_crossed i j (pair j k) (map (λ x. pair x j) (above k W)) e refl)))
        (λ b. or_right (touch i j (m.met ++ ys)) (member i (get_or later j []))
        (ap (member i) (get_or-set_same m.waiting j (below k W) [] (omega (arith, seen.size))) ∙ b))

    kept : (c i : ℕ) → c < k → touch i c m.met || member i (waits m c) ≡ true → touch i c (m.met ++ ys) || member i (get_or later c []) ≡ true
    kept c i l h =
        or_cases (touch i c (m.met ++ ys) || member i (get_or later c []) ≡ true) (touch i c m.met) (member i (waits m c)) h
        (λ t. or_left (touch i c (m.met ++ ys)) (member i (get_or later c [])) (touch_left i c m.met ys t))
        (λ w. either (touch i c (m.met ++ ys) || member i (get_or later c []) ≡ true) (eqb c j)
        (λ e. let q : c ≡ j = eqb-true c j e in rw q (own i (omega arith) (rw q at w)))
        (λ e. or_right (touch i c (m.met ++ ys)) (member i (get_or later c [])) (ap (member i) (get_or-set_other m.waiting j c (below k W) [] (eqb-false c j e)) ∙ w)))

    seen_meet : Seen k (meet k m j)
    unfolding meet
    seen_meet = record {
      size = length-set m.waiting j (below k W) ∙ seen.size;
      met_was = λ v w h. touch_append (joins cols v w ≡ true) v w m.met ys h (seen.met_was v w) (new_was v w);
      waits_was = set_cases (λ x l. (i : ℕ) → member i l ≡ true → member i (col x) ≡ true) m.waiting j (below k W)
          (λ i h. seen.waits_was j i (below_was k W i h)) (λ i h. no_member i h) (λ x ne. seen.waits_was x);
      all = λ c i l h ne. kept c i l (seen.all c i l h ne);
    }

    met_stays : (v w : ℕ) → touch v w m.met ≡ true → touch v w (meet k m j).met ≡ true
    unfolding meet
    met_stays v w h = touch_left v w m.met ys h

    met_now : touch j k (meet k m j).met ≡ true
    unfolding meet
    met_now = touch_right j k m.met ys (touch_straight j k (pair j k) (map (λ i. pair i j) (above k W)) refl refl)

  -- the rows above the diagonal of a column, in turn
  record Turned (k : ℕ) (m : Scan) (js : List ℕ) (t : Scan) : Type 0 where
    seen : Seen k t
    stays : (v w : ℕ) → touch v w m.met ≡ true → touch v w t.met ≡ true
    now : (j : ℕ) → member j js ≡ true → touch j k t.met ≡ true

  turned : (k : ℕ) → k < n → (js : List ℕ) → ((j : ℕ) → member j js ≡ true → member j (col k) ≡ true) → (m : Scan) → Seen k m
      → Turned k m js (foldl (meet k) m js)
  turned k kn [] l m s = record { seen = s; stays = λ v w h. h; now = λ j h. no_member j h }
  turned k kn (j ∷ js) l m s =
      let jk = l j (member_here j js) in
      let r = turned k kn js (λ x h. l x (member_there x j js h)) (meet k m j) (seen_meet k j m kn jk s) in
      record {
        seen = r.seen;
        stays = λ v w h. r.stays v w (met_stays k j m kn jk s v w h);
        now = λ x h. member_cases (touch x k (foldl (meet k) (meet k m j) js).met ≡ true) x j js h
            (λ e. rw e (r.stays j k (met_now k j m kn jk s))) (λ ne w. r.now x w);
      }

  module _ (m : Scan) (k : ℕ) (kn : k < n) (s : Seen k m) where
    abbrev end : Scan
    end = foldl (meet k) m (above k (col k))

    abbrev left : List (List ℕ)
    left = set end.waiting k (below k (col k))

    whole : Turned k m (above k (col k)) end
    whole = turned k kn (above k (col k)) (λ j h. (above_was k (col k) j h).0) m s

    -- an entry of column k itself
    fresh : (i : ℕ) → i ≢ k → member i (col k) ≡ true → touch i k end.met || member i (get_or left k []) ≡ true
    fresh i ne h =
        halves (touch i k end.met || member i (get_or left k []) ≡ true) k (col k) i h
        (λ a. or_left (touch i k end.met) (member i (get_or left k [])) (whole.now i a))
        (λ e. absurd (ne e))
        (λ b. or_right (touch i k end.met) (member i (get_or left k []))
        (ap (member i) (get_or-set_same end.waiting k (below k (col k)) [] (omega (arith, whole.seen.size))) ∙ b))

    seen_column : Seen (suc k) (meet_column cols m k)
    unfolding meet_column
    seen_column = record {
      size = length-set end.waiting k (below k (col k)) ∙ whole.seen.size;
      met_was = whole.seen.met_was;
      waits_was = set_cases (λ x l. (i : ℕ) → member i l ≡ true → member i (col x) ≡ true) end.waiting k (below k (col k))
          (λ i h. below_was k (col k) i h) (λ i h. no_member i h) (λ x ne. whole.seen.waits_was x);
      all = λ c i l h ne. either (touch i c end.met || member i (get_or left c []) ≡ true) (eqb c k)
          (λ e. let q : c ≡ k = eqb-true c k e in rw q (fresh i (rw q at ne) (rw q at h)))
          (λ e. let q : c ≢ k = eqb-false c k e in
          ap (λ (r : List ℕ). touch i c end.met || member i r) (get_or-set_other end.waiting k c (below k (col k)) [] q) ∙ whole.seen.all c i (omega arith) h ne);
    }

  seen_columns : (a c : ℕ) (m : Scan) → a + c ≡ n → Seen a m → Seen n (foldl (meet_column cols) m (count_up a c))
  unfolding count_up
  seen_columns a zero m e s = let q : a ≡ n = omega arith in rw q at s
  seen_columns a (suc c) m e s = seen_columns (suc a) c (meet_column cols m a) (omega arith) (seen_column m a (omega arith) s)

  seen_all : Seen n (scanned cols)
  unfolding scanned
  seen_all = seen_columns 0 n (record { met = []; waiting = replicate n [] }) (omega arith) (record {
    size = simp length-replicate refl;
    met_was = λ v w h. no_touch v w h;
    waits_was = λ j i h. no_member i (ap (member i) (sym (get_or_same {A = List ℕ} n j [])) ∙ h);
    all = λ k i l h ne. absurd (omega arith);
  })

  -- ---- with what is left over

  left_has : (i j : ℕ) (js : List ℕ) → member j js ≡ true → member i (waits (scanned cols) j) ≡ true → touch i j (flat_map (left_over (scanned cols)) js) ≡ true
  unfolding flat_map left_over
  left_has i j [] h k = no_member j h
  left_has i j (x ∷ js) h k =
      member_cases (touch i j (map (λ y. pair y x) (waits (scanned cols) x) ++ flat_map (left_over (scanned cols)) js) ≡ true) j x js h
      (λ e. touch_left i j (map (λ y. pair y x) (waits (scanned cols) x)) (flat_map (left_over (scanned cols)) js)
      (rw (← e) (touch_mapped i j (waits (scanned cols) j) k)))
      (λ ne m. touch_right i j (map (λ y. pair y x) (waits (scanned cols) x)) (flat_map (left_over (scanned cols)) js) (left_has i j js m k))

  -- an entry off the diagonal is met
  entry_met : (k i : ℕ) → k < n → member i (col k) ≡ true → i ≢ k → touch i k (all_pairs cols) ≡ true
  unfolding all_pairs
  entry_met k i l h ne =
      or_cases _ (touch i k (scanned cols).met) (member i (waits (scanned cols) k)) (seen_all.all k i l h ne)
      (λ t. touch_left i k (scanned cols).met (flat_map (left_over (scanned cols)) (up_to n)) t)
      (λ w. touch_right i k (scanned cols).met (flat_map (left_over (scanned cols)) (up_to n)) (left_has i k (up_to n) (member_up_to k n l) w))

  left_was : (v w : ℕ) (js : List ℕ) → touch v w (flat_map (left_over (scanned cols)) js) ≡ true → joins cols v w ≡ true
  unfolding flat_map left_over
  left_was v w [] h = no_touch v w h
  left_was v w (j ∷ js) h =
      touch_append (joins cols v w ≡ true) v w (map (λ i. pair i j) (waits (scanned cols) j)) (flat_map (left_over (scanned cols)) js) h
      (λ k. touch_map (joins cols v w ≡ true) v w j (waits (scanned cols) j) k
      (λ i m a b. rw (a, b) (or_right (member j (col i)) (member i (col j)) (seen_all.waits_was j i m)))
      (λ i m a b. rw (a, b) (or_left (member i (col j)) (member j (col i)) (seen_all.waits_was j i m))))
      (left_was v w js)

  -- what is met is joined by an entry
  pub met_joins : (v w : ℕ) → touch v w (all_pairs cols) ≡ true → joins cols v w ≡ true
  unfolding all_pairs
  met_joins v w h =
      touch_append (joins cols v w ≡ true) v w (scanned cols).met (flat_map (left_over (scanned cols)) (up_to n)) h (seen_all.met_was v w) (left_was v w (up_to n))

  -- and what an entry joins is met
  pub joins_met : (v w : ℕ) → v < length cols → w < length cols → v ≢ w → joins cols v w ≡ true → touch v w (all_pairs cols) ≡ true
  joins_met v w lv lw ne h =
      or_cases (touch v w (all_pairs cols) ≡ true) (member w (col v)) (member v (col w)) h
      (λ m. touch_back w v (all_pairs cols) (entry_met v w lv m (λ e. ne (sym e)))) (λ m. entry_met w v lw m ne)
