-- The scan of the columns in the memory is the definition's: E1. Whatever is kept of the pairs met so far (O) is kept of all pairs at its end, in the order of
-- the definition. The scan positions say what waits: the rest of each column that was passed.
-- Assumes nothing.
use Prim.Native.Nat.{ℕ, zero, suc, ◌+◌, ◌-◌, ◌≤◌, ◌<◌}
use native.Mathlib.Omega.{arith}
use mathlib.Core.Path.{◌≡◌, refl, sym, ap, ◌∙◌, fun_ext, subst}
use mathlib.Core.Logic.{◌≢◌, ◌⊎◌, inl, inr}
use mathlib.Core.Bool.{true}
use mathlib.Core.List.{List, [], ◌∷◌, ◌++◌, map, foldl, flat_map, append_assoc, append-nil, map-append}
use lib.ListN.{length, get_or, set, replicate, length-set, length-replicate}
use lib.Seq.{get_or-set_same, get_or-set_other}
use borrow.Author.Tests.{lt-ltb}
use Rattle.plain.specs.Lists.{member, up_to, count_up}
use Rattle.plain.specs.Turns.{entries, times}
use Rattle.plain.proofs.Members.{no_member}
use Rattle.plain.proofs.Entries.{entries_snoc}
use Rattle.plain.proofs.Positions.{member_entries, get_or_same, set_has}
use Rattle.plain.proofs.Folds.{flat_map_append, foldl_snoc}
use Rattle.plain.proofs.Sums.{count_up_snoc}
use Rattle.plain.proofs.Turns.{times_simulates, times_up_to}
use Rattle.definition.specs.Neighbours.{Pair, Scan, pair, above, below, meet, meet_column, scanned, left_over, all_pairs}
use Rattle.facts.proofs.Scanned.{above_was}
use Rattle.facts.proofs.Meeting.{below_was}
use Rattle.cells.specs.View.{rd, up, Room}
use Rattle.cells.proofs.Slices.{same?}
use Rattle.cells.proofs.Fields.{room_up}
use Rattle.cells.proofs.Laws.{mem, room_yes}
use Rattle.pattern.specs.Reach.{reach, past}
use Rattle.pattern.specs.Columned.{Stands}
use Rattle.pattern.specs.Model as M
use Rattle.pattern.specs.Model.{Heap, heap, added, paired, paired_at, paired_part, stop_of, next_of, marked, passed, met, met_at, met_part, met_column, met_columns, met_rest, met_rests}
use Rattle.pattern.proofs.Reaching.{parted}
use Rattle.pattern.proofs.Unwritten.{paired_field, paired_room, paired_rows}

snoc_map : (f : ℕ → Pair) (ps : List Pair) (xs : List ℕ) (x : ℕ) → ps ++ map f xs ++ (f x ∷ []) ≡ ps ++ map f (xs ++ (x ∷ []))
snoc_map f ps xs x = append_assoc ps (map f xs) (f x ∷ []) ∙ ap (λ (l : List Pair). ps ++ l) (sym (map-append f xs (x ∷ [])))

module _ (n : ℕ) (E F : ℕ → ℕ) (cols : List (List ℕ)) (stands : Stands n E F cols) (size_is : length cols ≡ n)
    (within : (k i : ℕ) → member i (get_or cols k []) ≡ true → i < n) (O : List Pair → Heap → Type 0)
    (pairs : (ps : List Pair) (h : Heap) (i j : ℕ) → i < n → j < n → Room n h.mem → O ps h → O (ps ++ (pair i j ∷ [])) (paired n i j h))
    (marks : (ps : List Pair) (h : Heap) (j v : ℕ) → O ps h → O ps (heap h.lists (up n 13 h.mem j v))) where
  -- the memory h when the scan is m, and has passed the columns before top
  record Scanning (top : ℕ) (m : Scan) (h : Heap) : Type 0 where
    out : O m.met h
    room : Room n h.mem
    col : (q : ℕ) → rd n 15 h.mem q ≡ E q
    row : (q : ℕ) → rd n 16 h.mem q ≡ F q
    size : length m.waiting ≡ n
    inside : (j i : ℕ) → member i (get_or m.waiting j []) ≡ true → i < n
    waits : (j : ℕ) → j < top → entries F (rd n 13 h.mem j) (E (suc j) - rd n 13 h.mem j) ≡ get_or m.waiting j []

  -- the scan with more pairs
  abbrev more : Scan → List Pair → Scan
  more m ps = record { met = m.met ++ ps; waiting = m.waiting }

  pair_scan : (top : ℕ) (m : Scan) (h : Heap) (i j : ℕ) → i < n → j < n → Scanning top m h → Scanning top (more m (pair i j ∷ [])) (paired n i j h)
  pair_scan top m h i j hi hj s = record {
    out = pairs m.met h i j hi hj s.room s.out;
    room = paired_room n i j h s.room;
    col = λ q. paired_field n i j h 15 (inr (inl refl)) q ∙ s.col q;
    row = λ q. paired_rows n i j h q ∙ s.row q;
    size = s.size;
    inside = s.inside;
    waits = λ v l. rw (paired_field n i j h 13 (inl refl) v) (s.waits v l);
  }

  one_more : (top : ℕ) (m : Scan) (x : Heap) (j p d : ℕ) → j < n → Scanning top (more m (map (λ i. pair i j) (entries F p d))) x → F (p + d) < n
      → Scanning top (more m (map (λ i. pair i j) (entries F p (suc d)))) (paired_at n j (p + d) x)
  unfolding paired_at
  one_more top m x j p d hj r l =
      rw (entries_snoc F p d, ← snoc_map (λ i. pair i j) m.met (entries F p d) (F (p + d)), r.row (p + d), lt-ltb (F (p + d)) n l)
      (pair_scan top (more m (map (λ i. pair i j) (entries F p d))) x (F (p + d)) j l hj r)

  -- the pairs of column j from place p on
  pairs_by : (top : ℕ) (m : Scan) (h : Heap) (j p c : ℕ) → j < n → Scanning top m h → ((i : ℕ) → member i (entries F p c) ≡ true → i < n)
      → (d : ℕ) → d ≤ c → Scanning top (more m (map (λ i. pair i j) (entries F p d))) (times d (λ t. paired_at n j (p + t)) h)
  unfolding times entries
  pairs_by top m h j p c hj s w zero l = rw (append-nil m.met) s
  pairs_by top m h j p c hj s w (suc d) l = go (times d (λ t. paired_at n j (p + t)) h) (pairs_by top m h j p c hj s w d (omega arith))
    where
      go : (x : Heap) → Scanning top (more m (map (λ i. pair i j) (entries F p d))) x → Scanning top (more m (map (λ i. pair i j) (entries F p (suc d)))) (paired_at n j (p + d) x)
      go x r = one_more top m x j p d hj r (w (F (p + d)) (member_entries F p c d (omega arith)))

  pairs_scan : (top : ℕ) (m : Scan) (h : Heap) (j p q : ℕ) (xs : List ℕ) → j < n → Scanning top m h → entries F p (q - p) ≡ xs → ((i : ℕ) → member i xs ≡ true → i < n)
      → Scanning top (more m (map (λ i. pair i j) xs)) (paired_part n j p q h)
  unfolding paired_part
  pairs_scan top m h j p q xs hj s e w = rw (← e) (pairs_by top m h j p (q - p) hj s (rw (← e) at w) (q - p) (omega arith))

  -- ---- a scan position

  -- the scan with other rows waiting in column j
  abbrev left : Scan → ℕ → List ℕ → Scan
  left m j ys = record { met = m.met; waiting = set m.waiting j ys }

  reach_is : (h : Heap) (j k p : ℕ) → ((q : ℕ) → rd n 15 h.mem q ≡ E q) → ((q : ℕ) → rd n 16 h.mem q ≡ F q) → stop_of n h.mem j k p ≡ reach F k p (E (suc j))
  unfolding stop_of
  reach_is h j k p c w =
      let e : j + 1 ≡ suc j = omega arith in
      let f : rd n 16 h.mem ≡ F = fun_ext w in
      rw (e, c (suc j), f)

  next_is : (h : Heap) (j k p : ℕ) → ((q : ℕ) → rd n 15 h.mem q ≡ E q) → ((q : ℕ) → rd n 16 h.mem q ≡ F q)
      → next_of n h.mem j k p ≡ past F k (reach F k p (E (suc j))) (E (suc j))
  unfolding next_of
  next_is h j k p c w =
      let e : j + 1 ≡ suc j = omega arith in
      let f : rd n 16 h.mem ≡ F = fun_ext w in
      rw (reach_is h j k p c w, e, c (suc j), f)

  module _ (top next : ℕ) (m : Scan) (x : Heap) (j v' : ℕ) (ys : List ℕ) (hj : j < n) (s : Scanning top m x)
      (low : (v : ℕ) → v < next → v ≢ j → v < top) (rest : entries F v' (E (suc j) - v') ≡ ys)
      (ins : (i : ℕ) → member i ys ≡ true → i < n) where
    here : rd n 13 (up n 13 x.mem j v') j ≡ v'
    here = simp (mem, room_yes n x.mem s.room, lt-ltb j n hj)

    waits_at : (v : ℕ) → v < next → (v ≡ j) ⊎ (v ≢ j)
        → entries F (rd n 13 (up n 13 x.mem j v') v) (E (suc v) - rd n 13 (up n 13 x.mem j v') v) ≡ get_or (set m.waiting j ys) v []
    waits_at v l (inl e) = rw (e, here, get_or-set_same m.waiting j ys [] (omega (arith, s.size))) rest
    waits_at v l (inr e) =
        let a : rd n 13 (up n 13 x.mem j v') v ≡ rd n 13 x.mem v = simp mem in
        rw (a, get_or-set_other m.waiting j v ys [] e) (s.waits v (low v l e))

    marked_scan : Scanning next (left m j ys) (marked n j v' x)
    unfolding marked
    marked_scan = record {
      out = marks m.met x j v' s.out;
      room = room_up n 13 x.mem j v' s.room;
      col = λ q. simp mem (s.col q);
      row = λ q. simp mem (s.row q);
      size = length-set m.waiting j ys ∙ s.size;
      inside = λ v. set_has (λ l. (i : ℕ) → member i l ≡ true → i < n) m.waiting j ys v (s.inside v) (λ e. ins);
      waits = λ v l. waits_at v l (same? v j);
    }

  -- ---- row j of column k, above the diagonal

  passed_scan : (m : Scan) (h : Heap) (j k : ℕ) → j < k → k < n → Scanning k m h
      → Scanning k (left (more m (map (λ i. pair i j) (above k (get_or m.waiting j [])))) j (below k (get_or m.waiting j []))) (passed n j k h)
  unfolding passed
  passed_scan m h j k l hk s =
      let p = rd n 13 h.mem j in
      let ws = get_or m.waiting j [] in
      let cut = parted F k p (E (suc j)) ws (s.waits j l) in
      let x = pairs_scan k m h j p (reach F k p (E (suc j))) (above k ws) (omega arith) s cut.up (λ i a. s.inside j i (above_was k ws i a).0) in
      rw (reach_is h j k p s.col s.row, next_is h j k p s.col s.row)
      (marked_scan k k (more m (map (λ i. pair i j) (above k ws))) (paired_part n j p (reach F k p (E (suc j))) h) j (past F k (reach F k p (E (suc j))) (E (suc j))) (below k ws) (omega arith) x
      (λ v a b. a) cut.down (λ i a. s.inside j i (below_was k ws i a)))

  met_scan : (m : Scan) (h : Heap) (j k p : ℕ) → j ≡ F p → j < k → k < n → Scanning k m h → Scanning k (meet k m j) (met_at n k p h)
  unfolding met_at met meet
  met_scan m h j k p e l hk s =
      let a = pair_scan k m h j k (omega arith) hk s in
      let b = passed_scan (more m (pair j k ∷ [])) (paired n j k h) j k l hk a in
      rw (s.row p, ← e, ← append_assoc m.met (pair j k ∷ []) (map (λ i. pair i j) (above k (get_or m.waiting j [])))) b

  -- ---- a column

  part_by : (m : Scan) (h : Heap) (k p c : ℕ) → k < n → Scanning k m h → ((t : ℕ) → t < c → F (p + t) < k) → (d : ℕ) → d ≤ c
      → Scanning k (foldl (meet k) m (entries F p d)) (times d (λ t. met_at n k (p + t)) h)
  unfolding times entries
  part_by m h k p c hk s w zero l = s
  part_by m h k p c hk s w (suc d) l = go (times d (λ t. met_at n k (p + t)) h) (part_by m h k p c hk s w d (omega arith))
    where
      go : (x : Heap) → Scanning k (foldl (meet k) m (entries F p d)) x → Scanning k (foldl (meet k) m (entries F p (suc d))) (met_at n k (p + d) x)
      go x r =
          rw (entries_snoc F p d, foldl_snoc (meet k) m (entries F p d) (F (p + d)))
          (met_scan (foldl (meet k) m (entries F p d)) x (F (p + d)) k (p + d) refl (w d (omega arith)) hk r)

  part_scan : (m : Scan) (h : Heap) (k p q : ℕ) (xs : List ℕ) → k < n → Scanning k m h → entries F p (q - p) ≡ xs → ((j : ℕ) → member j xs ≡ true → j < k)
      → Scanning k (foldl (meet k) m xs) (met_part n k p q h)
  unfolding met_part
  part_scan m h k p q xs hk s e w =
      let a : (t : ℕ) → t < q - p → F (p + t) < k = λ t l. w (F (p + t)) (ap (member (F (p + t))) (sym e) ∙ member_entries F p (q - p) t l) in
      rw (← e) (part_by m h k p (q - p) hk s a (q - p) (omega arith))

  column_scan : (m : Scan) (h : Heap) (k : ℕ) → k < n → Scanning k m h → Scanning (suc k) (meet_column cols m k) (met_column n k h)
  unfolding met_column meet_column
  column_scan m h k hk s =
      let c = get_or cols k [] in
      let r = reach F k (E k) (E (suc k)) in
      let cut = parted F k (E k) (E (suc k)) c (stands.column k hk) in
      let x = part_scan m h k (E k) r (above k c) hk s cut.up (λ j a. (above_was k c j a).1) in
      rw (s.col k, reach_is h k k (E k) s.col s.row, next_is h k k (E k) s.col s.row)
      (marked_scan k (suc k) (foldl (meet k) m (above k c)) (met_part n k (E k) r h) k (past F k r (E (suc k))) (below k c) hk x
      (λ v a b. omega (arith, a, b)) cut.down (λ i a. within k i (below_was k c i a)))

  -- ---- the columns in order

  abbrev none : Scan
  none = record { met = []; waiting = replicate (length cols) [] }

  start_scan : (h : Heap) → O [] h → Room n h.mem → ((q : ℕ) → rd n 15 h.mem q ≡ E q) → ((q : ℕ) → rd n 16 h.mem q ≡ F q) → Scanning 0 none h
  start_scan h o r c w = record {
    out = o;
    room = r;
    col = c;
    row = w;
    size = length-replicate (length cols) [] ∙ size_is;
    inside = λ j i a. no_member i (ap (member i) (sym (get_or_same {A = List ℕ} (length cols) j [])) ∙ a);
    waits = λ j l. absurd (omega arith);
  }

  columns_scan : (h : Heap) → Scanning 0 none h → Scanning n (scanned cols) (met_columns n h)
  unfolding met_columns scanned
  columns_scan h s =
      subst (λ (c : Scan). Scanning n c (times n (met_column n) h))
      (times_up_to (λ j a. meet_column cols a j) n none ∙ ap (λ (k : ℕ). foldl (meet_column cols) none (up_to k)) (sym size_is))
      (times_simulates (λ k x m. Scanning k m x) (met_column n) (λ k m. meet_column cols m k) n (λ k x m l r. column_scan m x k l r) n h none (omega arith) s)

  -- ---- what is left over

  rest_scan : (m : Scan) (ps : List Pair) (h : Heap) (j : ℕ) → j < n → Scanning n (more m ps) h → Scanning n (more (more m ps) (left_over m j)) (met_rest n j h)
  unfolding met_rest left_over
  rest_scan m ps h j hj s =
      let e : j + 1 ≡ suc j = omega arith in
      rw (e, s.col (suc j)) (pairs_scan n (more m ps) h j (rd n 13 h.mem j) (E (suc j)) (get_or m.waiting j []) hj s (s.waits j hj) (s.inside j))

  rests_by : (m : Scan) (h : Heap) → Scanning n m h → (d : ℕ) → d ≤ n → Scanning n (more m (flat_map (left_over m) (up_to d))) (times d (met_rest n) h)
  unfolding times count_up flat_map
  rests_by m h s zero l = rw (append-nil m.met) s
  rests_by m h s (suc d) l = go (times d (met_rest n) h) (rests_by m h s d (omega arith))
    where
      joined : m.met ++ flat_map (left_over m) (up_to (suc d)) ≡ m.met ++ flat_map (left_over m) (up_to d) ++ left_over m d
      joined =
          let q : 0 + d ≡ d = omega arith in
          ap (λ (l : List Pair). m.met ++ l)
          (ap (flat_map (left_over m)) (count_up_snoc 0 d) ∙ flat_map_append (left_over m) (up_to d) ((0 + d) ∷ [])
          ∙ ap (λ (l : List Pair). flat_map (left_over m) (up_to d) ++ l) (append-nil (left_over m (0 + d)) ∙ ap (left_over m) q))
          ∙ sym (append_assoc m.met (flat_map (left_over m) (up_to d)) (left_over m d))

      go : (x : Heap) → Scanning n (more m (flat_map (left_over m) (up_to d))) x → Scanning n (more m (flat_map (left_over m) (up_to (suc d)))) (met_rest n d x)
      go x r = rw joined (rest_scan m (flat_map (left_over m) (up_to d)) x d (omega arith) r)

  rests_scan : (m : Scan) (h : Heap) → Scanning n m h → Scanning n (more m (flat_map (left_over m) (up_to n))) (met_rests n h)
  unfolding met_rests
  rests_scan m h s = rests_by m h s n (omega arith)

  -- ---- all

  -- what a scan leaves: all pairs, and the columns
  pub record Met (h : Heap) : Type 0 where
    pub out : O (all_pairs cols) h
    pub room : Room n h.mem
    pub col : (q : ℕ) → rd n 15 h.mem q ≡ E q
    pub row : (q : ℕ) → rd n 16 h.mem q ≡ F q

  -- E1
  pub all_met : (h : Heap) → O [] h → Room n h.mem → ((q : ℕ) → rd n 15 h.mem q ≡ E q) → ((q : ℕ) → rd n 16 h.mem q ≡ F q) → Met (M.scanned n h)
  unfolding M.scanned all_pairs
  all_met h o r c w =
      let s = rests_scan (scanned cols) (met_columns n h) (columns_scan h (start_scan h o r c w)) in
      record { out = rw size_is s.out; room = s.room; col = s.col; row = s.row }
