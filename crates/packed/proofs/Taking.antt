-- A gather's reading: of the numbers that are read, the wanted ones go into the table, each once, and leave their degree lists.
-- The entry that finds no place is remembered.
-- Assumes nothing.
use Rattle.std.proofs.Common.{◌≡◌, ℕ, zero, suc, ◌+◌, ◌^◌, ◌<◌, ◌≤◌, Bool, true, false, cond, not, ◌&&◌, ◌||◌, eqb, ltb, ◌≢◌, ◌⊎◌, List, [], ◌∷◌, ◌++◌, length, get_or, ℤ, sym, refl, ap, ◌∙◌, inl, inr, ⊎_elim, arith, length-append, le-ltb, lt-ltb, eq-eqb, ne_eqb}
use mathlib.Core.List.{foldl, map-append}
use borrow.Author.Tests.{eqb-false}
use lib.ListN.{length-map}
use Rattle.plain.proofs.Entries.{entries_none, entries_same, entries_snoc}
use Rattle.plain.proofs.Logic.{cond_has, none_if}
use Rattle.plain.proofs.Members.{append_either, member_append, member_cases, no_member}
use Rattle.plain.proofs.Repeats.{distinct_snoc, length_missing}
use Rattle.plain.specs.Lists.{member}
use Rattle.plain.specs.Members.{Distinct, In}
use Rattle.plain.specs.Turns.{entries}
use Rattle.definition.specs.Room.{Read}
use Rattle.cells.proofs.Fields.{rd_null, room_up}
use Rattle.cells.proofs.Laws.{mem, parent_up_field, rd_up_field, room_yes}
use Rattle.cells.proofs.Slices.{same?, split, wrapped_sum}
use Rattle.cells.specs.Layout.{DEGREE, HEAD, LAST, LEN, NEXT, PE, TMP, W, WANT}
use Rattle.cells.specs.Links.{parent}
use Rattle.cells.specs.View.{Room, rd, up, wrapped}
use Rattle.chain.proofs.Alike.{Alike, alike_back, alike_self, alike_then, fold_alike, fold_room, removed_alike}
use Rattle.chain.proofs.Unlink.{removed_other, removed_parent, removed_room}
use Rattle.chain.specs.Model.{removed}
use Rattle.packed.specs.Reading.{entries_of, pick_one, sofar_of}
use Rattle.packed.specs.Tray.{Taking, absorbed, counted, empty_tray, passed_by, taking, took, took_row}
use Rattle.packed.proofs.Dropping.{absorbed_field, absorbed_len, absorbed_named, absorbed_other, absorbed_parent, absorbed_place, absorbed_room, absorbed_w}
use Rattle.packed.proofs.Picked.{foldl_append}

-- ---- a list with one entry more

snoc_here : (ss : List ℕ) (v : ℕ) → get_or (ss ++ (v ∷ [])) (length ss) 0 ≡ v
snoc_here [] v = refl
snoc_here (x ∷ ss) v = snoc_here ss v

snoc_other : (ss : List ℕ) (v k : ℕ) → length ss ≢ k → get_or (ss ++ (v ∷ [])) k 0 ≡ get_or ss k 0
snoc_other [] v zero d = absurd (d refl)
snoc_other [] v (suc k) d = refl
snoc_other (x ∷ ss) v zero d = refl
snoc_other (x ∷ ss) v (suc k) d = snoc_other ss v k (λ e. d (ap suc e))

pub get_or_snoc : (ss : List ℕ) (v k : ℕ) → get_or (ss ++ (v ∷ [])) k 0 ≡ cond (eqb (length ss) k) v (get_or ss k 0)
get_or_snoc ss v k =
    ⊎_elim (λ e. rw (eq-eqb (length ss) k e) (ap (λ (y : ℕ). get_or (ss ++ (v ∷ [])) y 0) (sym e) ∙ snoc_here ss v))
    (λ d. rw (ne_eqb (length ss) k d) (snoc_other ss v k d)) (same? (length ss) k)

-- what the scratch wants, as a test
abbrev pub wants : ℕ → List ℤ → ℕ → Bool
wants n s v = ltb 0 (rd n WANT s v)

-- from the scratch s the entries q were collected of r that were read; the memory and the numbers beside it say so
pub record Holds (n quota : ℕ) (s : List ℤ) (q : List Read) (r : ℕ) (m : Taking) : Type 0 where
  pub cnt : m.tray.cnt ≡ length q
  pub reads : m.tray.reads ≡ r
  pub mark : m.tray.mark ≡ get_or (sofar_of q) quota 0
  pub table : entries (rd n TMP m.mem) 0 (length q) ≡ entries_of q
  pub want : (i : ℕ) → rd n WANT m.mem i ≡ cond (member i (entries_of q)) 0 (rd n WANT s i)
  -- the rows that were collected left their degree lists
  pub queues : Alike n (foldl (λ a v. removed n a v) s (entries_of q)) m.mem
  pub fields : (c i : ℕ) → eqb WANT c ≡ false → eqb TMP c ≡ false → eqb HEAD c ≡ false → eqb NEXT c ≡ false → eqb LAST c ≡ false → rd n c m.mem i ≡ rd n c s i
  pub parents : (i : ℕ) → parent n m.mem i ≡ parent n s i
  pub room : Room n m.mem
  pub once : Distinct (entries_of q)
  pub low : (x : ℕ) → In x (entries_of q) → x < n
  pub late : (k : ℕ) → get_or (sofar_of q) k 0 ≤ r
  pub early : (k : ℕ) → k < length q → 0 < get_or (sofar_of q) k 0

-- nothing is read yet
pub holds_none : (n quota : ℕ) (s : List ℤ) → Room n s → Holds n quota s [] 0 (taking s empty_tray)
unfolding member
holds_none n quota s room =
    record {
      cnt = refl;
      reads = refl;
      mark = refl;
      table = entries_none (rd n TMP s) 0;
      want = λ i. refl;
      queues = alike_self n s;
      fields = λ c i a b d e f. refl;
      parents = λ i. refl;
      room = room;
      once = tt;
      low = λ x h. no_member x h;
      late = λ k. omega arith;
      early = λ k h. absurd (omega arith);
    }

module _ (n : ℕ) (quota : ℕ) (s : List ℤ) (room : Room n s) where
  -- one place more is read, and nothing collected
  pub holds_passed : (q : List Read) (r : ℕ) (m : Taking) → suc r < 2 ^ 63 → Holds n quota s q r m → Holds n quota s q (suc r) (taking m.mem (passed_by m.tray))
  unfolding passed_by
  holds_passed q r m b h =
      record {
        cnt = h.cnt;
        reads = wrapped_sum m.tray.reads 1 (omega (arith, h.reads)) ∙ omega (arith, h.reads);
        mark = h.mark;
        table = h.table;
        want = h.want;
        queues = h.queues;
        fields = h.fields;
        parents = h.parents;
        room = h.room;
        once = h.once;
        low = h.low;
        late = λ k. omega (arith, h.late k);
        early = h.early;
      }

  -- an element is taken up, here and there
  module _ (me x : ℕ) (b : x < n) where
    absorbed_here : (s' : List ℤ) → Room n s' → (c : ℕ) → rd n c s' x ≡ rd n c s x → (c ≡ W) ⊎ (c ≢ W) → (c ≡ LEN) ⊎ (c ≢ LEN) → (c ≡ PE) ⊎ (c ≢ PE)
        → rd n c (absorbed n me x s') x ≡ rd n c (absorbed n me x s) x
    absorbed_here s' r c e (inl u) v y = rw (u, absorbed_w n me s' x r b, absorbed_w n me s x room b)
    absorbed_here s' r c e (inr u) (inl v) y = rw (v, absorbed_len n me s' x r b, absorbed_len n me s x room b)
    absorbed_here s' r c e (inr u) (inr v) (inl y) = rw (y, absorbed_place n me s' x, absorbed_place n me s x)
    absorbed_here s' r c e (inr u) (inr v) (inr y) =
        absorbed_field n me s' x c x (ne_eqb LEN c (λ z. v (sym z))) (ne_eqb W c (λ z. u (sym z))) (ne_eqb PE c (λ z. y (sym z))) ∙ e
        ∙ sym (absorbed_field n me s x c x (ne_eqb LEN c (λ z. v (sym z))) (ne_eqb W c (λ z. u (sym z))) (ne_eqb PE c (λ z. y (sym z))))

    absorbed_alike : (s' : List ℤ) → Alike n s' (absorbed n me x s')
    absorbed_alike s' =
        record {
          head = λ i. absorbed_field n me s' x HEAD i refl refl refl;
          next = λ i. absorbed_field n me s' x NEXT i refl refl refl;
          last = λ i. absorbed_field n me s' x LAST i refl refl refl;
          degree = λ i. absorbed_field n me s' x DEGREE i refl refl refl;
        }

    pub holds_absorbed : (q : List Read) (r : ℕ) (m : Taking) → Holds n quota s q r m → Holds n quota (absorbed n me x s) q r (taking (absorbed n me x m.mem) m.tray)
    holds_absorbed q r m h =
        record {
          cnt = h.cnt;
          reads = h.reads;
          mark = h.mark;
          table = entries_same (rd n TMP m.mem) (rd n TMP (absorbed n me x m.mem)) 0 0 (length q) (λ t l. absorbed_field n me m.mem x TMP (0 + t) refl refl refl) ∙ h.table;
          want = λ i. absorbed_field n me m.mem x WANT i refl refl refl ∙ h.want i ∙ ap (λ (y : ℕ). cond (member i (entries_of q)) 0 y) (sym (absorbed_field n me s x WANT i refl refl refl));
          queues = alike_then (alike_then (fold_alike n (entries_of q) (absorbed n me x s) s (absorbed_room n me s x room) room (alike_back (absorbed_alike s))) h.queues) (absorbed_alike m.mem);
          fields = λ c i u v e f g. ⊎_elim
              (λ y. rw y (absorbed_here m.mem h.room c (h.fields c x u v e f g) (same? c W) (same? c LEN) (same? c PE)))
              (λ d. absorbed_other n me m.mem x c i d ∙ h.fields c i u v e f g ∙ sym (absorbed_other n me s x c i d)) (same? i x);
          parents = λ i. ⊎_elim
              (λ y. rw y (absorbed_named n me m.mem x h.room b ∙ sym (absorbed_named n me s x room b)))
              (λ d. absorbed_parent n me m.mem x i d ∙ h.parents i ∙ sym (absorbed_parent n me s x i d)) (same? i x);
          room = absorbed_room n me m.mem x h.room;
          once = h.once;
          low = h.low;
          late = h.late;
          early = h.early;
        }

  module _ (q : List Read) (r : ℕ) (m : Taking) (h : Holds n quota s q r m) (x : ℕ) where
    abbrev a : Read
    a = record { entry = x; sofar = suc r }

    -- the test of the definition is that of the code
    test : wants n s x && not (member x (entries_of q)) ≡ wants n m.mem x
    test = rw (h.want x) (go (member x (entries_of q)))
      where
        none_left : (b : Bool) → b && false ≡ false
        none_left true = refl
        none_left false = refl

        all_left : (b : Bool) → b && true ≡ b
        all_left true = refl
        all_left false = refl

        go : (b : Bool) → wants n s x && not b ≡ ltb 0 (cond b 0 (rd n WANT s x))
        go true = none_left (wants n s x)
        go false = all_left (wants n s x)

    picks : (b : Bool) → wants n m.mem x ≡ b → pick_one (wants n s) q a ≡ cond b (q ++ (a ∷ [])) q
    unfolding pick_one
    picks b e = ap (λ (c : Bool). cond c (q ++ (a ∷ [])) q) (test ∙ e)

    module _ (z : 0 < rd n WANT m.mem x) (b : suc r < 2 ^ 63) where
      fresh : member x (entries_of q) ≡ false
      fresh = none_if (member x (entries_of q)) (λ e. absurd (omega (arith, z, h.want x ∙ ap (λ (c : Bool). cond c 0 (rd n WANT s x)) e)))

      inside : x < n
      inside = ⊎_elim (λ y. y) (λ y. absurd (omega (arith, z, rd_null n WANT m.mem x (omega arith) y))) (split x n)

      free : length q < n
      free = omega (arith, length-map q (λ (c : Read). c.entry), length_missing n (entries_of q) x h.once h.low inside fresh)

      abbrev s₁ : List ℤ
      s₁ = up n WANT m.mem x 0

      abbrev s₂ : List ℤ
      s₂ = up n TMP s₁ m.tray.cnt x

      abbrev s₃ : List ℤ
      s₃ = removed n s₂ x

      same₃ : (c i : ℕ) → eqb HEAD c ≡ false → eqb NEXT c ≡ false → eqb LAST c ≡ false → rd n c s₃ i ≡ rd n c s₂ i
      same₃ = removed_other n s₂ x

      room₂ : Room n s₂
      room₂ = room_up n TMP s₁ m.tray.cnt x (room_up n WANT m.mem x 0 h.room)

      entries_more : entries_of (q ++ (a ∷ [])) ≡ entries_of q ++ (x ∷ [])
      entries_more = map-append (λ (c : Read). c.entry) q (a ∷ [])

      sofar_more : sofar_of (q ++ (a ∷ [])) ≡ sofar_of q ++ (suc r ∷ [])
      sofar_more = map-append (λ (c : Read). c.sofar) q (a ∷ [])

      length_more : length (q ++ (a ∷ [])) ≡ suc (length q)
      length_more = length-append q (a ∷ []) ∙ omega arith

      sofar_at : (k : ℕ) → get_or (sofar_of (q ++ (a ∷ []))) k 0 ≡ cond (eqb (length q) k) (suc r) (get_or (sofar_of q) k 0)
      sofar_at k = rw sofar_more (get_or_snoc (sofar_of q) (suc r) k ∙ ap (λ (y : ℕ). cond (eqb y k) (suc r) (get_or (sofar_of q) k 0)) (length-map q (λ (c : Read). c.sofar)))

      tabled : entries (rd n TMP s₃) 0 (length (q ++ (a ∷ []))) ≡ entries_of (q ++ (a ∷ []))
      tabled =
          let c : m.tray.cnt ≡ length q = h.cnt in
          let here : rd n TMP s₃ (length q) ≡ x = same₃ TMP (length q) refl refl refl ∙ rw c (simp (mem, room_yes n m.mem h.room, lt-ltb (length q) n free)) in
          let old : entries (rd n TMP s₃) 0 (length q) ≡ entries (rd n TMP m.mem) 0 (length q)
          = entries_same (rd n TMP m.mem) (rd n TMP s₃) 0 0 (length q)
          (λ t l. let u : m.tray.cnt ≢ 0 + t = λ e. absurd (omega arith) in let v : rd n TMP s₂ (0 + t) ≡ rd n TMP m.mem (0 + t) = simp mem in same₃ TMP (0 + t) refl refl refl ∙ v) in
          let e : 0 + length q ≡ length q = omega arith in
          rw (length_more, entries_more, entries_snoc (rd n TMP s₃) 0 (length q), e, here, old) (ap (λ (y : List ℕ). y ++ (x ∷ [])) h.table)

      cleared_at : (i : ℕ) → (i ≡ x) ⊎ (i ≢ x) → rd n WANT s₂ i ≡ cond (member i (entries_of (q ++ (a ∷ [])))) 0 (rd n WANT s i)
      unfolding member
      cleared_at i (inl e) =
          rw (e, entries_more, member_append x (entries_of q) (x ∷ []), fresh, eq-eqb x x refl)
          (simp (mem, room_yes n m.mem h.room, lt-ltb x n inside))
      cleared_at i (inr d) =
          rw (entries_more, member_append i (entries_of q) (x ∷ []), ne_eqb i x d)
          (let u : rd n WANT s₂ i ≡ rd n WANT m.mem i = simp mem in u ∙ h.want i ∙ ap (λ (c : Bool). cond c 0 (rd n WANT s i)) (sym (or_false (member i (entries_of q)))))
        where
          or_false : (c : Bool) → c || (false || false) ≡ c
          or_false true = refl
          or_false false = refl

      low_at : (y : ℕ) → In y (entries_of q) ⊎ In y (x ∷ []) → y < n
      low_at y (inl i) = h.low y i
      low_at y (inr i) = member_cases (y < n) y x [] i (λ e. rw e inside) (λ d j. no_member y j)

      queues_more : Alike n (foldl (λ b v. removed n b v) s (entries_of (q ++ (a ∷ [])))) s₃
      queues_more =
          let f : Alike n m.mem s₂ = record { head = λ i. simp mem; next = λ i. simp mem; last = λ i. simp mem; degree = λ i. simp mem } in
          rw (entries_more, foldl_append (λ b v. removed n b v) s (entries_of q) (x ∷ []))
          (removed_alike n (foldl (λ b v. removed n b v) s (entries_of q)) s₂ x (fold_room n (entries_of q) s room) room₂ (alike_then h.queues f))

      collected : Holds n quota s (q ++ (a ∷ [])) (suc r) (taking s₃ (counted quota (wrapped m.tray.reads 1) m.tray))
      unfolding counted
      collected =
          let k : wrapped m.tray.reads 1 ≡ suc r = wrapped_sum m.tray.reads 1 (omega (arith, h.reads)) ∙ omega (arith, h.reads) in
          record {
            cnt = omega (arith, h.cnt, length_more);
            reads = k;
            mark = rw (k, h.cnt, h.mark) (sym (sofar_at quota));
            table = tabled;
            want = λ i. same₃ WANT i refl refl refl ∙ cleared_at i (same? i x);
            queues = queues_more;
            fields = λ c i u v e f g. same₃ c i e f g ∙ rd_up_field n TMP c s₁ m.tray.cnt x i v ∙ rd_up_field n WANT c m.mem x 0 i u ∙ h.fields c i u v e f g;
            parents = λ i. removed_parent n s₂ x i ∙ parent_up_field n TMP s₁ m.tray.cnt x i refl ∙ parent_up_field n WANT m.mem x 0 i refl ∙ h.parents i;
            room = removed_room n s₂ x room₂;
            once = rw entries_more (distinct_snoc x (entries_of q) h.once fresh);
            low = λ y i. low_at y (append_either y (entries_of q) (x ∷ []) (rw entries_more at i));
            late = λ c. rw (sofar_at c) (cond_has (λ (y : ℕ). y ≤ suc r) (eqb (length q) c) (λ e. omega arith) (λ e. omega (arith, h.late c)));
            early = λ c l. rw (sofar_at c) (cond_has (λ (y : ℕ). 0 < y) (eqb (length q) c) (λ e. omega arith)
                (λ e. let d = eqb-false (length q) c e in h.early c (omega (arith, d, length_more))));
          }

      took_row_lem : took n quota x m ≡ taking s₃ (counted quota (wrapped m.tray.reads 1) m.tray)
      unfolding took took_row
      took_row_lem = rw (lt-ltb 0 (rd n WANT m.mem x) z)

    passed : rd n WANT m.mem x ≤ 0 → took n quota x m ≡ taking m.mem (passed_by m.tray)
    unfolding took
    passed z = rw (le-ltb 0 (rd n WANT m.mem x) z)

    pub holds_read : suc r < 2 ^ 63 → Holds n quota s (pick_one (wants n s) q a) (suc r) (took n quota x m)
    holds_read b = go (split 0 (rd n WANT m.mem x))
      where
        go : (0 < rd n WANT m.mem x) ⊎ (rd n WANT m.mem x ≤ 0) → Holds n quota s (pick_one (wants n s) q a) (suc r) (took n quota x m)
        go (inl z) = rw (picks true (lt-ltb 0 (rd n WANT m.mem x) z), took_row_lem z b) (collected z b)
        go (inr z) = rw (picks false (le-ltb 0 (rd n WANT m.mem x) z), passed z) (holds_passed q r m b h)
