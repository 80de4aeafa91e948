-- The lists of A+A' from the columns in the scratch, whatever the list space held before: counted, placed, written.
-- Assumes nothing.
use Prim.Native.Nat.{ℕ, suc, ◌+◌, ◌≤◌, ◌<◌, ◌^◌}
use native.Mathlib.Omega.{arith}
use mathlib.Core.Path.{◌≡◌, refl, sym, ap, ◌∙◌}
use mathlib.Core.Logic.{◌≢◌, ◌⊎◌, inl, inr}
use mathlib.Core.Bool.{true}
use mathlib.Core.List.{List, []}
use lib.IntN.{ℤ}
use lib.ListN.{length, get_or}
use borrow.Author.Tests.{lt-ltb}
use Rattle.plain.specs.Lists.{member, up_to, total}
use Rattle.plain.proofs.Positions.{get_or_counted}
use Rattle.plain.proofs.Sums.{total_map, total_members}
use Rattle.plain.proofs.Members.{up_to_below}
use Rattle.plain.proofs.Turns.{times_keeps}
use Rattle.definition.specs.Neighbours.{Pair, all_pairs, written, neighbours}
use Rattle.cells.specs.View.{at, rd, up, Room}
use Rattle.cells.proofs.Slices.{same?, plus_sum}
use Rattle.cells.proofs.Fields.{room_up, length_up}
use Rattle.cells.proofs.Laws.{mem, room_yes}
use Rattle.pattern.specs.Cursors.{Fits}
use Rattle.pattern.specs.Columned.{Columned}
use Rattle.pattern.specs.Lists.{Packed}
use Rattle.pattern.specs.Model.{Heap, heap, Spot, spot, emptied, emptied_all, placed_list, placed_lists, counted, placed, built, built_free}
use Rattle.pattern.proofs.Cursor.{filled_none, before, before_none, before_more, before_apart, apart_before}
use Rattle.pattern.proofs.Traversal.{Met, all_met}
use Rattle.pattern.proofs.Writing.{Out, out_pair, out_mark}

-- ---- every cursor at 0

record Emptied (n : ℕ) (s : List ℤ) (k : ℕ) (x : List ℤ) : Type 0 where
  done : (i : ℕ) → i < k → rd n 12 x i ≡ 0
  col : (q : ℕ) → rd n 15 x q ≡ rd n 15 s q
  row : (q : ℕ) → rd n 16 x q ≡ rd n 16 s q
  room : Room n x
  long : length x ≡ length s

module _ (n : ℕ) (s : List ℤ) (room : Room n s) where
  emptied_one : (k : ℕ) (x : List ℤ) → k < n → Emptied n s k x → Emptied n s (suc k) (emptied n k x)
  unfolding emptied
  emptied_one k x hk e = record {
    done = λ i l. go i l (same? i k);
    col = λ q. simp mem (e.col q);
    row = λ q. simp mem (e.row q);
    room = room_up n 12 x k 0 e.room;
    long = length_up n 12 x k 0 ∙ e.long;
  }
    where
      go : (i : ℕ) → i < suc k → (i ≡ k) ⊎ (i ≢ k) → rd n 12 (up n 12 x k 0) i ≡ 0
      go i l (inl q) = rw q (simp (mem, room_yes n x e.room, lt-ltb k n hk))
      go i l (inr q) = simp mem (e.done i (omega (arith, l, q)))

  emptied_all_lem : Emptied n s n (emptied_all n s)
  unfolding emptied_all
  emptied_all_lem = times_keeps (Emptied n s) (emptied n) n emptied_one n s (omega arith) (record {
    done = λ i l. absurd (omega arith);
    col = λ q. refl;
    row = λ q. refl;
    room = room;
    long = refl;
  })

-- ---- each count becomes a length and a place

record Placed (n : ℕ) (len : ℕ → ℕ) (s : List ℤ) (k : ℕ) (m : Spot) : Type 0 where
  place : (i : ℕ) → i < k → rd n 0 m.mem i ≡ before len i
  count : (i : ℕ) → i < k → rd n 1 m.mem i ≡ len i
  cursor : (i : ℕ) → i < k → rd n 12 m.mem i ≡ before len i
  todo : (i : ℕ) → k ≤ i → i < n → rd n 12 m.mem i ≡ len i
  col : (q : ℕ) → rd n 15 m.mem q ≡ rd n 15 s q
  row : (q : ℕ) → rd n 16 m.mem q ≡ rd n 16 s q
  free : m.free ≡ before len k
  room : Room n m.mem
  long : length m.mem ≡ length s

module _ (n k : ℕ) (m : Spot) where
  placed_col : (q : ℕ) → rd n 15 (placed_list n k m).mem q ≡ rd n 15 m.mem q
  unfolding placed_list
  placed_col q = simp mem

  placed_row_lem : (q : ℕ) → rd n 16 (placed_list n k m).mem q ≡ rd n 16 m.mem q
  unfolding placed_list
  placed_row_lem q = simp mem

  placed_room : Room n m.mem → Room n (placed_list n k m).mem
  unfolding placed_list
  placed_room r = room_up n 12 _ _ _ (room_up n 0 _ _ _ (room_up n 1 _ _ _ r))

  placed_long : length (placed_list n k m).mem ≡ length m.mem
  unfolding placed_list
  placed_long = simp mem

module _ (n : ℕ) (len : ℕ → ℕ) (s : List ℤ) (room : Room n s) (fits : before len n < 2 ^ 63) (counts : (i : ℕ) → i < n → rd n 12 s i ≡ len i) where
  module _ (k : ℕ) (m : Spot) (hk : k < n) (p : Placed n len s k m) where
    abbrev a : ℕ
    a = m.free

    abbrev c : ℕ
    c = rd n 12 m.mem k

    place_at : (i : ℕ) → i < suc k → (i ≡ k) ⊎ (i ≢ k) → rd n 0 (placed_list n k m).mem i ≡ before len i
    unfolding placed_list
    place_at i l (inl q) = rw q (simp (mem, room_yes n m.mem p.room, lt-ltb k n hk) p.free)
    place_at i l (inr q) = simp mem (p.place i (omega (arith, l, q)))

    count_at : (i : ℕ) → i < suc k → (i ≡ k) ⊎ (i ≢ k) → rd n 1 (placed_list n k m).mem i ≡ len i
    unfolding placed_list
    count_at i l (inl q) = rw q (simp (mem, room_yes n m.mem p.room, lt-ltb k n hk) (p.todo k (omega arith) hk))
    count_at i l (inr q) = simp mem (p.count i (omega (arith, l, q)))

    cursor_at : (i : ℕ) → i < suc k → (i ≡ k) ⊎ (i ≢ k) → rd n 12 (placed_list n k m).mem i ≡ before len i
    unfolding placed_list
    cursor_at i l (inl q) = rw q (simp (mem, room_yes n m.mem p.room, lt-ltb k n hk) p.free)
    cursor_at i l (inr q) = simp mem (p.cursor i (omega (arith, l, q)))

    todo_at : (i : ℕ) → suc k ≤ i → i < n → rd n 12 (placed_list n k m).mem i ≡ len i
    unfolding placed_list
    todo_at i l hi =
        let q : i ≢ k = omega arith in
        simp mem (p.todo i (omega arith) hi)

    free_at : (placed_list n k m).free ≡ before len (suc k)
    unfolding placed_list
    free_at =
        let e = p.todo k (omega arith) hk in
        let b = before_apart len k n hk in
        rw (e, p.free) (plus_sum (before len k) (len k) (omega (arith, b, fits)) ∙ sym (before_more len k))

    placed_one_lem : Placed n len s (suc k) (placed_list n k m)
    placed_one_lem = record {
      place = λ i l. place_at i l (same? i k);
      count = λ i l. count_at i l (same? i k);
      cursor = λ i l. cursor_at i l (same? i k);
      todo = todo_at;
      col = λ q. placed_col n k m q ∙ p.col q;
      row = λ q. placed_row_lem n k m q ∙ p.row q;
      free = free_at;
      room = placed_room n k m p.room;
      long = placed_long n k m ∙ p.long;
    }

  placed_all_lem : Placed n len s n (placed_lists n s)
  unfolding placed_lists
  placed_all_lem = times_keeps (Placed n len s) (placed_list n) n placed_one_lem n (spot s 0) (omega arith) (record {
    place = λ i l. absurd (omega arith);
    count = λ i l. absurd (omega arith);
    cursor = λ i l. absurd (omega arith);
    todo = λ i l hi. counts i hi;
    col = λ q. refl;
    row = λ q. refl;
    free = sym (before_none len);
    room = room;
    long = refl;
  })

-- ---- the whole

module _ (n : ℕ) (cols : List (List ℕ)) (l s : List ℤ) (stands : Columned n s cols) (size_is : length cols ≡ n)
    (within : (k i : ℕ) → member i (get_or cols k []) ≡ true → i < n) (room : Room n s)
    (fits : total length (neighbours cols) ≤ length l) (short : total length (neighbours cols) < 2 ^ 63) where
  abbrev ps : List Pair
  ps = all_pairs cols

  abbrev X : ℕ → List ℕ
  X v = written v ps

  abbrev len : ℕ → ℕ
  len v = length (written v ps)

  row_is : (v : ℕ) → v < n → get_or (neighbours cols) v [] ≡ written v ps
  unfolding neighbours
  row_is v h = get_or_counted (λ u. written u ps) [] 0 (length cols) v (rw size_is h) ∙ ap (λ (u : ℕ). written u ps) (omega arith)

  total_is : total length (neighbours cols) ≡ before len n
  unfolding neighbours
  total_is = total_map length (λ u. written u ps) (up_to (length cols)) ∙ ap (λ (k : ℕ). total len (up_to k)) size_is

  small : (i : ℕ) → i < n → before len i + len i < 2 ^ 63
  small i h = omega (arith, before_apart len i n h, total_is, short)

  small_first : (i : ℕ) → i < n → 0 + len i < 2 ^ 63
  small_first i h = omega (arith, small i h)

  whole : Fits n len X
  whole = record { most = λ i h. omega arith }

  none_written : (v : ℕ) → written v [] ≡ []
  unfolding written
  none_written v = refl

  -- the first pass counts
  abbrev s₀ : List ℤ
  s₀ = emptied_all n s

  empty : Emptied n s n s₀
  empty = emptied_all_lem n s room

  abbrev O₁ : List Pair → Heap → Type 0
  O₁ = Out n (λ i. 0) len (length l) small_first (rd n 0 s₀) (rd n 1 s₀) (length s)

  first : Met n (rd n 15 s) (rd n 16 s) cols stands size_is within O₁ (out_pair n (λ i. 0) len (length l) small_first (rd n 0 s₀) (rd n 1 s₀) (length s))
      (out_mark n (λ i. 0) len (length l) small_first (rd n 0 s₀) (rd n 1 s₀) (length s)) (counted n l s)
  unfolding counted
  first = all_met n (rd n 15 s) (rd n 16 s) cols stands size_is within O₁ _ _ (heap l s₀)
      (record {
        fill = filled_none n (λ i. 0) len (length l) (rd n 12 s₀) (at l) (λ v. written v []) none_written empty.done;
        place = λ v. refl;
        count = λ v. refl;
        long = refl;
        wide = empty.long;
      }) empty.room empty.col empty.row

  abbrev h₁ : Heap
  h₁ = counted n l s

  -- then each list has its place
  laid : Placed n len h₁.mem n (placed n h₁)
  unfolding placed
  laid = placed_all_lem n len h₁.mem first.room (omega (arith, total_is, short)) (λ i h. first.out.fill.cursor whole i h ∙ omega arith)

  abbrev s₂ : List ℤ
  s₂ = (placed n h₁).mem

  abbrev O₂ : List Pair → Heap → Type 0
  O₂ = Out n (before len) len (length l) small (rd n 0 s₂) (rd n 1 s₂) (length s)

  -- and the second pass writes
  second : Met n (rd n 15 s) (rd n 16 s) cols stands size_is within O₂ (out_pair n (before len) len (length l) small (rd n 0 s₂) (rd n 1 s₂) (length s))
      (out_mark n (before len) len (length l) small (rd n 0 s₂) (rd n 1 s₂) (length s)) (built n l s)
  unfolding built
  second = all_met n (rd n 15 s) (rd n 16 s) cols stands size_is within O₂ _ _ (heap h₁.lists s₂)
      (record {
        fill = filled_none n (before len) len (length l) (rd n 12 s₂) (at h₁.lists) (λ v. written v []) none_written laid.cursor;
        place = λ v. refl;
        count = λ v. refl;
        long = first.out.long;
        wide = laid.long ∙ first.out.wide;
      }) laid.room (λ q. laid.col q ∙ first.col q) (λ q. laid.row q ∙ first.row q)

  before_is : (v : ℕ) → v ≤ n → before len v ≡ total (λ u. length (get_or (neighbours cols) u [])) (up_to v)
  before_is v h = total_members len (λ u. length (get_or (neighbours cols) u [])) (up_to v) (λ u m. ap length (sym (row_is u (omega (arith, up_to_below u v m, h)))))

  pub built_rep : Packed n (neighbours cols) (built n l s).lists (built n l s).mem (built_free n l s)
  unfolding built_free
  built_rep =
      let held = second.out.fill.held whole (apart_before n len (length l) (omega (arith, total_is, fits))) in
      let place : (v : ℕ) → v < n → rd n 0 (built n l s).mem v ≡ before len v = λ v h. second.out.place v ∙ laid.place v h in
      let count : (v : ℕ) → v < n → rd n 1 (built n l s).mem v ≡ len v = λ v h. second.out.count v ∙ laid.count v h in
      record {
        list = λ v h. rw (place v h, count v h, row_is v h) (held v h);
        place = λ v h. place v h ∙ before_is v (omega arith);
        count = λ v h. count v h ∙ ap length (sym (row_is v h));
        end = laid.free ∙ sym total_is;
      }

  pub built_long : length (built n l s).lists ≡ length l
  built_long = second.out.long

  pub built_room : Room n (built n l s).mem
  built_room = second.room
