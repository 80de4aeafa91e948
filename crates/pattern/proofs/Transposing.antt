-- A jumbled pattern in the scratch: its transpose without repeats, whatever the scratch held before.
-- Assumes nothing.
use Prim.Native.Nat.{ℕ, suc, ◌+◌, ◌-◌, ◌≤◌, ◌<◌, ◌^◌}
use native.Mathlib.Omega.{arith}
use mathlib.Core.Path.{◌≡◌, refl, sym, ap, ◌∙◌}
use mathlib.Core.Logic.{◌≢◌, ◌⊎◌, inl, inr}
use mathlib.Core.Bool.{true}
use mathlib.Core.List.{List, []}
use lib.IntN.{ℤ}
use lib.ListN.{length, get_or}
use borrow.Author.Tests.{lt-ltb, le-leb}
use Rattle.plain.specs.Lists.{member, up_to, total}
use Rattle.plain.proofs.Positions.{get_or_counted}
use Rattle.plain.proofs.Sums.{total_map}
use Rattle.plain.proofs.Turns.{times_keeps}
use Rattle.definition.specs.Cleaned as D
use Rattle.definition.specs.Cleaned.{columns_with}
use Rattle.cells.specs.View.{at, rd, up, Room, spare}
use Rattle.cells.proofs.Slices.{same?, plus_sum}
use Rattle.cells.proofs.Fields.{room_up}
use Rattle.cells.proofs.Laws.{mem, room_yes}
use Rattle.pattern.specs.Cursors.{Fits}
use Rattle.pattern.specs.Columned.{Stands, Columned}
use Rattle.pattern.specs.Model.{Spot, spot, cleared, cleared_all, visited_all, placed_row, placed_rows, closed_rows, transposed}
use Rattle.pattern.proofs.Cursor.{before, before_none, before_more, before_apart, apart_before}
use Rattle.pattern.proofs.Visiting.{seen, seen_all, Visiting, visited_all_lem, visiting_start}

-- ---- every cursor at 0, and no row marked

record Cleared (n : ℕ) (s : List ℤ) (k : ℕ) (x : List ℤ) : Type 0 where
  cursor : (i : ℕ) → i < k → rd n 12 x i ≡ 0
  mark : (i : ℕ) → i < k → rd n 13 x i ≡ 0
  room : Room n x
  spare_is : spare n x ≡ spare n s
  wide : length x ≡ length s

module _ (n : ℕ) (s : List ℤ) (room : Room n s) where
  cleared_one : (k : ℕ) (x : List ℤ) → k < n → Cleared n s k x → Cleared n s (suc k) (cleared n k x)
  unfolding cleared
  cleared_one k x hk e = record {
    cursor = λ i l. cursor_at i l (same? i k);
    mark = λ i l. mark_at i l (same? i k);
    room = room_up n 13 (up n 12 x k 0) k 0 (room_up n 12 x k 0 e.room);
    spare_is = simp mem e.spare_is;
    wide = simp mem e.wide;
  }
    where
      cursor_at : (i : ℕ) → i < suc k → (i ≡ k) ⊎ (i ≢ k) → rd n 12 (up n 13 (up n 12 x k 0) k 0) i ≡ 0
      cursor_at i l (inl q) = rw q (simp (mem, room_yes n x e.room, lt-ltb k n hk))
      cursor_at i l (inr q) = simp mem (e.cursor i (omega (arith, l, q)))

      mark_at : (i : ℕ) → i < suc k → (i ≡ k) ⊎ (i ≢ k) → rd n 13 (up n 13 (up n 12 x k 0) k 0) i ≡ 0
      mark_at i l (inl q) = rw q (simp (mem, room_yes n x e.room, lt-ltb k n hk))
      mark_at i l (inr q) = simp mem (e.mark i (omega (arith, l, q)))

  cleared_all_lem : Cleared n s n (cleared_all n s)
  unfolding cleared_all
  cleared_all_lem = times_keeps (Cleared n s) (cleared n) n cleared_one n s (omega arith) (record {
    cursor = λ i l. absurd (omega arith);
    mark = λ i l. absurd (omega arith);
    room = room;
    spare_is = refl;
    wide = refl;
  })

-- ---- each count becomes a place

record Placed (n : ℕ) (len : ℕ → ℕ) (s : List ℤ) (k : ℕ) (m : Spot) : Type 0 where
  col : (i : ℕ) → i < k → rd n 15 m.mem i ≡ before len i
  cursor : (i : ℕ) → i < k → rd n 12 m.mem i ≡ before len i
  mark : (i : ℕ) → i < k → rd n 13 m.mem i ≡ 0
  todo : (i : ℕ) → k ≤ i → i < n → rd n 12 m.mem i ≡ len i
  free : m.free ≡ before len k
  room : Room n m.mem
  spare_is : spare n m.mem ≡ spare n s
  wide : length m.mem ≡ length s

module _ (n : ℕ) (len : ℕ → ℕ) (s : List ℤ) (room : Room n s) (fits : before len n < 2 ^ 63) (counts : (i : ℕ) → i < n → rd n 12 s i ≡ len i) where
  module _ (k : ℕ) (m : Spot) (hk : k < n) (p : Placed n len s k m) where
    col_at : (i : ℕ) → i < suc k → (i ≡ k) ⊎ (i ≢ k) → rd n 15 (placed_row n k m).mem i ≡ before len i
    unfolding placed_row
    col_at i l (inl q) = rw q (simp (mem, room_yes n m.mem p.room, le-leb k n (omega arith)) p.free)
    col_at i l (inr q) = simp mem (p.col i (omega (arith, l, q)))

    cursor_at : (i : ℕ) → i < suc k → (i ≡ k) ⊎ (i ≢ k) → rd n 12 (placed_row n k m).mem i ≡ before len i
    unfolding placed_row
    cursor_at i l (inl q) = rw q (simp (mem, room_yes n m.mem p.room, lt-ltb k n hk) p.free)
    cursor_at i l (inr q) = simp mem (p.cursor i (omega (arith, l, q)))

    mark_at : (i : ℕ) → i < suc k → (i ≡ k) ⊎ (i ≢ k) → rd n 13 (placed_row n k m).mem i ≡ 0
    unfolding placed_row
    mark_at i l (inl q) = rw q (simp (mem, room_yes n m.mem p.room, lt-ltb k n hk))
    mark_at i l (inr q) = simp mem (p.mark i (omega (arith, l, q)))

    todo_at : (i : ℕ) → suc k ≤ i → i < n → rd n 12 (placed_row n k m).mem i ≡ len i
    unfolding placed_row
    todo_at i l hi =
        let q : i ≢ k = omega arith in
        simp mem (p.todo i (omega arith) hi)

    free_at : (placed_row n k m).free ≡ before len (suc k)
    unfolding placed_row
    free_at =
        rw (p.todo k (omega arith) hk, p.free)
        (plus_sum (before len k) (len k) (omega (arith, before_apart len k n hk, fits)) ∙ sym (before_more len k))

    kept : Room n (placed_row n k m).mem × (spare n (placed_row n k m).mem ≡ spare n s) × (length (placed_row n k m).mem ≡ length s)
    unfolding placed_row
    kept = (room_up n 13 _ _ _ (room_up n 12 _ _ _ (room_up n 15 _ _ _ p.room)), simp mem p.spare_is, simp mem p.wide)

    placed_one_lem : Placed n len s (suc k) (placed_row n k m)
    placed_one_lem = record {
      col = λ i l. col_at i l (same? i k);
      cursor = λ i l. cursor_at i l (same? i k);
      mark = λ i l. mark_at i l (same? i k);
      todo = todo_at;
      free = free_at;
      room = kept.0;
      spare_is = kept.1;
      wide = kept.2;
    }

  placed_all_lem : Placed n len s n (placed_rows n s)
  unfolding placed_rows
  placed_all_lem = times_keeps (Placed n len s) (placed_row n) n placed_one_lem n (spot s 0) (omega arith) (record {
    col = λ i l. absurd (omega arith);
    cursor = λ i l. absurd (omega arith);
    mark = λ i l. absurd (omega arith);
    todo = λ i l hi. counts i hi;
    free = sym (before_none len);
    room = room;
    spare_is = refl;
    wide = refl;
  })

-- ---- the whole

module _ (n : ℕ) (cols : List (List ℕ)) (ptr rows s : List ℤ) (source : Stands n (at ptr) (at rows) cols) (size_is : length cols ≡ n)
    (within : (k i : ℕ) → member i (get_or cols k []) ≡ true → i < n) (room : Room n s)
    (fits : total length (D.transposed cols) ≤ spare n s) (short : total length (D.transposed cols) < 2 ^ 63) where
  abbrev len : ℕ → ℕ
  len i = length (columns_with cols i)

  row_is : (i : ℕ) → i < n → get_or (D.transposed cols) i [] ≡ columns_with cols i
  unfolding D.transposed
  row_is i h = get_or_counted (columns_with cols) [] 0 (length cols) i (rw size_is h) ∙ ap (columns_with cols) (omega arith)

  total_is : total length (D.transposed cols) ≡ before len n
  unfolding D.transposed
  total_is = total_map length (columns_with cols) (up_to (length cols)) ∙ ap (λ (k : ℕ). total len (up_to k)) size_is

  small : (i : ℕ) → i < n → before len i + len i < 2 ^ 63
  small i h = omega (arith, before_apart len i n h, total_is, short)

  small_first : (i : ℕ) → i < n → 0 + len i < 2 ^ 63
  small_first i h = omega (arith, small i h)

  seen_is : (i : ℕ) → seen cols n [] i ≡ columns_with cols i
  seen_is i = seen_all cols n i size_is

  whole : Fits n len (seen cols n [])
  whole = record { most = λ i h. omega (arith, ap length (seen_is i)) }

  -- the first pass counts
  abbrev s₀ : List ℤ
  s₀ = cleared_all n s

  clear : Cleared n s n s₀
  clear = cleared_all_lem n s room

  first : Visiting n cols ptr rows source within (λ i. 0) len (spare n s) small_first (rd n 15 s₀) (length s) n [] (visited_all n ptr rows s₀)
  first = visited_all_lem n cols ptr rows source within (λ i. 0) len (spare n s) small_first (rd n 15 s₀) (length s) s₀
      (visiting_start n cols ptr rows source within (λ i. 0) len (spare n s) small_first (rd n 15 s₀) (length s) s₀
      clear.cursor clear.mark clear.room clear.spare_is (λ q. refl) clear.wide)

  abbrev s₁ : List ℤ
  s₁ = visited_all n ptr rows s₀

  -- then each row has its place
  laid : Placed n len s₁ n (placed_rows n s₁)
  laid = placed_all_lem n len s₁ first.room (omega (arith, total_is, short)) (λ i h. first.fill.cursor whole i h ∙ omega (arith, ap length (seen_is i)))

  abbrev s₂ : List ℤ
  s₂ = closed_rows n (placed_rows n s₁)

  pointer_at : (q : ℕ) → q ≤ n → (q ≡ n) ⊎ (q ≢ n) → rd n 15 s₂ q ≡ before len q
  unfolding closed_rows
  pointer_at q l (inl e) = rw e (simp (mem, room_yes n (placed_rows n s₁).mem laid.room, le-leb n n (omega arith)) laid.free)
  pointer_at q l (inr e) = simp mem (laid.col q (omega (arith, l, e)))

  closed_cursor : (i : ℕ) → i < n → rd n 12 s₂ i ≡ before len i
  unfolding closed_rows
  closed_cursor i l = simp mem (laid.cursor i l)

  closed_mark : (i : ℕ) → i < n → rd n 13 s₂ i ≡ 0
  unfolding closed_rows
  closed_mark i l = simp mem (laid.mark i l)

  closed_kept : Room n s₂ × (spare n s₂ ≡ spare n s) × (length s₂ ≡ length s)
  unfolding closed_rows
  closed_kept = (
    room_up n 15 _ _ _ laid.room,
    simp mem (laid.spare_is ∙ first.spare_is),
    simp mem (laid.wide ∙ first.wide),
  )

  -- and the second pass writes
  second : Visiting n cols ptr rows source within (before len) len (spare n s) small (rd n 15 s₂) (length s) n [] (transposed n ptr rows s)
  unfolding transposed
  second = visited_all_lem n cols ptr rows source within (before len) len (spare n s) small (rd n 15 s₂) (length s) s₂
      (visiting_start n cols ptr rows source within (before len) len (spare n s) small (rd n 15 s₂) (length s) s₂
      closed_cursor closed_mark closed_kept.0 closed_kept.1 (λ q. refl) closed_kept.2)

  pub transposed_rep : Columned n (transposed n ptr rows s) (D.transposed cols)
  transposed_rep =
      let p : (q : ℕ) → q ≤ n → rd n 15 (transposed n ptr rows s) q ≡ before len q = λ q l. second.col q ∙ pointer_at q l (same? q n) in
      let held = second.fill.held whole (apart_before n len (spare n s) (omega (arith, total_is, fits))) in
      record {
        first = p 0 (omega arith) ∙ before_none len;
        step = λ k h. omega (arith, p k (omega arith), p (suc k) (omega arith), before_more len k);
        column = λ k h.
            let d : before len (suc k) - before len k ≡ length (seen cols n [] k) = omega (arith, before_more len k, ap length (seen_is k)) in
            rw (p k (omega arith), p (suc k) (omega arith), d, row_is k h) (held k h ∙ seen_is k);
      }

  pub transposed_wide : length (transposed n ptr rows s) ≡ length s
  transposed_wide = second.wide

  pub transposed_room : Room n (transposed n ptr rows s)
  transposed_room = second.room
