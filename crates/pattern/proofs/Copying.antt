-- An orderly pattern in the scratch: its pointers and its rows as they came.
-- Assumes nothing.
use Prim.Native.Nat.{ℕ, zero, suc, ◌+◌, ◌-◌, ◌≤◌, ◌<◌}
use native.Mathlib.Omega.{arith}
use mathlib.Core.Path.{◌≡◌, refl, ◌∙◌}
use mathlib.Core.Logic.{◌≢◌, ◌⊎◌, inl, inr}
use mathlib.Core.List.{List}
use lib.IntN.{ℤ}
use lib.ListN.{length}
use borrow.Author.Tests.{lt-ltb, le-leb}
use Rattle.plain.proofs.Entries.{entries_same}
use Rattle.plain.proofs.Turns.{times_keeps}
use Rattle.cells.specs.View.{at, rd, up, Room, spare}
use Rattle.cells.proofs.Slices.{same?}
use Rattle.cells.proofs.Fields.{room_up}
use Rattle.cells.proofs.Laws.{mem, room_yes}
use Rattle.pattern.specs.Columned.{Stands, Columned}
use Rattle.pattern.specs.Model.{copied_pointer, copied_pointers, copied_row, copied_rows, copied}

-- ---- columns that are read elsewhere

module _ (n : ℕ) (E F : ℕ → ℕ) (cols : List (List ℕ)) (h : Stands n E F cols) where
  below_last : (k d : ℕ) → k + d ≡ n → E k ≤ E n
  below_last k zero e = let q : k ≡ n = omega arith in rw q (omega arith)
  below_last k (suc d) e = omega (arith, h.step k (omega arith), below_last (suc k) d (omega arith))

  pub stands_most : (k : ℕ) → k ≤ n → E k ≤ E n
  stands_most k l = below_last k (n - k) (omega arith)

  pub stands_same : (E' F' : ℕ → ℕ) → ((k : ℕ) → k ≤ n → E' k ≡ E k) → ((q : ℕ) → q < E n → F' q ≡ F q) → Stands n E' F' cols
  stands_same E' F' e f = record {
    first = e 0 (omega arith) ∙ h.first;
    step = λ k l. rw (e k (omega arith), e (suc k) l) (h.step k l);
    column = λ k l. rw (e k (omega arith), e (suc k) l)
        (entries_same F F' (E k) (E k) (E (suc k) - E k) (λ t u. f (E k + t) (omega (arith, u, stands_most (suc k) l))) ∙ h.column k l);
  }

-- ---- the copy

record Pointers (n : ℕ) (ptr s : List ℤ) (k : ℕ) (x : List ℤ) : Type 0 where
  done : (i : ℕ) → i < k → rd n 15 x i ≡ at ptr i
  room : Room n x
  spare_is : spare n x ≡ spare n s
  wide : length x ≡ length s

record Rows (n : ℕ) (rows s : List ℤ) (k : ℕ) (x : List ℤ) : Type 0 where
  done : (i : ℕ) → i < k → rd n 16 x i ≡ at rows i
  col : (q : ℕ) → rd n 15 x q ≡ rd n 15 s q
  room : Room n x
  spare_is : spare n x ≡ spare n s
  wide : length x ≡ length s

module _ (n : ℕ) (ptr s : List ℤ) (room : Room n s) where
  pointer_one : (k : ℕ) (x : List ℤ) → k < n + 1 → Pointers n ptr s k x → Pointers n ptr s (suc k) (copied_pointer n ptr k x)
  unfolding copied_pointer
  pointer_one k x hk e = record {
    done = λ i l. go i l (same? i k);
    room = room_up n 15 x k (at ptr k) e.room;
    spare_is = simp mem e.spare_is;
    wide = simp mem e.wide;
  }
    where
      go : (i : ℕ) → i < suc k → (i ≡ k) ⊎ (i ≢ k) → rd n 15 (up n 15 x k (at ptr k)) i ≡ at ptr i
      go i l (inl q) = rw q (simp (mem, room_yes n x e.room, le-leb k n (omega arith)))
      go i l (inr q) = simp mem (e.done i (omega (arith, l, q)))

  pointers_all : Pointers n ptr s (n + 1) (copied_pointers n ptr s)
  unfolding copied_pointers
  pointers_all = times_keeps (Pointers n ptr s) (copied_pointer n ptr) (n + 1) pointer_one (n + 1) s (omega arith) (record {
    done = λ i l. absurd (omega arith);
    room = room;
    spare_is = refl;
    wide = refl;
  })

module _ (n : ℕ) (rows s : List ℤ) (room : Room n s) (c : ℕ) (fits : c ≤ spare n s) where
  row_one : (k : ℕ) (x : List ℤ) → k < c → Rows n rows s k x → Rows n rows s (suc k) (copied_row n rows k x)
  unfolding copied_row
  row_one k x hk e = record {
    done = λ i l. go i l (same? i k);
    col = λ q. simp mem (e.col q);
    room = room_up n 16 x k (at rows k) e.room;
    spare_is = simp mem e.spare_is;
    wide = simp mem e.wide;
  }
    where
      go : (i : ℕ) → i < suc k → (i ≡ k) ⊎ (i ≢ k) → rd n 16 (up n 16 x k (at rows k)) i ≡ at rows i
      go i l (inl q) = rw q (simp (mem, lt-ltb k (spare n x) (omega (arith, hk, fits, e.spare_is))))
      go i l (inr q) = simp mem (e.done i (omega (arith, l, q)))

  rows_all : Rows n rows s c (copied_rows n rows c s)
  unfolding copied_rows
  rows_all = times_keeps (Rows n rows s) (copied_row n rows) c row_one c s (omega arith) (record {
    done = λ i l. absurd (omega arith);
    col = λ q. refl;
    room = room;
    spare_is = refl;
    wide = refl;
  })

module _ (n : ℕ) (cols : List (List ℕ)) (ptr rows s : List ℤ) (source : Stands n (at ptr) (at rows) cols) (room : Room n s) (fits : at ptr n ≤ spare n s) where
  first : Pointers n ptr s (n + 1) (copied_pointers n ptr s)
  first = pointers_all n ptr s room

  second : Rows n rows (copied_pointers n ptr s) (at ptr n) (copied n ptr rows s)
  unfolding copied
  second = rows_all n rows (copied_pointers n ptr s) first.room (at ptr n) (rw first.spare_is fits)

  pub copied_rep : Columned n (copied n ptr rows s) cols
  copied_rep =
      stands_same n (at ptr) (at rows) cols source (rd n 15 (copied n ptr rows s)) (rd n 16 (copied n ptr rows s))
      (λ k l. second.col k ∙ first.done k (omega arith)) second.done

  pub copied_wide : length (copied n ptr rows s) ≡ length s
  copied_wide = second.wide ∙ first.wide

  pub copied_room : Room n (copied n ptr rows s)
  copied_room = second.room
