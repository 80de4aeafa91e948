-- The scratch table of a gather: its first numbers are rows, and it has a cell for each row that is wanted, whatever the memory holds elsewhere.
-- Assumes nothing.
use Rattle.std.proofs.Common.{◌≡◌, ℕ, ◌+◌, ◌<◌, ◌≤◌, Bool, true, false, cond, eqb, ltb, ◌≢◌, ◌⊎◌, List, length, ℤ, refl, ap, ◌∙◌, inl, inr, arith, lt-ltb}
use Rattle.plain.proofs.Logic.{cond_has}
use Rattle.plain.proofs.Repeats.{length_count_up}
use Rattle.plain.proofs.Sums.{total_most}
use Rattle.plain.proofs.Turns.{times_keeps}
use Rattle.plain.specs.Lists.{up_to}
use Rattle.plain.specs.Turns.{times}
use Rattle.cells.proofs.Laws.{mem, rd_up_field, room_yes}
use Rattle.cells.proofs.Slices.{at_out, at_wr_same, length_wr, same?, split}
use Rattle.cells.specs.Layout.{LEN, ORD, PE, TMP, WANT}
use Rattle.cells.specs.View.{Room, at, place, rd, up, within, wr}
use Rattle.chain.proofs.Unlink.{removed_other}
use Rattle.chain.specs.Model.{removed}
use Rattle.packed.specs.Gather.{Cleared, cleared, collected_rest, made_room}
use Rattle.packed.specs.Model.{Heap, heap, moved_down, moved_low, moved_new, moved_next, moved_one, packed_all, packed_low}
use Rattle.packed.specs.Places.{due, places}
use Rattle.packed.specs.Tray.{Tabled, absorbed, counted, wanted}
use Rattle.packed.proofs.Dropping.{absorbed_field}
use Rattle.packed.proofs.Sums.{sum_change, sum_same}
use Rattle.packed.specs.declared.Ends.{Ends}
use Rattle.packed.specs.declared.Tray.{Tray}

-- ---- the rows that are wanted

-- 1 if row i is wanted, else 0
abbrev wish : ℕ → List ℤ → ℕ → ℕ
wish n s i = cond (ltb 0 (rd n WANT s i)) 1 0

wanted_most : (n : ℕ) (s : List ℤ) → wanted n s ≤ n
unfolding wanted
wanted_most n s =
    omega (arith, length_count_up 0 n, total_most (wish n s) 1 (up_to n) (λ i m. cond_has (λ (y : ℕ). y ≤ 1) (ltb 0 (rd n WANT s i)) (λ e. omega arith) (λ e. omega arith)))

wanted_same : (n : ℕ) (s r : List ℤ) → ((i : ℕ) → rd n WANT r i ≡ rd n WANT s i) → wanted n r ≡ wanted n s
unfolding wanted
wanted_same n s r e = sum_same n (wish n s) (wish n r) (λ i b. rw (e i))

-- a field that becomes 0 is 0, wherever its cell lies
rd_up_none : (n f : ℕ) (s : List ℤ) (i : ℕ) → rd n f (up n f s i 0) i ≡ 0
unfolding rd up
rd_up_none n f s i = by (within n f i) (none (place n f i) (split (place n f i) (length s)))
  where
    none : (q : ℕ) → (q < length s) ⊎ (length s ≤ q) → at (wr s q 0) q ≡ 0
    none q (inl h) = at_wr_same s q 0 h
    none q (inr h) = at_out (wr s q 0) q (omega (arith, length_wr s q 0))

    by : (b : Bool) → at (wr s (place n f i) 0) (place n f i) ≡ 0 → cond b (at (cond b (wr s (place n f i) 0) s) (place n f i)) 0 ≡ 0
    by true h = h
    by false h = refl

-- one of them is wanted no more
wanted_less : (n : ℕ) (s : List ℤ) (x : ℕ) → x < n → 0 < rd n WANT s x → wanted n (up n WANT s x 0) + 1 ≡ wanted n s
unfolding wanted
wanted_less n s x hx w =
    let before : wish n s x ≡ 1 = rw (lt-ltb 0 (rd n WANT s x) w) in
    let none : rd n WANT (up n WANT s x 0) x ≡ 0 = rd_up_none n WANT s x in
    let after : wish n (up n WANT s x 0) x ≡ 0 = rw none in
    omega (
      arith,
      before,
      after,
      sum_change n (wish n s) (wish n (up n WANT s x 0)) x hx (λ i d. let z : rd n WANT (up n WANT s x 0) i ≡ rd n WANT s i = simp mem in rw z),
    )

-- ---- the table

-- it is empty
pub tabled_none : (n : ℕ) (s : List ℤ) → Tabled n s 0
tabled_none n s = record { spare = omega (arith, wanted_most n s); rows = λ t h. absurd (omega arith) }

-- another memory has the same table, and wants no more rows
tabled_same : (n : ℕ) (s r : List ℤ) (k : ℕ) → ((t : ℕ) → rd n TMP r t ≡ rd n TMP s t) → wanted n r ≤ wanted n s → Tabled n s k → Tabled n r k
tabled_same n s r k e w h = record { spare = omega (arith, h.spare); rows = λ t b. omega (arith, e t, h.rows t b) }

-- a row that was wanted is so no more: the table has a cell for it
module _ (n : ℕ) (s : List ℤ) (x w : ℕ) (a : List ℤ) (k : ℕ) (h : Tabled n s k) (hx : x < n) (hw : w ≡ rd n WANT s x) (z : 0 < w) (e : a ≡ up n WANT s x 0) where
  less : wanted n a + 1 ≡ wanted n s
  less = rw e (wanted_less n s x hx (omega arith))

  pub tabled_want : Tabled n a k
  tabled_want = tabled_same n s a k (λ t. rw e (simp mem)) (omega (arith, less)) h

  pub tabled_spare : k + wanted n a < n
  tabled_spare = omega (arith, less, h.spare)

-- one row more, whichever leaves its degree list
pub tabled_row : (n x y quota reads : ℕ) (s : List ℤ) (t : Tray) (a b : List ℤ) (r : Tray) → a ≡ up n TMP s t.cnt x → b ≡ removed n a y → r ≡ counted quota reads t
    → Tabled n s t.cnt → Room n s → x < n → t.cnt + wanted n s < n → Tabled n b r.cnt
unfolding counted
tabled_row n x y quota reads s t a b r ha hb hr h room hx hc =
    rw (hb, ha, hr)
    record {
      spare =
          omega (
            arith,
            wanted_same n s (removed n (up n TMP s t.cnt x) y)
                (λ i. removed_other n (up n TMP s t.cnt x) y WANT i refl refl refl ∙ rd_up_field n TMP WANT s t.cnt x i refl),
          );
      rows = λ i l. rw (removed_other n (up n TMP s t.cnt x) y TMP i refl refl refl) (by i l (same? i t.cnt));
    }
  where
    by : (i : ℕ) → i < t.cnt + 1 → (i ≡ t.cnt) ⊎ (i ≢ t.cnt) → rd n TMP (up n TMP s t.cnt x) i < n
    by i l (inl e) = rw e (let z : rd n TMP (up n TMP s t.cnt x) t.cnt ≡ x = simp (mem, room_yes n s room, lt-ltb t.cnt n (omega arith)) in omega (arith, z))
    by i l (inr d) = let z : rd n TMP (up n TMP s t.cnt x) i ≡ rd n TMP s i = simp mem in omega (arith, z, h.rows i (omega (arith, d)))

-- ---- what else happens beside it

-- an element is taken up
pub tabled_absorbed : (n me e : ℕ) (s a : List ℤ) (k : ℕ) → a ≡ absorbed n me e s → Tabled n s k → Tabled n a k
tabled_absorbed n me e s a k ha h =
    rw ha
    (tabled_same n s (absorbed n me e s) k (λ t. absorbed_field n me s e TMP t refl refl refl)
    (omega (arith, wanted_same n s (absorbed n me e s) (λ i. absorbed_field n me s e WANT i refl refl refl))) h)

module _ (n c i : ℕ) (hl : eqb LEN c ≡ false) (hp : eqb PE c ≡ false) where
  -- cell i of field c is as in s
  abbrev Kept : List ℤ → List ℤ → Type 0
  Kept s m = rd n c m i ≡ rd n c s i

  kept_one_lem : (top j : ℕ) (m : Heap) → Kept m.mem (moved_one n top j m).mem
  unfolding moved_one moved_down
  kept_one_lem top j m = cond_has (λ (y : Heap). Kept m.mem y.mem) (ltb 0 (due (places n m.mem) top j)) (λ e. rd_up_field n PE c m.mem j m.end i hp) (λ e. refl)

  kept_next : (top t : ℕ) (m : Heap) → Kept m.mem (moved_next n top t m).mem
  unfolding moved_next
  kept_next top t m = kept_one_lem top (rd n ORD m.mem t) m

  kept_packed : (base lim cnt : ℕ) (l s : List ℤ) → Kept s (packed_all n base lim cnt l s).mem
  unfolding packed_all packed_low moved_low moved_new
  kept_packed base lim cnt l s =
      times_keeps (λ t (m : Heap). Kept s m.mem) (moved_next n lim) cnt (λ t m b e. kept_next lim t m ∙ e) cnt (times n (moved_one n base) (heap l s 0)) (omega arith)
      (times_keeps (λ t (m : Heap). Kept s m.mem) (moved_one n base) n (λ t m b e. kept_one_lem base t m ∙ e) n (heap l s 0) (omega arith) refl)

  kept_room : (me base lim cnt : ℕ) (t : Tray) (l s : List ℤ) → Kept s (made_room n me base lim cnt t l s).mem
  unfolding made_room collected_rest
  kept_room me base lim cnt t l s =
      let e = rd_up_field n LEN c s me 0 i hl in
      cond_has (λ (y : Cleared). Kept s y.mem) (ltb 0 t.mark) (λ z. kept_packed base lim cnt l (up n LEN s me 0) ∙ e) (λ z. e)

-- room is made
pub tabled_room : (n n₁ n₂ me base lim cnt : ℕ) (t : Tray) (l s l₂ s₂ : List ℤ) (e : Ends) (k : ℕ) → n₁ ≡ n → n₂ ≡ n₁ → Tabled n s k
    → cleared l₂ s₂ e ≡ made_room n₁ me base lim cnt t l s → Tabled n₂ s₂ k
tabled_room n n₁ n₂ me base lim cnt t l s l₂ s₂ e k h₁ h₂ h g =
    let c : cleared l₂ s₂ e ≡ made_room n me base lim cnt t l s = rw h₁ at g in
    rw (h₂, h₁)
    (tabled_same n s s₂ k (λ i. ap (λ (y : Cleared). rd n TMP y.mem i) c ∙ kept_room n TMP i refl refl me base lim cnt t l s)
    (omega (arith, wanted_same n s s₂ (λ i. ap (λ (y : Cleared). rd n WANT y.mem i) c ∙ kept_room n WANT i refl refl me base lim cnt t l s))) h)
