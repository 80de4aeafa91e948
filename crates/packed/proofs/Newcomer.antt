-- A list laid at the free end: the last step of a gather.
-- Assumes nothing.
use Rattle.std.proofs.Common.{◌≡◌, ℕ, zero, suc, ◌+◌, ◌<◌, ◌≤◌, ◌≢◌, ◌⊎◌, List, length, ℤ, sym, refl, ◌∙◌, inl, inr, ⊎_elim, zero-add, arith, lt-ltb}
use mathlib.Core.Path.{subst⁻¹}
use Rattle.plain.proofs.Entries.{entries_same}
use Rattle.plain.specs.Turns.{entries, times, upd}
use Rattle.cells.proofs.Fields.{room_up}
use Rattle.cells.proofs.Laws.{mem, room_yes}
use Rattle.cells.proofs.Rows.{clipped_part}
use Rattle.cells.proofs.Slices.{at_wr_other, at_wr_same, length_wr, same?}
use Rattle.cells.specs.Layout.{LEN, ORD, PE, TMP}
use Rattle.cells.specs.View.{Room, at, rd, up, wr}
use Rattle.packed.specs.Model.{entered, laid}
use Rattle.packed.specs.Places.{Mem, Space, places}
use Rattle.packed.proofs.Frame.{ends, other_field}
use Rattle.packed.proofs.Objects.{added, lowered}
use Rattle.packed.proofs.Orders.{sorted_added, sorted_fewer}

-- m is l with F 0, .., F (k - 1) at e on
pub record Laid (l : List ℤ) (F : ℕ → ℕ) (m : List ℤ) (e k : ℕ) : Type 0 where
  pub here : (t : ℕ) → t < k → at m (e + t) ≡ F t
  pub rest : (q : ℕ) → (q < e) ⊎ (e + k ≤ q) → at m q ≡ at l q
  pub long : length m ≡ length l

one_more : (l : List ℤ) (F : ℕ → ℕ) (m : List ℤ) (e k : ℕ) → e + suc k ≤ length l → Laid l F m e k → Laid l F (wr m (e + k) (F k)) e (suc k)
one_more l F m e k b c =
    record {
      here = λ t h. ⊎_elim
          (λ x. subst⁻¹ (λ (y : ℕ). at (wr m (e + k) (F k)) (e + y) ≡ F y) x (at_wr_same m (e + k) (F k) (omega (arith, c.long))))
          (λ x. at_wr_other m (e + k) (F k) (e + t) (λ y. x (omega arith)) ∙ c.here t (omega (arith, x)))
          (same? t k);
      rest = λ q h. at_wr_other m (e + k) (F k) q (⊎_elim (λ x. omega arith) (λ x. omega arith) h) ∙ c.rest q (⊎_elim (λ x. inl x) (λ x. inr (omega arith)) h);
      long = length_wr m (e + k) (F k) ∙ c.long;
    }

module _ (n : ℕ) (s : List ℤ) (e : ℕ) (l : List ℤ) where
  stored : (k : ℕ) → (0 < k → e + k ≤ length l) → Laid l (rd n TMP s) (times k (λ t m. wr m (e + t) (rd n TMP s t)) l) e k
  unfolding times
  stored zero b = record { here = λ t h. absurd (omega arith); rest = λ q h. refl; long = refl }
  stored (suc k) b =
      let c = b (omega arith) in
      one_more l (rd n TMP s) (times k (λ t m. wr m (e + t) (rd n TMP s t)) l) e k c (stored k (λ z. omega arith))

  -- where nothing is to be stored, it need not be there
  pub laid_there : (k : ℕ) → (0 < k → e + k ≤ length l) → Laid l (rd n TMP s) (laid n s e k l) e k
  unfolding laid
  laid_there k b = rw (clipped_part (length l) e k b) (stored k b)

module _ (n : ℕ) (X : ℕ → List ℕ) (l s : List ℤ) (cnt base lim : ℕ) (h : Space n X l s cnt base lim) where
  pub entered_mem : (j e k : ℕ) → j < n → cnt < n → ((t : ℕ) → t < cnt → rd n ORD s t ≢ j) → lim ≤ e → e + k ≤ length l
      → Space n (upd X j (entries (rd n TMP s) 0 k)) (laid n s e k l) (entered n s cnt j e k) (suc cnt) base (e + k)
  unfolding entered
  entered_mem j e k hj hc fresh le b =
      let d = laid_there n s e l k (λ z. b) in
      let m : Mem l (places n s) e X = lowered l (places n s) lim X h.lists e (omega arith) (λ i q o. omega (arith, h.lists.under i q o)) in
      let r : Room n s = h.room in
      record {
        lists = other_field n ORD (up n LEN (up n PE s j e) j k) cnt j refl refl (laid n s e k l) (e + k) (upd X j (entries (rd n TMP s) 0 k))
            (added n s l e X m r j hj (laid n s e k l) k (entries (rd n TMP s) 0 k) (omega (arith, d.long)) (λ q a. d.rest q (inl a))
            (entries_same (rd n TMP s) (at (laid n s e k l)) 0 e k (λ t a. rw zero-add (d.here t a))));
        room = room_up n ORD _ cnt j (room_up n LEN _ j k (room_up n PE s j e r));
        sorted = sorted_added (places n s) (places n (up n ORD (up n LEN (up n PE s j e) j k) cnt j)) (rd n ORD s) (rd n ORD (up n ORD (up n LEN (up n PE s j e) j k) cnt j))
            cnt base e k j
            (sorted_fewer (places n s) (places n s) (λ i x. (refl, omega arith)) (rd n ORD s) cnt base lim e le h.sorted)
            (ends l (places n s) e X m)
            (λ i x. let u : j ≢ i = λ y. x (sym y) in record { pe = simp mem; len = simp mem })
            (simp (mem, room_yes n s r, lt-ltb j n hj))
            (λ t x. let u : cnt ≢ t = λ y. x (sym y) in simp mem)
            (simp (mem, room_yes n s r, lt-ltb cnt n hc))
            fresh;
      }
