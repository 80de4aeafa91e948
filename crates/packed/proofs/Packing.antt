-- The collection keeps every list: the models against the definition, with no code in sight.
-- Assumes nothing.
use Rattle.std.proofs.Common.{◌≡◌, ℕ, zero, suc, ◌+◌, ◌^◌, ◌<◌, ◌≤◌, false, eqb, ◌≢◌, List, length, ℤ, sym, refl, ◌∙◌, subst, ⊎_elim, arith, lt-ltb}
use Rattle.plain.specs.Turns.{times}
use Rattle.cells.proofs.Fields.{rd_null, room_up}
use Rattle.cells.proofs.Laws.{mem, parent_up_cell, rd_up_field, room_yes}
use Rattle.cells.proofs.Slices.{plus_sum, split}
use Rattle.cells.specs.Layout.{LEN, PE}
use Rattle.cells.specs.Links.{parent}
use Rattle.cells.specs.View.{Room, rd, up}
use Rattle.packed.specs.Model.{Heap, heap, moved_one}
use Rattle.packed.specs.Places.{Mem, Queue, due, places, share, sum_to}
use Rattle.packed.proofs.Copy.{length_copied}
use Rattle.packed.proofs.Frame.{Stays, ends}
use Rattle.packed.proofs.Objects.{moved}
use Rattle.packed.proofs.Steps.{one_no, one_yes}
use Rattle.packed.proofs.Waiting.{advanced, due_low, due_some, free, grown, passed}

-- an object of some length has a number below n
pub live_below : (n : ℕ) (s : List ℤ) (j : ℕ) → 0 < rd n LEN s j → j < n
live_below n s j h = ⊎_elim (λ a. a) (λ a. absurd (omega (arith, rd_null n LEN s j (omega arith) a))) (split j n)

-- before turn k, from the scratch s₀
pub record Stage (n : ℕ) (X : ℕ → List ℕ) (lim : ℕ) (ob : ℕ → ℕ) (cnt : ℕ) (D : ℕ → ℕ) (top d₀ : ℕ) (z : ℕ) (s₀ : List ℤ) (k : ℕ) (m : Heap) : Type 0 where
  pub lists : Mem m.lists (places n m.mem) lim X
  pub room : Room n m.mem
  pub long : length m.lists ≡ z
  pub queue : Queue (places n m.mem) ob cnt D top d₀ k m.end
  pub total : m.end ≡ sum_to n (share (places n m.mem) m.end)
  pub fields : (c i : ℕ) → eqb PE c ≡ false → rd n c m.mem i ≡ rd n c s₀ i
  pub far : (i : ℕ) → ((t : ℕ) → t < cnt → 0 < D t → ob t ≢ i) → rd n PE m.mem i ≡ rd n PE s₀ i
  pub links : (i : ℕ) → ((t : ℕ) → t < cnt → 0 < D t → ob t ≢ i) → parent n m.mem i ≡ parent n s₀ i

module _ (n : ℕ) (X : ℕ → List ℕ) (lim : ℕ) (small : lim < 2 ^ 63) (ob : ℕ → ℕ) (cnt : ℕ) (D : ℕ → ℕ) (top d₀ z₀ : ℕ) (s₀ : List ℤ) where
  abbrev At : ℕ → Heap → Type 0
  At = Stage n X lim ob cnt D top d₀ z₀ s₀

  module _ (k : ℕ) (l s : List ℤ) (e : ℕ) (h : At k (heap l s e)) (hk : k < cnt) where
    skip : D k ≡ 0 → At (suc k) (moved_one n top (ob k) (heap l s e))
    skip z =
        subst (At (suc k))
        (one_no n top (ob k) l s e (D k) (sym (h.queue.now k (omega arith) hk)) (omega arith))
        record {
          lists = h.lists;
          room = h.room;
          long = h.long;
          queue = passed (places n s) ob cnt D top d₀ k e h.queue hk z;
          total = h.total;
          fields = h.fields;
          far = h.far;
          links = h.links;
        }

    move : 0 < D k → At (suc k) (moved_one n top (ob k) (heap l s e))
    move z =
        let a : due (places n s) top (ob k) ≡ D k = h.queue.now k (omega arith) hk in
        let b : rd n PE s (ob k) < top = due_some (places n s) top (ob k) (omega arith) in
        let c : due (places n s) top (ob k) ≡ rd n LEN s (ob k) = due_low (places n s) top (ob k) b in
        let le : e ≤ rd n PE s (ob k) = h.queue.from k (omega arith) hk z in
        let hj : ob k < n = live_below n s (ob k) (omega arith) in
        let y : rd n PE s (ob k) + rd n LEN s (ob k) ≤ lim = ends l (places n s) lim X h.lists (ob k) (omega arith) in
        let stays : (i : ℕ) → i ≢ ob k → Stays (places n s) (places n (up n PE s (ob k) e)) i =
        λ i d. let u : ob k ≢ i = λ x. d (sym x) in record { pe = simp mem; len = simp mem }
        in
        let gp : rd n PE (up n PE s (ob k) e) (ob k) ≡ e = simp (mem, room_yes n s h.room, lt-ltb (ob k) n hj) in
        let gl : rd n LEN (up n PE s (ob k) e) (ob k) ≡ rd n LEN s (ob k) = simp mem in
        subst (At (suc k))
        (one_yes n top (ob k) l s e (rd n LEN s (ob k)) (sym c) (rd n PE s (ob k)) _ _ (e + D k) refl refl refl
        (omega (arith, plus_sum e (rd n LEN s (ob k)) (omega arith))) (omega arith))
        record {
          lists = moved n s l lim X h.lists h.room (ob k) hj e le (omega arith) (free (places n s) ob cnt D top d₀ k e h.queue hk z);
          room = room_up n PE s (ob k) e h.room;
          long = length_copied l (rd n PE s (ob k)) e (rd n LEN s (ob k)) ∙ h.long;
          queue = advanced (places n s) ob cnt D top d₀ k e h.queue hk z (places n (up n PE s (ob k) e)) stays gp gl;
          total = omega (arith, h.total, grown (places n s) ob cnt D top d₀ k e h.queue hk z (places n (up n PE s (ob k) e)) stays gp gl n hj);
          fields = λ f i t. rd_up_field n PE f s (ob k) e i t ∙ h.fields f i t;
          far = λ i t. (stays i (λ x. t k hk z (sym x))).pe ∙ h.far i t;
          links = λ i t. parent_up_cell n PE s (ob k) e i (t k hk z) ∙ h.links i t;
        }

  step : (k : ℕ) (m : Heap) → At k m → k < cnt → At (suc k) (moved_one n top (ob k) m)
  step k m h hk =
      ⊎_elim (λ z. move k m.lists m.mem m.end h hk z) (λ z. skip k m.lists m.mem m.end h hk (omega arith)) (split 0 (D k))

  -- every loop whose turn moves the object of the order
  module _ (F : ℕ → Heap → Heap) (g : (t : ℕ) (m : Heap) → At t m → F t m ≡ moved_one n top (ob t) m) (m : Heap) (h : At 0 m) where
    first : At 0 (times 0 F m)
    unfolding times
    first = h

    again : (k : ℕ) → k < cnt → At k (times k F m) → At (suc k) (times (suc k) F m)
    unfolding times
    again k b r = rw (g k (times k F m) r) (step k (times k F m) r b)

    pub walked : (k : ℕ) → k ≤ cnt → At k (times k F m)
    walked zero b = first
    walked (suc k) b = again k b (walked k (omega arith))
