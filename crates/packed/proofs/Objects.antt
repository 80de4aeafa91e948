-- The changes of one object: a store in its list, a list rewritten in its own place, an object dropped, added at the limit, moved to the left.
-- Assumes nothing.
use Rattle.std.proofs.Common.{◌≡◌, ℕ, ◌+◌, ◌<◌, ◌≤◌, ◌≢◌, ◌⊎◌, List, [], length, set, ℤ, sym, refl, ap, ◌∙◌, inl, inr, ⊎_elim, arith, lt-ltb}
use mathlib.Core.Path.{subst⁻¹}
use Rattle.plain.proofs.Entries.{entries_none, entries_same, entries_set, upd_other, upd_same}
use Rattle.plain.specs.Turns.{entries, upd}
use Rattle.cells.proofs.Laws.{mem, room_yes}
use Rattle.cells.proofs.Slices.{at_wr_other, at_wr_same, length_wr, same?, split}
use Rattle.cells.specs.Layout.{LEN, PE}
use Rattle.cells.specs.View.{Room, at, rd, up, wr}
use Rattle.packed.specs.Model.{copied}
use Rattle.packed.specs.Places.{Mem, Owns, Places, places}
use Rattle.packed.proofs.Copy.{Copied, copied_down}
use Rattle.packed.proofs.Frame.{changed, ends, len_of}

-- a store inside a part
pub entries_stored : (l : List ℤ) (v p k t : ℕ) → t < k → p + t < length l → entries (at (wr l (p + t) v)) p k ≡ set (entries (at l) p k) t v
entries_stored l v p k t h b =
    entries_same (upd (at l) (p + t) v) (at (wr l (p + t) v)) p p k (λ u a. cell u (same? (p + u) (p + t))) ∙ entries_set (at l) v p k t h
  where
    cell : (u : ℕ) → (p + u ≡ p + t) ⊎ (p + u ≢ p + t) → at (wr l (p + t) v) (p + u) ≡ upd (at l) (p + t) v (p + u)
    cell u (inl e) = rw (e, upd_same (at l) (p + t) v) (at_wr_same l (p + t) v b)
    cell u (inr d) = rw (upd_other (at l) (p + t) v (p + u) d) (at_wr_other l (p + t) v (p + u) d)

-- outside the cells of j
abbrev pub Off : Places → ℕ → ℕ → Type 0
Off f j q = (q < f.pe j) ⊎ (f.pe j + f.len j ≤ q)

module _ (l : List ℤ) (f : Places) (lim : ℕ) (X : ℕ → List ℕ) (h : Mem l f lim X) where
  -- another's cell is outside
  pub off : (j i q : ℕ) → i ≢ j → Owns f i q → Off f j q
  off j i q d o =
      ⊎_elim (λ a. inl a) (λ a. ⊎_elim (λ b. absurd (d (h.one i j q o (record { from = a; to = b })))) (λ b. inr b) (split q (f.pe j + f.len j))) (split q (f.pe j))

  -- the same lists by another name
  pub renamed : (Y : ℕ → List ℕ) → ((i : ℕ) → X i ≡ Y i) → Mem l f lim Y
  renamed Y e = record { lists = λ j. h.lists j ∙ e j; one = h.one; under = h.under; fits = h.fits }

  -- a lower limit
  pub lowered : (e : ℕ) → e ≤ length l → ((i q : ℕ) → Owns f i q → q < e) → Mem l f e X
  lowered e a b = record { lists = h.lists; one = h.one; under = b; fits = a }

  -- a store at entry t of j
  pub stored : (j t v : ℕ) → t < length (X j) → Mem (wr l (f.pe j + t) v) f lim (upd X j (set (X j) t v))
  stored j t v a =
      let b : t < f.len j = omega (arith, len_of l f lim X h j) in
      let z : f.pe j + f.len j ≤ lim = ends l f lim X h j (omega arith) in
      changed l f lim X h j (wr l (f.pe j + t) v) f lim (set (X j) t v)
      record {
        stays = λ i d. record { pe = refl; len = refl };
        kept = λ i q d o. at_wr_other l (f.pe j + t) v q (⊎_elim (λ x. omega arith) (λ x. omega arith) (off j i q d o));
        new = entries_stored l v (f.pe j) (f.len j) t b (omega (arith, h.fits)) ∙ ap (λ (y : List ℕ). set y t v) (h.lists j);
        clear = λ i q d o w. d (h.one i j q o w);
        below = λ q w. h.under j q w;
        others = λ i q d o. h.under i q o;
        fits = rw (length_wr l (f.pe j + t) v) h.fits;
      }

module _ (n : ℕ) (s l : List ℤ) (lim : ℕ) (X : ℕ → List ℕ) (h : Mem l (places n s) lim X) (room : Room n s) (j : ℕ) (hj : j < n) where
  -- j's list rewritten inside its own place: what is outside is as before, and the first k numbers inside are x
  pub rewritten : (m : List ℤ) (k : ℕ) (x : List ℕ) → k ≤ rd n LEN s j → length m ≡ length l → ((q : ℕ) → Off (places n s) j q → at m q ≡ at l q)
      → entries (at m) (rd n PE s j) k ≡ x → Mem m (places n (up n LEN s j k)) lim (upd X j x)
  rewritten m k x a b o e =
      let len : rd n LEN (up n LEN s j k) j ≡ k = simp (mem, room_yes n s room, lt-ltb j n hj) in
      let pe : rd n PE (up n LEN s j k) j ≡ rd n PE s j = simp mem in
      let was : (q : ℕ) → Owns (places n (up n LEN s j k)) j q → Owns (places n s) j q = λ q w. record { from = omega (arith, w.from); to = omega (arith, w.to) } in
      changed l (places n s) lim X h j m (places n (up n LEN s j k)) lim x
      record {
        stays = λ i d. let u : j ≢ i = λ y. d (sym y) in record { pe = simp mem; len = simp mem };
        kept = λ i q d w. o q (off l (places n s) lim X h j i q d w);
        new = rw (pe, len) e;
        clear = λ i q d w v. d (h.one i j q w (was q v));
        below = λ q w. h.under j q (was q w);
        others = λ i q d w. h.under i q w;
        fits = omega (arith, h.fits);
      }

  -- j is dead
  pub dropped : Mem l (places n (up n LEN s j 0)) lim (upd X j [])
  dropped = rewritten l 0 [] (omega arith) refl (λ q a. refl) (entries_none (at l) (rd n PE s j))

  -- j's list is the k numbers from lim on, whatever it was before
  pub added : (m : List ℤ) (k : ℕ) (x : List ℕ) → lim + k ≤ length m → ((q : ℕ) → q < lim → at m q ≡ at l q)
      → entries (at m) lim k ≡ x → Mem m (places n (up n LEN (up n PE s j lim) j k)) (lim + k) (upd X j x)
  added m k x a o e =
      let len : rd n LEN (up n LEN (up n PE s j lim) j k) j ≡ k = simp (mem, room_yes n s room, lt-ltb j n hj) in
      let pe : rd n PE (up n LEN (up n PE s j lim) j k) j ≡ lim = simp (mem, room_yes n s room, lt-ltb j n hj) in
      changed l (places n s) lim X h j m (places n (up n LEN (up n PE s j lim) j k)) (lim + k) x
      record {
        stays = λ i d. let u : j ≢ i = λ y. d (sym y) in record { pe = simp mem; len = simp mem };
        kept = λ i q d w. o q (h.under i q w);
        new = rw (pe, len) e;
        clear = λ i q d w v. omega (arith, h.under i q w, v.from);
        below = λ q w. omega (arith, w.to);
        others = λ i q d w. omega (arith, h.under i q w);
        fits = a;
      }

  -- j's list moved to the left, to e, where there is nobody else's
  pub moved : (e : ℕ) → e ≤ rd n PE s j → 0 < rd n LEN s j → ((i q : ℕ) → i ≢ j → Owns (places n s) i q → (q < e) ⊎ (e + rd n LEN s j ≤ q))
      → Mem (copied (rd n PE s j) e (rd n LEN s j) l) (places n (up n PE s j e)) lim X
  moved e a b o =
      let z : rd n PE s j + rd n LEN s j ≤ lim = ends l (places n s) lim X h j b in
      let y = h.fits in
      let c : Copied l (copied (rd n PE s j) e (rd n LEN s j) l) (rd n PE s j) e (rd n LEN s j) = copied_down l (rd n PE s j) e (rd n LEN s j) a (omega arith) in
      let pe : rd n PE (up n PE s j e) j ≡ e = simp (mem, room_yes n s room, lt-ltb j n hj) in
      let len : rd n LEN (up n PE s j e) j ≡ rd n LEN s j = simp mem in
      renamed (copied (rd n PE s j) e (rd n LEN s j) l) (places n (up n PE s j e)) lim (upd X j (X j))
      (changed l (places n s) lim X h j (copied (rd n PE s j) e (rd n LEN s j) l) (places n (up n PE s j e)) lim (X j)
      record {
        stays = λ i d. let u : j ≢ i = λ y. d (sym y) in record { pe = simp mem; len = simp mem };
        kept = λ i q d w. c.rest q (o i q d w);
        new = rw (pe, len) (entries_same (at l) (at (copied (rd n PE s j) e (rd n LEN s j) l)) (rd n PE s j) e (rd n LEN s j) c.moved ∙ h.lists j);
        clear = λ i q d w v. ⊎_elim (λ x. omega (arith, v.from)) (λ x. omega (arith, v.to)) (o i q d w);
        below = λ q w. omega (arith, w.to);
        others = λ i q d w. h.under i q w;
        fits = omega (arith, c.long);
      })
      X
      (λ i. ⊎_elim (λ d. subst⁻¹ (λ (y : ℕ). upd X j (X j) y ≡ X y) d (upd_same X j (X j))) (λ d. upd_other X j (X j) i d) (same? i j))
