-- What becomes of the lists of a memory when one object is changed.
-- Assumes nothing.
use Rattle.std.proofs.Common.{◌≡◌, ℕ, ◌+◌, ◌-◌, ◌<◌, ◌≤◌, false, eqb, ◌≢◌, ◌⊎◌, List, length, get_or, ℤ, sym, ap, ◌∙◌, subst, inl, inr, arith}
use mathlib.Core.Path.{subst⁻¹}
use Rattle.plain.proofs.Entries.{entries_at, entries_length, entries_same, upd_other, upd_same}
use Rattle.plain.specs.Turns.{entries, upd}
use Rattle.cells.proofs.Laws.{rd_up_field}
use Rattle.cells.proofs.Slices.{same?}
use Rattle.cells.specs.Layout.{LEN, PE}
use Rattle.cells.specs.View.{at, up}
use Rattle.packed.specs.Places.{Mem, Owns, Places, places}

-- object i has the same place and length
pub record Stays (f g : Places) (i : ℕ) : Type 0 where
  pub pe : g.pe i ≡ f.pe i
  pub len : g.len i ≡ f.len i

-- from (l, f, lim) to (m, g, lim') only object j is changed: its list is x
pub record Change (l : List ℤ) (f : Places) (j : ℕ) (m : List ℤ) (g : Places) (lim' : ℕ) (x : List ℕ) : Type 0 where
  pub stays : (i : ℕ) → i ≢ j → Stays f g i
  pub kept : (i q : ℕ) → i ≢ j → Owns f i q → at m q ≡ at l q
  pub new : entries (at m) (g.pe j) (g.len j) ≡ x
  pub clear : (i q : ℕ) → i ≢ j → Owns f i q → Owns g j q → ⊥
  pub below : (q : ℕ) → Owns g j q → q < lim'
  pub others : (i q : ℕ) → i ≢ j → Owns f i q → q < lim'
  pub fits : lim' ≤ length m

module _ (l : List ℤ) (f : Places) (lim : ℕ) (X : ℕ → List ℕ) (h : Mem l f lim X) (j : ℕ) (m : List ℤ) (g : Places) (lim' : ℕ) (x : List ℕ) (c : Change l f j m g lim' x) where
  was : (i q : ℕ) → i ≢ j → Owns g i q → Owns f i q
  was i q d o =
      let s = c.stays i d in
      record { from = omega (arith, s.pe, o.from); to = omega (arith, s.pe, s.len, o.to) }

  list : (i : ℕ) → (i ≡ j) ⊎ (i ≢ j) → entries (at m) (g.pe i) (g.len i) ≡ upd X j x i
  list i (inl e) = subst⁻¹ (λ (y : ℕ). entries (at m) (g.pe y) (g.len y) ≡ upd X j x y) e (c.new ∙ sym (upd_same X j x))
  list i (inr d) =
      rw (upd_other X j x i d, (c.stays i d).pe, (c.stays i d).len)
      (entries_same (at l) (at m) (f.pe i) (f.pe i) (f.len i) (λ t a. c.kept i (f.pe i + t) d (record { from = omega arith; to = omega arith })) ∙ h.lists i)

  one : (i k q : ℕ) → Owns g i q → Owns g k q → (i ≡ j) ⊎ (i ≢ j) → (k ≡ j) ⊎ (k ≢ j) → i ≡ k
  one i k q a b (inl u) (inl v) = u ∙ sym v
  one i k q a b (inl u) (inr v) = absurd (c.clear k q v (was k q v b) (subst (λ (y : ℕ). Owns g y q) u a))
  one i k q a b (inr u) (inl v) = absurd (c.clear i q u (was i q u a) (subst (λ (y : ℕ). Owns g y q) v b))
  one i k q a b (inr u) (inr v) = h.one i k q (was i q u a) (was k q v b)

  under : (i q : ℕ) → Owns g i q → (i ≡ j) ⊎ (i ≢ j) → q < lim'
  under i q a (inl u) = c.below q (subst (λ (y : ℕ). Owns g y q) u a)
  under i q a (inr u) = c.others i q u (was i q u a)

  -- THE frame law
  pub changed : Mem m g lim' (upd X j x)
  changed =
      record {
        lists = λ i. list i (same? i j);
        one = λ i k q a b. one i k q a b (same? i j) (same? k j);
        under = λ i q a. under i q a (same? i j);
        fits = c.fits;
      }

module _ (l : List ℤ) (f : Places) (lim : ℕ) (X : ℕ → List ℕ) (h : Mem l f lim X) where
  -- the length of a list is the object's
  pub len_of : (j : ℕ) → f.len j ≡ length (X j)
  len_of j = sym (entries_length (at l) (f.pe j) (f.len j)) ∙ ap length (h.lists j)

  -- entry t of object j
  pub read : (j t : ℕ) → t < length (X j) → at l (f.pe j + t) ≡ get_or (X j) t 0
  read j t a = sym (entries_at (at l) (f.pe j) (f.len j) t 0 (omega (arith, len_of j))) ∙ ap (λ (y : List ℕ). get_or y t 0) (h.lists j)

  -- the last cell of a list is below the limit
  pub ends : (j : ℕ) → 0 < f.len j → f.pe j + f.len j ≤ lim
  ends j a = omega (arith, h.under j (f.pe j + f.len j - 1) (record { from = omega arith; to = omega arith }))

  -- and so the whole list is there
  pub inside_space : (j : ℕ) → 0 < f.len j → f.pe j + f.len j ≤ length l
  inside_space j a = omega (arith, ends j a, h.fits)

  -- the same places by another name
  pub mem_by : (g : Places) → ((i : ℕ) → Stays f g i) → Mem l g lim X
  mem_by g s =
      let was : (i q : ℕ) → Owns g i q → Owns f i q = λ i q o. record { from = omega (arith, (s i).pe, o.from); to = omega (arith, (s i).pe, (s i).len, o.to) } in
      record {
        lists = λ j. rw ((s j).pe, (s j).len) (h.lists j);
        one = λ i j q a b. h.one i j q (was i q a) (was j q b);
        under = λ i q a. h.under i q (was i q a);
        fits = h.fits;
      }

-- a store in another field
pub other_field : (n c : ℕ) (s : List ℤ) (i v : ℕ) → eqb c PE ≡ false → eqb c LEN ≡ false
    → (l : List ℤ) (lim : ℕ) (X : ℕ → List ℕ) → Mem l (places n s) lim X → Mem l (places n (up n c s i v)) lim X
other_field n c s i v a b l lim X h =
    mem_by l (places n s) lim X h (places n (up n c s i v)) (λ j. record { pe = rd_up_field n c PE s i v j a; len = rd_up_field n c LEN s i v j b })
