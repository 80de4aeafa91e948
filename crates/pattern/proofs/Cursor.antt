-- One entry more in a list that grows at its cursor: every cursor and every other list stays as it was.
-- Assumes nothing.
use Prim.Native.Nat.{ℕ, zero, suc, ◌+◌, ◌-◌, ◌≤◌, ◌<◌, ◌^◌}
use native.Mathlib.Omega.{arith}
use mathlib.Core.Path.{◌≡◌, refl, sym, ap, ◌∙◌}
use mathlib.Core.Logic.{◌≢◌, ◌⊎◌, inl, inr}
use mathlib.Core.List.{List, [], ◌∷◌, ◌++◌}
use lib.ListN.{length}
use Rattle.plain.specs.Lists.{up_to, count_up, total}
use Rattle.plain.specs.Turns.{entries, upd}
use Rattle.plain.proofs.Entries.{entries_same, entries_snoc, upd_same, upd_other}
use Rattle.plain.proofs.Positions.{length_snoc}
use Rattle.plain.proofs.Sums.{total_up_to}
use Rattle.cells.proofs.Slices.{split, same?}
use Rattle.pattern.specs.Cursors.{Fits, Apart, Filled}

-- ---- one entry more

module _ (n : ℕ) (start len : ℕ → ℕ) (size : ℕ) (small : (i : ℕ) → i < n → start i + len i < 2 ^ 63)
    (cur F cur' F' : ℕ → ℕ) (X : ℕ → List ℕ) (h : Filled n start len size cur F X) (i x : ℕ) (hi : i < n)
    (kept : (v : ℕ) → v ≢ i → cur' v ≡ cur v) (moved : cur i + 1 < 2 ^ 63 → cur' i ≡ suc (cur i))
    (others : (q : ℕ) → q ≢ cur i → F' q ≡ F q) (stored : cur i < size → F' (cur i) ≡ x) where
  abbrev Y : ℕ → List ℕ
  Y = upd X i (X i ++ (x ∷ []))

  grown : length (Y i) ≡ suc (length (X i))
  grown = ap length (upd_same X i (X i ++ (x ∷ []))) ∙ length_snoc (X i) x

  fits_before : Fits n len Y → Fits n len X
  fits_before f = record { most = λ v hv. go v hv (same? v i) }
    where
      go : (v : ℕ) → v < n → (v ≡ i) ⊎ (v ≢ i) → length (X v) ≤ len v
      go v hv (inl e) = rw e (omega (arith, f.most i hi, grown))
      go v hv (inr e) = omega (arith, f.most v hv, ap length (upd_other X i (X i ++ (x ∷ [])) v e))

  room_left : Fits n len Y → suc (length (X i)) ≤ len i
  room_left f = omega (arith, f.most i hi, grown)

  cursors : Fits n len Y → (v : ℕ) → v < n → (v ≡ i) ⊎ (v ≢ i) → cur' v ≡ start v + length (Y v)
  cursors f v hv (inl e) =
      let a = h.cursor (fits_before f) i hi in
      rw e (moved (omega (arith, a, room_left f, small i hi)) ∙ omega (arith, a, grown))
  cursors f v hv (inr e) = kept v e ∙ h.cursor (fits_before f) v hv ∙ ap (λ (l : List ℕ). start v + length l) (sym (upd_other X i (X i ++ (x ∷ [])) v e))

  -- another list does not have the cell
  apart_from_lem : Fits n len Y → Apart n start len size → (v t : ℕ) → v < n → v ≢ i → t < length (X v) → start v + t ≢ cur i
  apart_from_lem f a v t hv ne ht e = go (split v i)
    where
      c : cur i ≡ start i + length (X i)
      c = h.cursor (fits_before f) i hi

      go : (v < i) ⊎ (i ≤ v) → ⊥
      go (inl l) = omega (arith, a.order v i l hi, (fits_before f).most v hv, c, e)
      go (inr l) = omega (arith, a.order i v (omega (arith, ne)) hv, room_left f, c, e)

  lists : Fits n len Y → Apart n start len size → (v : ℕ) → v < n → (v ≡ i) ⊎ (v ≢ i) → entries F' (start v) (length (Y v)) ≡ Y v
  lists f a v hv (inl e) =
      let c = h.cursor (fits_before f) i hi in
      let before : entries F' (start i) (length (X i)) ≡ entries F (start i) (length (X i)) =
      entries_same F F' (start i) (start i) (length (X i)) (λ t ht. others (start i + t) (λ q. omega (arith, q, c))) in
      rw (e, grown, upd_same X i (X i ++ (x ∷ [])), entries_snoc F' (start i) (length (X i)), before, h.held (fits_before f) a i hi, ← c)
      (ap (λ (y : ℕ). X i ++ (y ∷ [])) (stored (omega (arith, c, room_left f, a.inside i hi))))
  lists f a v hv (inr e) =
      rw (upd_other X i (X i ++ (x ∷ [])) v e)
      (entries_same F F' (start v) (start v) (length (X v)) (λ t ht. others (start v + t) (apart_from_lem f a v t hv e ht))
      ∙ h.held (fits_before f) a v hv)

  pub filled_more : Filled n start len size cur' F' (upd X i (X i ++ (x ∷ [])))
  filled_more = record {
    cursor = λ f v hv. cursors f v hv (same? v i);
    held = λ f a v hv. lists f a v hv (same? v i);
  }

-- nothing is written yet
pub filled_none : (n : ℕ) (start len : ℕ → ℕ) (size : ℕ) (cur F : ℕ → ℕ) (X : ℕ → List ℕ) → ((i : ℕ) → X i ≡ []) → ((i : ℕ) → i < n → cur i ≡ start i)
    → Filled n start len size cur F X
unfolding entries
filled_none n start len size cur F X e h = record {
  cursor = λ f i hi. h i hi ∙ omega (arith, ap length (e i));
  held = λ f a i hi. rw (e i);
}

-- ---- rooms by the sum of those before

abbrev pub before : (ℕ → ℕ) → ℕ → ℕ
before len i = total len (up_to i)

pub before_none : (len : ℕ → ℕ) → before len 0 ≡ 0
unfolding total count_up
before_none len = refl

pub before_more : (len : ℕ → ℕ) (i : ℕ) → before len (suc i) ≡ before len i + len i
before_more len i = total_up_to len i

before_plus : (len : ℕ → ℕ) (i d : ℕ) → before len i + len i ≤ before len (suc i + d)
before_plus len i zero = let e : suc i + 0 ≡ suc i = omega arith in rw e (omega (arith, before_more len i))
before_plus len i (suc d) = let e : suc i + suc d ≡ suc (suc i + d) = omega arith in rw e (omega (arith, before_more len (suc i + d), before_plus len i d))

pub before_apart : (len : ℕ → ℕ) (i j : ℕ) → i < j → before len i + len i ≤ before len j
before_apart len i j h =
    let e : j ≡ suc i + (j - suc i) = omega arith in
    omega (arith, before_plus len i (j - suc i), ap (before len) e)

pub apart_before : (n : ℕ) (len : ℕ → ℕ) (size : ℕ) → before len n ≤ size → Apart n (before len) len size
apart_before n len size h = record {
  order = λ i j l hj. before_apart len i j l;
  inside = λ i hi. omega (arith, before_apart len i n hi);
}
