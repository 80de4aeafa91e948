-- A row that keeps something: its list, its counts, its degree, and the front of its bucket.
-- Assumes nothing.
use Rattle.std.proofs.Common.{◌≡◌, ℕ, suc, ◌+◌, ◌-◌, ◌^◌, ◌<◌, ◌≤◌, min, true, false, eqb, ltb, ◌≢◌, ◌⊎◌, List, ◌∷◌, ◌++◌, length, ℤ, sym, refl, ap, ◌∙◌, inl, inr, ⊎_elim, le_of_lt, arith, le-ltb, lt-ltb}
use native.Mathlib.Nat.{min-eq_left, min-eq_right}
use Rattle.plain.proofs.Logic.{clash}
use Rattle.plain.specs.Lists.{member, rotate}
use Rattle.plain.specs.Turns.{entries, upd}
use Rattle.cells.proofs.Laws.{mem, parent_up_field, rd_up_cell, rd_up_field, rd_up_hit, room_yes, roomy_up}
use Rattle.cells.proofs.Slices.{split}
use Rattle.cells.specs.Layout.{DEGREE, ELEN, HHEAD, HKEY, HNEXT, LEN, PE, W}
use Rattle.cells.specs.Links.{named, parent}
use Rattle.cells.specs.View.{at, rd, roomy, up}
use Rattle.packed.proofs.Spaces.{space_field, space_rewritten}
use Rattle.packed.specs.Places.{Space}
use Rattle.trimming.specs.Model.{Keeping, key_of, keyed, lowered, relisted, sized, turned}
use Rattle.trimming.proofs.Freeing.{without}
use Rattle.trimming.proofs.Rounding.{turned_list, turned_long, turned_rest}
use Rattle.trimming.proofs.Sifting.{Row, sizes}

-- ---- the degree

module _ (n i deg : ℕ) (s : List ℤ) where
  by : (P : List ℤ → Type 0) → P (up n DEGREE s i deg) → P s → P (lowered n i deg s)
  unfolding lowered
  by P a b = ⊎_elim (λ z. rw (lt-ltb deg (rd n DEGREE s i) z) a) (λ z. rw (le-ltb deg (rd n DEGREE s i) z) b) (split deg (rd n DEGREE s i))

  pub lowered_field : (f x : ℕ) → eqb 4 f ≡ false → rd n f (lowered n i deg s) x ≡ rd n f s x
  lowered_field f x h = by (λ y. rd n f y x ≡ rd n f s x) (rd_up_field n DEGREE f s i deg x h) refl

  pub lowered_cell : (f x : ℕ) → i ≢ x → rd n f (lowered n i deg s) x ≡ rd n f s x
  lowered_cell f x h = by (λ y. rd n f y x ≡ rd n f s x) (rd_up_cell n DEGREE f s i deg x h) refl

  pub lowered_kin : (x : ℕ) → parent n (lowered n i deg s) x ≡ parent n s x
  lowered_kin x = by (λ y. parent n y x ≡ parent n s x) (parent_up_field n DEGREE s i deg x refl) refl

  pub lowered_roomy : roomy n (lowered n i deg s) ≡ roomy n s
  lowered_roomy = by (λ y. roomy n y ≡ roomy n s) (roomy_up n DEGREE s i deg) refl

  pub lowered_here : roomy n s ≡ true → ltb i n ≡ true → rd n DEGREE (lowered n i deg s) i ≡ min (rd n DEGREE s i) deg
  unfolding lowered
  lowered_here r h =
      ⊎_elim
      (λ z. rw (lt-ltb deg (rd n DEGREE s i) z) (rd_up_hit n DEGREE s i deg refl r h ∙ sym (min-eq_right (le_of_lt z))))
      (λ z. rw (le-ltb deg (rd n DEGREE s i) z) (sym (min-eq_left z)))
      (split deg (rd n DEGREE s i))

  pub lowered_space : (X : ℕ → List ℕ) (l : List ℤ) (cnt base lim : ℕ) → Space n X l s cnt base lim → Space n X l (lowered n i deg s) cnt base lim
  lowered_space X l cnt base lim h = by (λ y. Space n X l y cnt base lim) (space_field n X l s cnt base lim h DEGREE i deg refl refl refl) h

-- ---- the whole

-- s' is s, but that row i has a new list, with es and vs kept and `gone` taken up, and is the first of the bucket k
pub record Stayed (n me flag i k : ℕ) (s : List ℤ) (gone es vs : List ℕ) (s' : List ℤ) : Type 0 where
  pub elen : rd n ELEN s' i ≡ suc (length es)
  pub degree : sizes n flag s es vs < 2 ^ 63 → rd n DEGREE s' i ≡ min (rd n DEGREE s i) (sizes n flag s es vs)
  pub key : rd n HKEY s' i ≡ k
  pub next : rd n HNEXT s' i ≡ rd n HHEAD s k
  pub head : k < n → rd n HHEAD s' k ≡ i
  pub heads : (x : ℕ) → k ≢ x → rd n HHEAD s' x ≡ rd n HHEAD s x
  -- the rest: of the others, and in other fields
  pub others : (f x : ℕ) → eqb 9 f ≡ false → i ≢ x → member x gone ≡ false → rd n f s' x ≡ rd n f s x
  pub fields : (f x : ℕ) → eqb 0 f ≡ false → eqb 1 f ≡ false → eqb 5 f ≡ false → eqb 3 f ≡ false → eqb 4 f ≡ false → eqb 9 f ≡ false → eqb 10 f ≡ false → eqb 11 f ≡ false
      → rd n f s' x ≡ rd n f s x
  -- fields that are written of row i alone: the same of an element that is taken up
  pub apart : (f x : ℕ) → eqb 0 f ≡ false → eqb 1 f ≡ false → eqb 5 f ≡ false → eqb 9 f ≡ false → i ≢ x → rd n f s' x ≡ rd n f s x
  pub marks : (x : ℕ) → member x gone ≡ false → rd n W s' x ≡ rd n W s x
  pub kin : (x : ℕ) → member x gone ≡ false → parent n s' x ≡ parent n s x
  -- the elements that were taken up
  pub taken : (x : ℕ) → member x gone ≡ true → (rd n W s' x ≡ 0) × (rd n LEN s' x ≡ 0) × (parent n s' x ≡ named n me)

module _ (n me flag : ℕ) (X : ℕ → List ℕ) (l s : List ℤ) (cnt base lim i : ℕ) (gone es vs : List ℕ) (m : Keeping) (h : Row n me flag X l s cnt base lim i gone es vs m)
    (hi : i < n) (apart : member i gone ≡ false)
    (place : rd n PE s i + rd n LEN s i ≤ length l) (own : length es + length vs < rd n LEN s i) (some : 0 < length es + length vs) where
  abbrev c : ℕ
  c = length es + length vs

  abbrev s₁ : List ℤ
  s₁ = m.mem

  abbrev l' : List ℤ
  l' = turned me (rd n PE s i) m.kept.elements m.kept.end m.lists

  abbrev list : List ℕ
  list = me ∷ (rotate es ++ rotate vs)

  pe : rd n PE s₁ i ≡ rd n PE s i
  pe = h.freed.others PE i apart

  len : rd n LEN s₁ i ≡ rd n LEN s i
  len = h.freed.others LEN i apart

  turned_is : l' ≡ turned me (rd n PE s i) (rd n PE s i + length es) (rd n PE s i + c) m.lists
  turned_is = rw (h.elements, h.end)

  fits : rd n PE s i + c < length m.lists
  fits = omega (arith, h.long)

  list_is : entries (at l') (rd n PE s i) (suc c) ≡ list
  list_is = rw turned_is (turned_list me (rd n PE s i) (length es) (length vs) m.lists some fits ∙ rw (h.first, h.second))

  rest_is : (q : ℕ) → (q < rd n PE s i) ⊎ (rd n PE s i + rd n LEN s i ≤ q) → at l' q ≡ at l q
  rest_is q o =
      rw turned_is
      (turned_rest me (rd n PE s i) (length es) (length vs) m.lists some fits q (⊎_elim (λ z. inl z) (λ z. inr (omega arith)) o) ∙ h.rest q o)

  pub long_is : length l' ≡ length l
  long_is = rw turned_is (turned_long me (rd n PE s i) (length es) (length vs) m.lists some fits) ∙ h.long

  -- the new counts
  abbrev ne : ℕ
  ne = m.kept.elements - rd n PE s i + 1

  abbrev nc : ℕ
  nc = m.kept.end - rd n PE s i + 1

  abbrev a : List ℤ
  a = up n ELEN s₁ i ne

  abbrev b : List ℤ
  b = up n LEN a i nc

  count_is : nc ≡ suc c
  count_is = omega (arith, h.end)

  space_b : Space n (upd (without gone X) i list) l' b cnt base lim
  space_b =
      let e : rd n PE a i ≡ rd n PE s i = rd_up_field n ELEN PE s₁ i ne i refl ∙ pe in
      let f : rd n LEN a i ≡ rd n LEN s i = rd_up_field n ELEN LEN s₁ i ne i refl ∙ len in
      space_rewritten n (without gone X) l a cnt base lim (space_field n (without gone X) l s₁ cnt base lim h.freed.space ELEN i ne refl refl refl)
      i hi l' nc list (omega (arith, count_is, f)) long_is
      (λ q o. rest_is q (⊎_elim (λ z. inl (omega (arith, e))) (λ z. inr (omega (arith, e, f))) o))
      (rw (e, count_is) list_is)

  abbrev k : ℕ
  k = key_of n m.kept.sum

  -- THE memory of a row that stays
  pub row_stays : Space n (upd (without gone X) i list) l' (relisted n i (rd n PE s i) m.kept s₁) cnt base lim
  unfolding relisted sized keyed
  row_stays =
      let d = lowered n i m.kept.deg b in
      let y = upd (without gone X) i list in
      let e = space_field n y l' d cnt base lim (lowered_space n i m.kept.deg b y l' cnt base lim space_b) HNEXT i (rd n HHEAD d k) refl refl refl in
      let f = space_field n y l' (up n HNEXT d i (rd n HHEAD d k)) cnt base lim e HHEAD k i refl refl refl in
      space_field n y l' (up n HHEAD (up n HNEXT d i (rd n HHEAD d k)) k i) cnt base lim f HKEY i k refl refl refl

  abbrev d : List ℤ
  d = lowered n i m.kept.deg b

  abbrev e₁ : List ℤ
  e₁ = up n HNEXT d i (rd n HHEAD d k)

  abbrev e₂ : List ℤ
  e₂ = up n HHEAD e₁ k i

  abbrev e₃ : List ℤ
  e₃ = up n HKEY e₂ i k

  room : roomy n s₁ ≡ true
  room = room_yes n s₁ h.freed.space.room

  inside : ltb i n ≡ true
  inside = lt-ltb i n hi

  elen_is : rd n ELEN e₃ i ≡ ne
  elen_is = simp (mem, lowered_field, room, inside)

  key_is : rd n HKEY e₃ i ≡ k
  key_is = simp (mem, lowered_field, lowered_roomy, room, inside)

  old_head : (x : ℕ) → rd n HHEAD d x ≡ rd n HHEAD s x
  old_head x =
      lowered_field n i m.kept.deg b HHEAD x refl ∙ rd_up_field n LEN HHEAD a i nc x refl
      ∙ rd_up_field n ELEN HHEAD s₁ i ne x refl ∙ h.freed.fields HHEAD x refl refl refl

  next_is : rd n HNEXT e₃ i ≡ rd n HHEAD d k
  next_is = simp (mem, lowered_field, lowered_roomy, room, inside)

  head_is : k < n → rd n HHEAD e₃ k ≡ i
  head_is z = let u : ltb k n ≡ true = lt-ltb k n z in simp (mem, lowered_field, lowered_roomy, room, u)

  heads_are : (x : ℕ) → k ≢ x → rd n HHEAD e₃ x ≡ rd n HHEAD d x
  heads_are x z = simp mem

  degree_up : rd n DEGREE e₃ i ≡ rd n DEGREE d i
  degree_up = simp mem

  degree_old : rd n DEGREE b i ≡ rd n DEGREE s i
  degree_old =
      rd_up_field n LEN DEGREE a i nc i refl ∙ rd_up_field n ELEN DEGREE s₁ i ne i refl
      ∙ h.freed.fields DEGREE i refl refl refl

  room_b : roomy n b ≡ true
  room_b = simp (mem, room)

  degree_is : sizes n flag s es vs < 2 ^ 63 → rd n DEGREE e₃ i ≡ min (rd n DEGREE s i) (sizes n flag s es vs)
  degree_is z = degree_up ∙ lowered_here n i m.kept.deg b room_b inside ∙ rw (degree_old, h.deg z)

  mark_up : (x : ℕ) → rd n W e₃ x ≡ rd n W s₁ x
  mark_up x = simp (mem, lowered_field)

  len_up : (x : ℕ) → i ≢ x → rd n LEN e₃ x ≡ rd n LEN s₁ x
  len_up x z = simp (mem, lowered_field)

  link_up : (x : ℕ) → parent n e₃ x ≡ parent n s₁ x
  link_up x = simp (mem, lowered_kin)

  -- i is not taken up
  other : (x : ℕ) → member x gone ≡ true → i ≢ x
  other x u y = clash (member i gone) (ap (λ (z : ℕ). member z gone) y ∙ u) apart

  -- THE fields of a row that stays
  pub row_stayed : Stayed n me flag i k s gone es vs (relisted n i (rd n PE s i) m.kept s₁)
  unfolding relisted sized keyed
  row_stayed =
      record {
        elen = elen_is ∙ omega (arith, h.elements);
        degree = degree_is;
        key = key_is;
        next = next_is ∙ old_head k;
        head = head_is;
        heads = λ x z. heads_are x z ∙ old_head x;
        others = λ f x u z w.
            rd_up_cell n HKEY f e₂ i k x z ∙ rd_up_field n HHEAD f e₁ k i x u ∙ rd_up_cell n HNEXT f d i (rd n HHEAD d k) x z ∙ lowered_cell n i m.kept.deg b f x z
            ∙ rd_up_cell n LEN f a i nc x z ∙ rd_up_cell n ELEN f s₁ i ne x z ∙ h.freed.others f x w;
        fields = λ f x t0 t1 t5 t3 t4 t9 t10 t11.
            rd_up_field n HKEY f e₂ i k x t11 ∙ rd_up_field n HHEAD f e₁ k i x t9 ∙ rd_up_field n HNEXT f d i (rd n HHEAD d k) x t10 ∙ lowered_field n i m.kept.deg b f x t4
            ∙ rd_up_field n LEN f a i nc x t1 ∙ rd_up_field n ELEN f s₁ i ne x t3 ∙ h.freed.fields f x t0 t1 t5;
        apart = λ f x t0 t1 t5 t9 z.
            rd_up_cell n HKEY f e₂ i k x z ∙ rd_up_field n HHEAD f e₁ k i x t9 ∙ rd_up_cell n HNEXT f d i (rd n HHEAD d k) x z ∙ lowered_cell n i m.kept.deg b f x z
            ∙ rd_up_cell n LEN f a i nc x z ∙ rd_up_cell n ELEN f s₁ i ne x z ∙ h.freed.fields f x t0 t1 t5;
        marks = λ x w. mark_up x ∙ h.freed.others W x w;
        kin = λ x w.
            parent_up_field n HKEY e₂ i k x refl ∙ parent_up_field n HHEAD e₁ k i x refl ∙ parent_up_field n HNEXT d i (rd n HHEAD d k) x refl ∙ lowered_kin n i m.kept.deg b x
            ∙ parent_up_field n LEN a i nc x refl ∙ parent_up_field n ELEN s₁ i ne x refl ∙ h.freed.kin x w;
        taken = λ x u. (mark_up x ∙ h.freed.marks x u, len_up x (other x u) ∙ h.freed.lens x u, link_up x ∙ h.freed.links x u);
      }
