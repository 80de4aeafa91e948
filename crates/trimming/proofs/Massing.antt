-- A row that keeps nothing: it is eliminated with the pivot, its weight goes there, and the log has it.
-- Assumes nothing.
use Rattle.std.proofs.Common.{◌≡◌, ℕ, ◌+◌, ◌^◌, ◌<◌, true, false, eqb, ltb, ◌≢◌, List, [], ℤ, refl, ap, ◌∙◌, inl, inr, ⊎_elim, arith, lt-ltb}
use Rattle.plain.proofs.Entries.{entries_none}
use Rattle.plain.proofs.Logic.{clash}
use Rattle.plain.specs.Lists.{member}
use Rattle.plain.specs.Turns.{upd}
use Rattle.cells.proofs.Laws.{mem, parent_hang_cell, parent_up_field, rd_hang_cell, rd_hang_field, rd_up_cell, rd_up_field, room_yes}
use Rattle.cells.proofs.Slices.{plus_sum}
use Rattle.cells.specs.Layout.{LEN, MERGES, NV, PE, W}
use Rattle.cells.specs.Links.{hang, named, parent}
use Rattle.cells.specs.View.{at, plus, rd, roomy, up}
use Rattle.packed.proofs.Spaces.{space_field, space_hung, space_rewritten}
use Rattle.packed.specs.Places.{Space}
use Rattle.trimming.specs.Model.{Keeping, buried, took_weight}
use Rattle.trimming.proofs.Freeing.{without}
use Rattle.trimming.proofs.Sifting.{Row}

-- s' is s, but that row i is a child of me, its weight is there, and it is the `made`-th of the log
pub record Massed (n me i made : ℕ) (s : List ℤ) (gone : List ℕ) (s' : List ℤ) : Type 0 where
  pub weight : rd n NV s me + rd n NV s i < 2 ^ 63 → rd n NV s' me ≡ rd n NV s me + rd n NV s i
  pub none : rd n NV s' i ≡ 0
  pub len : rd n LEN s' i ≡ 0
  pub link : parent n s' i ≡ named n me
  pub log : made < n → rd n MERGES s' made ≡ i
  pub before : (x : ℕ) → made ≢ x → rd n MERGES s' x ≡ rd n MERGES s x
  -- the rest: of the others, and in other fields
  pub weights : (x : ℕ) → me ≢ x → i ≢ x → rd n NV s' x ≡ rd n NV s x
  pub others : (f x : ℕ) → eqb 13 f ≡ false → eqb 14 f ≡ false → i ≢ x → member x gone ≡ false → rd n f s' x ≡ rd n f s x
  pub fields : (f x : ℕ) → eqb 0 f ≡ false → eqb 1 f ≡ false → eqb 5 f ≡ false → eqb 13 f ≡ false → eqb 14 f ≡ false → rd n f s' x ≡ rd n f s x
  pub marks : (x : ℕ) → member x gone ≡ false → rd n W s' x ≡ rd n W s x
  pub kin : (x : ℕ) → i ≢ x → member x gone ≡ false → parent n s' x ≡ parent n s x
  -- the elements that were taken up
  pub taken : (x : ℕ) → member x gone ≡ true → (rd n W s' x ≡ 0) × (rd n LEN s' x ≡ 0) × (parent n s' x ≡ named n me)

module _ (n me flag : ℕ) (X : ℕ → List ℕ) (l s : List ℤ) (cnt base lim i : ℕ) (gone es vs : List ℕ) (m : Keeping) (h : Row n me flag X l s cnt base lim i gone es vs m)
    (hi : i < n) (hm : me < n) (differ : me ≢ i) (apart : member i gone ≡ false) (made : ℕ) where
  abbrev s₁ : List ℤ
  s₁ = m.mem

  abbrev a : List ℤ
  a = up n NV s₁ me (plus (rd n NV s₁ me) (rd n NV s₁ i))

  abbrev b : List ℤ
  b = up n NV a i 0

  abbrev c : List ℤ
  c = up n LEN b i 0

  abbrev d : List ℤ
  d = hang n c i (named n me)

  abbrev e : List ℤ
  e = up n MERGES d made i

  room : roomy n s₁ ≡ true
  room = room_yes n s₁ h.freed.space.room

  inside : ltb i n ≡ true
  inside = lt-ltb i n hi

  inside_me : ltb me n ≡ true
  inside_me = lt-ltb me n hm

  pe : rd n PE b i ≡ rd n PE s i
  pe = rd_up_field n NV PE a i 0 i refl ∙ rd_up_field n NV PE s₁ me (plus (rd n NV s₁ me) (rd n NV s₁ i)) i refl ∙ h.freed.others PE i apart

  len_b : rd n LEN b i ≡ rd n LEN s i
  len_b = rd_up_field n NV LEN a i 0 i refl ∙ rd_up_field n NV LEN s₁ me (plus (rd n NV s₁ me) (rd n NV s₁ i)) i refl ∙ h.freed.others LEN i apart

  dead : rd n LEN c i ≡ 0
  dead = simp (mem, room, inside)

  space_b : Space n (without gone X) l b cnt base lim
  space_b =
      space_field n (without gone X) l a cnt base lim
      (space_field n (without gone X) l s₁ cnt base lim h.freed.space NV me (plus (rd n NV s₁ me) (rd n NV s₁ i)) refl refl refl) NV i 0 refl refl refl

  -- THE memory of a row that goes
  pub row_goes : Space n (upd (without gone X) i []) m.lists (buried n me i made (took_weight n me i s₁)) cnt base lim
  unfolding buried took_weight
  row_goes =
      let y = upd (without gone X) i [] in
      space_field n y m.lists d cnt base lim
      (space_hung n y m.lists c cnt base lim
      (space_rewritten n (without gone X) l b cnt base lim space_b i hi m.lists 0 [] (omega arith) h.long
      (λ q o. h.rest q (⊎_elim (λ z. inl (omega (arith, pe))) (λ z. inr (omega (arith, pe, len_b))) o)) (entries_none (at m.lists) (rd n PE b i)))
      i dead (named n me))
      MERGES made i refl refl refl

  nv : (x : ℕ) → rd n NV s₁ x ≡ rd n NV s x
  nv x = h.freed.fields NV x refl refl refl

  weight_me : rd n NV e me ≡ plus (rd n NV s₁ me) (rd n NV s₁ i)
  weight_me = simp (mem, room, inside_me)

  weight_i : rd n NV e i ≡ 0
  weight_i = simp (mem, room, inside)

  len_i : rd n LEN e i ≡ 0
  len_i = simp (mem, room, inside)

  link_i : parent n e i ≡ named n me
  link_i = simp (mem, room, inside)

  log_made : made < n → rd n MERGES e made ≡ i
  log_made z = let u : ltb made n ≡ true = lt-ltb made n z in simp (mem, room, u)

  log_others : (x : ℕ) → made ≢ x → rd n MERGES e x ≡ rd n MERGES s₁ x
  log_others x z = simp mem

  weight_others : (x : ℕ) → me ≢ x → i ≢ x → rd n NV e x ≡ rd n NV s₁ x
  weight_others x y z = simp mem

  mark_up : (x : ℕ) → rd n W e x ≡ rd n W s₁ x
  mark_up x = simp mem

  len_up : (x : ℕ) → i ≢ x → rd n LEN e x ≡ rd n LEN s₁ x
  len_up x z = simp mem

  link_up : (x : ℕ) → i ≢ x → parent n e x ≡ parent n s₁ x
  link_up x z = simp mem

  -- i is not taken up
  other : (x : ℕ) → member x gone ≡ true → i ≢ x
  other x u y = clash (member i gone) (ap (λ (z : ℕ). member z gone) y ∙ u) apart

  -- THE fields of a row that goes
  pub row_gone : Massed n me i made s gone (buried n me i made (took_weight n me i s₁))
  unfolding buried took_weight
  row_gone =
      let w = plus (rd n NV s₁ me) (rd n NV s₁ i) in
      record {
        weight = λ z. weight_me ∙ rw (nv me, nv i) (plus_sum (rd n NV s me) (rd n NV s i) z);
        none = weight_i;
        len = len_i;
        link = link_i;
        log = log_made;
        before = λ x z. log_others x z ∙ h.freed.fields MERGES x refl refl refl;
        weights = λ x y z. weight_others x y z ∙ nv x;
        others = λ f x u v z y.
            rd_up_field n MERGES f d made i x u ∙ rd_hang_cell n f c i (named n me) x z ∙ rd_up_cell n LEN f b i 0 x z ∙ rd_up_field n NV f a i 0 x v
            ∙ rd_up_field n NV f s₁ me w x v ∙ h.freed.others f x y;
        fields = λ f x t0 t1 t5 t13 t14.
            rd_up_field n MERGES f d made i x t13 ∙ rd_hang_field n f c i (named n me) x t0 ∙ rd_up_field n LEN f b i 0 x t1 ∙ rd_up_field n NV f a i 0 x t14
            ∙ rd_up_field n NV f s₁ me w x t14 ∙ h.freed.fields f x t0 t1 t5;
        marks = λ x w. mark_up x ∙ h.freed.others W x w;
        kin = λ x z y.
            parent_up_field n MERGES d made i x refl ∙ parent_hang_cell n c i (named n me) x z ∙ parent_up_field n LEN b i 0 x refl ∙ parent_up_field n NV a i 0 x refl
            ∙ parent_up_field n NV s₁ me w x refl ∙ h.freed.kin x y;
        taken = λ x u. (mark_up x ∙ h.freed.marks x u, len_up x (other x u) ∙ h.freed.lens x u, link_up x (other x u) ∙ h.freed.links x u);
      }
