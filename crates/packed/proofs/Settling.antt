-- A gather's end: the lists that were read are freed, there is room behind all others, and the new list is stored there.
-- Assumes nothing.
use Rattle.std.proofs.Common.{◌≡◌, ℕ, suc, ◌+◌, ◌<◌, ◌≤◌, false, eqb, ◌≢◌, List, length, ℤ, sym, refl, ap, ◌∙◌, subst, arith, lt-ltb}
use mathlib.Core.Option.{none}
use Rattle.plain.proofs.Entries.{entries_same}
use Rattle.plain.specs.Turns.{entries, upd}
use Rattle.cells.proofs.Laws.{mem, rd_up_field, room_yes}
use Rattle.cells.specs.Layout.{LEN, ORD, PE, TMP}
use Rattle.cells.specs.Links.{parent}
use Rattle.cells.specs.View.{Room, rd, up}
use Rattle.packed.specs.Gather.{Cleared}
use Rattle.packed.specs.Model.{entered, laid}
use Rattle.packed.specs.Places.{Owns, Space, places}
use Rattle.packed.proofs.Newcomer.{entered_mem, laid_there}

-- from s, where the objects of `gone` are dead, the lists Y are in the memory of c, with k places free from its end on
pub record Ready (n : ℕ) (Y : ℕ → List ℕ) (l s : List ℤ) (made k : ℕ) (c : Cleared) : Type 0 where
  pub top : ℕ
  pub space : Space n Y c.lists c.mem made c.ends.base top
  pub behind : top ≤ c.ends.end
  pub fits : c.ends.end + k ≤ length l
  pub long : length c.lists ≡ length l
  pub fields : (f i : ℕ) → eqb PE f ≡ false → rd n f c.mem i ≡ rd n f s i
  pub dead : (i : ℕ) → rd n LEN s i ≡ 0 → rd n PE c.mem i ≡ rd n PE s i
  pub parents : (i : ℕ) → rd n LEN s i ≡ 0 → parent n c.mem i ≡ parent n s i

-- from s, the list x is that of me, behind all others
pub record Settled (n : ℕ) (Y : ℕ → List ℕ) (l s : List ℤ) (made me start base : ℕ) (x : List ℕ) (l' s' : List ℤ) : Type 0 where
  pub space : Space n (upd Y me x) l' s' (suc made) base (start + length x)
  pub long : length l' ≡ length l
  -- nobody else stands there, or behind
  pub others : (i q : ℕ) → i ≢ me → Owns (places n s') i q → q < start
  pub wide : base ≤ start
  pub place : rd n PE s' me ≡ start
  pub own : parent n s' me ≡ none
  pub order : (t : ℕ) → t ≢ made → rd n ORD s' t ≡ rd n ORD s t
  pub last : rd n ORD s' made ≡ me
  pub fields : (f i : ℕ) → eqb PE f ≡ false → eqb LEN f ≡ false → eqb ORD f ≡ false → rd n f s' i ≡ rd n f s i
  pub dead : (i : ℕ) → i ≢ me → rd n LEN s' i ≡ 0 → rd n PE s' i ≡ rd n PE s i
  pub parents : (i : ℕ) → i ≢ me → rd n LEN s' i ≡ 0 → parent n s' i ≡ parent n s i

pub settled_there : (n : ℕ) (Y : ℕ → List ℕ) (l s : List ℤ) (made me : ℕ) (x : List ℕ) (c : Cleared) → me < n → made < n → ((t : ℕ) → t < made → rd n ORD s t ≢ me)
    → entries (rd n TMP s) 0 (length x) ≡ x → Ready n Y l s made (length x) c
    → Settled n Y l s made me c.ends.end c.ends.base x (laid n c.mem c.ends.end (length x) c.lists) (entered n c.mem made me c.ends.end (length x))
unfolding entered
settled_there n Y l s made me x c hm ht fresh tab h =
    let e = c.ends.end in
    let k = length x in
    let a : List ℤ = c.mem in
    let same : entries (rd n TMP a) 0 k ≡ x = entries_same (rd n TMP s) (rd n TMP a) 0 0 k (λ t b. h.fields TMP (0 + t) refl) ∙ tab in
    let r : Room n a = h.space.room in
    let g = entered_mem n Y c.lists a made c.ends.base h.top h.space me e k hm ht (λ t b y. fresh t b (sym (h.fields ORD t refl) ∙ y)) h.behind (omega (arith, h.long, h.fits)) in
    record {
      space = entered_as n (upd Y me (entries (rd n TMP a) 0 k)) (upd Y me x) _ _ _ _ _ (ap (upd Y me) same) g;
      long = (laid_there n a e c.lists k (λ z. omega (arith, h.long, h.fits))).long ∙ h.long;
      others = λ i q d o.
          let u : rd n PE (up n ORD (up n LEN (up n PE a me e) me k) made me) i ≡ rd n PE a i = simp mem in
          let v : rd n LEN (up n ORD (up n LEN (up n PE a me e) me k) made me) i ≡ rd n LEN a i = simp mem in
          omega (arith, h.space.lists.under i q (record { from = omega (arith, u, o.from); to = omega (arith, u, v, o.to) }), h.behind);
      wide = omega (arith, h.space.sorted.wide, h.behind);
      place = simp (mem, room_yes n a r, lt-ltb me n hm);
      own = simp mem;
      order = λ t d. let u : made ≢ t = λ y. d (sym y) in let v : rd n ORD (up n ORD (up n LEN (up n PE a me e) me k) made me) t ≡ rd n ORD a t = simp mem in v ∙ h.fields ORD t refl;
      last = simp (mem, room_yes n a r, lt-ltb made n ht);
      fields = λ f i p q o. rd_up_field n ORD f _ made me i o ∙ rd_up_field n LEN f _ me k i q ∙ rd_up_field n PE f a me e i p ∙ h.fields f i p;
      dead = λ i d z.
          let u : rd n LEN (up n ORD (up n LEN (up n PE a me e) me k) made me) i ≡ rd n LEN a i = simp mem in
          let v : rd n PE (up n ORD (up n LEN (up n PE a me e) me k) made me) i ≡ rd n PE a i = simp mem in
          v ∙ h.dead i (sym (h.fields LEN i refl) ∙ sym u ∙ z);
      parents = λ i d z.
          let u : rd n LEN (up n ORD (up n LEN (up n PE a me e) me k) made me) i ≡ rd n LEN a i = simp mem in
          let v : parent n (up n ORD (up n LEN (up n PE a me e) me k) made me) i ≡ parent n a i = simp mem in
          v ∙ h.parents i (sym (h.fields LEN i refl) ∙ sym u ∙ z);
    }
  where
    entered_as : (n : ℕ) (Z Z' : ℕ → List ℕ) (l s : List ℤ) (cnt base lim : ℕ) → Z ≡ Z' → Space n Z l s cnt base lim → Space n Z' l s cnt base lim
    entered_as n Z Z' l s cnt base lim e g = subst (λ (W : ℕ → List ℕ). Space n W l s cnt base lim) e g
