-- The whole space when one object is changed: what the steps of an elimination cite.
-- Assumes nothing.
use Rattle.std.proofs.Common.{◌≡◌, ℕ, ◌+◌, ◌<◌, ◌≤◌, false, eqb, ◌≢◌, ◌⊎◌, List, [], length, set, ℤ, sym, refl, ap, ◌∙◌, inl, inr, ⊎_elim, arith, lt-ltb}
use mathlib.Core.Option.{Option}
use Rattle.plain.proofs.Entries.{entries_none}
use Rattle.plain.specs.Turns.{entries, upd}
use Rattle.cells.proofs.Fields.{room_up}
use Rattle.cells.proofs.Laws.{mem, rd_hang_cell, rd_hang_field, rd_up_field, room_yes}
use Rattle.cells.proofs.Parents.{room_hang}
use Rattle.cells.proofs.Slices.{same?, split}
use Rattle.cells.specs.Layout.{LEN, ORD, PE, W}
use Rattle.cells.specs.Links.{hang, named}
use Rattle.cells.specs.View.{Room, at, rd, up, wr}
use Rattle.packed.specs.Tray.{absorbed}
use Rattle.packed.specs.Places.{Mem, Owns, Space, places}
use Rattle.packed.proofs.Frame.{ends, mem_by, other_field}
use Rattle.packed.proofs.Objects.{Off, lowered, renamed, rewritten, stored}
use Rattle.packed.proofs.Orders.{sorted_by, sorted_fewer}

-- lists by rising number and place, and no table yet
pub space_start : (n : ℕ) (X : ℕ → List ℕ) (l s : List ℤ) (lim : ℕ) → Mem l (places n s) lim X → Room n s
    → ((i j : ℕ) → i < j → 0 < rd n LEN s i → 0 < rd n LEN s j → rd n PE s i + rd n LEN s i ≤ rd n PE s j) → Space n X l s 0 lim lim
space_start n X l s lim h room o =
    record {
      lists = h;
      room = room;
      sorted = record {
        low = λ i j a x y u v. o i j a x y;
        edge = λ i x u. ends l (places n s) lim X h i x;
        over = λ t a x. absurd (omega arith);
        high = λ t u a b x y. absurd (omega arith);
        all = λ i x. inl (omega (arith, ends l (places n s) lim X h i x));
        wide = omega arith;
      };
    }

-- every object dead
pub space_none : (n : ℕ) (l s : List ℤ) → Room n s → ((i : ℕ) → rd n LEN s i ≡ 0) → Space n (λ i. []) l s 0 0 0
space_none n l s room z =
    space_start n (λ i. []) l s 0
    record {
      lists = λ j. rw (z j) (entries_none (at l) (rd n PE s j));
      one = λ i j q a b. absurd (omega (arith, a.from, a.to, z i));
      under = λ j q a. absurd (omega (arith, a.from, a.to, z j));
      fits = omega arith;
    }
    room
    (λ i j a x y. absurd (omega (arith, z i)))

module _ (n : ℕ) (X : ℕ → List ℕ) (l s : List ℤ) (cnt base lim : ℕ) (h : Space n X l s cnt base lim) where
  -- a store in a field that is none of the three
  pub space_field : (c i v : ℕ) → eqb c PE ≡ false → eqb c LEN ≡ false → eqb c ORD ≡ false → Space n X l (up n c s i v) cnt base lim
  space_field c i v p q r =
      record {
        lists = other_field n c s i v p q l lim X h.lists;
        room = room_up n c s i v h.room;
        sorted = sorted_by (places n (up n c s i v)) (rd n ORD s) (rd n ORD (up n c s i v)) (λ t. rd_up_field n c ORD s i v t r) cnt base lim
            (sorted_fewer (places n s) (places n (up n c s i v))
            (λ j x. (rd_up_field n c PE s i v j p, omega (arith, rd_up_field n c LEN s i v j q))) (rd n ORD s) cnt base lim lim (omega arith) h.sorted);
      }

  module _ (j : ℕ) where
    -- entry t of j's list becomes v
    pub space_stored : (t v : ℕ) → t < length (X j) → Space n (upd X j (set (X j) t v)) (wr l (rd n PE s j + t) v) s cnt base lim
    space_stored t v a =
        record { lists = stored l (places n s) lim X h.lists j t v a; room = h.room; sorted = h.sorted }

    fewer : j < n → (k : ℕ) → k ≤ rd n LEN s j → (i : ℕ) → (i ≡ j) ⊎ (i ≢ j) → rd n LEN (up n LEN s j k) i ≤ rd n LEN s i
    fewer hj k a i (inl y) =
        let z : rd n LEN (up n LEN s j k) j ≡ k = simp (mem, room_yes n s h.room, lt-ltb j n hj) in
        omega (arith, ap (rd n LEN (up n LEN s j k)) y, ap (rd n LEN s) y)
    fewer hj k a i (inr y) =
        let u : j ≢ i = λ w. y (sym w) in
        let z : rd n LEN (up n LEN s j k) i ≡ rd n LEN s i = simp mem in
        omega arith

    -- j's list becomes x, the first k numbers at its place
    pub space_rewritten : j < n → (m : List ℤ) (k : ℕ) (x : List ℕ) → k ≤ rd n LEN s j → length m ≡ length l
        → ((q : ℕ) → Off (places n s) j q → at m q ≡ at l q) → entries (at m) (rd n PE s j) k ≡ x → Space n (upd X j x) m (up n LEN s j k) cnt base lim
    space_rewritten hj m k x a b o e =
        record {
          lists = rewritten n s l lim X h.lists h.room j hj m k x a b o e;
          room = room_up n LEN s j k h.room;
          sorted = sorted_by (places n (up n LEN s j k)) (rd n ORD s) (rd n ORD (up n LEN s j k)) (λ t. simp mem) cnt base lim
              (sorted_fewer (places n s) (places n (up n LEN s j k)) (λ i y. (simp mem, fewer hj k a i (same? i j))) (rd n ORD s) cnt base lim lim (omega arith) h.sorted);
        }

    -- j is dead
    pub space_dropped : j < n → Space n (upd X j []) l (up n LEN s j 0) cnt base lim
    space_dropped hj = space_rewritten hj l 0 [] (omega arith) refl (λ q a. refl) (entries_none (at l) (rd n PE s j))

  -- the same lists by another name
  pub space_renamed : (Y : ℕ → List ℕ) → ((i : ℕ) → X i ≡ Y i) → Space n Y l s cnt base lim
  space_renamed Y e = record { lists = renamed l (places n s) lim X h.lists Y e; room = h.room; sorted = h.sorted }

  -- a scratch with the same places and the same table
  pub space_same : (s' : List ℤ) → Room n s' → ((i : ℕ) → rd n PE s' i ≡ rd n PE s i) → ((i : ℕ) → rd n LEN s' i ≡ rd n LEN s i) → ((t : ℕ) → rd n ORD s' t ≡ rd n ORD s t)
      → Space n X l s' cnt base lim
  space_same s' room p q r =
      record {
        lists = mem_by l (places n s) lim X h.lists (places n s') (λ i. record { pe = p i; len = q i });
        room = room;
        sorted = sorted_by (places n s') (rd n ORD s) (rd n ORD s') r cnt base lim
            (sorted_fewer (places n s) (places n s') (λ i x. (p i, omega (arith, q i))) (rd n ORD s) cnt base lim lim (omega arith) h.sorted);
      }

  -- another limit
  pub space_lowered : (e : ℕ) → base ≤ e → e ≤ length l → ((i q : ℕ) → Owns (places n s) i q → q < e) → Space n X l s cnt base e
  space_lowered e a b c =
      let g = h.sorted in
      record {
        lists = lowered l (places n s) lim X h.lists e b c;
        room = h.room;
        sorted = record { low = g.low; edge = g.edge; over = g.over; high = g.high; all = g.all; wide = a };
      }

  -- the last list ends at the limit
  pub space_trimmed : (j : ℕ) → base ≤ rd n PE s j → rd n PE s j ≤ lim → ((i q : ℕ) → i ≢ j → Owns (places n s) i q → q < rd n PE s j)
      → Space n X l s cnt base (rd n PE s j + rd n LEN s j)
  space_trimmed j a b c =
      space_lowered (rd n PE s j + rd n LEN s j) (omega arith)
      (⊎_elim (λ z. omega (arith, ends l (places n s) lim X h.lists j z, h.lists.fits)) (λ z. omega (arith, h.lists.fits)) (split 0 (rd n LEN s j)))
      (λ i q o. below i q o (same? i j))
    where
      below : (i q : ℕ) → Owns (places n s) i q → (i ≡ j) ⊎ (i ≢ j) → q < rd n PE s j + rd n LEN s j
      below i q o (inl e) = omega (arith, o.to, ap (rd n PE s) e, ap (rd n LEN s) e)
      below i q o (inr d) = omega (arith, c i q d o)

-- objects die, and places of dead ones are overwritten: what lives stands where it stood
module _ (n : ℕ) (X Y : ℕ → List ℕ) (l s s' : List ℤ) (cnt base lim : ℕ) (h : Space n X l s cnt base lim) (room : Room n s')
    (stays : (i : ℕ) → 0 < rd n LEN s' i → (rd n PE s' i ≡ rd n PE s i) × (rd n LEN s' i ≡ rd n LEN s i)) (order : (t : ℕ) → rd n ORD s' t ≡ rd n ORD s t)
    (lives : (i : ℕ) → 0 < rd n LEN s' i → Y i ≡ X i) (dies : (i : ℕ) → rd n LEN s' i ≡ 0 → Y i ≡ []) where
  was : (i q : ℕ) → Owns (places n s') i q → Owns (places n s) i q
  was i q o =
      let z = stays i (omega (arith, o.from, o.to)) in
      record { from = omega (arith, z.0, o.from); to = omega (arith, z.0, z.1, o.to) }

  list : (i : ℕ) → (0 < rd n LEN s' i) ⊎ (rd n LEN s' i ≤ 0) → entries (at l) (rd n PE s' i) (rd n LEN s' i) ≡ Y i
  list i (inl b) = rw ((stays i b).0, (stays i b).1, lives i b) (h.lists.lists i)
  list i (inr b) = let z : rd n LEN s' i ≡ 0 = omega arith in rw (z, dies i z) (entries_none (at l) (rd n PE s' i))

  pub space_left : Space n Y l s' cnt base lim
  space_left =
      record {
        lists = record {
          lists = λ i. list i (split 0 (rd n LEN s' i));
          one = λ i j q a b. h.lists.one i j q (was i q a) (was j q b);
          under = λ i q a. h.lists.under i q (was i q a);
          fits = h.lists.fits;
        };
        room = room;
        sorted = sorted_by (places n s') (rd n ORD s) (rd n ORD s') order cnt base lim
            (sorted_fewer (places n s) (places n s') (λ i x. let z = stays i x in (z.0, omega (arith, z.1))) (rd n ORD s) cnt base lim lim (omega arith) h.sorted);
      }

-- a parent link of an object that is dead
pub space_hung : (n : ℕ) (X : ℕ → List ℕ) (l s : List ℤ) (cnt base lim : ℕ) → Space n X l s cnt base lim → (e : ℕ) → rd n LEN s e ≡ 0 → (x : Option ℕ)
    → Space n X l (hang n s e x) cnt base lim
space_hung n X l s cnt base lim h e dead x =
    space_left n X X l s (hang n s e x) cnt base lim h (room_hang n s e x h.room)
    (λ i b. (rd_hang_cell n PE s e x i (λ y. absurd (omega (arith, len i, ap (rd n LEN s) y))), len i))
    (λ t. rd_hang_field n ORD s e x t refl) (λ i b. refl)
    (λ i z. sym (h.lists.lists i) ∙ ap (entries (at l) (rd n PE s i)) (sym (len i) ∙ z) ∙ entries_none (at l) (rd n PE s i))
  where
    len : (i : ℕ) → rd n LEN (hang n s e x) i ≡ rd n LEN s i
    len i = rd_hang_field n LEN s e x i refl

-- an element that is taken up
pub space_absorbed : (n : ℕ) (X : ℕ → List ℕ) (l s : List ℤ) (cnt base lim : ℕ) → Space n X l s cnt base lim → (me e : ℕ) → e < n
    → Space n (upd X e []) l (absorbed n me e s) cnt base lim
unfolding absorbed
space_absorbed n X l s cnt base lim h me e b =
    let a = space_field n X l s cnt base lim h W e 0 refl refl refl in
    space_hung n (upd X e []) l (up n LEN (up n W s e 0) e 0) cnt base lim (space_dropped n X l (up n W s e 0) cnt base lim a e b) e
    (simp (mem, room_yes n s h.room, lt-ltb e n b)) (named n me)
