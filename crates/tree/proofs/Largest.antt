-- Nothing hangs anywhere at first; and one pass over the rows finds the last of the largest children of each element (P4).
-- Assumes nothing.
use Prim.Native.Nat.{ℕ, suc, ◌≤◌, ◌<◌}
use native.Mathlib.Omega.{arith}
use mathlib.Core.Path.{◌≡◌, refl, sym, ap, ◌∙◌}
use mathlib.Core.Logic.{◌≢◌, ◌⊎◌, inl, inr}
use mathlib.Core.Bool.{Bool, true, false, ◌&&◌, cond}
use mathlib.Core.List.{List, [], ◌∷◌, ◌++◌, foldl-append, append-nil}
use lib.Dec.{eqb, leb, ltb}
use lib.IntN.{ℤ}
use borrow.Author.Tests.{lt-ltb, le-ltb, le-leb, eqb-true, eqb-false, ltb-true, ltb-false}
use Rattle.plain.proofs.Logic.{cond_has, either}
use Rattle.plain.proofs.Turns.{times_keeps}
use Rattle.plain.specs.Lists.{keep, cons_if, count_up, up_to}
use Rattle.definition.specs.Tree.{biggest}
use Rattle.cells.proofs.Fields.{room_up, rd_null, rd_up_same, rd_up_column}
use Rattle.cells.proofs.Laws.{rd_up_cell, rd_up_field, parent_up_field}
use Rattle.cells.specs.Layout.{NV, ELEN, FIRST, LARGEST}
use Rattle.cells.specs.Links.{parent}
use Rattle.cells.specs.View.{rd, up, Room}
use Rattle.tree.specs.Model.{above, blank_one, blanked, as_large, measured_under, measured_one, measured}
use Rattle.plain.proofs.Parts.{keep_last}

-- ---- blank

pub record Blank (n : ℕ) (s : List ℤ) (k : ℕ) (m : List ℤ) : Type 0 where
  pub room : Room n m
  pub kept : (f i : ℕ) → eqb FIRST f ≡ false → eqb LARGEST f ≡ false → rd n f m i ≡ rd n f s i
  pub links : (i : ℕ) → parent n m i ≡ parent n s i
  pub no_root : rd n FIRST m n ≡ n
  pub no_child : (j : ℕ) → j < k → rd n FIRST m j ≡ n
  pub no_largest : (j : ℕ) → j < k → rd n LARGEST m j ≡ n

last_or : (k m : ℕ) → k < suc m → (k < m) ⊎ (k ≡ m)
last_or k m h = either ((k < m) ⊎ (k ≡ m)) (ltb k m) (λ t. inl (ltb-true k m t)) (λ t. let a = ltb-false k m t in inr (omega arith))

module _ (n : ℕ) (s : List ℤ) where
  module _ (k : ℕ) (m : List ℤ) (h : Blank n s k m) (less : k < n) where
    abbrev t : List ℤ
    t = up n FIRST m k n

    abbrev m' : List ℤ
    m' = up n LARGEST t k n

    room_t : Room n t
    room_t = room_up n FIRST m k n h.room

    child : (j : ℕ) → (j < k) ⊎ (j ≡ k) → rd n FIRST m' j ≡ n
    child j (inl l) = let ne : k ≢ j = λ e. omega arith in rd_up_field n LARGEST FIRST t k n j refl ∙ rd_up_cell n FIRST FIRST m k n j ne ∙ h.no_child j l
    child j (inr e) = rw e (rd_up_field n LARGEST FIRST t k n k refl ∙ rd_up_column n m k n h.room.room (omega arith))

    largest : (j : ℕ) → (j < k) ⊎ (j ≡ k) → rd n LARGEST m' j ≡ n
    largest j (inl l) = let ne : k ≢ j = λ e. omega arith in rd_up_cell n LARGEST LARGEST t k n j ne ∙ rd_up_field n FIRST LARGEST m k n j refl ∙ h.no_largest j l
    largest j (inr e) = rw e (rd_up_same n LARGEST t k n (omega arith) room_t less)

    blank_turn : Blank n s (suc k) (blank_one n k m)
    unfolding blank_one
    blank_turn = record {
      room = room_up n LARGEST t k n room_t;
      kept = λ f i x y. rd_up_field n LARGEST f t k n i y ∙ rd_up_field n FIRST f m k n i x ∙ h.kept f i x y;
      links = λ i. parent_up_field n LARGEST t k n i refl ∙ parent_up_field n FIRST m k n i refl ∙ h.links i;
      no_root = let ne : k ≢ n = λ e. omega arith in rd_up_field n LARGEST FIRST t k n n refl ∙ rd_up_cell n FIRST FIRST m k n n ne ∙ h.no_root;
      no_child = λ j l. child j (last_or j k l);
      no_largest = λ j l. largest j (last_or j k l);
    }

  pub blanked_all : Room n s → Blank n s n (blanked n s)
  unfolding blanked
  blanked_all room = times_keeps (Blank n s) (blank_one n) n (λ k m l h. blank_turn k m h l) n (up n FIRST s n n) (omega arith) (record {
    room = room_up n FIRST s n n room;
    kept = λ f i x y. rd_up_field n FIRST f s n n i x;
    links = λ i. parent_up_field n FIRST s n n i refl;
    no_root = rd_up_column n s n n room.room (omega arith);
    no_child = λ j l. absurd (omega arith);
    no_largest = λ j l. absurd (omega arith);
  })

-- ---- the largest

-- the last of the largest of a list, n of none
unfoldable pub last_big : ℕ → (ℕ → ℕ) → List ℕ → ℕ
last_big n size [] = n
last_big n size (x ∷ xs) = biggest size x xs

big_more : (n : ℕ) (size : ℕ → ℕ) (xs : List ℕ) (k : ℕ) → size n ≡ 0 → last_big n size (xs ++ (k ∷ [])) ≡ cond (leb (size (last_big n size xs)) (size k)) k (last_big n size xs)
unfolding last_big biggest
big_more n size [] k z = rw (z, le-leb 0 (size k) (omega arith))
big_more n size (x ∷ xs) k z = foldl-append (λ a e. cond (leb (size a) (size e)) e a) x xs (k ∷ [])

cond_same : (b : Bool) (x : ℕ) → cond b x x ≡ x
cond_same true x = refl
cond_same false x = refl

-- an element under e
unfoldable pub heavy_under : ℕ → List ℤ → ℕ → ℕ → Bool
heavy_under n s e j = ltb 0 (rd n NV s j) && eqb (above n s j) e

module _ (n : ℕ) (s : List ℤ) where
  abbrev pub size : ℕ → ℕ
  size j = rd n ELEN s j

  pub record Measuring (k : ℕ) (m : List ℤ) : Type 0 where
    pub room : Room n m
    pub kept : (f i : ℕ) → eqb LARGEST f ≡ false → rd n f m i ≡ rd n f s i
    pub links : (i : ℕ) → parent n m i ≡ parent n s i
    pub largest : (e : ℕ) → e < n → rd n LARGEST m e ≡ last_big n size (keep (heavy_under n s e) (up_to k))

  module _ (k : ℕ) (m : List ℤ) (h : Measuring k m) where
    above_m : above n m k ≡ above n s k
    unfolding above
    above_m = rw (h.links k)

    abbrev p : ℕ
    p = above n s k

    store_large : (e : ℕ) → e < n → rd n LARGEST (up n LARGEST m p k) e ≡ cond (eqb p e) k (rd n LARGEST m e)
    store_large e l = by_test (eqb p e) refl
      where
        by_test : (b : Bool) → eqb p e ≡ b → rd n LARGEST (up n LARGEST m p k) e ≡ cond b k (rd n LARGEST m e)
        by_test true x = let q : p ≡ e = eqb-true p e x in rw q (rd_up_same n LARGEST m e k (omega arith) h.room l)
        by_test false x = rd_up_cell n LARGEST LARGEST m p k e (eqb-false p e x)

    -- what stands at e, when the elements before k were e's or not
    after : (e : ℕ) → e < n → (b : Bool) → eqb p e ≡ b → (c : Bool) → leb (size (rd n LARGEST m p)) (size k) ≡ c → cond b (cond c k (rd n LARGEST m e)) (rd n LARGEST m e)
        ≡ last_big n size (keep (heavy_under n s e) (up_to k) ++ cons_if b k [])
    after e l true x c y =
        let q : p ≡ e = eqb-true p e x in
        ap (λ (z : Bool). cond z k (rd n LARGEST m e)) (sym y ∙ ap (λ (z : ℕ). leb (size z) (size k)) (ap (rd n LARGEST m) q ∙ h.largest e l)) ∙ ap (cond (leb (size (last_big n size (keep (heavy_under n s e) (up_to k)))) (size k)) k) (h.largest e l)
        ∙ sym (big_more n size (keep (heavy_under n s e) (up_to k)) k (rd_null n ELEN s n (omega arith) (omega arith)))
    after e l false x c y = h.largest e l ∙ ap (last_big n size) (sym (append-nil (keep (heavy_under n s e) (up_to k))))

    grows : (e : ℕ) → 0 < rd n NV s k → keep (heavy_under n s e) (up_to (suc k)) ≡ keep (heavy_under n s e) (up_to k) ++ cons_if (eqb p e) k []
    unfolding heavy_under
    grows e heavy = rw (keep_last (heavy_under n s e) k, lt-ltb 0 (rd n NV s k) heavy)

    stays : (e : ℕ) → rd n NV s k ≤ 0 → keep (heavy_under n s e) (up_to (suc k)) ≡ keep (heavy_under n s e) (up_to k)
    unfolding heavy_under
    stays e light = keep_last (heavy_under n s e) k ∙ rw (le-ltb 0 (rd n NV s k) light) (append-nil (keep (heavy_under n s e) (up_to k)))

    under_turn : (c : Bool) → leb (size (rd n LARGEST m p)) (size k) ≡ c → 0 < rd n NV s k → Measuring (suc k) (cond c (up n LARGEST m p k) m)
    under_turn true y heavy = record {
      room = room_up n LARGEST m p k h.room;
      kept = λ f i x. rd_up_field n LARGEST f m p k i x ∙ h.kept f i x;
      links = λ i. parent_up_field n LARGEST m p k i refl ∙ h.links i;
      largest = λ e l. store_large e l ∙ after e l (eqb p e) refl true y ∙ ap (last_big n size) (sym (grows e heavy));
    }
    under_turn false y heavy = record {
      room = h.room;
      kept = h.kept;
      links = h.links;
      largest = λ e l. sym (cond_same (eqb p e) (rd n LARGEST m e)) ∙ after e l (eqb p e) refl false y ∙ ap (last_big n size) (sym (grows e heavy));
    }

    light_turn : rd n NV s k ≤ 0 → Measuring (suc k) m
    light_turn light = record { room = h.room; kept = h.kept; links = h.links; largest = λ e l. h.largest e l ∙ ap (last_big n size) (sym (stays e light)) }

    heavy_turn : 0 < rd n NV s k → Measuring (suc k) (measured_under n (above n m k) k m)
    unfolding measured_under as_large
    heavy_turn heavy = rw (above_m, h.kept ELEN (rd n LARGEST m p) refl, h.kept ELEN k refl) (under_turn (leb (size (rd n LARGEST m p)) (size k)) refl heavy)

    measure_turn : Measuring (suc k) (measured_one n k m)
    unfolding measured_one
    measure_turn =
        cond_has (Measuring (suc k)) (ltb 0 (rd n NV m k)) (λ t. heavy_turn (omega (arith, h.kept NV k refl, ltb-true 0 (rd n NV m k) t)))
        (λ t. light_turn (omega (arith, h.kept NV k refl, ltb-false 0 (rd n NV m k) t)))

  -- P4
  pub measured_all : Room n s → ((e : ℕ) → e < n → rd n LARGEST s e ≡ n) → Measuring n (measured n s)
  unfolding measured keep count_up last_big
  measured_all room none_yet =
      times_keeps Measuring (measured_one n) n (λ k m l h. measure_turn k m h) n s (omega arith) (record { room = room; kept = λ f i x. refl; links = λ i. refl; largest = none_yet })
