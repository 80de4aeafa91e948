-- A row put to the front of a list: `pushed_rep`, and what else the memory keeps.
-- Assumes nothing.
use Prim.Native.Nat.{ℕ, ◌<◌, ◌≤◌}
use native.Mathlib.Omega.{arith}
use mathlib.Core.Path.{◌≡◌, refl, sym, ap, ◌∙◌, subst⁻¹}
use mathlib.Core.Logic.{◌≢◌, ◌⊎◌, inl, inr}
use mathlib.Core.Bool.{false}
use mathlib.Core.List.{List, [], ◌∷◌}
use borrow.Author.Tests.{lt-ltb}
use lib.Dec.{eqb}
use lib.IntN.{ℤ}
use Rattle.plain.specs.Lists.{member}
use Rattle.plain.specs.Members.{Distinct}
use Rattle.plain.specs.Turns.{upd}
use Rattle.plain.proofs.Entries.{upd_same, upd_other}
use Rattle.plain.proofs.Members.{not_here, not_there}
use Rattle.cells.specs.Layout.{DEGREE, NEXT, LAST, HEAD}
use Rattle.cells.specs.View.{rd, Room}
use Rattle.cells.specs.Links.{parent}
use Rattle.cells.proofs.Fields.{room_up}
use Rattle.cells.proofs.Slices.{same?}
use Rattle.cells.proofs.Laws.{mem, room_yes}
use Rattle.chain.specs.Model.{headed, pushed}
use Rattle.chain.specs.Chained.{links, Node, Seg, Chained}
use Rattle.chain.proofs.Frame.{Same, all_but, seg_frame, fresh_degree}

-- ---- what the memory keeps

module _ (n : ℕ) (s : List ℤ) (d i : ℕ) where
  -- every field but these four
  pub pushed_other : (f j : ℕ) → eqb HEAD f ≡ false → eqb NEXT f ≡ false → eqb LAST f ≡ false → eqb DEGREE f ≡ false
      → rd n f (pushed n s d i) j ≡ rd n f s j
  unfolding pushed headed
  pushed_other f j a b c e = simp (mem, a, b, c, e)

  pub pushed_parent : (j : ℕ) → parent n (pushed n s d i) j ≡ parent n s j
  unfolding pushed headed
  pushed_parent j = simp mem

  pub pushed_room : Room n s → Room n (pushed n s d i)
  unfolding pushed headed
  pushed_room h = room_up n LAST _ _ i (room_up n HEAD _ d i (room_up n DEGREE _ i d (room_up n LAST _ i n (room_up n NEXT s i _ h))))

  pub head_other : (e : ℕ) → d ≢ e → rd n HEAD (pushed n s d i) e ≡ rd n HEAD s e
  unfolding pushed headed
  head_other e h = simp mem

  pub next_other : (j : ℕ) → i ≢ j → rd n NEXT (pushed n s d i) j ≡ rd n NEXT s j
  unfolding pushed headed
  next_other j h = simp mem

  -- the degrees of all rows but i
  pub pushed_degree_other : (j : ℕ) → i ≢ j → rd n DEGREE (pushed n s d i) j ≡ rd n DEGREE s j
  unfolding pushed headed
  pushed_degree_other j h = simp mem

  pub others : (j : ℕ) → j ≢ i → j ≢ rd n HEAD s d → Same (links n s) (links n (pushed n s d i)) j
  unfolding pushed headed
  others j u v = record { next = simp mem; back = simp mem; deg = simp mem }

module _ (n : ℕ) (s : List ℤ) (d i : ℕ) (room : Room n s) (hi : i < n) where
  -- i has the degree of its list
  pub pushed_degree : rd n DEGREE (pushed n s d i) i ≡ d
  unfolding pushed headed
  pushed_degree = simp (mem, room_yes n s room, lt-ltb i n hi)

  node : rd n HEAD s d ≢ i → Node n (links n (pushed n s d i)) d n i i
  unfolding pushed headed
  node new =
      record {
        here = refl;
        small = hi;
        back = simp (mem, room_yes n s room, lt-ltb i n hi);
        deg = simp (mem, room_yes n s room, lt-ltb i n hi);
      }

  next_same : rd n NEXT (pushed n s d i) i ≡ rd n HEAD s d
  unfolding pushed headed
  next_same = simp (mem, room_yes n s room, lt-ltb i n hi)

  back_front : (h : ℕ) → rd n HEAD s d ≡ h → h < n → i ≢ h → rd n LAST (pushed n s d i) h ≡ i
  unfolding pushed headed
  back_front h e hh hn = rw e (simp (mem, room_yes n s room, lt-ltb h n hh))

head_same : (n : ℕ) (s : List ℤ) (d i : ℕ) → Room n s → d < n → rd n HEAD (pushed n s d i) d ≡ i
unfolding pushed headed
head_same n s d i room hd = simp (mem, room_yes n s room, lt-ltb d n hd)

-- ---- the lists

module _ (n : ℕ) (s : List ℤ) (d i : ℕ) (room : Room n s) (hd : d < n) (hi : i < n) where
  -- the old list, behind i
  tail : (l : List ℕ) → Seg n (links n s) d n (rd n HEAD s d) l → member i l ≡ false → Distinct l
      → Seg n (links n (pushed n s d i)) d i (rd n HEAD s d) l
  tail [] q u v = q
  tail (k ∷ l) q u v =
      let h = q.0.here in
      let w = not_here i k l u in
      let o : (j : ℕ) → j ≢ i → j ≢ k → Same (links n s) (links n (pushed n s d i)) j = λ j a b. others n s d i j a (rw h b) in (
        record {
          here = h;
          small = q.0.small;
          back = back_front n s d i room hi k h q.0.small w;
          deg = pushed_degree_other n s d i k w ∙ q.0.deg;
        },
        rw (next_other n s d i k w)
            (seg_frame n (links n s) (links n (pushed n s d i)) d k (rd n NEXT s k) l (all_but _ i k l o (not_there i k l u) v.0) q.1),
      )

  module _ (L : ℕ → List ℕ) (h : Chained n s L) (fresh : (e : ℕ) → e < n → member i (L e) ≡ false) where
    -- the front of list d is none of list e
    front : (e : ℕ) → e ≢ d → (l : List ℕ) → Seg n (links n s) d n (rd n HEAD s d) l → (n ≤ rd n HEAD s d) ⊎ (rd n DEGREE s (rd n HEAD s d) ≢ e)
    front e q [] a = inl (omega (arith, a))
    front e q (k ∷ l) a = inr (λ b. q (sym b ∙ ap (rd n DEGREE s) a.0.here ∙ a.0.deg))

    -- and not i
    front_other : (l : List ℕ) → Seg n (links n s) d n (rd n HEAD s d) l → member i l ≡ false → rd n HEAD s d ≢ i
    front_other [] a u e = absurd (omega (arith, a))
    front_other (k ∷ l) a u e = not_here i k l u (sym e ∙ a.0.here)

    chain_at : (e : ℕ) → e < n → (e ≡ d) ⊎ (e ≢ d) → Seg n (links n (pushed n s d i)) e n (rd n HEAD (pushed n s d i) e) (upd L d (i ∷ L d) e)
    chain_at e he (inl q) =
        subst⁻¹ (λ (x : ℕ). Seg n (links n (pushed n s d i)) x n (rd n HEAD (pushed n s d i) x) (upd L d (i ∷ L d) x)) q
        (rw (upd_same L d (i ∷ L d), head_same n s d i room hd) (
          node n s d i room hi (front_other (L d) (h.chain d hd) (fresh d hd)),
          rw (next_same n s d i room hi) (tail (L d) (h.chain d hd) (fresh d hd) (h.distinct d hd)),
        ))
    chain_at e he (inr q) =
        rw (upd_other L d (i ∷ L d) e q, head_other n s d i e (λ a. q (sym a)))
        (seg_frame n (links n s) (links n (pushed n s d i)) e n (rd n HEAD s e) (L e)
        (all_but _ i (rd n HEAD s d) (L e) (others n s d i) (fresh e he)
        (fresh_degree n (links n s) e n (rd n HEAD s e) (L e) (rd n HEAD s d) (h.chain e he) (front e q (L d) (h.chain d hd))))
        (h.chain e he))

    distinct_at : (e : ℕ) → e < n → (e ≡ d) ⊎ (e ≢ d) → Distinct (upd L d (i ∷ L d) e)
    distinct_at e he (inl q) = rw (q, upd_same L d (i ∷ L d)) (fresh d hd, h.distinct d hd)
    distinct_at e he (inr q) = rw (upd_other L d (i ∷ L d) e q) (h.distinct e he)

    -- the memory after the code's steps holds the lists with i in front of list d
    pub pushed_rep : Chained n (pushed n s d i) (upd L d (i ∷ L d))
    pushed_rep = record { chain = λ e he. chain_at e he (same? e d); distinct = λ e he. distinct_at e he (same? e d) }
