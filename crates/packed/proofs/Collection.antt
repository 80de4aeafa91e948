-- The whole collection: the same lists, packed from 0 without a gap, in the same order.
-- Assumes nothing.
use Rattle.std.proofs.Common.{◌≡◌, ℕ, ◌+◌, ◌^◌, ◌<◌, ◌≤◌, false, eqb, ◌⊎◌, List, length, ℤ, sym, refl, ap, ◌∙◌, inl, inr, ⊎_elim, zero-add, arith}
use Rattle.cells.proofs.Slices.{split}
use Rattle.cells.specs.Layout.{LEN, ORD, PE}
use Rattle.cells.specs.Links.{parent}
use Rattle.cells.specs.View.{rd}
use Rattle.packed.specs.Model.{Heap, heap, moved_low, moved_new, moved_next, moved_one, packed_all, packed_low}
use Rattle.packed.specs.Places.{Owns, Places, Sorted, Space, Waits, due, places, share, sum_to}
use Rattle.packed.proofs.Frame.{ends, len_of}
use Rattle.packed.proofs.Objects.{lowered}
use Rattle.packed.proofs.Orders.{sorted_by}
use Rattle.packed.proofs.Packing.{Stage, live_below, walked}
use Rattle.packed.proofs.Sums.{sum_apart, sum_none, sum_same, sum_zero}
use Rattle.packed.proofs.Waiting.{due_high, due_low, due_some, share_dead, share_in, share_out}

-- from the spaces l and s, m holds the lists X, packed, the first group up to b. What is dead keeps its place, and every other field is as it was.
pub record Collected (n : ℕ) (X : ℕ → List ℕ) (l s : List ℤ) (base lim cnt b : ℕ) (m : Heap) : Type 0 where
  pub space : Space n X m.lists m.mem cnt b m.end
  pub total : m.end ≡ sum_to n (λ j. length (X j))
  pub long : length m.lists ≡ length l
  pub fields : (c i : ℕ) → eqb PE c ≡ false → rd n c m.mem i ≡ rd n c s i
  pub dead : (i : ℕ) → rd n LEN s i ≡ 0 → rd n PE m.mem i ≡ rd n PE s i
  pub parents : (i : ℕ) → rd n LEN s i ≡ 0 → parent n m.mem i ≡ parent n s i
  pub before : m.end ≤ lim
  -- without a gap: each list begins where those before it end
  pub first : (i : ℕ) → 0 < rd n LEN s i → rd n PE s i < base → rd n PE m.mem i ≡ sum_to i (due (places n s) base)
  pub edge : b ≡ sum_to n (due (places n s) base)
  pub second : (t : ℕ) → t < cnt → 0 < rd n LEN s (rd n ORD s t) → rd n PE m.mem (rd n ORD s t) ≡ b + sum_to t (λ u. rd n LEN s (rd n ORD s u))

-- what is due has a length
due_len : (f : Places) (top j : ℕ) → 0 < due f top j → due f top j ≡ f.len j
due_len f top j h = due_low f top j (due_some f top j h)

module _ (n : ℕ) (X : ℕ → List ℕ) (lim : ℕ) (small : lim < 2 ^ 63) (l s : List ℤ) (base cnt : ℕ) (space : Space n X l s cnt base lim) where
  srt : Sorted (places n s) (rd n ORD s) cnt base lim
  srt = space.sorted

  abbrev D₁ : ℕ → ℕ
  D₁ = due (places n s) base

  abbrev One : ℕ → Heap → Type 0
  One = Stage n X lim (λ t. t) n D₁ base 0 (length l) s

  live₁ : (t : ℕ) → 0 < D₁ t → (D₁ t ≡ rd n LEN s t) × (rd n PE s t < base)
  live₁ t a = (due_len (places n s) base t a, due_some (places n s) base t a)

  start₁ : One 0 (heap l s 0)
  start₁ =
      record {
        lists = space.lists;
        room = space.room;
        long = refl;
        queue = record {
          now = λ u a b. refl;
          order = λ t u a b c p q.
              let x = live₁ t p in
              let y = live₁ u q in
              omega (arith, x.0, srt.low t u b (omega (arith, x.0)) (omega (arith, y.0)) x.1 y.1);
          from = λ u a b p. omega arith;
          to = λ u a b p. let x = live₁ u p in omega (arith, x.0, srt.edge u (omega (arith, x.0)) x.1);
          each = λ i q o. inr (⊎_elim (λ a. inl (record { turn = i; late = omega arith; soon = live_below n s i (omega (arith, o.from, o.to)); is = refl })) (λ a. inr a) (split (rd n PE s i) base));
          low = omega arith;
          sum = omega (arith, sum_none D₁);
          placed = λ t a b p. absurd (omega arith);
        };
        total = sym (sum_zero n (share (places n s) 0)
            (λ i a. ⊎_elim (λ x. share_out (places n s) 0 i x) (λ x. share_dead (places n s) 0 i (omega arith)) (split 0 (rd n PE s i + rd n LEN s i))));
        fields = λ c i t. refl;
        far = λ i t. refl;
        links = λ i t. refl;
      }

  end₁ : One n (packed_low n base l s)
  unfolding packed_low moved_low
  end₁ = walked n X lim small (λ t. t) n D₁ base 0 (length l) s (moved_one n base) (λ t m a. refl) (heap l s 0) start₁ n (omega arith)

  module _ (l₁ s₁ : List ℤ) (b : ℕ) (g : One n (heap l₁ s₁ b)) where
    abbrev D₂ : ℕ → ℕ
    D₂ t = due (places n s₁) lim (rd n ORD s t)

    abbrev Two : ℕ → Heap → Type 0
    Two = Stage n X lim (rd n ORD s) cnt D₂ lim b (length l) s₁

    -- the first group: where it is now
    pub first : (i : ℕ) → 0 < rd n LEN s i → rd n PE s i < base → (rd n PE s₁ i ≡ sum_to i D₁) × (sum_to i D₁ + rd n LEN s i ≤ b) × (D₁ i ≡ rd n LEN s i)
    first i a c =
        let d : D₁ i ≡ rd n LEN s i = due_low (places n s) base i c in
        let k = live_below n s i a in
        let p = g.queue.placed i k k (omega arith) in
        (omega (arith, p.0), omega (arith, p.0, p.1), d)

    -- what begins at base or later has not been moved
    pub second : (i : ℕ) → base ≤ rd n PE s i → rd n PE s₁ i ≡ rd n PE s i
    second i a = g.far i (λ t c p e. omega (arith, (live₁ t p).1, ap (rd n PE s) e))

    same : (i : ℕ) → rd n LEN s₁ i ≡ rd n LEN s i
    same i = g.fields LEN i refl

    -- an object of the table
    pub live₂ : (t : ℕ) → t < cnt → 0 < D₂ t → (D₂ t ≡ rd n LEN s (rd n ORD s t)) × (base ≤ rd n PE s (rd n ORD s t)) × (rd n PE s₁ (rd n ORD s t) ≡ rd n PE s (rd n ORD s t))
    live₂ t a p =
        let x : D₂ t ≡ rd n LEN s (rd n ORD s t) = due_len (places n s₁) lim (rd n ORD s t) p ∙ same (rd n ORD s t) in
        let y : base ≤ rd n PE s (rd n ORD s t) = srt.over t a (omega arith) in
        (x, y, second (rd n ORD s t) y)

    each₂ : (i q : ℕ) → Owns (places n s₁) i q → (rd n PE s₁ i + rd n LEN s₁ i ≤ b) ⊎ (Waits (rd n ORD s) cnt 0 i ⊎ (lim ≤ rd n PE s₁ i))
    each₂ i q o =
        let z : 0 < rd n LEN s i = omega (arith, o.from, o.to, same i) in
        ⊎_elim (λ a. let f = first i z a in inl (omega (arith, f.0, f.1, same i))) (λ w. inr (inl w)) (srt.all i z)

    start₂ : Two 0 (heap l₁ s₁ b)
    start₂ =
        record {
          lists = g.lists;
          room = g.room;
          long = g.long;
          queue = record {
            now = λ u a c. refl;
            order = λ t u a c d p q.
                let x = live₂ t (omega arith) p in
                let y = live₂ u d q in
                omega (arith, x.0, x.2, y.2, srt.high t u c d (omega (arith, x.0)) (omega (arith, y.0)));
            from = λ u a c p. let x = live₂ u c p in omega (arith, x.1, x.2, g.queue.low);
            to = λ u a c p. let x = live₂ u c p in omega (arith, x.0, same (rd n ORD s u), ends l₁ (places n s₁) lim X g.lists (rd n ORD s u) (omega (arith, x.0, same (rd n ORD s u))));
            each = each₂;
            low = omega (arith, g.queue.low, srt.wide);
            sum = omega (arith, sum_none D₂);
            placed = λ t a c p. absurd (omega arith);
          };
          total = g.total;
          fields = λ c i t. refl;
          far = λ i t. refl;
          links = λ i t. refl;
        }

    turn₂ : (t : ℕ) (m : Heap) → Two t m → moved_next n lim t m ≡ moved_one n lim (rd n ORD s t) m
    unfolding moved_next
    turn₂ t m a = ap (λ (j : ℕ). moved_one n lim j m) (a.fields ORD t refl ∙ g.fields ORD t refl)

    end₂ : Two cnt (moved_new n lim cnt (heap l₁ s₁ b))
    unfolding moved_new
    end₂ = walked n X lim small (rd n ORD s) cnt D₂ lim b (length l) s₁ (moved_next n lim) turn₂ (heap l₁ s₁ b) start₂ cnt (omega arith)

    module _ (m : Heap) (r : Two cnt m) where
      len₂ : (i : ℕ) → rd n LEN m.mem i ≡ rd n LEN s i
      len₂ i = r.fields LEN i refl ∙ same i

      -- every list ends at the end or before
      inside : (i : ℕ) → 0 < rd n LEN m.mem i → rd n PE m.mem i + rd n LEN m.mem i ≤ m.end
      inside i a =
          let o : Owns (places n m.mem) i (rd n PE m.mem i) = record { from = omega arith; to = omega arith } in
          ⊎_elim (λ x. x)
          (λ x. ⊎_elim (λ w. absurd (omega (arith, w.late, w.soon))) (λ y. absurd (omega (arith, r.lists.under i (rd n PE m.mem i) o))) x)
          (r.queue.each i (rd n PE m.mem i) o)

      share₂ : (i : ℕ) → (0 < rd n LEN m.mem i) ⊎ (rd n LEN m.mem i ≤ 0) → share (places n m.mem) m.end i ≡ rd n LEN m.mem i
      share₂ i (inl a) = share_in (places n m.mem) m.end i (inside i a)
      share₂ i (inr a) =
          let z : rd n LEN m.mem i ≡ 0 = omega arith in
          share_dead (places n m.mem) m.end i z ∙ sym z

      -- the first group stands as after the first loop
      group₁ : (i : ℕ) → 0 < rd n LEN s i → rd n PE s i < base → rd n PE m.mem i ≡ sum_to i D₁
      group₁ i a c = r.far i (λ t d p e. let x = live₂ t d p in omega (arith, x.1, ap (rd n PE s) e)) ∙ (first i a c).0

      due₂ : (t : ℕ) → 0 < rd n LEN s (rd n ORD s t) → D₂ t ≡ rd n LEN s (rd n ORD s t)
      due₂ t p =
          let y = same (rd n ORD s t) in
          due_low (places n s₁) lim (rd n ORD s t) (omega (arith, ends l₁ (places n s₁) lim X g.lists (rd n ORD s t) (omega arith))) ∙ y

      all₂ : (t : ℕ) → (0 < rd n LEN s (rd n ORD s t)) ⊎ (rd n LEN s (rd n ORD s t) ≤ 0) → D₂ t ≡ rd n LEN s (rd n ORD s t)
      all₂ t (inl p) = due₂ t p
      all₂ t (inr p) =
          let y = same (rd n ORD s t) in
          ⊎_elim (λ c. due_low (places n s₁) lim (rd n ORD s t) c ∙ y) (λ c. due_high (places n s₁) lim (rd n ORD s t) c ∙ omega arith) (split (rd n PE s₁ (rd n ORD s t)) lim)

      group₂ : (t : ℕ) → t < cnt → 0 < rd n LEN s (rd n ORD s t) → rd n PE m.mem (rd n ORD s t) ≡ b + sum_to t D₂
      group₂ t a p = (r.queue.placed t a a (omega (arith, due₂ t p))).0

      -- what begins below b is of the first group
      which : (i : ℕ) → 0 < rd n LEN s i → rd n PE m.mem i < b → rd n PE s i < base
      which i a c =
          ⊎_elim (λ x. x)
          (λ w. let e : rd n ORD s w.turn ≡ i = w.is in
          let y = group₂ w.turn w.soon (omega (arith, ap (rd n LEN s) e)) in
          absurd (omega (arith, ap (rd n PE m.mem) e)))
          (srt.all i a)

      ord : (t : ℕ) → rd n ORD m.mem t ≡ rd n ORD s t
      ord t = r.fields ORD t refl ∙ g.fields ORD t refl

      sorted_at : Sorted (places n m.mem) (rd n ORD s) cnt b m.end
      sorted_at =
          record {
            low = λ i j a x y u v.
                let x' : 0 < rd n LEN s i = omega (arith, len₂ i) in
                let y' : 0 < rd n LEN s j = omega (arith, len₂ j) in
                let p = which i x' u in
                omega (arith, group₁ i x' p, group₁ j y' (which j y' v), len₂ i, (first i x' p).2, sum_apart j D₁ i a);
            edge = λ i x u.
                let x' : 0 < rd n LEN s i = omega (arith, len₂ i) in
                let p = which i x' u in
                omega (arith, group₁ i x' p, len₂ i, (first i x' p).1);
            over = λ t a x. omega (arith, group₂ t a (omega (arith, len₂ (rd n ORD s t))));
            high = λ t u a c x y.
                let x' : 0 < rd n LEN s (rd n ORD s t) = omega (arith, len₂ (rd n ORD s t)) in
                let y' : 0 < rd n LEN s (rd n ORD s u) = omega (arith, len₂ (rd n ORD s u)) in
                omega (arith, group₂ t (omega arith) x', group₂ u c y', len₂ (rd n ORD s t), due₂ t x', sum_apart u D₂ t a);
            all = λ i x.
                let x' : 0 < rd n LEN s i = omega (arith, len₂ i) in
                ⊎_elim (λ p. inl (omega (arith, group₁ i x' p, (first i x' p).1))) (λ w. inr w) (srt.all i x');
            wide = omega (arith, r.queue.sum);
          }

      rest : Collected n X l s base lim cnt b m
      rest =
          record {
            space = record {
              lists = lowered m.lists (places n m.mem) lim X r.lists m.end (omega (arith, r.queue.low, r.lists.fits))
                  (λ i q o. omega (arith, inside i (omega (arith, o.from, o.to)), o.to));
              room = r.room;
              sorted = sorted_by (places n m.mem) (rd n ORD s) (rd n ORD m.mem) ord cnt b m.end sorted_at;
            };
            total = r.total ∙ sum_same n (λ j. length (X j)) (share (places n m.mem) m.end)
                (λ i a. share₂ i (split 0 (rd n LEN m.mem i)) ∙ len_of m.lists (places n m.mem) lim X r.lists i);
            long = r.long;
            fields = λ c i t. r.fields c i t ∙ g.fields c i t;
            dead = λ i z. r.far i (λ t d p e. let x = live₂ t d p in omega (arith, x.0, ap (rd n LEN s) e))
                ∙ g.far i (λ t d p e. omega (arith, (live₁ t p).0, ap (rd n LEN s) e));
            parents = λ i z. r.links i (λ t d p e. let x = live₂ t d p in omega (arith, x.0, ap (rd n LEN s) e))
                ∙ g.links i (λ t d p e. omega (arith, (live₁ t p).0, ap (rd n LEN s) e));
            before = r.queue.low;
            first = group₁;
            edge = g.queue.sum ∙ rw zero-add;
            second = λ t a p. group₂ t a p ∙ ap (λ (y : ℕ). b + y) (sum_same t (λ u. rd n LEN s (rd n ORD s u)) D₂ (λ u c. all₂ u (split 0 (rd n LEN s (rd n ORD s u)))));
          }

  -- THE collection
  pub collected : Collected n X l s base lim cnt (packed_low n base l s).end (packed_all n base lim cnt l s)
  unfolding packed_all
  collected =
      let m = packed_low n base l s in
      rest m.lists m.mem m.end end₁ (moved_new n lim cnt m) (end₂ m.lists m.mem m.end end₁)
