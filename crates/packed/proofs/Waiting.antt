-- The order in which a collection meets the objects, after one of them was moved. Speaks of no memory.
-- Assumes nothing.
use Rattle.std.proofs.Common.{◌≡◌, ℕ, suc, ◌+◌, ◌<◌, ◌≤◌, ◌≢◌, ◌⊎◌, sym, ap, ◌∙◌, inl, inr, ⊎_elim, arith, le-ltb, lt-ltb, le-leb}
use mathlib.Core.Path.{subst⁻¹}
use borrow.Author.Tests.{lt-leb}
use Rattle.cells.proofs.Slices.{same?, split}
use Rattle.packed.specs.Places.{Owns, Places, Queue, Waits, due, share, sum_to}
use Rattle.packed.proofs.Frame.{Stays}
use Rattle.packed.proofs.Sums.{sum_change, sum_more}

module _ (f : Places) (top j : ℕ) where
  pub due_low : f.pe j < top → due f top j ≡ f.len j
  unfolding due
  due_low h = rw (lt-ltb (f.pe j) top h)

  pub due_high : top ≤ f.pe j → due f top j ≡ 0
  unfolding due
  due_high h = rw (le-ltb (f.pe j) top h)

  pub due_some : 0 < due f top j → f.pe j < top
  due_some h = ⊎_elim (λ a. a) (λ a. absurd (omega (arith, due_high a))) (split (f.pe j) top)

  pub due_none : due f top j ≡ 0 → 0 < f.len j → top ≤ f.pe j
  due_none h b = ⊎_elim (λ a. absurd (omega (arith, due_low a))) (λ a. a) (split (f.pe j) top)

pub due_same : (f g : Places) (top j : ℕ) → Stays f g j → due g top j ≡ due f top j
unfolding due
due_same f g top j s = rw (s.pe, s.len)

module _ (f : Places) (e j : ℕ) where
  pub share_in : f.pe j + f.len j ≤ e → share f e j ≡ f.len j
  unfolding share
  share_in h = rw (le-leb (f.pe j + f.len j) e h)

  pub share_out : e < f.pe j + f.len j → share f e j ≡ 0
  unfolding share
  share_out h = rw (lt-leb (f.pe j + f.len j) e h)

  pub share_dead : f.len j ≡ 0 → share f e j ≡ 0
  share_dead h = ⊎_elim (λ a. share_out a) (λ a. share_in a ∙ h) (split e (f.pe j + f.len j))

module _ (f : Places) (ob : ℕ → ℕ) (cnt : ℕ) (D : ℕ → ℕ) (top d₀ k e : ℕ) (h : Queue f ob cnt D top d₀ k e) (hk : k < cnt) where
  -- who waits at k or later, and is not the one at k, waits at k + 1 or later
  later : (i : ℕ) → i ≢ ob k → Waits ob cnt k i → Waits ob cnt (suc k) i
  later i d w =
      let x : w.turn ≢ k = λ y. d (sym w.is ∙ ap ob y) in
      record { turn = w.turn; late = omega (arith, x, w.late); soon = w.soon; is = w.is }

  -- nothing to be moved at k
  pub passed : D k ≡ 0 → Queue f ob cnt D top d₀ (suc k) e
  passed z =
      record {
        now = λ u a b. h.now u (omega arith) b;
        order = λ t u a b c p q. h.order t u (omega arith) b c p q;
        from = λ u a b p. h.from u (omega arith) b p;
        to = λ u a b p. h.to u (omega arith) b p;
        each = λ i q o. ⊎_elim (λ a. inl a)
            (λ a. inr (⊎_elim (λ w. ⊎_elim
            (λ x. inr (due_none f top i (ap (due f top) x ∙ h.now k (omega arith) hk ∙ z) (omega (arith, o.from, o.to))))
            (λ x. inl (later i x w)) (same? i (ob k))) (λ b. inr b) a))
            (h.each i q o);
        low = h.low;
        sum = omega (arith, h.sum, sum_more k D);
        placed = λ t a b p. h.placed t (⊎_elim (λ x. absurd (omega (arith, ap D x))) (λ x. omega (arith, x)) (same? t k)) b p;
      }

  module _ (z : 0 < D k) where
    due_k : (f.pe (ob k) < top) × (f.len (ob k) ≡ D k)
    due_k =
        let a = h.now k (omega arith) hk in
        let b = due_some f top (ob k) (omega arith) in
        (b, omega (arith, due_low f top (ob k) b))

    -- what waits is behind the one at k
    behind : (i q : ℕ) → i ≢ ob k → Owns f i q → Waits ob cnt k i → f.pe (ob k) + D k ≤ f.pe i
    unfolding later
    behind i q d o w =
        ⊎_elim
        (λ a. let v = later i d w in
        let x : due f top i ≡ D w.turn = ap (due f top) (sym w.is) ∙ h.now w.turn w.late w.soon in
        let y : due f top i ≡ f.len i = due_low f top i a in
        let r = h.order k w.turn (omega arith) v.late w.soon z (omega (arith, o.from, o.to)) in
        let p : f.pe (ob w.turn) ≡ f.pe i = ap f.pe w.is in
        omega arith)
        (λ a. omega (arith, h.to k (omega arith) hk z))
        (split (f.pe i) top)

    -- the place that the one at k is moved to is nobody else's
    pub free : (i q : ℕ) → i ≢ ob k → Owns f i q → (q < e) ⊎ (e + f.len (ob k) ≤ q)
    free i q d o =
        let r = h.from k (omega arith) hk z in
        let b = due_k.1 in
        ⊎_elim (λ a. inl (omega (arith, o.to)))
        (λ a. inr (⊎_elim (λ w. omega (arith, behind i q d o w, o.from)) (λ y. omega (arith, h.to k (omega arith) hk z, o.from)) a))
        (h.each i q o)

    apart : (u : ℕ) → suc k ≤ u → u < cnt → ob u ≢ ob k
    apart u a b y =
        let x : D u ≡ D k = sym (h.now u (omega arith) b) ∙ ap (due f top) y ∙ h.now k (omega arith) hk in
        let r = h.order k u (omega arith) a b z (omega arith) in
        let p : f.pe (ob u) ≡ f.pe (ob k) = ap f.pe y in
        omega arith

    earlier : (t : ℕ) → t < k → t < cnt → 0 < D t → ob t ≢ ob k
    earlier t a b p y =
        let r = h.placed t a b p in
        let s = h.from k (omega arith) hk z in
        let x : f.pe (ob t) ≡ f.pe (ob k) = ap f.pe y in
        omega (arith, r.1)

    module _ (g : Places) (stays : (i : ℕ) → i ≢ ob k → Stays f g i) (gp : g.pe (ob k) ≡ e) (gl : g.len (ob k) ≡ f.len (ob k)) where
      was : (i q : ℕ) → i ≢ ob k → Owns g i q → Owns f i q
      was i q d o =
          let s = stays i d in
          record { from = omega (arith, s.pe, o.from); to = omega (arith, s.pe, s.len, o.to) }

      each_at : (i q : ℕ) → Owns g i q → (i ≡ ob k) ⊎ (i ≢ ob k) → (g.pe i + g.len i ≤ e + D k) ⊎ (Waits ob cnt (suc k) i ⊎ (top ≤ g.pe i))
      each_at i q o (inl x) = inl (omega (arith, ap g.pe x, ap g.len x, due_k.1))
      each_at i q o (inr d) =
          let s = stays i d in
          ⊎_elim (λ a. inl (omega (arith, s.pe, s.len)))
          (λ a. inr (⊎_elim (λ w. inl (later i d w)) (λ b. inr (omega (arith, s.pe))) a))
          (h.each i q (was i q d o))

      placed_at : (t : ℕ) → t < suc k → t < cnt → 0 < D t → (t ≡ k) ⊎ (t ≢ k) → (g.pe (ob t) ≡ d₀ + sum_to t D) × (g.pe (ob t) + D t ≤ e + D k)
      placed_at t a b p (inl x) = subst⁻¹ (λ (y : ℕ). (g.pe (ob y) ≡ d₀ + sum_to y D) × (g.pe (ob y) + D y ≤ e + D k)) x (gp ∙ h.sum, omega arith)
      placed_at t a b p (inr x) =
          let c : t < k = omega (arith, x) in
          let r = h.placed t c b p in
          let s = stays (ob t) (earlier t c b p) in
          (s.pe ∙ r.0, omega (arith, s.pe, r.1))

      -- the one at k was moved to e
      pub advanced : Queue g ob cnt D top d₀ (suc k) (e + D k)
      advanced =
          record {
            now = λ u a b. due_same f g top (ob u) (stays (ob u) (apart u a b)) ∙ h.now u (omega arith) b;
            order = λ t u a b c p q. omega (arith, h.order t u (omega arith) b c p q, (stays (ob t) (apart t a (omega arith))).pe, (stays (ob u) (apart u (omega arith) c)).pe);
            from = λ u a b p. omega (arith, h.order k u (omega arith) a b z p, h.from k (omega arith) hk z, (stays (ob u) (apart u a b)).pe);
            to = λ u a b p. omega (arith, h.to u (omega arith) b p, (stays (ob u) (apart u a b)).pe);
            each = λ i q o. each_at i q o (same? i (ob k));
            low = omega (arith, h.from k (omega arith) hk z, h.to k (omega arith) hk z);
            sum = omega (arith, h.sum, sum_more k D);
            placed = λ t a b p. placed_at t a b p (same? t k);
          }

      share_at : (i : ℕ) → i ≢ ob k → (0 < f.len i) ⊎ (f.len i ≤ 0) → share g (e + D k) i ≡ share f e i
      share_at i d (inr x) =
          share_dead g (e + D k) i (omega (arith, (stays i d).len)) ∙ sym (share_dead f e i (omega arith))
      share_at i d (inl x) =
          let s = stays i d in
          let o : Owns f i (f.pe i) = record { from = omega arith; to = omega arith } in
          let a = h.from k (omega arith) hk z in
          let out : f.pe (ob k) + D k ≤ f.pe i → share g (e + D k) i ≡ share f e i =
          λ y. share_out g (e + D k) i (omega (arith, s.pe, s.len)) ∙ sym (share_out f e i (omega arith))
          in
          ⊎_elim (λ y. share_in g (e + D k) i (omega (arith, s.pe, s.len)) ∙ s.len ∙ sym (share_in f e i y))
          (λ y. out (⊎_elim (λ w. behind i (f.pe i) d o w) (λ v. omega (arith, h.to k (omega arith) hk z)) y))
          (h.each i (f.pe i) o)

      -- and so grew what is packed
      pub grown : (n : ℕ) → ob k < n → sum_to n (share g (e + D k)) ≡ sum_to n (share f e) + D k
      grown n b =
          let a = h.from k (omega arith) hk z in
          let l = due_k.1 in
          omega (
            arith,
            sum_change n (share f e) (share g (e + D k)) (ob k) b (λ i d. share_at i d (split 0 (f.len i))),
            share_out f e (ob k) (omega arith),
            share_in g (e + D k) (ob k) (omega arith),
          )
