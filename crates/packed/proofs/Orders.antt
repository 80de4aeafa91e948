-- The order of the lists when one object is changed.
-- Assumes nothing.
use Rattle.std.proofs.Common.{◌≡◌, ℕ, suc, ◌+◌, ◌<◌, ◌≤◌, ◌≢◌, ◌⊎◌, sym, ap, ◌∙◌, inl, inr, ⊎_elim, arith}
use Rattle.cells.proofs.Slices.{same?}
use Rattle.packed.specs.Places.{Places, Sorted, Waits}
use Rattle.packed.proofs.Frame.{Stays}

-- the same table by another name
pub sorted_by : (f : Places) (ob oc : ℕ → ℕ) → ((t : ℕ) → oc t ≡ ob t) → (cnt base lim : ℕ) → Sorted f ob cnt base lim → Sorted f oc cnt base lim
sorted_by f ob oc e cnt base lim h =
    record {
      low = h.low;
      edge = h.edge;
      over = λ t a x. rw (e t) (h.over t a (rw (e t) at x));
      high = λ t u a c x y. rw (e t, e u) (h.high t u a c (rw (e t) at x) (rw (e u) at y));
      all = λ i x. ⊎_elim (λ a. inl a) (λ w. inr (record { turn = w.turn; late = w.late; soon = w.soon; is = e w.turn ∙ w.is })) (h.all i x);
      wide = h.wide;
    }

-- what lives stands where it stood, and is not longer: a store, a list rewritten in its own place, an object dropped
pub sorted_fewer : (f g : Places) → ((i : ℕ) → 0 < g.len i → (g.pe i ≡ f.pe i) × (g.len i ≤ f.len i))
    → (ob : ℕ → ℕ) (cnt base lim lim' : ℕ) → lim ≤ lim' → Sorted f ob cnt base lim → Sorted g ob cnt base lim'
sorted_fewer f g s ob cnt base lim lim' w h =
    record {
      low = λ i j a x y u v.
          let p = s i x in
          let q = s j y in
          omega (arith, p.0, p.1, q.0, q.1, h.low i j a (omega (arith, p.1)) (omega (arith, q.1)) (omega (arith, p.0)) (omega (arith, q.0)));
      edge = λ i x u. let p = s i x in omega (arith, p.0, p.1, h.edge i (omega (arith, p.1)) (omega (arith, p.0)));
      over = λ t a x. let p = s (ob t) x in omega (arith, p.0, h.over t a (omega (arith, p.1)));
      high = λ t u a c x y.
          let p = s (ob t) x in
          let q = s (ob u) y in
          omega (arith, p.0, p.1, q.0, h.high t u a c (omega (arith, p.1)) (omega (arith, q.1)));
      all = λ i x. let p = s i x in ⊎_elim (λ a. inl (omega (arith, p.0))) (λ a. inr a) (h.all i (omega (arith, p.1)));
      wide = omega (arith, h.wide);
    }

-- j, which the table does not have, is put at lim and behind the table
module _ (f g : Places) (ob oc : ℕ → ℕ) (cnt base lim k j : ℕ) (h : Sorted f ob cnt base lim)
    (ends : (i : ℕ) → 0 < f.len i → f.pe i + f.len i ≤ lim)
    (stays : (i : ℕ) → i ≢ j → Stays f g i) (pe : g.pe j ≡ lim)
    (table : (t : ℕ) → t ≢ cnt → oc t ≡ ob t) (last : oc cnt ≡ j) (fresh : (t : ℕ) → t < cnt → ob t ≢ j) where
  old : (i : ℕ) → g.pe i < base → i ≢ j
  old i a e = omega (arith, ap g.pe e, h.wide)

  turn : (t : ℕ) → t < cnt → (oc t ≡ ob t) × Stays f g (ob t)
  turn t a = (table t (omega arith), stays (ob t) (fresh t a))

  over_at : (t : ℕ) → t < suc cnt → 0 < g.len (oc t) → (t ≡ cnt) ⊎ (t ≢ cnt) → base ≤ g.pe (oc t)
  over_at t a x (inl e) = omega (arith, ap oc e, ap g.pe (ap oc e ∙ last), h.wide)
  over_at t a x (inr d) =
      let r = turn t (omega (arith, d)) in
      omega (arith, ap g.pe r.0, ap g.len r.0, r.1.pe, r.1.len, h.over t (omega (arith, d)) (omega (arith, ap g.len r.0, r.1.len)))

  high_at : (t u : ℕ) → t < u → u < suc cnt → 0 < g.len (oc t) → 0 < g.len (oc u) → (u ≡ cnt) ⊎ (u ≢ cnt) → g.pe (oc t) + g.len (oc t) ≤ g.pe (oc u)
  high_at t u a c x y w =
      let r = turn t (omega arith) in
      let p = ap g.pe r.0 in
      let q = ap g.len r.0 in
      let z : 0 < f.len (ob t) = omega (arith, r.1.len) in
      ⊎_elim
      (λ e. omega (arith, p, q, r.1.pe, r.1.len, ap g.pe (ap oc e ∙ last), ends (ob t) z))
      (λ d. let v = turn u (omega (arith, d)) in
      let o = ap g.len v.0 in
      omega (arith, p, q, r.1.pe, r.1.len, ap g.pe v.0, v.1.pe, h.high t u a (omega (arith, d)) z (omega (arith, o, v.1.len))))
      w

  all_at : (i : ℕ) → 0 < g.len i → (i ≡ j) ⊎ (i ≢ j) → (g.pe i < base) ⊎ Waits oc (suc cnt) 0 i
  all_at i x (inl e) = inr (record { turn = cnt; late = omega arith; soon = omega arith; is = last ∙ sym e })
  all_at i x (inr d) =
      let s = stays i d in
      ⊎_elim (λ a. inl (omega (arith, s.pe)))
      (λ w. let b = w.soon in inr (record { turn = w.turn; late = omega arith; soon = omega arith; is = table w.turn (omega arith) ∙ w.is }))
      (h.all i (omega (arith, s.len)))

  pub sorted_added : Sorted g oc (suc cnt) base (lim + k)
  sorted_added =
      record {
        low = λ i i' a x y u v.
            let p = stays i (old i u) in
            let q = stays i' (old i' v) in
            omega (arith, p.pe, p.len, q.pe, q.len, h.low i i' a (omega (arith, p.len)) (omega (arith, q.len)) (omega (arith, p.pe)) (omega (arith, q.pe)));
        edge = λ i x u. let p = stays i (old i u) in omega (arith, p.pe, p.len, h.edge i (omega (arith, p.len)) (omega (arith, p.pe)));
        over = λ t a x. over_at t a x (same? t cnt);
        high = λ t u a c x y. high_at t u a c x y (same? u cnt);
        all = λ i x. all_at i x (same? i j);
        wide = omega (arith, h.wide);
      }
