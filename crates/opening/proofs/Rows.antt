-- What the start leaves of each row: all rows begin alike, and then some are set aside.
-- Assumes nothing.
use Prim.Native.Nat.{ℕ, suc, ◌+◌, ◌<◌, ◌^◌, ◌≤◌}
use native.Mathlib.Omega.{arith}
use mathlib.Core.Path.{◌≡◌, refl, sym, ap, ◌∙◌}
use mathlib.Core.Logic.{◌≢◌, ◌⊎◌, inl, inr}
use mathlib.Core.Bool.{Bool, true, false, cond, false≢true}
use mathlib.Core.List.{List}
use mathlib.Core.Option.{none, some}
use borrow.Author.Tests.{lt-ltb, le-ltb, eq-eqb, ne_eqb}
use lib.Dec.{eqb, ltb}
use lib.IntN.{ℤ}
use Rattle.plain.proofs.Turns.{times_keeps}
use Rattle.definition.specs.State.{Kind, variable, element, dense, is_variable, is_element, is_dense, start_weight}
use Rattle.cells.proofs.Fields.{room_up}
use Rattle.cells.proofs.Laws.{mem, room_yes}
use Rattle.cells.proofs.Parents.{room_hang}
use Rattle.cells.proofs.Slices.{plus_sum, same?, split}
use Rattle.cells.specs.Layout.{PE, LEN, WANT, ELEN, DEGREE, W, HHEAD, NV}
use Rattle.cells.specs.Links.{named, parent}
use Rattle.cells.specs.View.{Room, plus, rd}
use Rattle.packed.proofs.Sums.{sum_more, sum_none}
use Rattle.packed.specs.Places.{sum_to}
use Rattle.opening.specs.Start.{weighed, marked, begun, begun_all, rooted, left_out, Setting, setting, set_dense, set_root, set_one, set_all}
use Rattle.opening.specs.declared.Aside.{Aside}

-- ---- every row begins

-- row v as it begins, where s is the memory before
pub record Fresh (n : ℕ) (s m : List ℤ) (v : ℕ) : Type 0 where
  pub nv : rd n NV m v ≡ 1
  pub want : rd n WANT m v ≡ 1
  pub elen : rd n ELEN m v ≡ 0
  pub degree : rd n DEGREE m v ≡ rd n LEN s v
  pub w : rd n W m v ≡ 1
  pub hhead : rd n HHEAD m v ≡ n

pub record Begun (n : ℕ) (s : List ℤ) (k : ℕ) (m : List ℤ) : Type 0 where
  pub room : Room n m
  pub rows : (v : ℕ) → v < k → Fresh n s m v
  pub keeps : (f v : ℕ) → eqb NV f ≡ false → eqb WANT f ≡ false → eqb ELEN f ≡ false → eqb DEGREE f ≡ false → eqb W f ≡ false → eqb HHEAD f ≡ false → rd n f m v ≡ rd n f s v
  pub parents : (v : ℕ) → parent n m v ≡ parent n s v

module _ (n : ℕ) (s : List ℤ) where
  module _ (k : ℕ) (m : List ℤ) (l : k < n) (h : Begun n s k m) where
    row_here : Fresh n s (begun n k m) k
    unfolding begun marked weighed
    row_here =
        let r = room_yes n m h.room in
        let a = lt-ltb k n l in
        let d : rd n LEN m k ≡ rd n LEN s k = h.keeps LEN k refl refl refl refl refl refl in
        let e : rd n DEGREE (marked n k (weighed n k m)) k ≡ rd n LEN m k = simp (mem, r, a) in
        record {
          nv = simp (mem, r, a);
          want = simp (mem, r, a);
          elen = simp (mem, r, a);
          degree = e ∙ d;
          w = simp (mem, r, a);
          hhead = simp (mem, r, a);
        }

    row_other : (v : ℕ) → v ≢ k → Fresh n s m v → Fresh n s (begun n k m) v
    unfolding begun marked weighed
    row_other v d q =
        record {
          nv = simp mem q.nv;
          want = simp mem q.want;
          elen = simp mem q.elen;
          degree = simp mem q.degree;
          w = simp mem q.w;
          hhead = simp mem q.hhead;
        }

    row_by : (v : ℕ) → v < suc k → (v ≡ k) ⊎ (v ≢ k) → Fresh n s (begun n k m) v
    row_by v b (inl e) = rw e row_here
    row_by v b (inr e) = row_other v e (h.rows v (omega arith))

    begun_more : Begun n s (suc k) (begun n k m)
    unfolding begun marked weighed
    begun_more =
        record {
          room = room_up n HHEAD _ k n (room_up n W _ k 1 (room_up n DEGREE _ k _ (room_up n ELEN _ k 0 (room_up n WANT _ k 1 (room_up n NV m k 1 h.room)))));
          rows = λ v b. row_by v b (same? v k);
          keeps = λ f v a b c d e g. simp (mem, a, b, c, d, e, g) (h.keeps f v a b c d e g);
          parents = λ v. simp mem (h.parents v);
        }

  pub begun_all_lem : Room n s → Begun n s n (begun_all n s)
  unfolding begun_all
  begun_all_lem room =
      times_keeps (Begun n s) (begun n) n begun_more n s (omega arith)
      (record { room = room; rows = λ v b. absurd (omega arith); keeps = λ f v a b c d e g. refl; parents = λ v. refl })

-- ---- rows are set aside

-- what a row of degree d is
abbrev pub sort : ℕ → ℕ → Kind
sort limit d = cond (eqb d 0) element (cond (ltb limit d) dense variable)

-- row v of the kind κ, where s is the memory before
pub record Placed (n : ℕ) (s m : List ℤ) (v : ℕ) (κ : Kind) : Type 0 where
  pub nv : rd n NV m v ≡ start_weight κ
  pub want : rd n WANT m v ≡ cond (is_variable κ) 1 0
  pub elen : is_variable κ ≡ true → rd n ELEN m v ≡ 0
  pub size : is_element κ ≡ true → rd n ELEN m v ≡ 1
  pub w : rd n W m v ≡ cond (is_element κ) 0 1
  pub len : rd n LEN m v ≡ cond (is_variable κ) (rd n LEN s v) 0
  pub place : is_variable κ ≡ true → rd n PE m v ≡ rd n PE s v
  pub orphan : is_variable κ ≡ false → parent n m v ≡ none

module _ (n limit : ℕ) (s : List ℤ) (small : n < 2 ^ 63) (nv : (v : ℕ) → v < n → rd n NV s v ≡ 1) (want : (v : ℕ) → v < n → rd n WANT s v ≡ 1)
    (elen : (v : ℕ) → v < n → rd n ELEN s v ≡ 0) (w : (v : ℕ) → v < n → rd n W s v ≡ 1) where
  abbrev kind_of : ℕ → Kind
  kind_of v = sort limit (rd n LEN s v)

  abbrev as_root : ℕ → ℕ
  as_root v = cond (is_element (kind_of v)) 1 0

  abbrev as_dense : ℕ → ℕ
  as_dense v = cond (is_dense (kind_of v)) 1 0

  pub record SetTo (k : ℕ) (m : Setting) : Type 0 where
    pub room : Room n m.mem
    pub done : (v : ℕ) → v < k → Placed n s m.mem v (sort limit (rd n LEN s v))
    pub later : (f v : ℕ) → k ≤ v → rd n f m.mem v ≡ rd n f s v
    pub keeps : (f v : ℕ) → eqb NV f ≡ false → eqb WANT f ≡ false → eqb ELEN f ≡ false → eqb W f ≡ false → eqb LEN f ≡ false → eqb PE f ≡ false
        → rd n f m.mem v ≡ rd n f s v
    pub roots : m.aside.roots ≡ sum_to k (λ v. cond (is_element (sort limit (rd n LEN s v))) 1 0)
    pub dense : m.aside.dense ≡ sum_to k (λ v. cond (is_dense (sort limit (rd n LEN s v))) 1 0)
    pub few : m.aside.roots + m.aside.dense ≤ k

  module _ (k : ℕ) (m : Setting) (l : k < n) (h : SetTo k m) where
    -- what is changed at row k only
    record Local (t : List ℤ) : Type 0 where
      room : Room n t
      away : (f v : ℕ) → v ≢ k → rd n f t v ≡ rd n f m.mem v
      apart : (v : ℕ) → v ≢ k → parent n t v ≡ parent n m.mem v
      keeps : (f v : ℕ) → eqb NV f ≡ false → eqb WANT f ≡ false → eqb ELEN f ≡ false → eqb W f ≡ false → eqb LEN f ≡ false → eqb PE f ≡ false
          → rd n f t v ≡ rd n f m.mem v

    here : (f : ℕ) → rd n f m.mem k ≡ rd n f s k
    here f = h.later f k (omega arith)

    placed_away : (t : List ℤ) (v : ℕ) (κ : Kind) → Local t → v ≢ k → Placed n s m.mem v κ → Placed n s t v κ
    placed_away t v κ o d q =
        record {
          nv = o.away NV v d ∙ q.nv;
          want = o.away WANT v d ∙ q.want;
          elen = λ x. o.away ELEN v d ∙ q.elen x;
          size = λ x. o.away ELEN v d ∙ q.size x;
          w = o.away W v d ∙ q.w;
          len = o.away LEN v d ∙ q.len;
          place = λ x. o.away PE v d ∙ q.place x;
          orphan = λ x. o.apart v d ∙ q.orphan x;
        }

    done_by : (t : List ℤ) → Local t → Placed n s t k (kind_of k) → (v : ℕ) → v < suc k → (v ≡ k) ⊎ (v ≢ k) → Placed n s t v (kind_of v)
    done_by t o p v b (inl e) = rw e p
    done_by t o p v b (inr e) = placed_away t v (kind_of v) o e (h.done v (omega arith))

    set_more : (t : List ℤ) (a : Aside) → Local t → Placed n s t k (kind_of k) → a.roots ≡ m.aside.roots + as_root k → a.dense ≡ m.aside.dense + as_dense k
        → as_root k + as_dense k ≤ 1 → SetTo (suc k) (setting t a)
    set_more t a o p r d b =
        record {
          room = o.room;
          done = λ v c. done_by t o p v c (same? v k);
          later = λ f v c. o.away f v (λ e. omega arith) ∙ h.later f v (omega arith);
          keeps = λ f v x y z u q e. o.keeps f v x y z u q e ∙ h.keeps f v x y z u q e;
          roots = omega (arith, r, h.roots, sum_more k as_root);
          dense = omega (arith, d, h.dense, sum_more k as_dense);
          few = omega (arith, r, d, h.few);
        }

    -- a row without neighbours
    root_more : rd n LEN s k ≡ 0 → SetTo (suc k) (set_root n k m)
    unfolding set_root rooted start_weight
    root_more z =
        let r = room_yes n m.mem h.room in
        let a = lt-ltb k n l in
        let e : eqb (rd n LEN s k) 0 ≡ true = eq-eqb (rd n LEN s k) 0 z in
        let x : rd n NV (rooted n k m.mem) k ≡ rd n NV m.mem k = simp mem in
        let y : rd n LEN (rooted n k m.mem) k ≡ rd n LEN m.mem k = simp mem in
        let o : parent n (rooted n k m.mem) k ≡ named n n = simp (mem, r, a) in
        let p : Placed n s (rooted n k m.mem) k element =
        record {
          nv = x ∙ here NV ∙ nv k l;
          want = simp (mem, r, a);
          elen = λ q. absurd (false≢true q);
          size = λ q. simp (mem, r, a);
          w = simp (mem, r, a);
          len = y ∙ here LEN ∙ z;
          place = λ q. absurd (false≢true q);
          orphan = λ q. o ∙ ap (λ (b : Bool). cond b (some n) none) (le-ltb n n (omega arith));
        } in
        set_more (rooted n k m.mem) (record { roots = plus m.aside.roots 1; dense = m.aside.dense })
        (record {
          room = room_hang n _ k _ (room_up n W _ k 0 (room_up n ELEN _ k 1 (room_up n WANT _ k 0 h.room)));
          away = λ f v d. simp mem;
          apart = λ v d. simp mem;
          keeps = λ f v x y z u q e. simp (mem, y, z, u, e);
        })
        (rw e p)
        (rw e (plus_sum m.aside.roots 1 (omega (arith, h.few))))
        (rw e (omega arith))
        (rw e (omega arith))

    -- a dense row
    dense_more : rd n LEN s k ≢ 0 → limit < rd n LEN s k → SetTo (suc k) (set_dense n k m)
    unfolding set_dense left_out start_weight
    dense_more z c =
        let r = room_yes n m.mem h.room in
        let a = lt-ltb k n l in
        let e : eqb (rd n LEN s k) 0 ≡ false = ne_eqb (rd n LEN s k) 0 z in
        let g : ltb limit (rd n LEN s k) ≡ true = lt-ltb limit (rd n LEN s k) c in
        let x : rd n W (left_out n k m.mem) k ≡ rd n W m.mem k = simp mem in
        let o : parent n (left_out n k m.mem) k ≡ named n n = simp (mem, r, a) in
        let p : Placed n s (left_out n k m.mem) k dense =
        record {
          nv = simp (mem, r, a);
          want = simp (mem, r, a);
          elen = λ q. absurd (false≢true q);
          size = λ q. absurd (false≢true q);
          w = x ∙ here W ∙ w k l;
          len = simp (mem, r, a);
          place = λ q. absurd (false≢true q);
          orphan = λ q. o ∙ ap (λ (b : Bool). cond b (some n) none) (le-ltb n n (omega arith));
        } in
        set_more (left_out n k m.mem) (record { roots = m.aside.roots; dense = plus m.aside.dense 1 })
        (record {
          room = room_hang n _ k _ (room_up n LEN _ k 0 (room_up n WANT _ k 0 (room_up n NV _ k 0 h.room)));
          away = λ f v d. simp mem;
          apart = λ v d. simp mem;
          keeps = λ f v x y z u q e. simp (mem, x, y, q, e);
        })
        (rw (e, g) p)
        (rw (e, g) (omega arith))
        (rw (e, g) (plus_sum m.aside.dense 1 (omega (arith, h.few))))
        (rw (e, g) (omega arith))

    -- any other
    none_more : rd n LEN s k ≢ 0 → rd n LEN s k ≤ limit → SetTo (suc k) m
    unfolding start_weight
    none_more z c =
        let e : eqb (rd n LEN s k) 0 ≡ false = ne_eqb (rd n LEN s k) 0 z in
        let g : ltb limit (rd n LEN s k) ≡ false = le-ltb limit (rd n LEN s k) c in
        let p : Placed n s m.mem k variable =
        record {
          nv = here NV ∙ nv k l;
          want = here WANT ∙ want k l;
          elen = λ q. here ELEN ∙ elen k l;
          size = λ q. absurd (false≢true q);
          w = here W ∙ w k l;
          len = here LEN;
          place = λ q. here PE;
          orphan = λ q. absurd (false≢true (sym q));
        } in
        set_more m.mem m.aside
        (record { room = h.room; away = λ f v d. refl; apart = λ v d. refl; keeps = λ f v x y z u q e. refl })
        (rw (e, g) p)
        (rw (e, g) (omega arith))
        (rw (e, g) (omega arith))
        (rw (e, g) (omega arith))

    set_by : (rd n LEN s k ≡ 0) ⊎ (rd n LEN s k ≢ 0) → (limit < rd n LEN s k) ⊎ (rd n LEN s k ≤ limit) → SetTo (suc k) (set_one n limit k m)
    unfolding set_one
    set_by (inl z) b = rw (here LEN, le-ltb 0 (rd n LEN s k) (omega arith)) (root_more z)
    set_by (inr z) (inl b) = rw (here LEN, lt-ltb 0 (rd n LEN s k) (omega (arith, z)), lt-ltb limit (rd n LEN s k) b) (dense_more z b)
    set_by (inr z) (inr b) = rw (here LEN, lt-ltb 0 (rd n LEN s k) (omega (arith, z)), le-ltb limit (rd n LEN s k) b) (none_more z b)

  pub set_all_lem : Room n s → SetTo n (set_all n limit s)
  unfolding set_all
  set_all_lem room =
      times_keeps SetTo (set_one n limit) n (λ k m l h. set_by k m l h (same? (rd n LEN s k) 0) (split limit (rd n LEN s k)))
      n (setting s (record { roots = 0; dense = 0 })) (omega arith)
      (record {
        room = room;
        done = λ v b. absurd (omega arith);
        later = λ f v b. refl;
        keeps = λ f v x y z u q e. refl;
        roots = sym (sum_none as_root);
        dense = sym (sum_none as_dense);
        few = omega arith;
      })
