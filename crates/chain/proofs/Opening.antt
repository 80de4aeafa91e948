-- The lists at the start: `opened_rep`, against the definition's `started`, and what else the memory keeps.
-- Assumes nothing.
use Prim.Native.Nat.{ℕ, suc, ◌<◌, ◌≤◌}
use native.Mathlib.Omega.{arith}
use mathlib.Core.Path.{◌≡◌, refl, sym, ap, ◌∙◌, subst}
use mathlib.Core.Logic.{◌≢◌, ◌⊎◌, inl, inr}
use mathlib.Core.Bool.{Bool, true, false, cond}
use mathlib.Core.List.{List, [], foldl}
use borrow.Author.Tests.{lt-ltb, le-ltb, le-leb, lt-leb, eq-eqb, ne_eqb}
use lib.Dec.{ltb, leb, eqb}
use lib.IntN.{ℤ}
use lib.ListN.{length, replicate, length-replicate}
use Rattle.plain.specs.Lists.{member, up_to}
use Rattle.plain.specs.Turns.{times}
use Rattle.plain.proofs.Logic.{cond_has}
use Rattle.plain.proofs.Members.{member_nil}
use Rattle.plain.proofs.Positions.{get_or_same}
use Rattle.plain.proofs.Turns.{times_keeps, times_simulates, times_up_to}
use Rattle.definition.specs.State.{queue_of, push_front, start_degree, start_kind, is_variable, element, dense, variable, enlist, started}
use Rattle.facts.proofs.Start.{Neighbourly}
use Rattle.facts.proofs.Enlisted.{degree_low}
use Rattle.cells.specs.Layout.{LEN, DEGREE, NEXT, LAST, HEAD}
use Rattle.cells.specs.View.{rd, up, Room}
use Rattle.cells.specs.Links.{parent}
use Rattle.cells.proofs.Slices.{split, same?}
use Rattle.cells.proofs.Fields.{room_up, rd_up_same}
use Rattle.cells.proofs.Laws.{mem}
use Rattle.chain.specs.Model.{pushed, emptied, enlisted_one, enlisted_all}
use Rattle.chain.specs.Chained.{Chained}
use Rattle.chain.proofs.Frame.{chained_lists}
use Rattle.chain.proofs.Fronts.{size_push, push_fresh, front_rep}
use Rattle.chain.proofs.Push.{pushed_other, pushed_parent, pushed_room, pushed_degree, pushed_degree_other}

-- ---- no list has a front

-- the first k lists have none
record Cleared (n k : ℕ) (m : List ℤ) : Type 0 where
  room : Room n m
  heads : (e : ℕ) → e < k → rd n HEAD m e ≡ n

module _ (n : ℕ) where
  clear_by : (k : ℕ) (m : List ℤ) → k < n → Cleared n k m → (e : ℕ) → e < suc k → (e ≡ k) ⊎ (e ≢ k) → rd n HEAD (up n HEAD m k n) e ≡ n
  clear_by k m l c e h (inl q) = rw q (rd_up_same n HEAD m k n (omega arith) c.room l)
  clear_by k m l c e h (inr q) = let kept : rd n HEAD (up n HEAD m k n) e ≡ rd n HEAD m e = simp mem in kept ∙ c.heads e (omega arith)

  cleared : (s : List ℤ) → Room n s → Cleared n n (emptied n s)
  unfolding emptied
  cleared s room =
      times_keeps (Cleared n) (λ d m. up n HEAD m d n) n
      (λ k m l c. record { room = room_up n HEAD m k n c.room; heads = λ e h. clear_by k m l c e h (same? e k) })
      n s (omega arith) (record { room = room; heads = λ e h. absurd (omega arith) })

  pub emptied_rep : (s : List ℤ) → Room n s → Chained n (emptied n s) (λ d. [])
  emptied_rep s room = record { chain = λ d hd. (cleared s room).heads d hd; distinct = λ d hd. tt }

  -- what every store at a head keeps
  emptied_keeps : (P : List ℤ → Type 0) → ((m : List ℤ) (d : ℕ) → P m → P (up n HEAD m d n)) → (s : List ℤ) → P s → P (emptied n s)
  unfolding emptied
  emptied_keeps P h s p = times_keeps (λ k m. P m) (λ d m. up n HEAD m d n) n (λ k m l q. h m k q) n s (omega arith) p

-- ---- one row

-- the code's test is the definition's
same_test : (n limit d : ℕ) (x y : List ℤ) → d < n → (d ≡ 0) ⊎ (d ≢ 0) → (limit < d) ⊎ (d ≤ limit)
    → cond (ltb 0 d) (cond (leb d limit) (cond (ltb d n) x y) y) y ≡ cond (is_variable (cond (eqb d 0) element (cond (ltb limit d) dense variable))) x y
same_test n limit d x y a (inl e) b = rw (eq-eqb d 0 e, le-ltb 0 d (omega arith))
same_test n limit d x y a (inr e) (inl b) = rw (ne_eqb d 0 e, lt-ltb 0 d (omega arith), lt-leb d limit b, lt-ltb limit d b)
same_test n limit d x y a (inr e) (inr b) = rw (ne_eqb d 0 e, lt-ltb 0 d (omega arith), le-leb d limit b, le-ltb limit d b, lt-ltb d n a)

module _ (n limit : ℕ) where
  -- what putting a row to the front keeps
  enlisted_keeps : (P : List ℤ → Type 0) → ((m : List ℤ) (i : ℕ) → i < n → P m → P (pushed n m (rd n LEN m i) i)) → (m : List ℤ) (i : ℕ) → i < n → P m → P (enlisted_one n limit i m)
  unfolding enlisted_one
  enlisted_keeps P h m i l p =
      cond_has P (ltb 0 (rd n LEN m i)) (λ _. cond_has P (leb (rd n LEN m i) limit) (λ _. cond_has P (ltb (rd n LEN m i) n) (λ _. h m i l p) (λ _. p)) (λ _. p)) (λ _. p)

  all_keeps : (P : List ℤ → Type 0) → ((m : List ℤ) (d : ℕ) → P m → P (up n HEAD m d n))
      → ((m : List ℤ) (i : ℕ) → i < n → P m → P (pushed n m (rd n LEN m i) i)) → (s : List ℤ) → P s → P (enlisted_all n limit s)
  unfolding enlisted_all
  all_keeps P h k s p =
      times_keeps (λ j m. P m) (enlisted_one n limit) n (λ j m l q. enlisted_keeps P k m j l q) n (emptied n s) (omega arith) (emptied_keeps n P h s p)

  module _ (s : List ℤ) where
    -- every field but these four
    pub enlisted_other : (f j : ℕ) → eqb HEAD f ≡ false → eqb NEXT f ≡ false → eqb LAST f ≡ false → eqb DEGREE f ≡ false
        → rd n f (enlisted_all n limit s) j ≡ rd n f s j
    enlisted_other f j a b c e =
        all_keeps (λ m. rd n f m j ≡ rd n f s j) (λ m d q. simp (mem, a) q) (λ m i l q. pushed_other n m (rd n LEN m i) i f j a b c e ∙ q) s refl

    pub enlisted_parent : (j : ℕ) → parent n (enlisted_all n limit s) j ≡ parent n s j
    enlisted_parent j = all_keeps (λ m. parent n m j ≡ parent n s j) (λ m d q. simp mem q) (λ m i l q. pushed_parent n m (rd n LEN m i) i j ∙ q) s refl

    pub enlisted_room : Room n s → Room n (enlisted_all n limit s)
    enlisted_room h = all_keeps (Room n) (λ m d q. room_up n HEAD m d n q) (λ m i l q. pushed_room n m (rd n LEN m i) i q) s h

-- rows whose degree is their length before, have it after
record Measured (n : ℕ) (s m : List ℤ) : Type 0 where
  room : Room n m
  lengths : (v : ℕ) → rd n LEN m v ≡ rd n LEN s v
  degrees : (v : ℕ) → rd n DEGREE m v ≡ rd n LEN s v

module _ (n : ℕ) (s : List ℤ) where
  degree_by : (m : List ℤ) (i : ℕ) → i < n → Measured n s m → (v : ℕ) → (v ≡ i) ⊎ (v ≢ i) → rd n DEGREE (pushed n m (rd n LEN m i) i) v ≡ rd n LEN s v
  degree_by m i l h v (inl e) = rw e (pushed_degree n m (rd n LEN m i) i h.room l ∙ h.lengths i)
  degree_by m i l h v (inr e) = pushed_degree_other n m (rd n LEN m i) i v (λ y. e (sym y)) ∙ h.degrees v

  pub enlisted_degrees : (limit : ℕ) → Room n s → ((v : ℕ) → rd n DEGREE s v ≡ rd n LEN s v) → (v : ℕ) → rd n DEGREE (enlisted_all n limit s) v ≡ rd n LEN s v
  enlisted_degrees limit room same =
      (all_keeps n limit (Measured n s)
      (λ m d h. record { room = room_up n HEAD m d n h.room; lengths = λ v. simp mem (h.lengths v); degrees = λ v. simp mem (h.degrees v) })
      (λ m i l h. record {
        room = pushed_room n m (rd n LEN m i) i h.room;
        lengths = λ v. pushed_other n m (rd n LEN m i) i LEN v refl refl refl refl ∙ h.lengths v;
        degrees = λ v. degree_by m i l h v (same? v i);
      })
      s (record { room = room; lengths = λ v. refl; degrees = same })).degrees

-- ---- the definition's lists

module _ (n limit : ℕ) (nbrs : List (List ℕ)) (low : (v : ℕ) → v < n → start_degree nbrs v < n) where
  -- after the rows below k
  record Opened (k : ℕ) (m : List ℤ) (qs : List (List ℕ)) : Type 0 where
    room : Room n m
    size : length qs ≡ n
    lists : Chained n m (queue_of qs)
    lengths : (v : ℕ) → v < n → rd n LEN m v ≡ start_degree nbrs v
    later : (v e : ℕ) → k ≤ v → e < n → member v (queue_of qs e) ≡ false

  -- the row's turn
  turn_is : (k : ℕ) (m : List ℤ) → k < n → rd n LEN m k ≡ start_degree nbrs k
      → enlisted_one n limit k m ≡ cond (is_variable (start_kind limit nbrs k)) (pushed n m (start_degree nbrs k) k) m
  unfolding enlisted_one start_kind
  turn_is k m l e =
      rw e (same_test n limit (start_degree nbrs k) (pushed n m (start_degree nbrs k) k) m (low k l) (same? (start_degree nbrs k) 0) (split limit (start_degree nbrs k)))

  module _ (k : ℕ) (m : List ℤ) (qs : List (List ℕ)) (l : k < n) (h : Opened k m qs) where
    abbrev d : ℕ
    d = start_degree nbrs k

    open_by : (b : Bool) → Opened (suc k) (cond b (pushed n m d k) m) (cond b (push_front d k qs) qs)
    open_by true =
        record {
          room = pushed_room n m d k h.room;
          size = size_push qs d k ∙ h.size;
          lists = front_rep n m d k qs h.size (low k l) l h.room h.lists (λ e he. h.later k e (omega arith) he);
          lengths = λ v hv. pushed_other n m d k LEN v refl refl refl refl ∙ h.lengths v hv;
          later = λ v e a b. push_fresh qs d k (omega (arith, h.size, low k l)) v e (λ z. omega arith) (h.later v e (omega arith) b);
        }
    open_by false =
        record { room = h.room; size = h.size; lists = h.lists; lengths = h.lengths; later = λ v e a b. h.later v e (omega arith) b }

    opened_turn : Opened (suc k) (enlisted_one n limit k m) (enlist limit nbrs qs k)
    unfolding enlist
    opened_turn = rw (turn_is k m l (h.lengths k l)) (open_by (is_variable (start_kind limit nbrs k)))

  module _ (s : List ℤ) (room : Room n s) (lengths : (v : ℕ) → v < n → rd n LEN s v ≡ start_degree nbrs v) where
    opened_begin : Opened 0 (emptied n s) (replicate n [])
    opened_begin =
        record {
          room = emptied_keeps n (Room n) (λ m d q. room_up n HEAD m d n q) s room;
          size = simp length-replicate refl;
          lists = chained_lists (emptied_rep n s room) (queue_of (replicate n [])) (λ d hd. get_or_same n d []);
          lengths = λ v hv. emptied_keeps n (λ m. rd n LEN m v ≡ start_degree nbrs v) (λ m d q. simp mem q) s (lengths v hv);
          later = λ v e a b. ap (member v) (get_or_same n e []) ∙ member_nil v;
        }

    opened_all : Opened n (enlisted_all n limit s) (times n (λ j qs. enlist limit nbrs qs j) (replicate n []))
    unfolding enlisted_all
    opened_all =
        times_simulates Opened (enlisted_one n limit) (λ j qs. enlist limit nbrs qs j) n (λ k m qs l h. opened_turn k m qs l h)
        n (emptied n s) (replicate n []) (omega arith) opened_begin

    pub opened_fold : Chained n (enlisted_all n limit s) (queue_of (foldl (enlist limit nbrs) (replicate n []) (up_to n)))
    opened_fold =
        subst (λ (qs : List (List ℕ)). Chained n (enlisted_all n limit s) (queue_of qs))
        (times_up_to (λ j qs. enlist limit nbrs qs j) n (replicate n [])) opened_all.lists

    started_queues : length nbrs ≡ n → (started limit nbrs).queues ≡ foldl (enlist limit nbrs) (replicate n []) (up_to n)
    unfolding started
    started_queues e = ap (λ (k : ℕ). foldl (enlist limit nbrs) (replicate k []) (up_to k)) e

    -- the lists that the elimination starts with
    pub opened_rep : length nbrs ≡ n → Chained n (enlisted_all n limit s) (queue_of (started limit nbrs).queues)
    opened_rep e = rw (started_queues e) opened_fold

-- the same where every row lists others, each once: its degree is below n
pub opened_start : (limit : ℕ) (nbrs : List (List ℕ)) → Neighbourly nbrs → (s : List ℤ) → Room (length nbrs) s
    → ((v : ℕ) → v < length nbrs → rd (length nbrs) LEN s v ≡ start_degree nbrs v)
    → Chained (length nbrs) (enlisted_all (length nbrs) limit s) (queue_of (started limit nbrs).queues)
opened_start limit nbrs nb s room lengths = opened_rep (length nbrs) limit nbrs (degree_low limit nbrs nb) s room lengths refl
