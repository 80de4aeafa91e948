-- A row takes those behind it that have its list: the walk along a bucket, at most as many turns as there are rows, is the definition's fold of `merge_one`, and the
-- rows that were not taken are still linked behind it, in their order.
-- Assumes nothing.
use Prim.Native.Nat.{◌<◌, ◌≤◌, suc, zero, ℕ}
use native.Mathlib.Omega.{arith}
use mathlib.Core.Bool.{true, false, not}
use mathlib.Core.List.{List, [], ◌∷◌, foldl}
use mathlib.Core.Logic.{◌≢◌}
use mathlib.Core.Path.{◌∙◌, ◌≡◌, ap, refl, subst, sym}
use borrow.Author.Tests.{lt-ltb}
use lib.Dec.{eqb}
use lib.IntN.{ℤ}
use lib.ListN.{length}
use Rattle.plain.proofs.Logic.{clash, either}
use Rattle.plain.proofs.Members.{apart, member_here, member_there, not_here, not_there}
use Rattle.plain.specs.Lists.{keep, member}
use Rattle.plain.specs.Members.{Distinct, In}
use Rattle.cells.proofs.Laws.{mem, rd_up_field, room_yes}
use Rattle.cells.specs.Layout.{ELEN, HNEXT, LEN, MERGES, NV, PE, W}
use Rattle.cells.specs.View.{Room, plus, rd, up}
use Rattle.definition.specs.Merge.{alike, entries_of, key, merge_one, same_lists}
use Rattle.definition.specs.State.{Graph, merge_into, put_kind, put_parent, put_reps, put_weight}
use Rattle.drawn.specs.Buckets.{Chain}
use Rattle.drawn.proofs.Buckets.{chain_same}
use Rattle.merging.specs.Rows.{Now, Row}
use Rattle.merging.specs.Model.{Comparing, alike_now, compared, comparing, followers, joined, passed_next, taken_next}
use Rattle.merging.proofs.Joins.{join_field, join_gone, join_other, join_room}
use Rattle.merging.proofs.Marks.{Marked, alike_same}
use Rattle.merging.proofs.Rows.{field_now, held, join_now, row_kept}
use Rattle.merging.proofs.Walks.{at_end}

-- within a bucket keys need no comparison
abbrev pub one_key : ℕ → ℕ
one_key sum = 0

module _ (n : ℕ) (l : List ℤ) (p : ℕ) (new : List ℕ) (cnt base lim i len elen flag : ℕ) where
  -- what the walk along js, behind `last`, leaves of s and h
  pub record Walked (s : List ℤ) (h : Graph) (last : ℕ) (js : List ℕ) (m : Comparing) : Type 0 where
    pub now : Now n l p new cnt base lim m.mem (foldl (merge_one one_key i) h js) m.walk.logged
    pub chain : Chain n (rd n HNEXT m.mem) (rd n HNEXT m.mem last) (keep (λ j. not (same_lists h i j)) js)
    pub next : (v : ℕ) → v ≢ last → member v js ≡ false → rd n HNEXT m.mem v ≡ rd n HNEXT s v
    pub keeps : (v : ℕ) → Row n p new h v → (In v js → same_lists h i v ≡ false) → Row n p new (foldl (merge_one one_key i) h js) v
    pub fields : (c v : ℕ) → eqb NV c ≡ false → eqb LEN c ≡ false → eqb PE c ≡ false → eqb MERGES c ≡ false → eqb HNEXT c ≡ false → rd n c m.mem v ≡ rd n c s v
    pub others : (c v : ℕ) → v ≢ i → member v js ≡ false → eqb MERGES c ≡ false → eqb HNEXT c ≡ false → rd n c m.mem v ≡ rd n c s v

  alike_one : (h : Graph) (j : ℕ) → Row n p new h i → Row n p new h j → alike one_key h i j ≡ same_lists h i j
  unfolding alike key
  alike_one h j ri rj = rw (ri.heavy, rj.heavy)

  -- before the walk
  pub record Behind (s : List ℤ) (h : Graph) (last x log : ℕ) (js : List ℕ) : Type 0 where
    pub now : Now n l p new cnt base lim s h log
    pub first : Row n p new h i
    pub rows : (v : ℕ) → In v js → Row n p new h v
    pub distinct : Distinct js
    pub other : member i js ≡ false
    pub marked : Marked n s flag (entries_of h i)
    pub long : rd n LEN s i ≡ len
    pub many : rd n ELEN s i ≡ elen
    pub chain : Chain n (rd n HNEXT s) x js
    pub small : last < n
    pub before : member last js ≡ false
    pub link : rd n HNEXT s last ≡ x

  module _ (s : List ℤ) (h : Graph) (last x j : ℕ) (js : List ℕ) (log : ℕ) (once : Distinct new) (b : Behind s h last x log (j ∷ js)) where
    ij : i ≢ j
    ij = not_here i j js b.other

    rj : Row n p new h j
    rj = b.rows j (member_here j js)

    room : Room n s
    room = b.now.drawn.space.room

    abbrev s₁ : List ℤ
    s₁ = up n HNEXT (joined n s i j log) last (rd n HNEXT s j)

    room₁ : Room n (joined n s i j log)
    room₁ = join_room n s i j log room b.first.below rj.below ij

    field₁ : (c v : ℕ) → eqb NV c ≡ false → eqb LEN c ≡ false → eqb PE c ≡ false → eqb MERGES c ≡ false → eqb HNEXT c ≡ false → rd n c s₁ v ≡ rd n c s v
    field₁ c v e1 e2 e3 e4 e5 =
        rd_up_field n HNEXT c (joined n s i j log) last (rd n HNEXT s j) v e5 ∙ join_field n s i j log room b.first.below rj.below ij c v e1 e2 e3 e4

    other₁ : (c v : ℕ) → v ≢ i → v ≢ j → eqb MERGES c ≡ false → eqb HNEXT c ≡ false → rd n c s₁ v ≡ rd n c s v
    other₁ c v a d e1 e2 =
        rd_up_field n HNEXT c (joined n s i j log) last (rd n HNEXT s j) v e2 ∙ join_other n s i j log room b.first.below rj.below ij c v a d e1

    next₁ : (v : ℕ) → v ≢ last → rd n HNEXT s₁ v ≡ rd n HNEXT s v
    next₁ v d =
        let z : rd n HNEXT s₁ v ≡ rd n HNEXT (joined n s i j log) v = simp mem in
        z ∙ join_field n s i j log room b.first.below rj.below ij HNEXT v refl refl refl refl

    -- j is taken
    taken_behind : Behind s₁ (merge_into i j h) last (rd n HNEXT s j) (plus log 1) js
    unfolding merge_into put_kind put_reps put_parent put_weight
    taken_behind =
        record {
          now = field_now (joined n s i j log) (merge_into i j h) (join_now s h b.now i j b.first rj ij once) HNEXT last (rd n HNEXT s j)
              refl refl refl refl refl refl refl refl;
          first = row_kept h b.now.sized i j b.first ij i ij b.first;
          rows = λ v m. row_kept h b.now.sized i j b.first ij v (λ e. apart j v js b.distinct.0 m (sym e)) (b.rows v (member_there v j js m));
          distinct = b.distinct.1;
          other = not_there i j js b.other;
          marked = record { is = λ y a. rw (field₁ W y refl refl refl refl refl) (b.marked.is y a) };
          long = rd_up_field n HNEXT LEN (joined n s i j log) last (rd n HNEXT s j) i refl ∙ (join_gone n s i j log room b.first.below rj.below ij).len i ij ∙ b.long;
          many = field₁ ELEN i refl refl refl refl refl ∙ b.many;
          chain = chain_same n (rd n HNEXT s) (rd n HNEXT s₁) js (rd n HNEXT s j)
              (λ v m. next₁ v (λ e. apart last v js (not_there last j js b.before) m (sym e)))
              (subst (λ (z : ℕ). Chain n (rd n HNEXT s) z js) refl b.chain.2);
          small = b.small;
          before = not_there last j js b.before;
          link = simp (mem, room_yes n (joined n s i j log) room₁, lt-ltb last n b.small);
        }

    taken : (m : Comparing) → same_lists h i j ≡ true → Walked s₁ (merge_into i j h) last js m → Walked s h last (j ∷ js) m
    unfolding merge_one keep merge_into put_kind put_reps put_parent put_weight same_lists
    taken m e w =
        record {
          now = rw (alike_one h j b.first rj, e) w.now;
          chain = rw e w.chain;
          next = λ v d f. w.next v d (not_there v j js f) ∙ next₁ v d;
          keeps = λ v r f.
              rw (alike_one h j b.first rj, e)
              (w.keeps v
              (row_kept h b.now.sized i j b.first ij v (λ q. clash (same_lists h i j) e (ap (same_lists h i) (sym q) ∙ f (rw q (member_here j js)))) r)
              (λ z. f (member_there v j js z)));
          fields = λ c v e1 e2 e3 e4 e5. w.fields c v e1 e2 e3 e4 e5 ∙ field₁ c v e1 e2 e3 e4 e5;
          others = λ c v a f e1 e2. w.others c v a (not_there v j js f) e1 e2 ∙ other₁ c v a (not_here v j js f) e1 e2;
        }

    -- j is passed by
    passed_behind : Behind s h j (rd n HNEXT s j) log js
    passed_behind =
        record {
          now = b.now;
          first = b.first;
          rows = λ v m. b.rows v (member_there v j js m);
          distinct = b.distinct.1;
          other = not_there i j js b.other;
          marked = b.marked;
          long = b.long;
          many = b.many;
          chain = b.chain.2;
          small = rj.below;
          before = b.distinct.0;
          link = refl;
        }

    passed : (m : Comparing) → same_lists h i j ≡ false → Walked s h j js m → Walked s h last (j ∷ js) m
    unfolding merge_one keep
    passed m e w =
        let here : rd n HNEXT m.mem last ≡ j =
        w.next last (not_here last j js b.before) (not_there last j js b.before) ∙ b.link ∙ b.chain.0 in
        record {
          now = rw (alike_one h j b.first rj, e) w.now;
          chain = rw e (here, rj.below, w.chain);
          next = λ v d f. w.next v (not_here v j js f) (not_there v j js f);
          keeps = λ v r f. rw (alike_one h j b.first rj, e) (w.keeps v r (λ z. f (member_there v j js z)));
          fields = w.fields;
          others = λ c v a f. w.others c v a (not_there v j js f);
        }

    -- one turn
    abbrev m₀ : Comparing
    m₀ = comparing s (record { last = last; next = j; logged = log })

    abbrev mₜ : Comparing
    mₜ = comparing s₁ (record { last = last; next = rd n HNEXT s j; logged = plus log 1 })

    abbrev mₚ : Comparing
    mₚ = comparing s (record { last = j; next = rd n HNEXT s j; logged = log })

    more : (k : ℕ) → followers l n i len elen flag (suc k) m₀ ≡ followers l n i len elen flag k (compared l n i len elen flag m₀)
    unfolding followers
    more k = rw (lt-ltb j n rj.below)

    is_alike : alike_now l n s j len elen flag ≡ same_lists h i j
    is_alike = alike_same n l s h flag i j len elen (held s h b.now i b.first) (held s h b.now j rj) b.marked b.long b.many rj.few rj.once

    to_taken : same_lists h i j ≡ true → compared l n i len elen flag m₀ ≡ mₜ
    unfolding compared taken_next
    to_taken e = rw (is_alike, e)

    to_passed : same_lists h i j ≡ false → compared l n i len elen flag m₀ ≡ mₚ
    unfolding compared passed_next
    to_passed e = rw (is_alike, e)

    step : (k : ℕ) → (Behind s₁ (merge_into i j h) last (rd n HNEXT s j) (plus log 1) js → Walked s₁ (merge_into i j h) last js (followers l n i len elen flag k mₜ))
        → (Behind s h j (rd n HNEXT s j) log js → Walked s h j js (followers l n i len elen flag k mₚ)) → Walked s h last (j ∷ js) (followers l n i len elen flag (suc k) m₀)
    step k f g =
        rw (more k)
        (either (Walked s h last (j ∷ js) (followers l n i len elen flag k (compared l n i len elen flag m₀))) (same_lists h i j)
        (λ e. rw (to_taken e) (taken (followers l n i len elen flag k mₜ) e (f taken_behind)))
        (λ e. rw (to_passed e) (passed (followers l n i len elen flag k mₚ) e (g passed_behind))))

  -- the walks along js
  abbrev Walks : List ℕ → Type 0
  Walks js = (k : ℕ) (s : List ℤ) (h : Graph) (last x log : ℕ) → length js ≤ k → Behind s h last x log js
      → Walked s h last js (followers l n i len elen flag k (comparing s (record { last = last; next = x; logged = log })))

  walks_none : Walks []
  unfolding keep
  walks_none k s h last x log a b =
      rw (at_end l n i len elen flag k (comparing s (record { last = last; next = x; logged = log })) (omega (arith, b.chain)))
      record {
        now = b.now;
        chain = b.link ∙ b.chain;
        next = λ v d f. refl;
        keeps = λ v r f. r;
        fields = λ c v e1 e2 e3 e4 e5. refl;
        others = λ c v a f e1 e2. refl;
      }

  walks_more : Distinct new → (j : ℕ) (js : List ℕ) → Walks js → Walks (j ∷ js)
  walks_more once j js f zero s h last x log a b = absurd (omega arith)
  walks_more once j js f (suc k) s h last x log a b =
      rw b.chain.0
      (step s h last x j js log once b k
      (λ q. f k (up n HNEXT (joined n s i j log) last (rd n HNEXT s j)) (merge_into i j h) last (rd n HNEXT s j) (plus log 1) (omega arith) q)
      (λ q. f k s h j (rd n HNEXT s j) log (omega arith) q))

  -- K-b in memory: the walk
  pub walked : Distinct new → (js : List ℕ) (k : ℕ) (s : List ℤ) (h : Graph) (last x log : ℕ) → length js ≤ k → Behind s h last x log js
      → Walked s h last js (followers l n i len elen flag k (comparing s (record { last = last; next = x; logged = log })))
  walked once [] = walks_none
  walked once (j ∷ js) = walks_more once j js (walked once js)
