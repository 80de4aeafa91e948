-- What the degree lists are not touched by: a memory that agrees in the heads and in the links of the rows in the lists holds the same lists.
-- Assumes nothing.
use Prim.Native.Nat.{ℕ, ◌<◌, ◌≤◌}
use native.Mathlib.Omega.{arith}
use mathlib.Core.Path.{◌≡◌, sym, ap, ◌∙◌}
use mathlib.Core.Logic.{◌≢◌, ◌⊎◌, inl, inr}
use mathlib.Core.Bool.{false}
use mathlib.Core.List.{List, [], ◌∷◌}
use mathlib.Core.Option.{Option}
use lib.Dec.{eqb}
use lib.IntN.{ℤ}
use Rattle.plain.specs.Lists.{member}
use Rattle.plain.specs.Members.{In, All}
use Rattle.plain.proofs.Members.{member_nil, not_here, not_there, not_cons, apart}
use Rattle.plain.proofs.Folds.{all_in}
use Rattle.cells.specs.Layout.{DEGREE, NEXT, LAST, HEAD}
use Rattle.cells.specs.View.{rd, up}
use Rattle.cells.specs.Links.{hang}
use Rattle.cells.proofs.Laws.{mem}
use Rattle.chain.specs.Chained.{Links, links, Node, Seg, Chained}

-- two memories agree on row j
pub record Same (f g : Links) (j : ℕ) : Type 0 where
  pub next : g.next j ≡ f.next j
  pub back : g.last j ≡ f.last j
  pub deg : g.degree j ≡ f.degree j

-- what holds of all but i and h holds of a list that has neither
pub all_but : (P : ℕ → Type 0) (i h : ℕ) (l : List ℕ) → ((j : ℕ) → j ≢ i → j ≢ h → P j) → member i l ≡ false → member h l ≡ false → All P l
all_but P i h [] p u v = tt
all_but P i h (k ∷ l) p u v =
    (p k (λ e. not_here i k l u (sym e)) (λ e. not_here h k l v (sym e)), all_but P i h l p (not_there i k l u) (not_there h k l v))

module _ (n : ℕ) (f g : Links) (d : ℕ) where
  pub node_frame : (b x i : ℕ) → Same f g i → Node n f d b x i → Node n g d b x i
  node_frame b x i q h =
      record { here = h.here; small = h.small; back = q.back ∙ h.back; deg = q.deg ∙ h.deg }

  pub seg_frame : (b x : ℕ) (l : List ℕ) → All (Same f g) l → Seg n f d b x l → Seg n g d b x l
  seg_frame b x [] a h = h
  seg_frame b x (i ∷ l) a h =
      (node_frame b x i a.0 h.0, rw a.0.next (seg_frame i (f.next i) l a.1 h.1))

module _ (n : ℕ) (f : Links) (d : ℕ) where
  -- a number of another degree, or no row at all, is not in the list
  pub fresh_degree : (b x : ℕ) (l : List ℕ) (h : ℕ) → Seg n f d b x l → (n ≤ h) ⊎ (f.degree h ≢ d) → member h l ≡ false
  fresh_degree b x [] h q w = member_nil h
  fresh_degree b x (i ∷ l) h q (inl w) = not_cons h i l (λ e. omega (arith, q.0.small)) (fresh_degree i (f.next i) l h q.1 (inl w))
  fresh_degree b x (i ∷ l) h q (inr w) = not_cons h i l (λ e. w (ap f.degree e ∙ q.0.deg)) (fresh_degree i (f.next i) l h q.1 (inr w))

-- ---- the whole

module _ {n : ℕ} {s : List ℤ} {L : ℕ → List ℕ} (h : Chained n s L) where
  -- a store in another field, or in these fields of rows outside the lists, keeps them
  pub chained_frame : (r : List ℤ) → ((d : ℕ) → d < n → rd n HEAD r d ≡ rd n HEAD s d)
      → ((d i : ℕ) → d < n → In i (L d) → Same (links n s) (links n r) i) → Chained n r L
  chained_frame r a b =
      record {
        chain = λ d hd. rw (a d hd) (seg_frame n (links n s) (links n r) d n (rd n HEAD s d) (L d) (all_in _ (L d) (λ i m. b d i hd m)) (h.chain d hd));
        distinct = h.distinct;
      }

  -- the same for whole fields
  pub chained_same : (r : List ℤ) → ((i : ℕ) → rd n HEAD r i ≡ rd n HEAD s i) → ((i : ℕ) → rd n NEXT r i ≡ rd n NEXT s i)
      → ((i : ℕ) → rd n LAST r i ≡ rd n LAST s i) → ((i : ℕ) → rd n DEGREE r i ≡ rd n DEGREE s i) → Chained n r L
  chained_same r a b c e = chained_frame r (λ d hd. a d) (λ d i hd m. record { next = b i; back = c i; deg = e i })

  -- the same lists by other words
  pub chained_lists : (M : ℕ → List ℕ) → ((d : ℕ) → d < n → M d ≡ L d) → Chained n s M
  chained_lists M e =
      record {
        chain = λ d hd. rw (e d hd) (h.chain d hd);
        distinct = λ d hd. rw (e d hd) (h.distinct d hd);
      }

  -- a row stands in no list but that of its degree
  pub only_degree : (d i : ℕ) → d < n → rd n DEGREE s i ≢ d → member i (L d) ≡ false
  only_degree d i hd w = fresh_degree n (links n s) d n (rd n HEAD s d) (L d) i (h.chain d hd) (inr w)

-- ---- one store

module _ (n : ℕ) (s : List ℤ) (L : ℕ → List ℕ) (h : Chained n s L) where
  -- in another field
  pub chained_up : (f i v : ℕ) → eqb f HEAD ≡ false → eqb f NEXT ≡ false → eqb f LAST ≡ false → eqb f DEGREE ≡ false → Chained n (up n f s i v) L
  chained_up f i v a b c d = chained_same h (up n f s i v) (λ j. simp (mem, a)) (λ j. simp (mem, b)) (λ j. simp (mem, c)) (λ j. simp (mem, d))

  pub chained_hang : (i : ℕ) (p : Option ℕ) → Chained n (hang n s i p) L
  chained_hang i p = chained_same h (hang n s i p) (λ j. simp mem) (λ j. simp mem) (λ j. simp mem) (λ j. simp mem)

  -- the degree of a row that stands in no list
  pub chained_degree : (i v : ℕ) → ((e : ℕ) → e < n → member i (L e) ≡ false) → Chained n (up n DEGREE s i v) L
  chained_degree i v out =
      chained_frame h (up n DEGREE s i v) (λ d hd. simp mem)
      (λ d j hd m. let ne : i ≢ j = apart i j (L d) (out d hd) m in record { next = simp mem; back = simp mem; deg = simp mem })
