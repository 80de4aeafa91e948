-- The log of merges after one more, and after a store beside it.
-- Assumes nothing.
use Prim.Native.Nat.{◌+◌, ◌<◌, ◌≤◌, suc, zero, ℕ}
use native.Mathlib.Omega.{arith}
use mathlib.Core.Bool.{true, false}
use mathlib.Core.List.{List, [], ◌∷◌, ◌++◌}
use mathlib.Core.Logic.{◌≢◌, ◌⊎◌, inl, inr}
use mathlib.Core.Option.{some}
use mathlib.Core.Path.{◌∙◌, ◌≡◌, ap, refl, sym}
use borrow.Author.Tests.{eqb-false}
use lib.Dec.{eqb}
use lib.IntN.{ℤ}
use lib.ListN.{drop, get_or, length}
use Rattle.plain.proofs.Entries.{entries_same, entries_snoc}
use Rattle.plain.proofs.Logic.{clash, either, or_elim}
use Rattle.plain.proofs.Members.{member_append, member_cases, member_here, member_there, no_member}
use Rattle.plain.proofs.Positions.{member_get_or}
use Rattle.plain.proofs.Repeats.{distinct_snoc, length_below}
use Rattle.plain.specs.Lists.{member}
use Rattle.plain.specs.Members.{Distinct, In}
use Rattle.plain.specs.Turns.{entries}
use Rattle.cells.proofs.Segments.{entries_up_other}
use Rattle.cells.proofs.Slices.{same?, split}
use Rattle.cells.specs.Layout.{MERGES}
use Rattle.cells.specs.Links.{linked}
use Rattle.cells.specs.View.{Room, rd, up}
use Rattle.definition.specs.State.{Graph, is_merged, kind, merge_into, parent}
use Rattle.drawn.specs.Log.{Logged}
use Rattle.facts.proofs.Classes.{parent_gone}
use Rattle.facts.proofs.Merging.{kind_gone, kind_kept, parent_kept}
use Rattle.facts.specs.Invariant.{Sized}
use Rattle.merging.specs.Model.{joined}
use Rattle.merging.proofs.Joins.{join_log, join_logged}

-- a store in another field
pub logged_field : (n : ℕ) (s : List ℤ) (g : Graph) (ms : List ℕ) (c a v : ℕ) → eqb c MERGES ≡ false → Logged n s g ms → Logged n (up n c s a v) g ms
logged_field n s g ms c a v e k =
    record {
      log = entries_up_other n c s a v MERGES 0 (length ms) (λ q. eqb-false c MERGES e q) ∙ k.log;
      once = k.once;
      inside = k.inside;
      all = k.all;
      later = k.later;
    }

-- ---- one more at the end

module _ (j : ℕ) where
  pub len_more : (ms : List ℕ) → length (ms ++ (j ∷ [])) ≡ suc (length ms)
  len_more [] = refl
  len_more (m ∷ ms) = ap suc (len_more ms)

  at_before : (ms : List ℕ) (t : ℕ) → t < length ms → get_or (ms ++ (j ∷ [])) t 0 ≡ get_or ms t 0
  at_before [] t a = absurd (omega arith)
  at_before (m ∷ ms) zero a = refl
  at_before (m ∷ ms) (suc t) a = at_before ms t (omega arith)

  at_last : (ms : List ℕ) → get_or (ms ++ (j ∷ [])) (length ms) 0 ≡ j
  at_last [] = refl
  at_last (m ∷ ms) = at_last ms

  in_more : (x : ℕ) (ms : List ℕ) → In x ms → In x (ms ++ (j ∷ []))
  in_more x ms m = member_append x ms (j ∷ []) ∙ rw m

  in_last : (ms : List ℕ) → In j (ms ++ (j ∷ []))
  in_last [] = member_here j []
  in_last (m ∷ ms) = member_there j m (ms ++ (j ∷ [])) (in_last ms)

  in_either : (x : ℕ) (ms : List ℕ) → In x (ms ++ (j ∷ [])) → In x ms ⊎ (x ≡ j)
  in_either x [] m = member_cases (In x [] ⊎ (x ≡ j)) x j [] m (λ q. inr q) (λ _ z. no_member x z)
  in_either x (y ∷ ms) m =
      member_cases (In x (y ∷ ms) ⊎ (x ≡ j)) x y (ms ++ (j ∷ [])) m (λ q. inl (rw q (member_here y ms)))
      (λ _ z. or_elim (In x (y ∷ ms) ⊎ (x ≡ j)) (in_either x ms z) (λ f. inl (member_there x y ms f)) (λ q. inr q))

  drop_more : (x : ℕ) (ms : List ℕ) (k : ℕ) → In x (drop k ms) → In x (drop k (ms ++ (j ∷ [])))
  drop_more x ms zero m = in_more x ms m
  drop_more x [] (suc k) m = no_member x m
  drop_more x (y ∷ ms) (suc k) m = drop_more x ms k m

  drop_last : (ms : List ℕ) (k : ℕ) → k ≤ length ms → In j (drop k (ms ++ (j ∷ [])))
  drop_last ms zero a = in_last ms
  drop_last [] (suc k) a = absurd (omega arith)
  drop_last (y ∷ ms) (suc k) a = drop_last ms k (omega arith)

some_is : (a b : ℕ) → some a ≡ some b → a ≡ b
some_is a b e = ap (linked 0) e

module _ (n : ℕ) (s : List ℤ) (g : Graph) (ms : List ℕ) (k : Logged n s g ms) (room : Room n s) (sized : Sized n g) (i j : ℕ) (hi : i < n) (hj : j < n) (d : i ≢ j)
    (ni : is_merged (kind g i) ≡ false) (nj : is_merged (kind g j) ≡ false) where
  fresh : member j ms ≡ false
  fresh = either (member j ms ≡ false) (member j ms) (λ m. clash (is_merged (kind g j)) (k.inside j m).1 nj) (λ m. m)

  not_j : (v : ℕ) → In v ms → v ≢ j
  not_j v m q = clash (member j ms) (rw (← q) m) fresh

  below_n : (v : ℕ) → In v (ms ++ (j ∷ [])) → v < n
  below_n v m = or_elim (v < n) (in_either j v ms m) (λ z. (k.inside v z).0) (λ q. rw q hj)

  distinct : Distinct (ms ++ (j ∷ []))
  distinct = distinct_snoc j ms k.once fresh

  short : length ms < n
  short = omega (arith, length_below n (ms ++ (j ∷ [])) distinct below_n, len_more j ms)

  abbrev s' : List ℤ
  s' = joined n s i j (length ms)

  abbrev t : Graph
  t = merge_into i j g

  log : entries (rd n MERGES s') 0 (length (ms ++ (j ∷ []))) ≡ ms ++ (j ∷ [])
  log =
      let z : 0 + length ms ≡ length ms = omega arith in
      rw (len_more j ms, entries_snoc (rd n MERGES s') 0 (length ms), z, join_logged n s i j (length ms) room hi hj d short)
      (ap (λ (x : List ℕ). x ++ (j ∷ []))
      (entries_same (rd n MERGES s) (rd n MERGES s') 0 0 (length ms) (λ u a. join_log n s i j (length ms) room hi hj d (0 + u) (omega arith)) ∙ k.log))

  is_merged_lem : (v : ℕ) → In v (ms ++ (j ∷ [])) → is_merged (kind t v) ≡ true
  is_merged_lem v m =
      or_elim (is_merged (kind t v) ≡ true) (in_either j v ms m) (λ z. rw (kind_kept i j v g (not_j v z)) (k.inside v z).1) (λ q. rw (q, kind_gone i j g sized hj))

  all : (v : ℕ) → v < n → is_merged (kind t v) ≡ true → (v ≡ j) ⊎ (v ≢ j) → In v (ms ++ (j ∷ []))
  all v b e (inl q) = rw q (in_last j ms)
  all v b e (inr q) = in_more j v ms (k.all v b (ap is_merged (sym (kind_kept i j v g q)) ∙ e))

  -- whoever took an earlier row
  before : (u p : ℕ) → u < length ms → (p ≡ j) ⊎ (p ≢ j) → (is_merged (kind g p) ≡ false) ⊎ In p (drop (suc u) ms)
      → (is_merged (kind t p) ≡ false) ⊎ In p (drop (suc u) (ms ++ (j ∷ [])))
  before u p a (inl q) f = inr (rw q (drop_last j ms (suc u) (omega arith)))
  before u p a (inr q) (inl f) = inl (rw (kind_kept i j p g q) f)
  before u p a (inr q) (inr f) = inr (drop_more j p ms (suc u) f)

  later : (u p : ℕ) → u < length (ms ++ (j ∷ [])) → parent t (get_or (ms ++ (j ∷ [])) u 0) ≡ some p → (u < length ms) ⊎ (length ms ≤ u)
      → (is_merged (kind t p) ≡ false) ⊎ In p (drop (suc u) (ms ++ (j ∷ [])))
  later u p a e (inl b) =
      before u p b (same? p j)
      (k.later u p b (sym (parent_kept i j (get_or ms u 0) g (not_j (get_or ms u 0) (member_get_or ms u b))) ∙ ap (parent t) (sym (at_before j ms u b)) ∙ e))
  later u p a e (inr b) =
      let z : u ≡ length ms = omega (arith, len_more j ms) in
      let q : i ≡ p = some_is i p (sym (parent_gone i j g sized hj) ∙ ap (parent t) (sym (at_last j ms) ∙ ap (λ (x : ℕ). get_or (ms ++ (j ∷ [])) x 0) (sym z)) ∙ e) in
      inl (rw (← q, kind_kept i j i g d) ni)

  -- one merge more
  pub logged_join : Logged n s' t (ms ++ (j ∷ []))
  logged_join =
      record {
        log = log;
        once = distinct;
        inside = λ v m. (below_n v m, is_merged_lem v m);
        all = λ v b e. all v b e (same? v j);
        later = λ u p a e. later u p a e (split u (length ms));
      }

  pub log_short : length ms < n
  log_short = short
