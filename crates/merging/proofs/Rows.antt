-- The rows that step 5 compares: what a merge, a mark and a link leave of them, and that the memory holds their lists.
-- Assumes nothing.
use Prim.Native.Nat.{◌+◌, ◌<◌, ◌^◌, ℕ}
use native.Mathlib.Omega.{arith}
use mathlib.Core.Bool.{true, false}
use mathlib.Core.List.{List, [], ◌∷◌, ◌++◌, foldl}
use mathlib.Core.Logic.{◌≢◌, ◌⊎◌, inl, inr}
use mathlib.Core.Path.{◌∙◌, ◌≡◌, ap, refl, subst⁻¹, sym}
use borrow.Author.Tests.{lt-ltb, ltb-true}
use lib.Dec.{eqb, ltb}
use lib.IntN.{ℤ}
use Rattle.plain.proofs.Entries.{upd_other}
use Rattle.plain.proofs.Members.{member_cases, member_nil, no_member, not_cons}
use Rattle.plain.proofs.Sums.{total_within}
use Rattle.plain.specs.Lists.{is_none, total}
use Rattle.plain.specs.Members.{Distinct, In}
use Rattle.plain.specs.Turns.{upd}
use Rattle.cells.proofs.Laws.{parent_up_field, rd_up_field}
use Rattle.cells.proofs.Slices.{plus_sum, same?}
use Rattle.cells.specs.Layout.{DEGREE, ELEN, LEN, MERGES, NV, ORD, PE, W, WANT}
use Rattle.cells.specs.View.{Room, plus, up}
use Rattle.definition.specs.State.{Graph, has_weight, is_merged, is_variable, kind, merge_into, put_kind, put_parent, put_reps, put_weight, weight}
use Rattle.drawn.specs.Drawn.{list_of}
use Rattle.drawn.specs.Log.{Logged}
use Rattle.facts.proofs.Invariant.{var_not_merged}
use Rattle.facts.proofs.Merging.{kind_kept, parent_kept, part_moved, weight_into, weight_kept}
use Rattle.facts.proofs.Sizes.{sized_merge_into}
use Rattle.facts.specs.Invariant.{Sized}
use Rattle.packed.proofs.Frame.{ends}
use Rattle.packed.proofs.Spaces.{space_field}
use Rattle.packed.specs.Places.{places}
use Rattle.merging.specs.Rows.{Now, Row}
use Rattle.merging.specs.Model.{joined}
use Rattle.merging.proofs.Joins.{join_drawn}
use Rattle.merging.proofs.Logs.{len_more, log_short, logged_field, logged_join}
use Rattle.merging.proofs.Marks.{Held}

-- ---- a row after a merge

module _ {n p : ℕ} {new : List ℕ} (h : Graph) (sized : Sized n h) (i j : ℕ) (ri : Row n p new h i) (d : i ≢ j) where
  heavy_still : (v : ℕ) → has_weight h v ≡ true → v ≢ j → (v ≡ i) ⊎ (v ≢ i) → has_weight (merge_into i j h) v ≡ true
  heavy_still v a f (inl e) = rw e (lt-ltb 0 (weight (merge_into i j h) i) (omega (arith, ltb-true 0 (weight h i) ri.heavy, weight_into i j h sized ri.below d)))
  heavy_still v a f (inr e) = ap (ltb 0) (weight_kept i j v h e f) ∙ a

  pub row_kept : (v : ℕ) → v ≢ j → Row n p new h v → Row n p new (merge_into i j h) v
  unfolding merge_into put_kind put_reps put_parent put_weight
  row_kept v f r =
      record {
        below = r.below;
        other = r.other;
        inside = r.inside;
        heavy = heavy_still v r.heavy f (same? v i);
        is = ap is_variable (kind_kept i j v h f) ∙ r.is;
        orphan = ap is_none (parent_kept i j v h f) ∙ r.orphan;
        rest = r.rest;
        elements = r.elements;
        few = r.few;
        once = r.once;
      }

-- ---- what the memory holds

module _ {n : ℕ} {l : List ℤ} {p : ℕ} {new : List ℕ} {cnt base lim log : ℕ} (s : List ℤ) (h : Graph) (k : Now n l p new cnt base lim s h log) where
  pub held : (v : ℕ) → Row n p new h v → Held n l s h v
  unfolding list_of
  held v r =
      record {
        list = k.drawn.space.lists.lists v ∙ upd_other (list_of h) p new v r.other ∙ rw (r.heavy, r.orphan);
        elen = k.drawn.elens v r.is;
        first = p;
        rest = r.rest;
        elements = r.elements;
        inside = λ z. omega (arith, ends l (places n s) lim (upd (list_of h) p new) k.drawn.space.lists v z, k.drawn.space.lists.fits);
      }

  both_weights : (i j : ℕ) → Row n p new h i → Row n p new h j → i ≢ j → Distinct new → weight h i + weight h j < 2 ^ 63
  unfolding total
  both_weights i j ri rj d e =
      omega (
        arith,
        k.light,
        total_within (weight h) (i ∷ j ∷ []) new (not_cons i j [] d (member_nil i), (member_nil j, tt)) e
            (λ x m. member_cases (In x new) x i (j ∷ []) m (λ q. rw q ri.inside)
            (λ _ f. member_cases (In x new) x j [] f (λ q. rw q rj.inside) (λ _ z. no_member x z))),
      )

  unmerged : (v : ℕ) → Row n p new h v → is_merged (kind h v) ≡ false
  unmerged v r = var_not_merged (kind h v) r.is

  -- a merge
  pub join_now : (i j : ℕ) → Row n p new h i → Row n p new h j → i ≢ j → Distinct new → Now n l p new cnt base lim (joined n s i j log) (merge_into i j h) (plus log 1)
  join_now i j ri rj d e =
      let room : Room n s = k.drawn.space.room in
      let ni = unmerged i ri in
      let nj = unmerged j rj in
      let short = log_short n s h k.ms k.logged room k.sized i j ri.below rj.below d ni nj in
      record {
        drawn = join_drawn l s h p new cnt base lim k.drawn k.sized i j log ri.below rj.below d rj.other ri.inside rj.inside ri.heavy
            (both_weights i j ri rj d e);
        sized = sized_merge_into i j h k.sized;
        light = rw (part_moved (λ v. true) i j h new k.sized ri.below rj.below d refl e ri.inside rj.inside) k.light;
        small = k.small;
        ms = k.ms ++ (j ∷ []);
        logged = subst⁻¹ (λ (z : ℕ). Logged n (joined n s i j z) (merge_into i j h) (k.ms ++ (j ∷ []))) k.count
            (logged_join n s h k.ms k.logged room k.sized i j ri.below rj.below d ni nj);
        count = plus_sum log 1 (omega (arith, k.count, k.small)) ∙ omega (arith, k.count, len_more j k.ms);
      }

  -- a store in a field of the buckets or of the marks
  pub field_now : (c a v : ℕ) → eqb c PE ≡ false → eqb c LEN ≡ false → eqb c ORD ≡ false → eqb c NV ≡ false → eqb c WANT ≡ false → eqb c ELEN ≡ false
      → eqb c DEGREE ≡ false → eqb c MERGES ≡ false → Now n l p new cnt base lim (up n c s a v) h log
  field_now c a v e1 e2 e3 e4 e5 e6 e7 e8 =
      let d = k.drawn in
      record {
        drawn = record {
          space = space_field n (upd (list_of h) p new) l s cnt base lim d.space c a v e1 e2 e3;
          weights = λ x b. rd_up_field n c NV s a v x e4 ∙ d.weights x b;
          wants = λ x b. rd_up_field n c WANT s a v x e5 ∙ d.wants x b;
          elens = λ x b. rd_up_field n c ELEN s a v x e6 ∙ d.elens x b;
          degrees = λ x b. rd_up_field n c DEGREE s a v x e7 ∙ d.degrees x b;
          parents = λ x b z. parent_up_field n c s a v x e1 ∙ d.parents x b (sym (rd_up_field n c LEN s a v x e2) ∙ z);
        };
        sized = k.sized;
        light = k.light;
        small = k.small;
        ms = k.ms;
        logged = logged_field n s h k.ms c a v e8 k.logged;
        count = k.count;
      }

-- many marks
pub marks_now : {n : ℕ} {l : List ℤ} {p : ℕ} {new : List ℕ} {cnt base lim log : ℕ} (flag : ℕ) (xs : List ℕ) (s : List ℤ) (h : Graph)
    → Now n l p new cnt base lim s h log → Now n l p new cnt base lim (foldl (λ m x. up n W m x flag) s xs) h log
marks_now flag [] s h k = k
marks_now {n} flag (x ∷ xs) s h k = marks_now flag xs (up n W s x flag) h (field_now s h k W x flag refl refl refl refl refl refl refl refl)
