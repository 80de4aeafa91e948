-- What the rows of step 4 ask on plain data, for the definition's graph: `fine`, `once`, `pivot` and `far` of `Rowwise`.
-- Assumes nothing.
use Rattle.std.proofs.Common.{◌≡◌, ℕ, ◌+◌, ◌<◌, Bool, true, false, ltb, ◌⊎◌, List, ◌++◌, ℤ, sym, ap, ◌∙◌, inl, inr}
use mathlib.Core.Path.{subst⁻¹}
use Rattle.plain.proofs.Parts.{entries_once}
use Rattle.plain.proofs.Entries.{upd_other, upd_same}
use Rattle.plain.proofs.Logic.{and_both}
use Rattle.plain.specs.Lists.{member}
use Rattle.plain.specs.Members.{Distinct, In}
use Rattle.plain.specs.Turns.{entries, upd}
use Rattle.cells.specs.Layout.{LEN, PE}
use Rattle.cells.specs.View.{at, rd}
use Rattle.definition.specs.Pivot.{collected, passed}
use Rattle.definition.specs.State.{Graph, State, elements_of, has_weight, is_variable, live, variables_of}
use Rattle.drawn.specs.Drawn.{list_of}
use Rattle.facts.proofs.Collected.{collected_apart, distinct_collected, pivot_outside}
use Rattle.facts.proofs.Facts.{own_place}
use Rattle.facts.proofs.Invariant.{var_elsewhere, var_inside, var_weighs}
use Rattle.facts.specs.Invariant.{Quotient, Var}
use Rattle.trimming.specs.Step.{Ready}
use Rattle.trimming.proofs.GraphBounds.{light}
use Rattle.trimming.proofs.GraphMatch.{elements1, kept_elements_lem, kept_variables_lem, kinds1, orphan1, row, variables1, weights1}
use Rattle.trimming.proofs.Rowwise.{Fine}

module _ {n : ℕ} {st : State} {p : ℕ} {l s : List ℤ} {cnt base lim flag : ℕ} (b : Ready n st p l s cnt base lim flag) where
  abbrev g : Graph
  g = st.graph

  abbrev g₁ : Graph
  g₁ = passed g p

  abbrev new : List ℕ
  new = collected g p

  abbrev X : ℕ → List ℕ
  X = upd (list_of g₁) p new

  q : Quotient n g
  q = b.inv.graph

  pub pivot_inside : p < n
  pivot_inside = var_inside q p b.var

  -- the list of the new element
  pub rows : entries (at l) (rd n PE s p) (rd n LEN s p) ≡ collected st.graph p
  rows = b.drawn.space.lists.lists p ∙ upd_same (list_of g₁) p new

  pub row_list : (i : ℕ) → In i (collected st.graph p) → upd (list_of (passed st.graph p)) p (collected st.graph p) i ≡ elements_of (passed st.graph p) i ++ variables_of (passed st.graph p) i
  unfolding list_of
  row_list i m =
      let vi = row b i m in
      let w : has_weight g₁ i ≡ true = ap (ltb 0) (weights1 g p i) ∙ var_weighs q i vi in
      upd_other (list_of g₁) p new i (collected_apart g p i m) ∙ rw (and_both (has_weight g₁ i) (live g₁ i) w (orphan1 q p b.var i vi))

  -- ---- THE hypotheses of the rows

  pub once : (t : ℕ) → t < rd n LEN s p → member (at l (rd n PE s p + t)) (entries (at l) (rd n PE s p) t) ≡ false
  once t c = entries_once (at l) (rd n PE s p) (rd n LEN s p) t c (subst⁻¹ Distinct rows (distinct_collected g p))

  pub pivot : member p (entries (at l) (rd n PE s p) (rd n LEN s p)) ≡ false
  pivot = ap (member p) rows ∙ pivot_outside g p

  pub far : (i x : ℕ) → In i (entries (at l) (rd n PE s p) (rd n LEN s p)) → (x ≡ p) ⊎ In x (entries (at l) (rd n PE s p) (rd n LEN s p))
      → member x (elements_of (passed st.graph p) i) ≡ false
  far i x m o = ap (member x) (elements1 g p i) ∙ var_elsewhere q i x (row b i (ap (member i) (sym rows) ∙ m)) (is_var o)
    where
      is_var : (x ≡ p) ⊎ In x (entries (at l) (rd n PE s p) (rd n LEN s p)) → Var g x
      is_var (inl e) = subst⁻¹ (λ (y : ℕ). Var g y) e b.var
      is_var (inr k) = row b x (ap (member x) (sym rows) ∙ k)

  module _ (aggressive : Bool) where
    fine_row : (i : ℕ) → In i new → Fine n p flag aggressive X s i (elements_of g₁ i) (variables_of g₁ i)
    fine_row i m =
        record {
          inside = var_inside q i (row b i m);
          list = row_list i m;
          elen = b.drawn.elens i (ap is_variable (kinds1 g p i) ∙ row b i m);
          own = rw (kept_elements_lem b aggressive i m, kept_variables_lem b i m, elements1 g p i, variables1 g p i) (own_place aggressive g p q b.var i m);
          light = light b aggressive i m;
        }

    pub fine : (i : ℕ) → In i (entries (at l) (rd n PE s p) (rd n LEN s p))
        → Fine n p flag aggressive (upd (list_of (passed st.graph p)) p (collected st.graph p)) s i (elements_of (passed st.graph p) i) (variables_of (passed st.graph p) i)
    fine i m = fine_row i (ap (member i) (sym rows) ∙ m)
