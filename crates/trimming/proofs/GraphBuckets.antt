-- The buckets that step 4 leaves are those of the trimmed graph.
-- Assumes nothing.
use Rattle.std.proofs.Common.{◌≡◌, ℕ, ◌+◌, ◌<◌, Bool, true, false, cond, not, ◌&&◌, eqb, ltb, List, reverse, ℤ, sym, refl, ap, ◌∙◌, subst, mod-lt, arith, lt-ltb}
use Rattle.plain.proofs.Folds.{keep_reverse}
use Rattle.plain.proofs.Logic.{either}
use Rattle.plain.proofs.Members.{keep_same, kept_was, member_reverse}
use Rattle.plain.proofs.Parts.{keep_keep}
use Rattle.plain.proofs.Sums.{total_append, total_rotate}
use Rattle.plain.specs.Lists.{itself, keep, rotate, total}
use Rattle.plain.specs.Members.{In}
use Rattle.plain.specs.Turns.{upd}
use Rattle.cells.specs.Layout.{HHEAD, HNEXT}
use Rattle.cells.specs.View.{rd}
use Rattle.definition.specs.Merge.{entries_of, key, plain_key}
use Rattle.definition.specs.Pivot.{collected, passed}
use Rattle.definition.specs.State.{Graph, State, elements_of, has_weight, variables_of, weight}
use Rattle.definition.specs.Trim.{kept_elements, kept_variables}
use Rattle.drawn.specs.Buckets.{Bucketed, Chain}
use Rattle.drawn.specs.Drawn.{list_of}
use Rattle.facts.proofs.Invariant.{var_inside, var_weighs}
use Rattle.facts.proofs.Stepped.{after_trim, elements2, is_mass, variables2, weight2}
use Rattle.facts.proofs.Weights.{compared_mass}
use Rattle.facts.specs.Classes.{bucket_of, newest_first}
use Rattle.facts.specs.Invariant.{Quotient}
use Rattle.trimming.specs.Model.{Trimming, key_of}
use Rattle.trimming.specs.Step.{Ready}
use Rattle.trimming.proofs.Done.{Done, alike, kept, keyed}
use Rattle.trimming.proofs.GraphMatch.{kept_elements_lem, kept_some, kept_variables_lem, row, some_kept}

-- for rows there are the code's key is the definition's
plain_key_lem : (n sum : ℕ) → 0 < n → key_of n sum ≡ plain_key n sum
unfolding key_of plain_key
plain_key_lem n sum b = rw (lt-ltb 0 n b)

plain_below : (n sum : ℕ) → 0 < n → plain_key n sum < n
unfolding plain_key
plain_below n sum b = mod-lt sum b

module _ {n : ℕ} {st : State} {p : ℕ} {l s : List ℤ} {cnt base lim flag : ℕ} (b : Ready n st p l s cnt base lim flag) (aggressive : Bool) (made : ℕ) (r : Trimming)
    (d : Done n p flag aggressive (upd (list_of (passed st.graph p)) p (collected st.graph p)) (elements_of (passed st.graph p)) (variables_of (passed st.graph p))
    l s cnt base lim made (collected st.graph p) r) where
  abbrev g : Graph
  g = st.graph

  abbrev g₁ : Graph
  g₁ = passed g p

  abbrev g₂ : Graph
  g₂ = after_trim aggressive g p

  abbrev new : List ℕ
  new = collected g p

  abbrev is_mass_lem : ℕ → Bool
  is_mass_lem = is_mass aggressive g p

  abbrev kept' : ℕ → ℕ
  kept' i = kept n p flag aggressive s (elements_of g₁) (variables_of g₁) i

  abbrev keyed' : ℕ → ℕ
  keyed' i = keyed n p flag aggressive s (elements_of g₁) (variables_of g₁) i

  abbrev place : ℕ → ℕ
  place = key (plain_key n) g₂

  q : Quotient n g
  q = b.inv.graph

  some_row : 0 < n
  some_row = omega (arith, var_inside q p b.var)

  sum_is : (i : ℕ) → In i new → is_mass_lem i ≡ false → total itself (entries_of g₂ i) ≡ total itself (kept_elements aggressive g₁ new i) + total itself (kept_variables g₁ p new i)
  sum_is i m k =
      rw (elements2 aggressive g p q b.var i m k, variables2 aggressive g p q b.var i m k)
      (total_append itself (rotate (kept_elements aggressive g₁ new i)) (rotate (kept_variables g₁ p new i))
      ∙ omega (arith, total_rotate itself (kept_elements aggressive g₁ new i), total_rotate itself (kept_variables g₁ p new i)))

  key_is : (i : ℕ) → In i new → is_mass_lem i ≡ false → keyed' i ≡ place i
  unfolding key
  key_is i m k = rw (kept_elements_lem b aggressive i m, kept_variables_lem b i m) (ap (key_of n) (sym (sum_is i m k)) ∙ plain_key_lem n (total itself (entries_of g₂ i)) some_row)

  weighs : (i : ℕ) → In i new → has_weight g₂ i ≡ not (is_mass_lem i)
  weighs i m = ap (ltb 0) (weight2 aggressive g p q b.var i m) ∙ go (is_mass_lem i)
    where
      go : (u : Bool) → ltb 0 (cond u 0 (weight g i)) ≡ not u
      go true = refl
      go false = var_weighs q i (row b i m)

  -- ---- the rows of one key

  test : (k i : ℕ) → In i new → ltb 0 (kept' i) && eqb (keyed' i) k ≡ eqb (place i) k && has_weight g₂ i
  test k i m =
      either (ltb 0 (kept' i) && eqb (keyed' i) k ≡ eqb (place i) k && has_weight g₂ i) (is_mass_lem i)
      (λ y. rw (kept_some b aggressive i m, weighs i m, y) (nothing (eqb (place i) k)))
      (λ y. rw (kept_some b aggressive i m, weighs i m, y, key_is i m y) (both (eqb (place i) k)))
    where
      nothing : (u : Bool) → false ≡ u && false
      nothing true = refl
      nothing false = refl

      both : (u : Bool) → u ≡ u && true
      both true = refl
      both false = refl

  bucket_is : (k : ℕ) → reverse (alike n p flag aggressive s (elements_of g₁) (variables_of g₁) k new) ≡ bucket_of place (newest_first g₂ new) k
  unfolding bucket_of newest_first
  bucket_is k =
      ap reverse (keep_same (λ i. ltb 0 (kept' i) && eqb (keyed' i) k) (λ i. eqb (place i) k && has_weight g₂ i) new (test k))
      ∙ ap reverse (sym (keep_keep (λ i. eqb (place i) k) (has_weight g₂) new))
      ∙ sym (keep_reverse (λ i. eqb (place i) k) (keep (has_weight g₂) new))

  newest : (v : ℕ) → In v (newest_first g₂ new) → In v (keep (has_weight g₂) new)
  unfolding newest_first
  newest v m = sym (member_reverse v (keep (has_weight g₂) new)) ∙ m

  key_below : (v : ℕ) → place v < n
  unfolding key
  key_below v = plain_below n (total itself (entries_of g₂ v)) some_row

  pub bucketed_after : ((k : ℕ) → k < n → rd n HHEAD s k ≡ n) → Bucketed n r.mem (plain_key n) (after_trim aggressive st.graph p) (collected st.graph p)
  bucketed_after heads =
      record {
        bucket = λ k c. subst (Chain n (rd n HNEXT r.mem) (rd n HHEAD r.mem k)) (bucket_is k) (d.buckets heads k c);
        keys = λ v m.
            let y = kept_was v (has_weight g₂) new (newest v m) in
            let z = compared_mass (λ x. x) aggressive g p q b.var v (newest v m) in
            d.keys v y (some_kept b aggressive v y z) ∙ key_is v y z;
        below = λ v m. key_below v;
      }
