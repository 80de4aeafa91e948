-- A row without weight gets none in step 5.
-- Assumes nothing.
use Prim.Native.Nat.{ℕ}
use mathlib.Core.Bool.{false}
use mathlib.Core.List.{List, [], ◌∷◌, foldl}
use mathlib.Core.Logic.{◌≢◌, ◌⊎◌, inl, inr}
use mathlib.Core.Path.{◌∙◌, ◌≡◌, ap, sym}
use lib.Dec.{ltb}
use Rattle.plain.proofs.Logic.{cond_has}
use Rattle.cells.proofs.Slices.{same?}
use Rattle.definition.specs.Merge.{merge_all, merge_one, alike}
use Rattle.definition.specs.State.{Graph, has_weight}
use Rattle.facts.proofs.Absorbing.{light_first, light_second}
use Rattle.facts.proofs.Merging.{weight_kept}

module _ (key_of : ℕ → ℕ) where
  light_other : (i j v : ℕ) (h : Graph) → has_weight h v ≡ false → v ≢ i → v ≢ j → has_weight (merge_one key_of i h j) v ≡ false
  unfolding merge_one
  light_other i j v h e a b =
      cond_has (λ (x : Graph). has_weight x v ≡ false) (alike key_of h i j) (λ _. ap (ltb 0) (weight_kept i j v h a b) ∙ e) (λ _. e)

  light_one : (i j v : ℕ) (h : Graph) → has_weight h v ≡ false → has_weight (merge_one key_of i h j) v ≡ false
  light_one i j v h e = go (same? v i) (same? v j)
    where
      go : (v ≡ i) ⊎ (v ≢ i) → (v ≡ j) ⊎ (v ≢ j) → has_weight (merge_one key_of i h j) v ≡ false
      go (inl a) b = rw (light_first key_of h i j (ap (has_weight h) (sym a) ∙ e)) e
      go (inr a) (inl b) = rw (light_second key_of h i j (ap (has_weight h) (sym b) ∙ e)) e
      go (inr a) (inr b) = light_other i j v h e a b

  light_row : (i v : ℕ) (js : List ℕ) (h : Graph) → has_weight h v ≡ false → has_weight (foldl (merge_one key_of i) h js) v ≡ false
  light_row i v [] h e = e
  light_row i v (j ∷ js) h e = light_row i v js (merge_one key_of i h j) (light_one i j v h e)

  pub light_all : (v : ℕ) (js : List ℕ) (h : Graph) → has_weight h v ≡ false → has_weight (merge_all key_of js h) v ≡ false
  unfolding merge_all
  light_all v [] h e = e
  light_all v (i ∷ js) h e = light_all v js (foldl (merge_one key_of i) h js) (light_row i v js h e)
