-- What step 5 leaves of the memory: fields that it never writes, rows that it does not compare, and marks, which only rise, and only at the entries of rows that it compares.
-- Assumes nothing.
use Prim.Native.Nat.{◌<◌, ◌≤◌, ℕ}
use native.Mathlib.Omega.{arith}
use mathlib.Core.Bool.{false}
use mathlib.Core.List.{List, [], ◌∷◌, foldl}
use mathlib.Core.Path.{◌∙◌, ◌≡◌, ap, refl}
use lib.Dec.{eqb}
use lib.IntN.{ℤ}
use Rattle.plain.proofs.Logic.{clash, cond_has, none_if}
use Rattle.plain.specs.Lists.{member}
use Rattle.plain.specs.Members.{In}
use Rattle.cells.proofs.Laws.{rd_up_field}
use Rattle.cells.specs.Layout.{HHEAD, HNEXT, LEN, MERGES, NV, PE, W}
use Rattle.cells.specs.View.{rd, up}
use Rattle.definition.specs.Merge.{alike, entries_of, merge_all, merge_one}
use Rattle.definition.specs.State.{Graph}
use Rattle.facts.proofs.Merging.{elements_kept, variables_kept}
use Rattle.facts.specs.Classes.{bucket_of, merge_buckets}

-- ---- no merge changes a list

module _ (key_of : ℕ → ℕ) (v : ℕ) where
  entries_one : (i j : ℕ) (h : Graph) → entries_of (merge_one key_of i h j) v ≡ entries_of h v
  unfolding merge_one
  entries_one i j h =
      cond_has (λ (x : Graph). entries_of x v ≡ entries_of h v) (alike key_of h i j) (λ _. rw (elements_kept i j h, variables_kept i j h)) (λ _. refl)

  pub entries_row : (i : ℕ) (js : List ℕ) (h : Graph) → entries_of (foldl (merge_one key_of i) h js) v ≡ entries_of h v
  entries_row i [] h = refl
  entries_row i (j ∷ js) h = entries_row i js (merge_one key_of i h j) ∙ entries_one i j h

  entries_all : (js : List ℕ) (h : Graph) → entries_of (merge_all key_of js h) v ≡ entries_of h v
  unfolding merge_all
  entries_all [] h = refl
  entries_all (i ∷ js) h = entries_all js (foldl (merge_one key_of i) h js) ∙ entries_row i js h

  pub entries_buckets : (place : ℕ → ℕ) (vs ks : List ℕ) (h : Graph) → entries_of (merge_buckets key_of place vs ks h) v ≡ entries_of h v
  unfolding merge_buckets
  entries_buckets place vs [] h = refl
  entries_buckets place vs (κ ∷ ks) h = entries_buckets place vs ks (merge_all key_of (bucket_of place vs κ) h) ∙ entries_all (bucket_of place vs κ) h

-- ---- from s to s', where the rows vs of h are compared

pub record Kept (n : ℕ) (vs : List ℕ) (h : Graph) (s s' : List ℤ) : Type 0 where
  pub fields : (c v : ℕ) → eqb NV c ≡ false → eqb LEN c ≡ false → eqb PE c ≡ false → eqb MERGES c ≡ false → eqb HNEXT c ≡ false → eqb W c ≡ false → eqb HHEAD c ≡ false
      → rd n c s' v ≡ rd n c s v
  pub others : (c v : ℕ) → member v vs ≡ false → eqb MERGES c ≡ false → eqb HNEXT c ≡ false → eqb W c ≡ false → eqb HHEAD c ≡ false → rd n c s' v ≡ rd n c s v
  pub higher : (y : ℕ) → y < n → rd n W s y ≤ rd n W s' y
  pub unmarked : (y : ℕ) → y < n → ((v : ℕ) → In v vs → member y (entries_of h v) ≡ false) → rd n W s' y ≡ rd n W s y

module _ (n : ℕ) (vs : List ℕ) (h : Graph) where
  pub kept_self : (s : List ℤ) → Kept n vs h s s
  kept_self s =
      record {
        fields = λ c v e1 e2 e3 e4 e5 e6 e7. refl;
        others = λ c v e e1 e2 e3 e4. refl;
        higher = λ y b. omega arith;
        unmarked = λ y b f. refl;
      }

  pub kept_then : (s s' s'' : List ℤ) → Kept n vs h s s' → Kept n vs h s' s'' → Kept n vs h s s''
  kept_then s s' s'' k k' =
      record {
        fields = λ c v e1 e2 e3 e4 e5 e6 e7. k'.fields c v e1 e2 e3 e4 e5 e6 e7 ∙ k.fields c v e1 e2 e3 e4 e5 e6 e7;
        others = λ c v e e1 e2 e3 e4. k'.others c v e e1 e2 e3 e4 ∙ k.others c v e e1 e2 e3 e4;
        higher = λ y b. omega (arith, k.higher y b, k'.higher y b);
        unmarked = λ y b f. k'.unmarked y b f ∙ k.unmarked y b f;
      }

  -- the head of a bucket
  pub kept_head : (s : List ℤ) (κ x : ℕ) → Kept n vs h s (up n HHEAD s κ x)
  kept_head s κ x =
      record {
        fields = λ c v e1 e2 e3 e4 e5 e6 e7. rd_up_field n HHEAD c s κ x v e7;
        others = λ c v e e1 e2 e3 e4. rd_up_field n HHEAD c s κ x v e4;
        higher = λ y b. omega (arith, rd_up_field n HHEAD W s κ x y refl);
        unmarked = λ y b f. rd_up_field n HHEAD W s κ x y refl;
      }

  -- fewer rows, of a graph with the same lists
  pub kept_fewer : (xs : List ℕ) (h' : Graph) (s s' : List ℤ) → ((v : ℕ) → In v xs → In v vs) → ((v : ℕ) → entries_of h' v ≡ entries_of h v) → Kept n xs h' s s' → Kept n vs h s s'
  kept_fewer xs h' s s' within same k =
      record {
        fields = k.fields;
        others = λ c v e. k.others c v (none_if (member v xs) (λ m. clash (member v vs) (within v m) e));
        higher = k.higher;
        unmarked = λ y b f. k.unmarked y b (λ v m. ap (member y) (same v) ∙ f v (within v m));
      }
