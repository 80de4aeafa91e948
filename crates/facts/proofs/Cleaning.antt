-- E4: the cleaned columns rise, stay in range, and have no more entries than the given ones. Those of a jumbled pattern are its transpose, so that
-- A+A' is the same.
-- Assumes nothing.
use Prim.Native.Nat.{ℕ, ◌≤◌, ◌<◌}
use native.Mathlib.Omega.{arith}
use native.Mathlib.Decide.{dec_lt}
use mathlib.Core.Path.{◌≡◌, refl, sym, ap, ◌∙◌}
use mathlib.Core.Bool.{Bool, true, false, cond, not, ◌&&◌, ◌||◌}
use mathlib.Core.List.{List, []}
use lib.ListN.{length, get_or, get_or-eq_default}
use Rattle.plain.proofs.Logic.{cond_has}
use Rattle.plain.proofs.Members.{no_member, member_keep, kept_was, member_up_to, up_to_below}
use Rattle.plain.proofs.Folds.{all_of}
use Rattle.plain.proofs.Positions.{get_or_counted, length_counted, every_at}
use Rattle.plain.proofs.Rising.{rises_kept, rises_none}
use Rattle.plain.proofs.Sums.{total_map, total_same, total_swap, total_keep, total_ones, total_below}
use Rattle.plain.proofs.Counting.{total_places, members_below}
use Rattle.plain.specs.Lists.{member, up_to, every, rises, total}
use Rattle.definition.specs.Pattern.{jumbled}
use Rattle.definition.specs.Cleaned.{columns_with, transposed, cleaned}

module _ (cols : List (List ℕ)) where
  abbrev n : ℕ
  n = length cols

  abbrev col : ℕ → List ℕ
  col j = get_or cols j []

  -- ---- the transpose

  length_transposed : length (transposed cols) ≡ n
  unfolding transposed
  length_transposed = length_counted (columns_with cols) 0 n

  row_in : (v : ℕ) → v < n → get_or (transposed cols) v [] ≡ columns_with cols v
  unfolding transposed
  row_in v l = get_or_counted (columns_with cols) [] 0 n v l ∙ ap (columns_with cols) (omega arith)

  row_out : (v : ℕ) → n ≤ v → get_or (transposed cols) v [] ≡ []
  row_out v l = get_or-eq_default (transposed cols) [] {n = v} (rw length_transposed l)

  rises_transposed : (k : ℕ) → rises (get_or (transposed cols) k []) ≡ true
  unfolding columns_with
  rises_transposed k = go (dec_lt k n)
    where
      go : Dec (k < n) → rises (get_or (transposed cols) k []) ≡ true
      go (yes l) = ap rises (row_in k l) ∙ rises_kept (λ j. member k (col j)) 0 n
      go (no l) = ap rises (row_out k (omega arith)) ∙ rises_none

  inside_transposed : (k i : ℕ) → member i (get_or (transposed cols) k []) ≡ true → i < n
  unfolding columns_with
  inside_transposed k i m = go (dec_lt k n)
    where
      go : Dec (k < n) → i < n
      go (yes l) = up_to_below i n (kept_was i (λ j. member k (col j)) (up_to n) (ap (member i) (sym (row_in k l)) ∙ m))
      go (no l) = no_member i (ap (member i) (sym (row_out k (omega arith))) ∙ m)

  -- v has w in the transpose where w has v
  pub member_transposed : (v w : ℕ) → v < n → w < n → member w (get_or (transposed cols) v []) ≡ member v (col w)
  unfolding columns_with
  member_transposed v w lv lw =
      ap (member w) (row_in v lv) ∙ member_keep w (λ j. member v (col j)) (up_to n) ∙ ap (λ (b : Bool). member v (col w) && b) (member_up_to w n lw) ∙ and_true (member v (col w))
    where
      and_true : (b : Bool) → b && true ≡ b
      and_true true = refl
      and_true false = refl

  -- double counting
  entries_transposed : total length (transposed cols) ≤ total length cols
  unfolding transposed columns_with
  entries_transposed =
      omega (
        arith,
        total_map length (columns_with cols) (up_to n),
        total_same (λ i. length (columns_with cols i)) (λ i. total (λ j. cond (member i (col j)) 1 0) (up_to n)) (up_to n)
            (all_of _ (up_to n) (λ i. sym (total_ones (columns_with cols i)) ∙ total_keep (λ j. 1) (λ j. member i (col j)) (up_to n))),
        total_swap (λ i j. cond (member i (col j)) 1 0) (up_to n) (up_to n),
        total_below (λ j. total (λ i. cond (member i (col j)) 1 0) (up_to n)) (λ j. length (col j)) (up_to n) (λ j m. members_below n (col j)),
        total_places length [] cols,
      )

  -- ---- the cleaned columns: E4

  -- a pattern that is not jumbled stays as it is
  pub cleaned_same : jumbled cols ≡ false → cleaned cols ≡ cols
  unfolding cleaned
  cleaned_same h = ap (λ (b : Bool). cond b (transposed cols) cols) h

  pub cleaned_jumbled : jumbled cols ≡ true → cleaned cols ≡ transposed cols
  unfolding cleaned
  cleaned_jumbled h = ap (λ (b : Bool). cond b (transposed cols) cols) h

  -- and the entries of a jumbled one change places
  pub member_cleaned : jumbled cols ≡ true → (v w : ℕ) → v < length cols → w < length cols → member w (get_or (cleaned cols) v []) ≡ member v (get_or cols w [])
  member_cleaned h v w lv lw = ap (λ (l : List (List ℕ)). member w (get_or l v [])) (cleaned_jumbled h) ∙ member_transposed v w lv lw

  not_jumbled : jumbled cols ≡ false → every rises cols ≡ true
  unfolding jumbled
  not_jumbled h = go (every rises cols) h
    where
      go : (b : Bool) → not b ≡ false → b ≡ true
      go true e = refl
      go false e = sym e

  -- both ways
  cleaned_has : (P : List (List ℕ) → Type 0) → (jumbled cols ≡ true → P (transposed cols)) → (jumbled cols ≡ false → P cols) → P (cleaned cols)
  unfolding cleaned
  cleaned_has P f g = cond_has P (jumbled cols) f g

  pub length_cleaned : length (cleaned cols) ≡ length cols
  length_cleaned = cleaned_has (λ l. length l ≡ n) (λ h. length_transposed) (λ h. refl)

  pub rises_cleaned : (k : ℕ) → rises (get_or (cleaned cols) k []) ≡ true
  rises_cleaned k =
      cleaned_has (λ l. rises (get_or l k []) ≡ true) (λ h. rises_transposed k) (λ h. every_at rises cols [] (not_jumbled h) rises_none k)

  pub inside_cleaned : ((k i : ℕ) → member i (get_or cols k []) ≡ true → i < length cols) → (k i : ℕ) → member i (get_or (cleaned cols) k []) ≡ true
      → i < length (cleaned cols)
  inside_cleaned within k i =
      cleaned_has (λ l. member i (get_or l k []) ≡ true → i < length l) (λ h m. rw length_transposed (inside_transposed k i m)) (λ h m. within k i m)

  pub entries_cleaned : total length (cleaned cols) ≤ total length cols
  entries_cleaned = cleaned_has (λ l. total length l ≤ total length cols) (λ h. entries_transposed) (λ h. omega arith)

  -- what is joined by an entry, either way round, stays so
  pub joined_cleaned : (v w : ℕ) → v < length cols → w < length cols
      → member w (get_or (cleaned cols) v []) || member v (get_or (cleaned cols) w []) ≡ member w (get_or cols v []) || member v (get_or cols w [])
  joined_cleaned v w lv lw =
      cleaned_has (λ l. member w (get_or l v []) || member v (get_or l w []) ≡ member w (col v) || member v (col w))
      (λ h. rw (member_transposed v w lv lw, member_transposed w v lw lv) (swap (member v (col w)) (member w (col v)))) (λ h. refl)
    where
      swap : (a b : Bool) → a || b ≡ b || a
      swap true true = refl
      swap true false = refl
      swap false true = refl
      swap false false = refl
