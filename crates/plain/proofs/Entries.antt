-- The laws of `entries`, and of a function with one value changed.
-- Assumes nothing.
use Prim.Native.Nat.{ℕ, zero, suc, ◌+◌, ◌≤◌, ◌<◌}
use native.Mathlib.Omega.{arith}
use native.Mathlib.Nat.{add-zero, zero-add, suc-add, add-suc}
use mathlib.Core.Path.{◌≡◌, refl, sym, ap, ◌∙◌}
use mathlib.Core.Logic.{◌≢◌, ◌⊎◌, inl, ⊎_elim}
use mathlib.Core.List.{List, [], ◌∷◌, ◌++◌, map}
use lib.ListN.{length, get_or, set, take, drop}
use borrow.Author.Tests.{eq-eqb, ne_eqb}
use Rattle.plain.specs.Lists.{count_up}
use Rattle.plain.specs.Turns.{entries, upd}

module _ {A : Type 0} where
  pub entries_none : (F : ℕ → A) (p : ℕ) → entries F p 0 ≡ []
  unfolding entries
  entries_none F p = refl

  pub entries_cons : (F : ℕ → A) (p k : ℕ) → entries F p (suc k) ≡ F p ∷ entries F (suc p) k
  unfolding entries
  entries_cons F p k = refl

  pub entries_length : (F : ℕ → A) (p k : ℕ) → length (entries F p k) ≡ k
  unfolding entries
  entries_length F p zero = refl
  entries_length F p (suc k) = ap suc (entries_length F (suc p) k)

  -- THE framing law: two parts are the same list if they agree place by place
  pub entries_same : (F G : ℕ → A) (p q k : ℕ) → ((t : ℕ) → t < k → G (q + t) ≡ F (p + t)) → entries G q k ≡ entries F p k
  unfolding entries
  entries_same F G p q zero h = refl
  entries_same F G p q (suc k) h =
      let a : G q ≡ F p = simp add-zero at (h 0 (omega arith)) in
      let b : (t : ℕ) → t < k → G (suc q + t) ≡ F (suc p + t) = λ t u. simp suc-add (simp add-suc at (h (suc t) (omega arith))) in
      rw (a, entries_same F G (suc p) (suc q) k b)

  pub entries_at : (F : ℕ → A) (p k t : ℕ) (d : A) → t < k → get_or (entries F p k) t d ≡ F (p + t)
  unfolding entries
  entries_at F p zero t d h = absurd (omega arith)
  entries_at F p (suc k) zero d h = rw add-zero
  entries_at F p (suc k) (suc t) d h = entries_at F (suc p) k t d (omega arith) ∙ rw (suc-add, add-suc)

  pub entries_append : (F : ℕ → A) (p j k : ℕ) → entries F p (j + k) ≡ entries F p j ++ entries F (p + j) k
  unfolding entries
  entries_append F p zero k = rw (add-zero, zero-add)
  entries_append F p (suc j) k =
      let e : suc j + k ≡ suc (j + k) = suc-add j k in
      let f : p + suc j ≡ suc p + j = omega arith in
      rw (e, f) (ap (λ (l : List A). F p ∷ l) (entries_append F (suc p) j k))

  entries_one : (F : ℕ → A) (p : ℕ) → entries F p 1 ≡ F p ∷ []
  unfolding entries
  entries_one F p = refl

  pub entries_snoc : (F : ℕ → A) (p k : ℕ) → entries F p (suc k) ≡ entries F p k ++ (F (p + k) ∷ [])
  entries_snoc F p k =
      let e : suc k ≡ k + 1 = omega arith in
      ap (λ (j : ℕ). entries F p j) e ∙ entries_append F p k 1 ∙ ap (λ (l : List A). entries F p k ++ l) (entries_one F (p + k))

  pub entries_take : (F : ℕ → A) (p k j : ℕ) → j ≤ k → take j (entries F p k) ≡ entries F p j
  unfolding entries
  entries_take F p k zero h = refl
  entries_take F p zero (suc j) h = absurd (omega arith)
  entries_take F p (suc k) (suc j) h = ap (λ (l : List A). F p ∷ l) (entries_take F (suc p) k j (omega arith))

  pub entries_drop : (F : ℕ → A) (p k j : ℕ) → drop j (entries F p (j + k)) ≡ entries F (p + j) k
  unfolding entries
  entries_drop F p k zero = rw (add-zero, zero-add)
  entries_drop F p k (suc j) =
      let e : suc j + k ≡ suc (j + k) = suc-add j k in
      let f : p + suc j ≡ suc p + j = omega arith in
      rw (e, f) (entries_drop F (suc p) k j)

  -- all of a list
  pub entries_whole : (l : List A) (d : A) → entries (λ i. get_or l i d) 0 (length l) ≡ l
  unfolding entries
  entries_whole [] d = refl
  entries_whole (x ∷ l) d =
      ap (λ (m : List A). x ∷ m) (entries_same (λ i. get_or l i d) (λ i. get_or (x ∷ l) i d) 0 1 (length l) (λ t h. shifted t) ∙ entries_whole l d)
    where
      shifted : (t : ℕ) → get_or (x ∷ l) (1 + t) d ≡ get_or l (0 + t) d
      shifted t = let e : 1 + t ≡ suc t = omega arith in let f : 0 + t ≡ t = omega arith in rw (e, f)

  pub entries_counted : (F : ℕ → A) (p k : ℕ) → entries F p k ≡ map F (count_up p k)
  unfolding entries count_up
  entries_counted F p zero = refl
  entries_counted F p (suc k) = ap (λ (l : List A). F p ∷ l) (entries_counted F (suc p) k)

  -- ---- one value changed

  pub upd_same : (F : ℕ → A) (j : ℕ) (x : A) → upd F j x j ≡ x
  unfolding upd
  upd_same F j x = rw (eq-eqb j j refl)

  pub upd_other : (F : ℕ → A) (j : ℕ) (x : A) (i : ℕ) → i ≢ j → upd F j x i ≡ F i
  unfolding upd
  upd_other F j x i h = rw (ne_eqb i j h)

  -- outside the part
  pub entries_out : (F : ℕ → A) (j : ℕ) (x : A) (p k : ℕ) → (j < p) ⊎ (p + k ≤ j) → entries (upd F j x) p k ≡ entries F p k
  entries_out F j x p k h =
      entries_same F (upd F j x) p p k (λ t a. upd_other F j x (p + t) (⊎_elim (λ u. omega arith) (λ u. omega arith) h))

  -- inside
  pub entries_set : (F : ℕ → A) (x : A) (p k t : ℕ) → t < k → entries (upd F (p + t) x) p k ≡ set (entries F p k) t x
  unfolding entries
  entries_set F x p zero t h = absurd (omega arith)
  entries_set F x p (suc k) zero h =
      let e : p + 0 ≡ p = add-zero p in
      let z : p + 0 < suc p = omega arith in
      rw (entries_out F (p + 0) x (suc p) k (inl z), e, upd_same F p x)
  entries_set F x p (suc k) (suc t) h =
      let e : p + suc t ≡ suc p + t = omega arith in
      rw (upd_other F (p + suc t) x p (omega arith))
      (ap (λ (y : List A). F p ∷ y) (ap (λ (j : ℕ). entries (upd F j x) (suc p) k) e ∙ entries_set F x (suc p) k t (omega arith)))

-- a list by its places
pub counted_whole : {A : Type 0} (l : List A) (d : A) → map (λ i. get_or l i d) (count_up 0 (length l)) ≡ l
counted_whole l d = sym (entries_counted (λ i. get_or l i d) 0 (length l)) ∙ entries_whole l d
