-- The list of a row that stays: the new element first, the first kept element behind the others, the first kept variable behind all.
-- Assumes nothing.
use Rattle.std.proofs.Common.{◌≡◌, ℕ, zero, suc, ◌+◌, ◌<◌, ◌≤◌, ◌≢◌, ◌⊎◌, List, ◌∷◌, ◌++◌, length, ℤ, refl, ap, ◌∙◌, ⊎_elim, arith}
use Rattle.plain.proofs.Entries.{entries_append, entries_cons, entries_none, entries_same, entries_snoc}
use Rattle.plain.specs.Lists.{rotate}
use Rattle.plain.specs.Turns.{entries}
use Rattle.cells.proofs.Slices.{at_wr_other, at_wr_same, length_wr}
use Rattle.cells.specs.View.{at, wr}
use Rattle.trimming.specs.Model.{turned}

-- a part turned by one
pub round : (F G : ℕ → ℕ) (q r k : ℕ) → ((j : ℕ) → suc j < k → G (r + j) ≡ F (suc q + j)) → ((j : ℕ) → suc j ≡ k → G (r + j) ≡ F q) → entries G r k ≡ rotate (entries F q k)
unfolding rotate
round F G q r zero a b = rw (entries_none G r, entries_none F q)
round F G q r (suc k) a b =
    entries_snoc G r k
    ∙ rw (entries_cons F q k, b k refl, entries_same F G (suc q) r k (λ t c. a t (omega arith)))

module _ (me p a b : ℕ) (l : List ℤ) (some : 0 < a + b) (fits : p + (a + b) < length l) where
  abbrev l₁ : List ℤ
  l₁ = wr l (p + (a + b)) (at l (p + a))

  abbrev l₂ : List ℤ
  l₂ = wr l₁ (p + a) (at l₁ p)

  abbrev l₃ : List ℤ
  l₃ = wr l₂ p me

  front : at l₃ p ≡ me
  front = at_wr_same l₂ p me (omega (arith, length_wr l₁ (p + a) (at l₁ p), length_wr l (p + (a + b)) (at l (p + a))))

  -- a cell that is none of the three
  still : (q : ℕ) → q ≢ p → q ≢ p + a → q ≢ p + (a + b) → at l₃ q ≡ at l q
  still q x y z = at_wr_other l₂ p me q x ∙ at_wr_other l₁ (p + a) (at l₁ p) q y ∙ at_wr_other l (p + (a + b)) (at l (p + a)) q z

  -- where the elements end, if there are any
  middle : 0 < a → at l₃ (p + a) ≡ at l p
  middle z =
      at_wr_other l₂ p me (p + a) (λ e. absurd (omega arith))
      ∙ at_wr_same l₁ (p + a) (at l₁ p) (omega (arith, length_wr l (p + (a + b)) (at l (p + a))))
      ∙ at_wr_other l (p + (a + b)) (at l (p + a)) p (λ e. absurd (omega arith))

  -- the end, if there are variables
  last : 0 < b → at l₃ (p + (a + b)) ≡ at l (p + a)
  last z =
      at_wr_other l₂ p me (p + (a + b)) (λ e. absurd (omega arith))
      ∙ at_wr_other l₁ (p + a) (at l₁ p) (p + (a + b)) (λ e. absurd (omega arith))
      ∙ at_wr_same l (p + (a + b)) (at l (p + a)) fits

  first_part : entries (at l₃) (suc p) a ≡ rotate (entries (at l) p a)
  first_part =
      round (at l) (at l₃) p (suc p) a
      (λ j c. still (suc p + j) (λ e. absurd (omega arith)) (λ e. absurd (omega arith)) (λ e. absurd (omega arith)))
      (λ j c. let e : suc p + j ≡ p + a = omega arith in rw e (middle (omega arith)))

  second_part : entries (at l₃) (suc p + a) b ≡ rotate (entries (at l) (p + a) b)
  second_part =
      round (at l) (at l₃) (p + a) (suc p + a) b
      (λ j c. let e : suc p + a + j ≡ suc (p + a) + j = omega arith in
      still (suc p + a + j) (λ u. absurd (omega arith)) (λ u. absurd (omega arith)) (λ u. absurd (omega arith)) ∙ ap (at l) e)
      (λ j c. let e : suc p + a + j ≡ p + (a + b) = omega arith in rw e (last (omega arith)))

  -- THE list
  pub turned_list : entries (at (turned me p (p + a) (p + (a + b)) l)) p (suc (a + b)) ≡ me ∷ (rotate (entries (at l) p a) ++ rotate (entries (at l) (p + a) b))
  unfolding turned
  turned_list = entries_cons (at l₃) p (a + b) ∙ rw (front, entries_append (at l₃) (suc p) a b, first_part, second_part)

  pub turned_rest : (q : ℕ) → (q < p) ⊎ (p + suc (a + b) ≤ q) → at (turned me p (p + a) (p + (a + b)) l) q ≡ at l q
  unfolding turned
  turned_rest q o =
      still q
      (λ e. absurd (⊎_elim (λ c. omega arith) (λ c. omega arith) o))
      (λ e. absurd (⊎_elim (λ c. omega arith) (λ c. omega arith) o))
      (λ e. absurd (⊎_elim (λ c. omega arith) (λ c. omega arith) o))

  pub turned_long : length (turned me p (p + a) (p + (a + b)) l) ≡ length l
  unfolding turned
  turned_long = length_wr l₂ p me ∙ length_wr l₁ (p + a) (at l₁ p) ∙ length_wr l (p + (a + b)) (at l (p + a))
