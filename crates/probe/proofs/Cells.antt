-- Seven stores in a row write seven numbers, as many as fit; and what the whole call leaves.
-- Assumes nothing.
use Prim.Native.Nat.{ℕ}
use mathlib.Core.Path.{◌≡◌, refl}
use mathlib.Core.List.{List, [], ◌∷◌}
use lib.IntN.{ℤ, pos}
use lib.ListN.{length, set}
use lib.Seq.{take-nil}
use Rattle.definition.specs.Answers.{number_of}
use Rattle.definition.specs.Promise.{Lent, after}
use Rattle.numbers.specs.Meaning.{answer_meant, statistics_meant}
use Rattle.numbers.specs.declared.Outcome.{Outcome}
use Rattle.numbers.specs.declared.Statistics.{Statistics}
use Rattle.ordering.specs.Left.{left}
use Rattle.probe.specs.Told.{seven_of, written, told, seen}

stored : (l : List ℕ) (a b c d e f g : ℕ) → set (set (set (set (set (set (set l 0 a) 1 b) 2 c) 3 d) 4 e) 5 f) 6 g ≡ written (a ∷ b ∷ c ∷ d ∷ e ∷ f ∷ g ∷ []) l
unfolding written
stored [] a b c d e f g = refl
stored (_ ∷ []) a b c d e f g = refl
stored (_ ∷ _ ∷ []) a b c d e f g = refl
stored (_ ∷ _ ∷ _ ∷ []) a b c d e f g = refl
stored (_ ∷ _ ∷ _ ∷ _ ∷ []) a b c d e f g = refl
stored (_ ∷ _ ∷ _ ∷ _ ∷ _ ∷ []) a b c d e f g = refl
stored (_ ∷ _ ∷ _ ∷ _ ∷ _ ∷ _ ∷ []) a b c d e f g = refl
stored (_ ∷ _ ∷ _ ∷ _ ∷ _ ∷ _ ∷ _ ∷ l) a b c d e f g = rw (take-nil {A = ℕ} (length l))

pub put_seven : (l : List ℕ) (x : Statistics) (l1 l2 l3 l4 l5 l6 l7 : List ℕ) → l7 ≡ set l6 6 x.n_cmp_a → l6 ≡ set l5 5 x.d_max → l5 ≡ set l4 4 x.n_dense
    → l4 ≡ set l3 3 x.n_mult_subs_lu → l3 ≡ set l2 2 x.n_mult_subs_ldl → l2 ≡ set l1 1 x.n_div → l1 ≡ set l 0 x.lnz
    → l7 ≡ written (seven_of (statistics_meant x)) l
unfolding seven_of statistics_meant
put_seven l x l1 l2 l3 l4 l5 l6 l7 h7 h6 h5 h4 h3 h2 h1 = rw (h7, h6, h5, h4, h3, h2, h1) (stored l _ _ _ _ _ _ _)

-- what `order` leaves, with its statistics in cells
pub told_left : (z : Lent) (o : Outcome) (p i l s : List ℤ) (before cells : List ℕ) (r : ℤ) → left o p i l s ≡ after z
    → cells ≡ written (seven_of (statistics_meant o.statistics)) before
    → r ≡ pos (number_of (answer_meant o.answer))
    → seen r p i l s cells ≡ told (after z) before
unfolding told
told_left z o p i l s before cells r h hc hr = rw (hc, hr, ← h) refl
