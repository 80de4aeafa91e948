-- What an accepted problem gives the ordering of its pattern, with no columns or with some, and what is left once both workspaces are cleared.
-- Assumes nothing.
use Prim.Native.Nat.{ℕ, ◌+◌, ◌*◌, ◌<◌, ◌≤◌, ◌^◌, min}
use native.Mathlib.Omega.{arith}
use mathlib.Core.Path.{◌≡◌, refl, sym, ap, ◌∙◌}
use mathlib.Core.Bool.{Bool, true, false}
use mathlib.Core.List.{List, [], ◌∷◌, map}
use lib.Dec.{eqb}
use lib.IntN.{ℤ, pos, nat_abs}
use lib.ListN.{length, replicate, take, length-take}
use lib.Signed.{non_neg}
use Rattle.plain.specs.Lists.{is_none}
use Rattle.definition.specs.Answers.{accepts, answer_of, bad_multiplier, number_of, rule_for}
use Rattle.definition.specs.Limits.{base_limits}
use Rattle.definition.specs.Ordering.{plain}
use Rattle.definition.specs.Outcome.{seven}
use Rattle.definition.specs.Promise.{problem_of, after}
use Rattle.definition.specs.Statistics.{no_six}
use Rattle.definition.specs.Threshold.{rule_of}
use Rattle.facts.proofs.Accepted.{checked, count_is, few_columns, inverse_size_lem, permutation_size_lem, scratch_room_lem}
use Rattle.facts.specs.Accepted.{Accepted}
use Rattle.numbers.specs.Meaning.{answer_meant, statistics_meant}
use Rattle.numbers.specs.declared.Answer.{Answer}
use Rattle.numbers.specs.declared.Settings.{Settings}
use Rattle.numbers.specs.declared.Statistics.{Statistics}
use Rattle.cells.specs.View.{Room}
use Rattle.ordering.specs.Course.{Course}
use Rattle.ordering.specs.Left.{lent, left}
use Rattle.ordering.specs.Meets.{Meets}
use Rattle.ordering.proofs.Leaving.{accepted_left, jumbled_is}
use Rattle.ordering.proofs.Theorem.{course_outputs, course_statistics, no_inverse, no_permutation, no_seven}

-- the part of the lists that is worked in
pub part_length : (l : List ℤ) (k : ℕ) → k ≡ min (length l) (2 ^ 61) → length (take k l) ≡ min (length l) (2 ^ 61)
part_length l k h = length-take k l ∙ omega (arith, h)

both_empty : (p : List ℤ) (xs : List ℕ) → length p ≡ 0 → length xs ≡ 0 → p ≡ map pos xs
both_empty [] [] h k = refl
both_empty (x ∷ p) xs h k = absurd (omega arith)
both_empty [] (x ∷ xs) h k = absurd (omega arith)

module _ (n : ℤ) (a b : List ℤ) (x : Settings) (p i l s : List ℤ) (answer : Answer)
    (is : answer_meant answer ≡ answer_of (problem_of (lent n a b x p i l s))) (yes : accepts (answer_meant answer) ≡ true) where
  ok : Accepted (problem_of (lent n a b x p i l s))
  ok = ap accepts (sym is) ∙ yes

  -- n is a number of columns
  pub count_sign : non_neg n ≡ true
  unfolding problem_of
  count_sign = ap non_neg (count_is (problem_of (lent n a b x p i l s)) ok)

  pub enough : 16 * nat_abs n + 16 ≤ length s
  unfolding problem_of
  enough = omega (arith, scratch_room_lem (problem_of (lent n a b x p i l s)) ok)

  pub within : (nat_abs n ≤ base_limits.most_columns) × (is_none (rule_of x.multiplier) ≡ false)
  unfolding problem_of bad_multiplier
  within =
      let z = problem_of (lent n a b x p i l s) in
      (few_columns z ok, (checked z ok).multiplier)

  -- no columns: the outputs have no cells, and nothing is to be done
  pub none_met : (r : Statistics) → nat_abs n ≡ 0 → statistics_meant r ≡ seven no_six 0 → Meets (lent n a b x p i l s) p i r
  unfolding problem_of
  none_met r none counts =
      let z = problem_of (lent n a b x p i l s) in
      record {
        permutation = both_empty p (plain z.pattern (rule_for z) z.aggressive).permutation (permutation_size_lem z ok ∙ none) (no_permutation z ok none);
        inverse = both_empty i (plain z.pattern (rule_for z) z.aggressive).inverse (inverse_size_lem z ok ∙ none) (no_inverse z ok none);
        counts = counts ∙ sym (no_seven z ok none);
      }

  -- some columns: in a part of the lists, and in the scratch t
  pub all_met : (part t : List ℤ) (jumbled : Bool) (p' i' : List ℤ) (r : Statistics)
      → 0 < nat_abs n
      → length part ≡ min (length l) (2 ^ 61)
      → length t ≡ length s
      → Room (nat_abs n) t
      → jumbled ≡ eqb (number_of (answer_meant answer)) 1
      → Course (nat_abs n) a b x jumbled part t p i p' i' r
      → Meets (lent n a b x p i l s) p' i' r
  unfolding problem_of
  all_met part t jumbled p' i' r some size wide calm told c =
      let tidy = told ∙ jumbled_is (lent n a b x p i l s) answer ok is in
      let outputs = course_outputs n a b x p i l s ok some part size t wide calm jumbled tidy p' i' r c in
      record {
        permutation = outputs.0;
        inverse = outputs.1;
        counts = course_statistics n a b x p i l s ok some part size t wide calm jumbled tidy p' i' r c;
      }

  pub all_left : (p' i' l' s' : List ℤ) (r : Statistics)
      → Meets (lent n a b x p i l s) p' i' r
      → l' ≡ replicate (length l) (pos 0)
      → s' ≡ replicate (length s) (pos 0)
      → left (record { answer = answer; statistics = r }) p' i' l' s' ≡ after (lent n a b x p i l s)
  all_left p' i' l' s' r h cleared blank = rw (cleared, blank) (accepted_left (lent n a b x p i l s) answer r p' i' ok is h)
