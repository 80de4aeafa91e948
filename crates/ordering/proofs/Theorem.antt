-- Of an accepted problem the course of an ordering leaves what the definition says: both outputs, and the statistics.
-- Assumes nothing.
use Prim.Native.Nat.{ℕ, ◌+◌, ◌*◌, ◌<◌, ◌≤◌, ◌^◌, min}
use native.Mathlib.Omega.{arith}
use mathlib.Core.Path.{◌≡◌, ap, ◌∙◌}
use mathlib.Core.Bool.{Bool, cond}
use mathlib.Core.List.{List, map}
use lib.Dec.{eqb}
use lib.IntN.{ℤ, pos}
use lib.ListN.{length}
use Rattle.definition.specs.Answers.{Problem, rule_for}
use Rattle.definition.specs.Ordering.{graph_of, limit_of, key_for, final_of, plain, plain_from}
use Rattle.definition.specs.Outcome.{collection_count, seven}
use Rattle.definition.specs.Pattern as Patterns
use Rattle.definition.specs.Pattern.{Pattern, column_count, nnz, columns}
use Rattle.definition.specs.State.{dense_rows}
use Rattle.definition.specs.Statistics.{Six, no_six, six_of}
use Rattle.facts.proofs.Accepted.{permutation_size_lem, inverse_size_lem, scratch_room_lem, neighbourly_graph, length_graph, graph_room}
use Rattle.facts.proofs.Outcome.{final_rows, final_permutation, final_inverse}
use Rattle.facts.specs.Accepted.{Accepted}
use Rattle.numbers.specs.Meaning.{statistics_meant}
use Rattle.numbers.specs.declared.Settings.{Settings}
use Rattle.numbers.specs.declared.Statistics.{Statistics}
use Rattle.checks.specs.Given.{pattern_given, problem_given}
use Rattle.cells.specs.View.{Room}
use Rattle.pattern.proofs.Taking.{taken_rep, taken_long, taken_room}
use Rattle.pattern.specs.Model.{tidied, built, built_free}
use Rattle.standing.proofs.Finished.{eliminated}
use Rattle.standing.specs.Result.{Result}
use Rattle.tree.proofs.Finished.{accepted_outputs}
use Rattle.ordering.specs.Course.{Course}
use Rattle.ordering.proofs.Cut.{cut, cut_room, cut_accepted, cut_count}
use Rattle.ordering.proofs.Roomy.{no_collections}

-- ---- no columns

module _ (p : Problem) (ok : Accepted p) (none : column_count p.pattern ≡ 0) where
  -- "all statistics zero"
  no_six_lem : (plain p.pattern (rule_for p) p.aggressive).six ≡ no_six
  unfolding plain plain_from final_of
  no_six_lem =
      let s = final_of p.pattern (rule_for p) p.aggressive in
      let rows = final_rows (limit_of p.pattern (rule_for p)) (graph_of p.pattern) (neighbourly_graph p ok) (key_for p.pattern) p.aggressive ∙ length_graph p ok ∙ none in
      ap (λ (k : ℕ). cond (eqb k 0) no_six (six_of (length (dense_rows s.graph)) s.fronts)) rows

  no_count : collection_count p ≡ 0
  unfolding collection_count
  no_count =
      let size = length_graph p ok ∙ none in
      no_collections (graph_of p.pattern) (neighbourly_graph p ok) (key_for p.pattern) p.aggressive (limit_of p.pattern (rule_for p)) p.lists_size
      (rw size (omega (arith, graph_room p ok)))

  pub no_seven : seven (plain p.pattern (rule_for p) p.aggressive).six (collection_count p) ≡ seven no_six 0
  no_seven = ap (λ (x : Six). seven x (collection_count p)) no_six_lem ∙ ap (seven no_six) no_count

  pub no_permutation : length (plain p.pattern (rule_for p) p.aggressive).permutation ≡ 0
  unfolding plain plain_from final_of
  no_permutation =
      (final_permutation (limit_of p.pattern (rule_for p)) (graph_of p.pattern) (neighbourly_graph p ok) (key_for p.pattern) p.aggressive).size ∙ length_graph p ok ∙ none

  pub no_inverse : length (plain p.pattern (rule_for p) p.aggressive).inverse ≡ 0
  unfolding plain plain_from final_of
  no_inverse =
      (final_inverse (limit_of p.pattern (rule_for p)) (graph_of p.pattern) (neighbourly_graph p ok) (key_for p.pattern) p.aggressive).size ∙ length_graph p ok ∙ none

-- ---- the course

module _ (n : ℤ) (a b : List ℤ) (x : Settings) (p i l s : List ℤ) where
  abbrev problem : Problem
  problem = problem_given (pattern_given n a b) x.multiplier x.aggressive (length p) (length i) (length l) (length s)

  abbrev pattern : Pattern
  pattern = pattern_given n a b

  -- of some columns, in a part of the lists and a scratch t that is as long as the lent one, and with the pattern taken as it is, jumbled or not
  module _ (ok : Accepted problem) (some : 0 < column_count pattern) (part : List ℤ) (size : length part ≡ min (length l) (2 ^ 61))
      (t : List ℤ) (wide : length t ≡ length s) (calm : Room (column_count pattern) t) (jumbled : Bool) (is : jumbled ≡ Patterns.jumbled (columns pattern))
      (p' i' : List ℤ) (r : Statistics) (c : Course (column_count pattern) a b x jumbled part t p i p' i' r) where
    abbrev short : Problem
    short = cut (min (length l) (2 ^ 61)) problem

    short_ok : Accepted short
    short_ok = cut_accepted problem ok

    abbrev tidy : List ℤ
    tidy = tidied (column_count pattern) a b jumbled t

    long : length c.l₀ ≡ min (length l) (2 ^ 61)
    long = c.long ∙ size

    room : 2 * nnz pattern + column_count pattern ≤ length c.l₀
    room = omega (arith, long, cut_room problem ok)

    fits : nnz pattern + 16 * column_count pattern + 16 ≤ length t
    fits = omega (arith, wide, scratch_room_lem problem ok)

    result : Result short (built (column_count pattern) c.l₀ tidy).lists c.l' c.s' c.e
    unfolding rule_for
    result =
        let same = taken_long short short_ok t calm fits c.l₀ jumbled is room in
        eliminated short short_ok (built (column_count pattern) c.l₀ tidy).lists (built (column_count pattern) c.l₀ tidy).mem (built_free (column_count pattern) c.l₀ tidy)
        (taken_room short short_ok t calm fits c.l₀ jumbled is room)
        (taken_rep short short_ok t calm fits c.l₀ jumbled is room)
        (same ∙ long)
        (omega (arith, same, long))
        c.l' c.s' c.e c.whole

    pub course_outputs : (p' ≡ map pos (plain pattern (rule_for problem) x.aggressive).permutation) × (i' ≡ map pos (plain pattern (rule_for problem) x.aggressive).inverse)
    unfolding rule_for
    course_outputs =
        accepted_outputs short short_ok (rule_for short) x.aggressive c.e.merges c.s' p i p' i' result.merges c.outputs result.count result.final
        (permutation_size_lem problem ok) (inverse_size_lem problem ok)

    pub course_statistics : statistics_meant r ≡ seven (plain pattern (rule_for problem) x.aggressive).six (collection_count problem)
    unfolding rule_for
    course_statistics =
        ap statistics_meant c.counts ∙ result.statistics some ∙ ap (seven (plain pattern (rule_for problem) x.aggressive).six) (cut_count problem ok)
