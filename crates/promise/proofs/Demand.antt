-- The third demand, of every two accepted inputs that share pattern and settings.
-- Assumes nothing.
use mathlib.Core.Path.{◌≡◌, refl, sym, ap, ◌∙◌, subst}
use mathlib.Core.Bool.{cond}
use mathlib.Core.List.{map}
use lib.IntN.{pos}
use lib.ListN.{length}
use Rattle.definition.specs.Answers.{ordered, ordered_jumbled, answer_of, rule_for}
use Rattle.definition.specs.Pattern.{Pattern, columns, jumbled}
use Rattle.definition.specs.Ordering.{Plain}
use Rattle.definition.specs.Outcome.{seven, with_count, collection_count}
use Rattle.definition.specs.Promise.{Lent, problem_of, zeroed, filled, after}
use Rattle.facts.specs.Accepted.{Accepted}
use Rattle.facts.proofs.Accepted.{checked, answer_is, graph_edges}
use Rattle.facts.proofs.Ordered.{accepted_permutation, accepted_inverse, accepted_inverse_first, accepted_inverse_then}
use Rattle.fill.proofs.Certain.{lnz_bound, d_max_bound}
use Rattle.promise.specs.Demand.{Alike, Agreed, Sound, Demand}
use Rattle.promise.proofs.Left.{ordering_of, left, count_told, numbers_pos}

-- ---- one input

module _ (l : Lent) (ok : Accepted (problem_of l)) where
  whole : Sound l (filled l (with_count (answer_of (problem_of l)) (ordering_of l) (collection_count (problem_of l))))
  unfolding problem_of filled with_count seven zeroed
  whole = record {
    permutation = rw (numbers_pos (ordering_of l).permutation) (accepted_permutation (problem_of l) ok (rule_for (problem_of l)) l.aggressive);
    permutation_plain = ap (map pos) (sym (numbers_pos (ordering_of l).permutation));
    inverse = rw (numbers_pos (ordering_of l).inverse) (accepted_inverse (problem_of l) ok (rule_for (problem_of l)) l.aggressive);
    inverse_plain = ap (map pos) (sym (numbers_pos (ordering_of l).inverse));
    inverse_first = rw (numbers_pos (ordering_of l).permutation, numbers_pos (ordering_of l).inverse) (accepted_inverse_first (problem_of l) ok (rule_for (problem_of l)) l.aggressive);
    inverse_then = rw (numbers_pos (ordering_of l).permutation, numbers_pos (ordering_of l).inverse) (accepted_inverse_then (problem_of l) ok (rule_for (problem_of l)) l.aggressive);
    lists = refl;
    scratch = refl;
    edges = graph_edges (problem_of l) ok;
    lnz = rw (numbers_pos (ordering_of l).permutation) (lnz_bound (problem_of l) ok (rule_for (problem_of l)) l.aggressive);
    d_max = rw (numbers_pos (ordering_of l).permutation) (d_max_bound (problem_of l) ok (rule_for (problem_of l)) l.aggressive);
  }

  pub sound : Sound l (after l)
  sound = subst (Sound l) (sym (left l ok)) whole

-- ---- two inputs

module _ (l l' : Lent) (same : Alike l l') (ok : Accepted (problem_of l)) (ok' : Accepted (problem_of l')) where
  -- no slice that is written has a part in the ordering
  ordering_same : ordering_of l ≡ ordering_of l'
  unfolding problem_of rule_for
  ordering_same = rw (same.n, same.pointers, same.rows, same.multiplier, same.aggressive)

  pattern_same : (problem_of l).pattern ≡ (problem_of l').pattern
  unfolding problem_of
  pattern_same = rw (same.n, same.pointers, same.rows)

  answer_same : answer_of (problem_of l) ≡ answer_of (problem_of l')
  answer_same =
      answer_is (problem_of l) (checked (problem_of l) ok)
      ∙ ap (λ (a : Pattern). cond (jumbled (columns a)) ordered_jumbled ordered) pattern_same
      ∙ sym (answer_is (problem_of l') (checked (problem_of l') ok'))

  pub agreed : Agreed (after l) (after l')
  unfolding filled with_count seven
  agreed = rw (left l ok, left l' ok') (record {
    answer = answer_same;
    permutation = ap (λ (x : Plain). map pos x.permutation) ordering_same;
    inverse = ap (λ (x : Plain). map pos x.inverse) ordering_same;
    lnz = ap (λ (x : Plain). x.six.lnz) ordering_same;
    n_div = ap (λ (x : Plain). x.six.n_div) ordering_same;
    n_mult_subs_ldl = ap (λ (x : Plain). x.six.n_mult_subs_ldl) ordering_same;
    n_mult_subs_lu = ap (λ (x : Plain). x.six.n_mult_subs_lu) ordering_same;
    n_dense = ap (λ (x : Plain). x.six.n_dense) ordering_same;
    d_max = ap (λ (x : Plain). x.six.d_max) ordering_same;
  })

  pub demand : Demand l l' (after l) (after l')
  demand = record { agreed = agreed; sound = sound l ok; sound' = sound l' ok' }

  -- n_cmp_a besides, where both lists slices are of one length; nothing else of a workspace counts
  collections_same : length l.lists ≡ length l'.lists → collection_count (problem_of l) ≡ collection_count (problem_of l')
  unfolding collection_count problem_of rule_for
  collections_same e = rw (same.n, same.pointers, same.rows, same.multiplier, same.aggressive, e)

  pub count_same : length l.lists ≡ length l'.lists → (after l).statistics.n_cmp_a ≡ (after l').statistics.n_cmp_a
  count_same e = count_told l ok ∙ collections_same e ∙ sym (count_told l' ok')
