-- What is true of an accepted problem: of its sizes, its columns, and of the lists of A+A' that the elimination starts from. E1 to E4 with no hypothesis
-- but that the problem is accepted.
-- Assumes nothing.
use Prim.Native.Nat.{ℕ, ◌+◌, ◌*◌, ◌≤◌, ◌<◌}
use native.Mathlib.Omega.{arith}
use mathlib.Core.Path.{◌≡◌, refl, sym, ap, ◌∙◌}
use mathlib.Core.Bool.{Bool, true, false, cond, not, ◌&&◌, ◌||◌, false≢true}
use mathlib.Core.List.{List, [], ◌∷◌}
use mathlib.Core.Option.{Option, none, some}
use lib.IntN.{pos}
use lib.Dec.{ltb, eqb}
use lib.ListN.{length, get_or}
use borrow.Author.Tests.{ltb-false, eqb-true, not-false}
use Rattle.plain.proofs.Logic.{clash, and_left, and_right, or_false_left, or_false_right}
use Rattle.plain.specs.Lists.{member, rises, total, is_none}
use Rattle.definition.specs.Limits.{base_limits, lists_room, scratch_room}
use Rattle.definition.specs.Threshold.{Rule, rule_of}
use Rattle.definition.specs.Pattern.{Pattern, column_count, nnz, column, columns, jumbled, bad_count, bad_pointers, bad_rows}
use Rattle.definition.specs.Answers.{Answer, ordered, ordered_jumbled, wrong_count, wrong_multiplier, wrong_outputs, wrong_pointers, wrong_rows, wrong_room, accepts, Problem, bad_multiplier, bad_outputs, bad_room, checks, first_of, answer_within, answer_of, or_full_rows, rule_for}
use Rattle.definition.specs.Cleaned.{cleaned}
use Rattle.definition.specs.Ordering.{graph_of}
use Rattle.facts.proofs.Start.{Neighbourly}
use Rattle.facts.proofs.Scanned.{neighbourly, length_neighbours}
use Rattle.facts.proofs.Cleaning.{length_cleaned, rises_cleaned, inside_cleaned, entries_cleaned, joined_cleaned}
use Rattle.facts.proofs.Edges.{edges, neighbours_below}
use Rattle.facts.proofs.Columns as C
use Rattle.facts.specs.Accepted.{Accepted, Checked}

-- ---- the table of answers

-- a check that refuses did not apply, and one further down is the answer
passed : (b : Bool) (x : Answer) (cs : List (Bool × Answer)) → accepts x ≡ false → accepts (first_of ((b, x) ∷ cs)) ≡ true → (b ≡ false) × (accepts (first_of cs) ≡ true)
unfolding first_of
passed true x cs r h = clash (accepts x) h r
passed false x cs r h = (refl, h)

pub checked : (p : Problem) → Accepted p → Checked p
unfolding answer_of answer_within checks
checked p ok =
    let c1 = passed (bad_count base_limits p.pattern) wrong_count _ refl ok in
    let c2 = passed (bad_multiplier p) wrong_multiplier _ refl c1.1 in
    let c3 = passed (bad_outputs p) wrong_outputs _ refl c2.1 in
    let c4 = passed (bad_pointers base_limits p.pattern) wrong_pointers _ refl c3.1 in
    let c5 = passed (bad_rows p.pattern) wrong_rows _ refl c4.1 in
    let c6 = passed (bad_room p) wrong_room _ refl c5.1 in
    record { count = c1.0; multiplier = c2.0; outputs = c3.0; pointers = c4.0; rows = c5.0; room = c6.0 }

-- the answer where no check refuses
pub answer_is : (p : Problem) → Checked p → answer_of p ≡ cond (jumbled (columns p.pattern)) ordered_jumbled ordered
unfolding answer_of answer_within checks first_of
answer_is p c = rw (c.count, c.multiplier, c.outputs, c.pointers, c.rows, c.room)

-- and then it is accepted
pub accepted : (p : Problem) → Checked p → Accepted p
accepted p c = ap accepts (answer_is p c) ∙ both (jumbled (columns p.pattern))
  where
    both : (b : Bool) → accepts (cond b ordered_jumbled ordered) ≡ true
    both true = refl
    both false = refl

-- ---- the sizes

module _ (p : Problem) (ok : Accepted p) where
  abbrev a : Pattern
  a = p.pattern

  abbrev n : ℕ
  n = column_count a

  -- the dense rule
  pub has_rule : rule_of p.multiplier ≡ some (rule_for p)
  unfolding bad_multiplier rule_for or_full_rows
  has_rule = go (rule_of p.multiplier) (checked p ok).multiplier
    where
      go : (o : Option Rule) → is_none o ≡ false → o ≡ some (or_full_rows o)
      go none h = absurd (false≢true (sym h))
      go (some r) h = refl

  pub count_is : p.pattern.n ≡ pos (column_count p.pattern)
  count_is = C.count_is base_limits a (checked p ok).count

  pub few_columns : column_count p.pattern ≤ base_limits.most_columns
  few_columns = C.count_most base_limits a (checked p ok).count

  pub few_entries : nnz p.pattern ≤ base_limits.most_entries
  few_entries = C.entries_most base_limits a (checked p ok).pointers

  pub permutation_size_lem : p.permutation_size ≡ column_count p.pattern
  unfolding bad_outputs
  permutation_size_lem =
      eqb-true p.permutation_size n
      (and_left (eqb p.permutation_size n) (eqb p.inverse_size n) (not-false (eqb p.permutation_size n && eqb p.inverse_size n) (checked p ok).outputs))

  pub inverse_size_lem : p.inverse_size ≡ column_count p.pattern
  unfolding bad_outputs
  inverse_size_lem =
      eqb-true p.inverse_size n
      (and_right (eqb p.permutation_size n) (eqb p.inverse_size n) (not-false (eqb p.permutation_size n && eqb p.inverse_size n) (checked p ok).outputs))

  pub lists_room_lem : 2 * nnz p.pattern + column_count p.pattern ≤ p.lists_size
  unfolding bad_room lists_room
  lists_room_lem =
      ltb-false p.lists_size (lists_room n (nnz a))
      (or_false_left (ltb p.lists_size (lists_room n (nnz a))) (ltb p.scratch_size (scratch_room n (nnz a))) (checked p ok).room)

  pub scratch_room_lem : nnz p.pattern + 16 * column_count p.pattern + 16 ≤ p.scratch_size
  unfolding bad_room scratch_room
  scratch_room_lem =
      ltb-false p.scratch_size (scratch_room n (nnz a))
      (or_false_right (ltb p.lists_size (lists_room n (nnz a))) (ltb p.scratch_size (scratch_room n (nnz a))) (checked p ok).room)

  -- ---- the columns

  pub length_columns : length (columns p.pattern) ≡ column_count p.pattern
  length_columns = C.length_columns a

  pub total_columns : total length (columns p.pattern) ≡ nnz p.pattern
  total_columns = C.total_columns base_limits a (checked p ok).pointers

  pub column_inside : (k i : ℕ) → k < column_count p.pattern → member i (column p.pattern k) ≡ true → i < column_count p.pattern
  column_inside = C.column_inside base_limits a (checked p ok).pointers (checked p ok).count (checked p ok).rows

  -- E4
  abbrev cols : List (List ℕ)
  cols = cleaned (columns a)

  pub cleaned_rises : (k : ℕ) → rises (get_or (cleaned (columns p.pattern)) k []) ≡ true
  cleaned_rises = rises_cleaned (columns a)

  pub cleaned_inside : (k i : ℕ) → member i (get_or (cleaned (columns p.pattern)) k []) ≡ true → i < length (cleaned (columns p.pattern))
  cleaned_inside = inside_cleaned (columns a) (C.columns_inside base_limits a (checked p ok).pointers (checked p ok).count (checked p ok).rows)

  pub length_cleaned_columns : length (cleaned (columns p.pattern)) ≡ column_count p.pattern
  length_cleaned_columns = length_cleaned (columns a) ∙ length_columns

  pub cleaned_entries : total length (cleaned (columns p.pattern)) ≤ nnz p.pattern
  cleaned_entries = omega (arith, entries_cleaned (columns a), total_columns)

  -- ---- A+A'

  pub neighbourly_graph : Neighbourly (graph_of p.pattern)
  neighbourly_graph = neighbourly cols cleaned_rises cleaned_inside

  pub length_graph : length (graph_of p.pattern) ≡ column_count p.pattern
  length_graph = length_neighbours cols cleaned_rises cleaned_inside ∙ length_cleaned_columns

  -- E3
  pub graph_entries : total length (graph_of p.pattern) ≤ 2 * nnz p.pattern
  graph_entries = omega (arith, neighbours_below cols cleaned_rises cleaned_inside, cleaned_entries)

  -- it fits into the lists, with n places to spare
  pub graph_room : total length (graph_of p.pattern) + column_count p.pattern ≤ p.lists_size
  graph_room = omega (arith, graph_entries, lists_room_lem)

  -- E2 with E4: A+A' of the cleaned pattern is A+A' of the pattern, jumbled or not
  pub graph_edges : (v w : ℕ) → v < column_count p.pattern → w < column_count p.pattern
      → member w (get_or (graph_of p.pattern) v []) ≡ not (eqb v w) && (member w (column p.pattern v) || member v (column p.pattern w))
  graph_edges v w lv lw =
      edges cols cleaned_rises cleaned_inside v w (rw length_cleaned_columns lv) (rw length_cleaned_columns lw)
      ∙ ap (λ (b : Bool). not (eqb v w) && b)
      (joined_cleaned (columns a) v w (rw length_columns lv) (rw length_columns lw)
      ∙ rw (C.column_at a v lv, C.column_at a w lw))
