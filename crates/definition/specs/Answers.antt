-- Document 01, "Answers": "Checks run in the order of this table. The first that applies is the answer. Each refusal is given exactly in its case."
-- Assumes nothing.
use Rattle.std.specs.Prelude.{ℕ, Bool, true, false, not, ◌&&◌, ◌||◌, cond, List, [], ◌∷◌, ltb, eqb, Float}
use Rattle.std.proofs.Math.Option.{Option, none, some}
use Rattle.plain.specs.Lists.{is_none}
use Rattle.definition.specs.Limits.{Limits, base_limits, lists_room, scratch_room}
use Rattle.definition.specs.Threshold.{Rule, full_rows, rule_of}
use Rattle.definition.specs.Pattern.{Pattern, column_count, nnz, columns, jumbled, bad_count, bad_pointers, bad_rows}

-- "accepted otherwise", "accepted, and some column has a row not above the row before it (jumbled)", and what is refused for its n, its multiplier,
-- its outputs' lengths, its pointers, its rows, its room
pub data Answer : Type 0 where
  ordered ordered_jumbled wrong_count wrong_multiplier wrong_outputs wrong_pointers wrong_rows wrong_room : Answer

-- the table's column "No."
unfoldable pub number_of : Answer → ℕ
number_of ordered = 0
number_of ordered_jumbled = 1
number_of wrong_count = 2
number_of wrong_multiplier = 3
number_of wrong_outputs = 4
number_of wrong_pointers = 5
number_of wrong_rows = 6
number_of wrong_room = 7

-- "Answers 0 and 1", and not "Answers 2 to 7"
abbrev pub accepts : Answer → Bool
accepts ordered = true
accepts ordered_jumbled = true
accepts wrong_count = false
accepts wrong_multiplier = false
accepts wrong_outputs = false
accepts wrong_pointers = false
accepts wrong_rows = false
accepts wrong_room = false

-- the pattern, the settings ("a floating multiplier and the aggressive yes or no"), and the lengths of the slices that are written
pub record Problem : Type 0 where
  pub pattern : Pattern
  pub multiplier : Float
  pub aggressive : Bool
  pub permutation_size : ℕ
  pub inverse_size : ℕ
  pub lists_size : ℕ
  pub scratch_size : ℕ

-- answer 3: there is no dense rule for the multiplier
unfoldable pub bad_multiplier : Problem → Bool
bad_multiplier p = is_none (rule_of p.multiplier)

-- answer 4: "permutation or inverse slice not of length n"
unfoldable pub bad_outputs : Problem → Bool
bad_outputs p = not (eqb p.permutation_size (column_count p.pattern) && eqb p.inverse_size (column_count p.pattern))

-- answer 7: "lists shorter than 2·nnz + n, or scratch shorter than nnz + 16·n + 16"
unfoldable pub bad_room : Problem → Bool
bad_room p =
    ltb p.lists_size (lists_room (column_count p.pattern) (nnz p.pattern))
    || ltb p.scratch_size (scratch_room (column_count p.pattern) (nnz p.pattern))

-- the table, its last line left out
unfoldable pub checks : Limits → Problem → List (Bool × Answer)
checks limits p =
    (bad_count limits p.pattern, wrong_count)
    ∷ (bad_multiplier p, wrong_multiplier)
    ∷ (bad_outputs p, wrong_outputs)
    ∷ (bad_pointers limits p.pattern, wrong_pointers)
    ∷ (bad_rows p.pattern, wrong_rows)
    ∷ (bad_room p, wrong_room)
    ∷ (jumbled (columns p.pattern), ordered_jumbled)
    ∷ []

-- "The first that applies is the answer", and "accepted otherwise"
unfoldable pub first_of : List (Bool × Answer) → Answer
first_of [] = ordered
first_of (c ∷ cs) = cond c.0 c.1 (first_of cs)

-- the answer within any limits
unfoldable pub answer_within : Limits → Problem → Answer
answer_within limits p = first_of (checks limits p)

-- the answer within document 01's
unfoldable pub answer_of : Problem → Answer
answer_of p = answer_within base_limits p

-- a rule, where there is one
unfoldable pub or_full_rows : Option Rule → Rule
or_full_rows none = full_rows
or_full_rows (some r) = r

-- "The dense rule read from them": an accepted problem has one
unfoldable pub rule_for : Problem → Rule
rule_for p = or_full_rows (rule_of p.multiplier)
