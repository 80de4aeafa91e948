-- The problems that are accepted, and what each of the checks then says.
-- Assumes nothing.
use Rattle.std.specs.Prelude.{◌≡◌, true, false}
use Rattle.definition.specs.Limits.{base_limits}
use Rattle.definition.specs.Pattern.{bad_count, bad_pointers, bad_rows}
use Rattle.definition.specs.Answers.{accepts, Problem, bad_multiplier, bad_outputs, bad_room, answer_of}

-- answer 0 or 1
abbrev pub Accepted : Problem → Type 0
Accepted p = accepts (answer_of p) ≡ true

-- no check applies but the last, that of a jumbled pattern
pub record Checked (p : Problem) : Type 0 where
  pub count : bad_count base_limits p.pattern ≡ false
  pub multiplier : bad_multiplier p ≡ false
  pub outputs : bad_outputs p ≡ false
  pub pointers : bad_pointers base_limits p.pattern ≡ false
  pub rows : bad_rows p.pattern ≡ false
  pub room : bad_room p ≡ false
