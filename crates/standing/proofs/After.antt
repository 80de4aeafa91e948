-- What step 6 leaves in the memory: the laws of `placing`, of this turn.
-- Assumes nothing.
use Prim.Native.Nat.{ℕ, suc, ◌+◌, ◌<◌, ◌≤◌, ◌^◌}
use native.Mathlib.Omega.{arith}
use mathlib.Core.Bool.{Bool, false}
use mathlib.Core.List.{List}
use mathlib.Core.Logic.{◌≢◌}
use mathlib.Core.Path.{◌≡◌, ◌∙◌}
use lib.Dec.{eqb}
use lib.IntN.{ℤ}
use lib.ListN.{length}
use Rattle.plain.specs.Lists.{keep}
use Rattle.definition.specs.Merge.{plain_key}
use Rattle.definition.specs.Outcome as Outcomes
use Rattle.definition.specs.Pivot.{collected}
use Rattle.definition.specs.Room as room
use Rattle.definition.specs.State.{State, degree, has_weight, queue_of, weight}
use Rattle.facts.proofs.Step.{gone_after, stepped}
use Rattle.facts.proofs.Stepped.{Stepped, after_merge}
use Rattle.facts.proofs.Weighed.{pivot_heavy}
use Rattle.cells.specs.Layout.{DEGREE, ELEN, HEAD, LAST, LEN, NEXT, PE, W, WANT}
use Rattle.cells.specs.View.{rd}
use Rattle.chain.specs.Chained.{Chained}
use Rattle.packed.specs.Places.{Owns, places}
use Rattle.drawn.specs.Drawn as drawn
use Rattle.drawn.specs.Flags.{Flagged}
use Rattle.drawn.specs.Log.{Logged}
use Rattle.placing.proofs.Finish.{chained_after, count_after, fields_after, flagged_after, least_after, logged_after, long_after, others_after, rest_after, size_after, trimmed_after}
use Rattle.elimination.specs.declared.Turn.{Turn}
use Rattle.standing.proofs.Begun.{Before, begun, chosen, long₁, pivot_var, rows_short}
use Rattle.standing.proofs.Merges.{chained₄, flagged₄, merged₄, merges, two₄}
use Rattle.standing.proofs.Places.{done₅, gone_low, gone_next, kept₅, left_few, next, rest_low, spot₅}
use Rattle.standing.proofs.Trims.{trimmed₃, trims}

module _ {N n nd size : ℕ} {l s : List ℤ} {t : Turn} {x : Outcomes.Statistics} {st : State} {rm : room.Room} {p d : ℕ} (b : Before N n nd size l s t x st rm p d) (aggressive : Bool) where
  abbrev L₄ : List ℤ
  L₄ = (trims b aggressive).lists

  abbrev S₄ : List ℤ
  S₄ = (merges b aggressive (left_few b aggressive)).mem

  abbrev cnt : ℕ
  cnt = (begun b).made.made

  abbrev base : ℕ
  base = (begun b).made.base

  abbrev lim : ℕ
  lim = (begun b).made.free

  pub drawn₄ : drawn.Within n (trims b aggressive).lists (merges b aggressive (left_few b aggressive)).mem (after_merge (plain_key n) aggressive st.graph p) p (collected st.graph p) (begun b).made.made (begun b).made.base (begun b).made.free
  drawn₄ = (merged₄ b aggressive (left_few b aggressive)).drawn

  pub narrow : length (trims b aggressive).lists < 2 ^ 63
  narrow = omega (arith, (trimmed₃ b aggressive).long, long₁ b, b.narrow)

  -- ---- the graph

  pub now : Stepped n aggressive st.graph (next b aggressive).graph p
  now = stepped (plain_key n) n aggressive st p d b.inv.graph (pivot_var b)

  pub pivots_are : weight (next b aggressive).graph p ≡ weight (after_merge (plain_key n) aggressive st.graph p) p
  pivots_are = omega (arith, gone_next b aggressive, gone_after (plain_key n) n aggressive st p d b.inv.graph (pivot_var b))

  pub grows : suc st.gone ≤ (next b aggressive).gone
  grows = omega (arith, gone_next b aggressive, pivots_are, pivot_heavy (plain_key n) aggressive st b.inv p d (chosen b))

  -- ---- the memory

  pub rest₅ : drawn.Rest n (kept₅ b aggressive).lists (done₅ b aggressive) (next b aggressive).graph (begun b).made.made (begun b).made.base (begun b).made.free
  rest₅ = rest_after (plain_key n) aggressive st b.inv p d (chosen b) L₄ S₄ cnt base lim drawn₄ (chained₄ b aggressive (left_few b aggressive))

  pub trimmed₅ : (begun b).made.base ≤ rd n PE (merges b aggressive (left_few b aggressive)).mem p → rd n PE (merges b aggressive (left_few b aggressive)).mem p ≤ (begun b).made.free
      → ((i c : ℕ) → i ≢ p → Owns (places n (merges b aggressive (left_few b aggressive)).mem) i c → c < rd n PE (merges b aggressive (left_few b aggressive)).mem p)
      → drawn.Rest n (kept₅ b aggressive).lists (done₅ b aggressive) (next b aggressive).graph (begun b).made.made (begun b).made.base (rd n PE (merges b aggressive (left_few b aggressive)).mem p + (kept₅ b aggressive).count)
  trimmed₅ = trimmed_after (plain_key n) aggressive st b.inv p d (chosen b) L₄ S₄ cnt base lim drawn₄ (chained₄ b aggressive (left_few b aggressive))

  pub chained₅ : Chained n (done₅ b aggressive) (queue_of (next b aggressive).queues)
  chained₅ = chained_after (plain_key n) aggressive st b.inv p d (chosen b) L₄ S₄ cnt base lim drawn₄ (chained₄ b aggressive (left_few b aggressive))

  pub least₅ : (spot₅ b aggressive).least ≡ (next b aggressive).least
  least₅ = least_after (plain_key n) aggressive st b.inv p d (chosen b) L₄ S₄ cnt base lim drawn₄ (chained₄ b aggressive (left_few b aggressive))

  pub survivors₅ : (kept₅ b aggressive).count ≡ length (keep (has_weight (after_merge (plain_key n) aggressive st.graph p)) (collected st.graph p))
  survivors₅ = count_after (plain_key n) aggressive st b.inv p d (chosen b) L₄ S₄ cnt base lim drawn₄ (chained₄ b aggressive (left_few b aggressive))

  pub flagged₅ : Flagged n (done₅ b aggressive) (next b aggressive).graph (merges b aggressive (left_few b aggressive)).tally.flag
  flagged₅ =
      flagged_after (plain_key n) aggressive st b.inv p d (chosen b) L₄ S₄ cnt base lim drawn₄ (chained₄ b aggressive (left_few b aggressive))
      (merges b aggressive (left_few b aggressive)).tally.flag (two₄ b aggressive (left_few b aggressive)) (flagged₄ b aggressive (left_few b aggressive))

  pub logged₅ : Logged n (done₅ b aggressive) (next b aggressive).graph (merged₄ b aggressive (left_few b aggressive)).ms
  logged₅ =
      logged_after (plain_key n) aggressive st b.inv p d (chosen b) L₄ S₄ cnt base lim drawn₄ (chained₄ b aggressive (left_few b aggressive))
      (merged₄ b aggressive (left_few b aggressive)).ms (merged₄ b aggressive (left_few b aggressive)).logged

  pub size₅ : rd n ELEN (done₅ b aggressive) p ≡ weight (next b aggressive).graph p + degree (next b aggressive).graph p
  size₅ =
      size_after (plain_key n) aggressive st b.inv p d (chosen b) L₄ S₄ cnt base lim drawn₄ (chained₄ b aggressive (left_few b aggressive))
      (omega (arith, gone_next b aggressive, gone_low b aggressive, rest_low b aggressive, b.many, rows_short b))

  pub long₅ : length (kept₅ b aggressive).lists ≡ size
  long₅ = long_after (plain_key n) aggressive st b.inv p d (chosen b) L₄ S₄ cnt base lim drawn₄ (chained₄ b aggressive (left_few b aggressive)) ∙ (trimmed₃ b aggressive).long ∙ long₁ b

  -- every field that step 6 does not write, and those that it writes at the pivot alone
  pub unwritten₅ : (f v : ℕ) → eqb HEAD f ≡ false → eqb NEXT f ≡ false → eqb LAST f ≡ false → eqb DEGREE f ≡ false → eqb WANT f ≡ false → eqb LEN f ≡ false
      → eqb ELEN f ≡ false → eqb W f ≡ false → eqb PE f ≡ false → rd n f (done₅ b aggressive) v ≡ rd n f (merges b aggressive (left_few b aggressive)).mem v
  unwritten₅ = fields_after (plain_key n) aggressive st b.inv p d (chosen b) L₄ S₄ cnt base lim drawn₄ (chained₄ b aggressive (left_few b aggressive))

  pub others₅ : (f v : ℕ) → v ≢ p → eqb HEAD f ≡ false → eqb NEXT f ≡ false → eqb LAST f ≡ false → eqb DEGREE f ≡ false → eqb WANT f ≡ false
      → rd n f (done₅ b aggressive) v ≡ rd n f (merges b aggressive (left_few b aggressive)).mem v
  others₅ = others_after (plain_key n) aggressive st b.inv p d (chosen b) L₄ S₄ cnt base lim drawn₄ (chained₄ b aggressive (left_few b aggressive))
