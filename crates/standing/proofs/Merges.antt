-- Step 5 of a turn: the rows with the same lists are merged; the flag, the log and the element's weight after it.
-- Assumes nothing.
use Prim.Native.Nat.{ℕ, ◌+◌, ◌*◌, ◌-◌, ◌<◌, ◌≤◌, max}
use native.Mathlib.Omega.{arith}
use mathlib.Core.Bool.{Bool, false, true}
use mathlib.Core.List.{List, ◌∷◌}
use mathlib.Core.Path.{◌≡◌, ◌∙◌, ap, refl}
use lib.Dec.{eqb}
use lib.IntN.{ℤ}
use lib.ListN.{get_or, length}
use Rattle.plain.proofs.Members.{not_kept}
use Rattle.definition.specs.Merge.{plain_key}
use Rattle.definition.specs.Outcome as Outcomes
use Rattle.definition.specs.Pivot.{collected, delisted, passed}
use Rattle.definition.specs.Room as room
use Rattle.definition.specs.State.{Graph, Kind, State, has_weight, is_variable, kind, merged, queue_of}
use Rattle.facts.proofs.Collected.{pivot_outside}
use Rattle.facts.proofs.Collections.{short_collected}
use Rattle.facts.proofs.Rows.{same_passed, still_kind}
use Rattle.facts.proofs.Stepped.{after_merge, after_trim, joined2}
use Rattle.facts.specs.Classes.{newest_first}
use Rattle.cells.proofs.Slices.{plus_sum}
use Rattle.cells.specs.Layout.{DEGREE, HEAD, HHEAD, HNEXT, LAST, LEN, MERGES, NEXT, NV, PE, W}
use Rattle.cells.specs.View.{plus, rd}
use Rattle.chain.proofs.Frame.{chained_same}
use Rattle.chain.specs.Chained.{Chained}
use Rattle.drawn.specs.Flags.{Flagged}
use Rattle.merging.proofs.Survivors.{survivor_present, survivors_given}
use Rattle.merging.proofs.Theorem.{Given, Merged, newest_fewer, step, step_fields, step_flagged, step_pivot}
use Rattle.merging.specs.declared.Tally.{Tally}
use Rattle.merging.specs.Model.{Merging, merged_rows, merging}
use Rattle.elimination.specs.declared.Turn.{Turn}
use Rattle.sizing.specs.Model.{weighed_rows}
use Rattle.standing.proofs.Begun.{Before, begun, flag_low, flagged₂, pivot_low, pivot_var, rows_short, small}
use Rattle.standing.proofs.Trims.{chained₃, extent₃, inside₃, light₃, list₃, place₃, trimmed₃, trims}

-- a higher flag is above the marks too
pub flagged_higher : (n : ℕ) (s : List ℤ) (g : Graph) (a b : ℕ) → a ≤ b → Flagged n s g a → Flagged n s g b
flagged_higher n s g a b h f = record { below = λ v k. omega (arith, f.below v k); variable = f.variable; element = f.element; absorbed = f.absorbed }

module _ {N n nd size : ℕ} {l s : List ℤ} {t : Turn} {x : Outcomes.Statistics} {st : State} {rm : room.Room} {p d : ℕ} (b : Before N n nd size l s t x st rm p d) (aggressive : Bool) where
  abbrev g : Graph
  g = st.graph

  abbrev g₂ : Graph
  g₂ = after_trim aggressive st.graph p

  abbrev g₃ : Graph
  g₃ = after_merge (plain_key n) aggressive st.graph p

  abbrev new : List ℕ
  new = collected st.graph p

  -- the largest remaining weight, with the new element's
  abbrev pub left : ℕ
  left = weighed_rows n (begun b).lists (begun b).mem (begun b).made.start (begun b).made.count - (trims b aggressive).merged.weight

  abbrev pub most₄ : ℕ
  most₄ = max t.most left

  module _ (few : left ≤ n) where
    modest : max t.most left ≤ n
    modest = omega (arith, b.stands.modest)

    abbrev tally : Tally
    tally = record { flag = plus t.flag most₄; logged = (trims b aggressive).merged.made }

    flag_is : plus t.flag most₄ ≡ t.flag + most₄
    flag_is = plus_sum t.flag most₄ (omega (arith, flag_low b, modest, b.many, rows_short b))

    flagged₃ : Flagged n (trims b aggressive).mem g₂ (plus t.flag most₄)
    flagged₃ =
        flagged_higher n (trims b aggressive).mem g₂ (t.flag + t.most) (plus t.flag most₄) (omega (arith, flag_is))
        ((trimmed₃ b aggressive).flagged (t.flag + t.most) (flagged₂ b))

    short : length new < n
    short = short_collected b.inv.graph p (pivot_var b)

    given : Given n (trims b aggressive).lists (trims b aggressive).mem (plain_key n) g₂ p new (begun b).made.made (begun b).made.base (begun b).made.free tally
    given =
        survivors_given aggressive g p b.inv.graph (pivot_var b) (plain_key n) (trims b aggressive).lists (trims b aggressive).mem
        (begun b).made.made (begun b).made.base (begun b).made.free tally (trimmed₃ b aggressive).merges (trimmed₃ b aggressive).drawn (light₃ b aggressive)
        (trimmed₃ b aggressive).bucketed flagged₃.below (small b) (trimmed₃ b aggressive).logged (trimmed₃ b aggressive).count
        (omega (arith, flag_is, flag_low b, modest, b.many, rows_short b, short))

    abbrev pub merges : Merging
    merges =
        merged_rows (trims b aggressive).lists n (begun b).made.start (begun b).made.count
        (merging (trims b aggressive).mem (record { flag = plus t.flag (max t.most left); logged = (trims b aggressive).merged.made }))

    pub merged₄ : Merged n (trims b aggressive).lists p (collected st.graph p) (begun b).made.made (begun b).made.base (begun b).made.free
        (plus t.flag (max t.most left)) (length (newest_first (after_trim aggressive st.graph p) (collected st.graph p))) (after_merge (plain_key n) aggressive st.graph p) merges
    merged₄ =
        step n (trims b aggressive).lists (trims b aggressive).mem (plain_key n) g₂ p new (begun b).made.made (begun b).made.base (begun b).made.free tally given
        (begun b).made.start (begun b).made.count (list₃ b aggressive) (inside₃ b aggressive)

    pub fields₄ : (f v : ℕ) → eqb PE f ≡ false → eqb LEN f ≡ false → eqb W f ≡ false → eqb HHEAD f ≡ false → eqb HNEXT f ≡ false → eqb MERGES f ≡ false → eqb NV f ≡ false
        → rd n f merges.mem v ≡ rd n f (trims b aggressive).mem v
    fields₄ =
        step_fields n (trims b aggressive).lists (trims b aggressive).mem (plain_key n) g₂ p new (begun b).made.made (begun b).made.base (begun b).made.free tally given
        (begun b).made.start (begun b).made.count (list₃ b aggressive) (inside₃ b aggressive)

    own₄ : (f : ℕ) → eqb W f ≡ false → eqb HHEAD f ≡ false → eqb HNEXT f ≡ false → eqb MERGES f ≡ false → rd n f merges.mem p ≡ rd n f (trims b aggressive).mem p
    own₄ =
        step_pivot n (trims b aggressive).lists (trims b aggressive).mem (plain_key n) g₂ p new (begun b).made.made (begun b).made.base (begun b).made.free tally given
        (begun b).made.start (begun b).made.count (list₃ b aggressive) (inside₃ b aggressive)

    pub flagged₄ : Flagged n merges.mem (after_merge (plain_key n) aggressive st.graph p) merges.tally.flag
    flagged₄ =
        step_flagged n (trims b aggressive).lists (trims b aggressive).mem (plain_key n) g₂ p new (begun b).made.made (begun b).made.base (begun b).made.free tally given
        (begun b).made.start (begun b).made.count (list₃ b aggressive) (inside₃ b aggressive) (survivor_present aggressive g p b.inv.graph (pivot_var b)) flagged₃

    pub place₄ : rd n PE merges.mem p ≡ (begun b).made.start
    place₄ = own₄ PE refl refl refl refl ∙ place₃ b aggressive

    pub extent₄ : rd n LEN merges.mem p ≡ (begun b).made.count
    extent₄ = own₄ LEN refl refl refl refl ∙ extent₃ b aggressive

    pub chained₄ : Chained n merges.mem (queue_of (delisted st.graph st.queues (p ∷ collected st.graph p)))
    chained₄ =
        chained_same (chained₃ b aggressive) merges.mem (λ i. fields₄ HEAD i refl refl refl refl refl refl refl) (λ i. fields₄ NEXT i refl refl refl refl refl refl refl)
        (λ i. fields₄ LAST i refl refl refl refl refl refl refl) (λ i. fields₄ DEGREE i refl refl refl refl refl refl refl)

    -- the flag rose by 2·n at most
    pub risen₄ : merges.tally.flag ≤ t.flag + 2 * n
    risen₄ = omega (arith, merged₄.flags, flag_is, modest, newest_fewer g₂ new given.once, short)

    -- it is not below the largest remaining weight, which it rose by
    pub above₄ : max t.most left ≤ merges.tally.flag
    above₄ = omega (arith, merged₄.rises, flag_is)

    -- and is still above the pivot's own mark
    pub two₄ : 1 < merges.tally.flag
    two₄ =
        let v : is_variable (kind g₃ p) ≡ true = ap is_variable pivot_kind ∙ pivot_var b in
        omega (arith, flagged₄.variable p (pivot_low b) v, flagged₄.below p (pivot_low b))
      where
        pivot_kind : kind g₃ p ≡ kind g p
        pivot_kind =
            (joined2 aggressive g p b.inv.graph (pivot_var b) (plain_key n)).outside_kind p (not_kept p (has_weight g₂) new (pivot_outside g p))
            ∙ still_kind aggressive (passed g p) p new p (pivot_outside g p) ∙ ap (λ (ks : List Kind). get_or ks p merged) (same_passed g p).kinds
