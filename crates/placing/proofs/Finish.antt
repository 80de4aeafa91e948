-- Step 6 in the memory, against the definition's step from one state to the next: `ready`, `rest_after`, `trimmed_after`, `chained_after`, `least_after`,
-- `flagged_after`, `logged_after`.
-- Assumes nothing.
use Prim.Native.Nat.{ℕ, ◌+◌, ◌-◌, ◌≤◌, ◌<◌, ◌^◌}
use native.Mathlib.Omega.{arith}
use mathlib.Core.Path.{◌≡◌, refl, ap, ◌∙◌}
use mathlib.Core.Logic.{◌≢◌}
use mathlib.Core.Bool.{Bool, true, false}
use mathlib.Core.List.{List, ◌∷◌}
use borrow.Author.Tests.{lt-ltb, ltb-true}
use lib.Dec.{eqb}
use lib.IntN.{ℤ}
use lib.ListN.{length, get_or}
use Rattle.plain.proofs.Logic.{clash}
use Rattle.plain.proofs.Members.{not_in, not_kept}
use Rattle.plain.specs.Lists.{member, keep, total, is_none}
use Rattle.plain.specs.Members.{In}
use Rattle.definition.specs.State.{Graph, State, Kind, variable, merged, element, dense, kind, weight, degree, has_weight, is_variable, is_merged, queue_of}
use Rattle.definition.specs.Elimination.{eliminate, finish}
use Rattle.definition.specs.Pivot.{collected, delisted, passed}
use Rattle.facts.proofs.Collected.{collected_var, distinct_collected, pivot_outside}
use Rattle.facts.proofs.Invariant.{var_inside}
use Rattle.facts.proofs.Pivots.{Pivoted}
use Rattle.facts.proofs.Queues.{delisted_gone, delisted_was}
use Rattle.facts.proofs.Rows.{same_passed, still_kind}
use Rattle.facts.proofs.Sizes.{length_delisted}
use Rattle.facts.proofs.Step.{after3, gone_after}
use Rattle.facts.proofs.Stepped.{After, away, remains, after_merge, after_trim, inside, joined2, var_parent2}
use Rattle.facts.proofs.Weighed.{pivot_heavy}
use Rattle.facts.specs.Invariant.{Inv, Quotient, Var}
use Rattle.cells.specs.Layout.{DEGREE, ELEN, HEAD, LAST, LEN, NEXT, NV, PE, W, WANT}
use Rattle.cells.specs.View.{rd}
use Rattle.chain.specs.Chained.{Chained}
use Rattle.packed.specs.Gather.{Cut, kept_part}
use Rattle.packed.specs.Places.{Owns, places}
use Rattle.drawn.specs.Drawn.{Rest, Within}
use Rattle.drawn.specs.Flags.{Flagged}
use Rattle.drawn.specs.Log.{Logged}
use Rattle.placing.specs.Model.{Spot, spot, placed_all, finished}
use Rattle.placing.proofs.Whole.{Ready, placed_rest, placed_trimmed, placed_chained, placed_least, placed_count, placed_flagged, placed_logged, placed_size, placed_long, placed_fields, placed_others}

var_kept : (k : Kind) → is_variable k ≡ true → is_merged k ≡ false
var_kept variable e = refl
var_kept merged e = clash false e refl
var_kept element e = refl
var_kept dense e = refl

module _ {n : ℕ} (key_of : ℕ → ℕ) (aggressive : Bool) (st : State) (inv : Inv n st) (p d : ℕ) (pd : Pivoted st p d) where
  abbrev g : Graph
  g = st.graph

  abbrev q : Quotient n st.graph
  q = inv.graph

  abbrev pv : Var st.graph p
  pv = pd.is_var

  abbrev new : List ℕ
  new = collected st.graph p

  -- the graph after steps 2 to 5
  abbrev g3 : Graph
  g3 = after_merge key_of aggressive st.graph p

  -- the degree lists after step 2
  abbrev queues : List (List ℕ)
  queues = delisted st.graph st.queues (p ∷ collected st.graph p)

  -- the state after the pivot
  abbrev next : State
  next = eliminate key_of n aggressive st p d

  -- the new element's remaining weight, and how many variables are left
  abbrev size : ℕ
  size = total (weight g3) (keep (has_weight g3) new)

  abbrev left : ℕ
  left = n - (st.gone + weight g3 p)

  same_weight : weight next.graph p ≡ weight g3 p
  unfolding eliminate finish
  same_weight = omega (arith, gone_after key_of n aggressive st p d q pv)

  var_after : (v : ℕ) → In v new → has_weight g3 v ≡ true → After aggressive g g3 p v → is_variable (kind g3 v) ≡ true
  var_after v i e (away a b) = absurd (omega (arith, ltb-true 0 (weight g3 v) e))
  var_after v i e (remains a b c r) = ap is_variable b ∙ collected_var q p pv v i

  -- what was delisted stands in no list
  fresh : (v e : ℕ) → In v (p ∷ new) → member v (queue_of queues e) ≡ false
  fresh v e i =
      not_in v (queue_of queues e)
      (λ m.
      let k = inv.queued.only e v (delisted_was g (p ∷ new) st.queues e v m) in
      delisted_gone g (p ∷ new) st.queues v i (ap (λ (x : ℕ). member v (queue_of queues x)) k.1 ∙ m))

  pivot_kept : is_merged (kind g3 p) ≡ false
  pivot_kept =
      ap is_merged ((joined2 aggressive g p q pv key_of).outside_kind p (not_kept p (has_weight (after_trim aggressive g p)) new (pivot_outside g p))
      ∙ still_kind aggressive (passed g p) p new p (pivot_outside g p) ∙ ap (λ (l : List Kind). get_or l p merged) (same_passed g p).kinds)
      ∙ var_kept (kind g p) pv

  pub ready : Ready n g3 p new queues
  ready =
      record {
        sized = (joined2 aggressive g p q pv key_of).sized;
        inside = var_inside q p pv;
        heavy = lt-ltb 0 (weight g3 p) (omega (arith, same_weight, pivot_heavy key_of aggressive st inv p d pd));
        orphan = ap is_none ((joined2 aggressive g p q pv key_of).outside_parent p (not_kept p (has_weight (after_trim aggressive g p)) new (pivot_outside g p))
            ∙ var_parent2 aggressive g p q pv p pv (λ m. clash (member p new) m (pivot_outside g p)))
            ∙ q.orphan p pv;
        once = distinct_collected g p;
        outside = pivot_outside g p;
        below = inside aggressive g p q pv;
        variables = λ v i e. var_after v i e (after3 key_of aggressive g p q pv v i);
        queues = length_delisted g (p ∷ new) st.queues ∙ inv.queued.size;
        fresh = λ v e i he. fresh v e i;
      }

  module _ (l s : List ℤ) (cnt base lim : ℕ) (h : Within n l s g3 p new cnt base lim) (chained : Chained n s (queue_of queues)) where
    -- what the code has: after the survivors are placed, after they are kept, after the element is finished
    abbrev spot1 : Spot
    spot1 = placed_all n size left l (rd n PE s p) (rd n LEN s p) (spot s d)

    abbrev kept1 : Cut
    kept1 = kept_part n NV s (rd n PE s p) (rd n LEN s p) l

    abbrev done : List ℤ
    done = finished n spot1.mem p size kept1.count

    -- the memory holds the next state's graph
    pub rest_after : Rest n kept1.lists done next.graph cnt base lim
    unfolding eliminate finish
    rest_after = placed_rest n l s g3 p new cnt base lim h queues ready chained left size (omega arith) d

    -- where the element was made behind all others the limit is its end
    pub trimmed_after : base ≤ rd n PE s p → rd n PE s p ≤ lim → ((i c : ℕ) → i ≢ p → Owns (places n s) i c → c < rd n PE s p)
        → Rest n kept1.lists done next.graph cnt base (rd n PE s p + kept1.count)
    unfolding eliminate finish
    trimmed_after = placed_trimmed n l s g3 p new cnt base lim h queues ready chained left size (omega arith) d

    -- and its degree lists
    pub chained_after : Chained n done (queue_of next.queues)
    unfolding eliminate finish
    chained_after = placed_chained n l s g3 p new cnt base lim h queues ready chained left size (omega arith) d

    -- and the code has its least degree
    pub least_after : spot1.least ≡ next.least
    unfolding eliminate finish
    least_after = placed_least n l s g3 p new cnt base lim h queues ready chained left size (omega arith) d

    -- the survivors are counted
    pub count_after : kept1.count ≡ length (keep (has_weight g3) new)
    count_after = placed_count n l s g3 p new cnt base lim h queues ready chained left size (omega arith) d

    pub flagged_after : (flag : ℕ) → 1 < flag → Flagged n s g3 flag → Flagged n done next.graph flag
    unfolding eliminate finish
    flagged_after = placed_flagged n l s g3 p new cnt base lim h queues ready chained left size (omega arith) d

    -- the log of merges
    pub logged_after : (ms : List ℕ) → Logged n s g3 ms → Logged n done next.graph ms
    unfolding eliminate finish
    logged_after = placed_logged n l s g3 p new cnt base lim h queues ready chained left size (omega arith) d pivot_kept

    -- the new element's size
    pub size_after : weight g3 p + size < 2 ^ 63 → rd n ELEN done p ≡ weight next.graph p + degree next.graph p
    unfolding eliminate finish
    size_after = placed_size n l s g3 p new cnt base lim h queues ready chained left size (omega arith) d

    pub long_after : length kept1.lists ≡ length l
    long_after = placed_long n l s g3 p new cnt base lim h queues ready chained left size (omega arith) d

    -- every field that step 6 does not write, and those that it writes at the pivot alone
    pub fields_after : (f v : ℕ) → eqb HEAD f ≡ false → eqb NEXT f ≡ false → eqb LAST f ≡ false → eqb DEGREE f ≡ false → eqb WANT f ≡ false → eqb LEN f ≡ false
        → eqb ELEN f ≡ false → eqb W f ≡ false → eqb PE f ≡ false → rd n f done v ≡ rd n f s v
    fields_after = placed_fields n l s g3 p new cnt base lim h queues ready chained left size (omega arith) d

    pub others_after : (f v : ℕ) → v ≢ p → eqb HEAD f ≡ false → eqb NEXT f ≡ false → eqb LAST f ≡ false → eqb DEGREE f ≡ false → eqb WANT f ≡ false → rd n f done v ≡ rd n f s v
    others_after = placed_others n l s g3 p new cnt base lim h queues ready chained left size (omega arith) d
