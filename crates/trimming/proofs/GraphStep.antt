-- Step 4 in memory, of a state of the elimination: from what it leaves on plain data, all that the definition's `trimmed` says.
-- Assumes nothing.
use Rattle.std.proofs.Common.{◌≡◌, ℕ, ◌+◌, ◌<◌, Bool, List, ◌++◌, length, ℤ, subst, arith}
use Rattle.plain.specs.Lists.{keep}
use Rattle.plain.specs.Turns.{entries, upd}
use Rattle.cells.specs.Layout.{HHEAD, LEN, PE}
use Rattle.cells.specs.View.{at, rd}
use Rattle.definition.specs.Pivot.{collected, passed}
use Rattle.definition.specs.State.{Graph, State, elements_of, variables_of, weight}
use Rattle.definition.specs.Trim.{trimmed}
use Rattle.drawn.specs.Drawn.{list_of}
use Rattle.drawn.specs.Log.{Logged}
use Rattle.facts.proofs.Stepped.{after_trim, is_mass}
use Rattle.facts.specs.Invariant.{Quotient}
use Rattle.trimming.specs.Model.{Trimming}
use Rattle.trimming.specs.Step.{Ready, Trimmed}
use Rattle.trimming.proofs.Done.{Done}
use Rattle.trimming.proofs.GraphBounds.{weights_few, weights_mass}
use Rattle.trimming.proofs.GraphBuckets.{bucketed_after}
use Rattle.trimming.proofs.GraphDrawn.{drawn_after}
use Rattle.trimming.proofs.GraphFlags.{flagged_after}
use Rattle.trimming.proofs.GraphLog.{logged_after, logged_count}
use Rattle.trimming.proofs.GraphMatch.{weights1}
use Rattle.trimming.proofs.GraphReady.{rows}
use Rattle.trimming.proofs.GraphTrim.{pivot_takes}

module _ {n : ℕ} {st : State} {p : ℕ} {l s : List ℤ} {cnt base lim flag : ℕ} (b : Ready n st p l s cnt base lim flag) (aggressive : Bool) (ms : List ℕ) (r : Trimming)
    (d : Done n p flag aggressive (upd (list_of (passed st.graph p)) p (collected st.graph p)) (elements_of (passed st.graph p)) (variables_of (passed st.graph p))
    l s cnt base lim (length ms) (collected st.graph p) r) where
  abbrev g : Graph
  g = st.graph

  abbrev g₁ : Graph
  g₁ = passed g p

  abbrev g₂ : Graph
  g₂ = after_trim aggressive g p

  abbrev new : List ℕ
  new = collected g p

  q : Quotient n g
  q = b.inv.graph

  -- ---- the weight

  weight_taken : weight g₁ p + r.merged.weight ≡ weight g₂ p
  weight_taken =
      omega (
        arith,
        d.merged (omega (arith, weights_few b aggressive)),
        weights_mass b aggressive,
        pivot_takes aggressive g p q b.var,
        weights1 g p p,
      )

  -- THE step
  pub trimmed_in_memory : ((k : ℕ) → k < n → rd n HHEAD s k ≡ n) → Logged n s (passed st.graph p) ms
      → Trimmed n (passed st.graph p) (trimmed aggressive (passed st.graph p) p (collected st.graph p)) p (collected st.graph p) l s cnt base lim r
  trimmed_in_memory heads k =
      record {
        drawn = drawn_after b aggressive (length ms) r d;
        bucketed = bucketed_after b aggressive (length ms) r d heads;
        merges = ms ++ keep (is_mass aggressive g p) new;
        logged = logged_after b aggressive ms r d k;
        count = logged_count b aggressive ms r d k;
        weight = weight_taken;
        flagged = flagged_after b aggressive (length ms) r d;
        long = d.long;
        place = d.place;
        extent = d.extent;
        fields = d.fields;
        elens_out = d.elens_out;
        degrees_out = d.degrees_out;
      }

-- the same, with the rows as they lie in the list space: what the rows' refinement gives
pub rows_in_memory : {n : ℕ} {st : State} {p : ℕ} {l s : List ℤ} {cnt base lim flag : ℕ} (b : Ready n st p l s cnt base lim flag) (aggressive : Bool) (ms : List ℕ) (r : Trimming)
    → Done n p flag aggressive (upd (list_of (passed st.graph p)) p (collected st.graph p)) (elements_of (passed st.graph p)) (variables_of (passed st.graph p))
    l s cnt base lim (length ms) (entries (at l) (rd n PE s p) (rd n LEN s p)) r
    → ((k : ℕ) → k < n → rd n HHEAD s k ≡ n) → Logged n s (passed st.graph p) ms
    → Trimmed n (passed st.graph p) (trimmed aggressive (passed st.graph p) p (collected st.graph p)) p (collected st.graph p) l s cnt base lim r
rows_in_memory {n} {st} {p} {l} {s} {cnt} {base} {lim} {flag} b aggressive ms r d heads k =
    trimmed_in_memory b aggressive ms r
    (subst
    (λ (y : List ℕ). Done n p flag aggressive (upd (list_of (passed st.graph p)) p (collected st.graph p)) (elements_of (passed st.graph p)) (variables_of (passed st.graph p))
    l s cnt base lim (length ms) y r)
    (rows b) d)
    heads k
