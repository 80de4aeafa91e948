-- What step 4 finds in the memory and what it leaves there, for the definition: g is the graph with the passed elements marked, t the trimmed one, p the pivot and new the collected variables.
-- Assumes nothing.
use Rattle.std.specs.Prelude.{◌≡◌, ℕ, ◌+◌, ◌^◌, ◌<◌, ◌≤◌, false, cond, List, length, ℤ, ◌==◌}
use Rattle.plain.specs.Lists.{member}
use Rattle.plain.specs.Members.{In}
use Rattle.cells.specs.Layout.{DEGREE, ELEN, HHEAD, HKEY, HNEXT, LEN, MERGES, NV, PE, W}
use Rattle.cells.specs.View.{rd}
use Rattle.definition.specs.Merge.{plain_key}
use Rattle.definition.specs.Pivot.{collected, passed}
use Rattle.definition.specs.State.{Graph, State, elements_of, live, weight}
use Rattle.definition.specs.Trim.{external}
use Rattle.drawn.specs.Buckets.{Bucketed}
use Rattle.drawn.specs.Drawn.{Within}
use Rattle.drawn.specs.Flags.{Flagged}
use Rattle.drawn.specs.Log.{Logged}
use Rattle.facts.specs.Invariant.{Inv, Var}
use Rattle.trimming.specs.Model.{Trimming}

-- Before it: of a state of the elimination and its pivot p, the memory within the step, and the marks of step 3.
pub record Ready (n : ℕ) (st : State) (p : ℕ) (l s : List ℤ) (cnt base lim flag : ℕ) : Type 0 where
  pub inv : Inv n st
  pub var : Var st.graph p
  pub few : n ≤ 2 ^ 30
  pub flags : 0 < flag
  pub drawn : Within n l s (passed st.graph p) p (collected st.graph p) cnt base lim
  pub marks : (e i : ℕ) → In i (collected st.graph p) → In e (elements_of (passed st.graph p) i)
      → rd n W s e ≡ cond (live (passed st.graph p) e) (flag + external (passed st.graph p) (collected st.graph p) e) 0

-- After it, from the list space l and the scratch s to r.
pub record Trimmed (n : ℕ) (g t : Graph) (p : ℕ) (new : List ℕ) (l s : List ℤ) (cnt base lim : ℕ) (r : Trimming) : Type 0 where
  pub drawn : Within n r.lists r.mem t p new cnt base lim
  pub bucketed : Bucketed n r.mem (plain_key n) t new
  -- the log, with the rows that went into the pivot
  pub merges : List ℕ
  pub logged : Logged n r.mem t merges
  pub count : r.merged.made ≡ length merges
  -- what they weighed
  pub weight : weight g p + r.merged.weight ≡ weight t p
  -- marks stay below any flag that they were below
  pub flagged : (f : ℕ) → Flagged n s g f → Flagged n r.mem t f
  pub long : length r.lists ≡ length l
  -- the place of the new element
  pub place : rd n PE r.mem p ≡ rd n PE s p
  pub extent : rd n LEN r.mem p ≡ rd n LEN s p
  -- the fields that the step does not write, and two that it writes of no other row
  pub fields : (f x : ℕ) → (PE == f) ≡ false → (LEN == f) ≡ false → (ELEN == f) ≡ false → (DEGREE == f) ≡ false → (W == f) ≡ false → (HHEAD == f) ≡ false → (HNEXT == f) ≡ false
      → (HKEY == f) ≡ false → (MERGES == f) ≡ false → (NV == f) ≡ false → rd n f r.mem x ≡ rd n f s x
  pub elens_out : (x : ℕ) → member x new ≡ false → rd n ELEN r.mem x ≡ rd n ELEN s x
  pub degrees_out : (x : ℕ) → member x new ≡ false → rd n DEGREE r.mem x ≡ rd n DEGREE s x
