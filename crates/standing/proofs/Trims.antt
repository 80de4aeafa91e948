-- Step 4 of a turn: the rows of the new element are trimmed, and what is left of its weight.
-- Assumes nothing.
use Prim.Native.Nat.{ℕ, ◌+◌, ◌<◌, ◌≤◌, ◌^◌}
use native.Mathlib.Omega.{arith}
use mathlib.Core.Bool.{Bool, cond, false, true}
use mathlib.Core.List.{List, ◌∷◌}
use mathlib.Core.Path.{◌≡◌, ◌∙◌, ap, refl, sym, subst}
use lib.IntN.{ℤ}
use lib.ListN.{get_or, length}
use Rattle.plain.proofs.Entries.{upd_same}
use Rattle.plain.proofs.Members.{member_there, not_in}
use Rattle.plain.proofs.Sums.{total_below}
use Rattle.plain.specs.Lists.{member, total}
use Rattle.plain.specs.Members.{In}
use Rattle.plain.specs.Turns.{entries, upd}
use Rattle.definition.specs.Outcome as Outcomes
use Rattle.definition.specs.Pivot.{collected, delisted, passed}
use Rattle.definition.specs.Room as room
use Rattle.definition.specs.State.{Graph, State, elements_of, queue_of, variables_of, weight}
use Rattle.facts.proofs.Collected.{collected_var, distinct_collected}
use Rattle.facts.proofs.Flags.{weight_most}
use Rattle.facts.proofs.Invariant.{var_inside}
use Rattle.facts.proofs.Queues.{delisted_gone, delisted_was}
use Rattle.facts.proofs.Rows.{same_passed}
use Rattle.facts.proofs.Stepped.{after_trim, is_mass, weight2}
use Rattle.cells.specs.Layout.{HEAD, LAST, LEN, NEXT, PE}
use Rattle.cells.specs.View.{at, rd}
use Rattle.chain.proofs.Frame.{chained_frame}
use Rattle.chain.specs.Chained.{Chained}
use Rattle.drawn.specs.Drawn.{list_of}
use Rattle.packed.proofs.Frame.{inside_space}
use Rattle.packed.specs.Places.{places}
use Rattle.trimming.proofs.Carried.{rows_done}
use Rattle.trimming.proofs.Done.{Done}
use Rattle.trimming.proofs.GraphBounds.{total_square}
use Rattle.trimming.proofs.GraphReady.{far, fine, once, pivot, pivot_inside}
use Rattle.trimming.proofs.GraphStep.{rows_in_memory}
use Rattle.trimming.specs.Model.{Trimming, updated_all}
use Rattle.trimming.specs.Step.{Ready, Trimmed}
use Rattle.elimination.specs.declared.Turn.{Turn}
use Rattle.sizing.proofs.Weighing.{weighed_total}
use Rattle.sizing.specs.Model.{weighed_rows}
use Rattle.standing.proofs.Begun.{Before, begun, chained₂, drawn₁, drawn₂, extent₂, heads₂, inside₁, list₁, logged₂, outside₂, pivot_var, place₂, rows_short, sized, small}

module _ {N n nd size : ℕ} {l s : List ℤ} {t : Turn} {x : Outcomes.Statistics} {st : State} {rm : room.Room} {p d : ℕ} (b : Before N n nd size l s t x st rm p d) (aggressive : Bool) where
  abbrev g : Graph
  g = st.graph

  abbrev g₁ : Graph
  g₁ = passed st.graph p

  abbrev g₂ : Graph
  g₂ = after_trim aggressive st.graph p

  abbrev new : List ℕ
  new = collected st.graph p

  ready : Ready n st p (begun b).lists (sized b) (begun b).made.made (begun b).made.base (begun b).made.free t.flag
  ready =
      record {
        inv = b.inv;
        var = pivot_var b;
        few = omega (arith, b.many, rows_short b);
        flags = omega (arith, b.stands.two);
        drawn = drawn₂ b;
        marks = (outside₂ b).sizes;
      }

  abbrev pub trims : Trimming
  trims = updated_all n p t.flag aggressive (begun b).made.start (begun b).made.count t.merges (begun b).lists (sized b)

  abbrev D : ℕ → Trimming → Type 0
  D made r =
      Done n p t.flag aggressive (upd (list_of g₁) p new) (elements_of g₁) (variables_of g₁) (begun b).lists (sized b) (begun b).made.made (begun b).made.base (begun b).made.free
      made (entries (at (begun b).lists) (rd n PE (sized b) p) (rd n LEN (sized b) p)) r

  done : D (length b.stands.merges) trims
  done =
      subst (λ (m : ℕ). D m trims) b.stands.count
      (subst (λ (a : ℕ). D t.merges (updated_all n p t.flag aggressive a (begun b).made.count t.merges (begun b).lists (sized b))) (place₂ b)
      (subst (λ (k : ℕ). D t.merges (updated_all n p t.flag aggressive (rd n PE (sized b) p) k t.merges (begun b).lists (sized b))) (extent₂ b)
      (rows_done n p t.flag aggressive (upd (list_of g₁) p new) (begun b).lists (sized b) (begun b).made.made (begun b).made.base (begun b).made.free (drawn₂ b).space
      (pivot_inside ready) (elements_of g₁) (variables_of g₁) (fine ready aggressive) (once ready) (pivot ready) (far ready) (small b) t.merges)))

  pub trimmed₃ : Trimmed n (passed st.graph p) (after_trim aggressive st.graph p) p (collected st.graph p) (begun b).lists (sized b) (begun b).made.made (begun b).made.base (begun b).made.free trims
  trimmed₃ = rows_in_memory ready aggressive b.stands.merges trims done (heads₂ b) (logged₂ b)

  -- the new element is where it was
  pub place₃ : rd n PE trims.mem p ≡ (begun b).made.start
  place₃ = trimmed₃.place ∙ place₂ b

  pub extent₃ : rd n LEN trims.mem p ≡ (begun b).made.count
  extent₃ = trimmed₃.extent ∙ extent₂ b

  pub inside₃ : 0 < (begun b).made.count → (begun b).made.start + (begun b).made.count ≤ length trims.lists
  inside₃ z =
      omega (
        arith,
        place₃,
        extent₃,
        inside_space trims.lists (places n trims.mem) (begun b).made.free (upd (list_of g₂) p new) trimmed₃.drawn.space.lists p (rw extent₃ z),
      )

  pub list₃ : entries (at trims.lists) (begun b).made.start (begun b).made.count ≡ collected st.graph p
  list₃ =
      ap (λ (a : ℕ). entries (at trims.lists) a (begun b).made.count) (sym place₃) ∙ ap (entries (at trims.lists) (rd n PE trims.mem p)) (sym extent₃)
      ∙ trimmed₃.drawn.space.lists.lists p ∙ upd_same (list_of g₂) p new

  -- ---- the degree lists: the rows whose degrees changed stand in none

  queue_apart : (e i : ℕ) → In i (queue_of (delisted g st.queues (p ∷ new)) e) → member i new ≡ false
  queue_apart e i m =
      not_in i new
      (λ k.
      let q = b.inv.queued.only e i (delisted_was g (p ∷ new) st.queues e i m) in
      delisted_gone g (p ∷ new) st.queues i (member_there i p new k) (ap (λ (y : ℕ). member i (queue_of (delisted g st.queues (p ∷ new)) y)) q.1 ∙ m))

  pub chained₃ : Chained n trims.mem (queue_of (delisted st.graph st.queues (p ∷ collected st.graph p)))
  chained₃ =
      chained_frame (chained₂ b) trims.mem (λ e he. trimmed₃.fields HEAD e refl refl refl refl refl refl refl refl refl refl)
      (λ e i he m. record {
        next = trimmed₃.fields NEXT i refl refl refl refl refl refl refl refl refl refl;
        back = trimmed₃.fields LAST i refl refl refl refl refl refl refl refl refl refl;
        deg = trimmed₃.degrees_out i (queue_apart e i m);
      })

  -- ---- the weight of the new element

  weight₁ : (v : ℕ) → weight g₁ v ≡ weight g v
  weight₁ v = ap (λ (ws : List ℕ). get_or ws v 0) (same_passed g p).weights

  low : (v : ℕ) → In v new → v < n
  low v m = var_inside b.inv.graph v (collected_var b.inv.graph p (pivot_var b) v m)

  pub all_light : total (weight st.graph) (collected st.graph p) ≤ 2 ^ 60
  all_light =
      total_square n (weight g) new (omega (arith, b.many, rows_short b)) (distinct_collected g p)
      (λ v m. (low v m, weight_most st b.inv v (collected_var b.inv.graph p (pivot_var b) v m)))

  pub weighed₃ : weighed_rows n (begun b).lists (begun b).mem (begun b).made.start (begun b).made.count ≡ total (weight st.graph) (collected st.graph p)
  weighed₃ =
      weighed_total n (begun b).lists (begun b).mem (begun b).made.start (begun b).made.count new (weight g) (inside₁ b) (list₁ b) (λ v m. (drawn₁ b).weights v (low v m) ∙ weight₁ v)
      (omega (arith, all_light))

  pub light₃ : total (weight (after_trim aggressive st.graph p)) (collected st.graph p) < 2 ^ 63
  light₃ =
      let z = total_below (weight g₂) (weight g) new (λ v m. less v (is_mass aggressive g p v) (weight2 aggressive g p b.inv.graph (pivot_var b) v m)) in
      omega (arith, all_light)
    where
      less : (v : ℕ) (c : Bool) → weight g₂ v ≡ cond c 0 (weight g v) → weight g₂ v ≤ weight g v
      less v true e = omega (arith, e)
      less v false e = omega (arith, e)

  -- what was merged into the pivot
  pub taken₃ : weight st.graph p + trims.merged.weight ≡ weight (after_trim aggressive st.graph p) p
  taken₃ = omega (arith, trimmed₃.weight, weight₁ p)
