-- Which rows are elements after a turn, those before it and the pivot, and that the memory has their sizes.
-- Assumes nothing.
use Prim.Native.Nat.{ℕ, ◌<◌}
use native.Mathlib.Omega.{arith}
use mathlib.Core.Bool.{Bool, false, true}
use mathlib.Core.List.{List}
use mathlib.Core.Logic.{◌≢◌, ⊎_elim}
use mathlib.Core.Path.{◌≡◌, ◌∙◌, ap, refl, sym}
use lib.IntN.{ℤ}
use Rattle.plain.proofs.Logic.{clash, either}
use Rattle.plain.proofs.Members.{not_in}
use Rattle.plain.specs.Lists.{member}
use Rattle.definition.specs.Outcome as Outcomes
use Rattle.definition.specs.Pivot.{collected}
use Rattle.definition.specs.Room as room
use Rattle.definition.specs.State.{Graph, State, is_element, kind}
use Rattle.definition.specs.Tree.{size_of}
use Rattle.facts.proofs.Collected.{collected_var}
use Rattle.facts.proofs.Invariant.{var_not_element}
use Rattle.facts.proofs.Stepped.{After, away, remains}
use Rattle.cells.proofs.Slices.{same?}
use Rattle.cells.specs.Layout.{ELEN}
use Rattle.cells.specs.View.{rd}
use Rattle.elimination.specs.declared.Turn.{Turn}
use Rattle.standing.proofs.Begun.{Before, elens₁, outside₂, pivot_var}
use Rattle.standing.proofs.Merges.{fields₄}
use Rattle.standing.proofs.Places.{done₅, left_few, next}
use Rattle.standing.proofs.Trims.{trimmed₃}
use Rattle.standing.proofs.After.{now, others₅, size₅}

module _ {N n nd size : ℕ} {l s : List ℤ} {t : Turn} {x : Outcomes.Statistics} {st : State} {rm : room.Room} {p d : ℕ} (b : Before N n nd size l s t x st rm p d) (aggressive : Bool) where
  abbrev g : Graph
  g = st.graph

  abbrev new : List ℕ
  new = collected st.graph p

  element_apart : (e : ℕ) → is_element (kind g e) ≡ true → (e ≢ p) × (member e new ≡ false)
  element_apart e h = (
    λ y. clash (is_element (kind g e)) h (ap (λ (z : ℕ). is_element (kind g z)) y ∙ var_not_element (kind g p) (pivot_var b)),
    not_in e new (λ m. clash (is_element (kind g e)) h (var_not_element (kind g e) (collected_var b.inv.graph p (pivot_var b) e m))),
  )

  pub element_stays : (e : ℕ) → is_element (kind st.graph e) ≡ true → is_element (kind (next b aggressive).graph e) ≡ true
  element_stays e h = let a = element_apart e h in ap is_element ((now b aggressive).still_kind e a.0 a.1) ∙ h

  pub pivot_now : is_element (kind (next b aggressive).graph p) ≡ true
  pivot_now = ap is_element (now b aggressive).pivot_kind

  row_no_element : (v : ℕ) → member v new ≡ true → After aggressive g (next b aggressive).graph p v → is_element (kind (next b aggressive).graph v) ≡ false
  row_no_element v m (away a c) = ap is_element a
  row_no_element v m (remains a c e f) = ap is_element c ∙ var_not_element (kind g v) (collected_var b.inv.graph p (pivot_var b) v m)

  element_was : (e : ℕ) → is_element (kind (next b aggressive).graph e) ≡ true → e ≢ p → is_element (kind g e) ≡ true
  element_was e h ne =
      either (is_element (kind g e) ≡ true) (member e new)
      (λ m. clash (is_element (kind (next b aggressive).graph e)) h (row_no_element e m ((now b aggressive).after e m)))
      (λ m. ap is_element (sym ((now b aggressive).still_kind e ne m)) ∙ h)

  -- ---- their sizes

  elen_same : (e : ℕ) → e ≢ p → member e new ≡ false → rd n ELEN (done₅ b aggressive) e ≡ rd n ELEN s e
  elen_same e ne out =
      others₅ b aggressive ELEN e ne refl refl refl refl refl
      ∙ fields₄ b aggressive (left_few b aggressive) ELEN e refl refl refl refl refl refl refl
      ∙ (trimmed₃ b aggressive).elens_out e out ∙ (outside₂ b).kept.fields ELEN e refl ∙ elens₁ b e

  pub sizes₅ : (e : ℕ) → e < n → is_element (kind (next b aggressive).graph e) ≡ true → rd n ELEN (done₅ b aggressive) e ≡ size_of (next b aggressive).graph e
  unfolding size_of
  sizes₅ e low h = ⊎_elim
      (λ y. rw y (size₅ b aggressive))
      (λ ne.
      let was = element_was e h ne in
      let out = (element_apart e was).1 in
      elen_same e ne out ∙ b.stands.sizes e low was ∙ omega (arith, (now b aggressive).still_weight e ne out, (now b aggressive).still_degree e ne out))
      (same? e p)
