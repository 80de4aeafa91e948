-- Whom a row belongs to after a step: the plan's rep'. What belonged to the pivot or to a mass eliminated variable belongs to the pivot, what belonged to another
-- collected variable belongs to a survivor of equal lists, and nothing else changes. And what is merged has a parent.
-- Assumes nothing.
use Prim.Native.Nat.{ℕ, ◌-◌, ◌+◌, ◌<◌}
use native.Mathlib.Omega.{arith}
use mathlib.Core.Path.{◌≡◌, refl, sym, ap, ◌∙◌}
use mathlib.Core.Logic.{◌≢◌}
use mathlib.Core.Bool.{Bool, true, false, cond, ◌&&◌}
use mathlib.Core.List.{List, ◌∷◌, ◌++◌}
use mathlib.Core.Option.{some}
use lib.Dec.{eqb}
use lib.ListN.{get_or}
use borrow.Author.Tests.{eq-eqb, lt-ltb, le-ltb}
use Rattle.plain.proofs.Folds.{hits, hits_at}
use Rattle.plain.proofs.Logic.{either, clash, and_both, or_right}
use Rattle.plain.proofs.Members.{member_here, member_there, member_kept, kept_was, not_kept, not_kept_at}
use Rattle.plain.specs.Lists.{member, keep}
use Rattle.plain.specs.Members.{Within}
use Rattle.definition.specs.State.{Graph, State, weight, elements_of, parent, rep, has_weight, is_variable, kind}
use Rattle.definition.specs.Pivot.{collected, passed, delisted}
use Rattle.definition.specs.Trim.{trimmed, dropped_elements}
use Rattle.definition.specs.Elimination.{eliminate, finish}
use Rattle.facts.proofs.Collected.{distinct_collected, collected_var, pivot_outside}
use Rattle.facts.proofs.Moved.{Moved, moved, chased, chased_other, chased_mass, chased_kept, rep_turns}
use Rattle.facts.proofs.Rows.{same_passed, taken_at}
use Rattle.facts.proofs.Step.{survivors_of, rest_of, start_of, weight_t, parent_t, rep_t, stepped_t}
use Rattle.facts.proofs.Stepped.{kept_e, kept_v, is_mass, after_trim, after_merge, After, away, remains, Stepped, inside, sized1, sized2, weight2, parent2, joined2}
use Rattle.facts.proofs.Weights.{compared_mass, entry}
use Rattle.facts.specs.Invariant.{Var, Quotient}

-- i is what is left of r's class: a collected variable that remains, with the lists of r
pub record Heir (aggressive : Bool) (g t : Graph) (p r i : ℕ) : Type 0 where
  pub chosen : member i (collected g p) ≡ true
  pub no_mass : is_mass aggressive g p i ≡ false
  pub remains : Var t i
  pub forth : Within (kept_e aggressive g p r ++ kept_v g p r) (kept_e aggressive g p i ++ kept_v g p i)
  pub back : Within (kept_e aggressive g p i ++ kept_v g p i) (kept_e aggressive g p r ++ kept_v g p r)

pub record Followed (n : ℕ) (aggressive : Bool) (g t : Graph) (p : ℕ) : Type 0 where
  pub goes : ℕ → ℕ
  pub follows : (v : ℕ) → v < n → rep t v ≡ goes (rep g v)
  pub of_pivot : goes p ≡ p
  pub of_mass : (r : ℕ) → member r (collected g p) ≡ true → is_mass aggressive g p r ≡ true → goes r ≡ p
  pub of_kept : (r : ℕ) → member r (collected g p) ≡ true → is_mass aggressive g p r ≡ false → Heir aggressive g t p r (goes r)
  pub of_survivor : (r : ℕ) → member r (collected g p) ≡ true → Var t r → goes r ≡ r
  pub of_other : (r : ℕ) → r ≢ p → member r (collected g p) ≡ false → goes r ≡ r
  -- what is no variable any more was merged into the pivot or a collected row, and goes where that goes
  pub lost : (r : ℕ) → member r (collected g p) ≡ true → is_variable (kind t r) ≡ false → (i : ℕ) × (member i (p ∷ collected g p) ≡ true) × (parent t r ≡ some i) × (goes r ≡ goes i)

module _ {n : ℕ} (key_of : ℕ → ℕ) (aggressive : Bool) (g : Graph) (p : ℕ) (q : Quotient n g) (pv : Var g p) where
  abbrev g2 : Graph
  g2 = after_trim aggressive g p

  abbrev g3 : Graph
  g3 = after_merge key_of aggressive g p

  abbrev new : List ℕ
  new = collected g p

  abbrev compared : List ℕ
  compared = keep (has_weight g2) new

  moved2 : Moved n compared g2 g3
  moved2 = moved key_of new g2 (sized2 aggressive g p q pv) (distinct_collected g p) (inside aggressive g p q pv)

  abbrev first : ℕ → ℕ
  first r = chased (is_mass aggressive g p) p new r

  abbrev goes3 : ℕ → ℕ
  goes3 r = moved2.goes (first r)

  follows2 : (v : ℕ) → v < n → rep g2 v ≡ first (rep g v)
  unfolding trimmed
  follows2 v l = rep_turns aggressive (passed g p) p new v l new (passed g p) (sized1 aggressive g p q pv)
      ∙ ap (λ (m : List ℕ). first (get_or m v 0)) (same_passed g p).reps

  follows3 : (v : ℕ) → v < n → rep g3 v ≡ goes3 (rep g v)
  follows3 v l = moved2.follows v l ∙ ap moved2.goes (follows2 v l)

  outside2 : (r : ℕ) → member r new ≡ false → member r compared ≡ false
  outside2 r m = not_kept r (has_weight g2) new m

  inside2 : (r : ℕ) → member r new ≡ true → is_mass aggressive g p r ≡ false → member r compared ≡ true
  inside2 r m e =
      member_kept r (has_weight g2) new
      (lt-ltb 0 (weight g2 r) (omega (arith, weight2 aggressive g p q pv r m ∙ ap (λ (b : Bool). cond b 0 (weight g r)) e, q.heavy r (collected_var q p pv r m)))) m

  mass2 : (r : ℕ) → member r new ≡ true → is_mass aggressive g p r ≡ true → member r compared ≡ false
  mass2 r m e = not_kept_at r (has_weight g2) new (le-ltb 0 (weight g2 r) (omega (arith, weight2 aggressive g p q pv r m ∙ ap (λ (b : Bool). cond b 0 (weight g r)) e)))

  stays3 : (r : ℕ) → member r new ≡ false → goes3 r ≡ r
  stays3 r m = ap moved2.goes (chased_other (is_mass aggressive g p) p new r m) ∙ moved2.outside r (outside2 r m)

  mass3 : (r : ℕ) → member r new ≡ true → is_mass aggressive g p r ≡ true → goes3 r ≡ p
  mass3 r m e = ap moved2.goes (chased_mass (is_mass aggressive g p) p new r (pivot_outside g p) m e) ∙ moved2.outside p (outside2 p (pivot_outside g p))

  kept3 : (r : ℕ) → is_mass aggressive g p r ≡ false → goes3 r ≡ moved2.goes r
  kept3 r e = ap moved2.goes (chased_kept (is_mass aggressive g p) p new r e)

  -- a mass eliminated row has the pivot for its parent
  mass_parent : (r : ℕ) → member r new ≡ true → is_mass aggressive g p r ≡ true → parent g3 r ≡ some p
  mass_parent r m e =
      (joined2 aggressive g p q pv key_of).outside_parent r (mass2 r m e) ∙ parent2 aggressive g p q pv r (inside aggressive g p q pv r m)
      ∙ ap (λ (b : Bool). cond b (some p) (cond (member r (elements_of g p)) (some p) (parent g r))) hit
    where
      hit : hits (taken_at aggressive (passed g p) p new r) new ≡ true
      hit = hits_at (taken_at aggressive (passed g p) p new r) r new m
          (or_right (member r (dropped_elements aggressive (passed g p) new r)) (is_mass aggressive g p r && eqb r r) (and_both (is_mass aggressive g p r) (eqb r r) e (eq-eqb r r refl)))

  module _ (left : ℕ) (queues : List (List ℕ)) (least : ℕ) where
    abbrev t : Graph
    t = (Rattle.definition.specs.Place.placed left (rest_of key_of aggressive g p) (survivors_of key_of aggressive g p) (start_of key_of aggressive g p queues least)).graph

    st : Stepped n aggressive g t p
    st = stepped_t key_of aggressive g p q pv left queues least

    abbrev Lost : ℕ → Type 0
    Lost r = (i : ℕ) × (member i (p ∷ new) ≡ true) × (parent t r ≡ some i) × (goes3 r ≡ goes3 i)

    pub followed_t : Followed n aggressive g t p
    followed_t = record {
      goes = goes3;
      follows = λ v l. rep_t key_of aggressive g p q pv left queues least v ∙ follows3 v l;
      of_pivot = stays3 p (pivot_outside g p);
      of_mass = mass3;
      of_kept = λ r m e. rw (kept3 r e) (heir r m e);
      of_survivor = λ r m h. fixed r m h (st.after r m);
      of_other = λ r ne m. stays3 r m;
      lost = λ r m h. either (Lost r) (is_mass aggressive g p r)
          (λ e. (p, member_here p new, parent_t key_of aggressive g p q pv left queues least r ∙ mass_parent r m e, mass3 r m e ∙ sym (stays3 p (pivot_outside g p))))
          (λ e. gone r m e h (st.after r m));
    }
      where
        weight3 : (r : ℕ) → weight t r ≡ weight g3 r
        weight3 r = weight_t key_of aggressive g p q pv left queues least r

        survives : (i : ℕ) → member i new ≡ true → 0 < weight t i → After aggressive g t p i → Var t i
        survives i m w (away a b) = absurd (omega arith)
        survives i m w (remains a b c d) = ap is_variable b ∙ collected_var q p pv i m

        heir : (r : ℕ) → member r new ≡ true → is_mass aggressive g p r ≡ false → Heir aggressive g t p r (moved2.goes r)
        heir r m e =
            let mc = inside2 r m e in
            let k = moved2.inside r mc in
            let i = moved2.goes r in
            let mi : member i new ≡ true = kept_was i (has_weight g2) new k.0 in
            let ei : is_mass aggressive g p i ≡ false = compared_mass key_of aggressive g p q pv i k.0 in
            record {
              chosen = mi;
              no_mass = ei;
              remains = survives i mi (omega (arith, weight3 i, k.1)) (st.after i mi);
              forth = λ x h. sym (entry key_of aggressive g p q pv x i mi ei) ∙ moved2.forth r mc x (entry key_of aggressive g p q pv x r m e ∙ h);
              back = λ x h. sym (entry key_of aggressive g p q pv x r m e) ∙ moved2.back r mc x (entry key_of aggressive g p q pv x i mi ei ∙ h);
            }

        fixed : (r : ℕ) → member r new ≡ true → Var t r → After aggressive g t p r → goes3 r ≡ r
        fixed r m h (away a b) = clash (is_variable (kind t r)) h (ap is_variable a)
        fixed r m h (remains a b c d) =
            kept3 r a ∙ moved2.fixed r (inside2 r m a) (omega (arith, weight3 r, q.heavy r (collected_var q p pv r m)))

        gone : (r : ℕ) → member r new ≡ true → is_mass aggressive g p r ≡ false → is_variable (kind t r) ≡ false → After aggressive g t p r → Lost r
        gone r m e h (away a b) =
            let z = moved2.lost r (inside2 r m e) (sym (weight3 r) ∙ b) in
            let i = z.0 in (
              i,
              member_there i p new (kept_was i (has_weight g2) new z.1),
              parent_t key_of aggressive g p q pv left queues least r ∙ z.2,
              kept3 r e ∙ z.3 ∙ sym (kept3 i (compared_mass key_of aggressive g p q pv i z.1)),
            )
        gone r m e h (remains a b c d) = clash (is_variable (kind t r)) (ap is_variable b ∙ collected_var q p pv r m) h

pub followed : {n : ℕ} (key_of : ℕ → ℕ) (m : ℕ) (aggressive : Bool) (s : State) (p d : ℕ) → Quotient n s.graph → Var s.graph p
    → Followed n aggressive s.graph (eliminate key_of m aggressive s p d).graph p
unfolding eliminate finish survivors_of rest_of
followed key_of m aggressive s p d q pv =
    followed_t key_of aggressive s.graph p q pv (m - (s.gone + weight (after_merge key_of aggressive s.graph p) p)) (delisted s.graph s.queues (p ∷ collected s.graph p)) d
