-- What is told of a run holds at every state of every run from neighbourly lists: for any key, any limit, aggressive on and off, after any number of steps.
-- Assumes nothing.
use Prim.Native.Nat.{ℕ, ◌<◌}
use native.Mathlib.Omega.{arith}
use mathlib.Core.Path.{◌≡◌, refl, sym, ap, ◌∙◌}
use mathlib.Core.Bool.{Bool, true, false, false≢true}
use mathlib.Core.List.{List, [], ◌∷◌}
use mathlib.Core.Option.{none, some}
use lib.ListN.{length, get_or, replicate, length-replicate}
use Rattle.plain.proofs.Logic.{none_if}
use Rattle.plain.proofs.Members.{no_member}
use Rattle.plain.proofs.Positions.{get_or_same}
use Rattle.plain.specs.Lists.{member}
use Rattle.plain.specs.Members.{In, All}
use Rattle.definition.specs.State.{Graph, Kind, variable, merged, element, dense, kind, parent, rep, is_variable, is_element, is_dense, is_merged, start_weight, started}
use Rattle.definition.specs.Elimination.{run, final_state}
use Rattle.facts.proofs.Belonging.{belonging_start, rep_is}
use Rattle.facts.proofs.Beside.{beside_keeps}
use Rattle.facts.proofs.Enlisted.{inv_start}
use Rattle.facts.proofs.Fronted.{Fronted}
use Rattle.facts.proofs.Linked.{Linked, neighbours}
use Rattle.facts.proofs.Raised.{Raised}
use Rattle.facts.proofs.Recorded.{Recorded, Honest, recorded_step}
use Rattle.facts.proofs.Start.{Neighbourly, weight_is, degree_is, variables_is, element_empty, no_member_of, start_not_merged}
use Rattle.facts.specs.History.{front_of, history_step, history_at, history, born_of}
use Rattle.facts.specs.Invariant.{Var}

module _ (limit : ℕ) (nbrs : List (List ℕ)) (nb : Neighbourly nbrs) where
  abbrev n : ℕ
  n = length nbrs

  abbrev g : Graph
  g = (started limit nbrs).graph

  abbrev none_yet : List (List ℕ)
  none_yet = replicate (length nbrs) []

  -- ---- at the start nothing is told, and there are no elements but rows of degree 0

  born_none : born_of (started limit nbrs) ≡ []
  unfolding born_of started
  born_none = refl

  front_none : (e : ℕ) → front_of none_yet e ≡ []
  front_none e = get_or_same (length nbrs) e []

  in_none : {P : Type 0} (e v : ℕ) → In v (front_of none_yet e) → P
  in_none e v h = no_member v (ap (member v) (sym (front_none e)) ∙ h)

  parent_none : (e : ℕ) → parent g e ≡ none
  unfolding started
  parent_none e = get_or_same (length nbrs) e none

  no_parent : {P : Type 0} (e c : ℕ) → parent g e ≡ some c → P
  no_parent e c h = let a = parent_none e in let z : ◌≡◌ {A = ℕ} 0 1 = cc in absurd (omega arith)

  empty_list : (l : List ℕ) → length l ≡ 0 → l ≡ []
  empty_list [] h = refl
  empty_list (x ∷ xs) h = absurd (omega arith)

  one_element : (k : Kind) → is_element k ≡ true → start_weight k ≡ 1
  unfolding start_weight
  one_element variable h = absurd (false≢true h)
  one_element merged h = absurd (false≢true h)
  one_element element h = refl
  one_element dense h = absurd (false≢true h)

  fronted_start : Fronted (length nbrs) g none_yet
  fronted_start = record {
    size = simp length-replicate refl;
    inside = λ e v l h. in_none e v h;
    back = λ e v lv l vr m. absurd (no_member_of limit nbrs e (rep g v) l.0 m);
    counted = λ e h. ap length (front_none e) ∙ sym (degree_is limit nbrs e ∙ element_empty limit nbrs e h);
    below = λ e v h. in_none e v h;
    once = λ e. rw (front_none e) tt;
    ordered = λ e v h. in_none e v h;
  }

  raised_start : Raised g none_yet (born_of (started limit nbrs))
  raised_start = rw born_none (record {
    once = tt;
    made = λ e m. no_member e m;
    above = λ e c h r. no_parent e c r;
    later = λ e c h r. no_parent e c r;
    passes = λ e c v h r i. in_none e v i;
    no_parent = λ e h m. parent_none e;
    no_variable = λ e i h m k. no_member_of limit nbrs e i h k;
    one_row = λ e h m. weight_is limit nbrs e ∙ one_element (kind g e) h;
  })

  -- a row with a neighbour is a variable or dense
  var_kind : (k : Kind) → is_merged k ≡ false → is_element k ≡ false → is_dense k ≡ false → is_variable k ≡ true
  var_kind variable a b c = refl
  var_kind merged a b c = absurd (false≢true (sym a))
  var_kind element a b c = absurd (false≢true (sym b))
  var_kind dense a b c = absurd (false≢true (sym c))

  start_var : (u v : ℕ) → u < length nbrs → member v (get_or nbrs u []) ≡ true → is_dense (kind g u) ≡ false → Var g u
  start_var u v l m d =
      var_kind (kind g u) (start_not_merged limit nbrs u l)
      (none_if (is_element (kind g u)) (λ e. no_member_of limit nbrs u v e (ap (member v) (variables_is limit nbrs u) ∙ m))) d

  linked_start : (u v : ℕ) → u < length nbrs → v < length nbrs → member v (get_or nbrs u []) ≡ true → is_dense (kind g u) ≡ false → is_dense (kind g v) ≡ false
      → Linked g none_yet u v (rep g u) (rep g v)
  linked_start u v lu lv m du dv =
      let w = nb.mutual_rows u v m in
      rw (rep_is limit nbrs u lu, rep_is limit nbrs v lv)
      (neighbours (start_var u v lu m du) (start_var v u lv w dv) (ap (member v) (variables_is limit nbrs u) ∙ m) (ap (member u) (variables_is limit nbrs v) ∙ w))

  told_none : All (Honest g) (started limit nbrs).fronts
  unfolding started
  told_none = tt

  pub recorded_start : Recorded (length nbrs) nbrs (started limit nbrs) none_yet
  recorded_start = record {
    inv = inv_start limit nbrs nb;
    belonging = belonging_start limit nbrs;
    fronted = fronted_start;
    raised = raised_start;
    told = told_none;
    linked = linked_start;
    lone = λ v l h m. empty_list (get_or nbrs v []) (element_empty limit nbrs v (ap (λ (z : ℕ). is_element (kind g z)) (sym (rep_is limit nbrs v l)) ∙ h));
  }

  -- ---- at every state

  module _ (key_of : ℕ → ℕ) (aggressive : Bool) where
    pub recorded_at : (k : ℕ) → Recorded (length nbrs) nbrs (run key_of k (length nbrs) aggressive (started limit nbrs)) (history_at key_of aggressive limit nbrs k)
    unfolding history_at
    recorded_at k = beside_keeps (Recorded (length nbrs) nbrs) history_step key_of (length nbrs) aggressive (λ s x e r. recorded_step key_of aggressive nbrs s x r) k (started limit nbrs) none_yet recorded_start

    pub recorded_final : Recorded (length nbrs) nbrs (final_state key_of aggressive limit nbrs) (history key_of aggressive limit nbrs)
    unfolding final_state history
    recorded_final = recorded_at (length nbrs)
