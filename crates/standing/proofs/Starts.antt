-- The start: the memory that the packed lists of A + A' are opened to stands for the definition's first state.
-- Assumes nothing.
use Prim.Native.Nat.{ℕ, ◌<◌, ◌≤◌, ◌^◌}
use native.Mathlib.Omega.{arith}
use mathlib.Core.Bool.{false≢true, true}
use mathlib.Core.List.{List, []}
use mathlib.Core.Path.{◌≡◌, ◌∙◌, ap, refl, sym, subst}
use lib.IntN.{ℤ}
use lib.ListN.{get_or, length}
use Rattle.plain.specs.Lists.{total}
use Rattle.plain.specs.Turns.{entries}
use Rattle.definition.specs.Limits.{base_limits}
use Rattle.definition.specs.State.{Graph, Kind, variable, merged, element, dense, degree, dense_rows, is_element, kind, start_weight, started}
use Rattle.definition.specs.Tree.{size_of}
use Rattle.facts.proofs.Enlisted.{inv_start}
use Rattle.facts.proofs.Start.{Neighbourly, degree_is, element_empty, weight_is}
use Rattle.numbers.proofs.Growth.{after_none}
use Rattle.numbers.specs.Gains.{begun}
use Rattle.cells.proofs.Slices.{plus_sum}
use Rattle.cells.specs.Layout.{PE}
use Rattle.cells.specs.View as view
use Rattle.cells.specs.View.{at, plus, rd}
use Rattle.pattern.specs.Lists.{Packed}
use Rattle.drawn.specs.Drawn as drawn
use Rattle.packed.specs.Places.{sum_to}
use Rattle.opening.proofs.Opening.{opened_dense, opened_drawn, opened_flags, opened_gone, opened_keys, opened_log, opened_queues, opened_sizes}
use Rattle.opening.proofs.Turns.{order_start}
use Rattle.opening.specs.Start.{opened}
use Rattle.elimination.specs.Model.{first_turn}
use Rattle.standing.specs.Standing.{Standing}

element_one : (k : Kind) → is_element k ≡ true → start_weight k ≡ 1
unfolding start_weight
element_one variable e = refl
element_one merged e = absurd (false≢true e)
element_one element e = refl
element_one dense e = absurd (false≢true e)

module _ (N limit : ℕ) (nbrs : List (List ℕ)) (nb : Neighbourly nbrs) (few : length nbrs ≤ base_limits.most_columns) (l s : List ℤ) (free size : ℕ) (room : view.Room (length nbrs) s)
    (packed : Packed (length nbrs) nbrs l s free) (long : length l ≡ size) (fits : total length nbrs ≤ size) where
  abbrev n : ℕ
  n = length nbrs

  abbrev g : Graph
  g = (started limit nbrs).graph

  small : n < 2 ^ 63
  unfolding base_limits
  small = omega arith

  there : (v : ℕ) → v < n → entries (at l) (sum_to v (λ j. length (get_or nbrs j []))) (length (get_or nbrs v [])) ≡ get_or nbrs v []
  there v h =
      ap (λ (a : ℕ). entries (at l) a (length (get_or nbrs v []))) (sym (packed.place v h)) ∙ ap (entries (at l) (rd n PE s v)) (sym (packed.count v h)) ∙ packed.list v h

  fits_l : total length nbrs ≤ length l
  fits_l = omega (arith, long)

  abbrev nd : ℕ
  nd = (opened n limit s).aside.dense

  low : (e : ℕ) → is_element (kind g e) ≡ true → degree g e ≡ 0
  low e h = degree_is limit nbrs e ∙ element_empty limit nbrs e h

  gone_is : plus (opened n limit s).aside.roots (opened n limit s).aside.dense ≡ (started limit nbrs).gone
  gone_is =
      let e = opened_gone limit nbrs nb l s room small packed.count packed.place there fits_l in
      plus_sum (opened n limit s).aside.roots nd (omega (arith, e, small, (inv_start limit nbrs nb).counted)) ∙ e

  pub starts : Standing N (length nbrs) (opened (length nbrs) limit s).aside.dense size l (opened (length nbrs) limit s).mem
      (first_turn (plus (opened (length nbrs) limit s).aside.roots (opened (length nbrs) limit s).aside.dense) free) (begun (opened (length nbrs) limit s).aside.dense)
      (started limit nbrs) (record { free = total length nbrs; collections = 0 })
  unfolding first_turn started size_of begun
  starts =
      record {
        drawn = subst (λ (f : ℕ). drawn.Rest n l (opened n limit s).mem g 0 f f) (sym packed.end)
            (opened_drawn limit nbrs nb l s room small packed.count packed.place there fits_l);
        long = long;
        chained = opened_queues limit nbrs nb l s room small packed.count packed.place there fits_l;
        least = refl;
        gone = gone_is;
        flagged = opened_flags limit nbrs nb l s room small packed.count packed.place there fits_l;
        two = omega arith;
        low = omega arith;
        most = λ e h. omega (arith, low e h.0);
        modest = omega arith;
        above = omega arith;
        heads = opened_keys limit nbrs nb l s room small packed.count packed.place there fits_l;
        merges = [];
        logged = opened_log limit nbrs nb l s room small packed.count packed.place there fits_l;
        count = refl;
        ordered = order_start n (opened n limit s).mem g;
        sizes = λ e h k.
            opened_sizes limit nbrs nb l s room small packed.count packed.place there fits_l e h k
            ∙ omega (arith, weight_is limit nbrs e, element_one (kind g e) k, low e k);
        free = sym packed.end;
        collections = refl;
        few = omega arith;
        dense = omega (arith, opened_gone limit nbrs nb l s room small packed.count packed.place there fits_l);
        statistics = after_none nd;
        within = record { below_lnz = omega arith; below_div = omega arith; below_ldl = omega arith; below_lu = omega arith };
      }

  pub dense_is : (opened (length nbrs) limit s).aside.dense ≡ length (dense_rows (started limit nbrs).graph)
  dense_is = opened_dense limit nbrs nb l s room small packed.count packed.place there fits_l
