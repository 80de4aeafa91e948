-- Parent links in the memory: whatever is coded where the place of a list stood, the room stays.
-- Assumes nothing.
use Prim.Native.Nat.{ℕ, ◌*◌, ◌<◌}
use native.Mathlib.Omega.{arith}
use mathlib.Core.Path.{◌≡◌, ◌∙◌}
use mathlib.Core.List.{List}
use lib.IntN.{ℤ, pos}
use lib.ListN.{set, length-set}
use lib.Seq.{get_or-set_other}
use Rattle.cells.specs.Layout.{PE}
use Rattle.cells.specs.View.{place, negative, Room}
use Rattle.cells.proofs.Fields.{place_hot, places_differ, within_node}

at_pe : (n i : ℕ) → place n PE i ≡ 8 * i
at_pe n i = place_hot n PE i (omega arith) ∙ omega arith

pub room_coded : (n : ℕ) (s : List ℤ) (i : ℕ) (r : ℤ) (t : List ℤ) → t ≡ set s (8 * i) r → i < n → Room n s → Room n t
unfolding negative
room_coded n s i r t e hi h =
    rw (e, ← at_pe n i)
    record {
      room = omega (arith, h.room, length-set s (place n PE i) r);
      calm = λ f j a w.
          let d = places_differ n PE f i j (within_node n PE i (omega arith) hi) w (λ q _. omega arith) in
          rw (get_or-set_other s (place n PE i) (place n f j) r (pos 0) d) (h.calm f j a w);
    }
