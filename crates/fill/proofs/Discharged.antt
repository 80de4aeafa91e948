-- The hypotheses of the fill bound, `Ended`, `Counted` and `Tidy`, of every run from neighbourly lists: any key, any limit, aggressive on and off.
-- Assumes nothing.
use Prim.Native.Nat.{ℕ}
use native.Mathlib.Omega.{arith}
use mathlib.Core.Path.{ap}
use mathlib.Core.Bool.{Bool}
use mathlib.Core.List.{List}
use lib.ListN.{length}
use Rattle.plain.proofs.Logic.{clash}
use Rattle.plain.specs.Members.{In}
use Rattle.definition.specs.State.{State, kind, is_dense, is_element}
use Rattle.definition.specs.Elimination.{final_state}
use Rattle.facts.proofs.Outcome.{final_rows, final_idle, final_alone, final_born_once, final_born_made, final_born_parent, final_lone}
use Rattle.facts.proofs.Past.{h0, h1, h2, h4, h5}
use Rattle.facts.proofs.Recorded.{Recorded}
use Rattle.facts.proofs.Remembered.{recorded_final}
use Rattle.facts.proofs.Start.{Neighbourly}
use Rattle.facts.specs.History.{history, front_of}
use Rattle.fill.proofs.Bound.{kinds_final}
use Rattle.fill.proofs.Ended.{Ended}
use Rattle.fill.proofs.Slots.{Tidy}
use Rattle.fill.proofs.Standing.{Ordered}
use Rattle.fill.proofs.Told.{Counted}

module _ (limit : ℕ) (nbrs : List (List ℕ)) (nb : Neighbourly nbrs) (key_of : ℕ → ℕ) (aggressive : Bool) where
  abbrev s : State
  s = final_state key_of aggressive limit nbrs

  abbrev fs : List (List ℕ)
  fs = history key_of aggressive limit nbrs

  told : Recorded (length nbrs) nbrs s fs
  told = recorded_final limit nbrs nb key_of aggressive

  pub ended : Ended s fs nbrs
  ended = record {
    h0 = h0 s fs told;
    h1 = h1 s fs told;
    h2 = h2 s fs told;
    h4 = h4 s fs told;
    h5 = h5 s fs told;
    kinds = kinds_final key_of aggressive limit nbrs;
    idle = λ v l e. final_idle limit nbrs nb key_of aggressive v e;
    born_once = final_born_once limit nbrs nb key_of aggressive;
    born_made = final_born_made limit nbrs nb key_of aggressive;
    born_parent = final_born_parent limit nbrs nb key_of aggressive;
    lone = final_lone limit nbrs nb key_of aggressive;
    rows_once = nb.distinct;
    rows_within = λ v w m. omega (arith, final_rows limit nbrs nb key_of aggressive, nb.inside v w m);
  }

  pub counted : Counted s
  counted = record {
    told = told.told;
    single = λ e l h m. told.raised.one_row e (ap is_element h) m;
    alone = final_alone limit nbrs nb key_of aggressive;
  }

  ordered : (e v : ℕ) → In v (front_of fs e) → Ordered s v
  ordered e v i d = clash (is_dense (kind s.graph v)) (ap is_dense d) (told.fronted.ordered e v i)

  pub tidy : Tidy s fs
  tidy = record {
    once = λ e l h. told.fronted.once e;
    rows = λ e v l h i. (omega (arith, final_rows limit nbrs nb key_of aggressive, told.fronted.below e v i), ordered e v i);
  }
