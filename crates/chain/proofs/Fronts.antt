-- A row put to the front of a list, against the definition's `push_front`: `front_rep`.
-- Assumes nothing.
use Prim.Native.Nat.{ℕ, ◌<◌}
use native.Mathlib.Omega.{arith}
use mathlib.Core.Path.{◌≡◌, sym, ap, ◌∙◌}
use mathlib.Core.Logic.{◌≢◌, ◌⊎◌, inl, inr}
use mathlib.Core.Bool.{false}
use mathlib.Core.List.{List, [], ◌∷◌}
use lib.IntN.{ℤ}
use lib.ListN.{length, length-set}
use lib.Seq.{get_or-set_same, get_or-set_other}
use Rattle.plain.specs.Lists.{member}
use Rattle.plain.specs.Turns.{upd}
use Rattle.plain.proofs.Members.{not_cons}
use Rattle.plain.proofs.Entries.{upd_same, upd_other}
use Rattle.definition.specs.State.{queue_of, push_front}
use Rattle.cells.specs.View.{Room}
use Rattle.cells.proofs.Slices.{same?}
use Rattle.chain.specs.Model.{pushed}
use Rattle.chain.specs.Chained.{Chained}
use Rattle.chain.proofs.Frame.{chained_lists}
use Rattle.chain.proofs.Push.{pushed_rep}

module _ (qs : List (List ℕ)) (d v : ℕ) where
  pub size_push : length (push_front d v qs) ≡ length qs
  unfolding push_front
  size_push = length-set qs d (v ∷ queue_of qs d)

  lists_by : d < length qs → (e : ℕ) → (e ≡ d) ⊎ (e ≢ d) → queue_of (push_front d v qs) e ≡ upd (queue_of qs) d (v ∷ queue_of qs d) e
  unfolding push_front
  lists_by h e (inl q) = rw (q, upd_same (queue_of qs) d (v ∷ queue_of qs d)) (get_or-set_same qs d (v ∷ queue_of qs d) [] h)
  lists_by h e (inr q) = rw (upd_other (queue_of qs) d (v ∷ queue_of qs d) e q) (get_or-set_other qs d e (v ∷ queue_of qs d) [] q)

  -- one list is longer
  pub push_lists : d < length qs → (e : ℕ) → queue_of (push_front d v qs) e ≡ upd (queue_of qs) d (v ∷ queue_of qs d) e
  push_lists h e = lists_by h e (same? e d)

  fresh_by : d < length qs → (w e : ℕ) → w ≢ v → member w (queue_of qs e) ≡ false → (e ≡ d) ⊎ (e ≢ d)
      → member w (upd (queue_of qs) d (v ∷ queue_of qs d) e) ≡ false
  fresh_by h w e ne m (inl q) =
      rw (q, upd_same (queue_of qs) d (v ∷ queue_of qs d)) (not_cons w v (queue_of qs d) ne (ap (λ (x : ℕ). member w (queue_of qs x)) (sym q) ∙ m))
  fresh_by h w e ne m (inr q) = rw (upd_other (queue_of qs) d (v ∷ queue_of qs d) e q) m

  -- a row in no list is in none, but for the one that came
  pub push_fresh : d < length qs → (w e : ℕ) → w ≢ v → member w (queue_of qs e) ≡ false → member w (queue_of (push_front d v qs) e) ≡ false
  push_fresh h w e ne m = ap (member w) (push_lists h e) ∙ fresh_by h w e ne m (same? e d)

-- the memory after the code's steps holds the definition's lists
pub front_rep : (n : ℕ) (s : List ℤ) (d v : ℕ) (qs : List (List ℕ)) → length qs ≡ n → d < n → v < n → Room n s → Chained n s (queue_of qs)
    → ((e : ℕ) → e < n → member v (queue_of qs e) ≡ false) → Chained n (pushed n s d v) (queue_of (push_front d v qs))
front_rep n s d v qs size hd hv room h fresh =
    chained_lists (pushed_rep n s d v room hd hv (queue_of qs) h fresh) (queue_of (push_front d v qs)) (λ e he. push_lists qs d v (omega (arith, size)) e)
