-- H0 to H5, in the words of `Past`, of any state and fronts that are `Recorded`; so of every state of every run from neighbourly lists.
-- Assumes nothing.
use Prim.Native.Nat.{ℕ, ◌<◌}
use native.Mathlib.Omega.{arith}
use mathlib.Core.Path.{◌≡◌, refl, sym, ap, ◌∙◌}
use mathlib.Core.Logic.{◌⊎◌, inl, inr}
use mathlib.Core.Bool.{Bool, false}
use mathlib.Core.List.{List, [], ◌∷◌}
use lib.Dec.{eqb}
use lib.ListN.{length}
use Rattle.plain.proofs.Logic.{none_if}
use Rattle.plain.proofs.Members.{member_here, no_member}
use Rattle.plain.proofs.Sums.{total_keep, total_ones}
use Rattle.plain.specs.Lists.{member, is_none, keep, total, up_to}
use Rattle.plain.specs.Members.{In, same}
use Rattle.definition.specs.State.{Graph, State, dense, row_count, kind, rep, is_variable, is_element, is_dense, started}
use Rattle.definition.specs.Elimination.{run}
use Rattle.facts.proofs.Belonging.{Holds, as_variable, as_element}
use Rattle.facts.proofs.Family.{is_variable_lem, is_element_lem, is_dense_lem}
use Rattle.facts.proofs.Linked as linked
use Rattle.facts.proofs.Linked.{Linked}
use Rattle.facts.proofs.Recorded.{Recorded}
use Rattle.facts.proofs.Remembered.{recorded_at}
use Rattle.facts.proofs.Start.{Neighbourly}
use Rattle.facts.specs.History.{rows_of, front_of, born_at, history_at}
use Rattle.facts.specs.Past.{Owner, an_active, an_element, Above, its_pivot, its_front, Joined, together, neighbours, in_element, behind, before, H0, H1, H2, H3, H4, H5}

module _ {n : ℕ} {nbrs : List (List ℕ)} (s : State) (fs : List (List ℕ)) (r : Recorded n nbrs s fs) where
  abbrev g : Graph
  g = s.graph

  pub rows : row_count s.graph ≡ n
  rows = r.inv.graph.sized.weights

  low : (v : ℕ) → v < row_count s.graph → v < n
  low v l = omega (arith, rows)

  pub not_dense : (v : ℕ) → (kind s.graph v ≡ dense → ⊥) → is_dense (kind s.graph v) ≡ false
  not_dense v h = none_if (is_dense (kind g v)) (λ d. h (is_dense_lem (kind g v) d))

  holds_of : (v : ℕ) → Owner s fs v → Holds g v
  holds_of v (an_active a) = as_variable (ap is_variable a)
  holds_of v (an_element a) = as_element (ap is_element a)

  owner_of_lem : (v : ℕ) → Holds g v → Owner s fs v
  owner_of_lem v (as_variable h) = an_active (is_variable_lem (kind g v) h)
  owner_of_lem v (as_element h) = an_element (is_element_lem (kind g v) h)

  rows_counted : (v : ℕ) → length (rows_of g v) ≡ total (λ x. same v (rep g x)) (up_to (row_count g))
  unfolding rows_of
  rows_counted v = sym (total_ones (keep (λ x. eqb v (rep g x)) (up_to (row_count g)))) ∙ total_keep (λ x. 1) (λ x. eqb v (rep g x)) (up_to (row_count g))

  ordered_holds : (v : ℕ) → Holds g v → is_dense (kind g v) ≡ false
  ordered_holds v (as_variable h) = ap is_dense (is_variable_lem (kind g v) h)
  ordered_holds v (as_element h) = ap is_dense (is_element_lem (kind g v) h)

  pub h0 : H0 s fs
  h0 = record {
    owned = λ v l d. owner_of_lem (rep g v) (r.belonging.owned v (low v l) (not_dense v d));
    own = λ v l o. r.belonging.own v (holds_of v o);
    weighs = λ v l o. r.belonging.weighs v (low v l) (ordered_holds v (holds_of v o))
        ∙ ap (λ (k : ℕ). total (λ x. same v (rep g x)) (up_to k)) (sym rows) ∙ sym (rows_counted v);
  }

  pub h1 : H1 s fs
  h1 = record {
    inside = λ e v le lv l i. let k = r.fronted.inside e v (ap is_element l.0, ap is_none l.1) i in (is_variable_lem (kind g (rep g v)) k.0, k.1);
    back = λ e v le lv l a m. r.fronted.back e v (low v lv) (ap is_element l.0, ap is_none l.1) (ap is_variable a) m;
  }

  above_of : (p v : ℕ) → (rep g v ≡ p) ⊎ In v (front_of fs p) → Above s fs p v
  above_of p v (inl x) = its_pivot x
  above_of p v (inr x) = its_front x

  pub h2 : H2 s fs
  unfolding born_at
  h2 = record {
    later = λ e p l h x. r.raised.later e p (ap is_element h) x;
    passes = λ e p v l lv h x i. above_of p v (r.raised.passes e p v (ap is_element h) x i);
  }

  nothing_in : (l : List ℕ) → ((v : ℕ) → In v l → ⊥) → l ≡ []
  nothing_in [] h = refl
  nothing_in (x ∷ xs) h = absurd (h x (member_here x xs))

  pub h3 : H3 s fs
  unfolding H3
  h3 e le l x = nothing_in (front_of fs e)
      (λ v i. no_member (rep g v) (ap (member (rep g v)) (sym x) ∙ (r.fronted.inside e v (ap is_element l.0, ap is_none l.1) i).1))

  pub h4 : H4 s fs
  unfolding H4
  h4 e le h = r.fronted.counted e (ap is_element h)

  joined_of : (u v : ℕ) → Linked g fs u v (rep g u) (rep g v) → Joined s fs u v
  joined_of u v (linked.together x) = together x
  joined_of u v (linked.neighbours a b c d) = neighbours (is_variable_lem (kind g (rep g u)) a) (is_variable_lem (kind g (rep g v)) b) c d
  joined_of u v (linked.in_element e a b c d) = in_element e (is_variable_lem (kind g (rep g u)) a) (is_variable_lem (kind g (rep g v)) b) c d
  joined_of u v (linked.behind a b) = behind (is_element_lem (kind g (rep g u)) a) b
  joined_of u v (linked.before a b) = before (is_element_lem (kind g (rep g v)) a) b

  pub h5 : H5 s fs nbrs
  unfolding H5
  h5 u v lu lv m du dv = joined_of u v (r.linked u v (low u lu) (low v lv) m (not_dense u du) (not_dense v dv))

-- ---- of every run, after k steps

module _ (limit : ℕ) (nbrs : List (List ℕ)) (nb : Neighbourly nbrs) (key_of : ℕ → ℕ) (aggressive : Bool) (k : ℕ) where
  abbrev at : State
  at = run key_of k (length nbrs) aggressive (started limit nbrs)

  abbrev told : List (List ℕ)
  told = history_at key_of aggressive limit nbrs k

  pub always_h0 : H0 at told
  always_h0 = h0 at told (recorded_at limit nbrs nb key_of aggressive k)

  pub always_h1 : H1 at told
  always_h1 = h1 at told (recorded_at limit nbrs nb key_of aggressive k)

  pub always_h2 : H2 at told
  always_h2 = h2 at told (recorded_at limit nbrs nb key_of aggressive k)

  pub always_h3 : H3 at told
  always_h3 = h3 at told (recorded_at limit nbrs nb key_of aggressive k)

  pub always_h4 : H4 at told
  always_h4 = h4 at told (recorded_at limit nbrs nb key_of aggressive k)

  pub always_h5 : H5 at told nbrs
  always_h5 = h5 at told (recorded_at limit nbrs nb key_of aggressive k)
