-- Every list of the state has a place for each row, from the start to the end.
-- Assumes nothing.
use Prim.Native.Nat.{ℕ, zero, suc}
use mathlib.Core.Path.{◌≡◌, refl, ◌∙◌}
use mathlib.Core.Bool.{Bool, true, false, ◌&&◌}
use mathlib.Core.List.{List, [], ◌∷◌, foldl, reverse}
use lib.Dec.{ltb}
use lib.ListN.{length, replicate, length-set, length-map, length-replicate}
use Rattle.plain.proofs.Folds.{everything, foldl_keeps}
use Rattle.plain.proofs.Logic.{cond_has}
use Rattle.plain.proofs.Repeats.{length_count_up}
use Rattle.plain.specs.Lists.{up_to, keep, is_empty}
use Rattle.definition.specs.Elimination.{finish, eliminate, step, run, final_state}
use Rattle.definition.specs.Merge.{merged_alike, merge_all, merge_one, alike}
use Rattle.definition.specs.Pivot.{Found, nobody, found, pivot, collected, pass_one, passed, delist, delisted}
use Rattle.definition.specs.Place.{Placed, place_one, placed, as_element}
use Rattle.definition.specs.State.{Graph, put_kind, put_reps, State, Kind, put_weight, put_elements, put_variables, elements_of, put_parent, has_weight, put_degree, is_variable, start_kind, enlist, push_front, started, merge_into}
use Rattle.definition.specs.Trim.{trim_one, trim_to, trimmed, relist, drop_element, kept_elements, kept_variables, dropped_elements}
use Rattle.facts.specs.Invariant.{Sized, SizedState}

pub sized_put_kind : {n : ℕ} (v : ℕ) (k : Kind) (g : Graph) → Sized n g → Sized n (put_kind v k g)
unfolding put_kind
sized_put_kind v k g h = record {
  kinds = simp length-set h.kinds;
  weights = h.weights;
  elements = h.elements;
  variables = h.variables;
  parents = h.parents;
  degrees = h.degrees;
  reps = h.reps;
}

pub sized_put_weight : {n : ℕ} (v w : ℕ) (g : Graph) → Sized n g → Sized n (put_weight v w g)
unfolding put_weight
sized_put_weight v w g h = record {
  kinds = h.kinds;
  weights = simp length-set h.weights;
  elements = h.elements;
  variables = h.variables;
  parents = h.parents;
  degrees = h.degrees;
  reps = h.reps;
}

pub sized_put_elements : {n : ℕ} (v : ℕ) (es : List ℕ) (g : Graph) → Sized n g → Sized n (put_elements v es g)
unfolding put_elements
sized_put_elements v es g h = record {
  kinds = h.kinds;
  weights = h.weights;
  elements = simp length-set h.elements;
  variables = h.variables;
  parents = h.parents;
  degrees = h.degrees;
  reps = h.reps;
}

pub sized_put_variables : {n : ℕ} (v : ℕ) (vs : List ℕ) (g : Graph) → Sized n g → Sized n (put_variables v vs g)
unfolding put_variables
sized_put_variables v vs g h = record {
  kinds = h.kinds;
  weights = h.weights;
  elements = h.elements;
  variables = simp length-set h.variables;
  parents = h.parents;
  degrees = h.degrees;
  reps = h.reps;
}

pub sized_put_parent : {n : ℕ} (v p : ℕ) (g : Graph) → Sized n g → Sized n (put_parent v p g)
unfolding put_parent
sized_put_parent v p g h = record {
  kinds = h.kinds;
  weights = h.weights;
  elements = h.elements;
  variables = h.variables;
  parents = simp length-set h.parents;
  degrees = h.degrees;
  reps = h.reps;
}

pub sized_put_degree : {n : ℕ} (v d : ℕ) (g : Graph) → Sized n g → Sized n (put_degree v d g)
unfolding put_degree
sized_put_degree v d g h = record {
  kinds = h.kinds;
  weights = h.weights;
  elements = h.elements;
  variables = h.variables;
  parents = h.parents;
  degrees = simp length-set h.degrees;
  reps = h.reps;
}

pub sized_put_reps : {n : ℕ} (i v : ℕ) (g : Graph) → Sized n g → Sized n (put_reps i v g)
unfolding put_reps
sized_put_reps i v g h = record {
  kinds = h.kinds;
  weights = h.weights;
  elements = h.elements;
  variables = h.variables;
  parents = h.parents;
  degrees = h.degrees;
  reps = length-map g.reps _ ∙ h.reps;
}

pub sized_merge_into : {n : ℕ} (i v : ℕ) (g : Graph) → Sized n g → Sized n (merge_into i v g)
unfolding merge_into
sized_merge_into i v g h = sized_put_kind _ _ _ (sized_put_reps _ _ _ (sized_put_parent _ _ _ (sized_put_weight _ _ _ (sized_put_weight _ _ g h))))

pub sized_parents : {n : ℕ} (p : ℕ) (g : Graph) (es : List ℕ) → Sized n g → Sized n (foldl (pass_one p) g es)
unfolding pass_one
sized_parents {n} p g es h = foldl_keeps (Sized n) (λ e. Unit {0}) (pass_one p) (λ b e u k. sized_put_parent e p b k) es g (everything es) h

pub sized_dropped : {n : ℕ} (p : ℕ) (g : Graph) (es : List ℕ) → Sized n g → Sized n (foldl (drop_element p) g es)
unfolding drop_element
sized_dropped {n} p g es h = foldl_keeps (Sized n) (λ e. Unit {0}) (drop_element p) (λ b e u k. sized_put_parent e p b k) es g (everything es) h

pub sized_trim_one : {n : ℕ} (aggressive : Bool) (g : Graph) (p : ℕ) (new : List ℕ) (h : Graph) (v : ℕ) → Sized n h → Sized n (trim_one aggressive g p new h v)
unfolding trim_one trim_to relist
sized_trim_one {n} aggressive g p new h v k =
    let d = sized_dropped p h (dropped_elements aggressive g new v) k in
    cond_has (Sized n) (is_empty (kept_elements aggressive g new v) && is_empty (kept_variables g p new v))
    (λ e. sized_merge_into p v _ d)
    (λ e. sized_put_elements _ _ _ (sized_put_variables _ _ _ (sized_put_degree _ _ _ d)))

pub sized_trimmed : {n : ℕ} (aggressive : Bool) (g : Graph) (p : ℕ) (new : List ℕ) → Sized n g → Sized n (trimmed aggressive g p new)
unfolding trimmed
sized_trimmed {n} aggressive g p new h =
    foldl_keeps (Sized n) (λ v. Unit {0}) (trim_one aggressive g p new) (λ b v u k. sized_trim_one aggressive g p new b v k) new g (everything new) h

pub sized_merge_all : {n : ℕ} (key_of : ℕ → ℕ) (vs : List ℕ) (g : Graph) → Sized n g → Sized n (merge_all key_of vs g)
unfolding merge_all merge_one
sized_merge_all key_of [] g h = h
sized_merge_all {n} key_of (i ∷ js) g h =
    sized_merge_all key_of js _
    (foldl_keeps (Sized n) (λ v. Unit {0}) (merge_one key_of i)
    (λ b j u k. cond_has (Sized n) (alike key_of b i j) (λ e. sized_merge_into i j b k) (λ e. k)) js g (everything js) h)

pub sized_merged : {n : ℕ} (key_of : ℕ → ℕ) (new : List ℕ) (g : Graph) → Sized n g → Sized n (merged_alike key_of new g)
unfolding merged_alike
sized_merged key_of new g h = sized_merge_all key_of (reverse (keep (has_weight g) new)) g h

pub sized_as_element : {n : ℕ} (p : ℕ) (survivors : List ℕ) (size : ℕ) (g : Graph) → Sized n g → Sized n (as_element p survivors size g)
unfolding as_element
sized_as_element p survivors size g h = sized_put_kind _ _ _ (sized_put_degree _ _ _ (sized_put_elements _ _ _ (sized_put_variables _ _ g h)))

-- ---- with the degree lists

pub record SizedPlaced (n : ℕ) (q : Placed) : Type 0 where
  pub graph : Sized n q.graph
  pub queues : length q.queues ≡ n

pub length_delisted : (g : Graph) (vs : List ℕ) (queues : List (List ℕ)) → length (delisted g queues vs) ≡ length queues
unfolding delisted delist
length_delisted g [] queues = refl
length_delisted g (v ∷ vs) queues = length_delisted g vs (delist g queues v) ∙ simp length-set refl

pub sized_placed : {n : ℕ} (left size : ℕ) (vs : List ℕ) (q : Placed) → SizedPlaced n q → SizedPlaced n (placed left size vs q)
unfolding placed place_one push_front
sized_placed {n} left size vs q h =
    foldl_keeps (SizedPlaced n) (λ v. Unit {0}) (place_one left size)
    (λ b v u k. record { graph = sized_put_degree v _ b.graph k.graph; queues = simp length-set k.queues }) vs q (everything vs) h

pub sized_eliminate : {n : ℕ} (key_of : ℕ → ℕ) (m : ℕ) (aggressive : Bool) (s : State) (p d : ℕ) → SizedState n s → SizedState n (eliminate key_of m aggressive s p d)
unfolding eliminate finish passed
sized_eliminate {n} key_of m aggressive s p d h =
    let new = collected s.graph p in
    let a = sized_parents p s.graph (elements_of s.graph p) h.graph in
    let b = sized_merged key_of new _ (sized_trimmed aggressive _ p new a) in
    let c = sized_placed _ _ _ _
    (record { graph = sized_as_element p _ _ _ b; queues = length_delisted s.graph (p ∷ new) s.queues ∙ h.queues }) in
    record { graph = c.graph; queues = c.queues }

pub sized_step : {n : ℕ} (key_of : ℕ → ℕ) (m : ℕ) (aggressive : Bool) (s : State) (f : Found) → SizedState n s → SizedState n (step key_of m aggressive s f)
unfolding step
sized_step key_of m aggressive s nobody h = h
sized_step key_of m aggressive s (found p d) h = sized_eliminate key_of m aggressive s p d h

pub sized_run : {n : ℕ} (key_of : ℕ → ℕ) (k m : ℕ) (aggressive : Bool) (s : State) → SizedState n s → SizedState n (run key_of k m aggressive s)
unfolding run
sized_run key_of zero m aggressive s h = h
sized_run {n} key_of (suc k) m aggressive s h = go (ltb s.gone m) (sized_run key_of k m aggressive (step key_of m aggressive s (pivot s)) (sized_step key_of m aggressive s (pivot s) h))
  where
    go : (b : Bool) → SizedState n (run key_of k m aggressive (step key_of m aggressive s (pivot s)))
        → SizedState n (elim b [ true ↦ run key_of k m aggressive (step key_of m aggressive s (pivot s)) | false ↦ s ])
    go true r = r
    go false r = h

length_enlisted : (limit : ℕ) (nbrs : List (List ℕ)) (vs : List ℕ) (queues : List (List ℕ)) → length (foldl (enlist limit nbrs) queues vs) ≡ length queues
unfolding enlist push_front
length_enlisted limit nbrs [] queues = refl
length_enlisted limit nbrs (v ∷ vs) queues =
    length_enlisted limit nbrs vs (enlist limit nbrs queues v)
    ∙ cond_has (λ (l : List (List ℕ)). length l ≡ length queues) (is_variable (start_kind limit nbrs v)) (λ e. simp length-set refl) (λ e. refl)

pub sized_started : (limit : ℕ) (nbrs : List (List ℕ)) → SizedState (length nbrs) (started limit nbrs)
unfolding started
sized_started limit nbrs = record {
  graph = record {
    kinds = length-map (up_to (length nbrs)) _ ∙ length_count_up 0 (length nbrs);
    weights = length-map (up_to (length nbrs)) _ ∙ length_count_up 0 (length nbrs);
    elements = simp length-replicate refl;
    variables = refl;
    parents = simp length-replicate refl;
    degrees = length-map nbrs length;
    reps = length_count_up 0 (length nbrs);
  };
  queues = length_enlisted limit nbrs (up_to (length nbrs)) (replicate (length nbrs) []) ∙ simp length-replicate refl;
}

pub sized_final : (key_of : ℕ → ℕ) (aggressive : Bool) (limit : ℕ) (nbrs : List (List ℕ)) → SizedState (length nbrs) (final_state key_of aggressive limit nbrs)
unfolding final_state
sized_final key_of aggressive limit nbrs = sized_run key_of (length nbrs) (length nbrs) aggressive (started limit nbrs) (sized_started limit nbrs)
