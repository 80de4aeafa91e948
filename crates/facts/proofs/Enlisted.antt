-- W8 at the start, and the whole invariant there.
-- Assumes nothing.
use Prim.Native.Nat.{ℕ, ◌≤◌, ◌<◌}
use native.Mathlib.Omega.{arith}
use mathlib.Core.Path.{◌≡◌, refl, sym, ap, ◌∙◌}
use mathlib.Core.Logic.{◌≢◌}
use mathlib.Core.Bool.{Bool, true, false, cond, ◌&&◌, ◌||◌, false≢true}
use mathlib.Core.List.{List, [], ◌∷◌, foldl}
use lib.Dec.{eqb}
use lib.ListN.{length, get_or, replicate, length-set, length-replicate}
use lib.Seq.{get_or-set_same, get_or-set_other}
use borrow.Author.Tests.{eqb-true, eqb-false, eq-eqb, ne_eqb}
use Rattle.plain.proofs.Logic.{either, clash, or_left, or_right, or_cases, and_both, and_left, and_right}
use Rattle.plain.proofs.Members.{no_member, member_below, member_here, member_there, member_cases, member_count_up}
use Rattle.plain.proofs.Positions.{get_or_same}
use Rattle.plain.proofs.Repeats.{length_below, distinct_count_up}
use Rattle.plain.specs.Lists.{member, up_to}
use Rattle.plain.specs.Members.{Distinct}
use Rattle.definition.specs.State.{kind, degree, is_variable, queue_of, push_front, start_degree, start_kind, enlist, started}
use Rattle.definition.specs.Elimination.{final_state}
use Rattle.facts.proofs.Invariant.{var_not_merged}
use Rattle.facts.proofs.Start.{Neighbourly, kind_in, kind_inside, degree_is, quotient_start, counted_start}
use Rattle.facts.proofs.Theorem.{inv_run, run_ends}
use Rattle.facts.proofs.Sizes.{sized_started}
use Rattle.facts.specs.Invariant.{Var, Queued, Inv, Counted}

-- the rows that the test has stand in the lists, each at its place
record Lined (n : ℕ) (place : ℕ → ℕ) (qs : List (List ℕ)) (has : ℕ → Bool) : Type 0 where
  size : length qs ≡ n
  only : (d i : ℕ) → member i (queue_of qs d) ≡ true → (has i ≡ true) × (place i ≡ d)
  all : (i : ℕ) → has i ≡ true → member i (queue_of qs (place i)) ≡ true
  once : (d : ℕ) → Distinct (queue_of qs d)

lined_same : {n : ℕ} {place : ℕ → ℕ} {qs : List (List ℕ)} {has had : ℕ → Bool} → Lined n place qs has → ((i : ℕ) → has i ≡ had i) → Lined n place qs had
lined_same s e = record { size = s.size; only = λ d i m. (sym (e i) ∙ (s.only d i m).0, (s.only d i m).1); all = λ i h. s.all i (e i ∙ h); once = s.once }

module _ {n : ℕ} (place : ℕ → ℕ) (qs : List (List ℕ)) (v : ℕ) (has : ℕ → Bool) (absent : has v ≡ false) (s : Lined n place qs has) (l : place v < n) where
  abbrev qs' : List (List ℕ)
  qs' = push_front (place v) v qs

  queue_own : queue_of qs' (place v) ≡ v ∷ queue_of qs (place v)
  unfolding push_front
  queue_own = get_or-set_same qs (place v) (v ∷ queue_of qs (place v)) [] (omega (arith, s.size))

  queue_other : (d : ℕ) → d ≢ place v → queue_of qs' d ≡ queue_of qs d
  unfolding push_front
  queue_other d ne = get_or-set_other qs (place v) d (v ∷ queue_of qs (place v)) [] ne

  was_there : (d i : ℕ) → member i (queue_of qs d) ≡ true → (eqb i v || has i ≡ true) × (place i ≡ d)
  was_there d i m = (or_right (eqb i v) (has i) (s.only d i m).0, (s.only d i m).1)

  lined_only : (d i : ℕ) → member i (queue_of qs' d) ≡ true → (eqb i v || has i ≡ true) × (place i ≡ d)
  lined_only d i m =
      either ((eqb i v || has i ≡ true) × (place i ≡ d)) (eqb d (place v))
      (λ e.
      let k : d ≡ place v = eqb-true d (place v) e in
      member_cases ((eqb i v || has i ≡ true) × (place i ≡ d)) i v (queue_of qs (place v)) (ap (member i) (sym (ap (queue_of qs') k ∙ queue_own)) ∙ m)
      (λ x. (or_left (eqb i v) (has i) (eq-eqb i v x), ap place x ∙ sym k))
      (λ ne x. was_there d i (ap (λ (z : ℕ). member i (queue_of qs z)) k ∙ x)))
      (λ e. was_there d i (ap (member i) (sym (queue_other d (eqb-false d (place v) e))) ∙ m))

  lined_all : (i : ℕ) → eqb i v || has i ≡ true → member i (queue_of qs' (place i)) ≡ true
  lined_all i h =
      or_cases (member i (queue_of qs' (place i)) ≡ true) (eqb i v) (has i) h
      (λ e. rw (eqb-true i v e, queue_own) (member_here v (queue_of qs (place v))))
      (λ e. either (member i (queue_of qs' (place i)) ≡ true) (eqb (place i) (place v))
      (λ x.
      let k : place i ≡ place v = eqb-true (place i) (place v) x in
      ap (λ (z : ℕ). member i (queue_of qs' z)) k ∙ ap (member i) queue_own
      ∙ member_there i v (queue_of qs (place v)) (ap (λ (z : ℕ). member i (queue_of qs z)) (sym k) ∙ s.all i e))
      (λ x. ap (member i) (queue_other (place i) (eqb-false (place i) (place v) x)) ∙ s.all i e))

  lined_once : (d : ℕ) → Distinct (queue_of qs' d)
  lined_once d =
      either (Distinct (queue_of qs' d)) (eqb d (place v))
      (λ e. rw (eqb-true d (place v) e, queue_own) (either (member v (queue_of qs (place v)) ≡ false) (member v (queue_of qs (place v))) (λ m. clash (has v) (s.only (place v) v m).0 absent) (λ m. m), s.once (place v)))
      (λ e. rw (queue_other d (eqb-false d (place v) e)) (s.once d))

  lined_push : Lined n place qs' (λ i. eqb i v || has i)
  unfolding push_front
  lined_push = record { size = length-set qs (place v) (v ∷ queue_of qs (place v)) ∙ s.size; only = lined_only; all = lined_all; once = lined_once }

module _ (limit : ℕ) (nbrs : List (List ℕ)) (nb : Neighbourly nbrs) where
  abbrev n : ℕ
  n = length nbrs

  pub degree_low : (v : ℕ) → v < n → start_degree nbrs v < n
  degree_low v l =
      let k = length_below n (v ∷ get_or nbrs v []) (nb.own v, nb.distinct v)
      (λ x m. member_cases (x < n) x v (get_or nbrs v []) m (λ e. omega arith) (λ ne h. nb.inside v x h)) in
      omega (arith, k)

  is_var : ℕ → Bool
  is_var v = is_variable (start_kind limit nbrs v)

  lined_fold : (vs : List ℕ) (qs : List (List ℕ)) (has : ℕ → Bool) → Distinct vs → ((v : ℕ) → member v vs ≡ true → v < n) → ((v : ℕ) → member v vs ≡ true → has v ≡ false)
      → Lined n (start_degree nbrs) qs has → Lined n (start_degree nbrs) (foldl (enlist limit nbrs) qs vs) (λ i. (member i vs && is_var i) || has i)
  unfolding enlist member is_var
  lined_fold [] qs has d l a s = s
  lined_fold (v ∷ vs) qs has d l a s =
      lined_same
      (lined_fold vs (enlist limit nbrs qs v) (λ i. (eqb i v && is_var i) || has i) d.1 (λ x m. l x (member_there x v vs m))
      (λ x m. rw (ne_eqb x v (λ e. clash (member x vs) m (ap (λ (z : ℕ). member z vs) e ∙ d.0))) (a x (member_there x v vs m)))
      (one (is_var v) refl))
      (λ i. shuffle (eqb i v) (member i vs) (is_var i) (has i))
    where
      shuffle : (x y z b : Bool) → (y && z) || ((x && z) || b) ≡ ((x || y) && z) || b
      shuffle true true true b = refl
      shuffle true true false b = refl
      shuffle true false true b = refl
      shuffle true false false b = refl
      shuffle false true z b = refl
      shuffle false false z b = refl

      with_var : (b : Bool) → is_var v ≡ b → (i : ℕ) → eqb i v && is_var i ≡ eqb i v && b
      with_var b e i = either (eqb i v && is_var i ≡ eqb i v && b) (eqb i v) (λ x. ap (λ (z : Bool). eqb i v && z) (ap is_var (eqb-true i v x) ∙ e)) (λ x. rw x)

      one : (b : Bool) → is_var v ≡ b → Lined n (start_degree nbrs) (cond b (push_front (start_degree nbrs v) v qs) qs) (λ i. (eqb i v && is_var i) || has i)
      one true e = lined_same (lined_push (start_degree nbrs) qs v has (a v (member_here v vs)) s (degree_low v (l v (member_here v vs))))
          (λ i. ap (λ (z : Bool). z || has i) (sym (with_var true e i ∙ and_true (eqb i v))))
        where
          and_true : (b : Bool) → b && true ≡ b
          and_true true = refl
          and_true false = refl
      one false e = lined_same s (λ i. ap (λ (z : Bool). z || has i) (sym (with_var false e i ∙ and_false (eqb i v))))
        where
          and_false : (b : Bool) → b && false ≡ false
          and_false true = refl
          and_false false = refl

  lined_empty : Lined n (start_degree nbrs) (replicate n []) (λ i. false)
  lined_empty = record {
    size = simp length-replicate refl;
    only = λ d i m. no_member i (ap (member i) (sym (get_or_same n d [])) ∙ m);
    all = λ i h. absurd (false≢true h);
    once = λ d. rw (get_or_same {A = List ℕ} n d []) tt;
  }

  lined_start : Lined n (start_degree nbrs) (foldl (enlist limit nbrs) (replicate n []) (up_to n)) (λ i. (member i (up_to n) && is_var i) || false)
  lined_start = lined_fold (up_to n) (replicate n []) (λ i. false) (distinct_count_up 0 n) (λ v m. omega (arith, member_below v 0 n m)) (λ v m. refl) lined_empty

  has_var : (i : ℕ) → (member i (up_to n) && is_var i) || false ≡ true → Var (started limit nbrs).graph i
  unfolding is_var
  has_var i h =
      let k : member i (up_to n) && is_variable (start_kind limit nbrs i) ≡ true = or_cases _ (member i (up_to n) && is_variable (start_kind limit nbrs i)) false h (λ x. x) (λ x. absurd (false≢true x)) in
      let l : i < n = omega (arith, member_below i 0 n (and_left (member i (up_to n)) (is_variable (start_kind limit nbrs i)) k)) in
      ap is_variable (kind_in limit nbrs i l) ∙ and_right (member i (up_to n)) (is_variable (start_kind limit nbrs i)) k

  var_has : (i : ℕ) → Var (started limit nbrs).graph i → (member i (up_to n) && is_var i) || false ≡ true
  unfolding is_var
  var_has i h =
      let l : i < n = kind_inside limit nbrs i (var_not_merged (kind (started limit nbrs).graph i) h) in
      or_left (member i (up_to n) && is_variable (start_kind limit nbrs i)) false
      (and_both (member i (up_to n)) (is_variable (start_kind limit nbrs i)) (member_count_up i 0 n (omega arith) (omega arith)) (ap is_variable (sym (kind_in limit nbrs i l)) ∙ h))

  start_lined : Lined n (start_degree nbrs) (started limit nbrs).queues (λ i. (member i (up_to n) && is_var i) || false)
  unfolding started
  start_lined = lined_start

  start_least : (i : ℕ) → (started limit nbrs).least ≤ i
  unfolding started
  start_least i = omega arith

  queued_start : Queued n (started limit nbrs)
  queued_start = record {
    size = (sized_started limit nbrs).queues;
    only = λ d i m. let k = start_lined.only d i m in (has_var i k.0, degree_is limit nbrs i ∙ k.1);
    all = λ i h. rw (degree_is limit nbrs i) (start_lined.all i (var_has i h));
    once = start_lined.once;
    bounded = λ i h. (start_least (degree (started limit nbrs).graph i), rw (degree_is limit nbrs i) (degree_low i (kind_inside limit nbrs i (var_not_merged (kind (started limit nbrs).graph i) h))));
  }

  counted_is : Counted n (started limit nbrs)
  unfolding started
  counted_is = counted_start limit nbrs nb

  pub inv_start : Inv (length nbrs) (started limit nbrs)
  inv_start = record { graph = quotient_start limit nbrs nb; counted = counted_is; queued = queued_start }

  -- the state in which the elimination ends
  pub inv_final : (key_of : ℕ → ℕ) (aggressive : Bool) → Inv (length nbrs) (final_state key_of aggressive limit nbrs)
  unfolding final_state
  inv_final key_of aggressive = inv_run key_of aggressive (length nbrs) (started limit nbrs) inv_start

  pub final_gone : (key_of : ℕ → ℕ) (aggressive : Bool) → (final_state key_of aggressive limit nbrs).gone ≡ length nbrs
  unfolding final_state
  final_gone key_of aggressive = run_ends key_of aggressive (length nbrs) (started limit nbrs) inv_start (omega arith)
