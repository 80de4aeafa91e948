-- F1: while not all are gone there is a pivot; it is a variable, and the lists before its own are empty.
-- Assumes nothing.
use Prim.Native.Nat.{ℕ, zero, suc, ◌+◌, ◌-◌, ◌≤◌, ◌<◌}
use native.Mathlib.Omega.{arith}
use mathlib.Core.Path.{◌≡◌, refl, sym, ap, ◌∙◌}
use mathlib.Core.Bool.{Bool, true, cond}
use mathlib.Core.List.{List, [], ◌∷◌}
use lib.ListN.{get_or, drop}
use lib.Seq.{get_or-drop}
use Rattle.plain.proofs.Logic.{either}
use Rattle.plain.proofs.Members.{no_member, member_here}
use Rattle.plain.proofs.Sums.{some_above}
use Rattle.plain.specs.Lists.{member, up_to}
use Rattle.definition.specs.State.{State, kind, weight, degree, is_variable, queue_of}
use Rattle.definition.specs.Pivot.{nobody, found, first_from, pivot}
use Rattle.facts.specs.Invariant.{Var, Inv, var_weight}

-- p stands first in the list e, counted from d, and the lists before it are empty
pub record First (d : ℕ) (qs : List (List ℕ)) (p e : ℕ) : Type 0 where
  pub place : ℕ
  pub where_it_is : e ≡ d + place
  pub there : member p (get_or qs place []) ≡ true
  pub before : (k : ℕ) → k < place → get_or qs k [] ≡ []

first_next : {d : ℕ} {qs : List (List ℕ)} {p e : ℕ} → First (suc d) qs p e → First d ([] ∷ qs) p e
first_next {d} {qs} {p} {e} f = record {
  place = suc f.place;
  where_it_is = omega (arith, f.where_it_is);
  there = f.there;
  before = λ k h. go k h;
}
  where
    go : (k : ℕ) → k < suc f.place → get_or ([] ∷ qs) k [] ≡ []
    go zero h = refl
    go (suc k) h = f.before k (omega arith)

first_found : (d : ℕ) (qs : List (List ℕ)) (p e : ℕ) → first_from d qs ≡ found p e → First d qs p e
unfolding first_from
first_found d [] p e h = let z : ◌≡◌ {A = ℕ} 0 1 = cc in absurd (omega arith)
first_found d ([] ∷ qs) p e h = first_next (first_found (suc d) qs p e h)
first_found d ((x ∷ xs) ∷ qs) p e h =
    let a : x ≡ p = cc in
    let b : d ≡ e = cc in
    record { place = 0; where_it_is = omega arith; there = rw (← a) (member_here x xs); before = λ k l. absurd (omega arith) }

first_nobody : (d : ℕ) (qs : List (List ℕ)) → first_from d qs ≡ nobody → (k i : ℕ) → member i (get_or qs k []) ≡ true → ⊥
unfolding first_from
first_nobody d [] h k i m = no_member i m
first_nobody d ([] ∷ qs) h zero i m = no_member i m
first_nobody d ([] ∷ qs) h (suc k) i m = first_nobody (suc d) qs h k i m
first_nobody d ((x ∷ xs) ∷ qs) h k i m = let z : ◌≡◌ {A = ℕ} 0 1 = cc in absurd (omega arith)

pub record Pivoted (s : State) (p d : ℕ) : Type 0 where
  pub is_var : Var s.graph p
  pub its_degree : degree s.graph p ≡ d
  -- every variable has this degree at least
  pub lowest : (i : ℕ) → Var s.graph i → d ≤ degree s.graph i

module _ {n : ℕ} (s : State) (v : Inv n s) where
  pub pivoted : (p d : ℕ) → pivot s ≡ found p d → Pivoted s p d
  unfolding pivot
  pivoted p d h =
      let f = first_found s.least (drop s.least s.queues) p d h in
      let m : member p (queue_of s.queues d) ≡ true =
      ap (λ (z : ℕ). member p (queue_of s.queues z)) f.where_it_is ∙ ap (member p) (sym (get_or-drop s.least s.queues f.place [])) ∙ f.there in
      let k = v.queued.only d p m in
      record { is_var = k.0; its_degree = k.1; lowest = λ i vi. low f i vi }
    where
      low : First s.least (drop s.least s.queues) p d → (i : ℕ) → Var s.graph i → d ≤ degree s.graph i
      low f i vi =
          let b = (v.queued.bounded i vi).0 in
          go (degree s.graph i - s.least) (omega arith) (native.Mathlib.Decide.dec_lt (degree s.graph i) d)
        where
          go : (k : ℕ) → degree s.graph i ≡ s.least + k → Dec (degree s.graph i < d) → d ≤ degree s.graph i
          go k e (no x) = omega arith
          go k e (yes x) =
              let empty : get_or (drop s.least s.queues) k [] ≡ [] = f.before k (omega (arith, f.where_it_is)) in
              let m = v.queued.all i vi in
              no_member i (ap (member i) (sym empty) ∙ ap (member i) (get_or-drop s.least s.queues k []) ∙ ap (λ (z : ℕ). member i (queue_of s.queues z)) (sym e) ∙ m)

  -- F1
  some_variable : s.gone < n → (i : ℕ) × Var s.graph i
  some_variable l =
      let r = some_above (var_weight s.graph) (up_to n) (omega (arith, v.counted)) in (
        r.0,
        either (Var s.graph r.0) (is_variable (kind s.graph r.0)) (λ e. e)
            (λ e. let z : var_weight s.graph r.0 ≡ 0 = ap (λ (b : Bool). cond b (weight s.graph r.0) 0) e in absurd (omega (arith, r.2))),
      )

  pub some_pivot : s.gone < n → pivot s ≡ nobody → ⊥
  unfolding pivot
  some_pivot l h =
      let r = some_variable l in
      let b = (v.queued.bounded r.0 r.1).0 in
      let e : degree s.graph r.0 ≡ s.least + (degree s.graph r.0 - s.least) = omega arith in
      first_nobody s.least (drop s.least s.queues) h (degree s.graph r.0 - s.least) r.0
      (ap (member r.0) (get_or-drop s.least s.queues (degree s.graph r.0 - s.least) [])
      ∙ ap (λ (z : ℕ). member r.0 (queue_of s.queues z)) (sym e) ∙ v.queued.all r.0 r.1)
