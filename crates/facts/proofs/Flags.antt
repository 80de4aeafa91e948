-- Z4: a number told beside the run that rises by 2n at most at each pivot stays below 2n for each row gone; and what the marks of a program need for that.
-- Assumes nothing.
use Prim.Native.Nat.{ℕ, ◌+◌, ◌*◌, ◌^◌, ◌≤◌, ◌<◌, max}
use native.Mathlib.Nat.{mul-suc, mul-le-mul, mul-le-mul_left}
use native.Mathlib.Omega.{arith}
use mathlib.Core.Path.{◌≡◌, refl, ap}
use mathlib.Core.Bool.{Bool, true, cond}
use mathlib.Core.List.{List, [], ◌∷◌}
use lib.ListN.{length}
use Rattle.plain.proofs.Members.{member_here}
use Rattle.plain.proofs.Sums.{one_below}
use Rattle.plain.specs.Lists.{member}
use Rattle.definition.specs.Limits.{base_limits}
use Rattle.definition.specs.State.{State, weight, degree, elements_of, variables_of, started}
use Rattle.definition.specs.Pivot.{Found, found, collected, passed}
use Rattle.definition.specs.Trim.{external}
use Rattle.definition.specs.Elimination.{eliminate, run, beside}
use Rattle.facts.proofs.Bounds.{weight_left, weight_element, element_left}
use Rattle.facts.proofs.Cases.{live_cases, pivot_live}
use Rattle.facts.proofs.Collected.{collected_var}
use Rattle.facts.proofs.Collections.{short_collected, few_survivors}
use Rattle.facts.proofs.Enlisted.{inv_start}
use Rattle.facts.proofs.External.{counter}
use Rattle.facts.proofs.Invariant.{var_weighs}
use Rattle.facts.proofs.Pivots.{Pivoted}
use Rattle.facts.proofs.Progress.{progress}
use Rattle.facts.proofs.Start.{Neighbourly}
use Rattle.facts.proofs.Step.{stepped}
use Rattle.facts.proofs.Theorem.{inv_eliminate, inv_run, gone_most}
use Rattle.facts.proofs.Weighed.{Weighed, weighed_start, weighed_eliminate, told_keeps}
use Rattle.facts.specs.Counter.{sharing}
use Rattle.facts.specs.Invariant.{Var, Live, Inv}

-- ---- Z4

module _ (n : ℕ) (key_of : ℕ → ℕ) (aggressive : Bool) {A : Type 0} (flag : A → ℕ) (tell : State → Found → State → A → A) (Q : State → A → Type 0) where
  -- where Q holds of the state and of what is told, a pivot keeps it and raises the number by 2n at most
  abbrev pub Rises : Type 0
  Rises = (s : State) (x : A) → Inv n s → Weighed s → s.gone < n → (p d : ℕ) → Pivoted s p d → Q s x
      → Q (eliminate key_of n aggressive s p d) (tell s (found p d) (eliminate key_of n aggressive s p d) x)
      × (flag (tell s (found p d) (eliminate key_of n aggressive s p d) x) ≤ flag x + 2 * n)

  -- the number, with 2n for each row that was gone before, is at most what it was with 2n for each that is gone now
  pub flag_run : Rises → (k : ℕ) (s : State) (x : A) → Inv n s → Weighed s → Q s x
      → Q (run key_of k n aggressive s) (beside tell key_of k n aggressive s x)
      × (flag (beside tell key_of k n aggressive s x) + 2 * n * s.gone ≤ flag x + 2 * n * (run key_of k n aggressive s).gone)
  flag_run rises k s x v w q =
      (told_keeps key_of aggressive (λ (t : State) (y : A). Q t y × (flag y + 2 * n * s.gone ≤ flag x + 2 * n * t.gone)) tell
      (λ t y u z l p d pd h.
      let r = rises t y u z l p d pd h.0 in
      let g = progress key_of n aggressive t p d (var_weighs u.graph p pd.is_var) in
      let m = mul-le-mul_left (2 * n) g in
      (r.0, omega (arith, r.1, h.1, m, mul-suc (2 * n) t.gone)))
      k s x v w (q, omega arith)).2

-- from the start: Z4 of every state of a run
module _ (nbrs : List (List ℕ)) (nb : Neighbourly nbrs) (key_of : ℕ → ℕ) (aggressive : Bool) (limit : ℕ) {A : Type 0} (flag : A → ℕ) (tell : State → Found → State → A → A)
    (Q : State → A → Type 0) (rises : Rises (length nbrs) key_of aggressive flag tell Q) (x : A) (q : Q (started limit nbrs) x) where
  abbrev n : ℕ
  n = length nbrs

  abbrev after : ℕ → State
  after k = run key_of k (length nbrs) aggressive (started limit nbrs)

  abbrev told : ℕ → A
  told k = beside tell key_of k (length nbrs) aggressive (started limit nbrs) x

  pub flag_after : (k : ℕ) → flag (told k) ≤ flag x + 2 * n * (after k).gone
  flag_after k = omega (arith, (flag_run n key_of aggressive flag tell Q rises k (started limit nbrs) x (inv_start limit nbrs nb) (weighed_start limit nbrs) q).1)

  pub flag_most : (k : ℕ) → flag (told k) ≤ flag x + 2 * n * n
  flag_most k =
      omega (arith, flag_after k, mul-le-mul_left (2 * n) (gone_most key_of aggressive (after k) (inv_run key_of aggressive k (started limit nbrs) (inv_start limit nbrs nb))))

-- in words of 64 bits, a list's length of marks more
pub flag_small : (n : ℕ) → n ≤ base_limits.most_columns → 2 + 2 * n * n + n < 2 ^ 43
unfolding base_limits
flag_small n l =
    let a : 2 * n ≤ 2 * base_limits.most_columns = omega arith in
    let b : 2 * n * n ≤ 2 * base_limits.most_columns * base_limits.most_columns = mul-le-mul a l in
    omega arith

-- ---- what the argument rests on

module _ {n : ℕ} (s : State) (v : Inv n s) where
  -- a variable's weight, with all that are gone, is no more than n
  pub weight_most : (i : ℕ) → Var s.graph i → weight s.graph i ≤ n
  weight_most i h = omega (arith, weight_left s v i h)

  -- a live element's is below n: its own pivots are gone
  pub element_most : Weighed s → (e : ℕ) → Live s.graph e → degree s.graph e < n
  element_most w e h = omega (arith, element_left s v e h, w.heavy e h.0, w.among e h.0)

  -- Z5: a variable weighs no more than 1 and than any bound on the degrees of the live elements
  pub weight_below : Weighed s → (m : ℕ) → ((e : ℕ) → Live s.graph e → degree s.graph e ≤ m) → (i : ℕ) → Var s.graph i → weight s.graph i ≤ max 1 m
  weight_below w m low i h = go (elements_of s.graph i) refl
    where
      go : (es : List ℕ) → elements_of s.graph i ≡ es → weight s.graph i ≤ max 1 m
      go [] x = omega (arith, w.lone i h x)
      go (e ∷ es) x =
          let me : member e (elements_of s.graph i) ≡ true = rw x (member_here e es) in
          let l = v.graph.elements_live i e h me in
          omega (arith, weight_element s v e i l (v.graph.elements_have i e h me), low e l)

  -- an element that meets the new one has less outside it than its degree
  pub external_below : (p : ℕ) → Var s.graph p → (e i : ℕ) → member i (collected s.graph p) ≡ true → member e (elements_of s.graph i) ≡ true
      → external (passed s.graph p) (collected s.graph p) e < degree s.graph e
  external_below p pv e i mi me =
      let vi = collected_var v.graph p pv i mi in
      let w : sharing s.graph e i ≡ weight s.graph i = ap (λ (b : Bool). cond b (weight s.graph i) 0) me in
      omega (
        arith,
        counter s.graph p v.graph pv e (v.graph.elements_live i e vi me),
        one_below (sharing s.graph e) i (collected s.graph p) mi,
        v.graph.heavy i vi,
      )

module _ {n : ℕ} (key_of : ℕ → ℕ) (aggressive : Bool) (s : State) (v : Inv n s) (p d : ℕ) (pd : Pivoted s p d) where
  -- the new element's degree
  pub new_element_most : Weighed s → degree (eliminate key_of n aggressive s p d).graph p < n
  new_element_most w =
      element_most (eliminate key_of n aggressive s p d) (inv_eliminate key_of aggressive s v p d pd) (weighed_eliminate key_of aggressive s v w p d pd) p
      (pivot_live v.graph pd.is_var (stepped key_of n aggressive s p d v.graph pd.is_var))

  -- how many variables step 5 compares, and how many survive
  pub few_compared : length (collected s.graph p) < n
  few_compared = short_collected v.graph p pd.is_var

  pub few_left : length (variables_of (eliminate key_of n aggressive s p d).graph p) < n
  few_left = omega (arith, few_compared, few_survivors key_of aggressive s v p d pd)

  -- Z3: a bound on the degrees of the live elements, with the new one's, is one after the step
  pub degrees_below : (m : ℕ) → ((e : ℕ) → Live s.graph e → degree s.graph e ≤ m)
      → (e : ℕ) → Live (eliminate key_of n aggressive s p d).graph e → degree (eliminate key_of n aggressive s p d).graph e ≤ max m (degree (eliminate key_of n aggressive s p d).graph p)
  degrees_below m low e h =
      let st = stepped key_of n aggressive s p d v.graph pd.is_var in
      live_cases v.graph pd.is_var st _ e h
      (λ x. rw x (omega arith))
      (λ ne c l u. omega (arith, st.still_degree e ne c, low e l))
