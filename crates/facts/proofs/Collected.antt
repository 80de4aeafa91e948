-- F2 and F3: what the new element collects.
-- Assumes nothing.
use Prim.Native.Nat.{ℕ}
use mathlib.Core.Path.{◌≡◌, refl, sym, ap, ◌∙◌}
use mathlib.Core.Logic.{◌≢◌}
use mathlib.Core.Bool.{true, false, not}
use mathlib.Core.List.{List, [], ◌∷◌, foldl, flat_map}
use Rattle.plain.proofs.Logic.{cond_has, either, and_left, clash, and_right, not_back, not_false, and_both, or_left, or_right, or_cases}
use Rattle.plain.proofs.Members.{no_member, member_here, member_there, member_cases, member_append, member_flat_map, member_joined, not_here, not_there, not_cons}
use Rattle.plain.proofs.Repeats.{distinct_snoc}
use Rattle.plain.specs.Lists.{member}
use Rattle.plain.specs.Members.{Distinct}
use Rattle.definition.specs.State.{Graph, kind, elements_of, variables_of, has_weight, is_element}
use Rattle.definition.specs.Pivot.{candidates, wanted, collect_one, collected}
use Rattle.facts.proofs.Invariant.{var_weighs, weighs_var}
use Rattle.facts.specs.Invariant.{Var, Quotient}

-- what all of the collected have
record Fit (g : Graph) (p v : ℕ) : Type 0 where
  weighs : has_weight g v ≡ true
  apart : v ≢ p
  candidate : member v (candidates g p) ≡ true

record Fitted (g : Graph) (p : ℕ) (acc : List ℕ) : Type 0 where
  distinct : Distinct acc
  fit : (v : ℕ) → member v acc ≡ true → Fit g p v

fitted_one : (g : Graph) (p : ℕ) (acc : List ℕ) (v : ℕ) → member v (candidates g p) ≡ true → Fitted g p acc → Fitted g p (collect_one g p acc v)
unfolding collect_one
fitted_one g p acc v m f =
    cond_has (Fitted g p) (wanted g p acc v)
    (λ e.
    let out : member v (p ∷ acc) ≡ false = not_back (member v (p ∷ acc)) (and_right (has_weight g v) (not (member v (p ∷ acc))) e) in
    record {
      distinct = distinct_snoc v acc f.distinct (not_there v p acc out);
      fit = λ w k. or_cases (Fit g p w) (member w acc) (member w (v ∷ [])) (sym (member_append w acc (v ∷ [])) ∙ k)
          (λ h. f.fit w h)
          (λ h. member_cases (Fit g p w) w v [] h
          (λ q. rw q (record { weighs = and_left (has_weight g v) (not (member v (p ∷ acc))) e; apart = not_here v p acc out; candidate = m }))
          (λ q r. no_member w r));
    })
    (λ e. f)

fitted_all : (g : Graph) (p : ℕ) (cs acc : List ℕ) → ((v : ℕ) → member v cs ≡ true → member v (candidates g p) ≡ true) → Fitted g p acc
    → Fitted g p (foldl (collect_one g p) acc cs)
fitted_all g p [] acc h f = f
fitted_all g p (c ∷ cs) acc h f =
    fitted_all g p cs (collect_one g p acc c) (λ v m. h v (member_there v c cs m)) (fitted_one g p acc c (h c (member_here c cs)) f)

fitted : (g : Graph) (p : ℕ) → Fitted g p (collected g p)
unfolding collected
fitted g p = fitted_all g p (candidates g p) [] (λ v m. m) (record { distinct = tt; fit = λ v m. no_member v m })

-- what is there stays, and what is wanted comes in
stays_one : (g : Graph) (p : ℕ) (acc : List ℕ) (v w : ℕ) → member w acc ≡ true → member w (collect_one g p acc v) ≡ true
unfolding collect_one
stays_one g p acc v w h =
    cond_has (λ (l : List ℕ). member w l ≡ true) (wanted g p acc v)
    (λ e. member_append w acc (v ∷ []) ∙ or_left (member w acc) (member w (v ∷ [])) h) (λ e. h)

stays : (g : Graph) (p : ℕ) (cs acc : List ℕ) (w : ℕ) → member w acc ≡ true → member w (foldl (collect_one g p) acc cs) ≡ true
stays g p [] acc w h = h
stays g p (c ∷ cs) acc w h = stays g p cs (collect_one g p acc c) w (stays_one g p acc c w h)

comes_one : (g : Graph) (p : ℕ) (acc : List ℕ) (v : ℕ) → has_weight g v ≡ true → v ≢ p → member v (collect_one g p acc v) ≡ true
unfolding collect_one
comes_one g p acc v h n =
    cond_has (λ (l : List ℕ). member v l ≡ true) (wanted g p acc v)
    (λ e. member_append v acc (v ∷ []) ∙ or_right (member v acc) (member v (v ∷ [])) (member_here v []))
    (λ e. either (member v acc ≡ true) (member v acc) (λ k. k)
    (λ k. clash (wanted g p acc v) (and_both (has_weight g v) (not (member v (p ∷ acc))) h (not_false (member v (p ∷ acc)) (not_cons v p acc n k))) e))

comes : (g : Graph) (p : ℕ) (cs acc : List ℕ) (v : ℕ) → has_weight g v ≡ true → v ≢ p → member v cs ≡ true → member v (foldl (collect_one g p) acc cs) ≡ true
comes g p [] acc v h n m = no_member v m
comes g p (c ∷ cs) acc v h n m =
    member_cases (member v (foldl (collect_one g p) (collect_one g p acc c) cs) ≡ true) v c cs m
    (λ e. rw (← e) (stays g p cs (collect_one g p acc v) v (comes_one g p acc v h n)))
    (λ q k. comes g p cs (collect_one g p acc c) v h n k)

pub distinct_collected : (g : Graph) (p : ℕ) → Distinct (collected g p)
distinct_collected g p = (fitted g p).distinct

pub collected_apart : (g : Graph) (p v : ℕ) → member v (collected g p) ≡ true → v ≢ p
collected_apart g p v m = ((fitted g p).fit v m).apart

pub pivot_outside : (g : Graph) (p : ℕ) → member p (collected g p) ≡ false
pivot_outside g p = either (member p (collected g p) ≡ false) (member p (collected g p)) (λ e. absurd (collected_apart g p p e refl)) (λ e. e)

module _ {n : ℕ} {g : Graph} (q : Quotient n g) (p : ℕ) (pv : Var g p) where
  -- F3
  pub from_element : (e i : ℕ) → member e (elements_of g p) ≡ true → member i (variables_of g e) ≡ true → Var g i → i ≢ p → member i (collected g p) ≡ true
  unfolding collected candidates
  from_element e i me mi vi ne =
      comes g p (candidates g p) [] i (var_weighs q i vi) ne
      (member_append i (flat_map (variables_of g) (elements_of g p)) (variables_of g p)
      ∙ or_left (member i (flat_map (variables_of g) (elements_of g p))) (member i (variables_of g p)) (member_joined i e (variables_of g) (elements_of g p) me mi))

  pub from_variables : (i : ℕ) → member i (variables_of g p) ≡ true → Var g i → member i (collected g p) ≡ true
  unfolding collected candidates
  from_variables i mi vi =
      comes g p (candidates g p) [] i (var_weighs q i vi)
      (λ e. clash (member i (variables_of g p)) mi (ap (λ (z : ℕ). member z (variables_of g p)) e ∙ q.not_own p pv))
      (member_append i (flat_map (variables_of g) (elements_of g p)) (variables_of g p)
      ∙ or_right (member i (flat_map (variables_of g) (elements_of g p))) (member i (variables_of g p)) mi)

  -- where a collected one comes from
  came : (P : Type 0) (i : ℕ) → member i (collected g p) ≡ true → ((e : ℕ) → member e (elements_of g p) ≡ true → member i (variables_of g e) ≡ true → P)
      → (member i (variables_of g p) ≡ true → P) → P
  unfolding candidates
  came P i m f h =
      or_cases P (member i (flat_map (variables_of g) (elements_of g p))) (member i (variables_of g p))
      (sym (member_append i (flat_map (variables_of g) (elements_of g p)) (variables_of g p)) ∙ ((fitted g p).fit i m).candidate)
      (λ k. let r = member_flat_map i (variables_of g) (elements_of g p) k in f r.0 r.1 r.2)
      h

  pub collected_var : (i : ℕ) → member i (collected g p) ≡ true → Var g i
  collected_var i m =
      weighs_var q i
      (came (is_element (kind g i) ≡ false) i m
      (λ e me mi. q.members_kind e i (q.elements_live p e pv me) mi)
      (λ mi. q.no_element p i pv mi))
      ((fitted g p).fit i m).weighs

  -- F2, the second half: a collected variable shares an element with the pivot, or has it for a variable
  pub tied : (P : Type 0) (i : ℕ) → member i (collected g p) ≡ true
      → ((e : ℕ) → member e (elements_of g p) ≡ true → member e (elements_of g i) ≡ true → P) → (member p (variables_of g i) ≡ true → P) → P
  tied P i m f h =
      let vi : Var g i = collected_var i m in
      came P i m
      (λ e me mi. f e me (q.members_know e i (q.elements_live p e pv me) mi vi))
      (λ mi. h (q.mutual_variables p i pv mi vi))
