-- One counter: after the rows it is the flag and what is left of the element's weight; an element that no row has, and one that is no more, keeps its mark.
-- Assumes nothing.
use Rattle.std.proofs.Common.{◌≡◌, ℕ, ◌+◌, ◌-◌, ◌^◌, ◌<◌, ◌≤◌, Bool, true, false, cond, List, [], ◌∷◌, sym, refl, ap, ◌∙◌, arith, lt-ltb, le-leb}
use mathlib.Core.List.{flat_map, foldl}
use borrow.Author.Tests.{lt-leb}
use Rattle.plain.proofs.Logic.{either, or_cases, or_false_left, or_false_right, clash}
use Rattle.plain.proofs.Members.{member_append, member_here, member_there, no_member}
use Rattle.plain.specs.Lists.{member, total}
use Rattle.plain.specs.Members.{In}
use Rattle.sizing.specs.Counters.{begun, counted, lessened, passing, shared}

-- ---- one row

module _ (flag weight degree : ℕ) where
  pub lessened_met : (r : ℕ) → lessened flag weight degree (flag + r) ≡ flag + r - weight
  unfolding lessened
  lessened_met r = rw (le-leb flag (flag + r) (omega arith))

  pub lessened_first : (mark : ℕ) → mark < flag → 0 < mark → degree + flag < 2 ^ 63 → lessened flag weight degree mark ≡ degree + (flag - weight)
  unfolding lessened begun
  lessened_first mark h k b = rw (lt-leb flag mark h, lt-ltb 0 mark k, lt-ltb (degree + (flag - weight)) (2 ^ 63) (omega arith))

  pub lessened_gone : 0 < flag → lessened flag weight degree 0 ≡ 0
  unfolding lessened
  lessened_gone h = rw (lt-leb flag 0 h)

-- ---- all rows

module _ (flag : ℕ) (E : ℕ → List ℕ) (wt : ℕ → ℕ) (degree e : ℕ) where
  -- an element that is no more
  pub counted_gone : 0 < flag → (new : List ℕ) → counted flag E wt degree e new 0 ≡ 0
  unfolding counted
  counted_gone h [] = refl
  counted_gone h (i ∷ new) =
      let z : passing flag E wt degree e 0 i ≡ 0 = either (passing flag E wt degree e 0 i ≡ 0) (member e (E i)) (λ q. rw q (lessened_gone flag (wt i) degree h)) (λ q. rw q) in
      rw z (counted_gone h new)

  -- no row has it
  pub counted_none : (mark : ℕ) (new : List ℕ) → member e (flat_map E new) ≡ false → counted flag E wt degree e new mark ≡ mark
  unfolding counted flat_map
  counted_none mark [] m = refl
  counted_none mark (i ∷ new) m =
      let k = sym (member_append e (E i) (flat_map E new)) ∙ m in
      rw (or_false_left (member e (E i)) (member e (flat_map E new)) k)
      (counted_none mark new (or_false_right (member e (E i)) (member e (flat_map E new)) k))

  -- it is a counter, which the rows do not exhaust
  pub counted_met : (r : ℕ) (new : List ℕ) → shared E wt e new ≤ r → counted flag E wt degree e new (flag + r) ≡ flag + (r - shared E wt e new)
  unfolding counted total
  counted_met r [] b = omega arith
  counted_met r (i ∷ new) b =
      either (foldl (passing flag E wt degree e) (passing flag E wt degree e (flag + r) i) new ≡ flag + (r - (cond (member e (E i)) (wt i) 0 + shared E wt e new))) (member e (E i))
      (λ q.
      let b' : wt i + shared E wt e new ≤ r = subst_le q b in
      let z : flag + r - wt i ≡ flag + (r - wt i) = omega arith in
      rw (q, lessened_met flag (wt i) degree r, z) (counted_met (r - wt i) new (omega arith) ∙ omega arith))
      (λ q. rw q (counted_met r new (subst_no q b) ∙ omega arith))
    where
      subst_le : member e (E i) ≡ true → cond (member e (E i)) (wt i) 0 + shared E wt e new ≤ r → wt i + shared E wt e new ≤ r
      subst_le q h = omega (arith, h, ap (λ (x : Bool). cond x (wt i) 0) q)

      subst_no : member e (E i) ≡ false → cond (member e (E i)) (wt i) 0 + shared E wt e new ≤ r → shared E wt e new ≤ r
      subst_no q h = omega (arith, h)

  -- it is none yet, and some row has it
  pub counted_first : (mark : ℕ) → mark < flag → 0 < mark → degree + flag < 2 ^ 63 → (new : List ℕ) → ((i : ℕ) → In i new → wt i ≤ flag) → shared E wt e new ≤ degree
      → member e (flat_map E new) ≡ true → counted flag E wt degree e new mark ≡ flag + (degree - shared E wt e new)
  unfolding counted total flat_map
  counted_first mark h k b [] f s m = no_member e m
  counted_first mark h k b (i ∷ new) f s m =
      either (foldl (passing flag E wt degree e) (passing flag E wt degree e mark i) new ≡ flag + (degree - (cond (member e (E i)) (wt i) 0 + shared E wt e new))) (member e (E i))
      (λ q.
      let s' : wt i + shared E wt e new ≤ degree = omega (arith, s, ap (λ (x : Bool). cond x (wt i) 0) q) in
      let z : degree + (flag - wt i) ≡ flag + (degree - wt i) = omega (arith, s', f i (member_here i new)) in
      rw (q, lessened_first flag (wt i) degree mark h k b, z) (counted_met (degree - wt i) new (omega arith) ∙ omega arith))
      (λ q. rw q
      (counted_first mark h k b new (λ j mj. f j (member_there j i new mj)) (omega (arith, s, ap (λ (x : Bool). cond x (wt i) 0) q))
      (or_cases (member e (flat_map E new) ≡ true) (member e (E i)) (member e (flat_map E new)) (sym (member_append e (E i) (flat_map E new)) ∙ m) (λ y. clash (member e (E i)) y q) (λ y. y))
      ∙ omega arith))
