-- Lists one after the other, and beside them numbers that fall within each list: what stands at a place.
-- Assumes nothing.
use Prim.Native.Nat.{ℕ, suc, ◌+◌, ◌-◌, ◌≤◌, ◌<◌}
use native.Mathlib.Omega.{arith}
use mathlib.Core.Path.{◌≡◌, refl, sym, ap, ◌∙◌, subst}
use mathlib.Core.Bool.{false≢true}
use mathlib.Core.List.{List, [], ◌∷◌, ◌++◌, flat_map}
use lib.Dec.{ltb}
use lib.ListN.{length, get_or, drop, length-append, length-drop, get_or-append}
use lib.Seq.{get_or-append-add}
use borrow.Author.Tests.{ltb-true, ltb-false}
use Rattle.plain.proofs.Falling.{length_fall_to, get_or_fall_to}
use Rattle.plain.proofs.Logic.{either}
use Rattle.plain.proofs.Members.{member_first, member_there, member_flat_map}
use Rattle.plain.proofs.Positions.{member_get_or, drop_was, member_drop, get_or_behind}
use Rattle.plain.proofs.Repeats.{distinct_drop}
use Rattle.plain.specs.Lists.{fall_to, member}
use Rattle.plain.specs.Members.{Distinct, In}

module _ (f : ℕ → List ℕ) (r : ℕ → ℕ) where
  abbrev pub falls : List ℕ → List ℕ
  falls xs = flat_map (λ e. fall_to (r e) (length (f e))) xs

  pub length_falls : (xs : List ℕ) → length (falls xs) ≡ length (flat_map f xs)
  unfolding flat_map
  length_falls [] = refl
  length_falls (x ∷ xs) =
      length-append (fall_to (r x) (length (f x))) (falls xs)
      ∙ omega (arith, length_fall_to (r x) (length (f x)), length_falls xs, length-append (f x) (flat_map f xs))

  module _ (owner : ℕ → ℕ) where
    -- at place k: whose list it is, what of it stands behind, and that the number there counts these
    pub record Spot (xs : List ℕ) (k : ℕ) : Type 0 where
      pub whose : ℕ
      pub among : In whose xs
      pub stands : In (get_or (flat_map f xs) k 0) (f whose)
      pub rest : List ℕ
      pub charged : get_or (falls xs) k 0 ≡ r whose + length rest
      pub fits : length rest < length (f whose)
      pub once : Distinct (f whose) → Distinct rest
      pub later : (v : ℕ) → In v rest → (b : ℕ) × (k < b) × (b < length (flat_map f xs)) × (get_or (flat_map f xs) b 0 ≡ v)
      pub within : (v : ℕ) → In v rest → In v (f whose)
      pub covers : (b : ℕ) → k < b → b < length (flat_map f xs) → owner (get_or (flat_map f xs) b 0) ≡ whose → In (get_or (flat_map f xs) b 0) rest

    pub spot : (xs : List ℕ) → ((e v : ℕ) → In e xs → In v (f e) → e ≡ owner v) → Distinct xs → (k : ℕ) → k < length (flat_map f xs) → Spot xs k
    unfolding flat_map
    spot [] own d k h = absurd (omega arith)
    spot (x ∷ xs) own d k h =
        let F = flat_map f xs in
        either (Spot (x ∷ xs) k) (ltb k (length (f x)))
        (λ t. here (ltb-true k (length (f x)) t))
        (λ t. let l : length (f x) ≤ k = ltb-false k (length (f x)) t in
        there l (spot xs (λ e v i j. own e v (member_there e x xs i) j) d.1 (k - length (f x)) (omega (arith, length-append (f x) F))))
      where
        here : k < length (f x) → Spot (x ∷ xs) k
        here l = record {
          whose = x;
          among = member_first x x xs refl;
          stands = rw (get_or-append (f x) (flat_map f xs) 0 k l) (member_get_or (f x) k l);
          rest = drop (suc k) (f x);
          charged =
              let m : k < length (fall_to (r x) (length (f x))) = omega (arith, length_fall_to (r x) (length (f x))) in
              get_or-append (fall_to (r x) (length (f x))) (falls xs) 0 k m ∙ get_or_fall_to (r x) (length (f x)) k l ∙ omega (arith, length-drop (suc k) (f x));
          fits = omega (arith, length-drop (suc k) (f x));
          once = λ q. distinct_drop (f x) (suc k) q;
          later = λ v q. let b = drop_was (f x) (suc k) v q in
              (b.0, omega (arith, b.1), omega (arith, b.2, length-append (f x) (flat_map f xs)), get_or-append (f x) (flat_map f xs) 0 b.0 b.2 ∙ b.3);
          within = λ v q. let b = drop_was (f x) (suc k) v q in subst (λ (z : ℕ). In z (f x)) b.3 (member_get_or (f x) b.0 b.2);
          covers = λ b m n q. either (In (get_or (f x ++ flat_map f xs) b 0) (drop (suc k) (f x))) (ltb b (length (f x)))
              (λ t. let i : b < length (f x) = ltb-true b (length (f x)) t in
              rw (get_or-append (f x) (flat_map f xs) 0 b i) (member_drop (f x) (suc k) b (omega arith) i))
              (λ t. absurd (twice b (ltb-false b (length (f x)) t) n q));
        }
          where
            twice : (b : ℕ) → length (f x) ≤ b → b < length (f x ++ flat_map f xs) → owner (get_or (f x ++ flat_map f xs) b 0) ≡ x → ⊥
            twice b m n q =
                let e = get_or_behind (f x) (flat_map f xs) 0 b m in
                let i = member_flat_map (get_or (flat_map f xs) (b - length (f x)) 0) f xs (member_get_or (flat_map f xs) (b - length (f x)) (omega (arith, length-append (f x) (flat_map f xs)))) in
                let p : i.0 ≡ x = own i.0 (get_or (flat_map f xs) (b - length (f x)) 0) (member_there i.0 x xs i.1) i.2 ∙ ap owner (sym e) ∙ q in
                false≢true (sym d.0 ∙ ap (λ (z : ℕ). member z xs) (sym p) ∙ i.1)

        there : length (f x) ≤ k → Spot xs (k - length (f x)) → Spot (x ∷ xs) k
        there l i = record {
          whose = i.whose;
          among = member_there i.whose x xs i.among;
          stands = rw (get_or_behind (f x) (flat_map f xs) 0 k l) i.stands;
          rest = i.rest;
          charged =
              let a : length (fall_to (r x) (length (f x))) ≤ k = omega (arith, length_fall_to (r x) (length (f x))) in
              get_or_behind (fall_to (r x) (length (f x))) (falls xs) 0 k a
              ∙ ap (λ (z : ℕ). get_or (falls xs) (k - z) 0) (length_fall_to (r x) (length (f x))) ∙ i.charged;
          fits = i.fits;
          once = i.once;
          later = λ v q. let b = i.later v q in
              (length (f x) + b.0, omega (arith, b.1), omega (arith, b.2, length-append (f x) (flat_map f xs)), get_or-append-add (f x) (flat_map f xs) b.0 0 ∙ b.3);
          within = i.within;
          covers = λ b m n q.
              let a : length (f x) ≤ b = omega arith in
              let e = get_or_behind (f x) (flat_map f xs) 0 b a in
              rw e (i.covers (b - length (f x)) (omega arith) (omega (arith, length-append (f x) (flat_map f xs))) (ap owner (sym e) ∙ q));
        }
