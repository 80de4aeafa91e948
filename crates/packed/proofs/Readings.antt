-- A gather's whole reading: the lists of the elements in order, which are taken up, then the own variables.
-- Assumes nothing.
use Rattle.std.proofs.Common.{◌≡◌, ℕ, suc, ◌+◌, ◌-◌, ◌^◌, ◌<◌, ◌≤◌, Bool, false, ltb, ◌≢◌, List, [], ◌∷◌, ◌++◌, length, take, drop, ℤ, sym, refl, ap, ◌∙◌, subst, arith, length-append}
use mathlib.Core.List.{foldl}
use mathlib.Core.Path.{fun_ext}
use lib.Seq.{drop-append_seam, take-append_seam}
use Rattle.plain.proofs.Entries.{entries_drop, entries_none, entries_take}
use Rattle.plain.proofs.Members.{apart, member_here, member_there}
use Rattle.plain.proofs.Turns.{times_fold}
use Rattle.plain.specs.Lists.{member}
use Rattle.plain.specs.Members.{Distinct, In}
use Rattle.plain.specs.Turns.{entries}
use Rattle.definition.specs.Room.{Read, read_list}
use Rattle.cells.proofs.Rows.{clipped_part}
use Rattle.cells.proofs.Slices.{plus_sum}
use Rattle.cells.specs.Layout.{ELEN, LEN, PE, WANT}
use Rattle.cells.specs.View.{Room, at, plus, rd}
use Rattle.packed.specs.Places.{Mem, places}
use Rattle.packed.specs.Reading.{after_parts, pick_one, picked, read_all, read_parts}
use Rattle.packed.specs.Tray.{Taking, absorbed, empty_tray, own_part, passed_by, taking, took, took_all, took_element, took_elements, took_own, took_part}
use Rattle.packed.proofs.Dropping.{Dropped, absorb_fold, absorbed_field, absorbed_other, absorbed_room, dropped_fold}
use Rattle.packed.proofs.Frame.{ends, inside_space, len_of}
use Rattle.packed.proofs.Picked.{after_is, foldl_append}
use Rattle.packed.proofs.Taking.{Holds, holds_absorbed, holds_none, holds_passed, holds_read, wants}

after_grows : (X : ℕ → List ℕ) (c : ℕ) (es : List ℕ) → c ≤ after_parts X c es
after_grows X c es = omega (arith, after_is X c es)

module _ (n : ℕ) (quota : ℕ) (s : List ℤ) (room : Room n s) where
  abbrev Has : List Read → ℕ → Taking → Type 0
  Has q r m = Holds n quota s q r m

  abbrev pick : List Read → Read → List Read
  pick = pick_one (wants n s)

  abbrev take_in : Taking → ℕ → Taking
  take_in m x = took n quota x m

  -- the numbers of a list
  holds_list : (y : List ℕ) (q : List Read) (r : ℕ) (m : Taking) → r + length y < 2 ^ 63 → Has q r m → Has (foldl pick q (read_list r y)) (r + length y) (foldl take_in m y)
  unfolding read_list
  holds_list [] q r m b h = let e : r + 0 ≡ r = omega arith in rw e h
  holds_list (x ∷ y) q r m b h =
      let e : suc r + length y ≡ r + suc (length y) = omega arith in
      rw (← e) (holds_list y (pick q (record { entry = x; sofar = suc r })) (suc r) (take_in m x) (omega arith) (holds_read n quota s room q r m h x (omega arith)))

  -- a part of the list space
  pub holds_part : (l : List ℤ) (p k : ℕ) (y : List ℕ) → entries (at l) p k ≡ y → (0 < k → p + k ≤ length l) → (q : List Read) (r : ℕ) (m : Taking) → r + length y < 2 ^ 63 → Has q r m
      → Has (foldl pick q (read_list r y)) (r + length y) (took_part n quota l p k m)
  unfolding took_part
  holds_part l p k y e fits q r m b h = rw (clipped_part (length l) p k fits, times_fold (took n quota) (at l) p k m, e) (holds_list y q r m b h)

wants_same : (n : ℕ) (s s' : List ℤ) → ((v : ℕ) → rd n WANT s' v ≡ rd n WANT s v) → wants n s' ≡ wants n s
wants_same n s s' h = fun_ext (λ v. ap (λ (y : ℕ). ltb 0 y) (h v))

module _ (n me quota : ℕ) (l : List ℤ) (X : ℕ → List ℕ) where
  -- the list of e is where the scratch says
  abbrev Listed : List ℤ → ℕ → Type 0
  Listed s e = (entries (at l) (rd n PE s e) (rd n LEN s e) ≡ X e) × (0 < rd n LEN s e → rd n PE s e + rd n LEN s e ≤ length l)

  wants_absorbed : (s : List ℤ) (x : ℕ) → wants n (absorbed n me x s) ≡ wants n s
  wants_absorbed s x = wants_same n s (absorbed n me x s) (λ v. absorbed_field n me s x WANT v refl refl refl)

  listed_absorbed : (s : List ℤ) (x e : ℕ) → e ≢ x → Listed s e → Listed (absorbed n me x s) e
  listed_absorbed s x e d h = rw (absorbed_other n me s x PE e d, absorbed_other n me s x LEN e d) h

  -- an element's number, and its list
  holds_element : (s : List ℤ) → Room n s → (e : ℕ) → e < n → Listed s e → (q : List Read) (r : ℕ) (m : Taking) → suc r + length (X e) < 2 ^ 63 → Holds n quota s q r m
      → Holds n quota (absorbed n me e s) (foldl (pick_one (wants n s)) q (read_list (suc r) (X e))) (suc r + length (X e)) (took_element n me quota l e m)
  unfolding took_element
  holds_element s room e low li q r m b h =
      let s₁ = absorbed n me e s in
      let room₁ = absorbed_room n me s e room in
      let m₁ = taking (absorbed n me e m.mem) m.tray in
      let h₁ : Holds n quota s₁ q (suc r) (taking m₁.mem (passed_by m₁.tray)) = holds_passed n quota s₁ room₁ q r m₁ (omega arith) (holds_absorbed n quota s room me e low q r m h) in
      rw (h.fields PE e refl refl refl refl refl, h.fields LEN e refl refl refl refl refl)
      (subst (λ (p : ℕ → Bool). Holds n quota s₁ (foldl (pick_one p) q (read_list (suc r) (X e))) (suc r + length (X e)) (took_part n quota l (rd n PE s e) (rd n LEN s e) (taking m₁.mem (passed_by m₁.tray))))
      (wants_absorbed s e) (holds_part n quota s₁ room₁ l (rd n PE s e) (rd n LEN s e) (X e) li.0 li.1 q (suc r) (taking m₁.mem (passed_by m₁.tray)) b h₁))

  holds_elements : (es : List ℕ) (s : List ℤ) → Room n s → Distinct es → ((e : ℕ) → In e es → e < n) → ((e : ℕ) → In e es → Listed s e) → (q : List Read) (r : ℕ) (m : Taking)
      → after_parts X r es < 2 ^ 63 → Holds n quota s q r m
      → Holds n quota (absorb_fold n me s es) (foldl (pick_one (wants n s)) q (read_parts X r es)) (after_parts X r es) (foldl (λ a e. took_element n me quota l e a) m es)
  unfolding read_parts after_parts
  holds_elements [] s room once low li q r m b h = h
  holds_elements (e ∷ es) s room once low li q r m b h =
      let k : suc r + length (X e) ≤ after_parts X (suc r + length (X e)) es = after_grows X (suc r + length (X e)) es in
      let q₁ = foldl (pick_one (wants n s)) q (read_list (suc r) (X e)) in
      let m₁ = took_element n me quota l e m in
      let low-e = low e (member_here e es) in
      rw (foldl_append (pick_one (wants n s)) q (read_list (suc r) (X e)) (read_parts X (suc r + length (X e)) es))
      (subst (λ (p : ℕ → Bool). Holds n quota (absorb_fold n me (absorbed n me e s) es) (foldl (pick_one p) q₁ (read_parts X (suc r + length (X e)) es)) (after_parts X (suc r + length (X e)) es) (foldl (λ a x. took_element n me quota l x a) m₁ es))
      (wants_absorbed s e)
      (holds_elements es (absorbed n me e s) (absorbed_room n me s e room) once.1 (λ x i. low x (member_there x e es i))
      (λ x i. listed_absorbed s e x (λ y. apart e x es once.0 i (sym y)) (li x (member_there x e es i))) q₁ (suc r + length (X e)) m₁ b
      (holds_element s room e low-e (li e (member_here e es)) q r m (omega arith) h)))

  elements_fold : (p k : ℕ) (m : Taking) → (0 < k → p + k ≤ length l) → took_elements n me quota l p k m ≡ foldl (λ a e. took_element n me quota l e a) m (entries (at l) p k)
  unfolding took_elements
  elements_fold p k m fits = rw (clipped_part (length l) p k fits) (times_fold (took_element n me quota l) (at l) p k m)

  module _ (s : List ℤ) (room : Room n s) (lim : ℕ) (g : Mem l (places n s) lim X) (hm : me < n) (es vs : List ℕ) (parts : X me ≡ es ++ vs) (elen : rd n ELEN s me ≡ length es)
      (once : Distinct es) (away : member me es ≡ false) (low : (e : ℕ) → In e es → e < n) where
    len : rd n LEN s me ≡ length es + length vs
    len = len_of l (places n s) lim X g me ∙ ap length parts ∙ length-append es vs

    whole : entries (at l) (rd n PE s me) (length es + length vs) ≡ es ++ vs
    whole = rw (← len) (g.lists me ∙ parts)

    first_part : entries (at l) (rd n PE s me) (rd n ELEN s me) ≡ es
    first_part =
        rw elen (sym (entries_take (at l) (rd n PE s me) (length es + length vs) (length es) (omega arith)) ∙ ap (λ (y : List ℕ). take (length es) y) whole ∙ take-append_seam es vs)

    first_inside : 0 < rd n ELEN s me → rd n PE s me + rd n ELEN s me ≤ length l
    first_inside z = omega (arith, elen, len, inside_space l (places n s) lim X g me (omega (arith, elen, len)))

    own_from : lim < 2 ^ 63 → 0 < length vs → plus (rd n PE s me) (length es) ≡ rd n PE s me + length es
    own_from b z = plus_sum (rd n PE s me) (length es) (omega (arith, len, ends l (places n s) lim X g me (omega (arith, len))))

    own : (vs' : List ℕ) → vs ≡ vs' → lim < 2 ^ 63 → entries (at l) (plus (rd n PE s me) (length es)) (length vs) ≡ vs
    own [] e b = rw e (entries_none (at l) (plus (rd n PE s me) (length es)))
    own (v ∷ ws) e b =
        let z : 0 < length vs = omega (arith, ap length e) in
        rw (own_from b z) (sym (entries_drop (at l) (rd n PE s me) (length vs) (length es)) ∙ ap (λ (y : List ℕ). drop (length es) y) whole ∙ drop-append_seam es vs)

    -- when its elements are taken up
    abbrev s' : List ℤ
    s' = absorb_fold n me s es

    dropped : Dropped n me es s s'
    dropped = dropped_fold n me hm es s room low

    module _ (q : List Read) (r : ℕ) (m : Taking) (h : Holds n quota s' q r m) where
      own_place : rd n PE m.mem me ≡ rd n PE s me
      own_place = h.fields PE me refl refl refl refl refl ∙ dropped.others PE me away

      own_elements : rd n ELEN m.mem me ≡ length es
      own_elements = h.fields ELEN me refl refl refl refl refl ∙ dropped.others ELEN me away ∙ elen

      own_length : rd n LEN m.mem me - length es ≡ length vs
      own_length = omega (arith, h.fields LEN me refl refl refl refl refl, dropped.others LEN me away, len)

      own_part_lem : lim < 2 ^ 63 → entries (at l) (own_part n m.mem me).from (own_part n m.mem me).len ≡ vs
      unfolding own_part
      own_part_lem b = rw (own_place, own_elements, own_length) (own vs refl b)

      own_inside : lim < 2 ^ 63 → 0 < (own_part n m.mem me).len → (own_part n m.mem me).from + (own_part n m.mem me).len ≤ length l
      unfolding own_part
      own_inside b = rw (own_place, own_elements, own_length) (λ z. omega (arith, own_from b z, len, inside_space l (places n s) lim X g me (omega (arith, len))))

    pub holds_all : lim < 2 ^ 63 → after_parts X 0 es + length vs < 2 ^ 63
        → Holds n quota s' (picked (wants n s) (read_all X es vs)) (after_parts X 0 es + length vs) (took_all n quota l s me)
    unfolding picked read_all took_all took_own
    holds_all b c =
        let m₀ : Taking = taking s empty_tray in
        let q₁ = foldl (pick_one (wants n s)) [] (read_parts X 0 es) in
        let m₁ = took_elements n me quota l (rd n PE s me) (rd n ELEN s me) m₀ in
        let h₁ : Holds n quota s' q₁ (after_parts X 0 es) m₁
        = rw (elements_fold (rd n PE s me) (rd n ELEN s me) m₀ first_inside, first_part)
        (holds_elements es s room once low (λ e i. (g.lists e, inside_space l (places n s) lim X g e)) [] 0 m₀ (omega arith) (holds_none n quota s room)) in
        rw (foldl_append (pick_one (wants n s)) [] (read_parts X 0 es) (read_list (after_parts X 0 es) vs))
        (subst (λ (p : ℕ → Bool). Holds n quota s' (foldl (pick_one p) q₁ (read_list (after_parts X 0 es) vs)) (after_parts X 0 es + length vs) (took_part n quota l (own_part n m₁.mem me).from (own_part n m₁.mem me).len m₁))
        (wants_same n s s' (λ v. dropped.fields WANT v refl refl refl))
        (holds_part n quota s' dropped.room l (own_part n m₁.mem me).from (own_part n m₁.mem me).len vs (own_part_lem q₁ (after_parts X 0 es) m₁ h₁ b) (own_inside q₁ (after_parts X 0 es) m₁ h₁ b) q₁ (after_parts X 0 es) m₁ c h₁))
