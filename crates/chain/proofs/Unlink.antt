-- A row taken out of its list, wherever it stands there: `removed_rep`, and what else the memory keeps.
-- Assumes nothing.
use Prim.Native.Nat.{ℕ, ◌<◌, ◌≤◌}
use native.Mathlib.Omega.{arith}
use mathlib.Core.Path.{◌≡◌, refl, sym, ap, ◌∙◌, subst, subst⁻¹}
use mathlib.Core.Logic.{◌≢◌, ◌⊎◌, inl, inr, ⊎_elim}
use mathlib.Core.Bool.{false, cond}
use mathlib.Core.List.{List, [], ◌∷◌}
use borrow.Author.Tests.{lt-ltb, eq-eqb, ne_eqb}
use lib.Dec.{eqb}
use lib.IntN.{ℤ}
use Rattle.plain.specs.Lists.{member, delete}
use Rattle.plain.specs.Members.{In, Distinct}
use Rattle.plain.proofs.Members.{no_member, member_either, not_here, not_there, delete_nil, delete_here, delete_there, delete_fresh}
use Rattle.plain.proofs.Repeats.{distinct_delete}
use Rattle.cells.specs.Layout.{DEGREE, NEXT, LAST, HEAD}
use Rattle.cells.specs.View.{rd, up, Room}
use Rattle.cells.specs.Links.{parent}
use Rattle.cells.proofs.Fields.{room_up}
use Rattle.cells.proofs.Slices.{split, same?}
use Rattle.cells.proofs.Laws.{mem, rd_up_field, room_yes}
use Rattle.chain.specs.Model.{removed}
use Rattle.chain.specs.Chained.{Links, links, Seg, Chained}
use Rattle.chain.proofs.Steps.{relinked_mid, relinked_front}
use Rattle.chain.proofs.Frame.{Same, all_but, seg_frame, fresh_degree}

-- ---- the neighbours of a row

module _ (n : ℕ) (f : Links) (d i : ℕ) where
  record Around : Type 0 where
    small : i < n
    deg : f.degree i ≡ d
    prev : f.last i < n → (f.next (f.last i) ≡ i) × (f.degree (f.last i) ≡ d)
    succ : f.next i < n → (f.last (f.next i) ≡ i) × (f.degree (f.next i) ≡ d)

  after : (l : List ℕ) → Seg n f d i (f.next i) l → f.next i < n → (f.last (f.next i) ≡ i) × (f.degree (f.next i) ≡ d)
  after [] q h = absurd (omega (arith, q))
  after (m ∷ l) q h = (ap f.last q.0.here ∙ q.0.back, ap f.degree q.0.here ∙ q.0.deg)

  around : (p x : ℕ) (l : List ℕ) → (p < n → (f.next p ≡ x) × (f.degree p ≡ d)) → Seg n f d p x l → In i l → Around
  around p x [] w q m = no_member i m
  around p x (k ∷ l) w q m = go (λ h. around k (f.next k) l (λ z. (refl, q.0.deg)) q.1 h) (member_either i k l m)
    where
      go : (In i l → Around) → (i ≡ k) ⊎ In i l → Around
      go rec (inl e) =
          let back : f.last i ≡ p = ap f.last e ∙ q.0.back in
          record {
            small = omega (arith, q.0.small, e);
            deg = ap f.degree e ∙ q.0.deg;
            prev = λ h. rw back ((w (omega arith)).0 ∙ q.0.here ∙ sym e, (w (omega arith)).1);
            succ = after l (subst (λ (y : ℕ). Seg n f d y (f.next y) l) (sym e) q.1);
          }
      go rec (inr h) = rec h

  -- a row behind another has a link back
  linked : (p x : ℕ) (l : List ℕ) → p < n → Seg n f d p x l → In i l → f.last i < n
  linked p x [] h q m = no_member i m
  linked p x (k ∷ l) h q m =
      ⊎_elim (λ e. omega (arith, ap f.last e, q.0.back)) (λ z. linked k (f.next k) l q.0.small q.1 z) (member_either i k l m)

-- ---- the list without i

-- x, or what follows i where x is i
abbrev skip : ℕ → ℕ → ℕ → ℕ
skip i a x = cond (eqb x i) a x

-- g is f with i taken out
record Out (n : ℕ) (f g : Links) (i : ℕ) : Type 0 where
  next : (j : ℕ) → j ≢ f.last i → g.next j ≡ f.next j
  next_at : f.last i < n → g.next (f.last i) ≡ f.next i
  back : (j : ℕ) → j ≢ f.next i → g.last j ≡ f.last j
  back_at : f.next i < n → g.last (f.next i) ≡ f.last i
  deg : (j : ℕ) → g.degree j ≡ f.degree j

module _ (n : ℕ) (f g : Links) (d i : ℕ) (o : Out n f g i) (r : Around n f d i) where
  same_but : (j : ℕ) → j ≢ f.last i → j ≢ f.next i → Same f g j
  same_but j h k = record { next = o.next j h; back = o.back j k; deg = o.deg j }

  -- i itself is passed over
  past : (p : ℕ) (l : List ℕ) → f.last i ≡ p → Seg n f d i (f.next i) l → Distinct l → member p l ≡ false → Seg n g d p (f.next i) l
  past p [] e q u v = q
  past p (m ∷ l) e q u v =
      let h : f.next i ≡ m = q.0.here in (
        record {
          here = h;
          small = q.0.small;
          back = rw (← h) (o.back_at (omega (arith, h, q.0.small)) ∙ e);
          deg = o.deg m ∙ q.0.deg;
        },
        rw (o.next m (λ y. not_here p m l v (sym e ∙ sym y)))
            (seg_frame n f g d m (f.next m) l (all_but _ p m l (λ j a b. same_but j (rw e a) (rw h b)) (not_there p m l v) u.0) q.1),
      )

  -- the link behind another row
  step : (k : ℕ) (l : List ℕ) → Seg n f d k (f.next k) l → k < n → (k ≡ f.last i) ⊎ (k ≢ f.last i) → g.next k ≡ skip i (f.next i) (f.next k)
  step k l q h (inl e) =
      let y : f.next k ≡ i = rw e (r.prev (omega arith)).0 in
      rw (eq-eqb (f.next k) i y) (ap g.next e ∙ o.next_at (omega arith))
  step k [] q h (inr e) = rw (ne_eqb (f.next k) i (λ y. omega (arith, q, y, r.small))) (o.next k e)
  step k (m ∷ l) q h (inr e) =
      rw (ne_eqb (f.next k) i (λ y. e (sym (ap f.last (sym y ∙ q.0.here) ∙ q.0.back)))) (o.next k e)

  without_at : (p x k : ℕ) (l : List ℕ) → Seg n f d p x (k ∷ l) → Distinct (k ∷ l) → member p (k ∷ l) ≡ false → p ≢ i
      → (k ≢ i → Seg n g d k (skip i (f.next i) (f.next k)) (delete i l)) → (k ≡ i) ⊎ (k ≢ i)
      → Seg n g d p (skip i (f.next i) x) (delete i (k ∷ l))
  without_at p x k l q u v w rec (inl e) =
      rw (delete_here i k l e, delete_fresh i l (ap (λ (y : ℕ). member y l) (sym e) ∙ u.0), eq-eqb x i (q.0.here ∙ e))
      (past p l (ap f.last (sym e) ∙ q.0.back) (subst (λ (y : ℕ). Seg n f d y (f.next y) l) e q.1) u.1 (not_there p k l v))
  without_at p x k l q u v w rec (inr e) =
      rw (delete_there i k l e, ne_eqb x i (λ y. e (sym q.0.here ∙ y))) (
        record {
          here = q.0.here;
          small = q.0.small;
          back = o.back k (λ y. w (sym q.0.back ∙ ap f.last y ∙ (r.succ (omega (arith, y, q.0.small))).0)) ∙ q.0.back;
          deg = o.deg k ∙ q.0.deg;
        },
        rw (step k l q.1 q.0.small (same? k (f.last i))) (rec e),
      )

  without : (p x : ℕ) (l : List ℕ) → Seg n f d p x l → Distinct l → member p l ≡ false → p ≢ i → Seg n g d p (skip i (f.next i) x) (delete i l)
  without p x [] q u v w = rw (delete_nil i, ne_eqb x i (λ y. omega (arith, q, y, r.small))) q
  without p x (k ∷ l) q u v w =
      without_at p x k l q u v w (λ e. without k (f.next k) l q.1 u.1 u.0 e) (same? k i)

-- ---- the memory

module _ (n : ℕ) (s : List ℤ) (i : ℕ) where
  -- what holds after each way through the code holds of the whole
  cases : (P : List ℤ → Type 0)
      → (rd n LAST s i < n → P (up n NEXT (up n LAST s (rd n NEXT s i) (rd n LAST s i)) (rd n LAST s i) (rd n NEXT s i)))
      → (n ≤ rd n LAST s i → P (up n HEAD (up n LAST s (rd n NEXT s i) (rd n LAST s i)) (rd n DEGREE s i) (rd n NEXT s i)))
      → P (removed n s i)
  unfolding removed
  cases P h k =
      ⊎_elim (λ a. rw (relinked_mid n _ i _ (rd n NEXT s i) a) (h a))
      (λ a. rw (relinked_front n _ i _ (rd n NEXT s i) a, rd_up_field) (k a))
      (split (rd n LAST s i) n)

  -- every field but these three
  pub removed_other : (f j : ℕ) → eqb HEAD f ≡ false → eqb NEXT f ≡ false → eqb LAST f ≡ false → rd n f (removed n s i) j ≡ rd n f s j
  removed_other f j a b c = cases (λ t. rd n f t j ≡ rd n f s j) (λ _. simp (mem, b, c)) (λ _. simp (mem, a, c))

  pub removed_degree : (j : ℕ) → rd n DEGREE (removed n s i) j ≡ rd n DEGREE s j
  removed_degree j = removed_other DEGREE j refl refl refl

  pub removed_parent : (j : ℕ) → parent n (removed n s i) j ≡ parent n s j
  removed_parent j = cases (λ t. parent n t j ≡ parent n s j) (λ a. simp mem) (λ a. simp mem)

  pub removed_room : Room n s → Room n (removed n s i)
  removed_room h =
      let first = room_up n LAST s (rd n NEXT s i) (rd n LAST s i) h in
      cases (Room n) (λ a. room_up n NEXT _ _ _ first) (λ a. room_up n HEAD _ _ _ first)

  module _ (room : Room n s) where
    out : Out n (links n s) (links n (removed n s i)) i
    out =
        record {
          next = λ j h. cases (λ t. rd n NEXT t j ≡ rd n NEXT s j) (λ a. simp mem) (λ a. simp mem);
          next_at = λ h. cases (λ t. rd n NEXT t (rd n LAST s i) ≡ rd n NEXT s i) (λ a. simp (mem, room_yes n s room, lt-ltb _ n a)) (λ a. absurd (omega arith));
          back = λ j h. cases (λ t. rd n LAST t j ≡ rd n LAST s j) (λ a. simp mem) (λ a. simp mem);
          back_at = λ h. cases (λ t. rd n LAST t (rd n NEXT s i) ≡ rd n LAST s i) (λ a. simp (mem, room_yes n s room, lt-ltb _ n h)) (λ a. simp (mem, room_yes n s room, lt-ltb _ n h));
          deg = removed_degree;
        }

    head_other : (e : ℕ) → rd n DEGREE s i ≢ e → rd n HEAD (removed n s i) e ≡ rd n HEAD s e
    head_other e h = cases (λ t. rd n HEAD t e ≡ rd n HEAD s e) (λ a. simp mem) (λ a. simp mem)

    head_at : rd n DEGREE s i < n → (rd n LAST s i < n → rd n HEAD s (rd n DEGREE s i) ≢ i) → (n ≤ rd n LAST s i → rd n HEAD s (rd n DEGREE s i) ≡ i)
        → rd n HEAD (removed n s i) (rd n DEGREE s i) ≡ skip i (rd n NEXT s i) (rd n HEAD s (rd n DEGREE s i))
    head_at hd u v =
        cases (λ t. rd n HEAD t (rd n DEGREE s i) ≡ skip i (rd n NEXT s i) (rd n HEAD s (rd n DEGREE s i)))
        (λ a. rw (ne_eqb (rd n HEAD s (rd n DEGREE s i)) i (u a)) (simp mem))
        (λ a. rw (eq-eqb (rd n HEAD s (rd n DEGREE s i)) i (v a)) (simp (mem, room_yes n s room, lt-ltb _ n hd)))

-- ---- the lists

module _ (n : ℕ) (s : List ℤ) (i : ℕ) (L : ℕ → List ℕ) (room : Room n s) (h : Chained n s L) (hd : rd n DEGREE s i < n) (has : In i (L (rd n DEGREE s i))) where
  abbrev d : ℕ
  d = rd n DEGREE s i

  near : Around n (links n s) d i
  near = around n (links n s) d i n (rd n HEAD s d) (L d) (λ z. absurd (omega arith)) (h.chain d hd) has

  -- i is the front of its list just where it has no link back
  front_no : (l : List ℕ) → Seg n (links n s) d n (rd n HEAD s d) l → In i l → rd n LAST s i < n → rd n HEAD s d ≢ i
  front_no [] q m z e = no_member i m
  front_no (k ∷ l) q m z e = omega (arith, ap (rd n LAST s) (sym e ∙ q.0.here), q.0.back)

  front_yes : (l : List ℕ) → Seg n (links n s) d n (rd n HEAD s d) l → In i l → n ≤ rd n LAST s i → rd n HEAD s d ≡ i
  front_yes [] q m z = no_member i m
  front_yes (k ∷ l) q m z = go (member_either i k l m)
    where
      go : (i ≡ k) ⊎ In i l → rd n HEAD s d ≡ i
      go (inl e) = q.0.here ∙ sym e
      go (inr y) = absurd (omega (arith, linked n (links n s) d i k (rd n NEXT s k) l q.0.small q.1 y))

  chain_at : (e : ℕ) → e < n → (e ≡ d) ⊎ (e ≢ d) → Seg n (links n (removed n s i)) e n (rd n HEAD (removed n s i) e) (delete i (L e))
  chain_at e he (inl q) =
      subst⁻¹ (λ (x : ℕ). Seg n (links n (removed n s i)) x n (rd n HEAD (removed n s i) x) (delete i (L x))) q
      (rw (head_at n s i room hd (front_no (L _) (h.chain _ hd) has) (front_yes (L _) (h.chain _ hd) has))
      (without n (links n s) (links n (removed n s i)) d i (out n s i room) near n _ (L _)
      (h.chain _ hd) (h.distinct _ hd) (fresh_degree n (links n s) _ n _ (L _) n (h.chain _ hd) (inl (omega arith)))
      (λ y. omega (arith, near.small))))
  chain_at e he (inr q) =
      let c = h.chain e he in
      let no : (j : ℕ) → (n ≤ j) ⊎ (rd n DEGREE s j ≢ e) → member j (L e) ≡ false = λ j z. fresh_degree n (links n s) e n (rd n HEAD s e) (L e) j c z in
      rw (head_other n s i room e (λ y. q (sym y)), delete_fresh i (L e) (no i (inr (λ y. q (sym y)))))
      (seg_frame n (links n s) (links n (removed n s i)) e n (rd n HEAD s e) (L e)
      (all_but _ (rd n LAST s i) (rd n NEXT s i) (L e) (same_but n (links n s) (links n (removed n s i)) d i (out n s i room) near)
      (no (rd n LAST s i) (⊎_elim (λ a. inr (λ y. q (sym y ∙ (near.prev a).1))) (λ a. inl a) (split (rd n LAST s i) n)))
      (no (rd n NEXT s i) (⊎_elim (λ a. inr (λ y. q (sym y ∙ (near.succ a).1))) (λ a. inl a) (split (rd n NEXT s i) n))))
      c)

  -- the memory after the code's steps holds the lists without i
  pub removed_rep : Chained n (removed n s i) (λ e. delete i (L e))
  removed_rep =
      record {
        chain = λ e he. chain_at e he (same? e d);
        distinct = λ e he. distinct_delete i (L e) (h.distinct e he);
      }
