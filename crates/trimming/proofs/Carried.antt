-- All rows of the new element, on plain data: what step 4 leaves when the first t of them are done holds for every t, so for all.
-- Assumes nothing.
use Rattle.std.proofs.Common.{◌≡◌, ℕ, suc, ◌+◌, ◌-◌, ◌^◌, ◌<◌, ◌≤◌, Bool, true, false, ◌⊎◌, List, [], ◌∷◌, ◌++◌, length, get_or, ℤ, sym, refl, ap, ◌∙◌, subst, inl, inr, ⊎_elim, append-nil, arith}
use mathlib.Core.List.{flat_map}
use Rattle.plain.proofs.Entries.{entries_append, entries_at, entries_none, entries_snoc}
use Rattle.plain.proofs.Logic.{clash}
use Rattle.plain.proofs.Members.{member_last, member_left, member_nil, no_member, not_in}
use Rattle.plain.proofs.Turns.{times_keeps}
use Rattle.plain.specs.Lists.{keep, member, total}
use Rattle.plain.specs.Members.{In}
use Rattle.plain.specs.Turns.{entries}
use Rattle.cells.proofs.Rows.{clipped_part}
use Rattle.cells.proofs.Slices.{split}
use Rattle.cells.specs.Layout.{LEN, MERGES, PE}
use Rattle.cells.specs.View.{at, rd}
use Rattle.packed.proofs.Frame.{ends}
use Rattle.packed.proofs.Spaces.{space_renamed}
use Rattle.packed.specs.Places.{Space, places}
use Rattle.trimming.specs.Model.{Trimming, trimming, updated_all, updated_at}
use Rattle.trimming.proofs.Done.{Done, kept}
use Rattle.trimming.proofs.Due.{Due, lists_after, safe}
use Rattle.trimming.proofs.Leaving.{done_goes}
use Rattle.trimming.proofs.Rowwise.{Fine}
use Rattle.trimming.proofs.Staying.{done_stays}

module _ (n me flag : ℕ) (aggressive : Bool) (X : ℕ → List ℕ) (l s : List ℤ) (cnt base lim : ℕ) (g : Space n X l s cnt base lim)
    (hm : me < n) (E U : ℕ → List ℕ) where
  abbrev from : ℕ
  from = rd n PE s me

  abbrev len : ℕ
  len = rd n LEN s me

  abbrev done : ℕ → List ℕ
  done t = entries (at l) (rd n PE s me) t

  -- the list of the new element lies in the list space
  inside : 0 < len → from + len ≤ length l
  inside z = omega (arith, ends l (places n s) lim X g.lists me z, g.lists.fits)

  module _ (fine : (i : ℕ) → In i (done len) → Fine n me flag aggressive X s i (E i) (U i))
      (once : (t : ℕ) → t < len → member (at l (from + t)) (done t) ≡ false)
      (pivot : member me (done len) ≡ false)
      (far : (i x : ℕ) → In i (done len) → (x ≡ me) ⊎ In x (done len) → member x (E i) ≡ false)
      -- the log has room for n rows, and its count is a number of the machine
      (small : n < 2 ^ 63) (made : ℕ) where
    abbrev Along : ℕ → Trimming → Type 0
    Along t m = Done n me flag aggressive X E U l s cnt base lim made (done t) m

    -- a row that is done is a row
    sooner : (t x : ℕ) → t ≤ len → member x (done t) ≡ true → member x (done len) ≡ true
    sooner t x h k =
        let e : t + (len - t) ≡ len = omega arith in
        subst (λ (y : ℕ). member x (entries (at l) from y) ≡ true) e
        (ap (member x) (entries_append (at l) from t (len - t)) ∙ member_left x (done t) (entries (at l) (from + t) (len - t)) k)

    module _ (t : ℕ) (m : Trimming) (b : t < len) (h : Along t m) where
      abbrev i : ℕ
      i = at l (from + t)

      more : done (suc t) ≡ done t ++ (i ∷ [])
      more = entries_snoc (at l) from t

      row : (x : ℕ) → In x (done t ++ (i ∷ [])) → In x (done len)
      row x k = sooner (suc t) x b (ap (member x) more ∙ k)

      due : Due n me flag aggressive X E U s (done t) i
      due =
          record {
            fine = fine i (row i (member_last i (done t)));
            fresh = once t b;
            differ = λ e. clash (member me (done len)) (ap (λ (y : ℕ). member y (done len)) e ∙ row i (member_last i (done t))) pivot;
            far = λ j x k o. far j x (row j k) (⊎_elim (λ e. inl e) (λ y. inr (row x y)) o);
          }

      -- the rows still stand in the list of the pivot
      here : at m.lists (from + t) ≡ i
      here =
          let a : member me (done t) ≡ false = not_in me (done t) (λ k. clash (member me (done len)) (sooner t me (omega arith) k) pivot) in
          let c : entries (at m.lists) from len ≡ done len =
          ap (λ (y : ℕ). entries (at m.lists) y len) (sym h.place) ∙ ap (entries (at m.lists) (rd n PE m.mem me)) (sym h.extent) ∙ h.space.lists.lists me
          ∙ rw (a, safe n me flag aggressive X E U l s cnt base lim made (done t) i due m h me (inl refl)) (sym (g.lists.lists me)) in
          sym (entries_at (at m.lists) from len t 0 b) ∙ ap (λ (y : List ℕ). get_or y t 0) c ∙ entries_at (at l) from len t 0 b

      turn : Along (suc t) (updated_at n me flag aggressive (from + t) m)
      unfolding updated_at
      turn =
          rw (here, more)
          (⊎_elim (λ z. done_stays n me flag aggressive X E U l s cnt base lim made hm (done t) i due m h z)
          (λ z. done_goes n me flag aggressive X E U l s cnt base lim made hm small (done t) i due m h z)
          (split 0 (kept n me flag aggressive s E U i)))

    begun : Along 0 (trimming l s (record { weight = 0; made = made }))
    unfolding flat_map keep total
    begun =
        rw (entries_none (at l) from)
        record {
          space = space_renamed n X l s cnt base lim g (lists_after n me flag aggressive X E U s []) (λ j. rw (member_nil j));
          long = refl;
          fields = λ f x t0 t1 t3 t4 t5 t9 t10 t11 t13 t14. refl;
          place = refl;
          extent = refl;
          marks = λ x. rw (member_nil x);
          elens = λ x k. no_member x k;
          degrees = λ x k. no_member x k;
          keys = λ x k. no_member x k;
          elens_out = λ x k. refl;
          degrees_out = λ x k. refl;
          degrees_mass = λ x k. refl;
          weights = λ x ne. rw (member_nil x);
          own = λ z. omega arith;
          merged = λ z. refl;
          count = λ z. omega arith;
          log = λ z. rw (append-nil (entries (rd n MERGES s) 0 made)) (ap (entries (rd n MERGES s) 0) (omega arith));
          parents = λ x. rw (member_nil x);
          buckets = λ bare κ b. bare κ b;
        }

    -- THE rows of the new element
    pub rows_done : Done n me flag aggressive X E U l s cnt base lim made (entries (at l) (rd n PE s me) (rd n LEN s me))
        (updated_all n me flag aggressive (rd n PE s me) (rd n LEN s me) made l s)
    unfolding updated_all
    rows_done =
        rw (clipped_part (length l) from len inside)
        (times_keeps Along (λ j. updated_at n me flag aggressive (from + j)) len (λ t m b h. turn t m b h) len (trimming l s (record { weight = 0; made = made })) (omega arith) begun)
