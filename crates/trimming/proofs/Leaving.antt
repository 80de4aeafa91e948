-- The row whose turn it is keeps nothing: what step 4 leaves, with this row done.
-- Assumes nothing.
use Rattle.std.proofs.Common.{◌≡◌, ℕ, suc, ◌+◌, ◌^◌, ◌<◌, ◌≤◌, min, Bool, false, cond, ◌||◌, eqb, ◌≢◌, ◌⊎◌, List, [], ◌∷◌, ◌++◌, reverse, length, ℤ, sym, refl, ap, ◌∙◌, subst, inl, inr, append_assoc, arith, le-ltb}
use mathlib.Core.Path.{subst⁻¹}
use Rattle.plain.proofs.Entries.{entries_same, entries_snoc}
use Rattle.plain.proofs.Logic.{either, or_right}
use Rattle.plain.proofs.Members.{member_last, member_snoc}
use Rattle.plain.proofs.Positions.{length_snoc}
use Rattle.plain.proofs.Sums.{total_append, total_one}
use Rattle.plain.specs.Lists.{member, total}
use Rattle.plain.specs.Members.{In}
use Rattle.plain.specs.Turns.{entries, upd}
use Rattle.cells.proofs.Slices.{plus_sum, same?}
use Rattle.cells.specs.Layout.{DEGREE, ELEN, HHEAD, HKEY, HNEXT, LEN, MERGES, NV, PE}
use Rattle.cells.specs.Links.{named, parent}
use Rattle.cells.specs.View.{rd}
use Rattle.packed.specs.Places.{Space}
use Rattle.drawn.proofs.Buckets.{chain_same}
use Rattle.drawn.specs.Buckets.{Chain}
use Rattle.trimming.specs.Model.{Trimming, massed, updated}
use Rattle.trimming.proofs.Done.{Done, alike, gone, kept, keyed, listed, mass, size}
use Rattle.trimming.proofs.Due.{Due, alike_goes, apart, each, elen_now, gone_more, gone_same, held, lists_after, marks_more, mass_goes, own_place, safe_now, same_es, same_vs, same_weight, space_more}
use Rattle.trimming.proofs.Freeing.{snoc_out, without}
use Rattle.trimming.proofs.Massing.{Massed}
use Rattle.trimming.proofs.Refinement.{refined_goes}
use Rattle.trimming.proofs.Sifting.{gone_e, kept_e}

module _ (n me flag : ℕ) (aggressive : Bool) (X E U : ℕ → List ℕ) (l s : List ℤ) (cnt base lim made : ℕ) (hm : me < n) (small : n < 2 ^ 63)
    (new : List ℕ) (i : ℕ) (d : Due n me flag aggressive X E U s new i) (m : Trimming) (h : Done n me flag aggressive X E U l s cnt base lim made new m)
    (nil : kept n me flag aggressive s E U i ≤ 0) where
  abbrev r : Trimming
  r = updated n me flag aggressive i m

  abbrev more : List ℕ
  more = new ++ (i ∷ [])

  -- the elements that go now
  abbrev now : List ℕ
  now = gone_e n flag aggressive m.mem (E i)

  -- the rows that went before
  abbrev went : List ℕ
  went = mass n me flag aggressive s E U new

  mass_is : mass n me flag aggressive s E U more ≡ went ++ (i ∷ [])
  mass_is = mass_goes n me flag aggressive s E U new i nil

  refined : Space n (upd (without now (lists_after n me flag aggressive X E U s new)) i (listed n me flag aggressive s E U i)) r.lists r.mem cnt base lim
      × Massed n me i m.merged.made m.mem now r.mem
      × (r.merged ≡ massed n i m.mem m.merged)
      × (length r.lists ≡ length m.lists)
  refined =
      let es = same_es n me flag aggressive X E U l s cnt base lim made new i d m h in
      let vs = same_vs n me flag aggressive X E U l s cnt base lim made new i d m h in
      let y : listed n me flag aggressive s E U i ≡ [] = rw (le-ltb 0 (kept n me flag aggressive s E U i) nil) in
      rw y
      (refined_goes n me flag aggressive (lists_after n me flag aggressive X E U s new) m.lists m.mem cnt base lim h.space i (E i) (U i)
      (held n me flag aggressive X E U l s cnt base lim made new i d m h) (elen_now n me flag aggressive X E U l s cnt base lim made new i d m h) d.fine.inside hm d.differ
      (apart n me flag aggressive X E U l s cnt base lim made new i d m h) m.merged (own_place n me flag aggressive X E U l s cnt base lim made new i d m h)
      (rw (es, vs) nil))

  left : Massed n me i m.merged.made m.mem now r.mem
  left = refined.1

  -- fields that it does not write
  same : (f x : ℕ) → eqb 0 f ≡ false → eqb 1 f ≡ false → eqb 5 f ≡ false → eqb 13 f ≡ false → eqb 14 f ≡ false → rd n f r.mem x ≡ rd n f m.mem x
  same = left.fields

  -- ---- weights and counts

  sum_is : total (rd n NV s) (mass n me flag aggressive s E U more) ≡ total (rd n NV s) went + rd n NV s i
  sum_is = ap (total (rd n NV s)) mass_is ∙ total_append (rd n NV s) went (i ∷ []) ∙ ap (λ (y : ℕ). total (rd n NV s) went + y) (total_one (rd n NV s) i)

  length_is : length (mass n me flag aggressive s E U more) ≡ suc (length went)
  length_is = ap length mass_is ∙ length_snoc went i

  weight_i : rd n NV m.mem i ≡ rd n NV s i
  weight_i = same_weight n me flag aggressive X E U l s cnt base lim made new i d m h

  own_is : rd n NV s me + total (rd n NV s) (mass n me flag aggressive s E U more) < 2 ^ 63
      → rd n NV r.mem me ≡ rd n NV s me + total (rd n NV s) (mass n me flag aggressive s E U more)
  own_is z =
      let o : rd n NV m.mem me ≡ rd n NV s me + total (rd n NV s) went = h.own (omega (arith, sum_is)) in
      left.weight (omega (arith, o, weight_i, sum_is)) ∙ omega (arith, o, weight_i, sum_is)

  merged_is : total (rd n NV s) (mass n me flag aggressive s E U more) < 2 ^ 63 → r.merged.weight ≡ total (rd n NV s) (mass n me flag aggressive s E U more)
  unfolding massed
  merged_is z =
      let o : m.merged.weight ≡ total (rd n NV s) went = h.merged (omega (arith, sum_is)) in
      rw refined.2 (plus_sum m.merged.weight (rd n NV m.mem i) (omega (arith, o, weight_i, sum_is)) ∙ omega (arith, o, weight_i, sum_is))

  count_is : made + length (mass n me flag aggressive s E U more) < 2 ^ 63 → r.merged.made ≡ made + length (mass n me flag aggressive s E U more)
  unfolding massed
  count_is z =
      let o : m.merged.made ≡ made + length went = h.count (omega (arith, length_is)) in
      rw refined.2 (plus_sum m.merged.made 1 (omega (arith, o, length_is)) ∙ omega (arith, o, length_is))

  -- ---- the log

  log_is : made + length (mass n me flag aggressive s E U more) ≤ n
      → entries (rd n MERGES r.mem) 0 (made + length (mass n me flag aggressive s E U more)) ≡ entries (rd n MERGES s) 0 made ++ mass n me flag aggressive s E U more
  log_is z =
      let o : m.merged.made ≡ made + length went = h.count (omega (arith, length_is)) in
      let e : made + length (mass n me flag aggressive s E U more) ≡ suc (made + length went) = omega (arith, length_is) in
      let old : entries (rd n MERGES r.mem) 0 (made + length went) ≡ entries (rd n MERGES s) 0 made ++ went =
      entries_same (rd n MERGES m.mem) (rd n MERGES r.mem) 0 0 (made + length went) (λ t y. left.before (0 + t) (λ u. absurd (omega (arith, o))))
      ∙ h.log (omega (arith, length_is)) in
      let here : rd n MERGES r.mem (0 + (made + length went)) ≡ i = ap (rd n MERGES r.mem) (omega (arith, o)) ∙ left.log (omega (arith, o, length_is)) in
      rw (e, mass_is)
      (entries_snoc (rd n MERGES r.mem) 0 (made + length went) ∙ rw (old, here) (append_assoc (entries (rd n MERGES s) 0 made) went (i ∷ [])))

  -- ---- who hangs under the pivot, and who has no weight

  parents_are : (x : ℕ) → (x ≡ i) ⊎ (x ≢ i) → parent n r.mem x
      ≡ cond (member x (mass n me flag aggressive s E U more) || member x (gone n me flag aggressive s E U more)) (named n me) (parent n s x)
  parents_are x (inl e) =
      subst⁻¹ (λ (y : ℕ). parent n r.mem y ≡ cond (member y (mass n me flag aggressive s E U more) || member y (gone n me flag aggressive s E U more)) (named n me) (parent n s y)) e
      (rw (ap (member i) mass_is ∙ member_last i went) left.link)
  parents_are x (inr ne) =
      either (parent n r.mem x ≡ cond (member x (mass n me flag aggressive s E U more) || member x (gone n me flag aggressive s E U more)) (named n me) (parent n s x)) (member x now)
      (λ y. rw (or_right (member x (mass n me flag aggressive s E U more)) (member x (gone n me flag aggressive s E U more)) (gone_more n me flag aggressive X E U l s cnt base lim made new i d m h x y))
      (left.taken x y).2)
      (λ y. left.kin x (λ z. ne (sym z)) y ∙ h.parents x
      ∙ rw (ap (member x) mass_is ∙ member_snoc x i went ne, gone_same n me flag aggressive X E U l s cnt base lim made new i d m h x y))

  weights_are : (x : ℕ) → me ≢ x → (x ≡ i) ⊎ (x ≢ i) → rd n NV r.mem x ≡ cond (member x (mass n me flag aggressive s E U more)) 0 (rd n NV s x)
  weights_are x z (inl e) =
      subst⁻¹ (λ (y : ℕ). rd n NV r.mem y ≡ cond (member y (mass n me flag aggressive s E U more)) 0 (rd n NV s y)) e
      (rw (ap (member i) mass_is ∙ member_last i went) left.none)
  weights_are x z (inr ne) = left.weights x z (λ y. ne (sym y)) ∙ h.weights x z ∙ rw (ap (member x) mass_is ∙ member_snoc x i went ne)

  -- THE row that keeps nothing
  pub done_goes : Done n me flag aggressive X E U l s cnt base lim made more r
  done_goes =
      record {
        space = space_more n me flag aggressive X E U l s cnt base lim made new i d m h r.lists r.mem refined.0;
        long = refined.3 ∙ h.long;
        fields = λ f x t0 t1 t3 t4 t5 t9 t10 t11 t13 t14. same f x t0 t1 t5 t13 t14 ∙ h.fields f x t0 t1 t3 t4 t5 t9 t10 t11 t13 t14;
        place = left.others PE me refl refl (λ y. d.differ (sym y)) (safe_now n me flag aggressive X E U l s cnt base lim made new i d m h me (inl refl)) ∙ h.place;
        extent = left.others LEN me refl refl (λ y. d.differ (sym y)) (safe_now n me flag aggressive X E U l s cnt base lim made new i d m h me (inl refl)) ∙ h.extent;
        marks = marks_more n me flag aggressive X E U l s cnt base lim made new i d m h r.mem (λ x y. (left.taken x y).0) left.marks;
        elens = each i new (λ x. 0 < kept n me flag aggressive s E U x → rd n ELEN r.mem x ≡ suc (length (kept_e n flag aggressive s (E x))))
            (λ z. absurd (omega arith))
            (λ x ne y z. same ELEN x refl refl refl refl refl ∙ h.elens x y z);
        degrees = each i new
            (λ x. 0 < kept n me flag aggressive s E U x → size n me flag aggressive s E U x < 2 ^ 63 → rd n DEGREE r.mem x ≡ min (rd n DEGREE s x) (size n me flag aggressive s E U x))
            (λ z. absurd (omega arith))
            (λ x ne y z u. same DEGREE x refl refl refl refl refl ∙ h.degrees x y z u);
        keys = each i new (λ x. 0 < kept n me flag aggressive s E U x → rd n HKEY r.mem x ≡ keyed n me flag aggressive s E U x)
            (λ z. absurd (omega arith))
            (λ x ne y z. same HKEY x refl refl refl refl refl ∙ h.keys x y z);
        elens_out = λ x y. same ELEN x refl refl refl refl refl ∙ h.elens_out x (snoc_out x i new y).0;
        degrees_out = λ x y. same DEGREE x refl refl refl refl refl ∙ h.degrees_out x (snoc_out x i new y).0;
        degrees_mass = λ x y. same DEGREE x refl refl refl refl refl
            ∙ each i went (λ z. rd n DEGREE m.mem z ≡ rd n DEGREE s z) (h.degrees_out i d.fresh) (λ z ne u. h.degrees_mass z u) x (subst (In x) mass_is y);
        weights = λ x z. weights_are x z (same? x i);
        own = own_is;
        merged = merged_is;
        count = count_is;
        log = log_is;
        parents = λ x. parents_are x (same? x i);
        buckets = λ bare κ b.
            subst⁻¹ (λ (y : List ℕ). Chain n (rd n HNEXT r.mem) (rd n HHEAD r.mem κ) (reverse y)) (alike_goes n me flag aggressive s E U new i κ nil)
            (subst⁻¹ (λ (y : ℕ). Chain n (rd n HNEXT r.mem) y (reverse (alike n me flag aggressive s E U κ new))) (same HHEAD κ refl refl refl refl refl)
            (chain_same n (rd n HNEXT m.mem) (rd n HNEXT r.mem) (reverse (alike n me flag aggressive s E U κ new)) (rd n HHEAD m.mem κ) (λ v y. same HNEXT v refl refl refl refl refl)
            (h.buckets bare κ b)));
      }
