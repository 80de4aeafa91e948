-- The row whose turn it is keeps something: what step 4 leaves, with this row done.
-- Assumes nothing.
use Rattle.std.proofs.Common.{◌≡◌, ℕ, suc, ◌+◌, ◌^◌, ◌<◌, min, Bool, true, false, cond, not, ◌&&◌, ◌||◌, eqb, ltb, ◌≢◌, List, [], ◌∷◌, ◌++◌, reverse, length, ℤ, sym, refl, ap, ◌∙◌, subst, inl, append-nil, arith, lt-ltb, eqb-true}
use mathlib.Core.List.{reverse-append}
use mathlib.Core.Path.{subst⁻¹}
use borrow.Author.Tests.{eqb-false}
use Rattle.plain.proofs.Entries.{entries_same}
use Rattle.plain.proofs.Logic.{clash, either, or_right}
use Rattle.plain.proofs.Members.{kept_was, member_reverse}
use Rattle.plain.specs.Lists.{cons_if, member, rotate}
use Rattle.plain.specs.Members.{In}
use Rattle.plain.specs.Turns.{upd}
use Rattle.cells.specs.Layout.{DEGREE, ELEN, HHEAD, HKEY, HNEXT, LEN, MERGES, NV, PE}
use Rattle.cells.specs.Links.{named, parent}
use Rattle.cells.specs.View.{rd}
use Rattle.packed.specs.Places.{Space}
use Rattle.drawn.proofs.Buckets.{chain_same}
use Rattle.drawn.specs.Buckets.{Chain}
use Rattle.trimming.specs.Model.{Trimming, key_of, updated}
use Rattle.trimming.proofs.Done.{Done, alike, gone, kept, keyed, listed, mass, size}
use Rattle.trimming.proofs.Due.{Due, alike_stays, apart, each, elen_now, gone_more, gone_same, held, lists_after, marks_more, mass_stays, own_place, safe_now, same_es, same_size, same_vs, space_more}
use Rattle.trimming.proofs.Freeing.{snoc_out, without}
use Rattle.trimming.proofs.Refinement.{refined_stays}
use Rattle.trimming.proofs.Relisting.{Stayed}
use Rattle.trimming.proofs.Sifting.{gone_e, kept_e, kept_v, numbers, sizes}

module _ (n me flag : ℕ) (aggressive : Bool) (X E U : ℕ → List ℕ) (l s : List ℤ) (cnt base lim made : ℕ) (hm : me < n) (new : List ℕ) (i : ℕ)
    (d : Due n me flag aggressive X E U s new i) (m : Trimming) (h : Done n me flag aggressive X E U l s cnt base lim made new m)
    (some : 0 < kept n me flag aggressive s E U i) where
  abbrev r : Trimming
  r = updated n me flag aggressive i m

  abbrev more : List ℕ
  more = new ++ (i ∷ [])

  -- the elements that go now
  abbrev now : List ℕ
  now = gone_e n flag aggressive m.mem (E i)

  abbrev k : ℕ
  k = keyed n me flag aggressive s E U i

  es : kept_e n flag aggressive m.mem (E i) ≡ kept_e n flag aggressive s (E i)
  es = same_es n me flag aggressive X E U l s cnt base lim made new i d m h

  vs : kept_v n m.mem (U i) ≡ kept_v n s (U i)
  vs = same_vs n me flag aggressive X E U l s cnt base lim made new i d m h

  sz : sizes n flag m.mem (kept_e n flag aggressive m.mem (E i)) (kept_v n m.mem (U i)) ≡ size n me flag aggressive s E U i
  sz = same_size n me flag aggressive X E U l s cnt base lim made new i d m h

  mass_is : mass n me flag aggressive s E U more ≡ mass n me flag aggressive s E U new
  mass_is = mass_stays n me flag aggressive s E U new i some

  refined : Space n (upd (without now (lists_after n me flag aggressive X E U s new)) i (listed n me flag aggressive s E U i)) r.lists r.mem cnt base lim
      × Stayed n me flag i k m.mem now (kept_e n flag aggressive m.mem (E i)) (kept_v n m.mem (U i)) r.mem
      × (r.merged ≡ m.merged)
      × (length r.lists ≡ length m.lists)
  refined =
      let q = refined_stays n me flag aggressive (lists_after n me flag aggressive X E U s new) m.lists m.mem cnt base lim h.space i (E i) (U i)
      (held n me flag aggressive X E U l s cnt base lim made new i d m h) (elen_now n me flag aggressive X E U l s cnt base lim made new i d m h) d.fine.inside hm d.differ
      (apart n me flag aggressive X E U l s cnt base lim made new i d m h) m.merged (own_place n me flag aggressive X E U l s cnt base lim made new i d m h)
      (rw (es, vs) some) (rw (es, vs) d.fine.light) in
      let y : listed n me flag aggressive s E U i ≡ me ∷ (rotate (kept_e n flag aggressive m.mem (E i)) ++ rotate (kept_v n m.mem (U i))) = rw (es, vs, lt-ltb 0 (kept n me flag aggressive s E U i) some) in
      let z : k ≡ key_of n (numbers (kept_e n flag aggressive m.mem (E i)) (kept_v n m.mem (U i))) = rw (es, vs) in
      rw (y, z) q

  stayed : Stayed n me flag i k m.mem now (kept_e n flag aggressive m.mem (E i)) (kept_v n m.mem (U i)) r.mem
  stayed = refined.1

  -- fields that the row writes of itself alone
  other : (f x : ℕ) → eqb 0 f ≡ false → eqb 1 f ≡ false → eqb 5 f ≡ false → eqb 9 f ≡ false → x ≢ i → rd n f r.mem x ≡ rd n f m.mem x
  other f x t0 t1 t5 t9 ne = stayed.apart f x t0 t1 t5 t9 (λ y. ne (sym y))

  was : (x : ℕ) → In x new → x ≢ i
  was x y e = clash (member i new) (ap (λ (z : ℕ). member z new) (sym e) ∙ y) d.fresh

  parents_are : (x : ℕ) → parent n r.mem x
      ≡ cond (member x (mass n me flag aggressive s E U more) || member x (gone n me flag aggressive s E U more)) (named n me) (parent n s x)
  parents_are x =
      either (parent n r.mem x ≡ cond (member x (mass n me flag aggressive s E U more) || member x (gone n me flag aggressive s E U more)) (named n me) (parent n s x)) (member x now)
      (λ y. rw (or_right (member x (mass n me flag aggressive s E U more)) (member x (gone n me flag aggressive s E U more)) (gone_more n me flag aggressive X E U l s cnt base lim made new i d m h x y))
      (stayed.taken x y).2)
      (λ y. stayed.kin x y ∙ h.parents x ∙ rw (mass_is, gone_same n me flag aggressive X E U l s cnt base lim made new i d m h x y))

  -- the buckets: the row is the first of its own, and in none before
  module _ (bare : (κ : ℕ) → κ < n → rd n HHEAD s κ ≡ n) (κ : ℕ) (b : κ < n) where
    abbrev rows : List ℕ
    rows = alike n me flag aggressive s E U κ new

    in_none : (v : ℕ) → In v (reverse rows) → v ≢ i
    in_none v y = was v (kept_was v (λ j. ltb 0 (kept n me flag aggressive s E U j) && eqb (keyed n me flag aggressive s E U j) κ) new (sym (member_reverse v rows) ∙ y))

    before : Chain n (rd n HNEXT r.mem) (rd n HHEAD m.mem κ) (reverse rows)
    before =
        chain_same n (rd n HNEXT m.mem) (rd n HNEXT r.mem) (reverse rows) (rd n HHEAD m.mem κ) (λ v y. other HNEXT v refl refl refl refl (in_none v y))
        (h.buckets bare κ b)

    bucket : (c : Bool) → eqb k κ ≡ c → Chain n (rd n HNEXT r.mem) (rd n HHEAD r.mem κ) (reverse (rows ++ cons_if c i []))
    bucket true y =
        let e : k ≡ κ = eqb-true k κ y in
        subst⁻¹ (Chain n (rd n HNEXT r.mem) (rd n HHEAD r.mem κ)) (reverse-append rows (i ∷ [])) (
          ap (rd n HHEAD r.mem) (sym e) ∙ stayed.head (omega arith),
          d.fine.inside,
          subst⁻¹ (λ (x : ℕ). Chain n (rd n HNEXT r.mem) x (reverse rows)) (stayed.next ∙ ap (rd n HHEAD m.mem) e) before,
        )
    bucket false y =
        rw (append-nil rows, stayed.heads κ (eqb-false k κ y)) before

  -- THE row that keeps something
  pub done_stays : Done n me flag aggressive X E U l s cnt base lim made more r
  done_stays =
      record {
        space = space_more n me flag aggressive X E U l s cnt base lim made new i d m h r.lists r.mem refined.0;
        long = refined.3 ∙ h.long;
        fields = λ f x t0 t1 t3 t4 t5 t9 t10 t11 t13 t14. stayed.fields f x t0 t1 t5 t3 t4 t9 t10 t11 ∙ h.fields f x t0 t1 t3 t4 t5 t9 t10 t11 t13 t14;
        place = stayed.others PE me refl (λ y. d.differ (sym y)) (safe_now n me flag aggressive X E U l s cnt base lim made new i d m h me (inl refl)) ∙ h.place;
        extent = stayed.others LEN me refl (λ y. d.differ (sym y)) (safe_now n me flag aggressive X E U l s cnt base lim made new i d m h me (inl refl)) ∙ h.extent;
        marks = marks_more n me flag aggressive X E U l s cnt base lim made new i d m h r.mem (λ x y. (stayed.taken x y).0) stayed.marks;
        elens = each i new (λ x. 0 < kept n me flag aggressive s E U x → rd n ELEN r.mem x ≡ suc (length (kept_e n flag aggressive s (E x))))
            (λ z. stayed.elen ∙ ap (λ (y : List ℕ). suc (length y)) es)
            (λ x ne y z. other ELEN x refl refl refl refl ne ∙ h.elens x y z);
        degrees = each i new
            (λ x. 0 < kept n me flag aggressive s E U x → size n me flag aggressive s E U x < 2 ^ 63 → rd n DEGREE r.mem x ≡ min (rd n DEGREE s x) (size n me flag aggressive s E U x))
            (λ z y. stayed.degree (rw sz y) ∙ rw (sz, h.degrees_out i d.fresh))
            (λ x ne y z u. other DEGREE x refl refl refl refl ne ∙ h.degrees x y z u);
        keys = each i new (λ x. 0 < kept n me flag aggressive s E U x → rd n HKEY r.mem x ≡ keyed n me flag aggressive s E U x)
            (λ z. stayed.key)
            (λ x ne y z. other HKEY x refl refl refl refl ne ∙ h.keys x y z);
        elens_out = λ x y. let o = snoc_out x i new y in stayed.apart ELEN x refl refl refl refl o.1 ∙ h.elens_out x o.0;
        degrees_out = λ x y. let o = snoc_out x i new y in stayed.apart DEGREE x refl refl refl refl o.1 ∙ h.degrees_out x o.0;
        degrees_mass = λ x y.
            let z : In x (mass n me flag aggressive s E U new) = subst (In x) mass_is y in
            other DEGREE x refl refl refl refl (was x (kept_was x (λ j. not (ltb 0 (kept n me flag aggressive s E U j))) new z)) ∙ h.degrees_mass x z;
        weights = λ x ne. stayed.fields NV x refl refl refl refl refl refl refl refl ∙ h.weights x ne ∙ rw mass_is;
        own = rw mass_is (λ z. stayed.fields NV me refl refl refl refl refl refl refl refl ∙ h.own z);
        merged = rw (mass_is, refined.2) h.merged;
        count = rw (mass_is, refined.2) h.count;
        log = rw mass_is
            (λ z. entries_same (rd n MERGES m.mem) (rd n MERGES r.mem) 0 0 (made + length (mass n me flag aggressive s E U new))
            (λ t y. stayed.fields MERGES (0 + t) refl refl refl refl refl refl refl refl)
            ∙ h.log z);
        parents = parents_are;
        buckets = λ bare κ b.
            subst⁻¹ (λ (y : List ℕ). Chain n (rd n HNEXT r.mem) (rd n HHEAD r.mem κ) (reverse y)) (alike_stays n me flag aggressive s E U new i κ some) (bucket bare κ b (eqb k κ) refl);
      }
