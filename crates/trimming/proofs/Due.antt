-- The row whose turn it is, on plain data: it keeps what it would have kept before the first row, and who has gone after it is known.
-- Assumes nothing.
use Rattle.std.proofs.Common.{◌≡◌, ℕ, ◌+◌, ◌-◌, ◌<◌, ◌≤◌, Bool, true, false, cond, not, ◌&&◌, ◌||◌, eqb, ltb, ◌≢◌, ◌⊎◌, List, [], ◌∷◌, ◌++◌, length, ℤ, sym, refl, ap, ◌∙◌, inl, inr, ⊎_elim, append-nil, le-ltb, lt-ltb}
use mathlib.Core.List.{flat_map}
use mathlib.Core.Path.{subst⁻¹}
use Rattle.plain.proofs.Entries.{upd_other, upd_same}
use Rattle.plain.proofs.Folds.{flat_map_append}
use Rattle.plain.proofs.Logic.{clash, either}
use Rattle.plain.proofs.Members.{keep_same, kept_passes, kept_was, member_append, member_flat_map, member_keep, member_last, member_left, member_snoc, not_in, not_kept}
use Rattle.plain.proofs.Sums.{total_members}
use Rattle.plain.specs.Lists.{cons_if, member}
use Rattle.plain.specs.Members.{In}
use Rattle.plain.specs.Turns.{upd}
use Rattle.cells.proofs.Slices.{same?}
use Rattle.cells.specs.Layout.{ELEN, NV, W, WANT}
use Rattle.cells.specs.View.{rd}
use Rattle.packed.proofs.Spaces.{space_renamed}
use Rattle.packed.specs.Places.{Space}
use Rattle.trimming.specs.Model.{Trimming}
use Rattle.trimming.proofs.Done.{Done, alike, gone, kept, keyed, listed, mass, size}
use Rattle.trimming.proofs.Dropping.{goes, stays}
use Rattle.trimming.proofs.Filtering.{keep_snoc}
use Rattle.trimming.proofs.Freeing.{without}
use Rattle.trimming.proofs.Rowwise.{Fine, one_way, stays_cleared}
use Rattle.trimming.proofs.Sifting.{gone_e, kept_e, kept_v, sizes}

-- row i comes behind the rows new: it is none of them, and no row of the element, nor the pivot, is an element of a row
pub record Due (n me flag : ℕ) (aggressive : Bool) (X E U : ℕ → List ℕ) (s : List ℤ) (new : List ℕ) (i : ℕ) : Type 0 where
  pub fine : Fine n me flag aggressive X s i (E i) (U i)
  pub fresh : member i new ≡ false
  pub differ : me ≢ i
  pub far : (j x : ℕ) → In j (new ++ (i ∷ [])) → (x ≡ me) ⊎ In x (new ++ (i ∷ [])) → member x (E j) ≡ false

-- the lists when the rows js are done
abbrev pub lists_after : ℕ → ℕ → ℕ → Bool → (ℕ → List ℕ) → (ℕ → List ℕ) → (ℕ → List ℕ) → List ℤ → List ℕ → ℕ → List ℕ
lists_after n me flag aggressive X E U s js j = cond (member j js) (listed n me flag aggressive s E U j) (cond (member j (gone n me flag aggressive s E U js)) [] (X j))

-- what holds of row i and of the rows before it
pub each : (i : ℕ) (new : List ℕ) (P : ℕ → Type 0) → P i → ((x : ℕ) → x ≢ i → In x new → P x) → (x : ℕ) → In x (new ++ (i ∷ [])) → P x
each i new P a b x y = ⊎_elim (λ e. subst⁻¹ P e a) (λ ne. b x ne (sym (member_snoc x i new ne) ∙ y)) (same? x i)

-- ---- the rows that keep nothing, and those of one key, with row i

module _ (n me flag : ℕ) (aggressive : Bool) (s : List ℤ) (E U : ℕ → List ℕ) (new : List ℕ) (i : ℕ) where
  abbrev Kept : ℕ
  Kept = kept n me flag aggressive s E U i

  pub mass_stays : 0 < Kept → mass n me flag aggressive s E U (new ++ (i ∷ [])) ≡ mass n me flag aggressive s E U new
  mass_stays z = keep_snoc (λ j. not (ltb 0 (kept n me flag aggressive s E U j))) new i ∙ rw (lt-ltb 0 Kept z) (append-nil (mass n me flag aggressive s E U new))

  pub mass_goes : Kept ≤ 0 → mass n me flag aggressive s E U (new ++ (i ∷ [])) ≡ mass n me flag aggressive s E U new ++ (i ∷ [])
  mass_goes z = keep_snoc (λ j. not (ltb 0 (kept n me flag aggressive s E U j))) new i ∙ rw (le-ltb 0 Kept z)

  pub alike_stays : (k : ℕ) → 0 < Kept
      → alike n me flag aggressive s E U k (new ++ (i ∷ [])) ≡ alike n me flag aggressive s E U k new ++ cons_if (eqb (keyed n me flag aggressive s E U i) k) i []
  alike_stays k z = keep_snoc (λ j. ltb 0 (kept n me flag aggressive s E U j) && eqb (keyed n me flag aggressive s E U j) k) new i ∙ rw (lt-ltb 0 Kept z)

  pub alike_goes : (k : ℕ) → Kept ≤ 0 → alike n me flag aggressive s E U k (new ++ (i ∷ [])) ≡ alike n me flag aggressive s E U k new
  alike_goes k z =
      keep_snoc (λ j. ltb 0 (kept n me flag aggressive s E U j) && eqb (keyed n me flag aggressive s E U j) k) new i
      ∙ rw (le-ltb 0 Kept z) (append-nil (alike n me flag aggressive s E U k new))

-- ---- what the row finds

module _ (n me flag : ℕ) (aggressive : Bool) (X E U : ℕ → List ℕ) (l s : List ℤ) (cnt base lim made : ℕ) (new : List ℕ) (i : ℕ)
    (d : Due n me flag aggressive X E U s new i) (m : Trimming) (h : Done n me flag aggressive X E U l s cnt base lim made new m) where
  abbrev more : List ℕ
  more = new ++ (i ∷ [])

  abbrev Gone : List ℕ → List ℕ
  Gone js = gone n me flag aggressive s E U js

  -- the elements that go now
  abbrev now : List ℕ
  now = gone_e n flag aggressive m.mem (E i)

  abbrev Xof : List ℕ → ℕ → List ℕ
  Xof js = lists_after n me flag aggressive X E U s js

  -- who is gone was to go
  gone_goes : (x : ℕ) → member x (Gone new) ≡ true → goes aggressive flag (rd n W s x) ≡ true
  gone_goes x k =
      let r = member_flat_map x (λ j. gone_e n flag aggressive s (E j)) new k in
      kept_passes x (λ e. goes aggressive flag (rd n W s e)) (E r.0) r.2

  -- no row, nor the pivot, is taken up
  pub safe : (x : ℕ) → (x ≡ me) ⊎ In x more → member x (Gone new) ≡ false
  safe x o =
      not_in x (Gone new)
      (λ k. let r = member_flat_map x (λ j. gone_e n flag aggressive s (E j)) new k in
      clash (member x (E r.0)) (kept_was x (λ e. goes aggressive flag (rd n W s e)) (E r.0) r.2) (d.far r.0 x (member_left r.0 new (i ∷ []) r.1) o))

  pub safe_now : (x : ℕ) → (x ≡ me) ⊎ In x more → member x now ≡ false
  safe_now x o = not_kept x (λ e. goes aggressive flag (rd n W m.mem e)) (E i) (d.far i x (member_last i new) o)

  pub apart : member i (E i) ≡ false
  apart = d.far i i (member_last i new) (inr (member_last i new))

  pub held : Xof new i ≡ E i ++ U i
  held = rw (d.fresh, safe i (inr (member_last i new))) d.fine.list

  pub elen_now : rd n ELEN m.mem i ≡ length (E i)
  elen_now = h.elens_out i d.fresh ∙ d.fine.elen

  pub same_es : kept_e n flag aggressive m.mem (E i) ≡ kept_e n flag aggressive s (E i)
  same_es =
      keep_same (λ e. stays aggressive flag (rd n W m.mem e)) (λ e. stays aggressive flag (rd n W s e)) (E i)
      (λ e k. ap (stays aggressive flag) (h.marks e) ∙ stays_cleared aggressive flag (rd n W s e) (member e (Gone new)) (λ y. gone_goes e y))

  wants : (v : ℕ) → rd n WANT m.mem v ≡ rd n WANT s v
  wants v = h.fields WANT v refl refl refl refl refl refl refl refl refl refl

  pub same_vs : kept_v n m.mem (U i) ≡ kept_v n s (U i)
  same_vs = keep_same (λ v. ltb 0 (rd n WANT m.mem v)) (λ v. ltb 0 (rd n WANT s v)) (U i) (λ v k. ap (ltb 0) (wants v))

  -- the sizes and weights of what is kept are as before the first row
  same_mark : (e : ℕ) → member e (kept_e n flag aggressive s (E i)) ≡ true → rd n W m.mem e ≡ rd n W s e
  same_mark e k =
      let y : stays aggressive flag (rd n W s e) ≡ true = kept_passes e (λ x. stays aggressive flag (rd n W s x)) (E i) k in
      let z : member e (Gone new) ≡ false = not_in e (Gone new) (λ u. one_way aggressive flag (rd n W s e) y (gone_goes e u)) in
      h.marks e ∙ rw z

  pub same_size : sizes n flag m.mem (kept_e n flag aggressive m.mem (E i)) (kept_v n m.mem (U i)) ≡ size n me flag aggressive s E U i
  same_size =
      rw (
        same_es,
        same_vs,
        total_members (λ e. rd n W m.mem e - flag) (λ e. rd n W s e - flag) (kept_e n flag aggressive s (E i)) (λ e k. ap (λ (y : ℕ). y - flag) (same_mark e k)),
        total_members (rd n WANT m.mem) (rd n WANT s) (kept_v n s (U i)) (λ v k. wants v),
      )

  pub own_place : length (kept_e n flag aggressive m.mem (E i)) + length (kept_v n m.mem (U i)) < length (E i) + length (U i)
  own_place = rw (same_es, same_vs) d.fine.own

  -- its weight is its own
  pub same_weight : rd n NV m.mem i ≡ rd n NV s i
  same_weight = h.weights i d.differ ∙ rw (not_kept i (λ j. not (ltb 0 (kept n me flag aggressive s E U j))) new d.fresh)

  -- ---- who is gone after it

  all_gone : (x : ℕ) → member x (Gone more) ≡ member x (Gone new) || member x (gone_e n flag aggressive s (E i))
  unfolding flat_map
  all_gone x =
      ap (member x) (flat_map_append (λ j. gone_e n flag aggressive s (E j)) new (i ∷ []))
      ∙ member_append x (Gone new) (gone_e n flag aggressive s (E i) ++ [])
      ∙ ap (λ (y : List ℕ). member x (Gone new) || member x y) (append-nil (gone_e n flag aggressive s (E i)))

  -- who goes now, of those that are there
  goes_now : (x : ℕ) → member x (Gone new) ≡ false → member x now ≡ member x (gone_e n flag aggressive s (E i))
  goes_now x k =
      let w : rd n W m.mem x ≡ rd n W s x = h.marks x ∙ rw k in
      member_keep x (λ e. goes aggressive flag (rd n W m.mem e)) (E i) ∙ rw w (sym (member_keep x (λ e. goes aggressive flag (rd n W s e)) (E i)))

  pub gone_more : (x : ℕ) → member x now ≡ true → member x (Gone more) ≡ true
  gone_more x y =
      all_gone x
      ∙ either (member x (Gone new) || member x (gone_e n flag aggressive s (E i)) ≡ true) (member x (Gone new)) (λ z. rw z) (λ z. rw (z, sym (goes_now x z) ∙ y))

  pub gone_same : (x : ℕ) → member x now ≡ false → member x (Gone more) ≡ member x (Gone new)
  gone_same x y =
      all_gone x
      ∙ either (member x (Gone new) || member x (gone_e n flag aggressive s (E i)) ≡ member x (Gone new)) (member x (Gone new)) (λ z. rw z) (λ z. rw (z, sym (goes_now x z) ∙ y))

  -- ---- the lists and the marks after it

  lists_are : (j : ℕ) → (j ≡ i) ⊎ (j ≢ i) → upd (without now (Xof new)) i (listed n me flag aggressive s E U i) j ≡ Xof more j
  lists_are j (inl e) =
      subst⁻¹ (λ (y : ℕ). upd (without now (Xof new)) i (listed n me flag aggressive s E U i) y ≡ Xof more y) e
      (upd_same (without now (Xof new)) i (listed n me flag aggressive s E U i) ∙ rw (member_last i new))
  lists_are j (inr ne) =
      upd_other (without now (Xof new)) i (listed n me flag aggressive s E U i) j ne
      ∙ rw (member_snoc j i new ne)
      (either (without now (Xof new) j ≡ cond (member j new) (listed n me flag aggressive s E U j) (cond (member j (Gone more)) [] (X j))) (member j now)
      (λ y. let z : member j new ≡ false = not_in j new (λ u. clash (member j now) y (safe_now j (inr (member_left j new (i ∷ []) u)))) in rw (y, z, gone_more j y))
      (λ y. rw (y, gone_same j y)))

  pub space_more : (l' s' : List ℤ) → Space n (upd (without now (Xof new)) i (listed n me flag aggressive s E U i)) l' s' cnt base lim → Space n (Xof more) l' s' cnt base lim
  space_more l' s' g = space_renamed n (upd (without now (Xof new)) i (listed n me flag aggressive s E U i)) l' s' cnt base lim g (Xof more) (λ j. lists_are j (same? j i))

  pub marks_more : (s' : List ℤ) → ((x : ℕ) → member x now ≡ true → rd n W s' x ≡ 0) → ((x : ℕ) → member x now ≡ false → rd n W s' x ≡ rd n W m.mem x)
      → (x : ℕ) → rd n W s' x ≡ cond (member x (Gone more)) 0 (rd n W s x)
  marks_more s' a b x =
      either (rd n W s' x ≡ cond (member x (Gone more)) 0 (rd n W s x)) (member x now)
      (λ y. a x y ∙ rw (gone_more x y))
      (λ y. b x y ∙ h.marks x ∙ rw (gone_same x y))
