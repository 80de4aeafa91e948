-- One row of the new element, on plain data: from the lists X as held, with X i = E ++ U, to the lists with what the row keeps.
-- Assumes nothing.
use Rattle.std.proofs.Common.{◌≡◌, ℕ, ◌+◌, ◌^◌, ◌<◌, ◌≤◌, Bool, true, false, ◌≢◌, List, [], ◌∷◌, ◌++◌, length, ℤ, refl, ap, ◌∙◌, subst, arith, length-append, le-ltb, lt-ltb, le-leb}
use Rattle.plain.proofs.Members.{not_kept}
use Rattle.plain.specs.Lists.{member, rotate}
use Rattle.plain.specs.Turns.{upd}
use Rattle.cells.specs.Layout.{ELEN, LEN, NV, PE, W}
use Rattle.cells.specs.View.{rd}
use Rattle.packed.proofs.Frame.{ends, len_of}
use Rattle.packed.specs.Places.{Space, places}
use Rattle.trimming.specs.declared.Merged.{Merged}
use Rattle.trimming.specs.Model.{Keeping, Trimming, kept_all, key_of, massed, present, relisted, renewed, settled, trimming, updated}
use Rattle.trimming.proofs.Dropping.{goes}
use Rattle.trimming.proofs.Freeing.{without}
use Rattle.trimming.proofs.Massing.{Massed, row_goes, row_gone}
use Rattle.trimming.proofs.Relisting.{Stayed, long_is, row_stayed, row_stays}
use Rattle.trimming.proofs.Sifting.{Row, gone_e, kept_e, kept_v, numbers, row_kept}

module _ (n me flag : ℕ) (aggressive : Bool) (X : ℕ → List ℕ) (l s : List ℤ) (cnt base lim : ℕ) (g : Space n X l s cnt base lim)
    (i : ℕ) (E U : List ℕ) (list : X i ≡ E ++ U) (elen : rd n ELEN s i ≡ length E) (hi : i < n) (hm : me < n) (differ : me ≢ i) (apart : member i E ≡ false) (t : Merged) where
  abbrev es : List ℕ
  es = kept_e n flag aggressive s E

  abbrev vs : List ℕ
  vs = kept_v n s U

  abbrev gone : List ℕ
  gone = gone_e n flag aggressive s E

  abbrev m : Keeping
  m = kept_all n me flag aggressive (rd n PE s i) (rd n ELEN s i) (rd n LEN s i) l s

  abbrev r : Trimming
  r = updated n me flag aggressive i (trimming l s t)

  -- F5: there is room in its own place
  module _ (own : length es + length vs < length E + length U) where
    row : Row n me flag X l s cnt base lim i gone es vs m
    row = row_kept n me flag aggressive X l s cnt base lim g i E U list elen (omega arith)

    whole : rd n LEN s i ≡ length E + length U
    whole = len_of l (places n s) lim X g.lists i ∙ ap length list ∙ length-append E U

    place : rd n PE s i + rd n LEN s i ≤ length l
    place = omega (arith, whole, ends l (places n s) lim X g.lists i (omega (arith, whole)), g.lists.fits)

    -- so the code does not pass it over
    there : present n i l s ≡ true
    there = rw (le-leb (rd n ELEN s i) (rd n LEN s i) (omega (arith, whole, elen)), le-leb (rd n PE s i + rd n LEN s i) (length l) place)

    away : member i gone ≡ false
    away = not_kept i (λ e. goes aggressive flag (rd n W s e)) E apart

    -- THE row that keeps something: its list, its fields, and nothing is merged
    pub refined_stays : 0 < length es + length vs → numbers es vs < 2 ^ 63
        → Space n (upd (without gone X) i (me ∷ (rotate es ++ rotate vs))) r.lists r.mem cnt base lim
        × Stayed n me flag i (key_of n (numbers es vs)) s gone es vs r.mem
        × (r.merged ≡ t)
        × (length r.lists ≡ length l)
    unfolding updated settled renewed
    refined_stays some light =
        let own' : length es + length vs < rd n LEN s i = omega (arith, whole) in
        let here : rd n PE s i < m.kept.end = omega (arith, row.end) in
        let behind : m.kept.end < length m.lists = omega (arith, row.end, row.long, own', place) in
        rw (there, lt-ltb (rd n PE s i) m.kept.end here, lt-ltb m.kept.end (length m.lists) behind) (
          row_stays n me flag X l s cnt base lim i gone es vs m row hi away place own' some,
          subst (λ (y : ℕ). Stayed n me flag i (key_of n y) s gone es vs (relisted n i (rd n PE s i) m.kept m.mem)) (row.sum light) (row_stayed n me flag X l s cnt base lim i gone es vs m row hi away place own' some),
          refl,
          long_is n me flag X l s cnt base lim i gone es vs m row hi away place own' some,
        )

    -- THE row that keeps nothing: it is a child of the pivot, which has its weight
    pub refined_goes : length es + length vs ≤ 0
        → Space n (upd (without gone X) i []) r.lists r.mem cnt base lim × Massed n me i t.made s gone r.mem × (r.merged ≡ massed n i s t) × (length r.lists ≡ length l)
    unfolding updated settled massed
    refined_goes none =
        rw (there, le-ltb (rd n PE s i) m.kept.end (omega (arith, row.end))) (
          row_goes n me flag X l s cnt base lim i gone es vs m row hi hm differ away t.made,
          row_gone n me flag X l s cnt base lim i gone es vs m row hi hm differ away t.made,
          rw (row.freed.fields NV i refl refl refl),
          row.long,
        )
