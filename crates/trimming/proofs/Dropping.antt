-- The elements of a row: those that are kept move to the left, those of external size 0 are taken up.
-- Assumes nothing.
use Rattle.std.proofs.Common.{◌≡◌, ℕ, suc, ◌+◌, ◌-◌, ◌<◌, ◌≤◌, Bool, true, false, not, ◌&&◌, ltb, List, length, ℤ, sym, refl, subst, inr, ⊎_elim, arith, le-ltb, lt-ltb}
use Rattle.plain.proofs.Entries.{entries_none}
use Rattle.plain.proofs.Logic.{and_right, either}
use Rattle.plain.proofs.Members.{kept_passes}
use Rattle.plain.proofs.Turns.{times_keeps}
use Rattle.plain.specs.Lists.{keep, member, total}
use Rattle.plain.specs.Turns.{entries}
use Rattle.cells.proofs.Fields.{rd_null}
use Rattle.cells.proofs.Slices.{split}
use Rattle.cells.specs.Layout.{W}
use Rattle.cells.specs.View.{at, rd, wr}
use Rattle.packed.specs.Tray.{absorbed}
use Rattle.packed.specs.Places.{Space}
use Rattle.trimming.specs.Model.{Keeping, counted, keeping, kept_element, kept_elements, kept_entry, nothing, swallows}
use Rattle.trimming.proofs.Filtering.{Left, keep_no_more, keep_one_more, left_more, left_same}
use Rattle.trimming.proofs.Freeing.{Freed, freed_again, freed_more, freed_none}
use Rattle.trimming.proofs.Steps.{element_no, element_yes, live_no, live_yes}

-- an element of mark w stays, or goes
abbrev pub stays : Bool → ℕ → ℕ → Bool
stays aggressive flag w = ltb 0 w && not (swallows aggressive flag w)

abbrev pub goes : Bool → ℕ → ℕ → Bool
goes aggressive flag w = ltb 0 w && swallows aggressive flag w

module _ (n me flag : ℕ) (aggressive : Bool) (X : ℕ → List ℕ) (l s : List ℤ) (cnt base lim : ℕ) (g : Space n X l s cnt base lim) (p len : ℕ)
    (fits : p + len ≤ length l) where
  abbrev st : ℕ → Bool
  st e = stays aggressive flag (rd n W s e)

  abbrev go : ℕ → Bool
  go e = goes aggressive flag (rd n W s e)

  abbrev D : ℕ → ℕ
  D e = rd n W s e - flag

  pub record Sifted (t : ℕ) (m : Keeping) : Type 0 where
    pub left : Left D l p p 0 0 t (keep st (entries (at l) p t)) m
    pub freed : Freed n me X l s cnt base lim (keep go (entries (at l) p t)) m.mem

  abbrev step : ℕ → Keeping → Keeping
  step t = kept_element n me flag aggressive (p + t)

  module _ (t : ℕ) (m : Keeping) (b : t < len) (h : Sifted t m) where
    abbrev x : ℕ
    x = at m.lists (p + t)

    abbrev es : List ℕ
    es = entries (at l) p t

    same : x ≡ at l (p + t)
    same = h.left.rest (p + t) (inr (omega arith))

    -- neither kept nor taken up now
    pass : rd n W m.mem x ≤ 0 → st x ≡ false → Freed n me X l s cnt base lim (keep go (entries (at l) p (suc t))) m.mem → Sifted (suc t) (step t m)
    pass z off f =
        subst (Sifted (suc t)) (element_no n me flag aggressive (p + t) m.lists m.mem m.kept x (rd n W m.mem x) refl refl z)
        record {
          left = rw (keep_no_more st (at l) p t x same off) (left_same D l p p 0 0 t (keep st es) m h.left m.mem);
          freed = f;
        }

    -- it has been taken up before
    known : member x (keep go es) ≡ true → Sifted (suc t) (step t m)
    known k =
        let y : go x ≡ true = kept_passes x go es k in
        let w : swallows aggressive flag (rd n W s x) ≡ true = and_right (ltb 0 (rd n W s x)) (swallows aggressive flag (rd n W s x)) y in
        pass (omega (arith, h.freed.marks x k)) (no_both (ltb 0 (rd n W s x)) (swallows aggressive flag (rd n W s x)) w)
        (rw (keep_one_more go (at l) p t x same y) (freed_again n me X l s cnt base lim (keep go es) m.mem h.freed x k))
      where
        no_both : (u v : Bool) → v ≡ true → u && not v ≡ false
        no_both true v e = rw e
        no_both false v e = refl

    module _ (k : member x (keep go es) ≡ false) where
      mark : rd n W m.mem x ≡ rd n W s x
      mark = h.freed.others W x k

      dead : rd n W s x ≤ 0 → Sifted (suc t) (step t m)
      dead z =
          let o : ltb 0 (rd n W s x) ≡ false = le-ltb 0 (rd n W s x) z in
          let off : go x ≡ false = rw o in
          pass (omega (arith, mark)) (rw o) (rw (keep_no_more go (at l) p t x same off) h.freed)

      module _ (z : 0 < rd n W s x) where
        some : ltb 0 (rd n W s x) ≡ true
        some = lt-ltb 0 (rd n W s x) z

        below : x < n
        below = ⊎_elim (λ a. a) (λ a. absurd (omega (arith, rd_null n W s x (omega arith) a))) (split x n)

        taken : swallows aggressive flag (rd n W s x) ≡ true → Sifted (suc t) (step t m)
        taken v =
            let on : go x ≡ true = rw (some, v) in
            let off : st x ≡ false = rw (some, v) in
            subst (Sifted (suc t))
            (element_yes n me flag aggressive (p + t) m.lists m.mem m.kept x (rd n W s x) refl (sym mark)
            (keeping m.lists (absorbed n me x m.mem) m.kept)
            (live_no n me flag aggressive x (rd n W s x) m.lists m.mem m.kept true (sym v) (absorbed n me x m.mem) refl refl) z)
            record {
              left = rw (keep_no_more st (at l) p t x same off) (left_same D l p p 0 0 t (keep st es) m h.left (absorbed n me x m.mem));
              freed = rw (keep_one_more go (at l) p t x same on) (freed_more n me X l s cnt base lim (keep go es) m.mem h.freed x below);
            }

        kept : swallows aggressive flag (rd n W s x) ≡ false → Sifted (suc t) (step t m)
        unfolding kept_entry
        kept v =
            let off : go x ≡ false = rw (some, v) in
            let on : st x ≡ true = rw (some, v) in
            subst (Sifted (suc t))
            (element_yes n me flag aggressive (p + t) m.lists m.mem m.kept x (rd n W s x) refl (sym mark)
            (kept_entry x (D x) m)
            (live_yes n me flag aggressive x (rd n W s x) m.lists m.mem m.kept false (sym v) (D x) (wr m.lists m.kept.end x) (counted x (D x) m.kept) refl refl refl refl) z)
            record {
              left = rw (keep_one_more st (at l) p t x same on)
                  (left_more D l p p 0 0 t (keep st es) m h.left x (omega arith) (omega arith));
              freed = rw (keep_no_more go (at l) p t x same off) h.freed;
            }

        alive : Sifted (suc t) (step t m)
        alive = either (Sifted (suc t) (step t m)) (swallows aggressive flag (rd n W s x)) taken kept

      fresh : Sifted (suc t) (step t m)
      fresh = ⊎_elim (λ z. alive z) (λ z. dead z) (split 0 (rd n W s x))

    turn : Sifted (suc t) (step t m)
    turn = either (Sifted (suc t) (step t m)) (member x (keep go es)) known fresh

  begun : Sifted 0 (keeping l s (nothing p))
  unfolding keep total
  begun =
      record {
        left = rw (entries_none (at l) p)
            record {
              end = omega arith;
              here = entries_none (at l) p;
              few = omega arith;
              rest = λ q o. refl;
              long = refl;
              deg = λ a. refl;
              sum = λ a. refl;
            };
        freed = rw (entries_none (at l) p) (freed_none n me X l s cnt base lim g);
      }

  -- THE elements of a row
  pub elements_sifted : Sifted len (kept_elements n me flag aggressive p len l s)
  unfolding kept_elements
  elements_sifted = times_keeps Sifted step len (λ t m b h. turn t m b h) len (keeping l s (nothing p)) (omega arith) begun
