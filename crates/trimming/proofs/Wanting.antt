-- The variables of a row: those that are wanted move to behind what is kept of its elements.
-- Assumes nothing.
use Rattle.std.proofs.Common.{◌≡◌, ℕ, suc, ◌+◌, ◌<◌, ◌≤◌, Bool, true, false, ltb, List, length, ℤ, sym, refl, ap, subst, inr, ⊎_elim, arith, le-ltb, lt-ltb}
use Rattle.plain.proofs.Entries.{entries_none}
use Rattle.plain.proofs.Turns.{times_keeps}
use Rattle.plain.specs.Lists.{keep, total}
use Rattle.plain.specs.Turns.{entries}
use Rattle.cells.proofs.Slices.{split}
use Rattle.cells.specs.Layout.{WANT}
use Rattle.cells.specs.View.{at, rd, wr}
use Rattle.trimming.specs.declared.Kept.{Kept}
use Rattle.trimming.specs.Model.{Keeping, counted, halfway, keeping, kept_entry, kept_variable, kept_variables}
use Rattle.trimming.proofs.Filtering.{Left, keep_no_more, keep_one_more, left_more, left_same}
use Rattle.trimming.proofs.Steps.{variable_no, variable_yes}

module _ (n from len : ℕ) (l s : List ℤ) (k : Kept) (behind : k.end ≤ from) (fits : from + len ≤ length l) where
  abbrev wanted : ℕ → Bool
  wanted v = ltb 0 (rd n WANT s v)

  abbrev Picked : ℕ → Keeping → Type 0
  Picked t m = Left (rd n WANT s) l k.end from k.deg k.sum t (keep wanted (entries (at l) from t)) m × (m.mem ≡ s) × (m.kept.elements ≡ k.end)

  abbrev step : ℕ → Keeping → Keeping
  step t = kept_variable n (from + t)

  module _ (t : ℕ) (m : Keeping) (b : t < len) (h : Picked t m) where
    abbrev x : ℕ
    x = at m.lists (from + t)

    abbrev vs : List ℕ
    vs = entries (at l) from t

    same : x ≡ at l (from + t)
    same = h.0.rest (from + t) (inr (omega arith))

    weight : rd n WANT m.mem x ≡ rd n WANT s x
    weight = ap (λ (y : List ℤ). rd n WANT y x) h.1

    passes : 0 < rd n WANT s x → Picked (suc t) (step t m)
    unfolding kept_entry counted
    passes z =
        let on : wanted x ≡ true = lt-ltb 0 (rd n WANT s x) z in
        subst (Picked (suc t))
        (variable_yes n (from + t) m.lists m.mem m.kept x (rd n WANT s x) refl (sym weight)
        (wr m.lists m.kept.end x) (counted x (rd n WANT s x) m.kept) refl refl z) (
          rw (keep_one_more wanted (at l) from t x same on)
              (left_more (rd n WANT s) l k.end from k.deg k.sum t (keep wanted vs) m h.0 x behind (omega arith)),
          h.1,
          h.2,
        )

    fails : rd n WANT s x ≤ 0 → Picked (suc t) (step t m)
    fails z =
        let off : wanted x ≡ false = le-ltb 0 (rd n WANT s x) z in
        subst (Picked (suc t))
        (variable_no n (from + t) m.lists m.mem m.kept x (rd n WANT s x) refl (sym weight) z) (
          rw (keep_no_more wanted (at l) from t x same off)
              (left_same (rd n WANT s) l k.end from k.deg k.sum t (keep wanted vs) m h.0 m.mem),
          h.1,
          h.2,
        )

  begun : Picked 0 (keeping l s (halfway k))
  unfolding keep total
  begun = (
    rw (entries_none (at l) from)
        record {
          end = omega arith;
          here = entries_none (at l) k.end;
          few = omega arith;
          rest = λ q o. refl;
          long = refl;
          deg = λ a. omega arith;
          sum = λ a. omega arith;
        },
    refl,
    refl,
  )

  -- THE variables of a row
  pub variables_picked : Picked len (kept_variables n from len (keeping l s k))
  unfolding kept_variables
  variables_picked =
      times_keeps Picked step len (λ t m b h. ⊎_elim (λ z. passes t m b h z) (λ z. fails t m b h z) (split 0 (rd n WANT s (at m.lists (from + t))))) len (keeping l s (halfway k)) (omega arith) begun
