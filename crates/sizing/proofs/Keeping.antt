-- Where nothing but marks is changed, the memory holds the same graph and the same log.
-- Assumes nothing.
use Rattle.std.proofs.Common.{ℕ, ◌+◌, Bool, List, length, ℤ, sym, refl, ◌∙◌}
use Rattle.plain.proofs.Entries.{entries_same}
use Rattle.definition.specs.State.{Graph}
use Rattle.cells.specs.Layout.{DEGREE, ELEN, LEN, MERGES, NV, ORD, PE, WANT}
use Rattle.cells.specs.View.{rd}
use Rattle.packed.proofs.Spaces.{space_same}
use Rattle.drawn.specs.Drawn.{Drawn}
use Rattle.drawn.specs.Log.{Logged}
use Rattle.sizing.specs.Sizes.{Kept}

module _ {n : ℕ} {s t : List ℤ} (k : Kept n s t) where
  pub drawn_kept : {l : List ℤ} {g : Graph} {X : ℕ → List ℕ} {new : ℕ → Bool} {cnt base lim : ℕ} → Drawn n l s g X new cnt base lim → Drawn n l t g X new cnt base lim
  drawn_kept {l} {g} {X} {new} {cnt} {base} {lim} h =
      record {
        space = space_same n X l s cnt base lim h.space t k.room (λ i. k.fields PE i refl) (λ i. k.fields LEN i refl) (λ i. k.fields ORD i refl);
        weights = λ v a. k.fields NV v refl ∙ h.weights v a;
        wants = λ v a. k.fields WANT v refl ∙ h.wants v a;
        elens = λ v a. k.fields ELEN v refl ∙ h.elens v a;
        degrees = λ v a. k.fields DEGREE v refl ∙ h.degrees v a;
        parents = λ v a b. k.parents v ∙ h.parents v a (sym (k.fields LEN v refl) ∙ b);
      }

  pub logged_kept : {g : Graph} {ms : List ℕ} → Logged n s g ms → Logged n t g ms
  logged_kept {g} {ms} h =
      record {
        log = entries_same (rd n MERGES s) (rd n MERGES t) 0 0 (length ms) (λ i a. k.fields MERGES (0 + i) refl) ∙ h.log;
        once = h.once;
        inside = h.inside;
        all = h.all;
        later = h.later;
      }
