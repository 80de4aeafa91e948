-- Step 3 on plain lists: after it the mark of every element that a row of the new element has is the flag and the element's weight outside; nothing else is changed.
-- Assumes nothing.
use Rattle.std.proofs.Common.{◌≡◌, ℕ, ◌<◌, List, ℤ, ap, ◌∙◌, arith}
use Rattle.cells.specs.Layout.{DEGREE, NV, W}
use Rattle.cells.specs.View.{rd}
use Rattle.sizing.specs.Counters.{counted}
use Rattle.sizing.specs.Model.{sized_all}
use Rattle.sizing.specs.Sizes.{Measured, Ready}
use Rattle.sizing.proofs.Counting.{counted_first, counted_gone, counted_none}
use Rattle.sizing.proofs.Marks.{kept_all_lem, mark_all_lem}

module _ (n flag from k : ℕ) (l s : List ℤ) (E : ℕ → List ℕ) (new : List ℕ) (h : Ready n flag from k l s E new) where
  marks : (e : ℕ) → rd n W (sized_all n l flag from k s) e ≡ counted flag E (rd n NV s) (rd n DEGREE s e) e new (rd n W s e)
  marks e = mark_all_lem n l flag s E e from k new h.inside h.rows h.room h.lists h.light

  -- THE refinement of step 3
  pub measured_all : Measured n flag s (sized_all n l flag from k s) E new
  measured_all =
      record {
        kept = kept_all_lem n l flag from k s h.room;
        gone = λ e z.
            let b : 0 < flag = omega (arith, h.below e) in
            marks e ∙ ap (λ (y : ℕ). counted flag E (rd n NV s) (rd n DEGREE s e) e new y) z ∙ counted_gone flag E (rd n NV s) (rd n DEGREE s e) e b new;
        others = λ e m. marks e ∙ counted_none flag E (rd n NV s) (rd n DEGREE s e) e (rd n W s e) new m;
        sizes = λ e p m. marks e ∙ counted_first flag E (rd n NV s) (rd n DEGREE s e) e (rd n W s e) (h.below e) p (h.small e p m) new h.light (h.enough e p m) m;
      }
