-- The statistics that grow element by element, the dense block last, end as the definition's `six_of`.
-- Assumes nothing.
use Prim.Native.Nat.{ℕ, ◌+◌, max}
use native.Mathlib.Nat.{add-zero, zero-add, add_assoc}
use mathlib.Core.Path.{◌≡◌, refl, sym, ap, ◌∙◌}
use mathlib.Core.List.{List, [], ◌∷◌, ◌++◌, map, foldl, foldl-append, foldl-map}
use Rattle.plain.specs.Lists.{total}
use Rattle.definition.specs.State.{Front}
use Rattle.definition.specs.Statistics.{Block, gain_q, gain_s, gain_ldl, blocks_of, sum_of, largest, six_of}
use Rattle.definition.specs.Outcome as Outcomes
use Rattle.numbers.specs.Gains.{begun, gained, after_elements, counted}

-- ---- the elements in the order in which they are made

pub after_none : (nd : ℕ) → begun nd ≡ after_elements nd []
unfolding after_elements
after_none nd = refl

pub after_more : (nd : ℕ) (fronts : List Front) (e : Front) → gained e.pivots (e.rest + nd) (after_elements nd fronts) ≡ after_elements nd (fronts ++ (e ∷ []))
unfolding after_elements
after_more nd fronts e = sym (foldl-append (λ x d. gained d.pivots (d.rest + nd) x) (begun nd) fronts (e ∷ []))

-- ---- and the dense block last

-- of any blocks, from any statistics
grown : List Block → Outcomes.Statistics → Outcomes.Statistics
grown blocks x = foldl (λ y b. gained b.f b.r y) x blocks

-- x with the sums added
summed : List Block → Outcomes.Statistics → Outcomes.Statistics
summed blocks x = record {
  lnz = x.lnz + sum_of gain_q blocks;
  n_div = x.n_div + sum_of gain_q blocks;
  n_mult_subs_ldl = x.n_mult_subs_ldl + sum_of gain_ldl blocks;
  n_mult_subs_lu = x.n_mult_subs_lu + sum_of gain_s blocks;
  n_dense = x.n_dense;
  d_max = foldl (λ m b. max m (b.f + b.r)) x.d_max blocks;
  n_cmp_a = x.n_cmp_a;
}

grown_is : (blocks : List Block) (x : Outcomes.Statistics) → grown blocks x ≡ summed blocks x
unfolding grown summed sum_of total gained
grown_is [] x = simp (add-zero)
grown_is (b ∷ bs) x = grown_is bs (gained b.f b.r x) ∙ simp (add_assoc)

abbrev block_of : ℕ → Front → Block
block_of nd e = record { f = e.pivots; r = e.rest + nd }

pub after_all : (nd : ℕ) (fronts : List Front) → gained nd 0 (after_elements nd fronts) ≡ Outcomes.seven (six_of nd fronts) 0
unfolding six_of Outcomes.seven largest grown summed begun after_elements blocks_of
after_all nd fronts =
    let g : Outcomes.Statistics → Block → Outcomes.Statistics = λ y b. gained b.f b.r y in
    ap (gained nd 0) (sym (foldl-map (block_of nd) g fronts (begun nd)))
    ∙ sym (foldl-append g (begun nd) (map (block_of nd) fronts) (record { f = nd; r = 0 } ∷ []))
    ∙ grown_is (blocks_of nd fronts) (begun nd)
    ∙ simp zero-add

-- ---- and the collections

pub all_counted : (nd count : ℕ) (fronts : List Front) → counted count (Outcomes.seven (six_of nd fronts) 0) ≡ Outcomes.seven (six_of nd fronts) count
unfolding counted Outcomes.seven
all_counted nd count fronts = refl
