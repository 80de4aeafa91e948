-- The plan's D5: the charges sum to what the elements told the statistics; so the fill is at most lnz, and d_max is above every count.
-- Assumes nothing.
use Prim.Native.Nat.{ℕ, suc, ◌+◌, ◌≤◌, ◌<◌, max}
use native.Mathlib.Omega.{arith}
use mathlib.Core.Path.{◌≡◌, refl, sym, ap, ◌∙◌, subst}
use mathlib.Core.Bool.{Bool, false, cond, ◌&&◌}
use mathlib.Core.List.{List, [], ◌∷◌, ◌++◌, map, foldl}
use lib.Dec.{eqb}
use lib.ListN.{length, get_or}
use borrow.Author.Tests.{eq-eqb, eqb-true}
use Rattle.plain.proofs.Falling.{square, triangle, square_mono, triangle_mono}
use Rattle.plain.proofs.Folds.{all_in, all_of}
use Rattle.plain.proofs.Logic.{or_elim, either, and_left}
use Rattle.plain.proofs.Members.{member_up_to, not_in, up_to_below, member_either, no_member, member_first, member_there, kept_both, member_kept}
use Rattle.plain.proofs.Repeats.{distinct_count_up, distinct_snoc, length_within, distinct_keep}
use Rattle.plain.proofs.Sums.{total_alike, total_append, total_map, total_one, total_flat_map, total_keep, total_same}
use Rattle.plain.specs.Lists.{member, fall_to, keep, up_to, total, itself}
use Rattle.plain.specs.Members.{All, Distinct, Within, In}
use Rattle.definition.specs.State.{State, Front, Kind, merged, element, dense, row_count, kind, weight, rep, degree, dense_rows, is_merged}
use Rattle.definition.specs.Tree.{postorder}
use Rattle.definition.specs.Ordering.{merged_with, block_of, permutation_of}
use Rattle.definition.specs.Statistics.{gain_q, gain_s, gain_ldl, Block, blocks_of, sum_of, largest, six_of}
use Rattle.definition.specs.Cholesky.{counts, fill}
use Rattle.facts.proofs.Gains.{fall_q, fall_s, fall_ldl}
use Rattle.facts.specs.Past.{an_element}
use Rattle.facts.specs.History.{rows_of, born_of, born_at}
use Rattle.facts.proofs.Family.{is_merged_lem, OfBlock, joined, its_row, block_in}
use Rattle.facts.proofs.Permuted.{postorder_made, postorder_has, postorder_distinct}
use Rattle.fill.proofs.Ended.{Ended, placed, grown}
use Rattle.fill.proofs.Standing.{dense_or, in_block}
use Rattle.fill.proofs.Spots.{falls}
use Rattle.fill.proofs.Charged.{count_charge, counts_charges, fill_charges, charge_bound}
use Rattle.fill.specs.Charges.{charged_rest, charges}

-- What the sums take besides: an element told its pivots and its remaining weight, and keeps both; one that was never born weighs 1;
-- a dense row belongs to itself.
pub record Counted (s : State) : Type 0 where
  pub told : All (λ f. (f.pivots ≡ weight s.graph f.row) × (f.rest ≡ degree s.graph f.row)) s.fronts
  pub single : (e : ℕ) → e < row_count s.graph → kind s.graph e ≡ element → member e (born_of s) ≡ false → weight s.graph e ≡ 1
  pub alone : (v : ℕ) → v < row_count s.graph → kind s.graph v ≡ dense → rep s.graph v ≡ v

clash_merged : {k : Kind} → k ≡ element → k ≡ merged → ⊥
clash_merged p q = let z : ◌≡◌ {A = ℕ} 0 1 = cc in omega arith

clash_dense : {k : Kind} → k ≡ element → k ≡ dense → ⊥
clash_dense p q = let z : ◌≡◌ {A = ℕ} 0 1 = cc in omega arith

-- ---- the largest

abbrev higher : ℕ → Block → ℕ
higher m b = max m (b.f + b.r)

reaches : (bs : List Block) (m : ℕ) → (m ≤ foldl higher m bs) × All (λ b. b.f + b.r ≤ foldl higher m bs) bs
reaches [] m = (omega arith, tt)
reaches (b ∷ bs) m = let i = reaches bs (higher m b) in (omega (arith, i.0), (omega (arith, i.0), i.1))

all_left : {A : Type 0} (P : A → Type 0) (xs ys : List A) → All P (xs ++ ys) → All P xs
all_left P [] ys h = tt
all_left P (x ∷ xs) ys h = (h.0, all_left P xs ys h.1)

all_right : {A : Type 0} (P : A → Type 0) (xs ys : List A) → All P (xs ++ ys) → All P ys
all_right P [] ys h = h
all_right P (x ∷ xs) ys h = all_right P xs ys h.1

all_map : {A B : Type 0} (P : B → Type 0) (g : A → B) (xs : List A) → All P (map g xs) → All (λ x. P (g x)) xs
all_map P g [] h = tt
all_map P g (x ∷ xs) h = (h.0, all_map P g xs h.1)

-- what all have, one that is named has
named : {A : Type 0} (P Q : A → Type 0) (g : A → ℕ) (R : ℕ → Type 0) → ((x : A) → P x → Q x → R (g x)) → (e : ℕ) (xs : List A) → In e (map g xs) → All P xs → All Q xs → R e
named P Q g R h e [] i p q = no_member e i
named P Q g R h e (x ∷ xs) i p q =
    or_elim (R e) (member_either e (g x) (map g xs) i) (λ t. subst R (sym t) (h x p.0 q.0)) (λ t. named P Q g R h e xs t p.1 q.1)

all_both : {A : Type 0} (P Q R : A → Type 0) (xs : List A) → ((x : A) → P x → Q x → R x) → All P xs → All Q xs → All R xs
all_both P Q R [] h p q = tt
all_both P Q R (x ∷ xs) h p q = (h x p.0 q.0, all_both P Q R xs h p.1 q.1)

all_named : (fs : List Front) → All (λ (f : Front). In f.row (map (λ f. f.row) fs)) fs
all_named fs = widen fs fs (λ e h. h)
  where
    widen : (gs hs : List Front) → ((e : ℕ) → In e (map (λ (f : Front). f.row) gs) → In e (map (λ (f : Front). f.row) hs)) → All (λ (f : Front). In f.row (map (λ f. f.row) hs)) gs
    widen [] hs w = tt
    widen (g ∷ gs) hs w = (
      w g.row (member_first g.row g.row (map (λ (f : Front). f.row) gs) refl),
      widen gs hs (λ e h. w e (member_there e g.row (map (λ (f : Front). f.row) gs) h)),
    )

module _ (s : State) (fronts nbrs : List (List ℕ)) (end : Ended s fronts nbrs) (counted : Counted s) where
  abbrev n : ℕ
  n = row_count s.graph

  abbrev nd : ℕ
  nd = length (dense_rows s.graph)

  -- ---- an element has as many rows in its block as it weighs

  pub distinct_block : (e : ℕ) → kind s.graph e ≡ element → Distinct (block_of s.graph e)
  unfolding block_of merged_with
  distinct_block e q =
      distinct_snoc e (merged_with s.graph e) (distinct_keep (λ v. is_merged (kind s.graph v) && eqb e (rep s.graph v)) (up_to n) (distinct_count_up 0 n))
      (not_in e (merged_with s.graph e) (λ h. clash_merged q (is_merged_lem (kind s.graph e)
      (and_left (is_merged (kind s.graph e)) (eqb e (rep s.graph e)) (kept_both e (λ v. is_merged (kind s.graph v) && eqb e (rep s.graph v)) (up_to n) h).0))))

  block_rows : (e : ℕ) → e < n → kind s.graph e ≡ element → Within (block_of s.graph e) (rows_of s.graph e)
  unfolding rows_of
  block_rows e l q v h = go (block_in s.graph e v h)
    where
      go : OfBlock s.graph e v → In v (rows_of s.graph e)
      go (joined a b c) = member_kept v (λ x. eqb e (rep s.graph x)) (up_to n) (eq-eqb e (rep s.graph v) c) (member_up_to v n a)
      go (its_row a) =
          let r : rep s.graph e ≡ e = end.h0.own e l (an_element q) in
          rw a (member_kept e (λ x. eqb e (rep s.graph x)) (up_to n) (eq-eqb e (rep s.graph e) (sym r)) (member_up_to e n l))

  rows_block : (e : ℕ) → e < n → kind s.graph e ≡ element → Within (rows_of s.graph e) (block_of s.graph e)
  unfolding rows_of
  rows_block e l q v h =
      let k = kept_both v (λ x. eqb e (rep s.graph x)) (up_to n) h in
      let i : v < n = up_to_below v n k.1 in
      let r : e ≡ rep s.graph v = eqb-true e (rep s.graph v) k.0 in
      or_elim (In v (block_of s.graph e)) (dense_or s v)
      (λ d. let t : e ≡ v = r ∙ counted.alone v i d in absurd (clash_dense (ap (λ (z : ℕ). kind s.graph z) (sym t) ∙ q) d))
      (λ o. rw r (in_block s fronts nbrs end v i o))

  pub block_length : (e : ℕ) → e < n → kind s.graph e ≡ element → length (block_of s.graph e) ≡ weight s.graph e
  unfolding rows_of
  block_length e l q =
      omega (
        arith,
        end.h0.weighs e l (an_element q),
        length_within (block_of s.graph e) (rows_of s.graph e) (distinct_block e q) (block_rows e l q),
        length_within (rows_of s.graph e) (block_of s.graph e) (distinct_keep (λ v. eqb e (rep s.graph v)) (up_to n) (distinct_count_up 0 n)) (rows_block e l q),
      )

  -- ---- any sum over the charges that goes element by element

  module _ (h : ℕ → ℕ) (gain : ℕ → ℕ → ℕ) (falls_gain : (r m : ℕ) → total h (fall_to r m) ≡ gain m r) (nothing : gain 1 0 ≡ 0) where
    abbrev gains : ℕ → ℕ
    gains e = gain (length (block_of s.graph e)) (charged_rest s e)

    abbrev was_born : ℕ → Bool
    was_born e = member e (born_of s)

    lone_gain : (e : ℕ) → In e (postorder s.graph) → gains e ≡ cond (was_born e) (gains e) 0
    unfolding charged_rest
    lone_gain e i =
        let m = postorder_made s.graph e i in
        either (gains e ≡ cond (was_born e) (gains e) 0) (was_born e) (λ t. rw t)
        (λ t. rw (t, block_length e m.0 m.1, counted.single e m.0 m.1 t) nothing)

    by_birth : total gains (postorder s.graph) ≡ total gains (born_of s)
    by_birth =
        total_same gains (λ e. cond (was_born e) (gains e) 0) (postorder s.graph) (all_in _ (postorder s.graph) lone_gain)
        ∙ sym (total_keep gains was_born (postorder s.graph))
        ∙ total_alike gains (keep was_born (postorder s.graph)) (born_of s)
        (distinct_keep was_born (postorder s.graph) (postorder_distinct s.graph (born_at s) (grown s fronts nbrs end) (placed s fronts nbrs end)))
        end.born_once
        (λ e i. (kept_both e was_born (postorder s.graph) i).0)
        (λ e i. let m = end.born_made e i in
        member_kept e was_born (postorder s.graph) i (postorder_has s.graph (born_at s) (grown s fronts nbrs end) (placed s fronts nbrs end) e m.0 m.1))

    as_told : total gains (born_of s) ≡ total (λ (f : Front). gain f.pivots (f.rest + nd)) s.fronts
    unfolding born_of charged_rest
    as_told =
        total_map gains (λ (f : Front). f.row) s.fronts
        ∙ total_same (λ (f : Front). gains f.row) (λ (f : Front). gain f.pivots (f.rest + nd)) s.fronts
        (all_both (λ (f : Front). (f.pivots ≡ weight s.graph f.row) × (f.rest ≡ degree s.graph f.row)) (λ (f : Front). In f.row (born_of s)) (λ (f : Front). gains f.row ≡ gain f.pivots (f.rest + nd)) s.fronts
        (λ f p i. let m = end.born_made f.row i in rw (i, block_length f.row m.0 m.1, p.0, p.1)) counted.told (all_named s.fronts))

    pub charges_sum : total h (charges s) ≡ sum_of gain (blocks_of nd s.fronts)
    unfolding charges sum_of blocks_of
    charges_sum =
        total_append h (falls (block_of s.graph) (charged_rest s) (postorder s.graph)) (fall_to 0 nd)
        ∙ omega (
          arith,
          total_flat_map h (λ e. fall_to (charged_rest s e) (length (block_of s.graph e))) (postorder s.graph),
          total_same (λ e. total h (fall_to (charged_rest s e) (length (block_of s.graph e)))) gains (postorder s.graph) (all_of _ (postorder s.graph) (λ e. falls_gain (charged_rest s e) (length (block_of s.graph e)))),
          by_birth,
          as_told,
          falls_gain 0 nd,
          total_append (λ (b : Block). gain b.f b.r) (map (λ (f : Front). record { f = f.pivots; r = f.rest + nd }) s.fronts) (record { f = nd; r = 0 } ∷ []),
          total_map (λ (b : Block). gain b.f b.r) (λ (f : Front). record { f = f.pivots; r = f.rest + nd }) s.fronts,
          total_one (λ (b : Block). gain b.f b.r) (record { f = nd; r = 0 }),
        )

  -- ---- lnz

  pub charges_lnz : total itself (charges s) ≡ (six_of nd s.fronts).lnz
  unfolding six_of gain_q
  charges_lnz = charges_sum itself gain_q fall_q refl

  pub fill_lnz : fill (permutation_of s.graph) nbrs ≤ (six_of nd s.fronts).lnz
  fill_lnz = omega (arith, fill_charges s fronts nbrs end, charges_lnz)

  -- ---- the other two sums

  pub charges_lu : total square (charges s) ≡ (six_of nd s.fronts).n_mult_subs_lu
  unfolding six_of gain_s
  charges_lu = charges_sum square gain_s fall_s refl

  pub counts_lu : total square (counts (permutation_of s.graph) nbrs) ≤ (six_of nd s.fronts).n_mult_subs_lu
  counts_lu = omega (arith, counts_charges s fronts nbrs end square square_mono, charges_lu)

  pub charges_ldl : total triangle (charges s) ≡ (six_of nd s.fronts).n_mult_subs_ldl
  unfolding six_of gain_ldl gain_s gain_q
  charges_ldl = charges_sum triangle gain_ldl fall_ldl refl

  pub counts_ldl : total triangle (counts (permutation_of s.graph) nbrs) ≤ (six_of nd s.fronts).n_mult_subs_ldl
  counts_ldl = omega (arith, counts_charges s fronts nbrs end triangle triangle_mono, charges_ldl)

  -- ---- d_max

  abbrev most : ℕ
  most = foldl higher 1 (blocks_of nd s.fronts)

  born_most : (e : ℕ) → In e (born_of s) → weight s.graph e + (degree s.graph e + nd) ≤ most
  unfolding born_of blocks_of
  born_most e i =
      named (λ (f : Front). (f.pivots ≡ weight s.graph f.row) × (f.rest ≡ degree s.graph f.row)) (λ (f : Front). f.pivots + (f.rest + nd) ≤ most) (λ (f : Front). f.row)
      (λ x. weight s.graph x + (degree s.graph x + nd) ≤ most) (λ f p q. omega (arith, p.0, p.1)) e s.fronts i counted.told
      (all_map (λ (b : Block). b.f + b.r ≤ most) (λ (f : Front). record { f = f.pivots; r = f.rest + nd }) s.fronts
      (all_left (λ (b : Block). b.f + b.r ≤ most) (map (λ (f : Front). record { f = f.pivots; r = f.rest + nd }) s.fronts) (record { f = nd; r = 0 } ∷ []) (reaches (blocks_of nd s.fronts) 1).1))

  dense_most : nd ≤ most
  unfolding blocks_of
  dense_most =
      omega (arith, (all_right (λ (b : Block). b.f + b.r ≤ most) (map (λ (f : Front). record { f = f.pivots; r = f.rest + nd }) s.fronts) (record { f = nd; r = 0 } ∷ []) (reaches (blocks_of nd s.fronts) 1).1).0)

  element_most : (e : ℕ) → In e (postorder s.graph) → charged_rest s e + length (block_of s.graph e) ≤ most
  unfolding charged_rest
  element_most e i =
      let m = postorder_made s.graph e i in
      let b = block_length e m.0 m.1 in
      either (cond (member e (born_of s)) (degree s.graph e + nd) 0 + length (block_of s.graph e) ≤ most) (member e (born_of s))
      (λ t. rw t (omega (arith, born_most e t, b)))
      (λ t. rw t (omega (arith, counted.single e m.0 m.1 t, b, (reaches (blocks_of nd s.fronts) 1).0)))

  pub charge_d_max : (k : ℕ) → k < n → suc (get_or (charges s) k 0) ≤ (six_of nd s.fronts).d_max
  unfolding six_of largest
  charge_d_max k l =
      or_elim (suc (get_or (charges s) k 0) ≤ most) (charge_bound s fronts nbrs end k l) (λ r. omega (arith, r.2, element_most r.0 r.1)) (λ r. omega (arith, r, dense_most))

  pub count_d_max : (k : ℕ) → k < n → suc (get_or (counts (permutation_of s.graph) nbrs) k 0) ≤ (six_of nd s.fronts).d_max
  count_d_max k l = omega (arith, count_charge s fronts nbrs end k l, charge_d_max k l)
