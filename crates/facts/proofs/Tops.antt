-- `top` of F8, row by row, in step 5 of the definition: the last collected of each class stays, and has the weight of all of it.
-- Assumes nothing.
use Prim.Native.Nat.{ℕ, ◌<◌}
use mathlib.Core.Path.{◌≡◌, refl, sym, ap, ◌∙◌}
use mathlib.Core.Logic.{◌≢◌}
use mathlib.Core.Bool.{Bool, true, false}
use mathlib.Core.List.{List, reverse}
use lib.Dec.{eqb}
use borrow.Author.Tests.{eq-eqb, ne_eqb, eqb-true}
use Rattle.plain.specs.Lists.{member, keep, total}
use Rattle.plain.specs.Members.{In, Distinct}
use Rattle.plain.proofs.Members.{member_reverse, member_kept, kept_was, kept_passes, keep_same, keep_every}
use Rattle.plain.proofs.Repeats.{distinct_keep, distinct_reverse}
use Rattle.plain.proofs.Sums.{total_members}
use Rattle.plain.proofs.Fibres.{total_fibres}
use Rattle.plain.proofs.Classes.{first_in_lem, first_like_lem, first_same, first_twice}
use Rattle.definition.specs.State.{Graph, weight, rep, has_weight}
use Rattle.definition.specs.Pivot.{collected}
use Rattle.definition.specs.Merge.{same_lists, merge_all, merged_alike}
use Rattle.facts.specs.Classes.{newest_first, top_of, owner_of, Grouped, Topped}
use Rattle.facts.specs.Invariant.{Sized, Var, Quotient}
use Rattle.facts.proofs.Collected.{distinct_collected}
use Rattle.facts.proofs.Stepped.{after_trim, after_merge, inside, sized2}
use Rattle.facts.proofs.Keys.{Clean, clean_compared}
use Rattle.facts.proofs.Classes.{same_equivalence, weighs, top}

-- ---- F8: the first of a class is one of it, and its own

module _ (g : Graph) (vs : List ℕ) where
  pub top_in : (j : ℕ) → In j vs → In (top_of g vs j) vs
  unfolding top_of
  top_in j m = first_in_lem (same_lists g) (same_equivalence g) j vs m

  pub top_like : (j : ℕ) → In j vs → same_lists g (top_of g vs j) j ≡ true
  unfolding top_of
  top_like j m = first_like_lem (same_lists g) (same_equivalence g) j vs m

  pub top_same : (i j : ℕ) → In i vs → same_lists g i j ≡ true → top_of g vs i ≡ top_of g vs j
  unfolding top_of
  top_same i j m h = first_same (same_lists g) (same_equivalence g) i j vs m h

  pub top_twice : (j : ℕ) → In j vs → top_of g vs (top_of g vs j) ≡ top_of g vs j
  unfolding top_of
  top_twice j m = first_twice (same_lists g) (same_equivalence g) j vs m

  owner_in : (v : ℕ) → In v vs → owner_of g vs v ≡ top_of g vs v
  unfolding owner_of
  owner_in v m = rw m

  owner_out : (v : ℕ) → member v vs ≡ false → owner_of g vs v ≡ v
  unfolding owner_of
  owner_out v m = rw m

-- ---- row by row

module _ {n : ℕ} (vs : List ℕ) (g : Graph) (d : Distinct vs) (l : (v : ℕ) → member v vs ≡ true → v < n) (heavy : (v : ℕ) → In v vs → has_weight g v ≡ true) (clean : Clean vs g)
    (key_of : ℕ → ℕ) (s : Sized n g) where
  abbrev h : Graph
  h = merge_all key_of vs g

  closed : Grouped n vs (owner_of g vs) g h
  closed = top vs g d l heavy clean key_of s

  own_not : (j : ℕ) → In j vs → top_of g vs j ≢ j → eqb (owner_of g vs j) j ≡ false
  own_not j m t = rw (owner_in g vs j m) (ne_eqb (top_of g vs j) j t)

  own_top : (i : ℕ) → In i vs → top_of g vs i ≡ i → eqb (owner_of g vs i) i ≡ true
  own_top i m t = rw (owner_in g vs i m) (eq-eqb (top_of g vs i) i t)

  own_out : (v : ℕ) → member v vs ≡ false → eqb (owner_of g vs v) v ≡ true
  own_out v m = rw (owner_out g vs v m) (eq-eqb v v refl)

  pub topped : Topped n vs g h
  topped = record {
    sized = closed.sized;
    elements = closed.elements;
    variables = closed.variables;
    degrees = closed.degrees;
    joins_kind = λ j m t. closed.kinds j ∙ rw (own_not j m t);
    joins_weight = λ j m t. closed.weights j m ∙ rw (own_not j m t);
    joins_parent = λ j m t. closed.parents j ∙ rw (own_not j m t, owner_in g vs j m);
    stays_kind = λ i m t. closed.kinds i ∙ rw (own_top i m t);
    stays_weight = λ i m t. closed.weights i m ∙ rw (own_top i m t)
        (ap (total (weight g)) (keep_same (λ j. eqb (owner_of g vs j) i) (λ j. eqb (top_of g vs j) i) vs (λ j k. ap (λ (x : ℕ). eqb x i) (owner_in g vs j k))));
    stays_parent = λ i m t. closed.parents i ∙ rw (own_top i m t);
    other_kind = λ v m. closed.kinds v ∙ rw (own_out v m);
    other_weight = closed.outside;
    other_parent = λ v m. closed.parents v ∙ rw (own_out v m);
    rep_compared = λ v b m. closed.reps v b ∙ owner_in g vs (rep g v) m;
    rep_other = λ v b m. closed.reps v b ∙ owner_out g vs (rep g v) m;
    has_weight_lem = λ v m. weighs vs g d l heavy clean key_of (owner_of g vs) h closed v m ∙ ap (λ (x : ℕ). eqb x v) (owner_in g vs v m);
  }

  -- F8, by LL7: those that stay have the weight of all
  pub top_sum : total (weight h) (keep (λ i. eqb (top_of g vs i) i) vs) ≡ total (weight g) vs
  top_sum =
      total_members (weight h) (λ i. total (weight g) (keep (λ j. eqb (top_of g vs j) i) vs)) tops
      (λ i m. topped.stays_weight i (kept_was i own vs m) (eqb-true (top_of g vs i) i (kept_passes i own vs m)))
      ∙ total_fibres (weight g) (top_of g vs) tops vs (distinct_keep own vs d)
      ∙ ap (total (weight g)) (keep_every (λ j. member (top_of g vs j) tops) vs
      (λ j m. member_kept (top_of g vs j) own vs (eq-eqb (top_of g vs (top_of g vs j)) (top_of g vs j) (top_twice g vs j m)) (top_in g vs j m)))
    where
      own : ℕ → Bool
      own i = eqb (top_of g vs i) i

      tops : List ℕ
      tops = keep own vs

-- ---- in step 5

pub merged_topped : {n : ℕ} (key_of : ℕ → ℕ) (new : List ℕ) (g : Graph) → Sized n g → Distinct new → ((v : ℕ) → member v new ≡ true → v < n)
    → Clean (keep (has_weight g) new) g → Topped n (newest_first g new) g (merged_alike key_of new g)
unfolding merged_alike newest_first
merged_topped key_of new g s d l c =
    topped (reverse vs) g (distinct_reverse vs (distinct_keep (has_weight g) new d)) (λ v m. l v (kept_was v (has_weight g) new (back v m)))
    (λ v m. kept_passes v (has_weight g) new (back v m)) (λ v m. c v (back v m)) key_of s
  where
    vs : List ℕ
    vs = keep (has_weight g) new

    back : (v : ℕ) → In v (reverse vs) → In v vs
    back v m = sym (member_reverse v vs) ∙ m

-- of a state of the elimination
pub step_topped : {n : ℕ} (key_of : ℕ → ℕ) (aggressive : Bool) (g : Graph) (p : ℕ) → Quotient n g → Var g p
    → Topped n (newest_first (after_trim aggressive g p) (collected g p)) (after_trim aggressive g p) (after_merge key_of aggressive g p)
step_topped key_of aggressive g p q pv =
    merged_topped key_of (collected g p) (after_trim aggressive g p) (sized2 aggressive g p q pv) (distinct_collected g p) (inside aggressive g p q pv) (clean_compared aggressive g p q pv)
