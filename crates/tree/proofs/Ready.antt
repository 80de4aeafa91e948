-- Before anything is linked: what each row hangs under, by its kind, and the largest child of each element, as the definition has them.
-- Assumes nothing.
use Prim.Native.Nat.{ℕ, ◌≤◌, ◌<◌}
use native.Mathlib.Omega.{arith}
use mathlib.Core.Path.{◌≡◌, refl, sym, ap, ◌∙◌}
use mathlib.Core.Logic.{◌≢◌}
use mathlib.Core.Bool.{Bool, true, false, ◌&&◌, cond}
use mathlib.Core.List.{List, [], ◌∷◌, foldl}
use mathlib.Core.Option.{Option, none, some}
use lib.Dec.{eqb, ltb, leb}
use lib.IntN.{ℤ}
use borrow.Author.Tests.{lt-ltb, ne_eqb, ltb-true, ltb-false}
use Rattle.plain.proofs.Logic.{either, eqb_comm}
use Rattle.plain.proofs.Members.{keep_same, up_to_below, member_here, member_there}
use Rattle.plain.specs.Lists.{keep, up_to}
use Rattle.plain.specs.Members.{In}
use Rattle.definition.specs.State.{Graph, Kind, variable, merged, element, dense, row_count, kind, weight, rep, is_element}
use Rattle.definition.specs.State as state
use Rattle.definition.specs.Tree.{is_child_of, size_of, children_of, biggest}
use Rattle.facts.proofs.Family.{children_in}
use Rattle.cells.specs.Layout.{ELEN, NV, FIRST, LARGEST}
use Rattle.cells.specs.Links.{parent}
use Rattle.cells.specs.View.{rd, Room}
use Rattle.tree.specs.Final.{Ended}
use Rattle.tree.specs.Hanging.{Hanging}
use Rattle.tree.specs.Model.{above, blanked, measured}
use Rattle.tree.proofs.Largest.{Blank, blanked_all, Measuring, measured_all, last_big, heavy_under}
use Rattle.tree.proofs.Owners.{Owned, above_some, above_none}

-- the largest is the same by sizes that are the same
biggest_same : (f h : ℕ → ℕ) (b : ℕ) (es : List ℕ) → f b ≡ h b → ((x : ℕ) → In x es → f x ≡ h x) → biggest f b es ≡ biggest h b es
unfolding biggest
biggest_same f h b [] e k = refl
biggest_same f h b (x ∷ es) e k =
    let y : f x ≡ h x = k x (member_here x es) in
    let w : leb (f b) (f x) ≡ leb (h b) (h x) = rw (e, y) in
    ap (λ (c : Bool). foldl (λ a z. cond (leb (f a) (f z)) z a) (cond c x b) es) w ∙ next (λ c q. biggest_same f h c es q (λ z i. k z (member_there z x es i))) (leb (h b) (h x)) y
  where
    next : ((c : ℕ) → f c ≡ h c → foldl (λ a z. cond (leb (f a) (f z)) z a) c es ≡ foldl (λ a z. cond (leb (h a) (h z)) z a) c es) → (c : Bool) → f x ≡ h x
        → foldl (λ a z. cond (leb (f a) (f z)) z a) (cond c x b) es ≡ foldl (λ a z. cond (leb (h a) (h z)) z a) (cond c x b) es
    next ih true y = ih x y
    next ih false y = ih b e

big_same : (n : ℕ) (f h : ℕ → ℕ) (es : List ℕ) → ((x : ℕ) → In x es → f x ≡ h x) → last_big n f es ≡ last_big n h es
unfolding last_big
big_same n f h [] k = refl
big_same n f h (x ∷ es) k = biggest_same f h x es (k x (member_here x es)) (λ z i. k z (member_there z x es i))

-- of a memory, what its rows weigh and hang under
pub record Placing (n : ℕ) (g : Graph) (s : List ℤ) : Type 0 where
  pub heavy : (v : ℕ) → v < n → kind g v ≡ element → ltb 0 (rd n NV s v) ≡ true
  pub light : (v : ℕ) → v < n → (kind g v ≡ element → ⊥) → ltb 0 (rd n NV s v) ≡ false
  pub child : (v p : ℕ) → v < n → kind g v ≡ element → state.parent g v ≡ some p → (p < n) × (above n s v ≡ p)
  pub root : (v : ℕ) → v < n → kind g v ≡ element → state.parent g v ≡ none → above n s v ≡ n
  pub joined : (v : ℕ) → v < n → kind g v ≡ merged → (rep g v < n) × (above n s v ≡ rep g v)
  pub free : (v : ℕ) → v < n → kind g v ≡ dense → above n s v ≡ n
  pub idle : (v : ℕ) → v < n → kind g v ≡ variable → ⊥

differ : {a b c : Kind} → a ≡ b → a ≡ c → (b ≡ c → ⊥) → ⊥
differ p q h = h (sym p ∙ q)

element_merged : element ≡ merged → ⊥
element_merged e = let z : ◌≡◌ {A = ℕ} 0 1 = cc in omega arith

dense_merged : dense ≡ merged → ⊥
dense_merged e = let z : ◌≡◌ {A = ℕ} 0 1 = cc in omega arith

module _ (n : ℕ) (g : Graph) (rank : ℕ → ℕ) (s : List ℤ) (start : Owned n g s) (end : Ended n g rank) (m : List ℤ)
    (same_weight : (v : ℕ) → rd n NV m v ≡ rd n NV s v) (same_parent : (v : ℕ) → parent n m v ≡ parent n s v) where
  light_by : (v : ℕ) → v < n → (kind g v ≡ element → ⊥) → (k : Kind) → kind g v ≡ k → weight g v ≡ 0
  light_by v l x variable e = absurd (end.idle v l e)
  light_by v l x merged e = end.light_merged v l e
  light_by v l x element e = absurd (x e)
  light_by v l x dense e = end.light_dense v l e

  placing : Placing n g m
  placing = record {
    heavy = λ v l e. lt-ltb 0 (rd n NV m v) (omega (arith, same_weight v, start.weights v l, end.heavy v l e));
    light = λ v l x. rw (same_weight v, start.weights v l, light_by v l x (kind g v) refl);
    child = λ v p l e r. (
      (end.above v p l e r).0,
      above_some n m v p (same_parent v ∙ start.of_other v l (λ x. differ e x element_merged) ∙ r),
    );
    root = λ v l e r. above_none n m v (same_parent v ∙ start.of_other v l (λ x. differ e x element_merged) ∙ r);
    joined = λ v l e. ((end.owner v l e).0, above_some n m v (rep g v) (same_parent v ∙ start.of_merged v l e));
    free = λ v l e. above_none n m v (same_parent v ∙ start.of_other v l (λ x. differ e x dense_merged) ∙ end.free v l e);
    idle = end.idle;
  }

-- the elements under e are its children
under_children : (n : ℕ) (g : Graph) (s : List ℤ) → Placing n g s → row_count g ≡ n → (e : ℕ) → e < n → keep (heavy_under n s e) (up_to n) ≡ children_of g e
unfolding children_of heavy_under
under_children n g s h rows e le =
    rw rows (keep_same (λ j. ltb 0 (rd n NV s j) && eqb (above n s j) e) (λ j. is_element (kind g j) && is_child_of e (state.parent g j)) (up_to n)
    (λ j i. by_kind j (up_to_below j n i) (kind g j) refl))
  where
    by_parent : (j : ℕ) → j < n → kind g j ≡ element → (o : Option ℕ) → state.parent g j ≡ o → eqb (above n s j) e ≡ is_child_of e o
    by_parent j l x none r = let ne : n ≢ e = λ q. omega arith in rw (h.root j l x r) (ne_eqb n e ne)
    by_parent j l x (some p) r = rw (h.child j p l x r).1 (eqb_comm p e)

    by_kind : (j : ℕ) → j < n → (k : Kind) → kind g j ≡ k → ltb 0 (rd n NV s j) && eqb (above n s j) e ≡ is_element (kind g j) && is_child_of e (state.parent g j)
    by_kind j l variable x = absurd (h.idle j l x)
    by_kind j l merged x = rw (h.light j l (λ y. differ y x element_merged), x)
    by_kind j l element x = rw (h.heavy j l x, x) (by_parent j l x (state.parent g j) refl)
    by_kind j l dense x = rw (h.light j l (λ y. differ y x (λ z. let w : ◌≡◌ {A = ℕ} 0 1 = cc in omega arith)), x)

-- ---- all of it

pub record Ready (n : ℕ) (g : Graph) (s : List ℤ) : Type 0 where
  pub room : Room n s
  pub placing : Placing n g s
  pub largest : (e : ℕ) → e < n → rd n LARGEST s e ≡ last_big n (size_of g) (children_of g e)
  pub nothing : Hanging n s (λ p. [])

module _ (n : ℕ) (g : Graph) (rank : ℕ → ℕ) (s : List ℤ) (start : Owned n g s) (end : Ended n g rank) where
  abbrev b : List ℤ
  b = blanked n s

  blank : Blank n s n b
  blank = blanked_all n s start.room

  measuring : Measuring n b n (measured n b)
  measuring = measured_all n b blank.room (λ e l. blank.no_largest e l)

  placing_b : Placing n g b
  placing_b = placing n g rank s start end b (λ v. blank.kept NV v refl refl) blank.links

  size_of_lem : (e x : ℕ) → In x (children_of g e) → rd n ELEN b x ≡ size_of g x
  size_of_lem e x i = let c = children_in g e x i in blank.kept ELEN x refl refl ∙ start.sizes x (omega (arith, c.inside, end.rows)) c.made

  no_first : (p : ℕ) → p ≤ n → rd n FIRST b p ≡ n
  no_first p l = either (rd n FIRST b p ≡ n) (ltb p n) (λ t. blank.no_child p (ltb-true p n t)) (λ t. let e : p ≡ n = omega (arith, ltb-false p n t) in rw e blank.no_root)

  pub ready : Ready n g (measured n b)
  ready = record {
    room = measuring.room;
    placing = placing n g rank s start end (measured n b) (λ v. measuring.kept NV v refl ∙ blank.kept NV v refl refl) (λ v. measuring.links v ∙ blank.links v);
    largest = λ e l. measuring.largest e l ∙ ap (last_big n (λ j. rd n ELEN b j)) (under_children n g b placing_b end.rows e l) ∙ big_same n (λ j. rd n ELEN b j) (size_of g) (children_of g e) (size_of_lem e);
    nothing = record { under = λ p l. measuring.kept FIRST p refl ∙ no_first p l };
  }
