-- A turn up to step 3: the pivot's new element is gathered, and the marks are counters of external sizes.
-- Assumes nothing.
use Prim.Native.Nat.{ℕ, ◌+◌, ◌*◌, ◌<◌, ◌≤◌, ◌^◌}
use native.Mathlib.Omega.{arith}
use native.Mathlib.Nat.{mul-le-mul_left}
use mathlib.Core.List.{List, [], ◌∷◌}
use mathlib.Core.Path.{◌≡◌, ◌∙◌, ap, refl, sym, subst}
use lib.IntN.{ℤ}
use lib.ListN.{length}
use Rattle.plain.proofs.Entries.{entries_length}
use Rattle.plain.specs.Turns.{entries, upd}
use Rattle.definition.specs.Limits.{base_limits}
use Rattle.definition.specs.Outcome as Outcomes
use Rattle.definition.specs.Pivot.{collected, delisted, found, passed, pivot}
use Rattle.definition.specs.Room as room
use Rattle.definition.specs.State.{Graph, State, elements_of, queue_of, weight}
use Rattle.facts.proofs.Flags.{flag_small, weight_below}
use Rattle.facts.proofs.Invariant.{var_inside}
use Rattle.facts.proofs.Pivots.{Pivoted, pivoted}
use Rattle.facts.proofs.Weighed.{Weighed}
use Rattle.facts.specs.Invariant.{Inv, Var}
use Rattle.cells.specs.Layout.{DEGREE, ELEN, HEAD, HHEAD, LAST, LEN, NEXT, ORD, PE}
use Rattle.cells.specs.View.{at, rd}
use Rattle.chain.proofs.Frame.{chained_same}
use Rattle.chain.specs.Chained.{Chained}
use Rattle.packed.proofs.Frame.{inside_space}
use Rattle.packed.specs.Gather.{Outside}
use Rattle.packed.specs.Places.{places}
use Rattle.drawn.specs.Drawn.{Within, list_of}
use Rattle.drawn.specs.Flags.{Flagged}
use Rattle.drawn.specs.Log.{Logged}
use Rattle.sizing.proofs.Externals.{outside_all}
use Rattle.sizing.proofs.Keeping.{drawn_kept, logged_kept}
use Rattle.sizing.proofs.Raising.{flagged_outside}
use Rattle.sizing.specs.Model.{sized_all}
use Rattle.sizing.specs.Outside as sizing
use Rattle.opening.proofs.Pivoting.{begun_count, begun_drawn, begun_fields, begun_flags, begun_keys, begun_last, begun_list, begun_log, begun_long, begun_place, begun_queues, begun_same}
use Rattle.opening.proofs.Gathering.{Last, Same}
use Rattle.opening.proofs.Turns.{order_fresh, order_room}
use Rattle.opening.specs.Begin as begin
use Rattle.elimination.specs.declared.Turn.{Turn}
use Rattle.standing.specs.Standing.{Standing}

-- the memory stands for the state st, whose pivot is p, of degree d
pub record Before (N n nd size : ℕ) (l s : List ℤ) (t : Turn) (x : Outcomes.Statistics) (st : State) (rm : room.Room) (p d : ℕ) : Type 0 where
  pub inv : Inv n st
  pub weighed : Weighed st
  pub which : pivot st ≡ found p d
  pub many : n ≤ N
  pub few : N ≤ base_limits.most_columns
  pub wide : room.all_places st.graph + n ≤ size
  pub narrow : size < 2 ^ 62
  pub stands : Standing N n nd size l s t x st rm

module _ {N n nd size : ℕ} {l s : List ℤ} {t : Turn} {x : Outcomes.Statistics} {st : State} {rm : room.Room} {p d : ℕ} (b : Before N n nd size l s t x st rm p d) where
  abbrev h : Standing N n nd size l s t x st rm
  h = b.stands

  abbrev g : Graph
  g = st.graph

  abbrev new : List ℕ
  new = collected g p

  pub chosen : Pivoted st p d
  chosen = pivoted st b.inv p d b.which

  pub pivot_var : Var st.graph p
  pivot_var = chosen.is_var

  pub pivot_low : p < n
  pivot_low = var_inside b.inv.graph p pivot_var

  pub rows_short : N < 2 ^ 21
  unfolding base_limits
  rows_short = omega (arith, b.few)

  pub small : n < 2 ^ 63
  small = omega (arith, b.many, rows_short)

  narrower : length l < 2 ^ 63
  narrower = omega (arith, b.narrow, h.long)

  roomy : room.all_places st.graph + n ≤ length l
  roomy = omega (arith, b.wide, h.long)

  turns : t.made < n
  turns = order_room n s g t.made h.ordered b.inv.graph p pivot_var

  fresh : (i : ℕ) → i < t.made → rd n ORD s i ≡ p → ⊥
  fresh = order_fresh n s g t.made h.ordered p pivot_var

  -- the flag is far from the end of a cell
  pub flag_low : t.flag < 2 ^ 43
  flag_low =
      let z : st.gone ≤ n = omega (arith, b.inv.counted) in
      omega (arith, h.low, mul-le-mul_left (2 * n) z, flag_small n (omega (arith, b.many, b.few)))

  -- no row weighs more than the flag
  light : (i : ℕ) → Var st.graph i → weight st.graph i ≤ t.flag
  light i w = omega (arith, weight_below st b.inv b.weighed t.most h.most i w, h.two, h.above)

  -- ---- step 2

  abbrev pub begun : Outside
  begun = begin.pivoted n p t.base t.free t.made l s

  pub drawn₁ : Within n begun.lists begun.mem (passed st.graph p) p (collected st.graph p) begun.made.made begun.made.base begun.made.free
  drawn₁ = begun_drawn n l s st b.inv b.weighed p d b.which t.made t.base t.free small narrower h.drawn turns fresh roomy rm h.free

  chained₁ : Chained n begun.mem (queue_of (delisted g st.queues (p ∷ new)))
  chained₁ = begun_queues n l s st b.inv b.weighed p d b.which t.made t.base t.free small narrower h.drawn turns fresh roomy rm h.free h.chained

  pub flagged₁ : Flagged n begun.mem (passed st.graph p) t.flag
  flagged₁ = begun_flags n l s st b.inv b.weighed p d b.which t.made t.base t.free small narrower h.drawn turns fresh roomy rm h.free t.flag h.flagged

  logged₁ : Logged n begun.mem (passed g p) h.merges
  logged₁ = begun_log n l s st b.inv b.weighed p d b.which t.made t.base t.free small narrower h.drawn turns fresh roomy rm h.free h.merges h.logged

  keys₁ : (v : ℕ) → rd n HHEAD begun.mem v ≡ rd n HHEAD s v
  keys₁ = begun_keys n l s st b.inv b.weighed p d b.which t.made t.base t.free small narrower h.drawn turns fresh roomy rm h.free

  pub list₁ : entries (at begun.lists) begun.made.start begun.made.count ≡ collected st.graph p
  list₁ = begun_list n l s st b.inv b.weighed p d b.which t.made t.base t.free small narrower h.drawn turns fresh roomy rm h.free

  pub place₁ : rd n PE begun.mem p ≡ begun.made.start
  place₁ = begun_place n l s st b.inv b.weighed p d b.which t.made t.base t.free small narrower h.drawn turns fresh roomy rm h.free

  pub extent₁ : rd n LEN begun.mem p ≡ begun.made.count
  extent₁ = begun_count n l s st b.inv b.weighed p d b.which t.made t.base t.free small narrower h.drawn turns fresh roomy rm h.free

  -- the new element lies inside the list space
  pub inside₁ : 0 < begun.made.count → begun.made.start + begun.made.count ≤ length begun.lists
  inside₁ z =
      omega (
        arith,
        place₁,
        extent₁,
        inside_space begun.lists (places n begun.mem) begun.made.free (upd (list_of (passed g p)) p new) drawn₁.space.lists p (rw extent₁ z),
      )

  pub long₁ : length begun.lists ≡ size
  long₁ = begun_long n l s st b.inv b.weighed p d b.which t.made t.base t.free small narrower h.drawn turns fresh roomy rm h.free ∙ h.long

  pub counted₁ : begun.made.count ≡ length (collected st.graph p)
  counted₁ = sym (entries_length (at begun.lists) begun.made.start begun.made.count) ∙ ap length list₁

  -- a pivot with elements, and one without
  pub lasts₁ : 0 < length (elements_of st.graph p) → Last n st.graph p l s t.made rm begun
  lasts₁ = begun_last n l s st b.inv b.weighed p d b.which t.made t.base t.free small narrower h.drawn turns fresh roomy rm h.free

  pub sames₁ : elements_of st.graph p ≡ [] → Same n p s t.made t.base t.free begun
  sames₁ = begun_same n l s st b.inv b.weighed p d b.which t.made t.base t.free small narrower h.drawn turns fresh roomy rm h.free

  pub elens₁ : (v : ℕ) → rd n ELEN begun.mem v ≡ rd n ELEN s v
  elens₁ v =
      begun_fields n l s st b.inv b.weighed p d b.which t.made t.base t.free small narrower h.drawn turns fresh roomy rm h.free ELEN v
      refl refl refl refl refl refl refl refl refl

  -- ---- step 3

  abbrev pub sized : List ℤ
  sized = sized_all n begun.lists t.flag begun.made.start begun.made.count begun.mem

  pub outside₂ : sizing.Outside n t.flag begun.mem sized (passed st.graph p) (collected st.graph p)
  outside₂ =
      subst (λ (a : ℕ). sizing.Outside n t.flag begun.mem (sized_all n begun.lists t.flag a begun.made.count begun.mem) (passed g p) new) place₁
      (subst (λ (k : ℕ). sizing.Outside n t.flag begun.mem (sized_all n begun.lists t.flag (rd n PE begun.mem p) k begun.mem) (passed g p) new) (sym counted₁)
      (outside_all st b.inv p pivot_var begun.lists begun.mem begun.made.made begun.made.base begun.made.free t.flag drawn₁ flagged₁
      (omega (arith, flag_low, b.many, rows_short)) light))

  pub drawn₂ : Within n begun.lists sized (passed st.graph p) p (collected st.graph p) begun.made.made begun.made.base begun.made.free
  drawn₂ = drawn_kept outside₂.kept drawn₁

  pub logged₂ : Logged n sized (passed st.graph p) b.stands.merges
  logged₂ = logged_kept outside₂.kept logged₁

  -- the flag with the largest remaining weight is above every counter
  pub flagged₂ : Flagged n sized (passed st.graph p) (t.flag + t.most)
  flagged₂ = flagged_outside st b.inv p pivot_var begun.mem sized outside₂ flagged₁ t.most h.most

  pub chained₂ : Chained n sized (queue_of (delisted st.graph st.queues (p ∷ collected st.graph p)))
  chained₂ =
      chained_same chained₁ sized (λ i. outside₂.kept.fields HEAD i refl) (λ i. outside₂.kept.fields NEXT i refl) (λ i. outside₂.kept.fields LAST i refl)
      (λ i. outside₂.kept.fields DEGREE i refl)

  pub heads₂ : (k : ℕ) → k < n → rd n HHEAD sized k ≡ n
  heads₂ k a = outside₂.kept.fields HHEAD k refl ∙ keys₁ k ∙ h.heads k a

  pub place₂ : rd n PE sized p ≡ begun.made.start
  place₂ = outside₂.kept.fields PE p refl ∙ place₁

  pub extent₂ : rd n LEN sized p ≡ begun.made.count
  extent₂ = outside₂.kept.fields LEN p refl ∙ extent₁
