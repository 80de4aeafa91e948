-- The gather of a new element's list outside of its old place (PROOF-PLAN 4.5): `gathered_rep`. At most one collection, of whole lists only; it happens exactly
-- where definition C has it, and the free end is the one of definition C.
-- Assumes nothing.
use Rattle.std.proofs.Common.{◌≡◌, ℕ, suc, ◌+◌, ◌-◌, ◌^◌, ◌<◌, ◌≤◌, Bool, true, false, cond, eqb, ◌≢◌, ◌⊎◌, List, [], ◌++◌, length, get_or, ℤ, sym, refl, ap, ◌∙◌, inl, inr, ⊎_elim, arith, length-append, lt-ltb}
use mathlib.Core.List.{flat_map, foldl}
use mathlib.Core.Option.{none, some}
use mathlib.Core.Path.{subst⁻¹}
use lib.ListN.{get_or-eq_default, length-map}
use Rattle.plain.proofs.Entries.{entries_same, upd_other, upd_same}
use Rattle.plain.proofs.Members.{apart}
use Rattle.plain.proofs.Repeats.{length_below}
use Rattle.plain.specs.Lists.{member, total}
use Rattle.plain.specs.Members.{Distinct, In}
use Rattle.plain.specs.Turns.{entries, firsts, upd}
use Rattle.definition.specs.Room.{Read}
use Rattle.cells.proofs.Slices.{plus_sum, same?, split}
use Rattle.cells.proofs.Laws.{parent_up_field, rd_up_field}
use Rattle.cells.proofs.Rows.{clipped_part}
use Rattle.cells.specs.Layout.{DEGREE, ELEN, HEAD, LAST, LEN, NEXT, ORD, PE, TMP, W, WANT}
use Rattle.cells.specs.Links.{parent}
use Rattle.cells.specs.View.{plus, rd, up}
use Rattle.chain.proofs.Alike.{Alike, alike_then, fold_alike}
use Rattle.chain.specs.Model.{removed}
use Rattle.packed.specs.Gather.{Cleared, Outside, cleared, collected_rest, gathered_outside, made_room, settled, summed}
use Rattle.packed.specs.Model.{entered, laid, packed_all}
use Rattle.packed.specs.Places.{Owns, Space, places, sum_to}
use Rattle.packed.specs.Reading.{after_parts, entries_of, picked, read_all, sofar_of}
use Rattle.packed.specs.Tray.{taking, took_all}
use Rattle.packed.proofs.Collection.{collected}
use Rattle.packed.proofs.Dropping.{Dropped, absorb_fold, dropped_fold, except, space_fold, sum_without}
use Rattle.packed.proofs.Frame.{len_of}
use Rattle.packed.proofs.Gathers.{room_no_step, room_yes_step}
use Rattle.packed.proofs.Picked.{after_is, picked_new}
use Rattle.packed.proofs.Readings.{holds_all}
use Rattle.packed.proofs.Settling.{Ready, Settled, settled_there}
use Rattle.packed.proofs.Spaces.{space_dropped, space_renamed, space_same}
use Rattle.packed.proofs.Sums.{sum_change}
use Rattle.packed.proofs.Taking.{Holds, wants}
use Rattle.packed.specs.declared.Tray.{Tray}

-- from the spaces l and s, m is what the gather of the entries q leaves, for me with the elements es
pub record Gathered (n : ℕ) (X : ℕ → List ℕ) (l s : List ℤ) (made base lim me : ℕ) (es : List ℕ) (q : List Read) (m : Outside) : Type 0 where
  pub space : Space n (upd (except X es []) me (entries_of q)) m.lists m.mem (suc made) m.made.base m.made.free
  pub place : rd n PE m.mem me ≡ m.made.start
  pub own : parent n m.mem me ≡ none
  -- nobody else stands there, or behind
  pub others : (i c : ℕ) → i ≢ me → Owns (places n m.mem) i c → c < m.made.start
  pub wide : m.made.base ≤ m.made.start
  pub count : m.made.count ≡ length q
  pub free : m.made.free ≡ m.made.start + length q
  pub turns : m.made.made ≡ suc made
  pub long : length m.lists ≡ length l
  pub want : (i : ℕ) → rd n WANT m.mem i ≡ except (rd n WANT s) (entries_of q) 0 i
  pub table : entries (rd n TMP m.mem) 0 (length q) ≡ entries_of q
  pub order : (t : ℕ) → t ≢ made → rd n ORD m.mem t ≡ rd n ORD s t
  pub last : rd n ORD m.mem made ≡ me
  -- the rows that were collected left their degree lists
  pub queues : Alike n (foldl (λ a v. removed n a v) s (entries_of q)) m.mem
  pub fields : (f i : ℕ) → eqb PE f ≡ false → eqb LEN f ≡ false → eqb WANT f ≡ false → eqb TMP f ≡ false → eqb ORD f ≡ false → eqb W f ≡ false → eqb HEAD f ≡ false
      → eqb NEXT f ≡ false → eqb LAST f ≡ false → rd n f m.mem i ≡ rd n f s i
  -- me took up its elements
  pub w : (i : ℕ) → rd n W m.mem i ≡ except (rd n W s) es 0 i
  pub taken : (i : ℕ) → In i es → parent n m.mem i ≡ some me
  -- what else is dead keeps its place and its parent
  pub dead : (i : ℕ) → i ≢ me → member i es ≡ false → rd n LEN m.mem i ≡ 0 → rd n PE m.mem i ≡ rd n PE s i
  pub parents : (i : ℕ) → i ≢ me → member i es ≡ false → rd n LEN m.mem i ≡ 0 → parent n m.mem i ≡ parent n s i
  -- there is a place for each: no collection
  pub kept : length q ≤ length l - lim → (m.made.start ≡ lim) × (m.made.base ≡ base) × (m.made.collected ≡ 0)
  -- there is not: one, at the entry number length l - lim, counted from 0
  pub moved : length l - lim < length q → (m.made.start ≡ sum_to n (λ i. length (X i)) - get_or (sofar_of q) (length l - lim) 0) × (m.made.collected ≡ 1)

-- where it stands in the room, and what is there
module _ (n : ℕ) (X : ℕ → List ℕ) (l s : List ℤ) (made base lim : ℕ) (g : Space n X l s made base lim) (small : n < 2 ^ 63) (narrow : length l < 2 ^ 63) where
  under : lim < 2 ^ 63
  under = omega (arith, g.lists.fits)

  -- the lists hold no more than lies below the limit
  pub all_low : sum_to n (λ i. length (X i)) ≤ lim
  all_low = let c = collected n X lim under l s base made g in omega (arith, c.total, c.before)

  module _ (me : ℕ) (hm : me < n) (es vs : List ℕ) (parts : X me ≡ es ++ vs) (elen : rd n ELEN s me ≡ length es)
      (once : Distinct es) (away : member me es ≡ false) (low : (e : ℕ) → In e es → e < n) where
    abbrev L : ℕ → ℕ
    L i = length (X i)

    -- what is left when they are freed
    abbrev Y : ℕ → List ℕ
    Y = upd (except X es []) me []

    length_cond : (b : Bool) (x : List ℕ) → length (cond b [] x) ≡ cond b 0 (length x)
    length_cond true x = refl
    length_cond false x = refl

    left_sum : sum_to n (λ i. length (Y i)) + (total L es + L me) ≡ sum_to n L
    left_sum =
        let c = sum_change n (except L es 0) (λ i. length (Y i)) me hm (λ i d. ap length (upd_other (except X es []) me [] i d) ∙ length_cond (member i es) (X i)) in
        let u : except L es 0 me ≡ L me = rw away in
        let v : length (Y me) ≡ 0 = ap length (upd_same (except X es []) me []) in
        omega (arith, c, u, v, sum_without n L es once low)

    -- all that is read are the cells of me and of its elements
    read_sum : after_parts X 0 es + length vs ≡ total L es + L me
    read_sum = omega (arith, after_is X 0 es, ap length parts, length-append es vs)

    left_as : (new : List ℕ) (i : ℕ) → upd Y me new i ≡ upd (except X es []) me new i
    left_as new i = ⊎_elim
        (λ e. rw e (upd_same Y me new ∙ sym (upd_same (except X es []) me new)))
        (λ d. upd_other Y me new i d ∙ upd_other (except X es []) me [] i d ∙ sym (upd_other (except X es []) me new i d))
        (same? i me)

    abbrev quota : ℕ
    quota = length l - lim

    abbrev q : List Read
    q = picked (wants n s) (read_all X es vs)

    abbrev reads : ℕ
    reads = after_parts X 0 es + length vs

    -- when the elements are taken up
    abbrev s' : List ℤ
    s' = absorb_fold n me s es

    freed : Dropped n me es s s'
    freed = dropped_fold n me hm es s g.room low

    taken : Holds n quota s' q reads (took_all n quota l s me)
    taken = holds_all n me quota l X s g.room lim g.lists hm es vs parts elen once away low under (omega (arith, read_sum, left_sum, all_low))

    -- no more than there are numbers
    pub few : length q ≤ n
    few = omega (arith, length_below n (entries_of q) taken.once taken.low, length-map q (λ (a : Read). a.entry))

    module _ (turns : made < n) (fresh : (t : ℕ) → t < made → rd n ORD s t ≢ me) (s₁ : List ℤ) (t : Tray) (h : Holds n quota s' q reads (taking s₁ t)) where
      -- and me has no list any more
      s₂ : List ℤ
      s₂ = up n LEN s₁ me 0

      space₂ : Space n Y l s₂ made base lim
      unfolding s₂
      space₂ =
          space_dropped n (except X es []) l s₁ made base lim
          (space_same n (except X es []) l s' made base lim (space_fold n me l made base lim es X s low g) s₁ h.room
          (λ i. h.fields PE i refl refl refl refl refl) (λ i. h.fields LEN i refl refl refl refl refl) (λ i. h.fields ORD i refl refl refl refl refl)) me hm

      -- what else it has is as the reading left it
      stays : (c i : ℕ) → eqb LEN c ≡ false → rd n c s₂ i ≡ rd n c s₁ i
      unfolding s₂
      stays c i e = rd_up_field n LEN c s₁ me 0 i e

      parents₂ : (i : ℕ) → parent n s₂ i ≡ parent n s' i
      unfolding s₂
      parents₂ i = parent_up_field n LEN s₁ me 0 i refl ∙ h.parents i

      alike : Alike n s s'
      alike =
          record {
            head = λ i. freed.fields HEAD i refl refl refl;
            next = λ i. freed.fields NEXT i refl refl refl;
            last = λ i. freed.fields LAST i refl refl refl;
            degree = λ i. freed.fields DEGREE i refl refl refl;
          }

      -- there is a place for each
      ready_kept : length q ≤ quota → Ready n Y l s₂ made (length q) (cleared l s₂ (record { base = base; end = lim }))
      ready_kept b =
          record {
            top = lim;
            space = space₂;
            behind = omega arith;
            fits = omega (arith, g.lists.fits);
            long = refl;
            fields = λ f i e. refl;
            dead = λ i z. refl;
            parents = λ i z. refl;
          }

      -- there is not: the end is where definition C has it
      moved_end : sum_to n L + n ≤ length l → (collected_rest n base lim made t l s₂).ends.end ≡ sum_to n L - t.mark
      unfolding collected_rest
      moved_end room =
          let c = collected n Y lim under l s₂ base made space₂ in
          let e = (packed_all n base lim made l s₂).end in
          let m : t.mark ≤ reads = omega (arith, h.mark, h.late quota) in
          omega (arith, clipped_part (length l) e (t.reads - t.mark) (λ z. omega (arith, c.total, h.reads, read_sum, left_sum)), c.total, h.reads, read_sum, left_sum)

      ready_moved : sum_to n L + n ≤ length l → Ready n Y l s₂ made (length q) (collected_rest n base lim made t l s₂)
      unfolding collected_rest
      ready_moved room =
          let c = collected n Y lim under l s₂ base made space₂ in
          record {
            top = (packed_all n base lim made l s₂).end;
            space = c.space;
            behind = omega arith;
            fits = omega (arith, moved_end room, few);
            long = c.long;
            fields = c.fields;
            dead = c.dead;
            parents = c.parents;
          }

      abbrev new : List ℕ
      new = entries_of q

      new_length : length new ≡ length q
      new_length = length-map q (λ (a : Read). a.entry)

      table₂ : entries (rd n TMP s₂) 0 (length new) ≡ new
      table₂ = rw new_length (entries_same (rd n TMP s₁) (rd n TMP s₂) 0 0 (length q) (λ i b. stays TMP (0 + i) refl) ∙ h.table)

      fresh₂ : (i : ℕ) → i < made → rd n ORD s₂ i ≢ me
      fresh₂ i b e = fresh i b (sym (freed.fields ORD i refl refl refl) ∙ sym (h.fields ORD i refl refl refl refl refl) ∙ sym (stays ORD i refl) ∙ e)

      module _ (c : Cleared) (r : Ready n Y l s₂ made (length q) c) where
        stands : Settled n Y l s₂ made me c.ends.end c.ends.base new (laid n c.mem c.ends.end t.cnt c.lists) (entered n c.mem made me c.ends.end t.cnt)
        stands =
            let e : t.cnt ≡ length new = h.cnt ∙ sym new_length in
            subst⁻¹ (λ (k : ℕ). Settled n Y l s₂ made me c.ends.end c.ends.base new (laid n c.mem c.ends.end k c.lists) (entered n c.mem made me c.ends.end k)) e
            (settled_there n Y l s₂ made me new c hm turns fresh₂ table₂ (rw (← new_length) at r))

        not_me : (i : ℕ) → In i es → i ≢ me
        not_me i a e = apart me i es away a (sym e)

        -- an element that was taken up has no list
        len_taken : (i : ℕ) → In i es → rd n LEN (entered n c.mem made me c.ends.end t.cnt) i ≡ 0
        len_taken i a =
            len_of _ (places n (entered n c.mem made me c.ends.end t.cnt)) _ (upd Y me new) stands.space.lists i
            ∙ ap length (upd_other Y me new i (not_me i a) ∙ upd_other (except X es []) me [] i (not_me i a) ∙ ap (λ (b : Bool). cond b [] (X i)) a)

        whole : (length q ≤ quota → (c.ends.end ≡ lim) × (c.ends.base ≡ base) × (t.mark ≡ 0)) → (quota < length q → (c.ends.end ≡ sum_to n L - t.mark) × (0 < t.mark))
            → Gathered n X l s made base lim me es q (settled n me made t c)
        unfolding settled summed
        whole stay move =
            let u : t.cnt ≡ length q = h.cnt in
            let f = r.fits in
            let p : plus c.ends.end t.cnt ≡ c.ends.end + length q = plus_sum c.ends.end t.cnt (omega (arith, u)) ∙ omega (arith, u) in
            record {
              space = rw (p, ← new_length) (space_renamed n (upd Y me new) _ _ (suc made) c.ends.base (c.ends.end + length new) stands.space (upd (except X es []) me new) (left_as new));
              place = stands.place;
              own = stands.own;
              others = stands.others;
              wide = stands.wide;
              count = u;
              free = p;
              turns = plus_sum made 1 (omega arith) ∙ omega arith;
              long = stands.long;
              want = λ i. stands.fields WANT i refl refl refl ∙ stays WANT i refl ∙ h.want i ∙ ap (λ (y : ℕ). cond (member i new) 0 y) (freed.fields WANT i refl refl refl);
              table = entries_same (rd n TMP s₁) (rd n TMP (entered n c.mem made me c.ends.end t.cnt)) 0 0 (length q)
                  (λ i b. stands.fields TMP (0 + i) refl refl refl ∙ stays TMP (0 + i) refl) ∙ h.table;
              order = λ i d. stands.order i d ∙ stays ORD i refl ∙ h.fields ORD i refl refl refl refl refl ∙ freed.fields ORD i refl refl refl;
              last = stands.last;
              queues = alike_then (alike_then (fold_alike n new s s' g.room freed.room alike) h.queues)
                  record {
                    head = λ i. stands.fields HEAD i refl refl refl ∙ stays HEAD i refl;
                    next = λ i. stands.fields NEXT i refl refl refl ∙ stays NEXT i refl;
                    last = λ i. stands.fields LAST i refl refl refl ∙ stays LAST i refl;
                    degree = λ i. stands.fields DEGREE i refl refl refl ∙ stays DEGREE i refl;
                  };
              fields = λ k i a b d e o f u v w. stands.fields k i a b o ∙ stays k i b ∙ h.fields k i d e u v w ∙ freed.fields k i b f a;
              w = λ i. stands.fields W i refl refl refl ∙ stays W i refl ∙ h.fields W i refl refl refl refl refl ∙ freed.w i;
              taken = λ i a. stands.parents i (not_me i a) (len_taken i a) ∙ parents₂ i ∙ freed.taken i a;
              dead = λ i d a z. stands.dead i d z ∙ stays PE i refl ∙ h.fields PE i refl refl refl refl refl ∙ freed.others PE i a;
              parents = λ i d a z. stands.parents i d z ∙ parents₂ i ∙ freed.parents i a;
              kept = λ b. let y = stay b in (y.0, y.1, rw y.2);
              moved = λ b. let y = move b in (y.0 ∙ ap (λ (k : ℕ). sum_to n L - k) h.mark, rw (lt-ltb 0 t.mark y.1));
            }

      mark_none : length q ≤ quota → t.mark ≡ 0
      mark_none b = h.mark ∙ get_or-eq_default (sofar_of q) 0 (omega (arith, length-map q (λ (a : Read). a.sofar)))

      mark_some : quota < length q → 0 < t.mark
      mark_some b = omega (arith, h.mark, h.early quota b)

      either_way : sum_to n L + n ≤ length l → (quota < length q) ⊎ (length q ≤ quota)
          → Gathered n X l s made base lim me es q (settled n me made t (made_room n me base lim made t l s₁))
      unfolding s₂
      either_way room (inl b) =
          rw (← room_yes_step n me base lim made t l s₁ s₂ refl (collected_rest n base lim made t l s₂) refl (mark_some b))
          (whole (collected_rest n base lim made t l s₂) (ready_moved room) (λ d. absurd (omega arith)) (λ d. (moved_end room, mark_some b)))
      either_way room (inr b) =
          rw (← room_no_step n me base lim made t l s₁ s₂ refl (omega (arith, mark_none b)))
          (whole (cleared l s₂ (record { base = base; end = lim })) (ready_kept b) (λ d. (refl, refl, mark_none b)) (λ d. absurd (omega arith)))

    -- THE gather
    pub gathered_rep : made < n → ((t : ℕ) → t < made → rd n ORD s t ≢ me) → sum_to n L + n ≤ length l
        → Gathered n X l s made base lim me es q (gathered_outside n me base lim made l s)
    unfolding gathered_outside
    gathered_rep turns fresh room =
        let m = took_all n quota l s me in
        either_way turns fresh m.mem m.tray taken room (split quota (length q))

    -- the list is the first of each wanted number, of the elements' lists in order and then the own variables
    pub gathered_new : entries_of q ≡ firsts (wants n s) (flat_map X es ++ vs)
    gathered_new = picked_new (wants n s) X es vs
