-- P3: what is written, then what is still to come from the row that comes next and from the stack, is the whole order at every step; and each step is one less of
-- what is left, so twice as many steps as there are rows do it.
-- Assumes nothing.
use Prim.Native.Nat.{ℕ, suc, ◌+◌, ◌-◌, ◌*◌, ◌^◌, ◌≤◌, ◌<◌}
use native.Mathlib.Omega.{arith}
use mathlib.Core.Path.{◌≡◌, refl, sym, ap, ◌∙◌, subst}
use mathlib.Core.Logic.{◌≢◌}
use mathlib.Core.Bool.{false}
use mathlib.Core.List.{List, [], ◌∷◌, ◌++◌, flat_map, append_assoc, append-nil}
use lib.Dec.{ltb, eqb}
use lib.IntN.{ℤ}
use lib.ListN.{length, length-append}
use borrow.Author.Tests.{lt-ltb, ltb-true, ltb-false}
use Rattle.plain.proofs.Logic.{cond_has}
use Rattle.plain.proofs.Parts.{middle_new}
use Rattle.plain.proofs.Turns.{times_keeps}
use Rattle.plain.specs.Lists.{member}
use Rattle.plain.specs.Members.{Distinct}
use Rattle.plain.specs.Permutations.{Permutation}
use Rattle.plain.specs.Turns.{times}
use Rattle.cells.proofs.Fields.{room_up}
use Rattle.cells.proofs.Laws.{mem, room_yes, rd_up_hit, rd_up_field}
use Rattle.cells.proofs.Slices.{plus_sum}
use Rattle.cells.specs.Layout.{SIBLING, STACK, FIRST}
use Rattle.cells.specs.View.{rd, up, Room}
use Rattle.tree.specs.Hanging.{Chain, Hanging}
use Rattle.tree.specs.Model.{Sheets, Tour, deeper, top, higher, entered, left_behind, stepped, begun, walked}
use Rattle.tree.proofs.Sheet.{Sheet, sheet_more}

-- a row of the stack, with the rows behind it in its list
pub record Frame : Type 0 where
  pub row : ℕ
  pub behind : List ℕ

-- of a stack, the top first: where its rows stand
abbrev pub Stacked : ℕ → (ℕ → ℕ) → (ℕ → ℕ) → List Frame → Type 0
Stacked n sib at [] = Unit {0}
Stacked n sib at (f ∷ fs) = (at (length fs) ≡ f.row) × (f.row < n) × Chain n sib (sib f.row) f.behind × Stacked n sib at fs

stacked_same : (n : ℕ) (sib at at' : ℕ → ℕ) (fs : List Frame) → ((t : ℕ) → t < length fs → at' t ≡ at t) → Stacked n sib at fs → Stacked n sib at' fs
stacked_same n sib at at' [] h k = tt
stacked_same n sib at at' (f ∷ fs) h k = (h (length fs) (omega arith) ∙ k.0, k.1, k.2, stacked_same n sib at at' fs (λ t l. h t (omega arith)) k.3)

module _ (full : ℕ → List ℕ) where
  -- what the stack has still to give
  unfoldable pub due : List Frame → List ℕ
  due [] = []
  due (f ∷ fs) = f.row ∷ (flat_map full f.behind ++ due fs)

  -- how many steps are left
  unfoldable pub cost : List Frame → ℕ
  cost [] = 0
  cost (f ∷ fs) = suc (2 * length (flat_map full f.behind) + cost fs)

  due_long : (fs : List Frame) → length fs ≤ length (due fs)
  unfolding due
  due_long [] = omega arith
  due_long (f ∷ fs) = omega (arith, due_long fs, length-append (flat_map full f.behind) (due fs))

  due_none : (fs : List Frame) → cost fs ≡ 0 → due fs ≡ []
  unfolding due cost
  due_none [] h = refl
  due_none (f ∷ fs) h = absurd (omega arith)

module _ (n : ℕ) (s : List ℤ) (L : ℕ → List ℕ) (full : ℕ → List ℕ) (all : List ℕ) where
  -- the state after k steps
  pub record Touring (k : ℕ) (m : Tour) : Type 0 where
    pub out : List ℕ
    pub todo : List ℕ
    pub frames : List Frame
    pub room : Room n m.mem
    pub kept : (f i : ℕ) → eqb STACK f ≡ false → rd n f m.mem i ≡ rd n f s i
    pub here : Chain n (rd n SIBLING s) m.st.row todo
    pub deep : m.st.depth ≡ length frames
    pub stack : Stacked n (rd n SIBLING s) (rd n STACK m.mem) frames
    pub count : m.st.done ≡ length out
    pub whole : out ++ (flat_map full todo ++ due full frames) ≡ all
    pub left : 2 * length (flat_map full todo) + cost full frames ≡ 2 * n - k
    pub sheet : Sheet n out m.out

  module _ (small : n < 2 ^ 31) (perm : Permutation n all) (hang : Hanging n s L) (grown : (v : ℕ) → v < n → full v ≡ flat_map full (L v) ++ (v ∷ [])) where
    sizes : (k : ℕ) (m : Tour) (h : Touring k m) → length h.out + (length (flat_map full h.todo) + length (due full h.frames)) ≡ n
    sizes k m h =
        omega (arith, ap length h.whole, perm.size, length-append h.out (flat_map full h.todo ++ due full h.frames), length-append (flat_map full h.todo) (due full h.frames))

    grown_length : (v : ℕ) → v < n → length (full v) ≡ suc (length (flat_map full (L v)))
    grown_length v l = omega (arith, ap length (grown v l), length-append (flat_map full (L v)) (v ∷ []))

    -- ---- a row is entered

    module _ (k : ℕ) (m : Tour) (h : Touring k m) (i : ℕ) (l : List ℕ) (is : h.todo ≡ i ∷ l) (at : m.st.row ≡ i) (li : i < n) (next : Chain n (rd n SIBLING s) (rd n SIBLING s i) l) where
      first_part : flat_map full h.todo ≡ full i ++ flat_map full l
      unfolding flat_map
      first_part = rw is

      fits : length h.frames < n
      fits = omega (arith, sizes k m h, ap length first_part, length-append (full i) (flat_map full l), grown_length i li, due_long full h.frames)

      abbrev f : Frame
      f = record { row = i; behind = l }

      abbrev t : List ℤ
      t = up n STACK m.mem m.st.depth m.st.row

      stacked : Stacked n (rd n SIBLING s) (rd n STACK t) h.frames
      stacked = stacked_same n (rd n SIBLING s) (rd n STACK m.mem) (rd n STACK t) h.frames (λ j u. let ne : m.st.depth ≢ j = λ e. omega (arith, h.deep) in simp mem) h.stack

      on_top : rd n STACK t (length h.frames) ≡ i
      on_top =
          ap (λ (d : ℕ). rd n STACK t d) (sym h.deep)
          ∙ rd_up_hit n STACK m.mem m.st.depth m.st.row refl (room_yes n m.mem h.room) (lt-ltb m.st.depth n (omega (arith, h.deep, fits))) ∙ at

      whole_in : h.out ++ (flat_map full (L i) ++ due full (f ∷ h.frames)) ≡ all
      unfolding due
      whole_in = ap (λ (x : List ℕ). h.out ++ x) (regroup) ∙ h.whole
        where
          regroup : flat_map full (L i) ++ (i ∷ (flat_map full l ++ due full h.frames)) ≡ flat_map full h.todo ++ due full h.frames
          regroup = rw (first_part, grown i li) (simp append_assoc)

      left_in : 2 * length (flat_map full (L i)) + cost full (f ∷ h.frames) ≡ 2 * n - suc k
      unfolding cost
      left_in = omega (arith, h.left, ap length first_part, length-append (full i) (flat_map full l), grown_length i li)

      enter : Touring (suc k) (entered n m)
      unfolding entered deeper
      enter = record {
        out = h.out;
        todo = L i;
        frames = f ∷ h.frames;
        room = room_up n STACK m.mem m.st.depth m.st.row h.room;
        kept = λ g j e. rd_up_field n STACK g m.mem m.st.depth m.st.row j e ∙ h.kept g j e;
        here = rw (at, h.kept FIRST i refl) (hang.under i (omega arith));
        deep = plus_sum m.st.depth 1 (omega (arith, h.deep, fits)) ∙ ap (λ (d : ℕ). d + 1) h.deep ∙ omega arith;
        stack = (on_top, li, next, stacked);
        count = h.count;
        whole = whole_in;
        left = left_in;
        sheet = h.sheet;
      }

    -- ---- a row is left

    module _ (k : ℕ) (m : Tour) (h : Touring k m) (f : Frame) (fs : List Frame) (is : h.frames ≡ f ∷ fs) (none_left : h.todo ≡ [])
        (held : Stacked n (rd n SIBLING s) (rd n STACK m.mem) (f ∷ fs)) where
      abbrev v : ℕ
      v = f.row

      whole_now : h.out ++ (v ∷ (flat_map full f.behind ++ due full fs)) ≡ all
      unfolding due flat_map
      whole_now = subst (λ (x : List Frame). h.out ++ due full x ≡ all) is (subst (λ (x : List ℕ). h.out ++ (flat_map full x ++ due full h.frames) ≡ all) none_left h.whole)

      under_top : m.st.depth - 1 ≡ length fs
      under_top = omega (arith, h.deep, ap length is)

      top_row : top n m.mem m.st ≡ v
      unfolding top
      top_row = ap (λ (d : ℕ). rd n STACK m.mem d) under_top ∙ held.0

      room_out : length h.out < n
      room_out = omega (arith, perm.size, ap length whole_now, length-append h.out (v ∷ (flat_map full f.behind ++ due full fs)))

      whole_out : (h.out ++ (v ∷ [])) ++ (flat_map full f.behind ++ due full fs) ≡ all
      whole_out = append_assoc h.out (v ∷ []) (flat_map full f.behind ++ due full fs) ∙ whole_now

      left_out_lem : 2 * length (flat_map full f.behind) + cost full fs ≡ 2 * n - suc k
      unfolding cost flat_map
      left_out_lem =
          let a : 2 * length (flat_map full []) + cost full h.frames ≡ 2 * n - k = subst (λ (x : List ℕ). 2 * length (flat_map full x) + cost full h.frames ≡ 2 * n - k) none_left h.left in
          omega (arith, ap (cost full) is)

      new_row : member v h.out ≡ false
      new_row = middle_new h.out v (flat_map full f.behind ++ due full fs) (subst (λ (x : List ℕ). Distinct x) (sym whole_now) perm.once)

      leave : Touring (suc k) (left_behind n m)
      unfolding left_behind higher
      leave = rw (top_row, h.count) (record {
        out = h.out ++ (v ∷ []);
        todo = f.behind;
        frames = fs;
        room = h.room;
        kept = h.kept;
        here = rw (h.kept SIBLING v refl) held.2;
        deep = under_top;
        stack = held.3;
        count = plus_sum (length h.out) 1 (omega (arith, room_out)) ∙ sym (length-append h.out (v ∷ []));
        whole = whole_out;
        left = left_out_lem;
        sheet = sheet_more n v h.out m.out h.sheet room_out held.1 new_row;
      })

    -- ---- any step

    module _ (k : ℕ) (m : Tour) (h : Touring k m) where
      no_row : (x : List ℕ) → Chain n (rd n SIBLING s) m.st.row x → n ≤ m.st.row → x ≡ []
      no_row [] c l = refl
      no_row (i ∷ x) c l = absurd (omega (arith, c.0, c.1))

      no_frame : (fs : List Frame) → length fs ≡ 0 → fs ≡ []
      no_frame [] e = refl
      no_frame (f ∷ fs) e = absurd (omega arith)

      go_in : (x : List ℕ) → h.todo ≡ x → Chain n (rd n SIBLING s) m.st.row x → m.st.row < n → Touring (suc k) (entered n m)
      go_in [] e c l = absurd (let z : m.st.row ≡ n = c in omega arith)
      go_in (i ∷ x) e c l = enter k m h i x e c.0 c.1 c.2

      go_out : (fs : List Frame) → h.frames ≡ fs → Stacked n (rd n SIBLING s) (rd n STACK m.mem) fs → h.todo ≡ [] → 0 < m.st.depth → Touring (suc k) (left_behind n m)
      go_out [] e c z d = absurd (omega (arith, h.deep, ap length e))
      go_out (f ∷ fs) e c z d = leave k m h f fs e z c

      nothing_left : h.todo ≡ [] → h.frames ≡ [] → 2 * length (flat_map full h.todo) + cost full h.frames ≡ 0
      unfolding cost flat_map
      nothing_left a b = rw (a, b)

      stay : h.todo ≡ [] → h.frames ≡ [] → Touring (suc k) m
      stay a b = record {
        out = h.out;
        todo = h.todo;
        frames = h.frames;
        room = h.room;
        kept = h.kept;
        here = h.here;
        deep = h.deep;
        stack = h.stack;
        count = h.count;
        whole = h.whole;
        left = omega (arith, nothing_left a b, h.left);
        sheet = h.sheet;
      }

      step : Touring (suc k) (stepped n m)
      unfolding stepped
      step =
          cond_has (Touring (suc k)) (ltb m.st.row n) (λ t. go_in h.todo refl h.here (ltb-true m.st.row n t))
          (λ t. let z = no_row h.todo h.here (ltb-false m.st.row n t) in
          cond_has (Touring (suc k)) (ltb 0 m.st.depth) (λ d. go_out h.frames refl h.stack z (ltb-true 0 m.st.depth d))
          (λ d. stay z (no_frame h.frames (omega (arith, h.deep, ltb-false 0 m.st.depth d)))))

    -- ---- from the first row under n on

    module _ (o : Sheets) (long : length o.permutation ≡ n) (wide : length o.inverse ≡ n) (room : Room n s) (is_all : flat_map full (L n) ≡ all) where
      start : Touring 0 (begun n s o)
      unfolding due cost
      start = record {
        out = [];
        todo = L n;
        frames = [];
        room = room;
        kept = λ f i e. refl;
        here = hang.under n (omega arith);
        deep = refl;
        stack = tt;
        count = refl;
        whole = append-nil (flat_map full (L n)) ∙ is_all;
        left = omega (arith, ap length is_all, perm.size);
        sheet = record { long = long; wide = wide; row = λ k l. absurd (omega arith); place = λ k l. absurd (omega arith) };
      }

      empty : (x : List ℕ) → length x ≡ 0 → x ≡ []
      empty [] e = refl
      empty (y ∷ x) e = absurd (omega arith)

      over : (m : Tour) → Touring (2 * n) m → Sheet n all m.out
      over m h =
          let a : flat_map full h.todo ≡ [] = empty (flat_map full h.todo) (omega (arith, h.left)) in
          let b : due full h.frames ≡ [] = due_none full h.frames (omega (arith, h.left)) in
          subst (λ (x : List ℕ). Sheet n x m.out) (sym (append-nil h.out) ∙ ap (λ (x : List ℕ). h.out ++ x) (sym (rw (a, b))) ∙ h.whole) h.sheet

      -- P3: the walk writes the whole order
      pub walked_all : Sheet n all (walked n s o)
      unfolding walked
      walked_all =
          over (times (2 * n) (λ j. stepped n) (begun n s o))
          (times_keeps Touring (λ j. stepped n) (2 * n) (λ k m l h. step k m h) (2 * n) (begun n s o) (omega arith) start)
