-- The elements that a gather reads are taken up: they have no list, the new element is their parent, and nothing else is changed.
-- Assumes nothing.
use Rattle.std.proofs.Common.{◌≡◌, ℕ, ◌+◌, ◌<◌, Bool, true, false, cond, ◌||◌, eqb, ◌≢◌, ◌⊎◌, List, [], ◌∷◌, ℤ, refl, ap, ◌∙◌, inl, inr, arith, lt-ltb, ne_eqb}
use mathlib.Core.List.{foldl}
use mathlib.Core.Option.{some}
use Rattle.plain.proofs.Entries.{upd_other, upd_same}
use Rattle.plain.proofs.Logic.{either}
use Rattle.plain.proofs.Members.{member_cases, member_here, member_nil, member_there, no_member, not_here, not_there}
use Rattle.plain.specs.Lists.{member, total}
use Rattle.plain.specs.Members.{Distinct, In}
use Rattle.plain.specs.Turns.{upd}
use Rattle.cells.proofs.Fields.{room_up}
use Rattle.cells.proofs.Laws.{mem, room_yes}
use Rattle.cells.proofs.Parents.{named_some, room_hang}
use Rattle.cells.proofs.Slices.{same?}
use Rattle.cells.specs.Layout.{LEN, PE, W}
use Rattle.cells.specs.Links.{named, parent}
use Rattle.cells.specs.View.{Room, rd}
use Rattle.packed.specs.Tray.{absorbed}
use Rattle.packed.specs.Places.{Space, sum_to}
use Rattle.packed.proofs.Spaces.{space_absorbed, space_renamed}
use Rattle.packed.proofs.Sums.{sum_change, sum_same}

-- F with z at every number of a list
abbrev pub except : {A : Type 0} → (ℕ → A) → List ℕ → A → ℕ → A
except F xs z i = cond (member i xs) z (F i)

-- the elements of a list, one after the other
abbrev pub absorb_fold : ℕ → ℕ → List ℤ → List ℕ → List ℤ
absorb_fold n me s es = foldl (λ a e. absorbed n me e a) s es

-- from s to s' the elements es were taken up by me
pub record Dropped (n me : ℕ) (es : List ℕ) (s s' : List ℤ) : Type 0 where
  pub room : Room n s'
  pub w : (i : ℕ) → rd n W s' i ≡ except (rd n W s) es 0 i
  pub fields : (c i : ℕ) → eqb LEN c ≡ false → eqb W c ≡ false → eqb PE c ≡ false → rd n c s' i ≡ rd n c s i
  -- whoever is none of them is as before
  pub others : (c i : ℕ) → member i es ≡ false → rd n c s' i ≡ rd n c s i
  pub parents : (i : ℕ) → member i es ≡ false → parent n s' i ≡ parent n s i
  pub taken : (i : ℕ) → In i es → parent n s' i ≡ some me

module _ {A : Type 0} (F : ℕ → A) (z : A) where
  -- one after the other
  pub except_more : (x : ℕ) (xs : List ℕ) (i : ℕ) → except (upd F x z) xs z i ≡ except F (x ∷ xs) z i
  unfolding upd member
  except_more x xs i = go (eqb i x) (member i xs)
    where
      go : (a b : Bool) → cond b z (cond a z (F i)) ≡ cond (a || b) z (F i)
      go true true = refl
      go true false = refl
      go false b = refl

module _ (n me : ℕ) where
  -- one element

  module _ (s : List ℤ) (x : ℕ) where
    pub absorbed_field : (c i : ℕ) → eqb LEN c ≡ false → eqb W c ≡ false → eqb PE c ≡ false → rd n c (absorbed n me x s) i ≡ rd n c s i
    unfolding absorbed
    absorbed_field c i a b d = simp (mem, a, b, d)

    pub absorbed_other : (c i : ℕ) → i ≢ x → rd n c (absorbed n me x s) i ≡ rd n c s i
    unfolding absorbed
    absorbed_other c i d = simp mem

    pub absorbed_parent : (i : ℕ) → i ≢ x → parent n (absorbed n me x s) i ≡ parent n s i
    unfolding absorbed
    absorbed_parent i d = simp mem

    pub absorbed_room : Room n s → Room n (absorbed n me x s)
    unfolding absorbed
    absorbed_room room = room_hang n _ x _ (room_up n LEN _ x 0 (room_up n W s x 0 room))

    pub absorbed_place : rd n PE (absorbed n me x s) x ≡ 0
    unfolding absorbed
    absorbed_place = simp mem

    module _ (room : Room n s) (b : x < n) where
      pub absorbed_named : parent n (absorbed n me x s) x ≡ named n me
      unfolding absorbed
      absorbed_named = simp (mem, room_yes n s room, lt-ltb x n b)

      pub absorbed_w : rd n W (absorbed n me x s) x ≡ 0
      unfolding absorbed
      absorbed_w = simp (mem, room_yes n s room, lt-ltb x n b)

      pub absorbed_len : rd n LEN (absorbed n me x s) x ≡ 0
      unfolding absorbed
      absorbed_len = simp (mem, room_yes n s room, lt-ltb x n b)

      w_stored : (i : ℕ) → (i ≡ x) ⊎ (i ≢ x) → rd n W (absorbed n me x s) i ≡ upd (rd n W s) x 0 i
      w_stored i (inl e) = rw (e, upd_same (rd n W s) x 0) absorbed_w
      w_stored i (inr d) = rw (upd_other (rd n W s) x 0 i d) (absorbed_other W i d)

  -- all

  pub dropped_fold : me < n → (es : List ℕ) (s : List ℤ) → Room n s → ((x : ℕ) → In x es → x < n) → Dropped n me es s (absorb_fold n me s es)
  unfolding member
  dropped_fold hm [] s room b =
      record { room = room; w = λ i. refl; fields = λ c i u v x. refl; others = λ c i u. refl; parents = λ i u. refl; taken = λ i m. absurd (no_member i m) }
  dropped_fold hm (x ∷ xs) s room b =
      let bx : x < n = b x (member_here x xs) in
      let h = dropped_fold hm xs (absorbed n me x s) (absorbed_room s x room) (λ y m. b y (member_there y x xs m)) in
      record {
        room = h.room;
        w = λ i. h.w i ∙ ap (λ (y : ℕ). cond (member i xs) 0 y) (w_stored s x room bx i (same? i x)) ∙ except_more (rd n W s) 0 x xs i;
        fields = λ c i u v y. h.fields c i u v y ∙ absorbed_field s x c i u v y;
        others = λ c i u. h.others c i (not_there i x xs u) ∙ absorbed_other s x c i (not_here i x xs u);
        parents = λ i u. h.parents i (not_there i x xs u) ∙ absorbed_parent s x i (not_here i x xs u);
        taken = λ i m. either (parent n (absorb_fold n me (absorbed n me x s) xs) i ≡ some me) (member i xs) (λ e. h.taken i e)
            (λ e. member_cases (parent n (absorb_fold n me (absorbed n me x s) xs) i ≡ some me) i x xs m
            (λ y. h.parents i e ∙ ap (parent n (absorbed n me x s)) y ∙ absorbed_named s x room bx ∙ named_some n me hm) (λ ne y. h.taken i y));
      }

  pub space_fold : (l : List ℤ) (cnt base lim : ℕ) (es : List ℕ) (X : ℕ → List ℕ) (s : List ℤ) → ((x : ℕ) → In x es → x < n) → Space n X l s cnt base lim
      → Space n (except X es []) l (absorb_fold n me s es) cnt base lim
  unfolding member
  space_fold l cnt base lim [] X s b h = h
  space_fold l cnt base lim (x ∷ xs) X s b h =
      space_renamed n (except (upd X x []) xs []) l (absorb_fold n me (absorbed n me x s) xs) cnt base lim
      (space_fold l cnt base lim xs (upd X x []) (absorbed n me x s) (λ y m. b y (member_there y x xs m)) (space_absorbed n X l s cnt base lim h me x (b x (member_here x xs))))
      (except X (x ∷ xs) []) (except_more X [] x xs)

-- ---- what is left of a sum

without_at : (L : ℕ → ℕ) (x : ℕ) (xs : List ℕ) (i : ℕ) → i ≢ x → except L (x ∷ xs) 0 i ≡ except L xs 0 i
unfolding member
without_at L x xs i d = rw (ne_eqb i x d)

pub sum_without : (n : ℕ) (L : ℕ → ℕ) (xs : List ℕ) → Distinct xs → ((x : ℕ) → In x xs → x < n) → sum_to n (except L xs 0) + total L xs ≡ sum_to n L
unfolding total
sum_without n L [] d b = omega (arith, sum_same n L (except L [] 0) (λ i a. rw (member_nil i)))
sum_without n L (x ∷ xs) d b =
    let c = sum_change n (except L xs 0) (except L (x ∷ xs) 0) x (b x (member_here x xs)) (λ i e. without_at L x xs i e) in
    let u : except L xs 0 x ≡ L x = rw d.0 in
    let v : except L (x ∷ xs) 0 x ≡ 0 = rw (member_here x xs) in
    omega (arith, c, u, v, sum_without n L xs d.1 (λ y m. b y (member_there y x xs m)))
