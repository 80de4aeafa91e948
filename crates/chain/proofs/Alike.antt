-- What a row that leaves its list reads and writes: two memories whose heads, links and degrees agree still agree when the same rows have left.
-- Assumes nothing.
use Prim.Native.Nat.{ℕ, ◌<◌, ◌≤◌}
use mathlib.Core.Path.{◌≡◌, refl, sym, ◌∙◌}
use mathlib.Core.Logic.{◌≢◌, ◌⊎◌, inl, inr}
use mathlib.Core.Bool.{true}
use mathlib.Core.List.{List, [], ◌∷◌, foldl}
use borrow.Author.Tests.{lt-ltb, ltb-true}
use lib.Dec.{ltb}
use lib.IntN.{ℤ}
use Rattle.cells.specs.Layout.{DEGREE, NEXT, LAST, HEAD}
use Rattle.cells.specs.View.{rd, up, Room}
use Rattle.cells.proofs.Fields.{rd_up_other, room_up, up_null}
use Rattle.cells.proofs.Slices.{same?, split}
use Rattle.cells.proofs.Laws.{rd_up_hit, room_yes}
use Rattle.chain.specs.Model.{relinked, removed}
use Rattle.chain.specs.Chained.{Chained}
use Rattle.chain.proofs.Frame.{chained_same}
use Rattle.chain.proofs.Steps.{relinked_front, relinked_mid}
use Rattle.chain.proofs.Unlink.{removed_room}

-- r has the heads, the links and the degrees of s
pub record Alike (n : ℕ) (s r : List ℤ) : Type 0 where
  pub head : (i : ℕ) → rd n HEAD r i ≡ rd n HEAD s i
  pub next : (i : ℕ) → rd n NEXT r i ≡ rd n NEXT s i
  pub last : (i : ℕ) → rd n LAST r i ≡ rd n LAST s i
  pub degree : (i : ℕ) → rd n DEGREE r i ≡ rd n DEGREE s i

pub alike_self : (n : ℕ) (s : List ℤ) → Alike n s s
alike_self n s = record { head = λ i. refl; next = λ i. refl; last = λ i. refl; degree = λ i. refl }

pub alike_then : {n : ℕ} {s r u : List ℤ} → Alike n s r → Alike n r u → Alike n s u
alike_then a b =
    record {
      head = λ i. b.head i ∙ a.head i;
      next = λ i. b.next i ∙ a.next i;
      last = λ i. b.last i ∙ a.last i;
      degree = λ i. b.degree i ∙ a.degree i;
    }

pub alike_back : {n : ℕ} {s r : List ℤ} → Alike n s r → Alike n r s
alike_back a = record { head = λ i. sym (a.head i); next = λ i. sym (a.next i); last = λ i. sym (a.last i); degree = λ i. sym (a.degree i) }

-- it holds the same lists
pub chained_alike : {n : ℕ} {s r : List ℤ} {L : ℕ → List ℕ} → Chained n s L → Alike n s r → Chained n r L
chained_alike {r = r} h a = chained_same h r a.head a.next a.last a.degree

-- ---- the same store in both

module _ (n : ℕ) (s r : List ℤ) (room_s : Room n s) (room_r : Room n r) where
  same_up : (f i v : ℕ) → ltb f 15 ≡ true → (g j : ℕ) → rd n g r j ≡ rd n g s j → rd n g (up n f r i v) j ≡ rd n g (up n f s i v) j
  same_up f i v low g j e = by (same? f g) (same? i j) (split i n)
    where
      by : (f ≡ g) ⊎ (f ≢ g) → (i ≡ j) ⊎ (i ≢ j) → (i < n) ⊎ (n ≤ i) → rd n g (up n f r i v) j ≡ rd n g (up n f s i v) j
      by (inr d) y z = rd_up_other n f r i v g j (λ a b. d a) ∙ e ∙ sym (rd_up_other n f s i v g j (λ a b. d a))
      by (inl x) (inr d) z = rd_up_other n f r i v g j (λ a b. d b) ∙ e ∙ sym (rd_up_other n f s i v g j (λ a b. d b))
      by (inl x) (inl y) (inl z) =
          rw (← x, ← y) (rd_up_hit n f r i v low (room_yes n r room_r) (lt-ltb i n z) ∙ sym (rd_up_hit n f s i v low (room_yes n s room_s) (lt-ltb i n z)))
      by (inl x) (inl y) (inr z) = rw (up_null n f r i v (ltb-true f 15 low) z, up_null n f s i v (ltb-true f 15 low) z) e

  up_alike : (f i v : ℕ) → ltb f 15 ≡ true → Alike n s r → Alike n (up n f s i v) (up n f r i v)
  up_alike f i v low a =
      record {
        head = λ j. same_up f i v low HEAD j (a.head j);
        next = λ j. same_up f i v low NEXT j (a.next j);
        last = λ j. same_up f i v low LAST j (a.last j);
        degree = λ j. same_up f i v low DEGREE j (a.degree j);
      }

  relinked_alike : (i b a : ℕ) → Alike n s r → Alike n (relinked n s i b a) (relinked n r i b a)
  relinked_alike i b a h = by (split b n)
    where
      by : (b < n) ⊎ (n ≤ b) → Alike n (relinked n s i b a) (relinked n r i b a)
      by (inl z) = rw (relinked_mid n s i b a z, relinked_mid n r i b a z) (up_alike NEXT b a refl h)
      by (inr z) = rw (relinked_front n s i b a z, relinked_front n r i b a z, h.degree i) (up_alike HEAD (rd n DEGREE s i) a refl h)

-- ---- rows leave both

pub removed_alike : (n : ℕ) (s r : List ℤ) (i : ℕ) → Room n s → Room n r → Alike n s r → Alike n (removed n s i) (removed n r i)
unfolding removed
removed_alike n s r i room_s room_r h =
    let b = rd n LAST s i in
    let a = rd n NEXT s i in
    rw (h.last i, h.next i)
    (relinked_alike n (up n LAST s a b) (up n LAST r a b) (room_up n LAST s a b room_s) (room_up n LAST r a b room_r) i b a (up_alike n s r room_s room_r LAST a b refl h))

pub fold_room : (n : ℕ) (vs : List ℕ) (s : List ℤ) → Room n s → Room n (foldl (λ m v. removed n m v) s vs)
fold_room n [] s h = h
fold_room n (v ∷ vs) s h = fold_room n vs (removed n s v) (removed_room n s v h)

pub fold_alike : (n : ℕ) (vs : List ℕ) (s r : List ℤ) → Room n s → Room n r → Alike n s r
    → Alike n (foldl (λ m v. removed n m v) s vs) (foldl (λ m v. removed n m v) r vs)
fold_alike n [] s r room_s room_r h = h
fold_alike n (v ∷ vs) s r room_s room_r h =
    fold_alike n vs (removed n s v) (removed n r v) (removed_room n s v room_s) (removed_room n r v room_r) (removed_alike n s r v room_s room_r h)
