-- A counting loop is a fold by turns: the three steps of its invariant, what its turns keep, and two loops side by side.
-- Assumes nothing.
use Prim.Native.Nat.{ℕ, zero, suc, ◌+◌, ◌-◌, ◌≤◌, ◌<◌}
use native.Mathlib.Omega.{arith}
use native.Mathlib.Numerals.{add-one}
use native.Mathlib.Nat.{add-zero, suc-add, add-suc, sub_self, sub-zero}
use mathlib.Core.Path.{◌≡◌, refl, sym, ap, ◌∙◌, subst}
use mathlib.Core.List.{List, [], ◌∷◌, map, foldl}
use Rattle.plain.specs.Lists.{count_up, up_to}
use Rattle.plain.specs.Turns.{entries, times, Turned}
use Rattle.plain.proofs.Entries.{entries_counted}

module _ {A : Type 0} (f : ℕ → A → A) (m : A) where
  pub times_none : times 0 f m ≡ m
  unfolding times
  times_none = refl

  pub times_more : (k : ℕ) → times (suc k) f m ≡ f k (times k f m)
  unfolding times
  times_more k = refl

  -- ---- for the code of a loop

  pub begin : Turned f m 0 m
  begin = record { same = sym times_none }

  module _ (k : ℕ) (x : A) (h : Turned f m k x) where
    pub turn : (y : A) → y ≡ f k x → Turned f m (k + 1) y
    turn y g = record { same = g ∙ ap (f k) h.same ∙ sym (times_more k) ∙ ap (λ (j : ℕ). times j f m) (sym (add-one k)) }

    pub finish : (len : ℕ) → k ≤ len → len ≤ k → x ≡ times len f m
    finish len a b = subst (λ (c : ℕ). x ≡ times c f m) (omega arith) h.same

-- ---- the goals of a loop whose invariant is the fold itself: one turn more, of a loop that counts up, of one that begins at `from`, and of one that counts
-- down from `size` and has come to i

pub times_next : {A : Type 0} (f : ℕ → A → A) (m : A) (k : ℕ) → times (k + 1) f m ≡ f k (times k f m)
times_next f m k = rw add-one (times_more f m k)

pub times_after : {A : Type 0} (f : ℕ → A → A) (m : A) (from p : ℕ) → from ≤ p
    → times (p + 1 - from) (λ t. f (from + t)) m ≡ f p (times (p - from) (λ t. f (from + t)) m)
times_after f m from p h =
    let a : p + 1 - from ≡ suc (p - from) = omega arith in
    let b : from + (p - from) ≡ p = omega arith in
    rw a (times_more (λ t. f (from + t)) m (p - from) ∙ ap (λ q. f q (times (p - from) (λ t. f (from + t)) m)) b)

pub times_back : {A : Type 0} (f : ℕ → A → A) (m : A) (size i : ℕ) → 0 < i → i ≤ size
    → times (size - (i - 1)) f m ≡ f (size - i) (times (size - i) f m)
times_back f m size i h l = let e : size - (i - 1) ≡ size - i + 1 = omega arith in rw e (times_next f m (size - i))

pub back_again : (size i : ℕ) → 0 < i → i ≤ size → size - 1 - (size - i) ≡ i - 1
back_again size i h l = omega arith

pub ruleset turns = (times_none, times_next)

pub ruleset turns_back = (times_none, times_back, back_again, sub_self, sub-zero)

-- ---- what every turn keeps

pub times_keeps : {A : Type 0} (P : ℕ → A → Type 0) (f : ℕ → A → A) (n : ℕ) → ((k : ℕ) (x : A) → k < n → P k x → P (suc k) (f k x))
    → (k : ℕ) (m : A) → k ≤ n → P 0 m → P k (times k f m)
unfolding times
times_keeps P f n step zero m h p = p
times_keeps P f n step (suc k) m h p = step k (times k f m) (omega arith) (times_keeps P f n step k m (omega arith) p)

-- two loops whose turns keep a relation end in it
pub times_simulates : {A B : Type 0} (R : ℕ → A → B → Type 0) (f : ℕ → A → A) (g : ℕ → B → B) (n : ℕ)
    → ((k : ℕ) (x : A) (y : B) → k < n → R k x y → R (suc k) (f k x) (g k y)) → (k : ℕ) (m : A) (l : B) → k ≤ n → R 0 m l
    → R k (times k f m) (times k g l)
unfolding times
times_simulates R f g n step zero m l h r = r
times_simulates R f g n step (suc k) m l h r = step k (times k f m) (times k g l) (omega arith) (times_simulates R f g n step k m l (omega arith) r)

-- loops whose turns agree agree
pub times_same : {A : Type 0} (f g : ℕ → A → A) (k : ℕ) (m : A) → ((j : ℕ) (x : A) → j < k → f j x ≡ g j x) → times k f m ≡ times k g m
times_same f g k m h = times_simulates (λ j x y. x ≡ y) f g k (λ j x y l e. ap (f j) e ∙ h j y l) k m m (omega arith) refl

-- ---- a loop over the entries of a list is a fold over it

module _ {A B : Type 0} (f : B → A → A) where
  front : (F : ℕ → B) (k : ℕ) (m : A) → times (suc k) (λ t. f (F t)) m ≡ times k (λ t. f (F (suc t))) (f (F 0) m)
  unfolding times
  front F zero m = refl
  front F (suc k) m = ap (f (F (suc k))) (front F k m)

  pub times_fold : (F : ℕ → B) (p k : ℕ) (m : A) → times k (λ t. f (F (p + t))) m ≡ foldl (λ a x. f x a) m (entries F p k)
  unfolding times entries
  times_fold F p zero m = refl
  times_fold F p (suc k) m = front (λ t. F (p + t)) k m ∙ simp (add-zero, add-suc, ← suc-add) (times_fold F (suc p) k (f (F p) m))

map_same : (xs : List ℕ) → map (λ x. x) xs ≡ xs
map_same [] = refl
map_same (x ∷ xs) = ap (λ (l : List ℕ). x ∷ l) (map_same xs)

pub times_up_to : {A : Type 0} (f : ℕ → A → A) (k : ℕ) (m : A) → times k f m ≡ foldl (λ a j. f j a) m (up_to k)
times_up_to f k m = go (times_fold f (λ j. j) 0 k m)
  where
    counted : (a k : ℕ) → entries (λ j. j) a k ≡ count_up a k
    counted a k = entries_counted (λ j. j) a k ∙ map_same (count_up a k)

    same_turn : times k f m ≡ times k (λ t. f (0 + t)) m
    same_turn = times_same f (λ t. f (0 + t)) k m (λ j x l. ap (λ (i : ℕ). f i x) (omega arith))

    go : times k (λ t. f (0 + t)) m ≡ foldl (λ a j. f j a) m (entries (λ j. j) 0 k) → times k f m ≡ foldl (λ a j. f j a) m (up_to k)
    go e = same_turn ∙ e ∙ ap (foldl (λ a j. f j a) m) (counted 0 k)
