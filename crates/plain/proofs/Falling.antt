-- The sums of falling numbers r + m - 1, .., r, of their squares and of their triangles: LL10 of the proof plan.
-- Assumes nothing.
use Prim.Native.Nat.{◌-◌, ℕ, zero, suc, ◌<◌, ◌+◌, ◌*◌, ◌/◌, ◌≤◌}
use native.Mathlib.Nat.{mul-zero, zero-mul, mul-suc, suc-mul, add-mul, mul-add, mul_comm, mul_left_comm, mul_assoc, mul-le-mul}
use native.Mathlib.Omega.{arith}
use mathlib.Core.Path.{◌≡◌, refl, ap, ◌∙◌}
use mathlib.Core.List.{List, [], ◌∷◌}
use lib.ListN.{length, get_or}
use Rattle.plain.specs.Lists.{fall_to, total, itself, up_to, count_up}
use Rattle.plain.proofs.Sums.{total_up_to}

pub length_fall_to : (r m : ℕ) → length (fall_to r m) ≡ m
unfolding fall_to
length_fall_to r zero = refl
length_fall_to r (suc m) = ap suc (length_fall_to r m)

pub get_or_fall_to : (r m i : ℕ) → i < m → get_or (fall_to r m) i 0 ≡ r + (m - suc i)
unfolding fall_to
get_or_fall_to r zero i h = absurd (omega arith)
get_or_fall_to r (suc m) zero h = omega arith
get_or_fall_to r (suc m) (suc i) h = get_or_fall_to r m i (omega arith) ∙ omega arith

pub tri_step : (m : ℕ) → (suc m - 1) * suc m ≡ (m - 1) * m + 2 * m
tri_step zero = refl
tri_step (suc j) =
    let a : suc (suc j) - 1 ≡ suc j = omega arith in
    let b : suc j - 1 ≡ j = omega arith in
    rw (a, b) (mul-suc (suc j) (suc j) ∙ omega (arith, suc-mul j (suc j)))

pub twice_fall : (r m : ℕ) → 2 * total itself (fall_to r m) ≡ 2 * (m * r) + (m - 1) * m
unfolding total fall_to
twice_fall r zero = omega arith
twice_fall r (suc m) = omega (arith, twice_fall r m, tri_step m, suc-mul m r)

abbrev pub square : ℕ → ℕ
square x = x * x

abbrev pub triangle : ℕ → ℕ
triangle x = x * suc x / 2

square_sum : (r m : ℕ) → square (r + m) ≡ r * r + 2 * (r * m) + m * m
square_sum r m = add-mul r m (r + m) ∙ omega (arith, mul-add r r m, mul-add m r m, mul_comm m r)

-- (j+1)(j+2)(2j+3) and j(j+1)(2j+1), multiplied out
up_three : (j : ℕ) → suc j * suc (suc j) * (2 * j + 3) ≡ 2 * (j * j * j) + 9 * (j * j) + 13 * j + 6
up_three j =
    let e : suc j * suc (suc j) ≡ j * j + 3 * j + 2 = omega (arith, mul-suc (suc j) (suc j), mul-suc (suc j) j, suc-mul j j) in
    let a : (j * j + 3 * j + 2) * (2 * j + 3) ≡ (j * j + 3 * j + 2) * (2 * j) + (j * j + 3 * j + 2) * 3 = mul-add (j * j + 3 * j + 2) (2 * j) 3 in
    let b : (j * j + 3 * j + 2) * (2 * j) ≡ 2 * ((j * j + 3 * j + 2) * j) = mul_left_comm (j * j + 3 * j + 2) 2 j in
    let c : (j * j + 3 * j + 2) * j ≡ (j * j + 3 * j) * j + 2 * j = add-mul (j * j + 3 * j) 2 j in
    let d : (j * j + 3 * j) * j ≡ j * j * j + 3 * j * j = add-mul (j * j) (3 * j) j in
    let f : 3 * j * j ≡ 3 * (j * j) = mul_assoc 3 j j in
    ap (λ (z : ℕ). z * (2 * j + 3)) e ∙ omega arith

up_two : (j : ℕ) → j * suc j * (2 * j + 1) ≡ 2 * (j * j * j) + 3 * (j * j) + j
up_two j =
    let e : j * suc j ≡ j * j + j = mul-suc j j in
    let a : (j * j + j) * (2 * j + 1) ≡ (j * j + j) * (2 * j) + (j * j + j) * 1 = mul-add (j * j + j) (2 * j) 1 in
    let b : (j * j + j) * (2 * j) ≡ 2 * ((j * j + j) * j) = mul_left_comm (j * j + j) 2 j in
    let c : (j * j + j) * j ≡ j * j * j + j * j = add-mul (j * j) j j in
    ap (λ (z : ℕ). z * (2 * j + 1)) e ∙ omega arith

six_step : (m : ℕ) → (suc m - 1) * suc m * (2 * suc m - 1) ≡ (m - 1) * m * (2 * m - 1) + 6 * (m * m)
six_step zero = refl
six_step (suc j) =
    let a : suc (suc j) - 1 ≡ suc j = omega arith in
    let b : suc j - 1 ≡ j = omega arith in
    let c : 2 * suc (suc j) - 1 ≡ 2 * j + 3 = omega arith in
    let d : 2 * suc j - 1 ≡ 2 * j + 1 = omega arith in
    let q : suc j * suc j ≡ j * j + 2 * j + 1 = omega (arith, mul-suc (suc j) j, suc-mul j j) in
    rw (c, d, a, b) (omega (arith, up_three j, up_two j, q))

rise_step : (r m : ℕ) → r * (suc m - 1) * suc m ≡ r * (m - 1) * m + 2 * (r * m)
rise_step r m =
    mul_assoc r (suc m - 1) (suc m) ∙ ap (λ (z : ℕ). r * z) (tri_step m) ∙ mul-add r ((m - 1) * m) (2 * m)
    ∙ omega (arith, mul_assoc r (m - 1) m, mul_left_comm r 2 m)

six_fall : (r m : ℕ) → 6 * total square (fall_to r m) ≡ 6 * (m * r * r) + 6 * (r * (m - 1) * m) + (m - 1) * m * (2 * m - 1)
unfolding total fall_to
six_fall r zero = omega arith
six_fall r (suc m) =
    let a : suc m * r * r ≡ m * r * r + r * r = ap (λ (z : ℕ). z * r) (suc-mul m r) ∙ add-mul (m * r) r r in
    omega (arith, six_fall r m, six_step m, rise_step r m, square_sum r m)

twice_triangle : (x : ℕ) → 2 * triangle x ≡ x * x + x
twice_triangle x =
    let a : suc x - 1 ≡ x = omega arith in
    let t : 2 * total itself (fall_to 0 (suc x)) ≡ 2 * (suc x * 0) + x * suc x = twice_fall 0 (suc x) ∙ ap (λ (z : ℕ). 2 * (suc x * 0) + z * suc x) a in
    omega (arith, mul-suc x x)

pub triangle_both : (xs : List ℕ) → 2 * total triangle xs ≡ total square xs + total itself xs
unfolding total
triangle_both [] = refl
triangle_both (x ∷ xs) = omega (arith, triangle_both xs, twice_triangle x)

pub square_mono : (x y : ℕ) → x ≤ y → square x ≤ square y
square_mono x y h = mul-le-mul h h

pub triangle_mono : (x y : ℕ) → x ≤ y → triangle x ≤ triangle y
triangle_mono x y h = omega (arith, twice_triangle x, twice_triangle y, square_mono x y h)

-- ---- LL10: r + m - 1, .., r in closed form

pub fall_sum : (r m : ℕ) → total itself (fall_to r m) ≡ m * r + (m - 1) * m / 2
fall_sum r m = omega (arith, twice_fall r m)

pub fall_squares : (r m : ℕ) → total square (fall_to r m) ≡ m * r * r + r * (m - 1) * m + (m - 1) * m * (2 * m - 1) / 6
fall_squares r m = omega (arith, six_fall r m)

-- so that the two together are even: half of them is the sum of the triangles
pub fall_triangles : (r m : ℕ) → total triangle (fall_to r m) ≡ (total square (fall_to r m) + total itself (fall_to r m)) / 2
fall_triangles r m = omega (arith, triangle_both (fall_to r m))

-- ---- against all that stands below

-- m + k - 1, .., m, and m - 1, .., 0
pub fall_above : (h : ℕ → ℕ) (m k : ℕ) → total h (fall_to m k) + total h (up_to m) ≡ total h (up_to (m + k))
unfolding total fall_to
fall_above h m zero = let e : m + 0 ≡ m = omega arith in rw e (omega arith)
fall_above h m (suc k) = let e : m + suc k ≡ suc (m + k) = omega arith in rw e (omega (arith, fall_above h m k, total_up_to h (m + k)))

pub fall_all : (h : ℕ → ℕ) (m : ℕ) → total h (fall_to 0 m) ≡ total h (up_to m)
unfolding total count_up
fall_all h m = let e : 0 + m ≡ m = omega arith in omega (arith, rw e at (fall_above h 0 m))

module _ (h : ℕ → ℕ) (mono : (x y : ℕ) → x ≤ y → h x ≤ h y) where
  fall_raised : (r m k : ℕ) → r ≤ m → total h (fall_to r k) ≤ total h (fall_to m k)
  unfolding total fall_to
  fall_raised r m zero l = omega arith
  fall_raised r m (suc k) l = omega (arith, fall_raised r m k l, mono (r + k) (m + k) (omega arith))

  -- k falling numbers from r on take no more than the k that stand highest below m + k
  pub fall_under : (r m k : ℕ) → r ≤ m → total h (fall_to r k) + total h (up_to m) ≤ total h (up_to (m + k))
  fall_under r m k l = omega (arith, fall_raised r m k l, fall_above h m k)

  pub up_to_mono : (m n : ℕ) → m ≤ n → total h (up_to m) ≤ total h (up_to n)
  up_to_mono m n l = let e : n ≡ m + (n - m) = omega arith in rw e (omega (arith, fall_above h m (n - m)))

-- the sums of all numbers below n, and of their squares and triangles
pub sum_below : (n : ℕ) → total itself (up_to n) ≡ (n - 1) * n / 2
sum_below n = omega (arith, fall_all itself n, twice_fall 0 n, mul-zero n)

pub squares_below : (n : ℕ) → 6 * total square (up_to n) ≡ (n - 1) * n * (2 * n - 1)
squares_below n = omega (arith, fall_all square n, six_fall 0 n, mul-zero (n * 0), zero-mul (n - 1), zero-mul n, ap (λ (x : ℕ). x * n) (zero-mul (n - 1)))

pub triangles_below : (n : ℕ) → 2 * total triangle (up_to n) ≡ total square (up_to n) + total itself (up_to n)
triangles_below n = triangle_both (up_to n)
