-- What step 3 asks of the memory, and what it leaves, on plain lists: E i are the elements of row i, and new the rows of the new element.
-- Assumes nothing.
use Rattle.std.specs.Prelude.{◌≡◌, ℕ, ◌+◌, ◌-◌, ◌^◌, ◌<◌, ◌≤◌, false, List, length, ℤ, ◌==◌}
use mathlib.Core.List.{flat_map}
use Rattle.plain.specs.Lists.{member}
use Rattle.plain.specs.Members.{Distinct, In}
use Rattle.plain.specs.Turns.{entries}
use Rattle.cells.specs.Layout.{DEGREE, ELEN, NV, PE, W}
use Rattle.cells.specs.Links.{parent}
use Rattle.cells.specs.View.{Room, at, rd}
use Rattle.sizing.specs.Counters.{shared}

-- from s to t nothing but marks is changed
pub record Kept (n : ℕ) (s t : List ℤ) : Type 0 where
  pub fields : (c i : ℕ) → (W == c) ≡ false → rd n c t i ≡ rd n c s i
  pub parents : (i : ℕ) → parent n t i ≡ parent n s i
  pub length : length t ≡ length s
  pub room : Room n t

-- the elements of the rows are in the list space, each once
abbrev pub Listed : ℕ → List ℤ → List ℤ → (ℕ → List ℕ) → List ℕ → Type 0
Listed n l s E new = (i : ℕ) → In i new → (entries (at l) (rd n PE s i) (rd n ELEN s i) ≡ E i) × Distinct (E i) × (0 < rd n ELEN s i → rd n PE s i + rd n ELEN s i ≤ length l)

pub record Ready (n flag from k : ℕ) (l s : List ℤ) (E : ℕ → List ℕ) (new : List ℕ) : Type 0 where
  pub room : Room n s
  pub rows : entries (at l) from k ≡ new
  pub inside : 0 < k → from + k ≤ length l
  pub lists : Listed n l s E new
  -- no row weighs more than the flag
  pub light : (i : ℕ) → In i new → rd n NV s i ≤ flag
  -- no mark is a counter yet
  pub below : (e : ℕ) → rd n W s e < flag
  -- a counter is a number of a cell, and the rows that have the element do not exhaust it
  pub small : (e : ℕ) → 0 < rd n W s e → In e (flat_map E new) → rd n DEGREE s e + flag < 2 ^ 63
  pub enough : (e : ℕ) → 0 < rd n W s e → In e (flat_map E new) → shared E (rd n NV s) e new ≤ rd n DEGREE s e

pub record Measured (n flag : ℕ) (s t : List ℤ) (E : ℕ → List ℕ) (new : List ℕ) : Type 0 where
  pub kept : Kept n s t
  -- an element that is no more
  pub gone : (e : ℕ) → rd n W s e ≡ 0 → rd n W t e ≡ 0
  -- one that no row has
  pub others : (e : ℕ) → member e (flat_map E new) ≡ false → rd n W t e ≡ rd n W s e
  -- one that some row has: the flag, and its weight less those of the rows that have it
  pub sizes : (e : ℕ) → 0 < rd n W s e → In e (flat_map E new) → rd n W t e ≡ flag + (rd n DEGREE s e - shared E (rd n NV s) e new)
