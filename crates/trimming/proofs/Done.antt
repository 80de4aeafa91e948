-- What step 4 leaves of the memory, on plain data: new are the rows of the element me, E and U the elements and variables of their lists before it,
-- and what a row keeps is told by the marks and weights before the first.
-- Assumes nothing.
use Rattle.std.proofs.Common.{◌≡◌, ℕ, suc, ◌+◌, ◌^◌, ◌<◌, ◌≤◌, min, Bool, false, cond, not, ◌&&◌, ◌||◌, eqb, ltb, ◌≢◌, List, [], ◌++◌, reverse, length, ℤ}
use mathlib.Core.List.{flat_map}
use Rattle.plain.specs.Lists.{keep, member, total}
use Rattle.plain.specs.Members.{In}
use Rattle.plain.specs.Turns.{entries}
use Rattle.cells.specs.Layout.{DEGREE, ELEN, HHEAD, HKEY, HNEXT, LEN, MERGES, NV, PE, W}
use Rattle.cells.specs.Links.{named, parent}
use Rattle.cells.specs.View.{rd}
use Rattle.packed.specs.Places.{Space}
use Rattle.drawn.specs.Buckets.{Chain}
use Rattle.trimming.specs.Model.{Trimming, key_of}
use Rattle.trimming.proofs.Rowwise.{new_list}
use Rattle.trimming.proofs.Sifting.{gone_e, kept_e, kept_v, numbers, sizes}

module _ (n me flag : ℕ) (aggressive : Bool) (s : List ℤ) (E U : ℕ → List ℕ) where
  -- how many numbers row i keeps, the sum of their sizes and weights, and its key
  abbrev pub kept : ℕ → ℕ
  kept i = length (kept_e n flag aggressive s (E i)) + length (kept_v n s (U i))

  abbrev pub size : ℕ → ℕ
  size i = sizes n flag s (kept_e n flag aggressive s (E i)) (kept_v n s (U i))

  abbrev pub keyed : ℕ → ℕ
  keyed i = key_of n (numbers (kept_e n flag aggressive s (E i)) (kept_v n s (U i)))

  -- its list after the step
  abbrev pub listed : ℕ → List ℕ
  listed i = new_list me (kept_e n flag aggressive s (E i)) (kept_v n s (U i))

  -- of the rows new: the elements that go, the rows that keep nothing, and those of one key that keep something
  abbrev pub gone : List ℕ → List ℕ
  gone new = flat_map (λ i. gone_e n flag aggressive s (E i)) new

  abbrev pub mass : List ℕ → List ℕ
  mass new = keep (λ i. not (ltb 0 (kept i))) new

  abbrev pub alike : ℕ → List ℕ → List ℕ
  alike k new = keep (λ i. ltb 0 (kept i) && eqb (keyed i) k) new

pub record Done (n me flag : ℕ) (aggressive : Bool) (X E U : ℕ → List ℕ) (l s : List ℤ) (cnt base lim made : ℕ) (new : List ℕ) (r : Trimming) : Type 0 where
  pub space : Space n (λ j. cond (member j new) (listed n me flag aggressive s E U j) (cond (member j (gone n me flag aggressive s E U new)) [] (X j))) r.lists r.mem cnt base lim
  pub long : length r.lists ≡ length l
  -- the fields that the step does not write
  pub fields : (f x : ℕ) → eqb PE f ≡ false → eqb LEN f ≡ false → eqb ELEN f ≡ false → eqb DEGREE f ≡ false → eqb W f ≡ false → eqb HHEAD f ≡ false → eqb HNEXT f ≡ false
      → eqb HKEY f ≡ false → eqb MERGES f ≡ false → eqb NV f ≡ false → rd n f r.mem x ≡ rd n f s x
  -- the place of the new element
  pub place : rd n PE r.mem me ≡ rd n PE s me
  pub extent : rd n LEN r.mem me ≡ rd n LEN s me
  pub marks : (x : ℕ) → rd n W r.mem x ≡ cond (member x (gone n me flag aggressive s E U new)) 0 (rd n W s x)
  -- of a row that keeps something
  pub elens : (x : ℕ) → In x new → 0 < kept n me flag aggressive s E U x → rd n ELEN r.mem x ≡ suc (length (kept_e n flag aggressive s (E x)))
  pub degrees : (x : ℕ) → In x new → 0 < kept n me flag aggressive s E U x → size n me flag aggressive s E U x < 2 ^ 63
      → rd n DEGREE r.mem x ≡ min (rd n DEGREE s x) (size n me flag aggressive s E U x)
  pub keys : (x : ℕ) → In x new → 0 < kept n me flag aggressive s E U x → rd n HKEY r.mem x ≡ keyed n me flag aggressive s E U x
  -- of one that keeps nothing, and of whoever is no row of the element
  pub elens_out : (x : ℕ) → member x new ≡ false → rd n ELEN r.mem x ≡ rd n ELEN s x
  pub degrees_out : (x : ℕ) → member x new ≡ false → rd n DEGREE r.mem x ≡ rd n DEGREE s x
  pub degrees_mass : (x : ℕ) → In x (mass n me flag aggressive s E U new) → rd n DEGREE r.mem x ≡ rd n DEGREE s x
  -- weights: a row that keeps nothing has given its own to the pivot
  pub weights : (x : ℕ) → me ≢ x → rd n NV r.mem x ≡ cond (member x (mass n me flag aggressive s E U new)) 0 (rd n NV s x)
  pub own : rd n NV s me + total (rd n NV s) (mass n me flag aggressive s E U new) < 2 ^ 63
      → rd n NV r.mem me ≡ rd n NV s me + total (rd n NV s) (mass n me flag aggressive s E U new)
  pub merged : total (rd n NV s) (mass n me flag aggressive s E U new) < 2 ^ 63 → r.merged.weight ≡ total (rd n NV s) (mass n me flag aggressive s E U new)
  -- the log
  pub count : made + length (mass n me flag aggressive s E U new) < 2 ^ 63 → r.merged.made ≡ made + length (mass n me flag aggressive s E U new)
  pub log : made + length (mass n me flag aggressive s E U new) ≤ n
      → entries (rd n MERGES r.mem) 0 (made + length (mass n me flag aggressive s E U new)) ≡ entries (rd n MERGES s) 0 made ++ mass n me flag aggressive s E U new
  -- parents
  pub parents : (x : ℕ) → parent n r.mem x
      ≡ cond (member x (mass n me flag aggressive s E U new) || member x (gone n me flag aggressive s E U new)) (named n me) (parent n s x)
  -- the buckets, where there was none before
  pub buckets : ((k : ℕ) → k < n → rd n HHEAD s k ≡ n)
      → (k : ℕ) → k < n → Chain n (rd n HNEXT r.mem) (rd n HHEAD r.mem k) (reverse (alike n me flag aggressive s E U k new))
