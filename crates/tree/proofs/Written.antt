-- What the code after the elimination writes: the permutation of the definition, and its inverse.
-- Assumes nothing.
use Prim.Native.Nat.{ℕ, ◌^◌, ◌<◌}
use mathlib.Core.Path.{◌≡◌, ap, ◌∙◌}
use mathlib.Core.List.{List, map}
use lib.IntN.{ℤ, pos}
use lib.ListN.{length}
use Rattle.definition.specs.State.{Graph}
use Rattle.definition.specs.Ordering.{permutation_of, inverse_of}
use Rattle.tree.specs.Final.{Final, Ended, Outputs}
use Rattle.tree.specs.Model.{Sheets, sheets, ordered, owned_all, prepared, walked}
use Rattle.tree.proofs.Grove.{full, grown, whole_is, whole_permutation}
use Rattle.tree.proofs.Owners.{Owned, owned_all_lem}
use Rattle.tree.proofs.Prepared.{kin, prepared_lists, prepared_room}
use Rattle.tree.proofs.Sheet.{Sheet, sheet_rows, sheet_places}
use Rattle.tree.proofs.Touring.{walked_all}

module _ (n : ℕ) (s : List ℤ) (g : Graph) (rank : ℕ → ℕ) (ms : List ℕ) (small : n < 2 ^ 31) (start : Final n s g ms) (end : Ended n g rank)
    (permutation inverse : List ℤ) (long : length permutation ≡ n) (wide : length inverse ≡ n) where
  after : Owned n g (owned_all n (length ms) s)
  after = owned_all_lem n s g rank ms start end

  sheet : Sheet n (permutation_of g) (ordered n (length ms) s (sheets permutation inverse))
  unfolding ordered
  sheet =
      walked_all n (prepared n (owned_all n (length ms) s)) (kin n g) (full n g rank end) (permutation_of g) small (whole_permutation n g rank end) (prepared_lists n g rank (owned_all n (length ms) s) after end)
      (grown n g rank end) (sheets permutation inverse) long wide (prepared_room n g rank (owned_all n (length ms) s) after end) (whole_is n g rank end)

  pub permutation_written : (ordered n (length ms) s (sheets permutation inverse)).permutation ≡ map pos (permutation_of g)
  permutation_written = sheet_rows n (permutation_of g) (ordered n (length ms) s (sheets permutation inverse)) sheet (whole_permutation n g rank end)

  pub inverse_written : (ordered n (length ms) s (sheets permutation inverse)).inverse ≡ map pos (inverse_of (permutation_of g))
  inverse_written = sheet_places n (permutation_of g) (ordered n (length ms) s (sheets permutation inverse)) sheet (whole_permutation n g rank end)

order_is : (n k : ℕ) (s a b : List ℤ) (o r : Sheets) → a ≡ owned_all n k s → b ≡ prepared n a → r ≡ walked n b o → r ≡ ordered n k s o
unfolding ordered
order_is n k s a b o r ha hb hr = rw (hr, hb, ha)

-- the three parts of the code, one after the other
pub outputs : (n k : ℕ) (s a b p i p' i' : List ℤ) → a ≡ owned_all n k s → b ≡ prepared n a → sheets p' i' ≡ walked n b (sheets p i) → n < 2 ^ 31 → Outputs n k s p i p' i'
outputs n k s a b p i p' i' ha hb hr small = record {
  given = λ g rank ms e start end long wide. (
    ap (λ (o : Sheets). o.permutation) (is ms e) ∙ permutation_written n s g rank ms small start end p i long wide,
    ap (λ (o : Sheets). o.inverse) (is ms e) ∙ inverse_written n s g rank ms small start end p i long wide,
  );
}
  where
    is : (ms : List ℕ) → length ms ≡ k → sheets p' i' ≡ ordered n (length ms) s (sheets p i)
    is ms e = rw e (order_is n k s a b (sheets p i) (sheets p' i') ha hb hr)
