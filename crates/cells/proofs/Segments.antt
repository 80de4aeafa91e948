-- A part of a memory as a list, `entries (at l) p k` and `entries (rd n f s) p k`, under a store: outside the part, inside it, and at its end.
-- What packed lists rest on; the laws of `entries` itself are those of `plain`.
-- Assumes nothing.
use Prim.Native.Nat.{ℕ, suc, ◌+◌, ◌<◌, ◌≤◌}
use native.Mathlib.Omega.{arith}
use mathlib.Core.Path.{◌≡◌, sym, ◌∙◌}
use mathlib.Core.Logic.{◌≢◌, ◌⊎◌, inl, inr}
use mathlib.Core.List.{List, [], ◌∷◌, ◌++◌}
use mathlib.Core.Option.{Option}
use lib.IntN.{ℤ}
use lib.ListN.{length, set}
use Rattle.plain.specs.Turns.{entries, upd}
use Rattle.plain.proofs.Entries.{entries_same, entries_set, entries_snoc, upd_same, upd_other}
use Rattle.cells.specs.View.{at, wr, rd, up, Room}
use Rattle.cells.specs.Links.{hang}
use Rattle.cells.specs.Layout.{PE}
use Rattle.cells.proofs.Slices.{same?, at_wr_same, at_wr_other}
use Rattle.cells.proofs.Fields.{rd_up_same, rd_up_other}
use Rattle.cells.proofs.Parents.{rd_hang_other}

-- no number of the part is q
outside_of : (p k q t : ℕ) → (q < p) ⊎ (p + k ≤ q) → t < k → p + t ≢ q
outside_of p k q t (inl a) h e = omega arith
outside_of p k q t (inr a) h e = omega arith

-- ---- the list space

module _ (l : List ℤ) (q v : ℕ) where
  changed : (j : ℕ) → q < length l → (j ≡ q) ⊎ (j ≢ q) → at (wr l q v) j ≡ upd (at l) q v j
  changed j h (inl e) = rw e (at_wr_same l q v h ∙ sym (upd_same (at l) q v))
  changed j h (inr e) = at_wr_other l q v j e ∙ sym (upd_other (at l) q v j e)

  -- a store changes one value
  pub at_upd : q < length l → (j : ℕ) → at (wr l q v) j ≡ upd (at l) q v j
  at_upd h j = changed j h (same? j q)

  pub entries_wr_out : (p k : ℕ) → (q < p) ⊎ (p + k ≤ q) → entries (at (wr l q v)) p k ≡ entries (at l) p k
  entries_wr_out p k h = entries_same (at l) (at (wr l q v)) p p k (λ t a. at_wr_other l q v (p + t) (outside_of p k q t h a))

module _ (l : List ℤ) (v p k : ℕ) where
  pub entries_wr_in : (t : ℕ) → t < k → p + t < length l → entries (at (wr l (p + t) v)) p k ≡ set (entries (at l) p k) t v
  entries_wr_in t h f =
      entries_same (upd (at l) (p + t) v) (at (wr l (p + t) v)) p p k (λ u a. at_upd l (p + t) v f (p + u)) ∙ entries_set (at l) v p k t h

  -- a list grows at its end
  pub entries_wr_end : p + k < length l → entries (at (wr l (p + k) v)) p (suc k) ≡ entries (at l) p k ++ (v ∷ [])
  entries_wr_end f =
      let o : p + k ≤ p + k = omega arith in
      rw (entries_snoc (at (wr l (p + k) v)) p k, entries_wr_out l (p + k) v p k (inr o), at_wr_same l (p + k) v f)

-- ---- a table of the scratch

module _ (n f : ℕ) (s : List ℤ) (q v : ℕ) where
  pub entries_up_other : (g p k : ℕ) → f ≢ g → entries (rd n g (up n f s q v)) p k ≡ entries (rd n g s) p k
  entries_up_other g p k d =
      entries_same (rd n g s) (rd n g (up n f s q v)) p p k (λ t a. rd_up_other n f s q v g (p + t) (λ e _. d e))

  pub entries_up_out : (p k : ℕ) → (q < p) ⊎ (p + k ≤ q) → entries (rd n f (up n f s q v)) p k ≡ entries (rd n f s) p k
  entries_up_out p k h =
      entries_same (rd n f s) (rd n f (up n f s q v)) p p k
      (λ t a. rd_up_other n f s q v f (p + t) (λ _ e. outside_of p k q t h a (sym e)))

  changed_up : f < 15 → Room n s → q < n → (j : ℕ) → (j ≡ q) ⊎ (j ≢ q) → rd n f (up n f s q v) j ≡ upd (rd n f s) q v j
  changed_up hf hr hq j (inl e) = rw e (rd_up_same n f s q v hf hr hq ∙ sym (upd_same (rd n f s) q v))
  changed_up hf hr hq j (inr e) = rd_up_other n f s q v f j (λ _ u. e (sym u)) ∙ sym (upd_other (rd n f s) q v j e)

  -- a store changes one value
  pub rd_upd : f < 15 → Room n s → q < n → (j : ℕ) → rd n f (up n f s q v) j ≡ upd (rd n f s) q v j
  rd_upd hf hr hq j = changed_up hf hr hq j (same? j q)

module _ (n f : ℕ) (s : List ℤ) (v p k : ℕ) (hf : f < 15) (hr : Room n s) where
  pub entries_up_in : (t : ℕ) → t < k → p + t < n → entries (rd n f (up n f s (p + t) v)) p k ≡ set (entries (rd n f s) p k) t v
  entries_up_in t h b =
      entries_same (upd (rd n f s) (p + t) v) (rd n f (up n f s (p + t) v)) p p k (λ u a. rd_upd n f s (p + t) v hf hr b (p + u))
      ∙ entries_set (rd n f s) v p k t h

  -- a list grows at its end
  pub entries_up_end : p + k < n → entries (rd n f (up n f s (p + k) v)) p (suc k) ≡ entries (rd n f s) p k ++ (v ∷ [])
  entries_up_end b =
      let o : p + k ≤ p + k = omega arith in
      rw (entries_snoc (rd n f (up n f s (p + k) v)) p k, entries_up_out n f s (p + k) v p k (inr o), rd_up_same n f s (p + k) v hf hr b)

-- a parent is in no table
pub entries_hang : (n : ℕ) (s : List ℤ) (i : ℕ) (x : Option ℕ) (g p k : ℕ) → PE ≢ g → entries (rd n g (hang n s i x)) p k ≡ entries (rd n g s) p k
entries_hang n s i x g p k d =
    entries_same (rd n g s) (rd n g (hang n s i x)) p p k (λ t a. rd_hang_other n s i x g (p + t) (λ e _. d e))
