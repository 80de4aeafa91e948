-- What a row keeps of its list E ++ U: its own place begins with the elements kept and the variables kept, and elements may have been taken up.
-- Assumes nothing.
use Rattle.std.proofs.Common.{◌≡◌, ℕ, ◌+◌, ◌-◌, ◌^◌, ◌<◌, ◌≤◌, Bool, ltb, ◌⊎◌, List, ◌++◌, length, take, drop, ℤ, sym, refl, ap, ◌∙◌, subst, inl, inr, ⊎_elim, arith, length-append}
use lib.Seq.{drop-append_seam, take-append_seam}
use Rattle.plain.proofs.Entries.{entries_drop, entries_same, entries_take}
use Rattle.plain.proofs.Members.{keep_same}
use Rattle.plain.proofs.Sums.{total_members}
use Rattle.plain.specs.Lists.{itself, keep, total}
use Rattle.plain.specs.Turns.{entries}
use Rattle.cells.specs.Layout.{ELEN, LEN, PE, W, WANT}
use Rattle.cells.specs.View.{at, rd}
use Rattle.packed.proofs.Frame.{ends, len_of}
use Rattle.packed.specs.Places.{Space, places}
use Rattle.trimming.specs.Model.{Keeping, kept_all, kept_elements, kept_variables}
use Rattle.trimming.proofs.Dropping.{Sifted, elements_sifted, goes, stays}
use Rattle.trimming.proofs.Filtering.{Left}
use Rattle.trimming.proofs.Freeing.{Freed}
use Rattle.trimming.proofs.Wanting.{variables_picked}

-- the elements kept, the elements taken up, the variables kept, by the fields of the scratch
abbrev pub kept_e : ℕ → ℕ → Bool → List ℤ → List ℕ → List ℕ
kept_e n flag aggressive s E = keep (λ e. stays aggressive flag (rd n W s e)) E

abbrev pub gone_e : ℕ → ℕ → Bool → List ℤ → List ℕ → List ℕ
gone_e n flag aggressive s E = keep (λ e. goes aggressive flag (rd n W s e)) E

abbrev pub kept_v : ℕ → List ℤ → List ℕ → List ℕ
kept_v n s U = keep (λ v. ltb 0 (rd n WANT s v)) U

-- the sum of the sizes and weights, and that of the numbers
abbrev pub sizes : ℕ → ℕ → List ℤ → List ℕ → List ℕ → ℕ
sizes n flag s es vs = total (λ e. rd n W s e - flag) es + total (rd n WANT s) vs

abbrev pub numbers : List ℕ → List ℕ → ℕ
numbers es vs = total itself es + total itself vs

-- the memory m, with es and vs kept and `gone` taken up
pub record Row (n me flag : ℕ) (X : ℕ → List ℕ) (l s : List ℤ) (cnt base lim i : ℕ) (gone es vs : List ℕ) (m : Keeping) : Type 0 where
  pub elements : m.kept.elements ≡ rd n PE s i + length es
  pub end : m.kept.end ≡ rd n PE s i + (length es + length vs)
  pub deg : sizes n flag s es vs < 2 ^ 63 → m.kept.deg ≡ sizes n flag s es vs
  pub sum : numbers es vs < 2 ^ 63 → m.kept.sum ≡ numbers es vs
  pub first : entries (at m.lists) (rd n PE s i) (length es) ≡ es
  pub second : entries (at m.lists) (rd n PE s i + length es) (length vs) ≡ vs
  pub rest : (q : ℕ) → (q < rd n PE s i) ⊎ (rd n PE s i + rd n LEN s i ≤ q) → at m.lists q ≡ at l q
  pub long : length m.lists ≡ length l
  pub freed : Freed n me X l s cnt base lim gone m.mem

module _ (n me flag : ℕ) (aggressive : Bool) (X : ℕ → List ℕ) (l s : List ℤ) (cnt base lim : ℕ) (g : Space n X l s cnt base lim)
    (i : ℕ) (E U : List ℕ) (list : X i ≡ E ++ U) (elen : rd n ELEN s i ≡ length E) (some : 0 < length E + length U) where
  abbrev p : ℕ
  p = rd n PE s i

  whole : rd n LEN s i ≡ length E + length U
  whole = len_of l (places n s) lim X g.lists i ∙ ap length list ∙ length-append E U

  inside_l : p + (length E + length U) ≤ length l
  inside_l = omega (arith, whole, ends l (places n s) lim X g.lists i (omega (arith, whole)), g.lists.fits)

  both : entries (at l) p (length E + length U) ≡ E ++ U
  both = ap (entries (at l) p) (sym whole) ∙ g.lists.lists i ∙ list

  has_e : entries (at l) p (length E) ≡ E
  has_e = sym (entries_take (at l) p (length E + length U) (length E) (omega arith)) ∙ ap (take (length E)) both ∙ take-append_seam E U

  has_u : entries (at l) (p + length E) (length U) ≡ U
  has_u = sym (entries_drop (at l) p (length U) (length E)) ∙ ap (drop (length E)) both ∙ drop-append_seam E U

  abbrev m₁ : Keeping
  m₁ = kept_elements n me flag aggressive p (length E) l s

  sifted : Sifted n me flag aggressive X l s cnt base lim g p (length E) (omega (arith, inside_l)) (length E) m₁
  sifted = elements_sifted n me flag aggressive X l s cnt base lim g p (length E) (omega (arith, inside_l))

  abbrev k_e : List ℕ
  k_e = kept_e n flag aggressive s E

  abbrev k_v : List ℕ
  k_v = kept_v n s U

  left₁ : Left (λ e. rd n W s e - flag) l p p 0 0 (length E) k_e m₁
  left₁ = subst (λ (y : List ℕ). Left (λ e. rd n W s e - flag) l p p 0 0 (length E) (kept_e n flag aggressive s y) m₁) has_e sifted.left

  freed₁ : Freed n me X l s cnt base lim (gone_e n flag aggressive s E) m₁.mem
  freed₁ = subst (λ (y : List ℕ). Freed n me X l s cnt base lim (gone_e n flag aggressive s y) m₁.mem) has_e sifted.freed

  -- nothing of it is a weight
  wants : (v : ℕ) → rd n WANT m₁.mem v ≡ rd n WANT s v
  wants v = freed₁.fields WANT v refl refl refl

  has_u₁ : entries (at m₁.lists) (p + length E) (length U) ≡ U
  has_u₁ = entries_same (at l) (at m₁.lists) (p + length E) (p + length E) (length U) (λ t c. left₁.rest (p + length E + t) (inr (omega arith))) ∙ has_u

  same_kept : kept_v n m₁.mem U ≡ k_v
  same_kept = keep_same (λ v. ltb 0 (rd n WANT m₁.mem v)) (λ v. ltb 0 (rd n WANT s v)) U (λ v c. ap (ltb 0) (wants v))

  same_total : total (rd n WANT m₁.mem) k_v ≡ total (rd n WANT s) k_v
  same_total = total_members (rd n WANT m₁.mem) (rd n WANT s) k_v (λ v c. wants v)

  abbrev m₂ : Keeping
  m₂ = kept_variables n (p + length E) (length U) m₁

  abbrev L₂ : List ℕ → Type 0
  L₂ ys = Left (rd n WANT m₁.mem) m₁.lists m₁.kept.end (p + length E) m₁.kept.deg m₁.kept.sum (length U) ys m₂

  picked : L₂ (kept_v n m₁.mem (entries (at m₁.lists) (p + length E) (length U))) × (m₂.mem ≡ m₁.mem) × (m₂.kept.elements ≡ m₁.kept.end)
  picked =
      variables_picked n (p + length E) (length U) m₁.lists m₁.mem m₁.kept (omega (arith, left₁.end, left₁.few)) (omega (arith, inside_l, left₁.long))

  left₂ : L₂ k_v
  left₂ = subst L₂ same_kept (subst (λ (y : List ℕ). L₂ (kept_v n m₁.mem y)) has_u₁ picked.0)

  row₂ : Row n me flag X l s cnt base lim i (gone_e n flag aggressive s E) k_e k_v m₂
  row₂ =
      let c = left₁.end in
      record {
        elements = picked.2 ∙ c;
        end = omega (arith, left₂.end, c);
        deg = λ f. let d : m₁.kept.deg ≡ total (λ e. rd n W s e - flag) k_e = left₁.deg (omega arith) ∙ omega arith in
            left₂.deg (omega (arith, same_total)) ∙ omega (arith, same_total);
        sum = λ f. let d : m₁.kept.sum ≡ total itself k_e = left₁.sum (omega arith) ∙ omega arith in left₂.sum (omega arith) ∙ omega arith;
        first = entries_same (at m₁.lists) (at m₂.lists) p p (length k_e) (λ t z. left₂.rest (p + t) (inl (omega (arith, c)))) ∙ left₁.here;
        second = subst (λ (y : ℕ). entries (at m₂.lists) y (length k_v) ≡ k_v) c left₂.here;
        rest = λ q o. left₂.rest q (⊎_elim (λ z. inl (omega arith)) (λ z. inr (omega (arith, whole))) o)
            ∙ left₁.rest q (⊎_elim (λ z. inl z) (λ z. inr (omega (arith, whole))) o);
        long = left₂.long ∙ left₁.long;
        freed = subst (Freed n me X l s cnt base lim (gone_e n flag aggressive s E)) (sym picked.1) freed₁;
      }

  -- THE list of a row
  pub row_kept : Row n me flag X l s cnt base lim i (gone_e n flag aggressive s E) k_e k_v (kept_all n me flag aggressive (rd n PE s i) (rd n ELEN s i) (rd n LEN s i) l s)
  unfolding kept_all
  row_kept =
      let k : rd n LEN s i - rd n ELEN s i ≡ length U = omega (arith, whole, elen) in
      rw (k, elen) row₂
