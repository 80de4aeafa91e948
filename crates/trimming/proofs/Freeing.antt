-- Elements that a new one takes up: the memory without their lists.
-- Assumes nothing.
use Rattle.std.proofs.Common.{◌≡◌, ℕ, ◌<◌, true, false, eqb, ◌≢◌, ◌⊎◌, List, [], ◌∷◌, ◌++◌, ℤ, sym, refl, ap, ◌∙◌, inl, inr, ⊎_elim}
use mathlib.Core.Path.{subst⁻¹}
use Rattle.plain.proofs.Entries.{upd_other, upd_same}
use Rattle.plain.proofs.Logic.{clash, either}
use Rattle.plain.proofs.Members.{append_either, member_either, member_first, member_left, member_nil, member_right, not_in}
use Rattle.plain.specs.Lists.{member}
use Rattle.plain.specs.Turns.{upd}
use Rattle.cells.proofs.Slices.{same?}
use Rattle.cells.specs.Layout.{LEN, W}
use Rattle.cells.specs.Links.{named, parent}
use Rattle.cells.specs.View.{rd}
use Rattle.packed.proofs.Dropping.{absorbed_field, absorbed_len, absorbed_named, absorbed_other, absorbed_parent, absorbed_w, except}
use Rattle.packed.proofs.Spaces.{space_absorbed, space_renamed}
use Rattle.packed.specs.Tray.{absorbed}
use Rattle.packed.specs.Places.{Space}

-- ---- one more in a list

pub snoc_out : (x e : ℕ) (xs : List ℕ) → member x (xs ++ (e ∷ [])) ≡ false → (member x xs ≡ false) × (e ≢ x)
snoc_out x e xs h = (
  not_in x xs (λ a. clash (member x (xs ++ (e ∷ []))) (member_left x xs (e ∷ []) a) h),
  λ a. clash (member x (xs ++ (e ∷ []))) (member_right x xs (e ∷ []) (member_first x e [] (sym a))) h,
)

snoc_in : (x e : ℕ) (xs : List ℕ) → member x (xs ++ (e ∷ [])) ≡ true → (x ≡ e) ⊎ (member x xs ≡ true)
snoc_in x e xs h =
    ⊎_elim (λ a. inr a) (λ a. ⊎_elim (λ b. inl b) (λ b. absurd (clash (member x []) b (member_nil x))) (member_either x e [] a)) (append_either x xs (e ∷ []) h)

snoc_known : (e : ℕ) (xs : List ℕ) → member e xs ≡ true → (x : ℕ) → member x (xs ++ (e ∷ [])) ≡ member x xs
snoc_known e xs k x =
    either (member x (xs ++ (e ∷ [])) ≡ member x xs) (member x (xs ++ (e ∷ [])))
    (λ a. a ∙ sym (⊎_elim (λ b. ap (λ (y : ℕ). member y xs) b ∙ k) (λ b. b) (snoc_in x e xs a)))
    (λ a. a ∙ sym (snoc_out x e xs a).0)

-- ---- elements that are gone

abbrev pub without : List ℕ → (ℕ → List ℕ) → ℕ → List ℕ
without gone X = except X gone []

-- s' is s, but that the elements of `gone` are children of me
pub record Freed (n me : ℕ) (X : ℕ → List ℕ) (l s : List ℤ) (cnt base lim : ℕ) (gone : List ℕ) (s' : List ℤ) : Type 0 where
  pub space : Space n (without gone X) l s' cnt base lim
  pub fields : (f x : ℕ) → eqb 0 f ≡ false → eqb 1 f ≡ false → eqb 5 f ≡ false → rd n f s' x ≡ rd n f s x
  pub others : (f x : ℕ) → member x gone ≡ false → rd n f s' x ≡ rd n f s x
  pub kin : (x : ℕ) → member x gone ≡ false → parent n s' x ≡ parent n s x
  pub marks : (x : ℕ) → member x gone ≡ true → rd n W s' x ≡ 0
  pub lens : (x : ℕ) → member x gone ≡ true → rd n LEN s' x ≡ 0
  pub links : (x : ℕ) → member x gone ≡ true → parent n s' x ≡ named n me

module _ (n me : ℕ) (X : ℕ → List ℕ) (l s : List ℤ) (cnt base lim : ℕ) where
  pub freed_none : Space n X l s cnt base lim → Freed n me X l s cnt base lim [] s
  freed_none h =
      record {
        space = space_renamed n X l s cnt base lim h (without [] X) (λ j. rw (member_nil j));
        fields = λ f x a b c. refl;
        others = λ f x a. refl;
        kin = λ x a. refl;
        marks = λ x a. absurd (clash (member x []) a (member_nil x));
        lens = λ x a. absurd (clash (member x []) a (member_nil x));
        links = λ x a. absurd (clash (member x []) a (member_nil x));
      }

  module _ (gone : List ℕ) (s' : List ℤ) (h : Freed n me X l s cnt base lim gone s') (e : ℕ) where
    -- one that is gone already
    pub freed_again : member e gone ≡ true → Freed n me X l s cnt base lim (gone ++ (e ∷ [])) s'
    freed_again k =
        record {
          space = space_renamed n (without gone X) l s' cnt base lim h.space (without (gone ++ (e ∷ [])) X) (λ j. rw (snoc_known e gone k j));
          fields = h.fields;
          others = λ f x a. h.others f x (sym (snoc_known e gone k x) ∙ a);
          kin = λ x a. h.kin x (sym (snoc_known e gone k x) ∙ a);
          marks = λ x a. h.marks x (sym (snoc_known e gone k x) ∙ a);
          lens = λ x a. h.lens x (sym (snoc_known e gone k x) ∙ a);
          links = λ x a. h.links x (sym (snoc_known e gone k x) ∙ a);
        }

    -- one more
    module _ (he : e < n) where
      lists_more : (j : ℕ) → (j ≡ e) ⊎ (j ≢ e) → upd (without gone X) e [] j ≡ without (gone ++ (e ∷ [])) X j
      lists_more j (inl u) =
          subst⁻¹ (λ (y : ℕ). upd (without gone X) e [] y ≡ without (gone ++ (e ∷ [])) X y) u
          (upd_same (without gone X) e [] ∙ rw (member_right e gone (e ∷ []) (member_first e e [] refl)))
      lists_more j (inr u) =
          upd_other (without gone X) e [] j u
          ∙ either (without gone X j ≡ without (gone ++ (e ∷ [])) X j) (member j gone)
          (λ k. rw (k, member_left j gone (e ∷ []) k))
          (λ k. rw (k, not_in j (gone ++ (e ∷ [])) (λ c. ⊎_elim (λ d. absurd (u d)) (λ d. clash (member j gone) d k) (snoc_in j e gone c))))

      kept_field : (f x : ℕ) → e ≢ x → rd n f (absorbed n me e s') x ≡ rd n f s' x
      kept_field f x d = absorbed_other n me s' e f x (λ y. d (sym y))

      kept_link : (x : ℕ) → e ≢ x → parent n (absorbed n me e s') x ≡ parent n s' x
      kept_link x d = absorbed_parent n me s' e x (λ y. d (sym y))

      by : {A : Type 0} (F : ℕ → A) (c : A) (x : ℕ) → F e ≡ c → (e ≢ x → member x gone ≡ true → F x ≡ c) → member x (gone ++ (e ∷ [])) ≡ true → F x ≡ c
      by F c x u v k =
          ⊎_elim (λ d. ap F d ∙ u)
          (λ d. ⊎_elim (λ y. ap F (sym y) ∙ u) (λ y. v y d) (same? e x))
          (snoc_in x e gone k)

      pub freed_more : Freed n me X l s cnt base lim (gone ++ (e ∷ [])) (absorbed n me e s')
      freed_more =
          let s₁ = absorbed n me e s' in
          let room = h.space.room in
          record {
            space = space_renamed n (upd (without gone X) e []) l s₁ cnt base lim
                (space_absorbed n (without gone X) l s' cnt base lim h.space me e he) (without (gone ++ (e ∷ [])) X) (λ j. lists_more j (same? j e));
            fields = λ f x u v w. absorbed_field n me s' e f x v w u ∙ h.fields f x u v w;
            others = λ f x u. let o = snoc_out x e gone u in kept_field f x o.1 ∙ h.others f x o.0;
            kin = λ x u. let o = snoc_out x e gone u in kept_link x o.1 ∙ h.kin x o.0;
            marks = λ x u. by (rd n W s₁) 0 x (absorbed_w n me s' e room he) (λ d k. kept_field W x d ∙ h.marks x k) u;
            lens = λ x u. by (rd n LEN s₁) 0 x (absorbed_len n me s' e room he) (λ d k. kept_field LEN x d ∙ h.lens x k) u;
            links = λ x u. by (parent n s₁) (named n me) x (absorbed_named n me s' e room he) (λ d k. kept_link x d ∙ h.links x k) u;
          }
