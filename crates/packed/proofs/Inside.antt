-- The gather of a new element's list in its own old place, for a pivot that has no elements.
-- Assumes nothing.
use Rattle.std.proofs.Common.{◌≡◌, ℕ, ◌+◌, ◌^◌, ◌<◌, ◌≤◌, false, eqb, ◌≢◌, List, [], length, ℤ, sym, refl, ap, ◌∙◌, inl, inr, ⊎_elim, arith}
use mathlib.Core.List.{foldl}
use lib.ListN.{length-map}
use Rattle.plain.proofs.Entries.{entries_same}
use Rattle.plain.proofs.Firsts.{length_firsts}
use Rattle.plain.specs.Turns.{entries, firsts, upd}
use Rattle.definition.specs.Room.{Read, read_list}
use Rattle.cells.proofs.Laws.{mem, parent_up_field, rd_up_cell, rd_up_field}
use Rattle.cells.proofs.Slices.{split}
use Rattle.cells.specs.Layout.{HEAD, LAST, LEN, NEXT, ORD, PE, TMP, WANT}
use Rattle.cells.specs.Links.{parent}
use Rattle.cells.specs.View.{at, rd, up}
use Rattle.chain.proofs.Alike.{Alike, alike_then}
use Rattle.chain.specs.Model.{removed}
use Rattle.packed.specs.Gather.{Inside, gathered_inside, replaced}
use Rattle.packed.specs.Model.{laid}
use Rattle.packed.specs.Places.{Space, places}
use Rattle.packed.specs.Reading.{entries_of, picked}
use Rattle.packed.specs.Tray.{empty_tray, taking, took_part}
use Rattle.packed.proofs.Dropping.{except}
use Rattle.packed.proofs.Frame.{inside_space, len_of}
use Rattle.packed.proofs.Newcomer.{Laid, laid_there}
use Rattle.packed.proofs.Picked.{entries_list, picked_firsts}
use Rattle.packed.proofs.Readings.{holds_part}
use Rattle.packed.proofs.Spaces.{space_rewritten, space_same}
use Rattle.packed.proofs.Taking.{Holds, holds_none, wants}
use Rattle.packed.specs.declared.Tray.{Tray}

-- from the spaces l and s, the list of me is x, in its own place
pub record Replaced (n : ℕ) (X : ℕ → List ℕ) (l s : List ℤ) (cnt base lim me : ℕ) (x : List ℕ) (m : Inside) : Type 0 where
  pub space : Space n (upd X me x) m.lists m.mem cnt base lim
  pub count : m.count ≡ length x
  pub long : length m.lists ≡ length l
  pub want : (i : ℕ) → rd n WANT m.mem i ≡ except (rd n WANT s) x 0 i
  pub table : entries (rd n TMP m.mem) 0 (length x) ≡ x
  -- the rows that were collected left their degree lists
  pub queues : Alike n (foldl (λ a v. removed n a v) s x) m.mem
  pub fields : (f i : ℕ) → eqb LEN f ≡ false → eqb WANT f ≡ false → eqb TMP f ≡ false → eqb HEAD f ≡ false → eqb NEXT f ≡ false → eqb LAST f ≡ false → rd n f m.mem i ≡ rd n f s i
  pub lengths : (i : ℕ) → i ≢ me → rd n LEN m.mem i ≡ rd n LEN s i
  pub parents : (i : ℕ) → parent n m.mem i ≡ parent n s i

module _ (n : ℕ) (X : ℕ → List ℕ) (l s : List ℤ) (cnt base lim : ℕ) (g : Space n X l s cnt base lim) (narrow : length l < 2 ^ 63) (me : ℕ) (hm : me < n) where
  abbrev k : ℕ
  k = rd n LEN s me

  abbrev p : ℕ
  p = rd n PE s me

  abbrev q : List Read
  q = picked (wants n s) (read_list 0 (X me))

  len : k ≡ length (X me)
  len = len_of l (places n s) lim X g.lists me

  inside_l : 0 < k → p + k ≤ length l
  inside_l z = inside_space l (places n s) lim X g.lists me z

  bound : length (X me) < 2 ^ 63
  bound = ⊎_elim (λ z. omega (arith, inside_l z, len)) (λ z. omega (arith, len)) (split 0 k)

  new_is : entries_of q ≡ firsts (wants n s) (X me)
  new_is = picked_firsts (wants n s) (read_list 0 (X me)) ∙ ap (firsts (wants n s)) (entries_list 0 (X me))

  new_length : length q ≡ length (entries_of q)
  new_length = sym (length-map q (λ (a : Read). a.entry))

  short : length q ≤ k
  short = omega (arith, len, new_length, ap length new_is, length_firsts (wants n s) (X me))

  taken : Holds n k s q (0 + length (X me)) (took_part n k l p k (taking s empty_tray))
  unfolding picked
  taken = holds_part n k s g.room l p k (X me) (g.lists.lists me) inside_l [] 0 (taking s empty_tray) (omega (arith, bound)) (holds_none n k s g.room)

  module _ (s₁ : List ℤ) (t : Tray) (h : Holds n k s q (0 + length (X me)) (taking s₁ t)) where
    space₁ : Space n X l s₁ cnt base lim
    space₁ = space_same n X l s cnt base lim g s₁ h.room (λ i. h.fields PE i refl refl refl refl refl) (λ i. h.fields LEN i refl refl refl refl refl) (λ i. h.fields ORD i refl refl refl refl refl)

    there : Laid l (rd n TMP s₁) (laid n s₁ p t.cnt l) p t.cnt
    there = laid_there n s₁ p l t.cnt (λ z. omega (arith, h.cnt, short, inside_l (omega (arith, h.cnt, short))))

    here : entries (at (laid n s₁ p t.cnt l)) p t.cnt ≡ entries_of q
    here =
        entries_same (rd n TMP s₁) (at (laid n s₁ p t.cnt l)) 0 p t.cnt (λ i b. there.here i b ∙ ap (rd n TMP s₁) (omega arith))
        ∙ ap (λ (c : ℕ). entries (rd n TMP s₁) 0 c) h.cnt ∙ h.table

    replaced_rep : Replaced n X l s cnt base lim me (entries_of q) (replaced n me p l (taking s₁ t))
    unfolding replaced
    replaced_rep =
        let pe : rd n PE s₁ me ≡ p = h.fields PE me refl refl refl refl refl in
        let le : rd n LEN s₁ me ≡ k = h.fields LEN me refl refl refl refl refl in
        record {
          space = space_rewritten n X l s₁ cnt base lim space₁ me hm (laid n s₁ p t.cnt l) t.cnt (entries_of q) (omega (arith, le, h.cnt, short)) there.long
              (λ c o. there.rest c (⊎_elim (λ a. inl (omega (arith, pe))) (λ a. inr (omega (arith, pe, le, h.cnt, short))) o))
              (rw pe here);
          count = h.cnt ∙ new_length;
          long = there.long;
          want = λ i. rd_up_field n LEN WANT s₁ me t.cnt i refl ∙ h.want i;
          table = rw (← new_length) (entries_same (rd n TMP s₁) (rd n TMP (up n LEN s₁ me t.cnt)) 0 0 (length q) (λ i b. rd_up_field n LEN TMP s₁ me t.cnt (0 + i) refl) ∙ h.table);
          queues = alike_then h.queues record { head = λ i. simp mem; next = λ i. simp mem; last = λ i. simp mem; degree = λ i. simp mem };
          fields = λ f i a b c u v w. rd_up_field n LEN f s₁ me t.cnt i a ∙ h.fields f i b c u v w;
          lengths = λ i d. rd_up_cell n LEN LEN s₁ me t.cnt i (λ e. d (sym e)) ∙ h.fields LEN i refl refl refl refl refl;
          parents = λ i. parent_up_field n LEN s₁ me t.cnt i refl ∙ h.parents i;
        }

  -- THE gather in place
  pub gathered_inside_lem : Replaced n X l s cnt base lim me (firsts (wants n s) (X me)) (gathered_inside n me l s)
  unfolding gathered_inside
  gathered_inside_lem =
      let m = took_part n k l p k (taking s empty_tray) in
      rw (← new_is) (replaced_rep m.mem m.tray taken)
