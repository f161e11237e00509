-- Words that are no link and no page: an entry's list, slot and mark, and header word 6. A store at one of them changes the directory there and nowhere else.
use Prim.Native.Nat.{ℕ, ◌<◌}
use mathlib.Core.Path.{◌≡◌, refl, sym, ap, ap₂, ◌∙◌}
use mathlib.Core.Bool.{Bool, true, false, ◌&&◌, ◌||◌, cond}
use mathlib.Core.List.{List}
use native.Mathlib.Omega.{arith}
use lib.Dec.{eqb}
use lib.ListN.{set}
use borrow.Author.Tests.{ne_eqb}
use Rattle.meaning.specs.Neighbours.{NONE, has}
use Rattle.meaning.specs.Layout.{cell_at, mark_col, slot_col}
use Rattle.meaning.specs.Mem.{Mem, with_slot, with_mark, with_word6, entry_count, index_bits}
use Rattle.invariants.specs.Places.{page, list, slot, prev, next, chain, mark, spare, Place, top, head, tail, bucket, end, cell, Valid, addr, image, kind, nth, is, store, Side, fwd, bwd, beside, Fine, Turns, Any}
use Rattle.invariants.proofs.Lists.{split, no_true, beside_absent}
use Rattle.invariants.proofs.Families.{not_so}
use Rattle.cells.specs.Asked.{Within}
use Rattle.cells.proofs.Stores.{same_holds, stored}

-- a place by its two numbers is header word 6, or a list, a slot or a mark
abbrev pub plain_at : ℕ → ℕ → Bool
plain_at k i = (eqb k 0 && eqb i 6) || eqb k 6 || eqb k 7 || eqb k 11

abbrev pub plain : Place → Bool
plain q = plain_at (kind q) (nth q)

-- the directory m with v at the place q
abbrev pub changed : Place → ℕ → Mem → Mem
changed q v m = record {
  tops = λ t. cond (is q (top t)) v (m.tops t);
  pages = m.pages;
  lists = λ i. cond (is q (cell list i)) v (m.lists i);
  slots = λ i. cond (is q (cell slot i)) v (m.slots i);
  marks = λ i. cond (is q (cell mark i)) v (m.marks i);
  order = m.order;
  chained = m.chained;
}

-- an entry on an order keeps its list
abbrev pub Keeps : Place → ℕ → Mem → Type 0
Keeps q v m = (l i : ℕ) → has (m.order l) i ≡ true → (changed q v m).lists i ≡ m.lists i

-- a plain place is none that is not
unlike : (q r : Place) → plain q ≡ true → plain r ≡ false → is q r ≡ false
unlike q r h g = split (kind r) (kind q)
    (λ p s. split (nth r) (nth q) (λ p' s'. no_true (sym g ∙ ap₂ plain_at p p' ∙ h)) (λ p' s'. simp (s, s')))
    (λ p s. simp s)

module _ (m : Mem) (F : Fine m) (q : Place) (v : ℕ) (h : plain q ≡ true) (keeps : Keeps q v m) where
  near : (s : Side) (i : ℕ) → i < entry_count m → beside s (m.order (m.lists i)) i ≡ beside s (m.order ((changed q v m).lists i)) i
  near s i hi = split ((changed q v m).lists i) (m.lists i)
      (λ e t. ap (λ (l : ℕ). beside s (m.order l) i) (sym e))
      (λ e t. let out : (l : ℕ) → has (m.order l) i ≡ false = λ l. not_so _ (λ g. e (keeps l i g)) in
      let real = ne_eqb i NONE (omega (arith, F.few)) in
      beside_absent s _ i real (out _) ∙ sym (beside_absent s _ i real (out _)))

  plain_image : (r : Place) → Valid (entry_count m) (index_bits m) r → store (image m) q v r ≡ image (changed q v m) r
  plain_image (top t) g = refl
  plain_image (head l) g = simp (unlike q (head l) h refl)
  plain_image (tail l) g = simp (unlike q (tail l) h refl)
  plain_image (bucket b) g = simp (unlike q (bucket b) h refl)
  plain_image end g = simp (unlike q end h refl)
  plain_image (cell page i) g = simp (unlike q (cell page i) h refl)
  plain_image (cell list i) g = refl
  plain_image (cell slot i) g = refl
  plain_image (cell prev i) g = simp (unlike q (cell prev i) h refl) (near bwd i g)
  plain_image (cell next i) g = simp (unlike q (cell next i) h refl) (near fwd i g)
  plain_image (cell chain i) g = simp (unlike q (cell chain i) h refl, unlike q (top 3) h refl)
  plain_image (cell mark i) g = refl
  plain_image (cell spare i) g = simp (unlike q (cell spare i) h refl)

  pub plain_fine : Fine (changed q v m)
  plain_fine =
      let two = unlike q (top 2) h refl in let three = unlike q (top 3) h refl in
      record {
        few = simp two F.few;
        bits = simp three F.bits;
        linked = simp two (record { once = F.linked.once; member = λ l i g. ((F.linked.member l i g).0, keeps l i g ∙ (F.linked.member l i g).1) });
        chains = simp (two, three) F.chains;
        range = F.range;
        used = F.used;
        apart = F.apart;
      }

pub plain_turns : {ws ws' : List ℕ} {ok : Mem → Type 0} (q : Place) (v : ℕ) → plain q ≡ true → ((n : ℕ) → ws' ≡ set ws (addr n q) v)
    → ((m : Mem) → Fine m → ok m → Valid (entry_count m) (index_bits m) q × Keeps q v m) → Turns ws ws' ok (changed q v)
plain_turns {ws} {ws'} q v h eq a = record {
  to = λ m R o. let k = a m R.fine o in let two = unlike q (top 2) h refl in let three = unlike q (top 3) h refl in
      record {
        holds = simp (two, three) (same_holds _ _ ws' _ (stored v q R.holds k.0 (eq (entry_count m))) (image (changed q v m)) (plain_image m R.fine q v h k.1));
        fine = plain_fine m R.fine q v h k.1;
      };
}

-- the three uses
pub slot_turns : {e : ℕ} (s : ℕ) {ws ws' : List ℕ} → ws' ≡ set ws (cell_at e slot_col) s → Turns ws ws' (Within e) (with_slot e s)
unfolding with_slot
slot_turns {e} s eq = plain_turns (cell slot e) s refl (λ n. eq) (λ m F o. (o.within, λ l i h. refl))

pub mark_turns : {e : ℕ} (v : ℕ) {ws ws' : List ℕ} → ws' ≡ set ws (cell_at e mark_col) v → Turns ws ws' (Within e) (with_mark e v)
unfolding with_mark
mark_turns {e} v eq = plain_turns (cell mark e) v refl (λ n. eq) (λ m F o. (o.within, λ l i h. refl))

pub word6_turns : (v : ℕ) {ws ws' : List ℕ} → ws' ≡ set ws 6 v → Turns ws ws' Any (with_word6 v)
unfolding with_word6
word6_turns v eq = plain_turns (top 6) v refl (λ n. eq) (λ m F o. (omega arith, λ l i h. refl))
