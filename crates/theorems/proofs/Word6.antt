-- Word 6 and marks stand apart: a directory stays right when they change.
use Prim.Native.Nat.{ℕ}
use mathlib.Core.Path.{◌≡◌, sym, ap, ◌∙◌}
use native.Mathlib.Omega.{arith}
use borrow.Author.Tests.{ne_eqb}
use Rattle.meaning.specs.Neighbours.{NONE}
use Rattle.meaning.specs.Mem.{Mem, held, with_word6, with_mark}
use Rattle.invariants.specs.Places.{Fine}
use Rattle.invariants.specs.Proper.{Seated, Proper}
use Rattle.invariants.proofs.Lists.{split}

-- word 6 is no part of what is asked of a directory
pub word6_fine : (m : Mem) (v : ℕ) → Fine m → Fine (with_word6 v m)
unfolding with_word6
word6_fine m v F = record { few = F.few; bits = F.bits; linked = F.linked; chains = F.chains; range = F.range; used = F.used; apart = F.apart }

-- nor is a mark
mark_fine : (m : Mem) (e v : ℕ) → Fine m → Fine (with_mark e v m)
unfolding with_mark
mark_fine m e v F = record { few = F.few; bits = F.bits; linked = F.linked; chains = F.chains; range = F.range; used = F.used; apart = F.apart }

-- nor of the pages in their slots
pub word6_seated : (m : Mem) (v : ℕ) → Seated m → Seated (with_word6 v m)
word6_seated m v P = record {
  indexed = let I = P.indexed in record {
    fine = word6_fine m v I.fine;
    canonical = let K = I.canonical in unfold with_word6 in record {
      tops = λ t h. simp (ne_eqb t 6 (omega arith)) (K.tops t h);
      pages = K.pages;
      lists = K.lists;
      slots = K.slots;
      marks = K.marks;
    };
    hung = unfold with_word6 in I.hung;
    free = unfold with_word6 in I.free;
    ghost = unfold with_word6 in I.ghost;
  };
  slotted = let S = P.slotted in unfold with_word6 held in record { at = S.at; there = S.there; back = S.back };
}

-- nor of the lists
pub word6_proper : (m : Mem) (v : ℕ) → Proper m → Proper (with_word6 v m)
word6_proper m v P = record { seated = word6_seated m v P.seated; ordered = unfold with_word6 in record { listed = P.ordered.listed; idle = P.ordered.idle } }

-- a used entry may be marked, and any entry unmarked
pub mark_seated : (m : Mem) (e v : ℕ) → Seated m → ((m.pages e ≡ NONE) → v ≡ 0) → Seated (with_mark e v m)
mark_seated m e v P fit = record {
  indexed = let I = P.indexed in record {
    fine = mark_fine m e v I.fine;
    canonical = let K = I.canonical in unfold with_mark in record {
      tops = K.tops;
      pages = K.pages;
      lists = K.lists;
      slots = K.slots;
      marks = λ i h. split i e (λ z t. simp t (fit (ap m.pages (sym z) ∙ K.pages i h))) (λ z t. simp t (K.marks i h));
    };
    hung = unfold with_mark in I.hung;
    free = unfold with_mark in (λ i z. ((I.free i z).0, split i e (λ y t. simp t (fit (ap m.pages (sym y) ∙ z))) (λ y t. simp t (I.free i z).1)));
    ghost = unfold with_mark in I.ghost;
  };
  slotted = let S = P.slotted in unfold with_mark held in record { at = S.at; there = S.there; back = S.back };
}
