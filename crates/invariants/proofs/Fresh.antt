-- A fresh directory is proper.
use Prim.Native.Nat.{ℕ, zero, suc, ◌+◌, ◌^◌, ◌≤◌}
use mathlib.Core.Path.{◌≡◌, refl, sym, ap, ◌∙◌}
use mathlib.Core.List.{[]}
use mathlib.Core.Bool.{false}
use native.Mathlib.Omega.{arith}
use lib.Dec.{leb, ltb}
use borrow.Author.Tests.{ne_eqb, le-ltb}
use Rattle.meaning.specs.Neighbours.{has, Nodup}
use Rattle.meaning.specs.Layout.{Settings, is_held, entries_of, bits_from, bits_of}
use Rattle.meaning.specs.Mem.{settings_top, empty, fresh, held}
use Rattle.invariants.specs.Places.{Family}
use Rattle.invariants.specs.Proper.{Proper}
use Rattle.invariants.proofs.Lists.{no_true}
use Rattle.invariants.proofs.Numbers.{by_test}
use Rattle.invariants.proofs.Counted.{tally_none}

module _ (t : ℕ → ℕ) (few : t 2 ≤ 1024) (bits : t 3 ≤ 32) (top : (a : ℕ) → 7 ≤ a → t a ≡ 0) where
  none : {key : ℕ → ℕ} → Family (t 2) (λ l. []) key
  unfolding has Nodup
  none = record { once = λ l. tt; member = λ l i h. no_true h }

  pub empty_proper : Proper (empty t)
  unfolding empty has is_held held
  empty_proper = record {
    seated = record {
      indexed = record {
        fine = record { few = few; bits = bits; linked = none; chains = none; range = λ j i h. no_true h; used = λ b i h. no_true h; apart = λ i h z. absurd (z refl) };
        canonical = record { tops = top; pages = λ i h. refl; lists = λ i h. refl; slots = λ i h. refl; marks = λ i h. refl };
        hung = λ i z. absurd (z refl);
        free = λ i z. (refl, refl);
        ghost = λ i z. refl;
      };
      slotted = record {
        at = λ s. 0;
        there = λ s h. no_true (sym (le-ltb s 0 (omega arith)) ∙ ap (λ (n : ℕ). ltb s n) (sym (tally_none (t 2) (λ i. false) (λ i l. refl))) ∙ h);
        back = λ i h. no_true h;
      };
    };
    ordered = record { listed = λ i z. absurd (z refl); idle = λ i z. refl };
  }

-- Index bits found in n steps from k on are at most n + k.
pub bits_small : (n k E : ℕ) → bits_from n k E ≤ n + k
unfolding bits_from
bits_small zero k E = omega arith
bits_small (suc n) k E = by_test (leb E (2 ^ k)) (λ t. simp t (omega arith)) (λ t. simp t (omega (arith, bits_small n (suc k) E)))

pub fresh_proper : (s : Settings) → entries_of s.policy s.C s.second ≤ 1024 → Proper (fresh s)
unfolding fresh settings_top bits_of
fresh_proper s few = empty_proper (settings_top s) few (omega (arith, bits_small 10 0 (entries_of s.policy s.C s.second)))
    (λ a h. simp (ne_eqb a 0 (omega arith), ne_eqb a 1 (omega arith), ne_eqb a 2 (omega arith), ne_eqb a 3 (omega arith), ne_eqb a 4 (omega arith), ne_eqb a 5 (omega arith)))
