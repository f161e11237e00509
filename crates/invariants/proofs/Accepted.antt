-- What settings are that form accepts, and how many entries they make.
use mathlib.Core.Path.{◌≡◌, refl}
use mathlib.Core.Bool.{Bool, true, false, not, ◌&&◌}
use Prim.Native.Nat.{ℕ, zero, suc, ◌+◌, ◌*◌, ◌≤◌}
use native.Mathlib.Omega.{arith}
use lib.Dec.{eqb, leb}
use borrow.Author.Tests.{leb-true}
use Rattle.std.specs.Prelude.{if◌then◌else◌}
use Rattle.meaning.specs.Layout.{is_split, entries_of, least_capacity, first_fits, second_fits, settings_refusal}
use Rattle.invariants.proofs.Numbers.{by_test}
use Rattle.invariants.proofs.Tests.{and_left, and_right}

-- What settings that form accepts are.
pub record Accepted (p C f s : ℕ) : Type 0 where
  pub policy : (1 ≤ p) × (p ≤ 5)
  pub least : least_capacity p ≤ C
  pub most : C ≤ 512
  pub first : first_fits p C f ≡ true
  pub second : second_fits p C s ≡ true

none_refused : (a b c : Bool) → ◌≡◌ {A = ℕ} (if not a then 1 else if not b then 2 else if not c then 3 else 0) 0 → (a ≡ true) × (b ≡ true) × (c ≡ true)
none_refused true true true h = (refl, refl, refl)
none_refused true true false h = absurd (omega arith)
none_refused true false c h = absurd (omega arith)
none_refused false b c h = absurd (omega arith)

-- Settings that are not refused are accepted.
pub accepted : (p C f s : ℕ) → settings_refusal p C f s ≡ 0 → Accepted p C f s
unfolding settings_refusal
accepted p C f s h =
    let k = none_refused (leb 1 p && leb p 5) (leb (least_capacity p) C && leb C 512) (first_fits p C f && second_fits p C s) h in
    record {
      policy = (leb-true 1 p (and_left (leb 1 p) (leb p 5) k.0), leb-true p 5 (and_right (leb 1 p) (leb p 5) k.0));
      least = leb-true _ C (and_left (leb (least_capacity p) C) (leb C 512) k.1);
      most = leb-true C 512 (and_right (leb (least_capacity p) C) (leb C 512) k.1);
      first = and_left (first_fits p C f) (second_fits p C s) k.2;
      second = and_right (first_fits p C f) (second_fits p C s) k.2;
    }

-- Accepted settings make at most 1,024 entries.
pub few_entries : (p C f s : ℕ) → settings_refusal p C f s ≡ 0 → entries_of p C s ≤ 1024
unfolding entries_of second_fits
few_entries p C f s h = go (eqb p 4) (eqb p 5) (accepted p C f s h).second
  where
    small : C ≤ 512
    small = (accepted p C f s h).most

    go : (a b : Bool) → (if a then leb 1 s && leb s C else eqb s 0) ≡ true → (if a then C + s else if b then 2 * C else C) ≤ 1024
    go true b q = omega (arith, small, leb-true s C (and_right (leb 1 s) (leb s C) q))
    go false true q = omega (arith, small)
    go false false q = omega (arith, small)

-- a policy that is none of the first four is the fifth
pub fifth : (q : ℕ) → (1 ≤ q) × (q ≤ 5) → (q ≡ 1 → ⊥) → (q ≡ 2 → ⊥) → (q ≡ 3 → ⊥) → (q ≡ 4 → ⊥) → q ≡ 5
fifth zero h a b c d = absurd (omega (arith, h))
fifth (suc zero) h a b c d = absurd (a refl)
fifth (suc (suc zero)) h a b c d = absurd (b refl)
fifth (suc (suc (suc zero))) h a b c d = absurd (c refl)
fifth (suc (suc (suc (suc zero)))) h a b c d = absurd (d refl)
fifth (suc (suc (suc (suc (suc q))))) h a b c d = omega (arith, h)

-- every policy asks for a capacity
pub some_capacity : (q : ℕ) → 1 ≤ least_capacity q
unfolding least_capacity
some_capacity q = by_test (is_split q) (λ t. simp t (omega arith)) (λ t. simp t (omega arith))
