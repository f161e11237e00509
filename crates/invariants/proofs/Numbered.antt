-- What the number of a list says.
use Prim.Native.Nat.{ℕ, ◌≤◌}
use mathlib.Core.Path.{◌≡◌, sym, ◌∙◌}
use mathlib.Core.Bool.{true}
use native.Mathlib.Omega.{arith}
use lib.Dec.{eqb, leb}
use borrow.Author.Tests.{leb-true}
use Rattle.meaning.specs.Layout.{lists_of, is_list, is_held}
use Rattle.invariants.proofs.Lists.{no_true}
use Rattle.invariants.proofs.Numbers.{by_test}
use Rattle.invariants.proofs.Tests.{and_left, and_right}

few_lists : (p : ℕ) → lists_of p ≤ 4
unfolding lists_of
few_lists p = by_test (eqb p 3) (λ t. simp t (omega arith)) (λ t. by_test (eqb p 4) (λ u. simp (t, u) (omega arith)) (λ u. by_test (eqb p 5) (λ v. simp (t, u, v) (omega arith)) (λ v. simp (t, u, v) (omega arith))))

-- A list that a policy uses is one of four.
pub list_fits : (p j : ℕ) → is_list p j ≡ true → (1 ≤ j) × (j ≤ 4)
unfolding is_list
list_fits p j h = (leb-true 1 j (and_left _ _ h), omega (arith, leb-true j (lists_of p) (and_right (leb 1 j) _ h), few_lists p))

-- A list of held pages is a list.
pub held_used : (j : ℕ) → is_held j ≡ true → j ≡ 0 → ⊥
unfolding is_held
held_used j h z = no_true (sym (simp z) ∙ h)
