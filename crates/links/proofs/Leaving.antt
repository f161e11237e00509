-- A number leaves its list of a family, whether it stands in the list's order or the list has no order: the links, both directions at once.
use Prim.Native.Nat.{ℕ, ◌≤◌, ◌<◌}
use mathlib.Core.Path.{◌≡◌, refl, sym, ap, ◌∙◌, fun_ext}
use mathlib.Core.Bool.{true, false, ◌&&◌, cond}
use mathlib.Core.List.{List, []}
use mathlib.Core.Logic.{◌⊎◌, ⊎_elim}
use native.Mathlib.Omega.{arith}
use lib.Dec.{eqb}
use borrow.Author.Tests.{ne_eqb}
use Rattle.meaning.specs.Neighbours.{NONE, put, has, remove, behind, ahead}
use Rattle.invariants.specs.Places.{Side, fwd, bwd, other, beside, Family}
use Rattle.invariants.proofs.Lists.{split, eqb_same, no_true, beside_absent}
use Rattle.invariants.proofs.Families.{not_so, beside_real, leave_cell, leave_rim}

-- nothing stands beside anything in an empty list
beside_none : (s : Side) (x : ℕ) → beside s [] x ≡ NONE
unfolding behind ahead
beside_none fwd x = refl
beside_none bwd x = split x NONE (λ p t. simp t) (λ p t. simp t)

-- taking a number off an empty list changes no list
pub leave_none : (ord : ℕ → List ℕ) (e j : ℕ) → ord j ≡ [] → put ord j (remove e (ord j)) ≡ ord
unfolding remove
leave_none ord e j none = fun_ext (λ l. split l j (λ p t. simp (p, eqb_same j, none)) (λ p t. simp t))

module _ (n : ℕ) (few : n ≤ 1024) (ord : ℕ → List ℕ) (key : ℕ → ℕ) (F : Family n ord key)
    (e : ℕ) (he : e < n) (on : (has (ord (key e)) e ≡ true) ⊎ (ord (key e) ≡ [])) where
  -- a neighbour is a number below n, or NONE
  pub leaves_near : (s : Side) → (beside s (ord (key e)) e ≡ NONE → ⊥) → beside s (ord (key e)) e < n
  leaves_near s z = ⊎_elim
      (λ h. beside_real n few ord key F s (key e) e h z)
      (λ none. absurd (z (ap (λ (L : List ℕ). beside s L e) none ∙ beside_none s e))) on

  -- key' is the new key, which differs at e alone
  module _ (key' : ℕ → ℕ) (alike : (i : ℕ) → (i ≡ e → ⊥) → key' i ≡ key i) where
    pub leaves_cell : (s : Side) (i : ℕ) → i < n
        → cond (eqb i e) NONE (cond (eqb i (beside (other s) (ord (key e)) e)) (beside s (ord (key e)) e) (beside s (ord (key i)) i))
        ≡ beside s (put ord (key e) (remove e (ord (key e))) (key' i)) i
    unfolding has
    leaves_cell s i hi = ⊎_elim
        (λ h. leave_cell n few ord key F e (key e) h key' alike s i hi)
        (λ none. split i e
        (λ p t. simp (p, eqb_same e) (sym (beside_absent s (ord (key' e)) e (ne_eqb e NONE (omega arith)) (out none (key' e)))))
        (λ p t. simp (t, none, beside_none (other s) e, ne_eqb i NONE (omega arith), alike i p))
        ∙ ap (λ (f : ℕ → List ℕ). beside s (f (key' i)) i) (sym (leave_none ord e (key e) none))) on
      where
        out : ord (key e) ≡ [] → (l : ℕ) → has (ord l) e ≡ false
        out none l = not_so _ (λ h. no_true (sym (ap (λ (L : List ℕ). has L e) (ap ord (sym (F.member l e h).1) ∙ none)) ∙ h))

    pub leaves_rim : (s : Side) (l : ℕ)
        → cond (eqb l (key e) && eqb NONE (beside (other s) (ord (key e)) e)) (beside s (ord (key e)) e) (beside s (ord l) NONE)
        ≡ beside s (put ord (key e) (remove e (ord (key e))) l) NONE
    leaves_rim s l = ⊎_elim
        (λ h. leave_rim n few ord key F e (key e) h key' alike s l)
        (λ none. split l (key e)
        (λ p t. simp (p, eqb_same (key e), none, beside_none s e, beside_none (other s) e, beside_none s NONE))
        (λ p t. simp t)
        ∙ ap (λ (f : ℕ → List ℕ). beside s (f l) NONE) (sym (leave_none ord e (key e) none))) on
