-- Traces without NONE are of pages.
use mathlib.Core.Path.{◌≡◌, refl, sym, ◌∙◌}
use mathlib.Core.List.{List, [], ◌∷◌}
use mathlib.Core.Bool.{false}
use Prim.Native.Nat.{ℕ, zero, suc, ◌<◌}
use native.Mathlib.Omega.{arith}
use lib.ListN.{length, get_or}
use borrow.Author.Tests.{ne_eqb}
use Rattle.meaning.specs.Neighbours.{NONE, has}
use Rattle.invariants.specs.Ram.{Pages}
use Rattle.invariants.proofs.Lists.{split, no_true}

-- words of 32 bits, none of them NONE, are pages
pub all_pages : (t : List ℕ) → ((i : ℕ) → get_or t i 0 < 4294967296) → has t NONE ≡ false → Pages t
unfolding Pages has
all_pages [] fits h = tt
all_pages (p ∷ t) fits h = split NONE p
    (λ z e. no_true (sym h ∙ simp e))
    (λ z e. (omega (arith, fits 0, z), all_pages t (λ i. fits (suc i)) (sym (simp e) ∙ h)))

-- and pages are not NONE
pub no_none : (t : List ℕ) → Pages t → has t NONE ≡ false
unfolding Pages has
no_none [] ps = refl
no_none (p ∷ t) ps = simp (ne_eqb NONE p (λ z. omega (arith, z, ps.0))) (no_none t ps.1)

-- A page of a trace without NONE is not NONE.
pub not_none : (t : List ℕ) (i : ℕ) → has t NONE ≡ false → i < length t → get_or t i 0 ≡ NONE → ⊥
unfolding has
not_none [] i h l z = absurd (omega arith)
not_none (x ∷ t) zero h l z = split NONE x (λ e s. no_true (sym h ∙ simp s)) (λ e s. e (sym z))
not_none (x ∷ t) (suc i) h l z = split NONE x (λ e s. no_true (sym h ∙ simp s)) (λ e s. not_none t i (sym (simp s) ∙ h) (omega arith) z)
