-- A family of lists from which one number leaves, or which one number joins: its links, and that it stays a family. Once, for the lists and for the chains.
use Prim.Native.Nat.{ℕ, ◌≤◌, ◌<◌}
use mathlib.Core.Path.{◌≡◌, refl, sym, ap, ◌∙◌, subst}
use mathlib.Core.Bool.{Bool, true, false, ◌&&◌, cond}
use mathlib.Core.List.{List, ◌∷◌}
use native.Mathlib.Omega.{arith}
use lib.Dec.{eqb}
use borrow.Author.Tests.{ne_eqb}
use Rattle.meaning.specs.Neighbours.{NONE, put, has, remove, after, before, Nodup}
use Rattle.invariants.specs.Places.{Side, other, beside, Family}
use Rattle.invariants.proofs.Lists.{split, eqb_same, no_true, beside_remove, beside_has, beside_absent, nodup_remove, has_remove, after_push, before_push, after_has}

pub not_so : (b : Bool) → (b ≡ true → ⊥) → b ≡ false
not_so true f = absurd (f refl)
not_so false f = refl

module _ (n : ℕ) (few : n ≤ 1024) (ord : ℕ → List ℕ) (key : ℕ → ℕ) (F : Family n ord key) where
  none_on : (l : ℕ) → has (ord l) NONE ≡ false
  none_on l = not_so _ (λ h. omega (arith, (F.member l NONE h).0))

  pub beside_real : (s : Side) (l e : ℕ) → has (ord l) e ≡ true → (beside s (ord l) e ≡ NONE → ⊥) → beside s (ord l) e < n
  beside_real s l e on z = (F.member l (beside s (ord l) e) (beside_has s (ord l) e on z)).0

  pub first_real : (l : ℕ) → (after (ord l) NONE ≡ NONE → ⊥) → after (ord l) NONE < n
  first_real l z = (F.member l (after (ord l) NONE) (after_has (ord l) NONE z)).0

  -- e leaves the list j; key' is the new key, which differs at e alone
  module _ (e j : ℕ) (on : has (ord j) e ≡ true) (key' : ℕ → ℕ) (alike : (i : ℕ) → (i ≡ e → ⊥) → key' i ≡ key i) where
    gone : (l : ℕ) → has (put ord j (remove e (ord j)) l) e ≡ false
    gone l = split l j (λ p t. simp (t, has_remove e e (ord j), eqb_same e))
        (λ p t. simp t (not_so _ (λ h. p (sym (F.member l e h).1 ∙ (F.member j e on).1))))

    pub leave_cell : (s : Side) (i : ℕ) → i < n
        → cond (eqb i e) NONE (cond (eqb i (beside (other s) (ord j) e)) (beside s (ord j) e) (beside s (ord (key i)) i))
        ≡ beside s (put ord j (remove e (ord j)) (key' i)) i
    leave_cell s i hi = split i e
        (λ p t. simp (p, eqb_same e) (sym (beside_absent s _ e (ne_eqb e NONE (omega (arith, (F.member j e on).0))) (gone (key' e)))))
        (λ p t. simp (t, alike i p) (split (key i) j
        (λ q u. simp (q, eqb_same j) (sym (beside_remove s e i (ord j) on (F.once j) (none_on j) (ne_eqb e NONE (omega (arith, (F.member j e on).0))) t)))
        (λ q u. simp (u, ne_eqb i (beside (other s) (ord j) e) (λ z. q (F.member j i (rw z (beside_has (other s) (ord j) e on (λ y. omega (arith, z, y))))).1)))))

    pub leave_rim : (s : Side) (l : ℕ)
        → cond (eqb l j && eqb NONE (beside (other s) (ord j) e)) (beside s (ord j) e) (beside s (ord l) NONE) ≡ beside s (put ord j (remove e (ord j)) l) NONE
    leave_rim s l = split l j
        (λ p t. simp (p, eqb_same j) (sym (beside_remove s e NONE (ord j) on (F.once j) (none_on j)
        (ne_eqb e NONE (omega (arith, (F.member j e on).0))) (ne_eqb NONE e (omega (arith, (F.member j e on).0))))))
        (λ p t. simp t)

    -- what is on a list afterwards was there, and is not e
    pub leave_has : (l i : ℕ) → has (put ord j (remove e (ord j)) l) i ≡ true → (has (ord l) i ≡ true) × (i ≡ e → ⊥)
    leave_has l i h = split i e (λ p t. no_true (sym (gone l) ∙ ap (has (put ord j (remove e (ord j)) l)) (sym p) ∙ h))
        (λ p t. (split l j (λ q u. rw q (simp (u, has_remove e i (ord j), t) at h)) (λ q u. simp u at h), p))

    pub leave_family : Family n (put ord j (remove e (ord j))) key'
    leave_family = record {
      once = λ l. split l j (λ p t. simp t (nodup_remove e (ord j) (F.once j))) (λ p t. simp t (F.once l));
      member = λ l i h. let k = leave_has l i h in ((F.member l i k.0).0, alike i k.1 ∙ (F.member l i k.0).1);
    }

  -- e, which is on no list, joins the list j at the front
  module _ (e j : ℕ) (he : e < n) (out : (l : ℕ) → has (ord l) e ≡ false) (key' : ℕ → ℕ) (at : key' e ≡ j) (alike : (i : ℕ) → (i ≡ e → ⊥) → key' i ≡ key i) where
    real : eqb e NONE ≡ false
    real = ne_eqb e NONE (omega arith)

    pub join_next : (i : ℕ) → i < n → cond (eqb i e) (after (ord j) NONE) (after (ord (key i)) i) ≡ after (put ord j (e ∷ ord j) (key' i)) i
    join_next i hi = split i e
        (λ p t. simp (p, at, eqb_same j, after_push e e (ord j) real, real, eqb_same e))
        (λ p t. simp (t, alike i p) (split (key i) j
        (λ q u. simp (q, eqb_same j, after_push e i (ord j) real, ne_eqb i NONE (omega arith), t))
        (λ q u. simp u)))

    pub join_prev : (i : ℕ) → i < n
        → cond (eqb i e) NONE (cond (eqb i (after (ord j) NONE)) e (before (ord (key i)) i)) ≡ before (put ord j (e ∷ ord j) (key' i)) i
    join_prev i hi = split i e
        (λ p t. simp (p, at, eqb_same j, before_push e e (ord j), eqb_same e))
        (λ p t. simp (t, alike i p) (split (key i) j
        (λ q u. simp (q, eqb_same j, before_push e i (ord j), t))
        (λ q u. simp (u, ne_eqb i (after (ord j) NONE) (λ z. q (F.member j i (rw z (after_has (ord j) NONE (λ y. omega (arith, z, y))))).1)))))

    pub join_head : (l : ℕ) → cond (eqb l j) e (after (ord l) NONE) ≡ after (put ord j (e ∷ ord j) l) NONE
    join_head l = split l j (λ p t. simp (t, after_push e NONE (ord j) real)) (λ p t. simp t)

    pub join_tail : (l : ℕ) → cond (eqb l j && eqb NONE (after (ord j) NONE)) e (before (ord l) NONE) ≡ before (put ord j (e ∷ ord j) l) NONE
    join_tail l = split l j (λ p t. simp (p, eqb_same j, before_push e NONE (ord j), ne_eqb NONE e (omega arith))) (λ p t. simp t)

    pub join_has : {P : ℕ → ℕ → Type 0} → P j e → ((l i : ℕ) → (i ≡ e → ⊥) → has (ord l) i ≡ true → P l i) → (l i : ℕ) → has (put ord j (e ∷ ord j) l) i ≡ true → P l i
    unfolding has
    join_has {P} a b l i h = split l j
        (λ p t. split i e (λ q u. subst (λ (z : ℕ). P z i) (sym p) (subst (P j) (sym q) a)) (λ q u. b l i q (rw p (simp (t, u) at h))))
        (λ p t. let g : has (ord l) i ≡ true = simp t at h in b l i (λ q. no_true (sym (out l) ∙ ap (has (ord l)) (sym q) ∙ g)) g)

    pub join_family : Family n (put ord j (e ∷ ord j)) key'
    unfolding Nodup
    join_family = record {
      once = λ l. split l j (λ p t. simp t (out j, F.once j)) (λ p t. simp t (F.once l));
      member = join_has {P = λ l i. (i < n) × (key' i ≡ l)} (he, at) (λ l i q h. ((F.member l i h).0, alike i q ∙ (F.member l i h).1));
    }
