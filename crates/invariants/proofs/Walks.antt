-- Walks along a link: their steps, what stands behind what, and that a walk which ends visits no number twice.
use mathlib.Core.Path.{◌≡◌, refl, ap, sym, subst, ◌∙◌}
use mathlib.Core.Bool.{true, false}
use mathlib.Core.List.{List, [], ◌∷◌}
use Prim.Native.Nat.{ℕ, zero, suc, ◌+◌, ◌-◌, ◌≤◌, ◌<◌}
use native.Mathlib.Nat.{not-suc-le-zero}
use native.Mathlib.Numerals.{add-one}
use native.Mathlib.Omega.{arith}
use lib.ListN.{length}
use lib.Dec.{eqb}
use borrow.Author.Tests.{eq-eqb, ne_eqb}
use Rattle.meaning.specs.Base.{walk}
use Rattle.meaning.specs.Neighbours.{NONE, has, behind, Nodup}
use Rattle.invariants.proofs.Lists.{split, eqb_same, no_true}
use Rattle.invariants.proofs.Families.{not_so}

module _ (next : ℕ → ℕ) where
  -- From NONE a walk goes nowhere.
  pub walk_stop : (n e : ℕ) → e ≡ NONE → walk NONE n next e ≡ []
  unfolding walk
  walk_stop zero e q = refl
  walk_stop (suc n) e q = simp (eq-eqb e NONE q)

  walk_suc : (n e : ℕ) → (e ≡ NONE → ⊥) → walk NONE (suc n) next e ≡ e ∷ walk NONE n next (next e)
  unfolding walk
  walk_suc n e q = simp (ne_eqb e NONE q)

  -- From any other number it goes one step, if a step is left.
  pub walk_step : (n e : ℕ) → 0 < n → (e ≡ NONE → ⊥) → walk NONE n next e ≡ e ∷ walk NONE (n - 1) next (next e)
  walk_step zero e h q = absurd (not-suc-le-zero h)
  walk_step (suc n) e h q =
      let p : n ≡ suc n - 1 = omega arith in
      walk_suc n e q ∙ ap (λ (m : ℕ). e ∷ walk NONE m next (next e)) p

  -- more steps than it takes to end change nothing
  enough : (n m e : ℕ) → length (walk NONE n next e) < n → n ≤ m → walk NONE m next e ≡ walk NONE n next e
  enough zero m e h k = absurd (not-suc-le-zero h)
  enough (suc n) zero e h k = absurd (not-suc-le-zero k)
  enough (suc n) (suc m) e h k = split e NONE
      (λ p t. walk_stop (suc m) e p ∙ sym (walk_stop (suc n) e p))
      (λ p t. let w = walk_suc n e p in walk_suc m e p ∙ ap (λ (r : List ℕ). e ∷ r) (enough n m (next e) (omega (arith, ap length w)) (omega arith)) ∙ sym w)

  -- A walk that ends goes on by one step with as many left.
  pub walk_on : (n e : ℕ) → length (walk NONE (n + 1) next e) ≤ n → (e ≡ NONE → ⊥) → walk NONE (n + 1) next e ≡ e ∷ walk NONE (n + 1) next (next e)
  walk_on n e h q =
      let w = ap (λ (m : ℕ). walk NONE m next e) (add-one n) ∙ walk_suc n e q in
      w ∙ ap (λ (r : List ℕ). e ∷ r) (sym (enough n (n + 1) (next e) (omega (arith, ap length w)) (omega arith)))

  -- a number that a walk visits is no further from the end than the number that it starts with
  nearer : (n N e y : ℕ) → length (walk NONE n next e) < n → n ≤ N → has (walk NONE n next e) y ≡ true → length (walk NONE N next y) ≤ length (walk NONE n next e)
  unfolding walk has
  nearer zero N e y h k g = absurd (not-suc-le-zero h)
  nearer (suc n) N e y h k g = split e NONE
      (λ p t. no_true (simp t at g))
      (λ p t. let w = walk_suc n e p in split y e
      (λ q u. omega (arith, ap (λ (x : ℕ). length (walk NONE N next x)) q, ap length (enough (suc n) N e h k)))
      (λ q u. omega (arith, ap length w, nearer n N (next e) y (omega (arith, ap length w)) (omega arith) (simp (t, u) at g))))

  -- A walk that ends visits no number twice.
  pub once : (n e : ℕ) → length (walk NONE n next e) < n → Nodup (walk NONE n next e)
  unfolding Nodup
  once zero e h = absurd (not-suc-le-zero h)
  once (suc n) e h = split e NONE
      (λ p t. subst Nodup (sym (walk_stop (suc n) e p)) tt)
      (λ p t.
      let w = walk_suc n e p in
      let less : length (walk NONE n next (next e)) < n = omega (arith, ap length w) in
      subst Nodup (sym w) (not_so _ (λ g. omega (arith, ap length w, nearer n (suc n) (next e) e less (omega arith) g)), once n (next e) less))

  -- A walk starts where it starts.
  pub walk_front : (n a e : ℕ) → 0 < n → behind a (walk NONE n next e) a ≡ e
  unfolding walk behind
  walk_front zero a e h = absurd (not-suc-le-zero h)
  walk_front (suc n) a e h = split e NONE (λ p t. simp t (sym p)) (λ p t. simp (t, eqb_same a))

  -- Behind a number that a walk visits stands the one that it leads to.
  pub walk_after : (n a e i : ℕ) → length (walk NONE n next e) < n → eqb i a ≡ false → has (walk NONE n next e) i ≡ true → behind a (walk NONE n next e) i ≡ next i
  unfolding walk behind has
  walk_after zero a e i h d k = absurd (not-suc-le-zero h)
  walk_after (suc n) a e i h d k = split e NONE
      (λ p t. no_true (simp t at k))
      (λ p t.
      let l : length (walk NONE n next (next e)) < n = omega (arith, h, ap length (walk_suc n e p)) in
      simp (t, d) (split i e
      (λ q u. ap (behind e (walk NONE n next (next e))) q ∙ walk_front n e (next e) (omega arith) ∙ ap next (sym q))
      (λ q u. walk_after n e (next e) i l u (simp (t, u) at k))))
