-- The end of a list: what stands at its back, and one more put there.
use Prim.Native.Nat.{ℕ, suc}
use mathlib.Core.Path.{◌≡◌, refl, sym, ap, ◌∙◌}
use mathlib.Core.Bool.{true, false}
use mathlib.Core.List.{List, [], ◌∷◌, ◌++◌}
use native.Mathlib.Omega.{arith}
use lib.ListN.{length, take}
use borrow.Author.Tests.{ne_eqb}
use Rattle.meaning.specs.Neighbours.{NONE, has, remove, ahead, before, Nodup}
use Rattle.invariants.proofs.Lists.{split, eqb_same, no_true}
use Rattle.invariants.proofs.Families.{not_so}

-- the last of a list that has something is on it
pub last_in_lem : (a : ℕ) (L : List ℕ) → has L NONE ≡ false → has (a ∷ L) (ahead a L NONE) ≡ true
unfolding has ahead
last_in_lem a [] n = simp (eqb_same a)
last_in_lem a (y ∷ L) n = split NONE y
    (λ z t. no_true (sym n ∙ simp t))
    (λ z t. simp t (let k = last_in_lem y L (sym (simp t) ∙ n) in split (ahead y L NONE) a (λ w v. simp v) (λ w v. simp v k)))

-- and without it the list is its front
last_out : (x : ℕ) (L : List ℕ) → Nodup (x ∷ L) → has L NONE ≡ false → remove (ahead x L NONE) (x ∷ L) ≡ take (length L) (x ∷ L)
unfolding has remove ahead Nodup
last_out x [] d n = simp (eqb_same x)
last_out x (y ∷ K) d n = split NONE y
    (λ z t. no_true (sym n ∙ simp t))
    (λ z t.
    let e : ahead x (y ∷ K) NONE ≡ ahead y K NONE = simp t in
    ap (λ (j : ℕ). remove j (x ∷ (y ∷ K))) e ∙ split (ahead y K NONE) x
    (λ w s. no_true (sym d.0 ∙ ap (has (y ∷ K)) (sym w) ∙ last_in_lem y K (sym (simp t) ∙ n)))
    (λ w s. simp s (ap (λ (r : List ℕ). x ∷ r) (last_out y K d.1 (sym (simp t) ∙ n)))))

-- the back of a list is on it, and without it the list is its front
pub back_out_lem : (L : List ℕ) (n : ℕ) → length L ≡ suc n → Nodup L → has L NONE ≡ false → (has L (before L NONE) ≡ true) × (remove (before L NONE) L ≡ take n L)
unfolding has remove ahead
back_out_lem [] n l d h = absurd (omega arith)
back_out_lem (x ∷ L) n l d h = split NONE x
    (λ z t. no_true (sym h ∙ simp t))
    (λ z t. let i : length L ≡ n = omega arith in let g = sym (simp t) ∙ h in
    let e : before (x ∷ L) NONE ≡ ahead x L NONE = simp t in
    (ap (has (x ∷ L)) e ∙ last_in_lem x L g, ap (λ (j : ℕ). remove j (x ∷ L)) e ∙ last_out x L d g ∙ ap (λ (j : ℕ). take j (x ∷ L)) i))

-- what is on a list with one more at its end
pub end_has : (L : List ℕ) (e i : ℕ) → has (L ++ (e ∷ [])) i ≡ true → (i ≡ e → ⊥) → has L i ≡ true
unfolding has
end_has [] e i h d = sym (simp (ne_eqb i e d)) ∙ h
end_has (x ∷ L) e i h d = split i x (λ z t. simp t) (λ z t. simp t (end_has L e i (sym (simp t) ∙ h) d))

-- one more at the end, and none twice
pub end_once : (L : List ℕ) (e : ℕ) → Nodup L → has L e ≡ false → Nodup (L ++ (e ∷ []))
unfolding has Nodup
end_once [] e d h = (refl, tt)
end_once (x ∷ L) e d h = split e x
    (λ z t. no_true (sym h ∙ simp t))
    (λ z t. (not_so _ (λ g. no_true (sym d.0 ∙ end_has L e x g (λ y. z (sym y)))), end_once L e d.1 (sym (simp t) ∙ h)))
