-- The neighbours in a list from which one is taken out, and in a list with one more in front: once, over any list without repeats.
use Prim.Native.Nat.{ℕ}
use mathlib.Core.Path.{◌≡◌, refl, sym, ap, ◌∙◌}
use mathlib.Core.Bool.{Bool, true, false, cond}
use mathlib.Core.List.{List, [], ◌∷◌}
use native.Mathlib.Omega.{arith}
use lib.Dec.{eqb}
use borrow.Author.Tests.{eq-eqb, ne_eqb, eqb-true, eqb-false}
use Rattle.meaning.specs.Neighbours.{NONE, has, remove, behind, ahead, after, before, Nodup}
use Rattle.invariants.specs.Places.{Side, fwd, bwd, other, beside}

-- x is y or not, with what the test then says
pub split {ℓ} : {P : Type ℓ} (x y : ℕ) → (x ≡ y → eqb x y ≡ true → P) → ((x ≡ y → ⊥) → eqb x y ≡ false → P) → P
split {P = P} x y f g = go (eqb x y) refl
  where
    go : (b : Bool) → eqb x y ≡ b → P
    go true t = f (eqb-true x y t) t
    go false t = g (eqb-false x y t) t

pub eqb_same : (x : ℕ) → eqb x x ≡ true
eqb_same x = eq-eqb x x refl

pub no_true : {P : Type 0} → false ≡ true → P
no_true e = let z : ◌≡◌ {A = ℕ} 0 1 = cc in absurd (omega arith)

-- the number in front of a list's rest matters to its own successor alone
pub behind_self : (a b : ℕ) (L : List ℕ) → behind a L a ≡ behind b L b
unfolding behind
behind_self a b [] = refl
behind_self a b (y ∷ L) = simp (eqb_same a, eqb_same b)

behind_other : (a b : ℕ) (L : List ℕ) (x : ℕ) → eqb x a ≡ false → eqb x b ≡ false → behind a L x ≡ behind b L x
unfolding behind
behind_other a b [] x p q = refl
behind_other a b (y ∷ L) x p q = simp (p, q)

-- what stands behind something is in the list, or NONE
behind_in : (a : ℕ) (L : List ℕ) (x y : ℕ) → has L y ≡ false → (y ≡ NONE → ⊥) → eqb y (behind a L x) ≡ false
unfolding behind has
behind_in a [] x y h n = ne_eqb y NONE n
behind_in a (z ∷ L) x y h n = split y z (λ p t. no_true (sym h ∙ simp t)) (λ p t.
    split x a (λ q s. simp (s, t)) (λ q s. simp s (behind_in z L x y (sym (simp t) ∙ h) n)))

-- what stands in front of a member is the list's, or what stands in front of all
ahead_in : (a : ℕ) (L : List ℕ) (e y : ℕ) → has L e ≡ true → eqb y a ≡ false → has L y ≡ false → eqb y (ahead a L e) ≡ false
unfolding ahead has
ahead_in a [] e y m n h = no_true m
ahead_in a (z ∷ L) e y m n h = split y z (λ p t. no_true (sym h ∙ simp t)) (λ p t.
    split e z (λ q s. simp s n) (λ q s. simp s (ahead_in z L e y (sym (simp s) ∙ m) t (sym (simp t) ∙ h))))

pub remove_absent : (e : ℕ) (L : List ℕ) → has L e ≡ false → remove e L ≡ L
unfolding remove has
remove_absent e [] h = refl
remove_absent e (y ∷ L) h = split e y (λ p t. no_true (sym h ∙ simp t)) (λ p t.
    simp t (ap (λ (l : List ℕ). y ∷ l) (remove_absent e L (sym (simp t) ∙ h))))

pub behind_remove : (a e x : ℕ) (L : List ℕ) → has L e ≡ true → Nodup L → has L a ≡ false → eqb e a ≡ false → eqb x e ≡ false
    → behind a (remove e L) x ≡ cond (eqb x (ahead a L e)) (behind a L e) (behind a L x)
unfolding behind ahead has remove Nodup
behind_remove a e x [] m d na ea xe = no_true m
behind_remove a e x (y ∷ L) m d na ea xe = split e y
    (λ p t. simp (t, ea, remove_absent e L (rw p d.0)) (split x a
    (λ q s. simp s (ap (behind a L) q ∙ behind_self a y L ∙ ap (behind y L) (sym p)))
    (λ q s. simp s (behind_other a y L x s (rw p at xe)))))
    (λ p t. let ih = behind_remove y e x L (sym (simp t) ∙ m) d.1 d.0 t xe in
    split a y (λ q s. no_true (sym na ∙ simp s)) (λ q s. simp (t, ea) (split x a
    (λ r u. simp (u, ap (λ (z : ℕ). eqb z (ahead y L e)) r, ahead_in y L e a (sym (simp t) ∙ m) s (sym (simp s) ∙ na)))
    (λ r u. simp (u, ih)))))

-- the number in front of a list matters to the list's first alone
ahead_start : (a b c x : ℕ) (L : List ℕ) → ahead b L x ≡ cond (eqb x (behind c L c)) b (ahead a L x)
unfolding ahead behind
ahead_start a b c x [] = split x NONE (λ p t. simp t) (λ p t. simp t)
ahead_start a b c x (y ∷ L) = simp (eqb_same c) (split x y (λ p t. simp t) (λ p t. simp t))

pub ahead_remove : (a e x : ℕ) (L : List ℕ) → has L e ≡ true → Nodup L → has L NONE ≡ false → eqb e a ≡ false → eqb x e ≡ false
    → ahead a (remove e L) x ≡ cond (eqb x (behind a L e)) (ahead a L e) (ahead a L x)
unfolding behind ahead has remove Nodup
ahead_remove a e x [] m d n ea xe = no_true m
ahead_remove a e x (y ∷ L) m d n ea xe = split e y
    (λ p t. simp (t, ea, rw p at xe, ap (behind y L) p, remove_absent e L (rw p d.0)) (ahead_start y a y x L))
    (λ p t. let ih = ahead_remove y e x L (sym (simp t) ∙ m) d.1 (rest n) t xe in
    simp (t, ea) (split x y
    (λ r u. simp (u, ap (λ (z : ℕ). eqb z (behind y L e)) r, behind_in y L e y d.0 (λ z. no_true (sym n ∙ simp (eq-eqb NONE y (sym z))))))
    (λ r u. simp (u, ih))))
  where
    rest : has (y ∷ L) NONE ≡ false → has L NONE ≡ false
    rest h = split NONE y (λ q s. no_true (sym h ∙ simp s)) (λ q s. sym (simp s) ∙ h)

-- one more in front
pub after_push : (e x : ℕ) (L : List ℕ) → eqb e NONE ≡ false → after (e ∷ L) x ≡ cond (eqb x NONE) e (cond (eqb x e) (after L NONE) (after L x))
unfolding behind
after_push e x L n = split x NONE (λ p t. simp t) (λ p t. simp t (split x e
    (λ q s. simp s (ap (behind e L) q ∙ behind_self e NONE L))
    (λ q s. simp s (behind_other e NONE L x s t))))

pub before_push : (e x : ℕ) (L : List ℕ) → before (e ∷ L) x ≡ cond (eqb x e) NONE (cond (eqb x (after L NONE)) e (before L x))
unfolding ahead
before_push e x L = simp (ahead_start NONE e NONE x L)

pub has_remove : (e x : ℕ) (L : List ℕ) → has (remove e L) x ≡ cond (eqb x e) false (has L x)
unfolding has remove
has_remove e x [] = split x e (λ p t. simp t) (λ p t. simp t)
has_remove e x (y ∷ L) = let ih = has_remove e x L in split e y
    (λ p t. simp (t, ih) (split x e (λ q s. simp s) (λ q s. simp (s, rw p at s))))
    (λ p t. simp (t, ih) (split x e (λ q s. simp (s, ap (λ (z : ℕ). eqb z y) q, t)) (λ q s. simp s)))

pub nodup_remove : (e : ℕ) (L : List ℕ) → Nodup L → Nodup (remove e L)
unfolding Nodup remove has
nodup_remove e [] d = tt
nodup_remove e (y ∷ L) d = split e y (λ p t. simp t (nodup_remove e L d.1))
    (λ p t. simp t (has_remove e y L ∙ simp d.0 (split y e (λ q s. simp s) (λ q s. simp s)), nodup_remove e L d.1))

-- a neighbour is in the list, or NONE
pub after_has : (L : List ℕ) (x : ℕ) → (after L x ≡ NONE → ⊥) → has L (after L x) ≡ true
after_has L x n = go (has L (after L x)) refl
  where
    go : (b : Bool) → has L (after L x) ≡ b → has L (after L x) ≡ true
    go true h = h
    go false h = no_true (sym (behind_in NONE L x (after L x) h n) ∙ eqb_same (after L x))

pub before_has : (L : List ℕ) (e : ℕ) → has L e ≡ true → (before L e ≡ NONE → ⊥) → has L (before L e) ≡ true
before_has L e m n = go (has L (before L e)) refl
  where
    go : (b : Bool) → has L (before L e) ≡ b → has L (before L e) ≡ true
    go true h = h
    go false h = no_true (sym (ahead_in NONE L e (before L e) m (ne_eqb _ _ n) h) ∙ eqb_same (before L e))

-- both directions at once
pub beside_remove : (s : Side) (e x : ℕ) (L : List ℕ) → has L e ≡ true → Nodup L → has L NONE ≡ false → eqb e NONE ≡ false → eqb x e ≡ false
    → beside s (remove e L) x ≡ cond (eqb x (beside (other s) L e)) (beside s L e) (beside s L x)
beside_remove fwd e x L m d n ea xe = behind_remove NONE e x L m d n ea xe
beside_remove bwd e x L m d n ea xe = ahead_remove NONE e x L m d n ea xe

pub beside_has : (s : Side) (L : List ℕ) (e : ℕ) → has L e ≡ true → (beside s L e ≡ NONE → ⊥) → has L (beside s L e) ≡ true
beside_has fwd L e m n = after_has L e n
beside_has bwd L e m n = before_has L e m n

-- nothing stands beside a number that is not in the list
behind_absent : (a : ℕ) (L : List ℕ) (x : ℕ) → eqb x a ≡ false → has L x ≡ false → behind a L x ≡ NONE
unfolding behind has
behind_absent a [] x n h = refl
behind_absent a (y ∷ L) x n h = split x y (λ p t. no_true (sym h ∙ simp t)) (λ p t. simp n (behind_absent y L x t (sym (simp t) ∙ h)))

ahead_absent : (a : ℕ) (L : List ℕ) (x : ℕ) → eqb x NONE ≡ false → has L x ≡ false → ahead a L x ≡ NONE
unfolding ahead has
ahead_absent a [] x n h = simp n
ahead_absent a (y ∷ L) x n h = split x y (λ p t. no_true (sym h ∙ simp t)) (λ p t. simp t (ahead_absent y L x n (sym (simp t) ∙ h)))

pub beside_absent : (s : Side) (L : List ℕ) (x : ℕ) → eqb x NONE ≡ false → has L x ≡ false → beside s L x ≡ NONE
beside_absent fwd L x n h = behind_absent NONE L x n h
beside_absent bwd L x n h = ahead_absent NONE L x n h
