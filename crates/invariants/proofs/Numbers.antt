-- `first`, `some` and `tally`.
use Prim.Native.Nat.{ℕ, zero, suc, ◌+◌, ◌≤◌, ◌<◌}
use mathlib.Core.Path.{◌≡◌, refl, sym, ap, ap₂, ◌∙◌}
use mathlib.Core.Bool.{Bool, true, false, or-true}
use native.Mathlib.Nat.{not-suc-le-zero}
use native.Mathlib.Omega.{arith}
use borrow.Author.Tests.{eq-eqb, ne_eqb, eqb-true}
use lib.Dec.{eqb}
use Rattle.meaning.specs.Base.{some, first, find, one_if, tally}
use Rattle.invariants.proofs.Lists.{split, no_true}

-- what holds whether a test passes or fails
pub by_test : {P : Type 0} (b : Bool) → (b ≡ true → P) → (b ≡ false → P) → P
by_test true f g = f refl
by_test false f g = g refl

-- some number from i on, of n, passes
pub first_hit : (f : ℕ → Bool) (i n e : ℕ) → i ≤ e → e < i + n → f e ≡ true → (f (first f i n) ≡ true) × (first f i n < i + n) × (i ≤ first f i n)
unfolding first
first_hit f i zero e l h t = absurd (omega arith)
first_hit f i (suc n) e l h t = by_test (f i)
    (λ u. simp u (refl, omega arith, omega arith))
    (λ u. let d : i ≡ e → ⊥ = λ z. no_true (sym u ∙ ap f z ∙ t) in
    let k = first_hit f (suc i) n e (omega (arith, d)) (omega arith) t in
    simp u (k.0, omega (arith, k.1), omega (arith, k.2)))

-- none passes
pub first_miss : (f : ℕ → Bool) (i n : ℕ) → ((e : ℕ) → i ≤ e → e < i + n → f e ≡ false) → first f i n ≡ i + n
unfolding first
first_miss f i zero h = omega arith
first_miss f i (suc n) h = simp (h i (omega arith) (omega arith)) (first_miss f (suc i) n (λ e l g. h e (omega arith) (omega arith)) ∙ omega arith)

-- those before k fail, and k passes or is the end
pub first_at : (f : ℕ → Bool) (i n k : ℕ) → i ≤ k → k ≤ i + n → ((e : ℕ) → i ≤ e → e < k → f e ≡ false) → (k < i + n → f k ≡ true) → first f i n ≡ k
unfolding first
first_at f i zero k l h a b = omega arith
first_at f i (suc n) k l h a b = split i k
    (λ z t. simp (ap f z ∙ b (omega arith)) z)
    (λ z t. simp (a i (omega arith) (omega (arith, z))) (first_at f (suc i) n k (omega (arith, z)) (omega arith) (λ e p q. a e (omega arith) q) (λ q. b (omega arith))))

-- `find`: f is x somewhere below n, and what is found is such a number
pub find_hit : (n : ℕ) (f : ℕ → ℕ) (x e : ℕ) → e < n → f e ≡ x → (f (find n f x) ≡ x) × (find n f x < n)
find_hit n f x e h z =
    let k = first_hit (λ i. eqb (f i) x) 0 n e (omega arith) (omega arith) (eq-eqb (f e) x z) in
    (eqb-true _ x k.0, omega (arith, k.1))

-- f is x nowhere below n
pub find_miss : (n : ℕ) (f : ℕ → ℕ) (x : ℕ) → ((e : ℕ) → e < n → f e ≡ x → ⊥) → find n f x ≡ n
find_miss n f x h = first_miss (λ i. eqb (f i) x) 0 n (λ e l g. ne_eqb (f e) x (h e (omega arith))) ∙ omega arith

-- what is found has what was looked for
pub find_has : (n : ℕ) (f : ℕ → ℕ) (x : ℕ) → find n f x < n → f (find n f x) ≡ x
find_has n f x h = split (f (find n f x)) x (λ z t. z) (λ z t. absurd (omega (arith, find_miss n f x (λ e l y. z (find_hit n f x e l y).0))))

pub some_hit : (n : ℕ) (f : ℕ → Bool) (e : ℕ) → e < n → f e ≡ true → some n f ≡ true
unfolding some
some_hit zero f e h t = absurd (not-suc-le-zero h)
some_hit (suc n) f e h t = split e n
    (λ z u. simp (ap f (sym z) ∙ t) (or-true (some n f)))
    (λ z u. simp (some_hit n f e (omega (arith, z)) t))

pub some_miss : (n : ℕ) (f : ℕ → Bool) → ((e : ℕ) → e < n → f e ≡ false) → some n f ≡ false
unfolding some
some_miss zero f h = refl
some_miss (suc n) f h = simp (some_miss n f (λ e l. h e (omega arith)), h n (omega arith))

pub one_le : (b : Bool) → one_if b ≤ 1
unfolding one_if
one_le true = omega arith
one_le false = omega arith

pub tally_le : (n : ℕ) (f : ℕ → Bool) → tally n f ≤ n
unfolding tally
tally_le zero f = omega arith
tally_le (suc n) f = omega (arith, tally_le n f, one_le (f n))

pub tally_ext : (n : ℕ) (f g : ℕ → Bool) → ((i : ℕ) → i < n → f i ≡ g i) → tally n f ≡ tally n g
unfolding tally
tally_ext zero f g h = refl
tally_ext (suc n) f g h = ap₂ (λ (a b : ℕ). a + b) (tally_ext n f g (λ i l. h i (omega arith))) (ap one_if (h n (omega arith)))

-- the test at e changes, and no other
pub tally_one : (n : ℕ) (f g : ℕ → Bool) (e : ℕ) → e < n → f e ≡ true → g e ≡ false → ((i : ℕ) → (i ≡ e → ⊥) → f i ≡ g i) → tally n f ≡ suc (tally n g)
unfolding tally one_if
tally_one zero f g e h a b d = absurd (not-suc-le-zero h)
tally_one (suc n) f g e h a b d = split e n
    (λ z t. simp (ap f (sym z) ∙ a, ap g (sym z) ∙ b) (omega (arith, tally_ext n f g (λ i l. d i (omega (arith, z))))))
    (λ z t. rw (d n (λ y. z (sym y))) (omega (arith, tally_one n f g e (omega (arith, z)) a b d)))
