-- General laws on tests of the numbers below n, on how many pass, and on lists without repeats.
use mathlib.Core.Path.{◌≡◌, refl, ap, sym, ◌∙◌}
use mathlib.Core.Bool.{Bool, true, false, not, ◌||◌, cond}
use mathlib.Core.List.{List, [], ◌∷◌}
use Prim.Native.Nat.{ℕ, zero, suc, ◌+◌, ◌≤◌, ◌<◌}
use native.Mathlib.Omega.{arith}
use lib.ListN.{length}
use borrow.Author.Tests.{ne_eqb, not-true}
use Rattle.meaning.specs.Base.{all, last_or, every, one_if, tally}
use Rattle.meaning.specs.Neighbours.{NONE, put, has, ahead, Nodup}
use Rattle.meaning.specs.Rules.{distinct}
use Rattle.invariants.proofs.Lists.{split, eqb_same, no_true}
use Rattle.invariants.proofs.Numbers.{by_test, tally_le, tally_one}
use Rattle.invariants.proofs.Families.{not_so}
use Rattle.invariants.proofs.Tests.{and_left, and_right, both}

-- what holds at each number below n
pub every_all : (n : ℕ) (f : ℕ → Bool) → ((i : ℕ) → i < n → f i ≡ true) → every n f ≡ true
every_all zero f h = refl
every_all (suc n) f h = both (every_all n f (λ i l. h i (omega arith))) (h n (omega arith))

-- what holds of each number of a list
pub all_all : (f : ℕ → Bool) (L : List ℕ) → ((i : ℕ) → has L i ≡ true → f i ≡ true) → all f L ≡ true
unfolding has
all_all f [] h = refl
all_all f (x ∷ L) h = both (h x (simp (eqb_same x))) (all_all f L (λ i k. h i (split i x (λ p t. simp t) (λ p t. simp t k))))

-- each number of a list that passes whole
pub all_at : (f : ℕ → Bool) (L : List ℕ) → all f L ≡ true → (i : ℕ) → has L i ≡ true → f i ≡ true
unfolding has
all_at f [] h i k = no_true k
all_at f (x ∷ L) h i k = split i x (λ p t. ap f p ∙ and_left (f x) (all f L) h) (λ p t. all_at f L (and_right (f x) (all f L) h) i (simp t at k))

-- no number twice, as a test and as a fact
pub nodup_distinct : (L : List ℕ) → Nodup L → distinct L ≡ true
unfolding Nodup
nodup_distinct [] d = refl
nodup_distinct (x ∷ L) d = both (ap not d.0) (nodup_distinct L d.1)

-- and the other way
pub distinct_nodup : (L : List ℕ) → distinct L ≡ true → Nodup L
unfolding Nodup
distinct_nodup [] d = tt
distinct_nodup (x ∷ L) d = (not-true (has L x) (and_left _ _ d), distinct_nodup L (and_right (not (has L x)) _ d))

-- what stands before NONE is the last
pub before_last : (a : ℕ) (L : List ℕ) → has L NONE ≡ false → ahead a L NONE ≡ last_or a L
unfolding ahead has
before_last a [] n = refl
before_last a (x ∷ L) n = split NONE x (λ p t. no_true (sym n ∙ simp t)) (λ p t. simp t (before_last x L (sym (simp t) ∙ n)))

-- none passes
pub tally_none : (n : ℕ) (f : ℕ → Bool) → ((i : ℕ) → i < n → f i ≡ false) → tally n f ≡ 0
unfolding tally one_if
tally_none zero f h = refl
tally_none (suc n) f h = omega (arith, tally_none n f (λ i l. h i (omega arith)), ap one_if (h n (omega arith)))

-- as many numbers below n stand in a list without repeats as it is long
pub tally_has : (n : ℕ) (L : List ℕ) → Nodup L → ((i : ℕ) → has L i ≡ true → i < n) → tally n (has L) ≡ length L
unfolding has Nodup
tally_has n [] d h = tally_none n (λ i. false) (λ i l. refl)
tally_has n (x ∷ L) d h =
    tally_one n (has (x ∷ L)) (has L) x (h x (simp (eqb_same x))) (simp (eqb_same x)) d.0 (λ i z. simp (ne_eqb i x z))
    ∙ ap suc (tally_has n L d.1 (λ i k. h i (split i x (λ p t. simp t) (λ p t. simp t k))))

-- Where as many pass as there are, all do.
pub tally_full : (n : ℕ) (f : ℕ → Bool) → n ≤ tally n f → (i : ℕ) → i < n → f i ≡ true
unfolding tally one_if
tally_full zero f h i l = absurd (omega arith)
tally_full (suc n) f h i l = by_test (f n)
    (λ t. split i n (λ z u. ap f z ∙ t) (λ z u. tally_full n f (omega (arith, simp t at h)) i (omega (arith, z))))
    (λ t. absurd (omega (arith, simp t at h, tally_le n f)))

one_mono : (a b : Bool) → (a ≡ true → b ≡ true) → one_if a ≤ one_if b
unfolding one_if
one_mono true b k = omega (arith, ap one_if (k refl))
one_mono false b k = omega arith

tally_mono : (n : ℕ) (f g : ℕ → Bool) → ((i : ℕ) → i < n → f i ≡ true → g i ≡ true) → tally n f ≤ tally n g
unfolding tally
tally_mono zero f g h = omega arith
tally_mono (suc n) f g h = omega (arith, tally_mono n f g (λ i l. h i (omega arith)), one_mono (f n) (g n) (h n (omega arith)))

-- who passes f passes g, and as many pass f: then who passes g passes f
pub tally_same : (n : ℕ) (f g : ℕ → Bool) → ((i : ℕ) → i < n → f i ≡ true → g i ≡ true) → tally n g ≤ tally n f → (i : ℕ) → i < n → g i ≡ true → f i ≡ true
unfolding tally one_if
tally_same zero f g h e i l p = absurd (omega arith)
tally_same (suc n) f g h e i l p = split i n
    (λ z u. by_test (f n) (λ t. ap f z ∙ t) (λ t. absurd (omega (arith, e, ap one_if t, ap one_if (ap g (sym z) ∙ p), tally_mono n f g (λ k b. h k (omega arith))))))
    (λ z u. tally_same n f g (λ k b. h k (omega arith)) (omega (arith, e, one_mono (f n) (g n) (h n (omega arith)))) i (omega (arith, z)) p)

-- the values of g at the numbers below n that pass f
values : ℕ → (ℕ → Bool) → (ℕ → ℕ) → List ℕ
values zero f g = []
values (suc n) f g = let r = values n f g in cond (f n) (g n ∷ r) r

values_length : (n : ℕ) (f : ℕ → Bool) (g : ℕ → ℕ) → length (values n f g) ≡ tally n f
unfolding values tally one_if
values_length zero f g = refl
values_length (suc n) f g = by_test (f n) (λ t. simp t (omega (arith, values_length n f g))) (λ t. simp t (omega (arith, values_length n f g)))

-- a value has a number
values_from : (n : ℕ) (f : ℕ → Bool) (g : ℕ → ℕ) (s : ℕ) → has (values n f g) s ≡ true → (i : ℕ) × (i < n) × (f i ≡ true) × (g i ≡ s)
unfolding values has
values_from zero f g s h = no_true h
values_from (suc n) f g s h = by_test (f n)
    (λ t. split s (g n) (λ z u. (n, omega arith, t, sym z)) (λ z u. deeper (values_from n f g s (simp (t, u) at h))))
    (λ t. deeper (values_from n f g s (simp t at h)))
  where
    deeper : (i : ℕ) × (i < n) × (f i ≡ true) × (g i ≡ s) → (i : ℕ) × (i < suc n) × (f i ≡ true) × (g i ≡ s)
    deeper k = (k.0, omega (arith, k.1), k.2, k.3)

values_apart : (n : ℕ) (f : ℕ → Bool) (g : ℕ → ℕ) → ((i h : ℕ) → i < n → h < n → f i ≡ true → f h ≡ true → g i ≡ g h → i ≡ h) → Nodup (values n f g)
unfolding values Nodup
values_apart zero f g a = tt
values_apart (suc n) f g a =
    let ih = values_apart n f g (λ i h bi bh. a i h (omega arith) (omega arith)) in
    by_test (f n)
    (λ t. simp t (not_so _ (λ h. let k = values_from n f g (g n) h in omega (arith, k.1, a k.0 n (omega (arith, k.1)) (omega arith) k.2 t k.3)), ih))
    (λ t. simp t ih)

-- as many different numbers below H as H: each of them is one's
pub each_value : (n : ℕ) (f : ℕ → Bool) (g : ℕ → ℕ) → ((i h : ℕ) → i < n → h < n → f i ≡ true → f h ≡ true → g i ≡ g h → i ≡ h)
    → ((i : ℕ) → i < n → f i ≡ true → g i < tally n f) → (s : ℕ) → s < tally n f → (i : ℕ) × (i < n) × (f i ≡ true) × (g i ≡ s)
each_value n f g a b s l =
    let L = values n f g in
    let t = tally_has (tally n f) L (values_apart n f g a) (λ x h. let k = values_from n f g x h in omega (arith, k.3, b k.0 k.1 k.2)) in
    values_from n f g s (tally_full (tally n f) (has L) (omega (arith, t, values_length n f g)) s l)

-- two tests of which no number passes both
pub tally_or : (n : ℕ) (f g : ℕ → Bool) → ((i : ℕ) → f i ≡ true → g i ≡ false) → tally n f + tally n g ≡ tally n (λ i. f i || g i)
unfolding tally one_if
tally_or zero f g h = refl
tally_or (suc n) f g h = omega (arith, tally_or n f g h, apart (f n) (g n) (h n))
  where
    apart : (a b : Bool) → (a ≡ true → b ≡ false) → one_if a + one_if b ≡ one_if (a || b)
    apart true b k = ap (λ (c : Bool). 1 + one_if c) (k refl)
    apart false b k = omega arith

-- no more pass the one test than the other, if each that passes has its own that passes
pub tally_into : (a b : ℕ) (f g : ℕ → Bool) (h : ℕ → ℕ) → ((i : ℕ) → i < a → f i ≡ true → (h i < b) × (g (h i) ≡ true)) → ((i k : ℕ) → f i ≡ true → f k ≡ true → h i ≡ h k → i ≡ k) → tally a f ≤ tally b g
unfolding tally one_if
tally_into zero b f g h to once = omega arith
tally_into (suc a) b f g h to once = by_test (f a)
    (λ t. let k = to a (omega arith) t in
    let less = tally_into a b f (put g (h a) false) h
    (λ i l s. let d : h i ≡ h a → ⊥ = λ z. omega (arith, once i a s t z) in ((to i (omega arith) s).0, simp (ne_eqb (h i) (h a) d) (to i (omega arith) s).1)) once in
    simp t (omega (arith, less, tally_one b g (put g (h a) false) (h a) k.0 k.1 (simp (eqb_same (h a))) (λ i d. simp (ne_eqb i (h a) d)))))
    (λ t. simp t (omega (arith, tally_into a b f g h (λ i l. to i (omega arith)) once)))
