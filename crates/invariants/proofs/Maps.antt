-- What a list of entries shows: maps over it.
use Prim.Native.Nat.{ℕ, zero, suc}
use mathlib.Core.Path.{◌≡◌, refl, sym, ap, ◌∙◌}
use mathlib.Core.Bool.{true, or-true}
use mathlib.Core.List.{List, [], ◌∷◌, map}
use lib.Dec.{eqb}
use lib.ListN.{take}
use borrow.Author.Tests.{eq-eqb}
use Rattle.meaning.specs.Neighbours.{has}
use Rattle.invariants.proofs.Lists.{split, eqb_same, no_true}

-- what is shown is a member's
pub member : (f : ℕ → ℕ) (L : List ℕ) (p : ℕ) → has (map f L) p ≡ true → (i : ℕ) × (has L i ≡ true) × (f i ≡ p)
unfolding has
member f [] p h = no_true h
member f (x ∷ L) p h = split p (f x)
    (λ z t. (x, simp (eqb_same x), sym z))
    (λ z t. let k = member f L p (sym (simp t) ∙ h) in (k.0, simp k.1 (or-true (eqb k.0 x)), k.2))

-- a member is shown
pub shows : (f : ℕ → ℕ) (L : List ℕ) (i : ℕ) → has L i ≡ true → has (map f L) (f i) ≡ true
unfolding has
shows f [] i h = no_true h
shows f (x ∷ L) i h = split i x
    (λ z t. simp (eq-eqb (f i) (f x) (ap f z)))
    (λ z t. simp (shows f L i (sym (simp t) ∙ h)) (or-true (eqb (f i) (f x))))

-- only what the members show counts
pub map_same : {A : Type 0} (f g : ℕ → A) (L : List ℕ) → ((i : ℕ) → has L i ≡ true → f i ≡ g i) → map f L ≡ map g L
unfolding has
map_same f g [] h = refl
map_same f g (x ∷ L) h = λ j. h x (simp (eqb_same x)) j ∷ map_same f g L (λ i t. h i (simp t (or-true (eqb i x)))) j

-- the front of a list shows the front of what it shows
pub map_take : (f : ℕ → ℕ) (n : ℕ) (L : List ℕ) → map f (take n L) ≡ take n (map f L)
map_take f zero L = refl
map_take f (suc n) [] = refl
map_take f (suc n) (x ∷ L) = ap (λ (r : List ℕ). f x ∷ r) (map_take f n L)
