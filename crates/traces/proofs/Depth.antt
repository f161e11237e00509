-- What the place of a page tells.
use mathlib.Core.Path.{◌≡◌, refl, sym, ◌∙◌, subst}
use mathlib.Core.List.{List, [], ◌∷◌}
use mathlib.Core.Bool.{Bool, true, false, cond, not, ◌||◌}
use Prim.Native.Nat.{ℕ, zero, suc, ◌<◌}
use native.Mathlib.Omega.{arith}
use lib.ListN.{length}
use lib.Dec.{ltb, eqb, leb-suc-suc, leb-zero}
use borrow.Author.Tests.{ltb-true, ltb-false, eq-eqb, ne_eqb}
use Rattle.std.specs.Prelude.{Option, Some, None, MatchOption, position}
use Rattle.std.specs.List.{position_or_len, list_any}
use Rattle.std.proofs.lemmas.List.Sums.{prefix_len-le-length}
use Rattle.invariants.proofs.Lists.{split}
use Rattle.meaning.specs.Neighbours.{NONE, has}
use Rattle.traces.specs.Depth.{found, depth}

-- p is in the list exactly if its place is below the length
pub has_depth : (p : ℕ) (L : List ℕ) → has L p ≡ ltb (depth p L) (length L)
unfolding has
has_depth p [] = refl
has_depth p (x ∷ xs) = go (eqb p x) (has_depth p xs)
  where
    go : (b : Bool) → has xs p ≡ ltb (depth p xs) (length xs) → (b || has xs p) ≡ ltb (found b (depth p xs)) (suc (length xs))
    go true e = sym (leb-suc-suc zero (length xs) ∙ leb-zero (length xs))
    go false e = e ∙ sym (leb-suc-suc (suc (depth p xs)) (length xs))

-- A test of two numbers is the test of the second and the first.
swapped : (x p : ℕ) → eqb x p ≡ eqb p x
swapped x p = split p x (λ e t. eq-eqb x p (sym e) ∙ sym t) (λ e t. ne_eqb x p (λ q. e (sym q)) ∙ sym t)

-- p is in the list exactly if the library's test finds it there
has_any : (p : ℕ) (L : List ℕ) → list_any (λ (y : ℕ). eqb y p) L ≡ has L p
unfolding has
has_any p [] = refl
has_any p (x ∷ xs) = simp (swapped x p, has_any p xs)

-- What `contains` told of NONE.
pub told : (t : List ℕ) {b v : Bool} → b ≡ list_any (λ (y : ℕ). eqb y NONE) t → b ≡ v → has t NONE ≡ v
told t e q = sym (has_any NONE t) ∙ sym e ∙ q

-- the library's place of p is the same number
place_or_len : (p : ℕ) (s : List ℕ) → position_or_len (λ (x : ℕ). eqb x p) s ≡ depth p s
place_or_len p [] = refl
place_or_len p (x ∷ xs) = split p x
    (λ e t. let q : eqb x p ≡ true = swapped x p ∙ t in simp (q, t))
    (λ e t. let q : eqb x p ≡ false = swapped x p ∙ t in simp (q, t, place_or_len p xs) (omega arith))

-- What `position` gives of p is its place, where that is below the length.
pub place_of : (s : List ℕ) (p : ℕ) {r : Option ℕ} → r ≡ position (λ (x : ℕ). eqb x p) s → MatchOption r (depth p s ≡ length s) (λ i. (depth p s ≡ i) × (i < length s))
place_of s p {r} e = subst (λ (o : Option ℕ). MatchOption o (depth p s ≡ length s) (λ i. (depth p s ≡ i) × (i < length s))) (sym (e ∙ simp (place_or_len p s))) (go (ltb (depth p s) (length s)) refl)
  where
    go : (b : Bool) → ltb (depth p s) (length s) ≡ b → MatchOption (cond b (Some (depth p s)) None) (depth p s ≡ length s) (λ i. (depth p s ≡ i) × (i < length s))
    go true t = (refl, ltb-true (depth p s) (length s) t)
    go false t = omega (arith, place_or_len p s, ltb-false (depth p s) (length s) t, prefix_len-le-length (λ (x : ℕ). not (eqb x p)) s)
