-- Buckets, and lists without repeats.
use Prim.Native.Nat.{ℕ, zero, suc, ◌+◌, ◌*◌, ◌-◌, ◌%◌, ◌^◌, ◌≤◌, ◌<◌}
use mathlib.Core.Path.{◌≡◌, refl, sym, ap, ◌∙◌}
use mathlib.Core.Bool.{true, false}
use mathlib.Core.List.{List, [], ◌∷◌, ◌++◌}
use native.Mathlib.Omega.{arith}
use native.Mathlib.Nat.{div-le_self}
use lib.Dec.{eqb}
use lib.Pow.{shr_lt}
use lib.ListN.{length}
use Rattle.meaning.specs.Neighbours.{NONE, has, remove, behind, after, Nodup}
use Rattle.meaning.specs.Layout.{bucket_of}
use Rattle.invariants.proofs.Lists.{split, eqb_same, no_true, behind_self, has_remove, nodup_remove, remove_absent}

pub bucket_zero : (p : ℕ) → bucket_of 0 p ≡ 0
unfolding bucket_of
bucket_zero p = refl

pub bucket_lt : (k p : ℕ) → k ≤ 32 → bucket_of k p < 2 ^ k
unfolding bucket_of
bucket_lt k p h = split k 0
    (λ z t. rw z (omega arith))
    (λ z t. simp t (shr_lt k (32 - k) (rw fill (omega arith))))
  where
    fill : k + (32 - k) ≡ 32
    fill = omega arith

pub bucket_small : {b : ℕ} (k p : ℕ) → b ≡ bucket_of k p → b < 2 ^ 32
unfolding bucket_of
bucket_small k p e = split k 0
    (λ z t. omega (arith, rw z at e))
    (λ z t. omega (arith, simp t at e, div-le_self (p * 2654435769 % 2 ^ 32) (2 ^ (32 - k))))

-- a list without repeats of numbers below n has at most n of them
pub length_remove : (e : ℕ) (L : List ℕ) → Nodup L → length L ≤ suc (length (remove e L))
unfolding remove Nodup
length_remove e [] d = omega arith
length_remove e (y ∷ L) d = split e y
    (λ p t. simp (t, remove_absent e L (rw p d.0)) (omega arith))
    (λ p t. simp t (omega (arith, length_remove e L d.1)))

pub holes : (n : ℕ) (L : List ℕ) → Nodup L → ((i : ℕ) → has L i ≡ true → i < n) → length L ≤ n
unfolding has
holes zero [] d h = omega arith
holes zero (y ∷ L) d h = omega (arith, h y (simp (eqb_same y)))
holes (suc n) L d h = omega (arith, length_remove n L d, holes n (remove n L) (nodup_remove n L d) below)
  where
    below : (i : ℕ) → has (remove n L) i ≡ true → i < n
    below i g = split i n (λ p t. no_true (simp (has_remove n i L, t) at g)) (λ p t. omega (arith, h i (simp (has_remove n i L, t) at g)))

-- a member, and what stands behind it
pub has_mid : (front : List ℕ) (x : ℕ) (S : List ℕ) → has (front ++ x ∷ S) x ≡ true
unfolding has
has_mid [] x S = simp (eqb_same x)
has_mid (y ∷ front) x S = split x y (λ p t. simp t) (λ p t. simp t (has_mid front x S))

pub behind_at : (a : ℕ) (front : List ℕ) (x : ℕ) (S : List ℕ) → Nodup (front ++ x ∷ S) → eqb x a ≡ false → behind a (front ++ x ∷ S) x ≡ after S NONE
unfolding behind Nodup
behind_at a [] x S d n = simp n (behind_self x NONE S)
behind_at a (y ∷ front) x S d n = split x y
    (λ p t. no_true (sym d.0 ∙ ap (has (front ++ x ∷ S)) (sym p) ∙ has_mid front x S))
    (λ p t. simp n (behind_at y front x S d.1 t))
