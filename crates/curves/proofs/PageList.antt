-- The laws of LRU on a list, over any list and any capacity: the inclusion property.
use mathlib.Core.Path.{◌≡◌, refl, sym, ap, ◌∙◌}
use mathlib.Core.List.{List, [], ◌∷◌, ◌++◌, append-nil}
use mathlib.Core.Bool.{Bool, true, false}
use Prim.Native.Nat.{ℕ, zero, suc, ◌≤◌}
use native.Mathlib.Nat.{le_refl}
use native.Mathlib.Omega.{arith}
use lib.ListN.{length, take, drop, drop_of_length-le}
use lib.Seq.{take_all, take-take, take-nil}
use lib.Dec.{eqb}
use Rattle.traces.specs.Depth.{found, depth}
use Rattle.curves.specs.PageList.{erased, erase, to_top, step, list_after, pages_of}

-- ---- a page's place

-- the list without p is the list without the place of p
pub erase_is : (p : ℕ) (L : List ℕ) → erase p L ≡ take (depth p L) L ++ drop (suc (depth p L)) L
erase_is p [] = refl
erase_is p (x ∷ xs) = go (eqb p x) (erase_is p xs)
  where
    go : (b : Bool) → erase p xs ≡ take (depth p xs) xs ++ drop (suc (depth p xs)) xs
        → erased b x xs (erase p xs) ≡ take (found b (depth p xs)) (x ∷ xs) ++ drop (suc (found b (depth p xs))) (x ∷ xs)
    go true e = refl
    go false e = ap (λ (r : List ℕ). x ∷ r) e

-- nothing to take out
pub erase_miss : (p : ℕ) (L : List ℕ) → length L ≤ depth p L → erase p L ≡ L
erase_miss p L h =
    erase_is p L ∙ ap (λ (r : List ℕ). take (depth p L) L ++ r) (drop_of_length-le L {i = suc (depth p L)} (omega arith)) ∙ append-nil (take (depth p L) L) ∙ take_all (depth p L) L h

-- ---- the inclusion property

-- what is cut off first makes no difference to the front
erase_take : (k p : ℕ) (L : List ℕ) → take k (erase p (take (suc k) L)) ≡ take k (erase p L)
erase_take zero p L = refl
erase_take (suc k) p [] = refl
erase_take (suc k) p (x ∷ xs) = go (eqb p x) (erase_take k p xs)
  where
    go : (b : Bool) → take k (erase p (take (suc k) xs)) ≡ take k (erase p xs)
        → take (suc k) (erased b x (take (suc k) xs) (erase p (take (suc k) xs))) ≡ take (suc k) (erased b x xs (erase p xs))
    go true e = take-take (suc k) (suc k) xs (le_refl (suc k))
    go false e = ap (λ (r : List ℕ). x ∷ r) e

-- a request at capacity c, on the first c, gives the first c of the request with room for all
pub step_take : (c p : ℕ) (L : List ℕ) → step c p (take c L) ≡ take c (to_top p L)
step_take zero p L = refl
step_take (suc k) p L = ap (λ (r : List ℕ). p ∷ r) (erase_take k p L)

-- the list after a trace, with room for all
abbrev pub stack : List ℕ → List ℕ → List ℕ
stack S [] = S
stack S (p ∷ t) = stack (to_top p S) t

list_take : (c : ℕ) (S t : List ℕ) → list_after c (take c S) t ≡ take c (stack S t)
list_take c S [] = refl
list_take c S (p ∷ t) = ap (λ (L : List ℕ). list_after c L t) (step_take c p S) ∙ list_take c (to_top p S) t

-- LRU of capacity c from the empty list holds the front of that
pub pages_stack : (c : ℕ) (t : List ℕ) → pages_of c t ≡ take c (stack [] t)
pages_stack c t = ap (λ (L : List ℕ). list_after c L t) (sym (take-nil c)) ∙ list_take c [] t

-- what LRU of capacity c holds is the front of what it holds at any larger capacity
pub pages_front : (c m : ℕ) (t : List ℕ) → c ≤ m → pages_of c t ≡ take c (pages_of m t)
pages_front c m t h = pages_stack c t ∙ sym (take-take c m (stack [] t) h) ∙ ap (take c) (sym (pages_stack m t))
