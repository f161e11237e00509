-- Lists made of a function at the numbers from one on.
use Prim.Native.Nat.{ℕ, zero, suc, ◌+◌, ◌≤◌, ◌<◌}
use mathlib.Core.Path.{◌≡◌, refl, ap, ap₂}
use mathlib.Core.List.{List, ◌∷◌}
use native.Mathlib.Omega.{arith}
use lib.ListN.{length}
use Rattle.meaning.specs.Base.{series}

-- A series of n has length n.
pub length_series : (f : ℕ → ℕ) (n c : ℕ) → length (series f n c) ≡ n
length_series f zero c = refl
length_series f (suc n) c = ap suc (length_series f n (suc c))

-- Functions that agree on the numbers make the same series.
pub series_same : (f g : ℕ → ℕ) (n c : ℕ) → ((k : ℕ) → c ≤ k → k < c + n → f k ≡ g k) → series f n c ≡ series g n c
series_same f g zero c h = refl
series_same f g (suc n) c h = ap₂ (λ (x : ℕ) (l : List ℕ). x ∷ l) (h c (omega arith) (omega arith)) (series_same f g n (suc c) (λ k a b. h k (omega arith) (omega arith)))
