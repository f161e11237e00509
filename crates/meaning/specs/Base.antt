-- Small functions on tests, numbers and lists that the other files of specs/ are written with.
use Rattle.std.specs.Prelude.{if◌then◌else◌, ℕ, zero, suc, ◌+◌, Bool, true, false, ◌&&◌, ◌||◌, List, [], ◌∷◌, eqb}

-- if the first passes so does the second
infixr 20 ◌⇒◌
abbrev pub ◌⇒◌ : Bool → Bool → Bool
true ⇒ b = b
false ⇒ b = true

module _ {ℓ} {A : Type ℓ} where
  -- every element passes the test
  abbrev pub all : (A → Bool) → List A → Bool
  all f [] = true
  all f (x ∷ xs) = f x && all f xs

-- two lists of numbers are the same
abbrev pub same : List ℕ → List ℕ → Bool
same [] [] = true
same [] (y ∷ ys) = false
same (x ∷ xs) [] = false
same (x ∷ xs) (y ∷ ys) = eqb x y && same xs ys

-- the last element, or d
abbrev pub last_or : ℕ → List ℕ → ℕ
last_or d [] = d
last_or d (x ∷ xs) = last_or x xs

-- f at the n numbers from c on
abbrev pub series : (ℕ → ℕ) → ℕ → ℕ → List ℕ
series f zero c = []
series f (suc n) c = f c ∷ series f n (suc c)

-- n places: the list's first n, then d
abbrev pub pad : ℕ → ℕ → List ℕ → List ℕ
pad d zero L = []
pad d (suc n) [] = d ∷ pad d n []
pad d (suc n) (x ∷ xs) = x ∷ pad d n xs

-- the test passes at each number below n
abbrev pub every : ℕ → (ℕ → Bool) → Bool
every zero f = true
every (suc n) f = every n f && f n

-- the test passes at some number below n
unfoldable pub some : ℕ → (ℕ → Bool) → Bool
some zero f = false
some (suc n) f = some n f || f n

-- 1 for a test that passes, 0 for one that fails
unfoldable pub one_if : Bool → ℕ
one_if true = 1
one_if false = 0

-- how many numbers below n pass the test
unfoldable pub tally : ℕ → (ℕ → Bool) → ℕ
tally zero f = 0
tally (suc n) f = tally n f + one_if (f n)

-- the least number from i on, of n numbers, that passes the test, or i + n
unfoldable pub first : (ℕ → Bool) → ℕ → ℕ → ℕ
first f i zero = i
first f i (suc n) = let r = first f (suc i) n in if f i then i else r

-- the least number below n at which f is x, or n
abbrev pub find : ℕ → (ℕ → ℕ) → ℕ → ℕ
find n f x = first (λ i. eqb (f i) x) 0 n

-- from e, the numbers that a link leads to, up to stop; at most n of them
unfoldable pub walk : ℕ → ℕ → (ℕ → ℕ) → ℕ → List ℕ
walk stop zero next e = []
walk stop (suc n) next e = let r = e ∷ walk stop n next (next e) in if eqb e stop then [] else r

-- For a proof that computes: `unfolding open_base` opens every definition of this file.
unfoldable pub open_base : Unit {0}
unfolding some one_if tally first walk
open_base = tt
