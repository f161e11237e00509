-- Totals of fronts, and sums by turns.
use mathlib.Core.Path.{◌≡◌, refl, sym, ap, ◌∙◌}
use mathlib.Core.List.{List, [], ◌∷◌, ◌++◌, append-nil}
use mathlib.Core.Bool.{Bool}
use Prim.Native.Nat.{ℕ, zero, suc, ◌+◌, ◌≤◌, ◌<◌, zero-le}
use native.Mathlib.Nat.{not-suc-le-zero, le_of_suc-le-suc, le_refl, add_assoc, add-zero, zero-add}
use native.Mathlib.Omega.{arith}
use native.Mathlib.Numerals.{add-one}
use lib.ListN.{length, get_or, set, take, drop, length-set, drop_of_length-le}
use lib.Seq.{take_all, set_out}
use lib.Dec.{ltb, leb-suc-zero, leb-suc-suc, leb-zero}
use Rattle.meaning.specs.Base.{one_if}
use Rattle.invariants.proofs.Numbers.{one_le}
use Rattle.curves.specs.Curve.{bump, total, sums}

-- One word more is added up: it becomes the sum, and the sums of what is left go on from it.
sums_suc : (s : List ℕ) (a i : ℕ) → i < length s → take (suc i) (set s i (a + get_or s i 0)) ++ sums (a + get_or s i 0) (drop (suc i) (set s i (a + get_or s i 0))) ≡ take i s ++ sums a (drop i s)
sums_suc [] a i h = absurd (not-suc-le-zero h)
sums_suc (x ∷ s) a zero h = refl
sums_suc (x ∷ s) a (suc i) h = ap (λ (r : List ℕ). x ∷ r) (sums_suc s a i (le_of_suc-le-suc h))

total_suc : (s : List ℕ) (a i : ℕ) → i < length s → a + get_or s i 0 + total (drop (suc i) (set s i (a + get_or s i 0))) ≡ a + total (drop i s)
total_suc [] a i h = absurd (not-suc-le-zero h)
total_suc (x ∷ s) a zero h = omega arith
total_suc (x ∷ s) a (suc i) h = total_suc s a i (le_of_suc-le-suc h)

-- The same, as the code counts.
pub sums_turn : (s : List ℕ) (a i : ℕ) → i < length s → take (i + 1) (set s i (a + get_or s i 0)) ++ sums (a + get_or s i 0) (drop (i + 1) (set s i (a + get_or s i 0))) ≡ take i s ++ sums a (drop i s)
sums_turn s a i h = rw add-one (sums_suc s a i h)

pub total_turn : (s : List ℕ) (a i : ℕ) → i < length s → a + get_or s i 0 + total (drop (i + 1) (set s i (a + get_or s i 0))) ≡ a + total (drop i s)
total_turn s a i h = rw add-one (total_suc s a i h)

-- Nothing is left to add up.
pub sums_end : (s : List ℕ) (a i : ℕ) → length s ≤ i → take i s ++ sums a (drop i s) ≡ s
sums_end s a i h = simp (take_all i s h, drop_of_length-le s h, append-nil)

-- One place more gets what stood before it, p the first.
shift_suc : (s : List ℕ) (p i : ℕ) → i < length s → set (take i (p ∷ s) ++ drop i s) i (get_or (p ∷ s) i 0) ≡ take (suc i) (p ∷ s) ++ drop (suc i) s
shift_suc [] p i h = absurd (not-suc-le-zero h)
shift_suc (x ∷ s) p zero h = refl
shift_suc (x ∷ s) p (suc i) h = ap (λ (r : List ℕ). p ∷ r) (shift_suc s x i (le_of_suc-le-suc h))

-- The same, as the code counts.
pub shift_turn : (s : List ℕ) (p i : ℕ) → i < length s → set (take i (p ∷ s) ++ drop i s) i (get_or (p ∷ s) i 0) ≡ take (i + 1) (p ∷ s) ++ drop (i + 1) s
shift_turn s p i h = rw add-one (shift_suc s p i h)

-- What stands at a place that is not reached yet.
pub shift_next : (s : List ℕ) (p i : ℕ) → i < length s → get_or (take i (p ∷ s) ++ drop i s) i 0 ≡ get_or s i 0
shift_next [] p i h = absurd (not-suc-le-zero h)
shift_next (x ∷ s) p zero h = refl
shift_next (x ∷ s) p (suc i) h = shift_next s x i (le_of_suc-le-suc h)

-- the total of a front that is one longer
pub total_take_suc : (k : ℕ) (R : List ℕ) → total (take (suc k) R) ≡ total (take k R) + get_or R k 0
total_take_suc zero [] = refl
total_take_suc zero (x ∷ xs) = add-zero x ∙ sym (zero-add x)
total_take_suc (suc k) [] = refl
total_take_suc (suc k) (x ∷ xs) = ap (λ (n : ℕ). x + n) (total_take_suc k xs) ∙ sym (add_assoc x (total (take k xs)) (get_or xs k 0))

-- a front totals no more than the whole
pub total_take_le : (k : ℕ) (R : List ℕ) → total (take k R) ≤ total R
total_take_le zero R = zero-le
total_take_le (suc k) [] = zero-le
total_take_le (suc k) (x ∷ xs) = omega (arith, total_take_le k xs)

-- nor does one word
pub total_get_le : (k : ℕ) (R : List ℕ) → get_or R k 0 ≤ total R
total_get_le k R = omega (arith, total_take_suc k R, total_take_le (suc k) R)

-- there is a sum for each word
pub length_sums : (a : ℕ) (R : List ℕ) → length (sums a R) ≡ length R
length_sums a [] = refl
length_sums a (x ∷ xs) = ap suc (length_sums (a + x) xs)

-- a running sum is the total of a front
pub sums_get : (a : ℕ) (R : List ℕ) (k : ℕ) → k < length R → get_or (sums a R) k 0 ≡ a + total (take (suc k) R)
sums_get a [] k h = absurd (not-suc-le-zero h)
sums_get a (x ∷ xs) zero h = ap (λ (n : ℕ). a + n) (sym (add-zero x))
sums_get a (x ∷ xs) (suc k) h = sums_get (a + x) xs k (le_of_suc-le-suc h) ∙ add_assoc a x (total (take (suc k) xs))

-- Past the end nothing is counted.
pub bump_out : (R : List ℕ) (d : ℕ) → length R ≤ d → bump R d ≡ R
bump_out R d h = set_out R d (get_or R d 0 + 1) h

-- one more at depth d is one more in each front that reaches past d
pub total_bump : (c : ℕ) (R : List ℕ) (d : ℕ) → c ≤ length R → total (take c (bump R d)) ≡ total (take c R) + one_if (ltb d c)
unfolding one_if
total_bump zero R d h = sym (ap (λ (b : Bool). 0 + one_if b) (leb-suc-zero d))
total_bump (suc c) [] d h = absurd (not-suc-le-zero h)
total_bump (suc c) (x ∷ xs) zero h =
    let b : one_if (ltb zero (suc c)) ≡ 1 = ap one_if (leb-suc-suc zero c ∙ leb-zero c) in
    omega arith
total_bump (suc c) (x ∷ xs) (suc d) h =
    let b : one_if (ltb (suc d) (suc c)) ≡ one_if (ltb d c) = ap one_if (leb-suc-suc (suc d) c) in
    omega (arith, total_bump c xs d (le_of_suc-le-suc h))

-- and one more in all, at most
pub total_bump_le : (R : List ℕ) (d : ℕ) → total (bump R d) ≤ total R + 1
total_bump_le R d =
    let e : total (take (length R) (bump R d)) ≡ total (bump R d) = ap total (take_all (length R) (bump R d) (omega (arith, length-set R d (get_or R d 0 + 1)))) in
    let f : total (take (length R) R) ≡ total R = ap total (take_all (length R) R (le_refl (length R))) in
    omega (arith, total_bump (length R) R d (le_refl (length R)), one_le (ltb d (length R)))
