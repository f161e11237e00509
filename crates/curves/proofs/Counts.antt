-- The walk over m places, NONE where no page is: it keeps the stack's front, and its bumps, summed to c, are the hits at c.
use mathlib.Core.Path.{◌≡◌, refl, sym, ap, ◌∙◌, subst}
use mathlib.Core.List.{List, [], ◌∷◌, ◌++◌, append-nil}
use mathlib.Core.Bool.{Bool, true, false, ◌||◌, true≢false}
use Prim.Native.Nat.{ℕ, zero, suc, ◌+◌, ◌-◌, ◌≤◌, ◌<◌}
use native.Mathlib.Nat.{not-suc-le-zero, le_of_suc-le-suc, le_refl, add_assoc, zero-add, suc-add, add-suc, add-zero}
use native.Mathlib.Numerals.{add-one, sub-one}
use native.Mathlib.Omega.{arith}
use borrow.Author.Tests.{eqb-false, ne_eqb}
use lib.ListN.{length, take, get_or, replicate, length-set, length-replicate, drop_of_length-le}
use lib.Seq.{take_all, take-nil, ext_get_or}
use lib.Dec.{ltb, eqb, leb-suc-zero, leb-suc-suc, leb-zero}
use Rattle.meaning.specs.Base.{one_if, series, pad}
use Rattle.meaning.specs.Neighbours.{NONE, has}
use Rattle.traces.specs.Depth.{found, depth}
use Rattle.curves.specs.PageList.{erased, erase, to_top, step, list_after, hits_on, pages_of, hits_of}
use Rattle.curves.specs.Curve.{moved, bump, bumps, total, sums}
use Rattle.curves.proofs.Lists.{total_bump, total_bump_le, length_sums, sums_get}
use Rattle.invariants.proofs.Series.{length_series}
use Rattle.curves.proofs.PageList.{erase_is, erase_miss, step_take, stack, pages_stack}

-- ---- what a turn of the walk does to its places is one request at their number

-- without a page that it has, a list is one shorter
pub hit_long : (p : ℕ) (L : List ℕ) → depth p L < length L → suc (length (erase p L)) ≡ length L
hit_long p [] h = absurd (not-suc-le-zero h)
hit_long p (x ∷ xs) h = go (eqb p x) h (hit_long p xs)
  where
    go : (b : Bool) → found b (depth p xs) < suc (length xs) → (depth p xs < length xs → suc (length (erase p xs)) ≡ length xs)
        → suc (length (erased b x xs (erase p xs))) ≡ suc (length xs)
    go true k e = refl
    go false k e = ap suc (e (le_of_suc-le-suc k))

-- a hit
pub step_hit : (p : ℕ) (W : List ℕ) → depth p W < length W → moved (depth p W) p W ≡ step (length W) p W
step_hit p W h =
    ap (λ (r : List ℕ). p ∷ r) (sym (erase_is p W))
    ∙ sym (take_all (length W) (to_top p W) (omega (arith, hit_long p W h)))

-- a miss
pub step_miss : (p : ℕ) (W : List ℕ) → length W ≤ depth p W → 0 < length W → moved (length W - 1) p W ≡ step (length W) p W
step_miss p [] h k = absurd (not-suc-le-zero k)
step_miss p (x ∷ xs) h k =
    ap (λ (n : ℕ). moved n p (x ∷ xs)) (sub-one (suc (length xs)))
    ∙ ap (λ (r : List ℕ). p ∷ (take (length xs) (x ∷ xs) ++ r)) (drop_of_length-le (x ∷ xs) {i = suc (length xs)} (le_refl (suc (length xs))))
    ∙ ap (λ (r : List ℕ). p ∷ r) (append-nil (take (length xs) (x ∷ xs)))
    ∙ ap (λ (r : List ℕ). p ∷ take (length xs) r) (sym (erase_miss p (x ∷ xs) h))

-- ---- places that hold NONE

neither : (a b : Bool) → (a || b) ≡ false → (a ≡ false) × (b ≡ false)
neither true b e = absurd (true≢false e)
neither false b e = (refl, e)

-- p is a page: NONE is not it
is_page : (p : ℕ) (t : List ℕ) → has (p ∷ t) NONE ≡ false → eqb p NONE ≡ false
unfolding has
is_page p t e = ne_eqb p NONE (λ q. eqb-false NONE p (neither (eqb NONE p) (has t NONE) e).0 (sym q))

-- there are as many places as asked for
pub length_pad : (m : ℕ) (S : List ℕ) → length (pad NONE m S) ≡ m
length_pad zero S = refl
length_pad (suc m) [] = ap suc (length_pad m [])
length_pad (suc m) (x ∷ xs) = ap suc (length_pad m xs)

pad_take : (m : ℕ) (S : List ℕ) → pad NONE m (take m S) ≡ pad NONE m S
pad_take zero S = refl
pad_take (suc m) [] = refl
pad_take (suc m) (x ∷ xs) = ap (λ (r : List ℕ). x ∷ r) (pad_take m xs)

-- the front of the places is the places of the front
pub pad_front : (c m : ℕ) (S : List ℕ) → c ≤ m → take c (pad NONE m S) ≡ pad NONE c (take c S)
pad_front zero m S h = refl
pad_front (suc c) zero S h = absurd (not-suc-le-zero h)
pad_front (suc c) (suc m) [] h = ap (λ (r : List ℕ). NONE ∷ r) (pad_front c m [] (le_of_suc-le-suc h) ∙ ap (pad NONE c) (take-nil c))
pad_front (suc c) (suc m) (x ∷ xs) h = ap (λ (r : List ℕ). x ∷ r) (pad_front c m xs (le_of_suc-le-suc h))

pad_fresh : (m : ℕ) → replicate m NONE ≡ pad NONE m []
pad_fresh zero = refl
pad_fresh (suc m) = ap (λ (r : List ℕ). NONE ∷ r) (pad_fresh m)

erase_pad : (k p : ℕ) (S : List ℕ) → eqb p NONE ≡ false → take k (erase p (pad NONE (suc k) S)) ≡ pad NONE k (erase p S)
erase_pad zero p S e = refl
erase_pad (suc k) p [] e =
    ap (λ (b : Bool). take (suc k) (erased b NONE (pad NONE (suc k) []) (erase p (pad NONE (suc k) [])))) e
    ∙ ap (λ (r : List ℕ). NONE ∷ r) (erase_pad k p [] e)
erase_pad (suc k) p (x ∷ xs) e = go (eqb p x) (erase_pad k p xs e)
  where
    go : (b : Bool) → take k (erase p (pad NONE (suc k) xs)) ≡ pad NONE k (erase p xs)
        → take (suc k) (erased b x (pad NONE (suc k) xs) (erase p (pad NONE (suc k) xs))) ≡ pad NONE (suc k) (erased b x xs (erase p xs))
    go true i = take_all (suc k) (pad NONE (suc k) xs) (omega (arith, length_pad (suc k) xs))
    go false i = ap (λ (r : List ℕ). x ∷ r) i

step_pad : (m p : ℕ) (S : List ℕ) → eqb p NONE ≡ false → step m p (pad NONE m S) ≡ pad NONE m (to_top p S)
step_pad zero p S e = refl
step_pad (suc k) p S e = ap (λ (r : List ℕ). p ∷ r) (erase_pad k p S e)

list_pad : (m : ℕ) (S t : List ℕ) → has t NONE ≡ false → list_after m (pad NONE m S) t ≡ pad NONE m (stack S t)
unfolding has
list_pad m S [] e = refl
list_pad m S (p ∷ t) e =
    ap (λ (L : List ℕ). list_after m L t) (step_pad m p S (is_page p t e))
    ∙ list_pad m (to_top p S) t (neither (eqb NONE p) (has t NONE) e).1

-- the places after the walk: the list at m, then NONE
pub places : (m : ℕ) (t : List ℕ) → has t NONE ≡ false → list_after m (replicate m NONE) t ≡ pad NONE m (pages_of m t)
places m t e =
    ap (λ (L : List ℕ). list_after m L t) (pad_fresh m) ∙ list_pad m [] t e ∙ sym (pad_take m (stack [] t)) ∙ ap (pad NONE m) (sym (pages_stack m t))

-- a page's place is below c exactly if a directory of capacity c holds it
depth_pad : (c m p : ℕ) (S : List ℕ) → c ≤ m → eqb p NONE ≡ false → ltb (depth p (pad NONE m S)) c ≡ has (take c S) p
unfolding has
depth_pad zero m p S h e = leb-suc-zero (depth p (pad NONE m S))
depth_pad (suc c) zero p S h e = absurd (not-suc-le-zero h)
depth_pad (suc c) (suc m) p [] h e =
    ap (λ (b : Bool). ltb (found b (depth p (pad NONE m []))) (suc c)) e
    ∙ leb-suc-suc (suc (depth p (pad NONE m []))) c
    ∙ depth_pad c m p [] (le_of_suc-le-suc h) e
    ∙ ap (λ (L : List ℕ). has L p) (take-nil c)
depth_pad (suc c) (suc m) p (x ∷ xs) h e = go (eqb p x) (depth_pad c m p xs (le_of_suc-le-suc h) e)
  where
    go : (b : Bool) → ltb (depth p (pad NONE m xs)) c ≡ has (take c xs) p → ltb (found b (depth p (pad NONE m xs))) (suc c) ≡ (b || has (take c xs) p)
    go true i = leb-suc-suc zero c ∙ leb-zero c
    go false i = leb-suc-suc (suc (depth p (pad NONE m xs))) c ∙ i

-- ---- the counts

length_bumps : (m : ℕ) (R W t : List ℕ) → length (bumps m R W t) ≡ length R
length_bumps m R W [] = refl
length_bumps m R W (p ∷ t) = length_bumps m (bump R (depth p W)) (step m p W) t ∙ length-set R (depth p W) (get_or R (depth p W) 0 + 1)

-- of each front of the bumps, over any stack S: the hits at that capacity
bumps_count : (m c : ℕ) (R S t : List ℕ) → c ≤ m → length R ≡ m → has t NONE ≡ false
    → total (take c (bumps m R (pad NONE m S) t)) ≡ total (take c R) + hits_on c (take c S) t
unfolding has
bumps_count m c R S [] h l e = sym (add-zero (total (take c R)))
bumps_count m c R S (p ∷ t) h l e =
    let d : ℕ = depth p (pad NONE m S) in
    let page : eqb p NONE ≡ false = is_page p t e in
    ap (λ (W : List ℕ). total (take c (bumps m (bump R d) W t))) (step_pad m p S page)
    ∙ bumps_count m c (bump R d) (to_top p S) t h (length-set R d (get_or R d 0 + 1) ∙ l) (neither (eqb NONE p) (has t NONE) e).1
    ∙ ap (λ (n : ℕ). n + hits_on c (take c (to_top p S)) t) (total_bump c R d (subst (λ (n : ℕ). c ≤ n) (sym l) h))
    ∙ ap (λ (b : Bool). total (take c R) + one_if b + hits_on c (take c (to_top p S)) t) (depth_pad c m p S h page)
    ∙ ap (λ (L : List ℕ). total (take c R) + one_if (has (take c S) p) + hits_on c L t) (sym (step_take c p S))
    ∙ add_assoc (total (take c R)) (one_if (has (take c S) p)) (hits_on c (step c p (take c S)) t)

total_zeros : (c m : ℕ) → total (take c (replicate m 0)) ≡ 0
total_zeros zero m = refl
total_zeros (suc c) zero = refl
total_zeros (suc c) (suc m) = zero-add (total (take c (replicate m 0))) ∙ total_zeros c m

fresh_count : (m c : ℕ) (t : List ℕ) → c ≤ m → has t NONE ≡ false → total (take c (bumps m (replicate m 0) (replicate m NONE) t)) ≡ hits_of t c
fresh_count m c t h e =
    ap (λ (W : List ℕ). total (take c (bumps m (replicate m 0) W t))) (pad_fresh m)
    ∙ bumps_count m c (replicate m 0) [] t h (length-replicate m 0) e
    ∙ ap (λ (n : ℕ). n + hits_on c (take c []) t) (total_zeros c m)
    ∙ zero-add (hits_on c (take c []) t)
    ∙ ap (λ (L : List ℕ). hits_on c L t) (take-nil c)

-- what stands at place k of a series
pub series_get : (f : ℕ → ℕ) (n c k : ℕ) → k < n → get_or (series f n c) k 0 ≡ f (k + c)
series_get f zero c k h = absurd (not-suc-le-zero h)
series_get f (suc n) c zero h = ap f (sym (zero-add c))
series_get f (suc n) c (suc k) h = series_get f n (suc c) k (le_of_suc-le-suc h) ∙ ap f (add-suc k c ∙ sym (suc-add k c))

-- bumps whose fronts total f are summed to f's series
sums_series : (f : ℕ → ℕ) (m : ℕ) (R : List ℕ) → length R ≡ m → ((c : ℕ) → c ≤ m → total (take c R) ≡ f c) → sums 0 R ≡ series f m 1
sums_series f m R l q =
    let n : length (sums 0 R) ≡ m = length_sums 0 R ∙ l in
    ext_get_or 0 (sums 0 R) (series f m 1) (n ∙ sym (length_series f m 1)) (λ i h.
    sums_get 0 R i (omega arith)
    ∙ zero-add (total (take (suc i) R))
    ∙ q (suc i) (omega arith)
    ∙ ap f (sym (add-one i))
    ∙ sym (series_get f m 1 i (omega arith)))

-- the summed bumps are the curve
pub curve_is : (m : ℕ) (t : List ℕ) → has t NONE ≡ false → sums 0 (bumps m (replicate m 0) (replicate m NONE) t) ≡ series (hits_of t) m 1
curve_is m t e =
    sums_series (hits_of t) m (bumps m (replicate m 0) (replicate m NONE) t)
    (length_bumps m (replicate m 0) (replicate m NONE) t ∙ length-replicate m 0)
    (λ c h. fresh_count m c t h e)

-- each request adds one hit at most
pub total_bumps_le : (m : ℕ) (R W t : List ℕ) → total (bumps m R W t) ≤ total R + length t
total_bumps_le m R W [] = omega arith
total_bumps_le m R W (p ∷ t) =
    omega (arith, total_bumps_le m (bump R (depth p W)) (step m p W) t, total_bump_le R (depth p W))

-- at the start no hit is counted
pub zeros : (m : ℕ) → total (replicate m 0) ≡ 0
zeros zero = refl
zeros (suc m) = zero-add (total (replicate m 0)) ∙ zeros m
