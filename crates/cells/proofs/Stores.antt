-- Stores: the words after a store at a place's address are the memory after a store at the place.
use Prim.Native.Nat.{ℕ, zero, suc, ◌+◌, ◌*◌, ◌-◌, ◌/◌, ◌%◌, ◌^◌, ◌≤◌, ◌<◌}
use mathlib.Core.Path.{◌≡◌, refl, sym, ap, ap₂, ◌∙◌}
use mathlib.Core.Bool.{false, cond, and-true, and-false}
use mathlib.Core.List.{List}
use native.Mathlib.Omega.{arith}
use lib.Dec.{eqb, ltb}
use lib.ListN.{length, set, length-set}
use lib.Seq.{get_or-set_same, get_or-set_other}
use borrow.Author.Tests.{eq-eqb, ne_eqb, lt-ltb, le-ltb}
use Rattle.meaning.specs.Neighbours.{NONE}
use Rattle.invariants.specs.Places.{Col, page, list, slot, prev, next, chain, mark, spare, num, Place, top, head, tail, bucket, end, cell, Image, Valid, addr, Holds, kind, nth, is, store, store_link, link_at}
use Rattle.invariants.proofs.Lists.{split}

num_lt : (c : Col) → num c < 8
num_lt page = omega arith
num_lt list = omega arith
num_lt slot = omega arith
num_lt prev = omega arith
num_lt next = omega arith
num_lt chain = omega arith
num_lt mark = omega arith
num_lt spare = omega arith

-- the two numbers of the place at an address
kind_at : ℕ → ℕ → ℕ
kind_at n a = cond (ltb a 7) 0 (cond (ltb a 15) (cond (eqb (a % 2) 1) 1 2) (cond (eqb a 15) 4 (cond (ltb a (16 + 8 * n)) (5 + (a - 16) % 8) 3)))

nth_at : ℕ → ℕ → ℕ
nth_at n a = cond (ltb a 7) a (cond (ltb a 15) ((a - 5) / 2) (cond (eqb a 15) 0 (cond (ltb a (16 + 8 * n)) ((a - 16) / 8) (a - (16 + 8 * n)))))

numbers_at : (n k : ℕ) (q : Place) → Valid n k q → (kind_at n (addr n q) ≡ kind q) × (nth_at n (addr n q) ≡ nth q)
unfolding kind_at nth_at
numbers_at n k (top t) h = simp (lt-ltb t 7 h) (refl, refl)
numbers_at n k (head j) h =
    simp (le-ltb (5 + 2 * j) 7 (omega arith), lt-ltb (5 + 2 * j) 15 (omega arith), eq-eqb ((5 + 2 * j) % 2) 1 (omega arith)) (refl, omega arith)
numbers_at n k (tail j) h =
    simp (le-ltb (6 + 2 * j) 7 (omega arith), lt-ltb (6 + 2 * j) 15 (omega arith), ne_eqb ((6 + 2 * j) % 2) 1 (omega arith)) (refl, omega arith)
numbers_at n k (bucket b) h = let a = 16 + 8 * n + b in
    simp (le-ltb a 7 (omega arith), le-ltb a 15 (omega arith), ne_eqb a 15 (omega arith), le-ltb a (16 + 8 * n) (omega arith)) (refl, omega arith)
numbers_at n k end h = (refl, refl)
numbers_at n k (cell c i) h = let a = 16 + 8 * i + num c in
    simp (le-ltb a 7 (omega arith), le-ltb a 15 (omega arith), ne_eqb a 15 (omega arith), lt-ltb a (16 + 8 * n) (omega (arith, num_lt c)))
    (omega (arith, num_lt c), omega (arith, num_lt c))

-- two places with one address are one
inj : (n k : ℕ) (q r : Place) → Valid n k q → Valid n k r → addr n r ≡ addr n q → (kind r ≡ kind q) × (nth r ≡ nth q)
inj n k q r hq hr e =
    let a = numbers_at n k q hq in let b = numbers_at n k r hr in
    (sym b.0 ∙ ap (kind_at n) e ∙ a.0, sym b.1 ∙ ap (nth_at n) e ∙ a.1)

bound : (n k : ℕ) (q : Place) → Valid n k q → addr n q < 16 + 8 * n + 2 ^ k
bound n k (top t) h = omega arith
bound n k (head j) h = omega arith
bound n k (tail j) h = omega arith
bound n k (bucket b) h = omega arith
bound n k end h = omega arith
bound n k (cell c i) h = omega (arith, num_lt c)

-- an address by the two numbers
adr : ℕ → ℕ → ℕ → ℕ
adr n zero i = i
adr n (suc zero) i = 5 + 2 * i
adr n (suc (suc zero)) i = 6 + 2 * i
adr n (suc (suc (suc zero))) i = 16 + 8 * n + i
adr n (suc (suc (suc (suc zero)))) i = 15
adr n (suc (suc (suc (suc (suc f))))) i = 16 + 8 * i + f

by_numbers : (n : ℕ) (q : Place) → adr n (kind q) (nth q) ≡ addr n q
unfolding adr
by_numbers n (top t) = refl
by_numbers n (head j) = refl
by_numbers n (tail j) = refl
by_numbers n (bucket b) = refl
by_numbers n end = refl
by_numbers n (cell c i) = refl

module _ (n k : ℕ) (ws : List ℕ) (w : Image) (H : Holds n k ws w) where
  store_holds : (q : Place) (v : ℕ) → Valid n k q → Holds n k (set ws (addr n q) v) (store w q v)
  store_holds q v h = record {
    size = simp length-set H.size;
    at = λ r g. split (kind r) (kind q) (λ p s. split (nth r) (nth q)
        (λ p' s'. simp (s, s', sym (by_numbers n r) ∙ ap₂ (adr n) p p' ∙ by_numbers n q)
        (get_or-set_same ws (addr n q) v 0 (rw H.size (bound n k q h))))
        (λ p' s'. simp (s, s') (get_or-set_other ws (addr n q) (addr n r) v 0 (λ z. p' (inj n k q r h g z).1) ∙ H.at r g)))
        (λ p s. simp s (get_or-set_other ws (addr n q) (addr n r) v 0 (λ z. p (inj n k q r h g z).0) ∙ H.at r g));
  }

  pub same_holds : (w' : Image) → ((q : Place) → Valid n k q → w q ≡ w' q) → Holds n k ws w'
  same_holds w' e = record { size = H.size; at = λ q g. H.at q g ∙ e q g }

-- a store, as a function's contract states it
pub stored : {n k : ℕ} {ws ws' : List ℕ} {w : Image} (v : ℕ) (q : Place) → Holds n k ws w → Valid n k q → ws' ≡ set ws (addr n q) v → Holds n k ws' (store w q v)
stored {n} {k} {ws} {ws'} {w} v q H h e = rw e (store_holds n k ws w H q v h)

-- a place is not that of an entry NONE
not_cell : (n k : ℕ) (c : Col) (q : Place) → n ≤ 1024 → Valid n k q → is (cell c NONE) q ≡ false
not_cell n k c (top t) few g = simp (ne_eqb 0 (kind (cell c NONE)) (omega arith))
not_cell n k c (head l) few g = simp (ne_eqb 1 (kind (cell c NONE)) (omega arith))
not_cell n k c (tail l) few g = simp (ne_eqb 2 (kind (cell c NONE)) (omega arith))
not_cell n k c (bucket b) few g = simp (ne_eqb 3 (kind (cell c NONE)) (omega arith))
not_cell n k c end few g = simp (ne_eqb 4 (kind (cell c NONE)) (omega arith))
not_cell n k c (cell d i) few g = simp (ne_eqb i NONE (omega arith), and-false)

-- the link that leads on from p, in the column c, or where p is NONE at the place q
pub link_stored : {n k : ℕ} {ws ws' : List ℕ} {w : Image} (q : Place) (c : Col) (p v : ℕ) → Holds n k ws w → Valid n k q → ((p ≡ NONE → ⊥) → p < n) → n ≤ 1024
    → ws' ≡ set ws (link_at (addr n q) (num c) p) v → Holds n k ws' (store_link w q c p v)
link_stored {n} {k} {ws} {ws'} {w} q c p v H g hp few e = split p NONE
    (λ z t. same_holds n k ws' _ (stored v q H g (simp t at e)) (store_link w q c p v)
    (λ r gr. simp (z, not_cell n k c r few gr, and-true)))
    (λ z t. same_holds n k ws' _ (stored v (cell c p) H (hp z) (simp t at e)) (store_link w q c p v)
    (λ r gr. simp (ne_eqb NONE p (λ y. z (sym y)), and-false)))

pub link_room : {n k : ℕ} {ws : List ℕ} {w : Image} (q : Place) (c : Col) (p : ℕ) → Holds n k ws w → Valid n k q → ((p ≡ NONE → ⊥) → p < n)
    → link_at (addr n q) (num c) p < length ws
link_room {n} {k} q c p H g hp = split p NONE
    (λ z t. simp t (omega (arith, H.size, bound n k q g)))
    (λ z t. simp t (omega (arith, H.size, bound n k (cell c p) (hp z))))
