-- What is read of a line is what is written: decimals and lines.
use Prim.Native.Nat.{ℕ, zero, suc, ◌+◌, ◌-◌, ◌*◌, ◌/◌, ◌%◌, ◌≤◌, ◌<◌}
use mathlib.Core.Bool.{Bool, true, false, cond}
use mathlib.Core.Path.{◌≡◌, refl, ◌∙◌}
use mathlib.Core.List.{List, [], ◌∷◌, ◌++◌, append_assoc}
use lib.Pointwise.{pointwise}
use lib.ListN.{length, get_or, take, drop, drop_of_length-le}
use lib.Seq.{drop-cons}
use lib.Dec.{ltb, eqb}
use borrow.Author.Tests.{lt-ltb, le-ltb, eq-eqb, ne_eqb, ltb-true, ltb-false, eqb-false}
use native.Mathlib.Numerals.{add-one}
use native.Mathlib.Omega.{arith}
use Rattle.meaning.specs.Text.{dec, decimal, line_of, Took, wrong, right, scan, number, line}
use Rattle.invariants.proofs.Lists.{split}

-- By a test: what it says of the numbers, and the test's value.
pub by_lt : {C : Type 0} (a b : ℕ) → (a < b → ltb a b ≡ true → C) → (b ≤ a → ltb a b ≡ false → C) → C
by_lt {C} a b f g = go (ltb a b) refl
  where
    go : (t : Bool) → ltb a b ≡ t → C
    go true e = f (ltb-true a b e) e
    go false e = g (ltb-false a b e) e

-- One element more, as the code counts.
pub turn : (s : List ℕ) (i : ℕ) → i < length s → drop i s ≡ get_or s i 0 ∷ drop (i + 1) s
turn s i h = rw (add-one, drop-cons s i 0)

-- Nothing is left.
pub done : (s : List ℕ) (i : ℕ) → length s ≤ i → drop i s ≡ []
done s i h = drop_of_length-le s h

-- ── Decimals ──

dec_enough : (k m n : ℕ) → n < k → n < m → dec k n ≡ dec m n
dec_enough zero m n h h' = absurd (omega arith)
dec_enough (suc k) zero n h h' = absurd (omega arith)
dec_enough (suc k) (suc m) n h h' =
    by_lt n 10 (λ l e. simp e) (λ l e. simp (e, dec_enough k m (n / 10) (omega arith) (omega arith)))

-- A decimal of one digit.
pub decimal_one : (n : ℕ) → n < 10 → decimal n ≡ (48 + n) ∷ []
unfolding decimal
decimal_one n h = simp (lt-ltb n 10 h)

-- A decimal of more digits, by its last.
pub decimal_more : (n : ℕ) → 10 ≤ n → decimal n ≡ decimal (n / 10) ++ ((48 + n % 10) ∷ [])
unfolding decimal
decimal_more n h = simp (le-ltb n 10 h, dec_enough n (suc (n / 10)) (n / 10) (omega arith) (omega arith))

decimal_push : (a d : ℕ) → 0 < a → d < 10 → decimal (a * 10 + d) ≡ decimal a ++ ((48 + d) ∷ [])
decimal_push a d h k =
    let q : (a * 10 + d) / 10 ≡ a = omega arith in
    let r : (a * 10 + d) % 10 ≡ d = omega arith in
    decimal_more (a * 10 + d) (omega arith) ∙ simp (q, r)

-- ── A line ──

-- A line begins with its key, as the library compares a front.
pub line_is : (key s : List ℕ) → line key s ≡ cond (pointwise eqb (take (length key) s) key) (number (drop (length key) s)) wrong
line_is [] s = refl
line_is (k ∷ ks) [] = refl
line_is (k ∷ ks) (b ∷ s) = split b k (λ e t. simp (t, line_is ks s)) (λ e t. simp t)

scan_digit : (acc d : ℕ) (s : List ℕ) → 0 < acc → d < 10 → acc * 10 + d ≤ 4294967295 → scan acc ((48 + d) ∷ s) ≡ scan (acc * 10 + d) s
scan_digit acc d s h k b =
    let f : 48 + d - 48 ≡ d = omega arith in
    simp (f, ne_eqb (48 + d) 10 (omega arith), le-ltb (48 + d) 48 (omega arith), le-ltb 57 (48 + d) (omega arith), ne_eqb acc 0 (omega arith), le-ltb 4294967295 (acc * 10 + d) b)

number_digit : (d : ℕ) (s : List ℕ) → d < 10 → number ((48 + d) ∷ s) ≡ scan d s
number_digit d s k =
    let f : 48 + d - 48 ≡ d = omega arith in
    simp (f, le-ltb (48 + d) 48 (omega arith), le-ltb 57 (48 + d) (omega arith))

dec_number : (k n : ℕ) (t : List ℕ) → n < k → n ≤ 4294967295 → number (dec k n ++ t) ≡ scan n t
dec_number zero n t h b = absurd (omega arith)
dec_number (suc k) n t h b =
    by_lt n 10
    (λ l e. simp e (number_digit n t l))
    (λ l e.
    let f : n / 10 * 10 + n % 10 ≡ n = omega arith in
    simp (e, append_assoc, dec_number k (n / 10) ((48 + n % 10) ∷ t) (omega arith) (omega arith))
    (scan_digit (n / 10) (n % 10) t (omega arith) (omega arith) (omega arith) ∙ simp f))

-- A line that is written is read.
pub line_complete : (key : List ℕ) (v : ℕ) (rest : List ℕ) → v ≤ 4294967295 → line key (line_of key v ++ rest) ≡ right v rest
unfolding line_of decimal
line_complete [] v rest b = simp (append_assoc, dec_number (suc v) v (10 ∷ rest) (omega arith) b)
line_complete (k ∷ ks) v rest b = simp (eq-eqb k k refl, line_complete ks v rest b)

unless : (t : Bool) {x : Took} {v : ℕ} {s : List ℕ} → cond t wrong x ≡ right v s → (t ≡ false) × (x ≡ right v s)
unless true e = let z : ◌≡◌ {A = ℕ} 0 1 = cc in absurd (omega arith)
unless false e = (refl, e)

scan_sound : (s : List ℕ) (acc v : ℕ) (rest : List ℕ) → acc ≤ 4294967295 → scan acc s ≡ right v rest → (decimal acc ++ s ≡ decimal v ++ (10 ∷ rest)) × (v ≤ 4294967295)
scan_sound [] acc v rest b e = let z : ◌≡◌ {A = ℕ} 0 1 = cc in absurd (omega arith)
scan_sound (d ∷ s) acc v rest b e =
    split d 10
    (λ q t. let r : right acc s ≡ right v rest = simp t at e in let a : acc ≡ v = cc in (cc, omega arith))
    (λ q t.
    let u₁ = unless (ltb d 48) (simp t at e) in
    let u₂ = unless (ltb 57 d) u₁.1 in
    let u₃ = unless (eqb acc 0) u₂.1 in
    let u₄ = unless (ltb 4294967295 (acc * 10 + (d - 48))) u₃.1 in
    let l₁ : 48 ≤ d = ltb-false d 48 u₁.0 in
    let l₂ : d ≤ 57 = ltb-false 57 d u₂.0 in
    let l₃ : acc ≡ 0 → ⊥ = eqb-false acc 0 u₃.0 in
    let l₄ : acc * 10 + (d - 48) ≤ 4294967295 = ltb-false 4294967295 (acc * 10 + (d - 48)) u₄.0 in
    let f : 48 + (d - 48) ≡ d = omega arith in
    let ih = scan_sound s (acc * 10 + (d - 48)) v rest l₄ u₄.1 in
    (simp (decimal_push acc (d - 48) (omega arith) (omega arith), append_assoc, f) at ih.0, ih.1))

number_sound : (s : List ℕ) (v : ℕ) (rest : List ℕ) → number s ≡ right v rest → (s ≡ decimal v ++ (10 ∷ rest)) × (v ≤ 4294967295)
number_sound [] v rest e = let z : ◌≡◌ {A = ℕ} 0 1 = cc in absurd (omega arith)
number_sound (d ∷ s) v rest e =
    let u₁ = unless (ltb d 48) e in
    let u₂ = unless (ltb 57 d) u₁.1 in
    let l₁ : 48 ≤ d = ltb-false d 48 u₁.0 in
    let l₂ : d ≤ 57 = ltb-false 57 d u₂.0 in
    let f : 48 + (d - 48) ≡ d = omega arith in
    let r = scan_sound s (d - 48) v rest (omega arith) u₂.1 in
    (simp (decimal_one (d - 48) (omega arith), f) at r.0, r.1)

-- A line that is read stands there as it is written.
pub line_sound : (key s : List ℕ) (v : ℕ) (rest : List ℕ) → line key s ≡ right v rest → (s ≡ line_of key v ++ rest) × (v ≤ 4294967295)
unfolding line_of
line_sound [] s v rest e = let r = number_sound s v rest e in (r.0 ∙ simp append_assoc, r.1)
line_sound (k ∷ ks) [] v rest e = let z : ◌≡◌ {A = ℕ} 0 1 = cc in absurd (omega arith)
line_sound (k ∷ ks) (b ∷ s) v rest e =
    split b k
    (λ q t. let r = line_sound ks s v rest (simp t at e) in (cc r.0, r.1))
    (λ q t. let w : wrong ≡ right v rest = simp t at e in let z : ◌≡◌ {A = ℕ} 0 1 = cc in absurd (omega arith))

-- By what reading a line finds.
pub by_took : {C : Type 0} (t : Took) → (t ≡ wrong → C) → ((v : ℕ) (s : List ℕ) → t ≡ right v s → C) → C
by_took wrong f g = f refl
by_took (right v s) f g = g v s refl
