-- What is written: lengths, runs of stores, and a line behind the other.
use Prim.Native.Nat.{ℕ, zero, suc, ◌+◌, ◌-◌, ◌*◌, ◌/◌, ◌%◌, ◌^◌, ◌≤◌, ◌<◌}
use mathlib.Core.Path.{◌≡◌, refl, sym, ap, ◌∙◌}
use mathlib.Core.List.{List, [], ◌∷◌, ◌++◌, append_assoc, append-nil}
use lib.ListN.{length, drop, set, length-append}
use lib.Seq.{sets}
use borrow.Rule.Slice.PartMut.{put_mid, post_of}
use native.Mathlib.Omega.{arith}
use native.Mathlib.Numerals.{add-one}
use Rattle.std.proofs.lemmas.List.{drop-set, drop-drop}
use native.Mathlib.Nat.{le_refl, pow-suc, add-zero, add-suc, suc-add}
use Rattle.std.specs.Prelude.{Option, Some, None, IfSome, IfNone, unwrap_or}
use Rattle.meaning.specs.Calls.{over}
use Rattle.meaning.specs.Text.{decimal, line_of}
use Rattle.text_lines.proofs.Lines.{by_lt, done, decimal_one, decimal_more}
use lib.Seq.{sets-eq}
use native.Mathlib.Nat.{zero-add}

-- ── Lengths ──

-- The length of a decimal of one digit.
pub digits_one : (n : ℕ) → n < 10 → length (decimal n) ≡ 1
digits_one n h = simp (decimal_one n h)

-- The length of a decimal of more digits, by its last.
pub digits_more : (n : ℕ) → 10 ≤ n → length (decimal n) ≡ length (decimal (n / 10)) + 1
digits_more n h = simp (decimal_more n h, length-append)

short_by : (k n : ℕ) → n < 10 ^ suc k → length (decimal n) ≤ suc k
short_by zero n h = omega (arith, digits_one n (omega arith))
short_by (suc k) n h =
    by_lt n 10
    (λ l e. omega (arith, digits_one n l))
    (λ l e.
    let q : n < 10 ^ suc k * 10 = rw pow-suc at h in
    omega (arith, digits_more n l, short_by k (n / 10) (omega arith)))

-- A word's decimal has at most ten digits.
pub decimal_short : (n : ℕ) → n ≤ 4294967295 → length (decimal n) ≤ 10
decimal_short n h = short_by 9 n (omega arith)

ten_pos : (k : ℕ) → 0 < 10 ^ k
ten_pos zero = omega arith
ten_pos (suc k) = rw pow-suc (omega (arith, ten_pos k))

log_long : (k n : ℕ) → 10 ^ k ≤ n → n < 10 * 10 ^ k → length (decimal n) ≡ k + 1
log_long zero n l h = digits_one n (omega arith)
log_long (suc k) n l h =
    let l' : 10 ^ k * 10 ≤ n = rw pow-suc at l in
    let h' : n < 10 * (10 ^ k * 10) = rw pow-suc at h in
    omega (arith, digits_more n (omega (arith, ten_pos k)), log_long k (n / 10) (omega arith) (omega arith))

-- The library's logarithm to base ten, 0 of 0, is one less than the length of the decimal.
pub log_length : (n : ℕ) (r : Option ℕ) → IfNone r (n ≡ 0) → IfSome r (λ k. 10 ^ k ≤ n) → IfSome r (λ k. n < 10 * 10 ^ k) → unwrap_or r 0 + 1 ≡ length (decimal n)
log_length n None z l h = omega (arith, digits_one n (omega arith))
log_length n (Some k) z l h = sym (log_long k n l h)

-- The length of a line.
pub line_length : (key : List ℕ) (v : ℕ) → length (line_of key v) ≡ length key + length (decimal v) + 1
unfolding line_of
line_length key v = simp length-append (omega arith)

-- A run of stores from the front.
pub sets_front : (l vs : List ℕ) → length vs ≤ length l → sets l 0 vs ≡ over vs l
unfolding over
sets_front l vs h = sets-eq vs l 0 (omega arith) ∙ simp zero-add

-- ── Runs of stores ──

sets_append : (l : List ℕ) (i : ℕ) (xs ys : List ℕ) → sets l i (xs ++ ys) ≡ sets (sets l i xs) (i + length xs) ys
sets_append l i [] ys = simp add-zero
sets_append l i (x ∷ xs) ys = sets_append (set l i x) (suc i) xs ys ∙ simp (add-suc, suc-add)

-- A part of a list with other bytes in its place is a run of stores.
pub part_put : (l : List ℕ) (at k : ℕ) {xs ys : List ℕ} → ys ≡ xs → length xs ≡ k → at + k ≤ length l → put_mid at k l ys ≡ sets l at xs
part_put l at k {xs} e n h =
    let post : post_of at k l ≡ drop (at + k) l = rw (← drop-drop k at l) refl in
    rw (e, post) (sym (sets-eq xs l at (omega arith) ∙ rw (n, append_assoc)))

-- The last i digits of n, zeros in front where it has fewer, and s after them.
abbrev pub padded : ℕ → ℕ → List ℕ → List ℕ
padded zero n s = s
padded (suc i) n s = padded i (n / 10) ((48 + n % 10) ∷ s)

padded_below : (k n : ℕ) (s : List ℕ) → n < k → padded (length (decimal n)) n s ≡ decimal n ++ s
padded_below zero n s h = absurd (omega arith)
padded_below (suc k) n s h =
    by_lt n 10
    (λ l e. let q : n % 10 ≡ n = omega arith in simp (decimal_one n l, q))
    (λ l e. let q : length (decimal n) ≡ suc (length (decimal (n / 10))) = omega (arith, digits_more n l) in
    ap (λ (m : ℕ). padded m n s) q ∙ padded_below k (n / 10) ((48 + n % 10) ∷ s) (omega arith) ∙ simp (decimal_more n l, append_assoc))

-- A digit is stored in front of those stored before.
pub padded_turn : (out : List ℕ) (i n : ℕ) → 0 < i → i ≤ length out → padded (i - 1) (n / 10) (drop (i - 1) (set out (i - 1) (48 + n % 10))) ≡ padded i n (drop i out)
padded_turn out zero n h k = absurd (omega arith)
padded_turn out (suc j) n h k = let e : suc j - 1 ≡ j = omega arith in simp (e, drop-set, add-one)

-- As many as its decimal has are the decimal.
pub padded_all : (out : List ℕ) (n : ℕ) → length out ≡ length (decimal n) → padded (length out) n (drop (length out) out) ≡ decimal n
padded_all out n e = rw (done out (length out) (le_refl _), e, padded_below (suc n) n [] (omega arith)) (append-nil _)

-- ── What the writer's functions leave ──

-- The bytes xs written to l at `at`, ending at r, leave l₁.
abbrev pub Put : List ℕ → ℕ → List ℕ → List ℕ → ℕ → Type 0
Put l at xs l₁ r = (l₁ ≡ sets l at xs) × (r ≡ at + length xs)

-- What is written behind bytes xs goes on where they end.
pub put_step : (l : List ℕ) (at : ℕ) (xs ys : List ℕ) {l₁ : List ℕ} {r : ℕ} → Put l at xs l₁ r → sets l at (xs ++ ys) ≡ sets l₁ r ys
put_step l at xs ys e = rw (e.0, e.1) (sets_append l at xs ys)

-- A key, a decimal and byte 10 are a line.
pub line_put : (l : List ℕ) (at : ℕ) (key : List ℕ) (v : ℕ) {l₁ l₂ : List ℕ} {r : ℕ} → l₁ ≡ sets l at key
    → Put l₁ (at + length key) (decimal v) l₂ r → Put l at (line_of key v) (set l₂ r 10) (r + 1)
unfolding line_of
line_put l at key v {l₁} {l₂} {r} e₁ e₂ = (
  sym (put_step l at key (decimal v ++ (10 ∷ [])) (e₁, refl) ∙ put_step l₁ (at + length key) (decimal v) (10 ∷ []) e₂),
  omega (arith, e₂.1, line_length key v),
)
