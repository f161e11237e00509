-- Tests: what holds of every number below n, how many pass, and tests that are joined.
use mathlib.Core.Path.{◌≡◌, refl, ap, sym, ◌∙◌}
use mathlib.Core.Bool.{Bool, true, false, not, ◌&&◌}
use Prim.Native.Nat.{ℕ, zero, suc, ◌+◌, ◌<◌}
use native.Mathlib.Nat.{not-suc-le-zero}
use native.Mathlib.Omega.{arith}
use native.Mathlib.Numerals.{add-one}
use borrow.Author.Tests.{not-true, not-false}
use Rattle.std.specs.Prelude.{if◌then◌else◌}
use Rattle.meaning.specs.Base.{every, tally, one_if, ◌⇒◌}
use Rattle.invariants.proofs.Lists.{split, no_true}
use Rattle.invariants.proofs.Families.{not_so}

-- A test that cannot pass fails.
pub fails : (b : Bool) → (b ≡ true → ⊥) → false ≡ b
fails b h = sym (not_so b h)

-- No test both passes and fails.
pub clash : {b : Bool} → b ≡ true → b ≡ false → ⊥
clash h k = no_true (sym k ∙ h)

-- Whichever a test chooses: it holds of that if it holds of both.
pub either : {A : Type 0} (P : A → Type 0) (b : Bool) {x y : A} → P x → P y → P (if b then x else y)
either P true h k = h
either P false h k = k

-- ── two tests, of which both must pass ──

-- Both pass: the first does.
pub and_left : (a b : Bool) → (a && b) ≡ true → a ≡ true
and_left true b h = refl
and_left false b h = h

-- Both pass: the second does.
pub and_right : (a b : Bool) → (a && b) ≡ true → b ≡ true
and_right true b h = h
and_right false b h = cc

-- All three pass: each does.
pub three : (a b c : Bool) → (a && b && c) ≡ true → (a ≡ true) × (b ≡ true) × (c ≡ true)
three a b c h = let p = and_left (a && b) c h in (and_left a b p, and_right a b p, and_right (a && b) c h)

-- Each passes: both do.
pub both : {a b : Bool} → a ≡ true → b ≡ true → (a && b) ≡ true
both h k = simp (h, k)

-- The first passes: the second decides.
pub joins : {a b r : Bool} → a ≡ true → r ≡ b → r ≡ (a && b)
joins h k = simp h k

-- The first passes and the second fails: not both pass.
pub stops : {a b : Bool} → a ≡ true → b ≡ false → false ≡ (a && b)
stops h k = simp (h, k)

-- ── two tests, of which one must pass ──

-- ── a test that is asked only where another passes ──

-- It is asked, and must fail, and fails.
pub imp_yes : {s e : Bool} → s ≡ true → e ≡ false → (s ⇒ not e) ≡ true
imp_yes h k = simp (h, k)

-- It is not asked.
pub imp_skip : {s : Bool} (e : Bool) → s ≡ false → (s ⇒ e) ≡ true
imp_skip e h = simp h

-- It is asked, and decides.
pub imp_is : {s r e : Bool} → s ≡ true → r ≡ e → r ≡ (s ⇒ e)
imp_is h k = simp h k

-- ── the numbers below n ──

-- All below n pass: each does.
pub every_at : (n : ℕ) (f : ℕ → Bool) → every n f ≡ true → (i : ℕ) → i < n → f i ≡ true
every_at zero f h i k = absurd (not-suc-le-zero k)
every_at (suc n) f h i k = split i n
    (λ e t. ap f e ∙ and_right (every n f) (f n) h)
    (λ e t. every_at n f (and_left (every n f) (f n) h) i (omega (arith, e)))

-- k below i pass, and i does: k + 1 below i + 1 do.
pub tally_yes : (i k : ℕ) (f : ℕ → Bool) → k ≡ tally i f → f i ≡ true → k + 1 ≡ tally (i + 1) f
unfolding tally one_if
tally_yes i k f h e = rw (add-one i) (omega (arith, ap one_if e))

-- k below i pass, and i does not: k below i + 1 do.
pub tally_no : (i k : ℕ) (f : ℕ → Bool) → k ≡ tally i f → f i ≡ false → k ≡ tally (i + 1) f
unfolding tally one_if
tally_no i k f h e = rw (add-one i) (omega (arith, ap one_if e))

-- ── what the code saw ──

-- The code got the answer r to the test t, and `!r` was false.
pub yes : {r t : Bool} → r ≡ t → not r ≡ false → t ≡ true
yes {r} e h = sym e ∙ not-false r h

-- The code got the answer r to the test t, and `!r` was true.
pub no : {r t : Bool} → r ≡ t → not r ≡ true → t ≡ false
no {r} e h = sym e ∙ not-true r h

-- A rule of a chain of them holds: the rest decide.
pub pass : {r t : Bool} (n rest : ℕ) → r ≡ t → not r ≡ false → (if not t then n else rest) ≡ rest
pass n rest e h = simp (yes e h)

-- A rule of a chain of them is broken: its number is the answer.
pub stop : {r t : Bool} (n rest : ℕ) → r ≡ t → not r ≡ true → (if not t then n else rest) ≡ n
stop n rest e h = simp (no e h)
