-- The words of a fresh directory.
use Prim.Native.Nat.{ℕ, zero, suc, ◌+◌, ◌*◌, ◌%◌, ◌^◌, ◌≤◌, ◌<◌}
use mathlib.Core.Path.{◌≡◌, refl, sym, ap, ap₂, ◌∙◌}
use mathlib.Core.Bool.{◌||◌, cond}
use mathlib.Core.List.{List, [], ◌∷◌, ◌++◌}
use native.Mathlib.Omega.{arith}
use lib.Dec.{eqb, leb}
use lib.ListN.{length, get_or, drop, length-set}
use lib.Seq.{sets-eq}
use borrow.Author.Tests.{eq-eqb, ne_eqb, lt-ltb, le-ltb, le-leb, lt-leb}
use Rattle.meaning.specs.Neighbours.{NONE, behind, ahead}
use Rattle.meaning.specs.Layout.{Settings, entries_of, bits_of}
use Rattle.meaning.specs.Mem.{word, settings_top, empty, fresh}
use Rattle.invariants.specs.Places.{page, list, slot, prev, next, chain, mark, spare, Place, top, head, tail, bucket, end, cell, Valid, addr, Holds, image}
use Rattle.invariants.proofs.Lists.{split}
use Rattle.invariants.proofs.Unique.{settles}
use Rattle.invariants.proofs.Trip.{words_hold}
use Rattle.fresh.specs.Written.{headed, blank, Wiped, Fits, fresh_words}

-- the tests of `blank_word`
module _ (n a : ℕ) where
  pub blank_end : a ≡ 15 → 0 ≡ blank n a
  unfolding blank
  blank_end e = simp (eq-eqb a 15 e)

  pub blank_low : (a ≡ 15 → ⊥) → a < 16 → NONE ≡ blank n a
  unfolding blank
  blank_low e h = simp (ne_eqb a 15 e, lt-leb 16 a h)

  pub blank_high : 16 + 8 * n ≤ a → NONE ≡ blank n a
  unfolding blank
  blank_high h = simp (ne_eqb a 15 (omega arith), le-leb 16 a (omega arith), le-ltb a (16 + 8 * n) h)

  blank_cell : 16 ≤ a → a < 16 + 8 * n → blank n a ≡ cond (eqb (a % 8) 1 || leb 6 (a % 8)) 0 NONE
  unfolding blank
  blank_cell h g = simp (ne_eqb a 15 (omega arith), le-leb 16 a h, lt-ltb a (16 + 8 * n) g)

  pub blank_list : 16 ≤ a → a < 16 + 8 * n → a % 8 ≡ 1 → 0 ≡ blank n a
  blank_list h g e = sym (blank_cell h g ∙ simp (eq-eqb (a % 8) 1 e))

  pub blank_mid : 16 ≤ a → a < 16 + 8 * n → (a % 8 ≡ 1 → ⊥) → a % 8 < 6 → NONE ≡ blank n a
  blank_mid h g e f = sym (blank_cell h g ∙ simp (ne_eqb (a % 8) 1 e, lt-leb 6 (a % 8) f))

  pub blank_rest : 16 ≤ a → a < 16 + 8 * n → (a % 8 ≡ 1 → ⊥) → 6 ≤ a % 8 → 0 ≡ blank n a
  blank_rest h g e f = sym (blank_cell h g ∙ simp (ne_eqb (a % 8) 1 e, le-leb 6 (a % 8) f))

-- `wipe` has come to i
pub record Wiping (ws : List ℕ) (n i : ℕ) (ws' : List ℕ) : Type 0 where
  pub from : 7 ≤ i
  pub long : length ws' ≡ length ws
  pub kept : (a : ℕ) → a < 7 → word ws' a ≡ word ws a
  pub wiped : (a : ℕ) → 7 ≤ a → a < i → word ws' a ≡ blank n a

-- words that are wiped behind the header t are an empty directory's
module _ (ws : List ℕ) (t : ℕ → ℕ) (size : length ws ≡ 16 + 8 * t 2 + 2 ^ t 3)
    (tops : (a : ℕ) → a < 7 → word ws a ≡ t a) (rest : (a : ℕ) → 7 ≤ a → a < length ws → word ws a ≡ blank (t 2) a) where
  there : (i f : ℕ) → i < t 2 → f < 8 → word ws (16 + 8 * i + f) ≡ cond (eqb f 1 || leb 6 f) 0 NONE
  there i f h g = rest (16 + 8 * i + f) (omega arith) (omega arith) ∙ blank_cell (t 2) (16 + 8 * i + f) (omega arith) (omega arith)
      ∙ ap (λ (x : ℕ). cond (eqb x 1 || leb 6 x) 0 NONE) (column i f g)
    where
      column : (i f : ℕ) → f < 8 → (16 + 8 * i + f) % 8 ≡ f
      column i f g = omega arith

  rim : (a : ℕ) → 7 ≤ a → a < 15 → word ws a ≡ NONE
  rim a h g = rest a h (omega arith) ∙ sym (blank_low (t 2) a (omega arith) (omega arith))

  empty_holds : Holds (t 2) (t 3) ws (image (empty t))
  unfolding empty behind ahead
  empty_holds = record { size = size; at = at }
    where
      at : (q : Place) → Valid (t 2) (t 3) q → word ws (addr (t 2) q) ≡ image (empty t) q
      at (top a) h = tops a h
      at (head j) h = rim (5 + 2 * j) (omega arith) (omega arith)
      at (tail j) h = rim (6 + 2 * j) (omega arith) (omega arith)
      at (bucket b) h = rest (16 + 8 * t 2 + b) (omega arith) (omega arith) ∙ sym (blank_high (t 2) (16 + 8 * t 2 + b) (omega arith))
      at end h = rest 15 (omega arith) (omega arith) ∙ sym (blank_end (t 2) 15 refl)
      at (cell page i) h = there i 0 h (omega arith)
      at (cell list i) h = there i 1 h (omega arith)
      at (cell slot i) h = there i 2 h (omega arith)
      at (cell prev i) h = there i 3 h (omega arith) ∙ split i NONE (λ z e. simp e) (λ z e. simp e)
      at (cell next i) h = there i 4 h (omega arith)
      at (cell chain i) h = there i 5 h (omega arith)
      at (cell mark i) h = there i 6 h (omega arith)
      at (cell spare i) h = there i 7 h (omega arith)

-- the words that `form_fresh` leaves
pub form_words : {ws ws₁ ws₂ : List ℕ} {E k : ℕ} (s : Settings) → Fits s E k ws → ws₁ ≡ headed ws s E k → Wiped ws₁ E ws₂ → ws₂ ≡ fresh_words s
unfolding fresh settings_top entries_of empty bits_of
form_words {ws} {ws₁} {ws₂} {E} {k} s o eq w =
    settles (t 2) (t 3) ws₂ (fresh_words s) (image (empty t)) (empty_holds ws₂ t size tops rest) (words_hold (empty t))
  where
    t : ℕ → ℕ
    t = settings_top s

    header : List ℕ
    header = s.policy ∷ s.C ∷ E ∷ k ∷ s.first ∷ s.second ∷ 0 ∷ []

    two : E ≡ t 2
    two = o.entries

    three : k ≡ t 3
    three = o.bits ∙ ap bits_of o.entries

    long : length ws₂ ≡ length ws
    long = w.long ∙ ap length eq ∙ simp length-set

    size : length ws₂ ≡ 16 + 8 * t 2 + 2 ^ t 3
    size = long ∙ o.size ∙ ap₂ (λ (x y : ℕ). 16 + 8 * x + 2 ^ y) two three

    laid : ws₁ ≡ header ++ drop 7 ws
    laid = eq ∙ sets-eq header ws 0 (omega (arith, o.size))

    first7 : (a : ℕ) → a < 7 → get_or (header ++ drop 7 ws) a 0 ≡ t a
    first7 zero h = refl
    first7 (suc zero) h = refl
    first7 (suc (suc zero)) h = two
    first7 (suc (suc (suc zero))) h = three
    first7 (suc (suc (suc (suc zero)))) h = refl
    first7 (suc (suc (suc (suc (suc zero))))) h = refl
    first7 (suc (suc (suc (suc (suc (suc zero)))))) h = refl
    first7 (suc (suc (suc (suc (suc (suc (suc a))))))) h = absurd (omega arith)

    tops : (a : ℕ) → a < 7 → word ws₂ a ≡ t a
    tops a h = w.kept a h ∙ ap (λ (l : List ℕ). get_or l a 0) laid ∙ first7 a h

    rest : (a : ℕ) → 7 ≤ a → a < length ws₂ → word ws₂ a ≡ blank (t 2) a
    rest a h g = w.wiped a h (omega (arith, w.long)) ∙ ap (λ (n : ℕ). blank n a) two
