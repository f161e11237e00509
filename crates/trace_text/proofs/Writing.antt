-- What the writer's proofs cite: lengths, runs of stores, and the promise by what the code tests.
use Prim.Native.Nat.{ℕ, suc, ◌+◌, ◌*◌, ◌≤◌, ◌<◌}
use mathlib.Core.Path.{◌≡◌, refl, sym, ap, ◌∙◌}
use mathlib.Core.List.{List, [], ◌∷◌}
use lib.ListN.{length, get_or, drop, length-append}
use lib.Seq.{sets}
use borrow.Author.Tests.{lt-ltb, le-ltb}
use native.Mathlib.Omega.{arith}
use Rattle.std.specs.Prelude.{Ok, Err, sum_by}
use Rattle.std.proofs.lemmas.List.Sums.{sum_by-cons}
use Rattle.meaning.specs.Layout.{four}
use Rattle.meaning.specs.declared.Refusal.{Refusal}
use Rattle.meaning.specs.declared.Refusal.TheVariants as refusal
use Rattle.meaning.specs.Calls.{Outcome, gave, refuse, over}
use Rattle.meaning.specs.Answers.{refusal_says}
use Rattle.meaning.specs.Text.{decimal, line_of, page_lines, text_of, page_key, policy_key, capacity_key, first_key, second_key, count_key, wrote}
use Rattle.trace_text.specs.Promises.{WrittenAs}
use Rattle.text_lines.proofs.Lines.{turn}
use Rattle.text_lines.proofs.Writing.{Put, put_step, sets_front, line_length, decimal_short}

-- ── Lengths ──

-- The length of a page line.
page_length : (p : ℕ) → length (line_of page_key p) ≡ 6 + length (decimal p)
page_length p = omega (arith, line_length page_key p)

-- The length of the page lines, page by page.
pub pages_length : (ps : List ℕ) → length (page_lines ps) ≡ sum_by (λ p. 6 + length (decimal p)) ps
pages_length [] = refl
pages_length (p ∷ ps) = simp (length-append, page_length p, pages_length ps, sum_by-cons)

-- Page lines of words are at most 16 bytes long, each.
pub pages_bound : (ps : List ℕ) → ((i : ℕ) → get_or ps i 0 ≤ 4294967295) → length (page_lines ps) ≤ length ps * 16
pages_bound [] w = omega arith
pages_bound (p ∷ ps) w = simp length-append (omega (arith, page_length p, decimal_short p (w 0), pages_bound ps (λ i. w (suc i))))

-- The length of a text.
pub text_length : (p c f g : ℕ) (ps : List ℕ) → length (text_of p c f g ps)
    ≡ length (line_of policy_key p) + (length (line_of capacity_key c) + (length (line_of first_key f) + (length (line_of second_key g) + (length (line_of count_key (length ps)) + length (page_lines ps)))))
unfolding text_of
text_length p c f g ps = simp length-append

-- ── What the writer's functions leave ──

-- A turn of the loop that writes the page lines.
pub pages_put : (l : List ℕ) (at : ℕ) (ps : List ℕ) (i : ℕ) {l₁ : List ℕ} {r : ℕ} → i < length ps
    → Put l at (line_of page_key (get_or ps i 0)) l₁ r
    → (sets l at (page_lines (drop i ps)) ≡ sets l₁ r (page_lines (drop (i + 1) ps))) × (r + length (page_lines (drop (i + 1) ps)) ≡ at + length (page_lines (drop i ps)))
pages_put l at ps i h e =
    let n : length (page_lines (drop i ps)) ≡ length (line_of page_key (get_or ps i 0)) + length (page_lines (drop (i + 1) ps)) = simp (turn ps i h, length-append) in
    (rw (turn ps i h) (put_step l at (line_of page_key (get_or ps i 0)) (page_lines (drop (i + 1) ps)) e), omega (arith, e.1))

-- Five lines and the page lines are the text.
pub text_put : (l : List ℕ) (p c f g : ℕ) (ps : List ℕ) {l₁ l₂ l₃ l₄ l₅ l₆ : List ℕ} {r₁ r₂ r₃ r₄ r₅ : ℕ}
    → Put l 0 (line_of policy_key p) l₁ r₁ → Put l₁ r₁ (line_of capacity_key c) l₂ r₂ → Put l₂ r₂ (line_of first_key f) l₃ r₃ → Put l₃ r₃ (line_of second_key g) l₄ r₄ → Put l₄ r₄ (line_of count_key (length ps)) l₅ r₅
    → l₆ ≡ sets l₅ r₅ (page_lines ps) → l₆ ≡ sets l 0 (text_of p c f g ps)
unfolding text_of
text_put l p c f g ps {l₁} {l₂} {l₃} {l₄} {l₅} {l₆} {r₁} {r₂} {r₃} {r₄} e₁ e₂ e₃ e₄ e₅ e₆ =
    e₆
    ∙ sym (put_step l 0 (line_of policy_key p) _ e₁
    ∙ put_step l₁ r₁ (line_of capacity_key c) _ e₂
    ∙ put_step l₂ r₂ (line_of first_key f) _ e₃
    ∙ put_step l₃ r₃ (line_of second_key g) _ e₄
    ∙ put_step l₄ r₄ (line_of count_key (length ps)) (page_lines ps) e₅)

-- ── The promise by what the code tests, in its order ──

module _ (p c f g : ℕ) (trace out : List ℕ) where
  refuses : {r : Refusal} → wrote p c f g trace out ≡ refuse (refusal_says r) out → WrittenAs (four p c f g) trace out (Err r) out
  unfolding refuse
  refuses e = record { answer = ap (λ (o : Outcome ℕ (List ℕ)). o.said) (sym e); memory = ap (λ (o : Outcome ℕ (List ℕ)). o.left) (sym e) }

  -- A trace that is too long is refused.
  pub refuses_many : 65535 < length trace → WrittenAs (four p c f g) trace out (Err refusal.TooLong) out
  unfolding wrote refuse
  refuses_many h = refuses (simp (lt-ltb 65535 (length trace) h))

  -- A buffer that is too short is refused.
  pub refuses_short : {n : ℕ} → length trace ≤ 65535 → n ≡ length (text_of p c f g trace) → length out < n → WrittenAs (four p c f g) trace out (Err refusal.TooShort) out
  unfolding wrote refuse
  refuses_short h q k = refuses (simp (le-ltb 65535 (length trace) h, lt-ltb (length out) (length (text_of p c f g trace)) (omega arith)))

  -- Any other text is written.
  pub sends : {n : ℕ} {after : List ℕ} → length trace ≤ 65535 → n ≡ length (text_of p c f g trace) → n ≤ length out → after ≡ sets out 0 (text_of p c f g trace)
      → WrittenAs (four p c f g) trace out (Ok n) after
  unfolding wrote
  sends h q k e =
      let r : wrote p c f g trace out ≡ record { said = gave (length (text_of p c f g trace)); left = over (text_of p c f g trace) out }
      = simp (le-ltb 65535 (length trace) h, le-ltb (length out) (length (text_of p c f g trace)) (omega arith)) in
      record {
        answer = ap gave q ∙ ap (λ (o : Outcome ℕ (List ℕ)). o.said) (sym r);
        memory = e ∙ sets_front out (text_of p c f g trace) (omega arith) ∙ ap (λ (o : Outcome ℕ (List ℕ)). o.left) (sym r);
      }
