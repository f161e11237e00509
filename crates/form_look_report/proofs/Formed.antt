-- The answers of `form` and `words_for`.
use Prim.Native.Nat.{ℕ, ◌≤◌}
use mathlib.Core.Path.{◌≡◌, refl, sym, ap, ◌∙◌}
use mathlib.Core.Bool.{Bool, true, false, not}
use mathlib.Core.List.{List}
use lib.Dec.{eqb}
use lib.ListN.{length}
use borrow.Author.Tests.{eq-eqb, ne_eqb}
use Rattle.std.specs.Prelude.{Ok, Err, if◌then◌else◌}
use Rattle.meaning.specs.declared.Refusal.{Refusal as Refusing}
use Rattle.meaning.specs.declared.Refusal.TheVariants.{WrongLength}
use Rattle.meaning.specs.Layout.{Settings, entries_of, bits_of, length_for, length_of}
use Rattle.meaning.specs.Calls.{Refusal, refused, gave, refuse, refusal_of, formed, words_for}
use Rattle.meaning.specs.Answers.{refusal_says}
use Rattle.settings.specs.Policies.{judged}
use Rattle.settings.proofs.Judged.{judged_gave, judged_refused, judged_few}
use Rattle.meaning.proofs.Injective.{not_given}
use Rattle.lists.specs.Written.{Fits, fresh_words}
use Rattle.form_look_report.specs.Forms.{FormedAs, LongAs, entries_for}

module _ (s : Settings) where
  -- What settings are judged to be is what is said of their entries.
  pub counts_refused : {r : Refusal} → refused r ≡ judged s → refused r ≡ entries_for s
  unfolding entries_for
  counts_refused e = let d = judged_refused s e in let t : eqb (refusal_of s) 0 ≡ false = ne_eqb _ 0 d.0 in simp t (ap refused d.1)

  pub counts_gave : {p E : ℕ} → gave p ≡ judged s → E ≡ entries_of s.policy s.C s.second → (gave E ≡ entries_for s) × (E ≤ 1024)
  unfolding entries_for
  counts_gave e g = let z = judged_gave s e in (simp (eq-eqb (refusal_of s) 0 z) (ap gave g), rw g (judged_few s z))

  none : (t : Bool) (r : Refusal) {E : ℕ} (n : ℕ) → gave E ≡ (if not t then refused r else gave n) → (t ≡ true) × (E ≡ n)
  none true r n e = (refl, cc)
  none false r n e = absurd (not_given (sym e))

  some : (t : Bool) {q r : Refusal} (n : ℕ) → refused q ≡ (if not t then refused r else gave n) → (t ≡ false) × (q ≡ r)
  some true n e = absurd (not_given e)
  some false n e = (refl, cc)

  -- The settings are refused.
  module _ {r : Refusing} (e : refused (refusal_says r) ≡ entries_for s) where
    pub form_refuses : (ws : List ℕ) → FormedAs s ws (Err r) ws
    unfolding entries_for formed refuse
    form_refuses ws = let t = some (eqb (refusal_of s) 0) _ e in record { answer = simp t.0 (ap refused t.1); memory = simp t.0 }

    pub length_refuses : LongAs s (Err r)
    unfolding entries_for words_for
    length_refuses = let t = some (eqb (refusal_of s) 0) _ e in record { answer = simp t.0 (ap refused t.1) }

  module _ {E l : ℕ} (e : gave E ≡ entries_for s) (h : l ≡ length_for E) where
    taken : (eqb (refusal_of s) 0 ≡ true) × (E ≡ entries_of s.policy s.C s.second)
    unfolding entries_for
    taken = none (eqb (refusal_of s) 0) _ _ e

    long_is : l ≡ length_of s
    unfolding length_of
    long_is = h ∙ ap length_for taken.1

    -- The length is given.
    pub length_gives : LongAs s (Ok l)
    unfolding words_for
    length_gives = record { answer = simp taken.0 (ap gave long_is) }

    -- The lent words are too few or too many.
    pub form_misfits : (ws : List ℕ) → (length ws ≡ l → ⊥) → FormedAs s ws (Err WrongLength) ws
    unfolding formed refuse
    form_misfits ws y = let t : eqb (length ws) (length_of s) ≡ false = ne_eqb _ _ (λ x. y (x ∙ sym long_is)) in
        record { answer = simp (taken.0, t); memory = simp (taken.0, t) }

    -- The lent words are as many as the settings ask.
    pub form_fits : (ws : List ℕ) {k : ℕ} → length ws ≡ l → k ≡ bits_of E → Fits s E k ws
    unfolding length_for
    form_fits ws y b = record { entries = taken.1; bits = b; size = y ∙ h ∙ rw b }

    -- The fresh directory is written.
    pub form_done : (ws : List ℕ) {ws' : List ℕ} → length ws ≡ l → ws' ≡ fresh_words s → FormedAs s ws (Ok tt) ws'
    unfolding formed
    form_done ws y w = let t : eqb (length ws) (length_of s) ≡ true = eq-eqb _ _ (y ∙ long_is) in
        record { answer = simp (taken.0, t); memory = w ∙ sym (simp (taken.0, t)) }
