-- The program's steps, from the promises of the calls that it makes.
use Prim.Native.Nat.{ℕ, ◌≤◌}
use mathlib.Core.Path.{◌≡◌, refl, sym, ap, ◌∙◌}
use mathlib.Core.Bool.{Bool, true, false}
use mathlib.Core.List.{List}
use native.Mathlib.Omega.{arith}
use lib.Dec.{eqb}
use borrow.Author.Tests.{eqb-true}
use lib.ListN.{length, take, drop, replicate, length-replicate, length-append}
use lib.Seq.{length-take-le}
use lib.Pow.{pow_mono}
use Rattle.std.specs.Prelude.{Result, Ok, Err}
use Rattle.meaning.specs.declared.Accepted.{Accepted}
use Rattle.meaning.specs.declared.Counts.{Counts as Counted}
use Rattle.meaning.specs.declared.Refusal.{Refusal}
use Rattle.meaning.specs.Layout.{Settings, entries_of, bits_of, length_for, length_of, settings_refusal}
use Rattle.meaning.specs.Calls.{plain, Said, refused, gave, refuse, refusal_of, formed as form, words_for, over}
use Rattle.meaning.specs.Text.{Contents, read_text, on_text, read}
use Rattle.meaning.specs.Program.{ended, finished, onward, replay_in, form_in, play_in, program_room, programmed}
use Rattle.meaning.specs.Answers.{asked, refusal_says, replay_says, form_says, length_says}
use Rattle.invariants.proofs.Accepted.{few_entries}
use Rattle.meaning.proofs.Injective.{not_given}
use Rattle.invariants.proofs.Fresh.{bits_small}
use Rattle.form_look_report.specs.Forms.{FormedAs, LongAs}
use Rattle.replay.specs.Replays.{ReplayedAs}
use Rattle.trace_text.specs.Promises.{ReadAs}
use Rattle.trace_text.proofs.OfCalls.{Taken, taken, over_front}

-- ── Replay ──

-- What a replay says is what the program says.
pub after_replay : {ws pages ws' : List ℕ} {r : Result Counted Refusal} → ReplayedAs ws pages r ws' → onward (replay_says r) finished ≡ replay_in ws pages
unfolding replay_in
after_replay x = ap (λ (z : Said _). onward z finished) x.answer

-- ── Form ──

module _ (s : Settings) (ws pages : List ℕ) {ws' : List ℕ} where
  -- what follows form
  after : {r : Result (Unit {0}) Refusal} → FormedAs s ws r ws' → onward (form_says r) (λ u. replay_in (form s ws).left pages) ≡ form_in s ws pages
  unfolding form_in
  after x = ap (λ (z : Said (Unit {0})). onward z (λ u. replay_in (form s ws).left pages)) x.answer

  -- The directory is formed, and the replay in it follows.
  pub after_form : {u : Unit {0}} → FormedAs s ws (Ok u) ws' → replay_in ws' pages ≡ form_in s ws pages
  after_form x = ap (λ (w : List ℕ). replay_in w pages) x.memory ∙ after x

  -- Form refused.
  pub form_ends : {q : Refusal} → FormedAs s ws (Err q) ws' → ended (refusal_says q) ≡ form_in s ws pages
  form_ends x = after x

-- The words lent to form matter only by their number.
form_any : (s : Settings) (ws ws₂ pages : List ℕ) → length ws ≡ length ws₂ → form_in s ws pages ≡ form_in s ws₂ pages
unfolding form_in form refuse
form_any s ws ws₂ pages e = go (eqb (refusal_of s) 0) refl (eqb (length ws₂) (length_of s)) refl
  where
    go : (a : Bool) → eqb (refusal_of s) 0 ≡ a → (b : Bool) → eqb (length ws₂) (length_of s) ≡ b → form_in s ws pages ≡ form_in s ws₂ pages
    go false p b q = simp p
    go true p true q = simp (p, e, q)
    go true p false q = simp (p, e, q)

-- ── The length ──

-- Accepted settings ask for at most 9,232 words.
most_words : (s : Settings) → settings_refusal s.policy s.C s.first s.second ≡ 0 → length_of s ≤ 9232
unfolding length_of length_for bits_of
most_words s z = omega (arith, few_entries s.policy s.C s.first s.second z, pow_mono (bits_small 10 0 (entries_of s.policy s.C s.second)))

module _ (s : Settings) where
  -- what follows the length
  then : (pages : List ℕ) {r : Result ℕ Refusal} → LongAs s r → onward (length_says r) (λ n. form_in s (replicate n 0) pages) ≡ play_in s pages
  unfolding play_in
  then pages x = ap (λ (z : Said ℕ). onward z (λ n. form_in s (replicate n 0) pages)) x.answer

  -- The length is given, and forming and replaying in so many words follows.
  pub after_length : (pages ws : List ℕ) {n : ℕ} → LongAs s (Ok n) → n ≡ length ws → form_in s ws pages ≡ play_in s pages
  after_length pages ws {n} x h = form_any s ws (replicate n 0) pages (sym h ∙ sym (length-replicate n 0)) ∙ then pages x

  -- The settings are refused.
  pub length_ends : (pages : List ℕ) {q : Refusal} → LongAs s (Err q) → ended (refusal_says q) ≡ play_in s pages
  length_ends pages x = then pages x

  -- No directory is longer than 9,232 words.
  pub long_enough : {n : ℕ} → LongAs s (Ok n) → n ≤ 9232
  unfolding words_for refusal_of
  long_enough {n} x = go (eqb (settings_refusal s.policy s.C s.first s.second) 0) refl
    where
      go : (a : Bool) → eqb (settings_refusal s.policy s.C s.first s.second) 0 ≡ a → n ≤ 9232
      go false h = absurd (not_given {r = plain (settings_refusal s.policy s.C s.first s.second)} (sym (x.answer ∙ simp h)))
      go true h =
          let q : ◌≡◌ {A = Said ℕ} (gave n) (gave (length_of s)) = x.answer ∙ simp h in
          let k : n ≡ length_of s = cc q in
          omega (arith, k, most_words s (eqb-true _ 0 h))

-- As many words go on as were asked for, of those lent.
pub exact : (ws : List ℕ) {n : ℕ} → n ≤ 9232 → 9232 ≤ length ws → n ≡ length (take n ws)
exact ws {n} h k = sym (length-take-le n ws (omega arith))

-- ── Read ──

module _ (text before after : List ℕ) (room : length before ≡ program_room) where
  -- what follows the text
  then_text : {a : Said Contents} → read_text text (length before) ≡ a → onward a (λ t. play_in t.settings t.pages) ≡ programmed text
  unfolding programmed
  then_text e = ap (λ (a : Said Contents). onward a (λ t. play_in t.settings t.pages)) (sym e ∙ ap (read_text text) room)

  module _ {a : Accepted} (x : ReadAs text before (Ok a) after) where
    found : Taken a.settings.policy a.settings.capacity a.settings.first a.settings.second a.count (read_text text (length before))
    unfolding read
    found = taken _ before x.answer

    left : after ≡ over found.pages before
    unfolding read
    left = x.memory ∙ ap (λ (R : Said Contents). (on_text R before).left) found.is

    -- The pages stand in the buffer.
    pub stored : a.count ≤ length after
    unfolding over
    stored = omega (arith, found.many, ap length left, length-append found.pages (drop (length found.pages) before))

    -- The text is accepted, and what its pages make follows.
    pub after_read : play_in (asked a.settings) (take a.count after) ≡ programmed text
    after_read =
        ap (play_in (asked a.settings)) (ap (λ (k : ℕ). take k after) found.many ∙ ap (take (length found.pages)) left ∙ over_front found.pages before)
        ∙ then_text found.is

  -- The text is refused.
  pub read_ends : {q : Refusal} → ReadAs text before (Err q) after → ended (refusal_says q) ≡ programmed text
  unfolding read refuse
  read_ends {q} x = refused_as (read_text text (length before)) refl x.answer
    where
      refused_as : (R : Said Contents) → read_text text (length before) ≡ R → refused (refusal_says q) ≡ (on_text R before).said → ended (refusal_says q) ≡ programmed text
      refused_as (refused k) d y = let z : refusal_says q ≡ k = cc y in ap ended z ∙ then_text d
      refused_as (gave t) d y = absurd (not_given y)
