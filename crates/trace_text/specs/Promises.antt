-- What the contracts of `trace_text` cite besides meaning's `Text` and `Answers`: what an answer of the inner functions says, and the two promises.
use Rattle.std.specs.Prelude.{ℕ, ◌≡◌, ◌≤◌, List, length, Result, Ok, Err}
use Rattle.std.specs.Borrow.{Bor}
use Rattle.std.proofs.lemmas.List.Edits.{sets}
use Rattle.meaning.specs.Layout.{Settings}
use Rattle.meaning.specs.Calls.{refused}
use Rattle.meaning.specs.Text.{head, header, on_head, first_wrong, pages_in, text_of, read, wrote}
use Rattle.meaning.specs.Answers.{refusal_says, read_says, write_says}
use Rattle.meaning.specs.declared.Accepted.{Accepted}
use Rattle.meaning.specs.declared.Refusal.{Refusal}
use Rattle.meaning.specs.declared.Settings.{Settings as Asked}

-- What the lines 1 to 5 say and what stands after them, or the refusal of the first wrong one, whatever room there is.
abbrev pub HeadAs : List ℕ → Result (Accepted × Bor (List ℕ)) Refusal → Type 0
HeadAs text (Ok p) = let h = p.0 in let s = h.settings in header text ≡ head s.policy s.capacity s.first s.second h.count p.1.now
HeadAs text (Err r) = (room : ℕ) → on_head room (header text) ≡ refused (refusal_says r)

-- What reading n page lines, after any lines 1 to 5, leaves: the pages stored, or a refusal that changed no word.
abbrev pub PagesAs : ℕ → List ℕ → List ℕ → Result (Unit {0}) Refusal → List ℕ → Type 0
PagesAs n text before (Ok _) after = (n ≤ 65535) × (n ≤ length before) × (first_wrong n 6 text ≡ 0) × (after ≡ sets before 0 (pages_in n text))
PagesAs n text before (Err r) after = ((p c f g : ℕ) → on_head (length before) (head p c f g n text) ≡ refused (refusal_says r)) × (after ≡ before)

-- What `read` promises: its answer, and the trace buffer afterwards.
pub record ReadAs (text before : List ℕ) (r : Result Accepted Refusal) (after : List ℕ) : Type 0 where
  pub answer : read_says r ≡ (read text before).said
  pub memory : after ≡ (read text before).left

-- The text of settings and a trace.
abbrev pub text_with : Asked → List ℕ → List ℕ
text_with s trace = text_of s.policy s.capacity s.first s.second trace

-- What `write` promises: its answer, and the text buffer afterwards.
pub record WrittenAs (s : Settings) (trace before : List ℕ) (r : Result ℕ Refusal) (after : List ℕ) : Type 0 where
  pub answer : write_says r ≡ (wrote s.policy s.C s.first s.second trace before).said
  pub memory : after ≡ (wrote s.policy s.C s.first s.second trace before).left
