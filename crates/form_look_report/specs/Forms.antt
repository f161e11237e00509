-- What `form` and `words_for` promise.
use Rattle.std.specs.Prelude.{ℕ, ◌≡◌, List, Result, eqb, not, if◌then◌else◌}
use Rattle.meaning.specs.declared.Refusal.{Refusal}
use Rattle.meaning.specs.Layout.{Settings, entries_of}
use Rattle.meaning.specs.Calls.{Said, plain, refused, gave, refusal_of, formed, words_for}
use Rattle.meaning.specs.Answers.{form_says, length_says}

-- What is said of settings before any words: their refusal, or how many entries they make.
unfoldable pub entries_for : Settings → Said ℕ
entries_for s = if not (eqb (refusal_of s) 0) then refused (plain (refusal_of s)) else gave (entries_of s.policy s.C s.second)

-- What `form` promises: its answer, and the lent words afterwards.
pub record FormedAs (s : Settings) (ws : List ℕ) (r : Result (Unit {0}) Refusal) (ws' : List ℕ) : Type 0 where
  pub answer : form_says r ≡ (formed s ws).said
  pub memory : ws' ≡ (formed s ws).left

-- What `words_for` promises: its answer.
pub record LongAs (s : Settings) (r : Result ℕ Refusal) : Type 0 where
  pub answer : length_says r ≡ words_for s
