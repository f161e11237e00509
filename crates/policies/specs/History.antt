-- A history of one directory: the public calls made on it, each with its answer and the words that it left.
use Rattle.std.specs.Prelude.{ℕ, ◌≤◌, ◌≡◌, List, [], ◌∷◌, Result}
use Rattle.meaning.specs.declared.Answer.{Answer}
use Rattle.meaning.specs.declared.Refusal.{Refusal}
use Rattle.meaning.specs.Neighbours.{NONE}
use Rattle.meaning.specs.Room.{Reply}
use Rattle.meaning.specs.Calls.{Said, Event, ask}
use Rattle.meaning.specs.Answers.{request_says}
use Rattle.policies.specs.Requests.{Requested}

-- One call: `request` for a page, its answer and the words afterwards.
pub data Call : Type 0 where
  asked : ℕ → Result Answer Refusal → List ℕ → Call

-- The event that a call is, what it said, and the words that it left.
unfoldable pub event_of : Call → Event
event_of (asked p a l) = ask p

unfoldable pub said_by : Call → Said Reply
said_by (asked p a l) = request_says a

unfoldable pub left_by : Call → List ℕ
left_by (asked p a l) = l

-- The call keeps its promise on these words; a page is a word of 32 bits.
unfoldable pub Promised : List ℕ → Call → Type 0
Promised ws (asked p a l) = (p ≤ NONE) × Requested ws p a l

-- From words to words: each call keeps its promise on what the one before left.
unfoldable pub History : List ℕ → List Call → List ℕ → Type 0
History ws [] ws' = ws' ≡ ws
History ws (t ∷ ts) ws' = Promised ws t × History (left_by t) ts ws'

-- What is gathered from what the calls said.
unfoldable pub told : {S : Type 0} → (S → Event → Said Reply → S) → S → List Call → S
told gather s [] = s
told gather s (t ∷ ts) = told gather (gather s (event_of t) (said_by t)) ts
