-- What `step`, `request` and `slot_for` promise.
use Rattle.std.specs.Prelude.{ℕ, ◌≡◌, true, List, Result}
use Rattle.meaning.specs.declared.Answer.{Answer}
use Rattle.meaning.specs.declared.Refusal.{Refusal}
use Rattle.meaning.specs.Mem.{decode}
use Rattle.meaning.specs.Policies.{request}
use Rattle.meaning.specs.Rules.{sound}
use Rattle.meaning.specs.Calls.{gave, answered, requested, slot_for}
use Rattle.meaning.specs.Answers.{reply_of, request_says, slot_says}

-- A request on a sound directory: its answer, which is no refusal; every word afterwards; and that they are a sound directory again.
pub record Stepped (ws : List ℕ) (page : ℕ) (r : Answer) (ws' : List ℕ) : Type 0 where
  pub said : gave (reply_of r) ≡ (answered ws page).said
  pub left : ws' ≡ (answered ws page).left
  pub given : reply_of r ≡ (request (decode ws) page).reply
  pub keeps : sound ws' ≡ true

-- A request on any words: its answer, refusals too, and every word afterwards.
pub record Requested (ws : List ℕ) (page : ℕ) (r : Result Answer Refusal) (ws' : List ℕ) : Type 0 where
  pub answer : request_says r ≡ (requested ws page).said
  pub memory : ws' ≡ (requested ws page).left

-- The slot of a request: its answer, refusals too, and every word afterwards.
pub record SlotGiven (ws : List ℕ) (page : ℕ) (r : Result ℕ Refusal) (ws' : List ℕ) : Type 0 where
  pub answer : slot_says r ≡ (slot_for ws page).said
  pub memory : ws' ≡ (slot_for ws page).left
