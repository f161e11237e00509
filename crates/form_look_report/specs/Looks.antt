-- What `look` promises.
use Rattle.std.specs.Prelude.{ℕ, ◌≡◌, List, Result}
use Rattle.meaning.specs.declared.Looked.{Looked}
use Rattle.meaning.specs.declared.Refusal.{Refusal}
use Rattle.meaning.specs.Mem.{decode}
use Rattle.meaning.specs.Calls.{sight, looked}
use Rattle.meaning.specs.Answers.{sight_of, look_says}

-- What `seen` promises of a sound directory: what it saw.
pub record SeenAs (ws : List ℕ) (page : ℕ) (r : Looked) : Type 0 where
  pub answer : sight_of r ≡ sight (decode ws) page

-- What `look` promises: its answer.
pub record LookedAs (ws : List ℕ) (page : ℕ) (r : Result Looked Refusal) : Type 0 where
  pub answer : look_says r ≡ looked ws page
