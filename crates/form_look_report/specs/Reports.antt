-- What `report` promises.
use Rattle.std.specs.Prelude.{ℕ, ◌≡◌, List, Result}
use Rattle.meaning.specs.declared.Refusal.{Refusal}
use Rattle.meaning.specs.Mem.{decode}
use Rattle.meaning.specs.Calls.{pages_on, reported}
use Rattle.meaning.specs.Answers.{report_says}

-- The pages of list j, front first, of the directory that the words stand for.
abbrev pub pages_of : List ℕ → ℕ → List ℕ
pages_of ws j = pages_on (decode ws) j

-- What `report` promises: its answer, and the result buffer afterwards.
pub record ReportedAs (ws : List ℕ) (j : ℕ) (result : List ℕ) (r : Result ℕ Refusal) (result' : List ℕ) : Type 0 where
  pub answer : report_says r ≡ (reported ws j result).said
  pub memory : result' ≡ (reported ws j result).left
