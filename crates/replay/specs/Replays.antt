-- What replay and its inner functions promise.
use Rattle.std.specs.Prelude.{ℕ, ◌+◌, ◌≡◌, List, Result}
use Rattle.meaning.specs.Calls.{Counts, in_turn, replayed}
use Rattle.meaning.specs.Answers.{replay_says}
use Rattle.meaning.specs.declared.Counts.{Counts as Counted}
use Rattle.meaning.specs.declared.Refusal.{Refusal}

-- The requests of a trace in turn: their counts, and the words that they leave.
pub record RanAs (ws trace : List ℕ) (c : Counts) (ws' : List ℕ) : Type 0 where
  pub counts : c ≡ (in_turn ws trace).gathered
  pub memory : ws' ≡ (in_turn ws trace).left

-- What `replay` promises: its answer, and the words afterwards.
pub record ReplayedAs (ws trace : List ℕ) (r : Result Counted Refusal) (ws' : List ℕ) : Type 0 where
  pub answer : replay_says r ≡ (replayed ws trace).said
  pub memory : ws' ≡ (replayed ws trace).left

-- How many answers were counted.
abbrev pub sum : Counts → ℕ
sum c = c.hits + c.loads + c.swaps
