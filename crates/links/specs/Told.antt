-- What the functions that copy a list ask and answer.
use Rattle.std.specs.Prelude.{ℕ, ◌≤◌, ◌≡◌, List, map}
use Rattle.meaning.specs.Mem.{Mem, size}
use Rattle.meaning.specs.Calls.{over}

-- L is list j, front first
pub record Lists (j : ℕ) (L : List ℕ) (m : Mem) : Type 0 where
  pub is : L ≡ m.order j

-- a list's pages fit into n words
pub record Shorter (j n : ℕ) (m : Mem) : Type 0 where
  pub fits : size m j ≤ n

-- result' is result with the pages of list j over its front
pub record Copied (j : ℕ) (result result' : List ℕ) (m : Mem) : Type 0 where
  pub is : result' ≡ over (map m.pages (m.order j)) result
