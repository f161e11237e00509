-- The words that the inner functions leave.
use Rattle.std.specs.Prelude.{ℕ, List, set}
use Rattle.meaning.specs.Layout.{cell_at, head_at, tail_at, list_col, next_col, previous_col}
use Rattle.invariants.specs.Places.{link_at}

-- p and n joined on list j
abbrev pub joined : List ℕ → ℕ → ℕ → ℕ → List ℕ
joined ws j p n = set (set ws (link_at (head_at j) next_col p) n) (link_at (tail_at j) previous_col n) p

-- the list, the previous and the next of entry e
abbrev pub relinked : List ℕ → ℕ → ℕ → ℕ → ℕ → List ℕ
relinked ws e j p n = set (set (set ws (cell_at e list_col) j) (cell_at e previous_col) p) (cell_at e next_col) n

-- e for the head of list j, in front of h
abbrev pub led : List ℕ → ℕ → ℕ → ℕ → List ℕ
led ws j h e = set (set ws (link_at (tail_at j) previous_col h) e) (head_at j) e
