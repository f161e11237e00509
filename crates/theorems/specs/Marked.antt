-- How many of CLOCK's entries are marked.
use Rattle.std.specs.Prelude.{ℕ, not, eqb}
use Rattle.meaning.specs.Base.{tally}
use Rattle.meaning.specs.Mem.{Mem, capacity_of}

-- The number of entries with a mark.
unfoldable pub marked : Mem → ℕ
marked m = tally (capacity_of m) (λ i. not (eqb (m.marks i) 0))
