-- What is asked of a directory before a word of an entry is written.
use Rattle.std.specs.Prelude.{ℕ, ◌<◌}
use Rattle.meaning.specs.Mem.{Mem, entry_count}

-- e is an entry
pub record Within (e : ℕ) (m : Mem) : Type 0 where
  pub within : e < entry_count m
