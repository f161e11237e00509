-- What the functions on chains ask of a directory.
use Rattle.std.specs.Prelude.{ℕ, ◌<◌, ◌≡◌, true}
use Rattle.meaning.specs.Neighbours.{NONE, has, before}
use Rattle.meaning.specs.Mem.{Mem, home, entry_count}

-- entry e has no page, and none has the page p
pub record Bare (e p : ℕ) (m : Mem) : Type 0 where
  pub within : e < entry_count m
  pub none : m.pages e ≡ NONE
  pub absent : (i : ℕ) → m.pages i ≡ p → ⊥

-- entry e is on its page's chain, behind a
pub record Hung (e a : ℕ) (m : Mem) : Type 0 where
  pub within : e < entry_count m
  pub on : has (m.chained (home m (m.pages e))) e ≡ true
  pub behind : a ≡ before (m.chained (home m (m.pages e))) e
