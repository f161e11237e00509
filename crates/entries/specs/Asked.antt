-- What the functions that fill an entry or make it free ask of a directory.
use Rattle.std.specs.Prelude.{ℕ, ◌≡◌, true}
use Rattle.meaning.specs.Neighbours.{has}
use Rattle.meaning.specs.Mem.{Mem, home, lowest}
use Rattle.links.specs.Asked.{OnList}
use Rattle.index.specs.Asked.{Bare, Hung}

-- entry e has no page and is on no list, and none has the page p
pub record Fresh (e p : ℕ) (m : Mem) : Type 0 where
  pub bare : Bare e p m
  pub idle : m.lists e ≡ 0

-- there is a free entry, the lowest has no page, and none has the page p
pub record Admits (p : ℕ) (m : Mem) : Type 0 where
  pub fresh : Fresh (lowest m) p m

-- entry e is on a list, and on its page's chain behind a
pub record Placed (e a : ℕ) (m : Mem) : Type 0 where
  pub listed : OnList e m
  pub hung : Hung e a m

-- entry e is on a list, and on its page's chain
pub record Kept (e : ℕ) (m : Mem) : Type 0 where
  pub listed : OnList e m
  pub hung : has (m.chained (home m (m.pages e))) e ≡ true
