-- The entries that a walk has before it.
use Rattle.std.specs.Prelude.{ℕ, List}
use Rattle.cells.specs.declared.walk.Walk.{Walk}
use Rattle.cells.specs.Trail.{trail}

-- all that are still to come, in order
abbrev pub steps : Walk → List ℕ
steps w = trail w.words.now w.link w.left w.next
