-- No entry so far has the page, and before is the last of them.
use mathlib.Core.Path.{◌≡◌}
use Rattle.meaning.specs.Neighbours.{NONE}
use Rattle.cells.specs.Trail.{Readable}
use Rattle.cells.specs.Steps.{steps}
use Rattle.index.specs.Told.{look_in}
use Rattle.index.proofs.Walks.{page_at}
use Rattle.index.proofs.find.Given as goal

abbrev pub invariant-loop-entry : goal.invariant-loop-entry
invariant-loop-entry l =
    (look_in (page_at l.words) NONE (steps l.initial.entry-iterator) l.page ≡ look_in (page_at l.words) l.before (steps l.entry-iterator) l.page)
    × Readable l.words (steps l.entry-iterator)
