use mathlib.Core.Path.{refl}
use Rattle.rooms.proofs.Rooming.{page_real, frees_out, frees_to}
use borrow.Author.Rules.{rules}
use Rattle.rooms.proofs.put_out.Goals as goal
use Rattle.rooms.proofs.put_out.Goals.{in-Some, in-None}

pub invariant_of-result : goal.invariant_of-result
invariant_of-result c = record { real = page_real c.cell-page.ensures (search rules) c.requires.ready }

pub returns : goal.returns
returns c = elim c.match-ghosts.branch [
  | in-Some w ↦ rw w.words-is (frees_to c.cell-slot.ensures c.cell-page.ensures refl w.in-Some.is w.move_to.ensures)
  | in-None w ↦ rw w.words-is (frees_out c.cell-slot.ensures c.cell-page.ensures refl w.in-None.is w.remove.ensures)
]
