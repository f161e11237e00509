use Rattle.meaning.specs.Mem.{blanked}
use Rattle.entries.proofs.Filling.{within_slot}
use Rattle.cells.proofs.Composed.{ready_then, turns_then}
use borrow.Author.Rules.{rules}
use Rattle.entries.proofs.blank_cell.Goals as goal

pub set_mark-requires : goal.set_mark-requires
set_mark-requires c = search (ready_then, within_slot, rules)

pub returns : goal.returns
unfolding blanked
returns c = search (turns_then, within_slot, rules)
