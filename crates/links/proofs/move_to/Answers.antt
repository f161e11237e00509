use Rattle.meaning.specs.Mem.{move_to}
use Rattle.links.proofs.Linking.{front_within}
use Rattle.cells.proofs.Composed.{ready_then, turns_then}
use borrow.Author.Rules.{rules}
use Rattle.links.proofs.move_to.Goals as goal

pub set_slot-requires : goal.set_slot-requires
set_slot-requires c = search (ready_then, front_within, rules)

pub returns : goal.returns
unfolding move_to
returns c = search (turns_then, front_within, rules)
