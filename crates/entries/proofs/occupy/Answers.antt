use Rattle.entries.proofs.Filling.{fresh_bare, fresh_within}
use Rattle.cells.proofs.Composed.{ready_then, turns_then}
use borrow.Author.Rules.{rules}
use Rattle.entries.proofs.occupy.Goals as goal

pub set_slot-requires : goal.set_slot-requires
set_slot-requires c = search (ready_then, fresh_bare, fresh_within, rules)

pub returns : goal.returns
returns c = search (turns_then, fresh_bare, fresh_within, rules)
