use Rattle.meaning.specs.Mem.{to_front}
use Rattle.links.proofs.Linking.{off_after}
use Rattle.cells.proofs.Composed.{ready_then, turns_then}
use borrow.Author.Rules.{rules}
use Rattle.links.proofs.to_front.Goals as goal

pub push_front-requires-clause-ready : goal.push_front-requires-clause-ready
push_front-requires-clause-ready c = search (ready_then, off_after, rules)

pub returns : goal.returns
unfolding to_front
returns c = search (turns_then, off_after, rules)
