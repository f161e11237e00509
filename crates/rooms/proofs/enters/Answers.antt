use Rattle.rooms.proofs.Rooming.{serves_enter}
use borrow.Author.Rules.{rules}
use Rattle.rooms.proofs.enters.Goals as goal

pub returns : goal.returns
returns c = search (serves_enter, rules)
