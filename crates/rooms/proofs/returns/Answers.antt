use Rattle.rooms.proofs.Rooming.{serves_return}
use borrow.Author.Rules.{rules}
use Rattle.rooms.proofs.returns.Goals as goal

pub returns : goal.returns
returns c = search (serves_return, rules)
