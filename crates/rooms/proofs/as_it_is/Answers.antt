use Rattle.rooms.proofs.Rooming.{frees_none}
use borrow.Author.Rules.{rules}
use Rattle.rooms.proofs.as_it_is.Goals as goal

pub returns : goal.returns
returns c = search (frees_none, rules)
