use Rattle.rooms.proofs.Rooming.{full_says}
use borrow.Author.Rules.{rules}
use Rattle.rooms.proofs.full.Goals as goal

pub returns : goal.returns
returns c = search (full_says, rules)
