use Rattle.rooms.proofs.Rooming.{serves_front}
use borrow.Author.Rules.{rules}
use Rattle.rooms.proofs.hit_front.Goals as goal

pub returns : goal.returns
returns c = search (serves_front, rules)
