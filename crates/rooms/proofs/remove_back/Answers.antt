use Rattle.rooms.proofs.Backs.{back_kept, back_gone_lem}
use borrow.Author.Rules.{rules}
use Rattle.rooms.proofs.remove_back.Goals as goal

pub remove-requires : goal.remove-requires
remove-requires c = search (back_kept, rules)

pub returns : goal.returns
returns c = search (back_gone_lem, rules)
