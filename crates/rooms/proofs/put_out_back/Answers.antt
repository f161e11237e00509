use Rattle.rooms.proofs.Backs.{back_kept, back_out_lem}
use borrow.Author.Rules.{rules}
use Rattle.rooms.proofs.put_out_back.Goals as goal

pub put_out-requires-clause-ready : goal.put_out-requires-clause-ready
put_out-requires-clause-ready c = search (back_kept, rules)

pub returns : goal.returns
returns c = search (back_out_lem, rules)
