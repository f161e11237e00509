use Rattle.arc.proofs.OfArc.{replace_first, replaced_first, replace_second, replaced_second}
use borrow.Author.Rules.{rules}
use Rattle.arc.proofs.ReplaceMakesRoom.make_room.Goals as goal

pub put_out_back-requires-clause-ready : goal.put_out_back-requires-clause-ready
put_out_back-requires-clause-ready c = search (replace_first, rules)

pub returns-then-from_t1 : goal.returns-then-from_t1
returns-then-from_t1 c = search (replaced_first, rules)

pub put_out_back-requires-2-clause-ready : goal.put_out_back-requires-2-clause-ready
put_out_back-requires-2-clause-ready c = search (replace_second, rules)

pub returns : goal.returns
returns c = search (replaced_second, rules)
