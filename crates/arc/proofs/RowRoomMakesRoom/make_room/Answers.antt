use Rattle.arc.proofs.OfArc.{row_third, row_replaces, row_replaced, row_first, row_out}
use borrow.Author.Rules.{rules}
use Rattle.arc.proofs.RowRoomMakesRoom.make_room.Goals as goal

pub remove_back-requires-clause-ready : goal.remove_back-requires-clause-ready
remove_back-requires-clause-ready c = search (row_third, rules)

pub make_room-requires : goal.make_room-requires
make_room-requires c = search (row_replaces, rules)

pub returns-then-t1-c : goal.returns-then-t1-c
returns-then-t1-c c = search (row_replaced, rules)

pub put_out_back-requires-clause-ready : goal.put_out_back-requires-clause-ready
put_out_back-requires-clause-ready c = search (row_first, rules)

pub returns : goal.returns
returns c = search (row_out, rules)
