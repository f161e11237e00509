use Rattle.two_q.proofs.OfTwoQ.{plain_none, plain_to, plain_second, plain_out}
use borrow.Author.Rules.{rules}
use Rattle.two_q.proofs.GhostRoomMakesRoom.make_room.Goals as goal

pub returns-then-not-full : goal.returns-then-not-full
returns-then-not-full c = search (plain_none, rules)

pub returns-then-kin-n : goal.returns-then-kin-n
returns-then-kin-n c = search (plain_to, rules)

pub put_out_back-requires-2-clause-ready : goal.put_out_back-requires-2-clause-ready
put_out_back-requires-2-clause-ready c = plain_second c.full.ensures c.word-kin.ensures c.size-n.ensures.says c.if-not-full.false c.if-kin-n.false c.requires

pub returns : goal.returns
returns c = search (plain_out, rules)
