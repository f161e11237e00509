use Rattle.two_q.proofs.OfTwoQ.{trim_ready, make_frees}
use borrow.Author.Rules.{rules}
use Rattle.two_q.proofs.NewRoomMakesRoom.make_room.Goals as goal

pub trim-requires : goal.trim-requires
trim-requires c = search (trim_ready, rules)

pub returns : goal.returns
returns c = search (make_frees, rules)
