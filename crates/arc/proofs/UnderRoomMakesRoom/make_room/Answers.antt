use Rattle.arc.proofs.OfArc.{under_ready, under_swap, under_none}
use borrow.Author.Rules.{rules}
use Rattle.arc.proofs.UnderRoomMakesRoom.make_room.Goals as goal

pub make_room-requires : goal.make_room-requires
make_room-requires c = search (under_ready, rules)

pub returns-then-swaps : goal.returns-then-swaps
returns-then-swaps c = search (under_swap, rules)

pub returns : goal.returns
returns c = search (under_none, rules)
