use Rattle.rooms.proofs.Backs.{lru_out, lru_none}
use borrow.Author.Rules.{rules}
use Rattle.rooms.proofs.LruRoomMakesRoom.make_room.Goals as goal

pub returns-then-full : goal.returns-then-full
returns-then-full c = search (lru_out, rules)

pub returns : goal.returns
returns c = search (lru_none, rules)
